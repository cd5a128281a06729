use Rattle.std.proofs.Common.{take, sym, ap, ◌∙◌, add-one}
use Rattle.std.specs.Prelude.{slice_index_or}
use Rattle.coda_fid.specs.declared.fid.Fid.{Fid}
use Rattle.coda_tree.specs.Slots.{altered}
use Rattle.coda_cache.specs.State.{Holds}
use Rattle.coda_cache.specs.Steps.{made_dirty, all_dirty}
use Rattle.coda_cache.proofs.Pinned.{more_dirty}
use Rattle.coda_cache.proofs.holds.HoldTable.make_all_dirty.Goals as goal

abbrev none : Fid
none = record { volume = 0; vnode = 0; uniq = 0 }

pub loop-fid-preserved : goal.loop-fid-preserved
loop-fid-preserved c =
    let f = slice_index_or c.args.fids.now c.loop-fid.fid-index none in
    c.make_dirty.ensures ∙ ap (λ (m : Holds). altered m f made_dirty) c.loop-fid.invariant
    ∙ sym (ap (λ n. all_dirty c.args.self.now (take n c.args.fids.now)) (add-one c.loop-fid.fid-index) ∙ more_dirty c.args.self.now c.args.fids.now c.loop-fid.fid-index none c.loop-fid-test.true)
