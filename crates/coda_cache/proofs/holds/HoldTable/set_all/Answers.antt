use Rattle.std.proofs.Common.{cond, take, sym, ap, ◌∙◌, add-one}
use Rattle.std.specs.Prelude.{slice_index_or}
use Rattle.coda_fid.specs.declared.fid.Fid.{Fid}
use Rattle.coda_tree.specs.Slots.{altered}
use Rattle.coda_cache.specs.State.{Holds}
use Rattle.coda_cache.specs.Indexed.{is_of, set_all}
use Rattle.coda_cache.specs.Steps.{set_dirty}
use Rattle.coda_cache.proofs.Pinned.{more_set}
use Rattle.coda_cache.proofs.holds.HoldTable.set_all.Goals as goal

abbrev none : Fid
none = record { volume = 0; vnode = 0; uniq = 0 }

pub loop-fid-preserved : goal.loop-fid-preserved
loop-fid-preserved c =
    let f = slice_index_or c.args.fids.now c.loop-fid.fid-index none in
    c.set_in.ensures ∙ ap (λ (m : Holds). cond (is_of c.args.volume f) (altered m f (set_dirty c.args.dirty)) m) c.loop-fid.invariant
    ∙ sym (ap (λ n. set_all c.args.volume c.args.dirty c.args.self.now (take n c.args.fids.now)) (add-one c.loop-fid.fid-index) ∙ more_set c.args.volume c.args.dirty c.args.self.now c.args.fids.now c.loop-fid.fid-index none c.loop-fid-test.true)
