use Rattle.std.proofs.Common.{take, sym, ap, ◌∙◌, add-one}
use Rattle.std.specs.Prelude.{slice_index_or}
use Rattle.coda_fid.specs.declared.fid.Fid.{Fid}
use Rattle.coda_tree.specs.Slots.{altered}
use Rattle.coda_cache.specs.State.{Holds}
use Rattle.coda_cache.specs.Steps.{valid_but_from}
use Rattle.coda_cache.specs.Indexed.{left_by}
use Rattle.coda_cache.proofs.Sourced.{more_left_by}
use Rattle.coda_cache.proofs.holds.HoldTable.leave_all.Goals as goal

abbrev none : Fid
none = record { volume = 0; vnode = 0; uniq = 0 }

pub loop-fid-preserved : goal.loop-fid-preserved
loop-fid-preserved c =
    let f = slice_index_or c.args.fids.now c.loop-fid.fid-index none in
    c.leave_at.ensures ∙ ap (λ (m : Holds). altered m f (valid_but_from c.args.volume c.args.server f)) c.loop-fid.invariant
    ∙ sym (ap (λ n. left_by c.args.volume c.args.server c.args.self.now (take n c.args.fids.now)) (add-one c.loop-fid.fid-index) ∙ more_left_by c.args.volume c.args.server c.args.self.now c.args.fids.now c.loop-fid.fid-index none c.loop-fid-test.true)
