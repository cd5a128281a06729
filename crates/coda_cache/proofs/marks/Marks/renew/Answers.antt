use Rattle.std.proofs.Common.{take, cond, sym, ap, ◌∙◌, add-one}
use Rattle.coda_fid.specs.declared.fid.Fid.{Fid}
use Rattle.coda_walk.specs.Going.{is_listed}
use Rattle.coda_cache.specs.State.{is_dirty}
use Rattle.coda_cache.proofs.Standing.{marked_same, next_renewed}
use Rattle.coda_cache.proofs.marks.Marks.renew.Goals as goal

abbrev none : Fid
none = record { volume = 0; vnode = 0; uniq = 0 }

pub loop-fid-preserved : goal.loop-fid-preserved
loop-fid-preserved c = λ passes h.
    marked_same c.set_as.new.self _ _
    (λ f. next_renewed (is_dirty c.args.contents.now) c.args.fids.now c.loop-fid.fid-index none c.loop-fid-test.true f (passes f)
    ∙ ap (λ n. cond (is_listed (take n c.args.fids.now) f) (is_dirty c.args.contents.now f) (passes f)) (sym (add-one c.loop-fid.fid-index)))
    (c.set_as.ensures _ (c.loop-fid.invariant passes h))
