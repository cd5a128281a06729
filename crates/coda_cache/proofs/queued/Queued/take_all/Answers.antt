use Rattle.std.proofs.Common.{take, sym, ap, ◌∙◌, subst, add-one}
use Rattle.coda_fid.specs.declared.fid.Fid.{Fid}
use Rattle.coda_walk.specs.Laws.{left}
use Rattle.coda_cache.specs.Indexed.{IsQueued}
use Rattle.coda_cache.proofs.Standing.{more_left}
use Rattle.coda_cache.proofs.queued.Queued.take_all.Goals as goal

abbrev none : Fid
none = record { volume = 0; vnode = 0; uniq = 0 }

pub loop-fid-preserved : goal.loop-fid-preserved
loop-fid-preserved c = λ items q.
    subst (IsQueued c.take_out.new.self) (sym (ap (λ n. left (take n c.args.fids.now) items) (add-one c.loop-fid.fid-index) ∙ more_left items c.args.fids.now c.loop-fid.fid-index none c.loop-fid-test.true))
    (c.take_out.ensures _ (c.loop-fid.invariant items q))
