use Rattle.std.proofs.Common.{take, sym, ap, ◌∙◌, subst, add-one}
use Rattle.coda_fid.specs.declared.fid.Fid.{Fid}
use Rattle.coda_cache.specs.Indexed.{IsQueued, standing_of, renewed_items}
use Rattle.coda_cache.proofs.Standing.{more_renewed}
use Rattle.coda_cache.proofs.queued.Queued.renew.Goals as goal

abbrev none : Fid
none = record { volume = 0; vnode = 0; uniq = 0 }

pub loop-fid-preserved : goal.loop-fid-preserved
loop-fid-preserved c = λ items q.
    subst (IsQueued c.change.new.self) (sym (ap (λ n. renewed_items (standing_of c.args.contents.now) (take n c.args.fids.now) items) (add-one c.loop-fid.fid-index) ∙ more_renewed (standing_of c.args.contents.now) items c.args.fids.now c.loop-fid.fid-index none c.loop-fid-test.true))
    (c.change.ensures _ (c.loop-fid.invariant items q))
