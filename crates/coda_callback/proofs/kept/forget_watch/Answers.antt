use Rattle.std.proofs.Common.{subst, false}
use Rattle.std.specs.BTreeSet.{Updates}
use Rattle.coda_callback.specs.declared.interest.Watch.{Watch}
use Rattle.coda_callback.specs.Kept.{watch_cmp}
use Rattle.coda_callback.proofs.Loops.{watch_lost}
use Rattle.coda_callback.proofs.kept.forget_watch.Goals as goal

pub returns : goal.returns
returns c = watch_lost c.args.watched.now c.remove.new.self c.args.interest (subst (λ (w : Watch). Updates watch_cmp c.args.watched.now c.remove.new.self w false) c.watch.ensures c.remove.ensures.updates)
