use Rattle.std.proofs.Common.{subst, true}
use Rattle.std.specs.BTreeSet.{Updates}
use Rattle.coda_callback.specs.declared.interest.Watch.{Watch}
use Rattle.coda_callback.specs.Kept.{watch_cmp}
use Rattle.coda_callback.proofs.Loops.{watch_gained}
use Rattle.coda_callback.proofs.kept.put_watch.Goals as goal

pub returns-clause-ok : goal.returns-clause-ok
returns-clause-ok c = watch_gained c.args.watched.now c.insert.new.self c.args.interest (subst (λ (w : Watch). Updates watch_cmp c.args.watched.now c.insert.new.self w true) c.watch.ensures c.in_ok-insert.ensures.updates)
