use Rattle.coda_callback.specs.Kept.{has}
use Rattle.coda_callback.proofs.Loops.{client_gone}
use Rattle.coda_callback.proofs.kept.forget_watching.Goals as goal

pub returns-clause-promised : goal.returns-clause-promised
returns-clause-promised c = client_gone (has c.args.promised.now) (has c.loop-interest.promised) c.args.client c.loop-interest.invariant.others c.in_default.ensures.none
