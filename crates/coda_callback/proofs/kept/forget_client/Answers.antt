use Rattle.coda_callback.specs.Kept.{has}
use Rattle.coda_callback.proofs.Loops.{client_gone}
use Rattle.coda_callback.proofs.kept.forget_client.Goals as goal

pub returns : goal.returns
returns c = client_gone (has c.args.kept.now) (has c.loop-interest.kept) c.args.client c.loop-interest.invariant.others c.in_default.ensures.none
