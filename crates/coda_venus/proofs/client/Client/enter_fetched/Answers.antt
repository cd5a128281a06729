use Rattle.coda_venus.specs.Code.{IsClient}
use Rattle.coda_venus.proofs.Entered.{on_err}
use Rattle.coda_venus.proofs.client.Client.enter_fetched.Goals as goal

pub returns-in_err-hold-clause-err : goal.returns-in_err-hold-clause-err
returns-in_err-hold-clause-err c = λ s is. on_err c.from_residual.result (IsClient s c.hold.new.self) (c.in_err-hold.ensures.err s is)
