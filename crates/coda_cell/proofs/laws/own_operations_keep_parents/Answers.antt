use Rattle.std.proofs.Common.{sym, subst}
use Rattle.coda_cell.specs.Accepting.{sight_of}
use Rattle.coda_venus.proofs.Accepted.{Relies, accepted_relies}
use Rattle.coda_cell.proofs.AfterOperations.{bound_operation}
use Rattle.coda_cell.proofs.laws.own_operations_keep_parents.Goals as goal

pub returns : goal.returns
returns c = λ client volume ask op rec accepted is bound.
    bound_operation (sight_of client volume) volume client.number rec (subst (Relies (sight_of client volume) volume) (sym is) (accepted_relies (sight_of client volume) volume ask op accepted)) bound
