use Rattle.coda_letters.proofs.Calls.{lost_so, none_lost}
use Rattle.coda_letters.proofs.losing.lose.Goals as goal

pub returns-in-Ok-clause-lost : goal.returns-in-Ok-clause-lost
returns-in-Ok-clause-lost c = λ waiting are. lost_so waiting c.args.net.now c.lose.new.self c.args.number are c.in-Ok.letter c.in-Ok.ensures.ok c.in-Ok.ensures.gone

pub returns-in-Err-clause-lost : goal.returns-in-Err-clause-lost
returns-in-Err-clause-lost c = λ waiting are. none_lost waiting c.args.net.now c.lose.new.self c.args.number are c.in-Err.ensures.why.1 c.in-Err.ensures.err
