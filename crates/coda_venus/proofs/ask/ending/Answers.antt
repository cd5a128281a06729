use Rattle.std.proofs.Common.{sym}
use Rattle.coda_venus.proofs.Endings.{ending_is, ending_none}
use Rattle.coda_venus.proofs.ask.ending.Goals as goal

pub returns-in-Some : goal.returns-in-Some
returns-in-Some c = sym (ending_is c.args.names.now c.in-Some.front.now c.in-Some.last.now c.in-Some.ensures.cases.0)

pub returns-in-None : goal.returns-in-None
returns-in-None c = sym (ending_none c.args.names.now c.in-None.ensures.cases)
