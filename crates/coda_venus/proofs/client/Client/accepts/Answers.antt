use Rattle.std.proofs.Common.{sym, ◌∙◌}
use Rattle.coda_venus.specs.Code.{sight}
use Rattle.coda_venus.proofs.Followed.{follows, accepts_yes, accepts_no}
use Rattle.coda_venus.proofs.client.Client.accepts.Goals as goal

pub returns-then-is_made_there-clause-yes : goal.returns-then-is_made_there-clause-yes
returns-then-is_made_there-clause-yes c = accepts_yes (sight c.args.self.now c.args.volume) c.args.volume c.args.op.now c.is_placed.result (c.is_made_there.ensures.yes c.if-is_made_there.true) c.is_placed.ensures.yes

pub returns-then-is_made_there-clause-no : goal.returns-then-is_made_there-clause-no
returns-then-is_made_there-clause-no c = accepts_no (sight c.args.self.now c.args.volume) c.args.volume c.args.op.now c.is_placed.result c.is_placed.ensures.no

pub returns-else-is_made_there-clause-no : goal.returns-else-is_made_there-clause-no
returns-else-is_made_there-clause-no c = λ is. sym c.if-is_made_there.false ∙ c.is_made_there.ensures.no (follows (sight c.args.self.now c.args.volume) c.args.volume c.args.op.now is).0
