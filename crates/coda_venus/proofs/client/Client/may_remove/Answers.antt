use Rattle.std.proofs.Common.{rules}
use Rattle.coda_venus.proofs.Served.{steps_alike}
use Rattle.coda_venus.proofs.client.Client.may_remove.Goals as goal

pub returns-then-ne-clause-no : goal.returns-then-ne-clause-no
returns-then-ne-clause-no c =
    let is = steps_alike c.args.self.now c.args.dir c.args.name.now c.step.result c.step.ensures in
    search (rules, is)

pub returns-in-File-clause-yes : goal.returns-in-File-clause-yes
returns-in-File-clause-yes c =
    let is = steps_alike c.args.self.now c.args.dir c.args.name.now c.step.result c.step.ensures in
    search (rules, is)

pub returns-in-Link-clause-yes : goal.returns-in-Link-clause-yes
returns-in-Link-clause-yes c =
    let is = steps_alike c.args.self.now c.args.dir c.args.name.now c.step.result c.step.ensures in
    search (rules, is)
