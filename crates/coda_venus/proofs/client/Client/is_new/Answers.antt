use Rattle.std.proofs.Common.{rules}
use Rattle.coda_venus.proofs.Served.{news_alike}
use Rattle.coda_venus.proofs.client.Client.is_new.Goals as goal

pub returns-clause-yes : goal.returns-clause-yes
returns-clause-yes c =
    let made = c.new_under in
    let is = news_alike c.args.self.now c.args.volume c.args.dir c.args.name.now made.result made.ensures in
    search (rules, is)

pub returns-clause-no : goal.returns-clause-no
returns-clause-no c =
    let made = c.new_under in
    let is = news_alike c.args.self.now c.args.volume c.args.dir c.args.name.now made.result made.ensures in
    search (rules, is)
