use Rattle.std.proofs.Common.{sym, ◌∙◌}
use Rattle.coda_cache.proofs.Parents.{parent_there}
use Rattle.coda_venus.proofs.client.Client.has_below.Goals as goal

pub returns-clause-yes : goal.returns-clause-yes
returns-clause-yes c = λ is. let there = c.has_below.ensures.yes is in (there.0, parent_there c.args.self.now.cache.holds there.0 ∙ there.1)

pub returns-clause-no : goal.returns-clause-no
returns-clause-no c = λ is f at. c.has_below.ensures.no is f (sym (parent_there c.args.self.now.cache.holds f) ∙ at)
