use Rattle.std.proofs.Common.{sym, ◌∙◌}
use Rattle.coda_cache.proofs.Parents.{parent_there}
use Rattle.coda_venus.proofs.client.Client.parent.Goals as goal

pub returns : goal.returns
returns c = c.parent.ensures ∙ sym (parent_there c.args.self.now.cache.holds c.args.fid)
