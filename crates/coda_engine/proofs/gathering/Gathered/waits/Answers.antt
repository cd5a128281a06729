use Rattle.std.proofs.Common.{◌∙◌}
use Rattle.coda_engine.proofs.Forwarding.{waits_tell}
use Rattle.coda_engine.proofs.gathering.Gathered.waits.Goals as goal

pub returns : goal.returns
returns c = waits_tell c.args.self.now.bytes.items c.args.self.now.taken _ (c.len.ensures ∙ c.args.self.now.bytes.ok.0)
