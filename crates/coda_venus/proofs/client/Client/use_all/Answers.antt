use Rattle.coda_venus.proofs.Used.{used_client}
use Rattle.coda_venus.proofs.client.Client.use_all.Goals as goal

pub returns-clause-client : goal.returns-clause-client
returns-clause-client c = λ s is. used_client s c.args.self.now c.use_in.new.cache c.args.fids.now is c.use_in.ensures
