use Rattle.coda_venus.proofs.Reached.{among_reached}
use Rattle.coda_venus.proofs.client.Client.reaches.Goals as goal

pub returns : goal.returns
returns c = among_reached c.args.self.now.cache.nodes c.args.volume c.in_ok-met.met.keys c.args.fid c.contains.result c.in_ok-met.ensures c.contains.ensures
