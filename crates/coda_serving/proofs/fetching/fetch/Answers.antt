use Rattle.coda_serving.specs.Fetching.{nodes_offered}
use Rattle.coda_serving.proofs.Absent.{fewer_once}
use Rattle.coda_serving.proofs.fetching.fetch.Goals as goal

pub returns-clause-fewer : goal.returns-clause-fewer
returns-clause-fewer g c =
    fewer_once c.installed.result (nodes_offered c.args.offers) c.args.venus.now.client.cache.nodes c.installed.new.self.client.cache.nodes c.args.fid c.in_ok-node.node c.installed.ensures.held c.in_ok-node.ensures.can
