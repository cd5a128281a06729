use Rattle.coda_serving.specs.declared.asking.Showing.TheVariants.{Content, Names}
use Rattle.coda_serving.proofs.Ended.{down_was, no_fault}
use Rattle.coda_serving.proofs.asking.seen_as.Goals as goal

pub returns-in-Content-clause-only_down : goal.returns-in-Content-clause-only_down
returns-in-Content-clause-only_down g c = down_was c.args.venus.now.down Content c.args.venus.now.client.cache.nodes c.args.volume c.args.path.now c.read.result c.read.ensures.seen

pub returns-in-Content-clause-never : goal.returns-in-Content-clause-never
returns-in-Content-clause-never g c = no_fault c.args.venus.now.down Content c.args.venus.now.client.cache.nodes c.args.volume c.args.path.now c.read.result c.read.ensures.seen c.read.ensures.down

pub returns-in-Names-clause-only_down : goal.returns-in-Names-clause-only_down
returns-in-Names-clause-only_down g c = down_was c.args.venus.now.down Names c.args.venus.now.client.cache.nodes c.args.volume c.args.path.now c.list.result c.list.ensures.seen

pub returns-in-Names-clause-never : goal.returns-in-Names-clause-never
returns-in-Names-clause-never g c = no_fault c.args.venus.now.down Names c.args.venus.now.client.cache.nodes c.args.volume c.args.path.now c.list.result c.list.ensures.seen c.list.ensures.down
