use Rattle.std.proofs.Common.{sym, arith}
use Rattle.std.specs.FinMap as map
use Rattle.coda_venus.proofs.Reached.{gather_none, gather_step, gathered}
use Rattle.coda_venus.proofs.client.Client.gather.Goals as goal

pub loop-index-init : goal.loop-index-init
loop-index-init c = gather_none c.args.self.now.cache.nodes c.args.met.now.keys c.args.entries.now

pub loop-index-preserved : goal.loop-index-preserved
loop-index-preserved c = gather_step c.args.self.now.cache.nodes c.args.met.now.keys c.args.entries.now c.loop-index.index c.loop-index.met.keys c.meet.new.met.keys c.in-Some.field-0-0.now c.in-Some.fid c.loop-index.invariant (sym c.in-Some.ensures.pair) c.in_ok-meet.ensures

pub returns : goal.returns
returns c = gathered c.args.self.now.cache.nodes c.args.met.now.keys c.args.entries.now c.loop-index.index c.loop-index.met.keys c.loop-index.invariant (let h = c.loop-index-test.false in let g = c.len-index-end.ensures in let n = map.len-entries c.args.entries.now in omega arith)
