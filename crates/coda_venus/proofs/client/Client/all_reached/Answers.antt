use Rattle.std.proofs.Common.{subst, arith}
use Rattle.coda_venus.specs.Reaching.{Meets}
use Rattle.coda_venus.proofs.Reached.{search_root, search_step, searched}
use Rattle.coda_venus.proofs.client.Client.all_reached.Goals as goal

pub loop-index-init : goal.loop-index-init
loop-index-init c =
    search_root c.args.self.now.cache.nodes c.args.volume c.new-met.result.keys c.meet.new.met.keys c.new-met.ensures.empty (subst (λ root. Meets c.args.self.now.cache.nodes c.new-met.result.keys root c.meet.new.met.keys) c.root.ensures c.in_ok-meet.ensures)

pub loop-index-preserved : goal.loop-index-preserved
loop-index-preserved c = search_step c.args.self.now.cache.nodes c.args.volume c.loop-index.met.keys c.gather_bound.new.met.keys c.loop-index.index c.index-dir.result.now c.loop-index.invariant c.index-dir.ensures c.in_ok-gather_bound.ensures

pub returns : goal.returns
returns c = searched c.args.self.now.cache.nodes c.args.volume c.loop-index.met.keys c.loop-index.index c.loop-index.invariant (let h = c.loop-index-test.false in let g = c.len.ensures.len in omega arith)
