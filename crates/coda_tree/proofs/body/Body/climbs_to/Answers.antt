use Rattle.std.proofs.Common.{◌+◌, ◌-◌, sym, ◌∙◌, arith}
use Rattle.coda_tree.proofs.Below.{below_step}
use Rattle.coda_tree.specs.Slots.{nodes_in}
use Rattle.coda_tree.proofs.body.Body.climbs_to.Goals as goal

pub loop-step-preserved : goal.loop-step-preserved
loop-step-preserved c =
    sym (below_step (nodes_in c.args.self.now.slots) (c.args.steps - c.loop-step._step) (c.args.steps - (c.loop-step._step + 1)) c.loop-step.at c.args.of c.in-Some.up (sym c.eq.ensures ∙ c.if-eq.false) (sym c.in-Some.ensures) (omega arith)) ∙ c.loop-step.invariant
