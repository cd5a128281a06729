use Rattle.std.proofs.Common.{ap, ◌∙◌, subst}
use Rattle.std.specs.Prelude.{nat_le}
use Rattle.coda_walk.specs.Leaving.{HaveLeft, IsTurn}
use Rattle.coda_walk.proofs.queue.Queue.who_goes.Goals as goal

pub loop-step-init : goal.loop-step-init
loop-step-init c fids items q are = c.begin-leaving.ensures c.args.size fids items q

pub returns-then-branch-clause-fits : goal.returns-then-branch-clause-fits
returns-then-branch-clause-fits c fids items q are =
    let over : HaveLeft c.step.new.leaving c.args.size fids items = subst (λ b. IsTurn b c.args.self.now c.step.new.leaving c.args.size fids items) c.if-branch.true (c.in_ok-step.ensures fids items q are (c.loop-step.invariant fids items q are)) in
    c.fit-fits.ensures ∙ ap (λ n. nat_le n c.args.size) over.rest

pub loop-step-preserved : goal.loop-step-preserved
loop-step-preserved c fids items q are = subst (λ b. IsTurn b c.args.self.now c.step.new.leaving c.args.size fids items) c.if-branch.false (c.in_ok-step.ensures fids items q are (c.loop-step.invariant fids items q are))
