use Rattle.std.proofs.Common.{not, sym, ap, ◌∙◌}
use Rattle.coda_resolve.specs.Stamps.{has_stamp}
use Rattle.coda_resolve.proofs.Gaps.{none_here}
use Rattle.coda_resolve.proofs.wrapped.first_absent.Goals as goal

pub loop-step-preserved : goal.loop-step-preserved
loop-step-preserved c = c.loop-step.invariant ∙ none_here (λ seq. not (has_stamp c.args.logged.now c.args.origin seq)) c.args.from c.loop-step.step c.args.many c.loop-step-test.true (ap not (sym c.has_stamp.ensures ∙ c.if-not-has_stamp.false))
