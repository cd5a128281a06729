use Rattle.std.proofs.Common.{ap, ◌∙◌}
use Rattle.std.proofs.lemmas.List.{take_all}
use Rattle.coda_resolve.specs.Survey.{marks_among}
use Rattle.coda_resolve.specs.Views.{replicas_of}
use Rattle.coda_resolve.proofs.Marking.{mark_more}
use Rattle.coda_resolve.proofs.marks.marks_among.Goals as goal

pub loop-taken-preserved : goal.loop-taken-preserved
loop-taken-preserved c = mark_more (replicas_of c.args.views.now) c.args.objects.now c.loop-taken.taken-index c.taken-item.result c.loop-taken.marks.items c.in_ok-marks.marks.items c.in_ok-mark.mark c.loop-taken-test.true c.taken-item.is c.loop-taken.invariant c.in_ok-mark.ensures c.in_ok-marks.ensures

pub returns : goal.returns
returns c = c.loop-taken.invariant ∙ ap (marks_among (replicas_of c.args.views.now)) (take_all c.loop-taken.taken-index c.args.objects.now c.loop-taken-test.false)
