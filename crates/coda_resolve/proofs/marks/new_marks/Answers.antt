use Rattle.std.proofs.Common.{◌∙◌, ap}
use Rattle.coda_resolve.specs.Survey.{marks_among}
use Rattle.coda_resolve.specs.Views.{replicas_of}
use Rattle.coda_resolve.proofs.Marking.{marks_all}
use Rattle.coda_resolve.proofs.marks.new_marks.Goals as goal

pub returns : goal.returns
returns c = λ history.
    let replicas = replicas_of c.args.views.now in
    c.in_ok-marks.ensures
    ∙ ap (marks_among replicas) c.deref.ensures.value
    ∙ marks_all replicas c.args.root c.in_ok-objects.objects.items c.in_ok-objects.ensures.fates (c.in_ok-objects.ensures.fids history)
