use Rattle.std.proofs.Common.{option_copied, map, ap, subst, ◌∙◌}
use Rattle.coda_resolve.specs.Resolution.{copies_at}
use Rattle.coda_resolve.specs.Settling.{fate}
use Rattle.coda_resolve.specs.Survey.{IsFateOf}
use Rattle.coda_resolve.specs.Views.{replicas_of}
use Rattle.coda_resolve.proofs.Others.{stays_as}
use Rattle.coda_resolve.proofs.fate.look_ahead.Goals as goal

pub returns : goal.returns
returns c =
    let replicas = replicas_of c.args.views.now in
    let is = c.in_ok-fate.ensures ∙ ap (λ cs. fate (map option_copied cs) (copies_at replicas)) c.deref-2.ensures.value ∙ ap (λ cs. fate cs (copies_at replicas)) c.in_ok-copies.ensures in
    (is, λ t. stays_as replicas c.args.fid (map option_copied c.in_ok-copies.copies.items) c.in_ok-fate.fate c.in_ok-copies.ensures is (subst (IsFateOf c.in_ok-fate.fate) (ap (map option_copied) c.deref-3.ensures.value) (c.stays-stays.ensures t)))
