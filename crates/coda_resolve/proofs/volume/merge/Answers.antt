use Rattle.std.proofs.Common.{◌≡◌, ◌∙◌, ap, sym, subst}
use Rattle.std.specs.List.{filter_map}
use Rattle.coda_fid.specs.Fid.{root_of}
use Rattle.coda_resolve.specs.Outcome.{mark_by, taken_up}
use Rattle.coda_resolve.specs.Placement.{AreTreesOfOneKind}
use Rattle.coda_resolve.specs.Resolution.{copies_at, fate_at}
use Rattle.coda_resolve.specs.Survey.{marks_among}
use Rattle.coda_resolve.specs.Views.{replicas_of, volume_of}
use Rattle.coda_resolve.proofs.Merging.{counted}
use Rattle.coda_resolve.proofs.volume.merge.Goals as goal

pub returns-clause-outcome : goal.returns-clause-outcome
returns-clause-outcome c = λ history.
    let replicas = replicas_of c.args.views.now in
    let root = root_of (volume_of c.args.views.now) in
    let is : c.root.result ≡ root_of (volume_of c.args.views.now) = c.root.ensures ∙ ap root_of c.volume_of.ensures in
    let all = c.in_ok-survey.ensures.fids (subst (AreTreesOfOneKind replicas) (sym is) history) ∙ ap (taken_up replicas) is in
    counted replicas root c.in_ok-parts.parts.changes.items c.in_ok-marks.marks.items c.in_ok-parts.parts.touched c.len-touched.result c.len-touched.ensures.ordered c.len-touched.ensures.len
    (c.in_ok-marks.ensures ∙ ap (marks_among replicas) c.deref.ensures.value ∙ c.in_ok-survey.ensures.others.marks ∙ ap (filter_map (λ f. mark_by (copies_at replicas f) f (fate_at replicas f))) all)
    (c.in_ok-parts.ensures.parts root history all)
