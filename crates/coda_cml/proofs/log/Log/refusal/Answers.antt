use Rattle.std.proofs.Common.{◌≡◌, None, sym, ap, ◌∙◌}
use Rattle.std.specs.List.{find}
use Rattle.coda_cml.specs.Chunks.{is_filled, too_young}
use Rattle.coda_cml.specs.State.{LogState}
use Rattle.coda_cml.proofs.segments.Fronts.{nothing_left}
use Rattle.coda_cml.proofs.log.Log.refusal.Goals as goal

pub returns-in-None-clause-nothing : goal.returns-in-None-clause-nothing
returns-in-None-clause-nothing c =
    let cause = c.too_young.ensures ∙ ap (λ ss. too_young c.args.now c.args.window (find is_filled ss)) c.deref.ensures.value in
    let left = nothing_left c.args.now c.args.window c.self.inside.segments.items c.self.inside.tail c.self.invariant.parted.parts in
    let frozen : c.args.self.now.frozen ≡ None = ap (λ (log : LogState). log.frozen) (sym c.self.view_is) ∙ c.in-None.is in
    let records : c.self.inside.tail ≡ c.args.self.now.records = ap (λ (log : LogState). log.records) c.self.view_is in
    (λ e. (frozen, sym records ∙ left.0 (sym cause ∙ e)), λ h. cause ∙ left.1 (records ∙ h.1))
