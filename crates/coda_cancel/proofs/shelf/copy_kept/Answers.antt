use Rattle.std.proofs.Common.{◌≡◌, ◌+◌, ◌++◌, [], ◌∷◌, take, sym, ap, ◌∙◌}
use Rattle.std.proofs.lemmas.List.{append-nil, append_assoc}
use Rattle.coda_cancel.specs.Slots.{kept_in}
use Rattle.coda_cancel.proofs.Places.{kept_in-more}
use Rattle.coda_cancel.proofs.shelf.copy_kept.Goals as goal
use Rattle.coda_cancel.proofs.shelf.copy_kept.Goals.{in-Kept+in_ok-copy+in_ok-push, in_default}

pub loop-slot-preserved : goal.loop-slot-preserved
loop-slot-preserved c =
    let old = c.args.copies.now.items in
    let more : old ++ kept_in (take (c.loop-slot.slot-index + 1) c.args.slots.now) ≡ c.loop-slot.copies.items ++ kept_in (c.slot-item.result ∷ []) =
    ap (λ l. old ++ l) (kept_in-more c.loop-slot.slot-index c.args.slots.now c.slot-item.result c.loop-slot-test.true)
    ∙ sym (append_assoc old (kept_in (take c.loop-slot.slot-index c.args.slots.now)) _) ∙ (λ i. sym c.loop-slot.invariant i ++ kept_in (sym c.slot-item.is i ∷ [])) in
    elim c.match-slot.branch [
      | in-Kept+in_ok-copy+in_ok-push w ↦
          let pushed : c.match-slot.copies.items ≡ c.loop-slot.copies.items ++ w.in_ok-copy.copy ∷ [] = ap (λ v. v.items) w.copies-is ∙ w.in_ok-push.ensures.items in
          let kept : c.loop-slot.copies.items ++ w.in_ok-copy.copy ∷ [] ≡ c.loop-slot.copies.items ++ kept_in (c.slot-item.result ∷ []) =
          ap (λ r. c.loop-slot.copies.items ++ r ∷ []) w.in_ok-copy.ensures ∙ ap (λ s. c.loop-slot.copies.items ++ kept_in (s ∷ [])) (sym w.in-Kept.is) in
          pushed ∙ kept ∙ sym more
      | in_default w ↦
          let same : c.match-slot.copies.items ≡ c.loop-slot.copies.items ++ [] = ap (λ v. v.items) w.copies-is ∙ sym (append-nil c.loop-slot.copies.items) in
          let none : c.loop-slot.copies.items ++ [] ≡ c.loop-slot.copies.items ++ kept_in (c.slot-item.result ∷ []) = ap (λ s. c.loop-slot.copies.items ++ kept_in (s ∷ [])) (sym w.in_default.is) in
          same ∙ none ∙ sym more
    ]
