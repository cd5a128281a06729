-- What one client did on one volume, with one entry more of some client.
use Rattle.std.proofs.Common.{◌≡◌, ℕ, ◌==◌, cond, List, [], ◌∷◌, ◌++◌, append_assoc, append-nil, refl, sym, ap, ◌∙◌, subst, inl, inr, ◌⊎◌}
use Rattle.std.proofs.lemmas.Bool.{eqb-true, cases_Bool}
use Rattle.std.specs.Prelude.{Option}
use Rattle.coda_fid.specs.declared.fid.Fid.{Fid}
use Rattle.coda_tree.specs.declared.node.Node.{Node}
use Rattle.coda_plain.specs.Deeds.{Deed}
use Rattle.coda_plain.specs.Cell.{ClientEntry, Fetched, Did, Dropping, deed_on, deeds_of}

pub deeds_push : (volume : ℕ) (es : List ClientEntry) (e : ClientEntry) → deeds_of volume (es ++ e ∷ []) ≡ deeds_of volume es ++ deed_on volume e
deeds_push volume [] e = append-nil (deed_on volume e)
deeds_push volume (x ∷ es) e = ap (λ l. deed_on volume x ++ l) (deeds_push volume es e) ∙ sym (append_assoc (deed_on volume x) (deeds_of volume es) (deed_on volume e))

-- a history, or one with the entry more
abbrev pub IsGrown : {E : Type 0} → Type 0 → E → List E → List E → Type 0
IsGrown here entry old new = (new ≡ old) ⊎ (here × (new ≡ old ++ entry ∷ []))

-- what holds of the old, and of it with the entry where it came, holds of the new
pub at_grown : {E : Type 0} (here : Type 0) (entry : E) (old new : List E) (P : List E → Type 0) → IsGrown here entry old new → P old → (here → P (old ++ entry ∷ [])) → P new
at_grown here entry old new P (inl same) p q = subst P (sym same) p
at_grown here entry old new P (inr more) p q = subst P (sym more.1) (q more.0)

pub deeds_grown : (client volume c at : ℕ) (deed : Deed) (old new : List ClientEntry) → IsGrown (c ≡ client) (Did at deed) old new → IsGrown ((c ≡ client) × (volume ≡ at)) deed (deeds_of volume old) (deeds_of volume new)
deeds_grown client volume c at deed old new (inl same) = inl (ap (deeds_of volume) same)
deeds_grown client volume c at deed old new (inr more) =
    let is : deeds_of volume new ≡ deeds_of volume old ++ deed_on volume (Did at deed) = ap (deeds_of volume) more.1 ∙ deeds_push volume old (Did at deed) in
    elim (cases_Bool (volume == at)) [
      | inl e ↦ inr ((more.0, eqb-true volume at e), is ∙ ap (λ b. deeds_of volume old ++ cond b (deed ∷ []) []) e)
      | inr e ↦ inl (is ∙ ap (λ b. deeds_of volume old ++ cond b (deed ∷ []) []) e ∙ append-nil (deeds_of volume old))
    ]

-- a fetch is no deed
pub deeds_fetched : (here : Type 0) (volume : ℕ) (fid : Fid) (parent : Option Fid) (node : Node) (old new : List ClientEntry) → IsGrown here (Fetched fid parent node) old new → deeds_of volume new ≡ deeds_of volume old
deeds_fetched here volume fid parent node old new (inl same) = ap (deeds_of volume) same
deeds_fetched here volume fid parent node old new (inr more) = ap (deeds_of volume) more.1 ∙ deeds_push volume old (Fetched fid parent node) ∙ append-nil (deeds_of volume old)

-- what was dropped at once with an entry changes none of its deeds
pub deeds_beside : (gone : List Fid) (volume : ℕ) (entry : ClientEntry) (old : List ClientEntry) → deeds_of volume (old ++ Dropping gone entry ∷ []) ≡ deeds_of volume (old ++ entry ∷ [])
deeds_beside gone volume entry old = deeds_push volume old (Dropping gone entry) ∙ sym (deeds_push volume old entry)

-- the same history with the entry alone
pub record IsBeside (here : Type 0) (entry : ClientEntry) (old new : List ClientEntry) : Type 0 where
  pub alone : List ClientEntry
  pub grown : IsGrown here entry old alone
  pub same : (volume : ℕ) → deeds_of volume new ≡ deeds_of volume alone

pub beside : (here : Type 0) (gone : List Fid) (entry : ClientEntry) (old new : List ClientEntry) → IsGrown here (Dropping gone entry) old new → IsBeside here entry old new
beside here gone entry old new (inl same) = record { alone = new; grown = inl same; same = λ volume. refl }
beside here gone entry old new (inr more) = record { alone = old ++ entry ∷ []; grown = inr (more.0, refl); same = λ volume. ap (deeds_of volume) more.1 ∙ deeds_beside gone volume entry old }
