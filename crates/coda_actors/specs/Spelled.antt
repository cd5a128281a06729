-- Histories whose entries are spelled: their bytes tell them.
use Rattle.std.specs.Prelude.{◌≡◌, ℕ, List, [], ◌∷◌, ◌++◌, map, None}
use Rattle.std.proofs.Common.{refl, sym, ◌∙◌, ap, subst, inr}
use Rattle.std.proofs.lemmas.List.{append-nil}
use Rattle.coda_disk.specs.Told.{Told}
use Rattle.coda_journal.specs.Image.{Reads}
use Rattle.coda_journal.specs.Open.{IsOpen, Stands}
use Rattle.coda_journal.specs.declared.header.Header.{Header}
use Rattle.coda_plain.specs.Histories.{DoFollow}
use Rattle.coda_record.specs.Form.{Format}
use Rattle.coda_record.specs.Spelling.{HasSpelling}
use Rattle.coda_record.specs.Walks.{Agrees}
use Rattle.coda_values.proofs.Laws.{one_spelling}

-- All that a crash may leave of a journal at rest reads as its list.
pub at_rest_stands : (told : Told) (header : Header) (start used area : ℕ) (payloads : List (List ℕ)) → IsOpen told header start used area payloads → Stands told header payloads None
at_rest_stands told header start used area payloads o =
    record { honest = o.honest; whole = o.whole; each = λ c now. inr (subst (λ (l : List ℕ). Reads header l payloads) (sym (o.durable c now)) o.reads) }

module _ {E : Type 0} (f : Format E) (agrees : Agrees f) (may : List E → E → Type 0) (spelled : (past : List E) (entry : E) → may past entry → HasSpelling f entry) where
  heads : (p q : List ℕ) (ps qs : List (List ℕ)) → p ∷ ps ≡ q ∷ qs → (p ≡ q) × (ps ≡ qs)
  heads p q ps qs e = (first, rest)
    where
      first : p ≡ q
      first = cc

      rest : ps ≡ qs
      rest = cc

  -- Two histories with the same bytes are one.
  pub same_history : (past a b : List E) → DoFollow may past a → DoFollow may past b → map (λ entry. (f.piece entry).bytes) a ≡ map (λ entry. (f.piece entry).bytes) b → a ≡ b
  same_history past [] [] x y e = refl
  same_history past [] (entry ∷ b) x y e = (let no : [] ≡ (f.piece entry).bytes ∷ map (λ z. (f.piece z).bytes) b = e in cc)
  same_history past (entry ∷ a) [] x y e = (let no : (f.piece entry).bytes ∷ map (λ z. (f.piece z).bytes) a ≡ [] = e in cc)
  same_history past (p ∷ a) (q ∷ b) x y e =
      let same = heads (f.piece p).bytes (f.piece q).bytes (map (λ z. (f.piece z).bytes) a) (map (λ z. (f.piece z).bytes) b) e in
      let is : p ≡ q = (one_spelling f agrees (f.piece p).bytes (f.piece q).bytes [] p q (refl, spelled past p x.0) (refl, spelled past q y.0) (append-nil (f.piece p).bytes ∙ same.0)).0 in
      ap (λ z. z ∷ a) is ∙ ap (λ l. q ∷ l) (same_history (past ++ q ∷ []) a b (subst (λ z. DoFollow may (past ++ z ∷ []) a) is x.1) y.1 same.1)
