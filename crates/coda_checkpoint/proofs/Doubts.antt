-- What a truncation that failed leaves.
use Rattle.std.proofs.Common.{◌≡◌, ◌⊎◌, inl, inr, ℕ, List, [], ◌∷◌, sym, subst}
use Rattle.coda_disk.specs.Told.{Told}
use Rattle.coda_journal.specs.Header.{IsHeader}
use Rattle.coda_journal.specs.Image.{Reads, ReadsAs, IsForeign}
use Rattle.coda_journal.specs.Open.{IsOpen, IsOurs}
use Rattle.coda_journal.specs.declared.header.Header.{Header}
use Rattle.coda_journal.proofs.Images.{as_not_foreign, as_once}
use Rattle.coda_checkpoint.specs.Truncating.{IsOldOrSnapshot, IsInDoubt}

module _ (header : Header) (image : List ℕ) (ps : List (List ℕ)) (p : List ℕ) (ok : IsHeader header) where
  pub not_foreign : IsOldOrSnapshot header ps p image → (at : ℕ) → ¬ IsForeign header image at
  not_foreign (inl old) at = as_not_foreign header image ok ps at (inr old)
  not_foreign (inr new) at = as_not_foreign header image ok (p ∷ []) at (inr new)

  pub found_either : IsOldOrSnapshot header ps p image → (found : List (List ℕ)) → ReadsAs header found image
      → (found ≡ ps) ⊎ (found ≡ p ∷ [])
  found_either (inl old) found is = inl (as_once header image ok found ps is (inr old))
  found_either (inr new) found is = inr (as_once header image ok found (p ∷ []) is (inr new))

pub at_rest_ours : (told : Told) (header : Header) (start used area : ℕ) (ps : List (List ℕ))
    → IsOpen told header start used area ps → IsOurs header told
at_rest_ours told header start used area ps o c now =
    (ps, inr (subst (λ (l : List ℕ). Reads header l ps) (sym (o.durable c now)) o.reads))

pub doubt_ours : (told : Told) (header : Header) (ps : List (List ℕ)) (p : List ℕ) → IsInDoubt told header ps p
    → IsOurs header told
doubt_ours told header ps p d c now = from (d.each c now)
  where
    from : IsOldOrSnapshot header ps p c → (list : List (List ℕ)) × ReadsAs header list c
    from (inl old) = (ps, inr old)
    from (inr new) = (p ∷ [], inr new)
