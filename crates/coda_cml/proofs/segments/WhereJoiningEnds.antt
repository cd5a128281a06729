-- Where joining ends.
use Rattle.std.proofs.Common.{◌≡◌, ℕ, zero, suc, ◌+◌, ◌<◌, Bool, true, false, not, List, [], ◌∷◌, ◌++◌, refl, sym, ap, ◌∙◌, arith, drop, get_or, take, length, add-one, ◌-◌}
use Rattle.std.proofs.lemmas.List.{append-nil}
use Rattle.coda_cml.specs.declared.segment.Segment.{Segment}
use Rattle.coda_cml.specs.Regrouping.{widen_front, rejoined}
use Rattle.coda_cml.specs.Segments.{end_of}

-- a segment alone stays alone
pub rejoined_one : (g : ℕ → Bool) (s : Segment) → rejoined g (s ∷ []) ≡ s ∷ []
rejoined_one g s = go (not (g s.last))
  where
    go : (b : Bool) → widen_front b s [] ≡ s ∷ []
    go true = refl
    go false = refl

last_there : (g : ℕ → Bool) (k : ℕ) (xs : List Segment) → k < length xs → take k xs ++ rejoined g (drop k (take (suc k) xs)) ≡ take (suc k) xs
last_there g k [] h = absurd (omega (arith, h))
last_there g zero (x ∷ xs) h = rejoined_one g x
last_there g (suc k) (x ∷ xs) h = ap (λ l. x ∷ l) (last_there g k xs (omega (arith, h)))

pub joined_to_last : (g : ℕ → Bool) (k : ℕ) (xs rest zs : List Segment) → k < length xs → rest ≡ [] → take k xs ++ rejoined g (drop k (take (k + 1) xs) ++ rest) ≡ zs → take (k + 1) xs ≡ zs
joined_to_last g k xs rest zs h e d =
    sym (ap (λ n. take k xs ++ rejoined g (drop k (take n xs) ++ rest)) (add-one k)
    ∙ ap (λ l. take k xs ++ rejoined g (drop k (take (suc k) xs) ++ l)) e
    ∙ ap (λ l. take k xs ++ rejoined g l) (append-nil (drop k (take (suc k) xs))) ∙ last_there g k xs h ∙ ap (λ n. take n xs) (sym (add-one k))) ∙ d

-- the last segment's end
pub last_end : (xs : List Segment) (d : Segment) → 0 < length xs → (get_or xs (length xs - 1) d).last ≡ end_of xs
last_end [] d h = absurd (omega (arith, h))
last_end (s ∷ []) d h = refl
last_end (s ∷ t ∷ ts) d h =
    let e : suc (suc (length ts)) - 1 ≡ suc (length ts) = omega arith in
    let b : suc (length ts) - 1 ≡ length ts = omega arith in
    ap (λ n. (get_or (s ∷ t ∷ ts) n d).last) e ∙ ap (λ n. (get_or (t ∷ ts) n d).last) (sym b) ∙ last_end (t ∷ ts) d (omega arith)
