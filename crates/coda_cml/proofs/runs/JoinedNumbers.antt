-- Numbers of dropped records, and what is joined, as facts.
use Rattle.std.proofs.Common.{◌≡◌, ℕ, ◌≤◌, ◌<◌, true, ◌&&◌, List, [], ◌∷◌, ◌⊎◌, inl, inr, ⊎_elim, refl, sym, ◌∙◌, subst, leb, ltb}
use Rattle.std.specs.List.{list_any}
use Rattle.std.proofs.lemmas.Bool.{and_parts, and_from, or_cases, or_left, or_right, le-leb, lt-ltb, leb-true, ltb-true, false≢true, false_from_ne_true}
use Rattle.coda_fid.specs.declared.op.Record.{Record}
use Rattle.coda_cancel.specs.Cancel.{add}
use Rattle.coda_cancel.specs.Numbers.{dropped}
use Rattle.coda_cml.specs.Segments.{is_joined, IsCut}

-- a number is among others
abbrev pub In : ℕ → List ℕ → Type 0
In i [] = ⊥
In i (x ∷ xs) = (i ≡ x) ⊎ In i xs

-- some operation of the run, added to the list, drops a record of number i with i ≤ j < n
abbrev pub IsJoined : ℕ → List Record → List Record → Type 0
IsJoined j rs [] = ⊥
IsJoined j rs (o ∷ os) = ((i : ℕ) × In i (dropped rs o) × (i ≤ j) × (j < o.number)) ⊎ IsJoined j (add rs o) os

any_found : (j : ℕ) (xs : List ℕ) → list_any (λ i. leb i j) xs ≡ true → (i : ℕ) × In i xs × (i ≤ j)
any_found j [] h = absurd (false≢true h)
any_found j (x ∷ xs) h = ⊎_elim
    (λ (a : leb x j ≡ true). (x, inl refl, leb-true x j a))
    (λ (b : list_any (λ i. leb i j) xs ≡ true). let m = any_found j xs b in (m.0, inr m.1, m.2))
    (or_cases (leb x j) (list_any (λ i. leb i j) xs) h)

pub any_in : (j i : ℕ) (xs : List ℕ) → In i xs → i ≤ j → list_any (λ i. leb i j) xs ≡ true
any_in j i [] h l = absurd h
any_in j i (x ∷ xs) (inl e) l = or_left (leb x j) (list_any (λ i. leb i j) xs) (le-leb x j (subst (λ y. y ≤ j) e l))
any_in j i (x ∷ xs) (inr h) l = or_right (leb x j) (list_any (λ i. leb i j) xs) (any_in j i xs h l)

pub joined_fact : (j : ℕ) (rs os : List Record) → is_joined j rs os ≡ true → IsJoined j rs os
joined_fact j rs [] h = false≢true h
joined_fact j rs (o ∷ os) h = ⊎_elim
    (λ (a : (ltb j o.number && list_any (λ i. leb i j) (dropped rs o)) ≡ true). let p = and_parts (ltb j o.number) (list_any (λ i. leb i j) (dropped rs o)) a in let m = any_found j (dropped rs o) p.1 in inl (m.0, m.1, m.2, ltb-true j o.number p.0))
    (λ (b : is_joined j (add rs o) os ≡ true). inr (joined_fact j (add rs o) os b))
    (or_cases (ltb j o.number && list_any (λ i. leb i j) (dropped rs o)) (is_joined j (add rs o) os) h)

pub joined_test : (j : ℕ) (rs os : List Record) → IsJoined j rs os → is_joined j rs os ≡ true
joined_test j rs [] h = absurd h
joined_test j rs (o ∷ os) (inl h) = or_left (ltb j o.number && list_any (λ i. leb i j) (dropped rs o)) (is_joined j (add rs o) os) (and_from (ltb j o.number) (list_any (λ i. leb i j) (dropped rs o)) (lt-ltb j o.number h.3) (any_in j h.0 (dropped rs o) h.1 h.2))
joined_test j rs (o ∷ os) (inr h) = or_right (ltb j o.number && list_any (λ i. leb i j) (dropped rs o)) (is_joined j (add rs o) os) (joined_test j (add rs o) os h)

-- where nothing is joined
pub cut_fact : (j : ℕ) (rs os : List Record) → IsCut j rs os → IsJoined j rs os → ⊥
cut_fact j rs os c h = false≢true (sym c ∙ joined_test j rs os h)

pub cut_test : (j : ℕ) (rs os : List Record) → (IsJoined j rs os → ⊥) → IsCut j rs os
cut_test j rs os n = false_from_ne_true (is_joined j rs os) (λ h. n (joined_fact j rs os h))
