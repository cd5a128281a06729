-- Inclusion as an order, and what a comparison tells of it.
use Rattle.std.proofs.Common.{◌≡◌, ℕ, ◌+◌, ◌-◌, ◌<◌, ◌≤◌, zero, suc, Bool, true, false, ◌&&◌, List, [], ◌∷◌, length, slice_index_or, refl, sym, ap, ◌∙◌, arith, ◌⊎◌, inl, inr, ◌↔◌, subst}
use Rattle.std.specs.Prelude.{nat_le}
use Rattle.std.proofs.lemmas.Bool.{leb-true, leb-false, and_parts}
use Rattle.coda_vv.specs.declared.vector.Compare.TheVariants.{Equal, Dominates, Submits, Inconsistent}
use Rattle.coda_vv.specs.Vector.{includes, joined, compared}
use Rattle.coda_vv.specs.Laws.{HasMoreThan, InclusionIsAnOrder, MergingIsTheLeastUpperBound, ComparisonsTellInclusion}
use Rattle.coda_vv.proofs.Sets.{includes_at, at_includes, joined_at, includes_updates}

reflexive : (v : List ℕ) → includes v v ≡ true
reflexive v = at_includes v v refl (λ i. omega arith)

transitive : (v w x : List ℕ) → length v ≡ length w → length w ≡ length x → includes v w ≡ true → includes w x ≡ true → includes v x ≡ true
transitive v w x d e h k =
    at_includes v x (omega arith) (λ i. let first = includes_at v w i d h in let then = includes_at w x i e k in omega arith)

antisymmetric : (v w : List ℕ) → length v ≡ length w → includes v w ≡ true → includes w v ≡ true → v ≡ w
antisymmetric [] [] e h k = refl
antisymmetric [] (y ∷ w) e h k = absurd (omega arith)
antisymmetric (x ∷ v) [] e h k = absurd (omega arith)
antisymmetric (x ∷ v) (y ∷ w) e h k =
    let more = and_parts (nat_le y x) (includes v w) h in
    let less = and_parts (nat_le x y) (includes w v) k in
    let up = leb-true y x more.0 in
    let down = leb-true x y less.0 in
    let same : x ≡ y = omega arith in
    λ j. same j ∷ antisymmetric v w (omega arith) more.1 less.1 j

pub inclusion_is_an_order : InclusionIsAnOrder
inclusion_is_an_order = record { reflexive = reflexive; transitive = transitive; antisymmetric = antisymmetric }

length-joined : (v w : List ℕ) → length v ≡ length w → length (joined v w) ≡ length v
length-joined [] [] e = refl
length-joined [] (y ∷ w) e = absurd (omega arith)
length-joined (x ∷ v) [] e = absurd (omega arith)
length-joined (x ∷ v) (y ∷ w) e = let rest = length-joined v w (omega arith) in omega arith

pub merging_is_the_least_upper_bound : MergingIsTheLeastUpperBound
merging_is_the_least_upper_bound = record {
  first = λ v w e. at_includes (joined v w) v (length-joined v w e) (λ i. let at = joined_at v w i e in omega arith);
  second = λ v w e. at_includes (joined v w) w (length-joined v w e ∙ e) (λ i. let at = joined_at v w i e in omega arith);
  least = λ v w x d e h k. at_includes x (joined v w) (let long = length-joined v w d in omega arith)
      (λ i. let at = joined_at v w i d in let one = includes_at x v i (omega arith) h in let other = includes_at x w i (sym e) k in omega arith);
}

-- ---- which has more
-- what is lacking at the first place or behind it
lacks_in : (x y : ℕ) (rest : Bool) → (nat_le y x && rest) ≡ false → (x < y) ⊎ (rest ≡ false)
lacks_in x y rest h = by (nat_le y x) refl
  where
    by : (b : Bool) → nat_le y x ≡ b → (x < y) ⊎ (rest ≡ false)
    by false is = inl (leb-false y x is)
    by true is = inr (sym (ap (λ b. b && rest) is) ∙ h)

lacks_at : (v w : List ℕ) → length v ≡ length w → includes v w ≡ false → (i : ℕ) × (slice_index_or v i 0 < slice_index_or w i 0)
lacks_at [] w e h = absurd cc
lacks_at (x ∷ v) [] e h = absurd cc
lacks_at (x ∷ v) (y ∷ w) e h =
    elim (lacks_in x y (includes v w) h) [
      | inl here ↦ (zero, here)
      | inr behind ↦ let rest = lacks_at v w (omega arith) behind in (suc rest.0, rest.1)
    ]

more_from : (v w : List ℕ) → length v ≡ length w → includes v w ≡ false → HasMoreThan w v
more_from v w e h =
    let lack = lacks_at v w e h in
    let back : lack.0 + 1 - 1 ≡ lack.0 = omega arith in
    let less = lack.1 in (
      lack.0 + 1,
      slice_index_or w lack.0 0,
      omega arith,
      (omega arith, subst (λ i. slice_index_or w lack.0 0 ≤ slice_index_or w i 0) (sym back) (omega arith)),
      λ has. let n = has.1 in let at : slice_index_or v (lack.0 + 1 - 1) 0 ≡ slice_index_or v lack.0 0 = ap (λ i. slice_index_or v i 0) back in omega arith,
    )

lacking : (v w : List ℕ) → length v ≡ length w → HasMoreThan w v → includes v w ≡ true → ⊥
lacking v w e more h = more.4 ((includes_updates v w e).0 h more.0 more.1 more.2 more.3)

-- ---- a comparison, from whether each includes the other
outcomes : (a b : Bool)
    → ((compared a b ≡ Equal) ↔ ((a ≡ true) × (b ≡ true)))
    × ((compared a b ≡ Dominates) ↔ ((a ≡ true) × (b ≡ false)))
    × ((compared a b ≡ Submits) ↔ ((a ≡ false) × (b ≡ true)))
    × ((compared a b ≡ Inconsistent) ↔ ((a ≡ false) × (b ≡ false)))
outcomes true true = ((λ h. (refl, refl), λ h. refl), (λ h. absurd cc, λ h. let n = h.1 in absurd cc), (λ h. absurd cc, λ h. let n = h.0 in absurd cc), (λ h. absurd cc, λ h. let n = h.0 in absurd cc))
outcomes true false = ((λ h. absurd cc, λ h. let n = h.1 in absurd cc), (λ h. (refl, refl), λ h. refl), (λ h. absurd cc, λ h. let n = h.0 in absurd cc), (λ h. absurd cc, λ h. let n = h.0 in absurd cc))
outcomes false true = ((λ h. absurd cc, λ h. let n = h.0 in absurd cc), (λ h. absurd cc, λ h. let n = h.0 in absurd cc), (λ h. (refl, refl), λ h. refl), (λ h. absurd cc, λ h. let n = h.1 in absurd cc))
outcomes false false = ((λ h. absurd cc, λ h. let n = h.0 in absurd cc), (λ h. absurd cc, λ h. let n = h.0 in absurd cc), (λ h. absurd cc, λ h. let n = h.1 in absurd cc), (λ h. (refl, refl), λ h. refl))

not_included : (v w : List ℕ) → length v ≡ length w → HasMoreThan w v → includes v w ≡ false
not_included v w e more = by (includes v w) refl
  where
    by : (b : Bool) → includes v w ≡ b → b ≡ false
    by false is = refl
    by true is = absurd (lacking v w e more is)

pub comparisons_tell_inclusion : ComparisonsTellInclusion
comparisons_tell_inclusion = record {
  equal = λ v w e. let told = (outcomes (includes v w) (includes w v)).0 in (
    λ h. antisymmetric v w e (told.0 h).0 (told.0 h).1,
    λ same. told.1 (subst (λ x. includes v x ≡ true) same (reflexive v), subst (λ x. includes x v ≡ true) same (reflexive v)),
  );
  dominates = λ v w e. let told = (outcomes (includes v w) (includes w v)).1 in (
    λ h. ((includes_updates v w e).0 (told.0 h).0, more_from w v (sym e) (told.0 h).1),
    λ k. told.1 ((includes_updates v w e).1 k.0, not_included w v (sym e) k.1),
  );
  submits = λ v w e. let told = (outcomes (includes v w) (includes w v)).2 in (
    λ h. ((includes_updates w v (sym e)).0 (told.0 h).1, more_from v w e (told.0 h).0),
    λ k. told.1 (not_included v w e k.1, (includes_updates w v (sym e)).1 k.0),
  );
  inconsistent = λ v w e. let told = (outcomes (includes v w) (includes w v)).3 in (
    λ h. (more_from w v (sym e) (told.0 h).1, more_from v w e (told.0 h).0),
    λ k. told.1 (not_included v w e k.1, not_included w v (sym e) k.0),
  );
}
