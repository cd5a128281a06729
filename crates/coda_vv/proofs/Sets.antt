-- Vectors as sets of updates.
use Rattle.std.proofs.Common.{◌≡◌, ℕ, ◌+◌, ◌-◌, ◌<◌, ◌≤◌, zero, suc, true, List, [], ◌∷◌, length, slice_index_or, refl, sym, subst, arith, ◌⊎◌, inl, inr, ⊎_elim, ◌↔◌, ap, ◌∙◌}
use Rattle.std.specs.Prelude.{max, nat_le}
use Rattle.std.proofs.lemmas.Bool.{leb-true, le-leb, and_parts, and_from, cases_order, cases_eq, cases_lt}
use Rattle.std.proofs.lemmas.List.{get_or-set_same, get_or-set_other}
use Rattle.coda_vv.specs.Vector.{count, includes, joined, bumped, IsInVersion}

-- of each place the first has as many or more
pub includes_at : (v w : List ℕ) (i : ℕ) → length v ≡ length w → includes v w ≡ true → slice_index_or w i 0 ≤ slice_index_or v i 0
includes_at [] [] i e h = omega arith
includes_at [] (y ∷ w) i e h = absurd (omega arith)
includes_at (x ∷ v) [] i e h = absurd (omega arith)
includes_at (x ∷ v) (y ∷ w) zero e h = leb-true y x (and_parts (nat_le y x) (includes v w) h).0
includes_at (x ∷ v) (y ∷ w) (suc i) e h = includes_at v w i (omega arith) (and_parts (nat_le y x) (includes v w) h).1

pub at_includes : (v w : List ℕ) → length v ≡ length w → ((i : ℕ) → slice_index_or w i 0 ≤ slice_index_or v i 0) → includes v w ≡ true
at_includes [] w e h = refl
at_includes (x ∷ v) [] e h = refl
at_includes (x ∷ v) (y ∷ w) e h = and_from (nat_le y x) (includes v w) (le-leb y x (h 0)) (at_includes v w (omega arith) (λ i. h (suc i)))

pub includes_updates : (v w : List ℕ) → length v ≡ length w → (includes v w ≡ true) ↔ ((server number : ℕ) → 1 ≤ server → IsInVersion w server number → IsInVersion v server number)
includes_updates v w e = (
  λ h server number one i. let k = includes_at v w (server - 1) e h in (i.0, let n = i.1 in omega arith),
  λ h. at_includes v w e (λ i. from h i (cases_order (slice_index_or w i 0) 0)),
)
  where
    back : (i : ℕ) → i + 1 - 1 ≡ i
    back i = omega arith

    from : ((server number : ℕ) → 1 ≤ server → IsInVersion w server number → IsInVersion v server number) → (i : ℕ) → (slice_index_or w i 0 ≡ 0) ⊎ ((slice_index_or w i 0 < 0) ⊎ (0 < slice_index_or w i 0)) → slice_index_or w i 0 ≤ slice_index_or v i 0
    from h i (inl z) = omega arith
    from h i (inr (inl z)) = omega arith
    from h i (inr (inr p)) =
        let k = (h (i + 1) (slice_index_or w i 0) (omega arith) (p, subst (λ j. slice_index_or w i 0 ≤ slice_index_or w j 0) (sym (back i)) (omega arith))).1 in
        subst (λ j. slice_index_or w i 0 ≤ slice_index_or v j 0) (back i) k

pub joined_at : (v w : List ℕ) (i : ℕ) → length v ≡ length w → slice_index_or (joined v w) i 0 ≡ max (slice_index_or v i 0) (slice_index_or w i 0)
joined_at [] [] i e = omega arith
joined_at [] (y ∷ w) i e = absurd (omega arith)
joined_at (x ∷ v) [] i e = absurd (omega arith)
joined_at (x ∷ v) (y ∷ w) zero e = refl
joined_at (x ∷ v) (y ∷ w) (suc i) e = joined_at v w i (omega arith)

pub joins_updates : (v w : List ℕ) (server number : ℕ) → length v ≡ length w → 1 ≤ server → IsInVersion (joined v w) server number ↔ (IsInVersion v server number ⊎ IsInVersion w server number)
joins_updates v w server number e one =
    let m = joined_at v w (server - 1) e in (
      λ i. let n = i.1 in ⊎_elim (λ (s : number ≤ count v server). inl (i.0, s)) (λ (s : number ≤ count w server). inr (i.0, s)) (split (count v server) (count w server) (count (joined v w) server) m n),
      λ s. ⊎_elim (λ (i : IsInVersion v server number). (i.0, let n = i.1 in omega arith)) (λ (i : IsInVersion w server number). (i.0, let n = i.1 in omega arith)) s,
    )
  where
    split : (a b c : ℕ) → c ≡ max a b → number ≤ c → (number ≤ a) ⊎ (number ≤ b)
    split a b c e s = ⊎_elim (λ (k : a ≡ b). inl (omega arith)) (λ (k : (a < b) ⊎ (b < a)). ⊎_elim (λ (l : a < b). inr (omega arith)) (λ (l : b < a). inl (omega arith)) k) (cases_order a b)

-- one more update of a server
pub bumps : (v : List ℕ) (bumping server number : ℕ) → 1 ≤ bumping → bumping ≤ length v → 1 ≤ server
    → IsInVersion (bumped v bumping) server number ↔ (IsInVersion v server number ⊎ ((server ≡ bumping) × (number ≡ count v bumping + 1)))
bumps v bumping server number one within first =
    elim (cases_eq server bumping) [ inl same ↦ here same | inr other ↦ there other ]
  where
    here : server ≡ bumping → IsInVersion (bumped v bumping) server number ↔ (IsInVersion v server number ⊎ ((server ≡ bumping) × (number ≡ count v bumping + 1)))
    here same =
        let now : count (bumped v bumping) bumping ≡ count v bumping + 1 = get_or-set_same v (bumping - 1) (count v bumping + 1) 0 (omega arith) in
        let at : count (bumped v bumping) server ≡ count v bumping + 1 = ap (count (bumped v bumping)) same ∙ now in
        let old : count v server ≡ count v bumping = ap (count v) same in (
          λ i. ⊎_elim (λ (k : number < count v bumping + 1). inl (i.0, omega arith)) (λ (k : count v bumping + 1 ≤ number). let n = i.1 in inr (same, omega arith)) (cases_lt number (count v bumping + 1)),
          λ s. ⊎_elim (λ (i : IsInVersion v server number). (i.0, let n = i.1 in omega arith)) (λ (k : (server ≡ bumping) × (number ≡ count v bumping + 1)). (let n = k.1 in omega arith, let n = k.1 in omega arith)) s,
        )

    there : (server ≡ bumping → ⊥) → IsInVersion (bumped v bumping) server number ↔ (IsInVersion v server number ⊎ ((server ≡ bumping) × (number ≡ count v bumping + 1)))
    there other =
        let at : count (bumped v bumping) server ≡ count v server = get_or-set_other v (bumping - 1) (server - 1) (count v bumping + 1) 0 (λ e. other (omega arith)) in (
          λ i. inl (i.0, let n = i.1 in omega arith),
          λ s. ⊎_elim (λ (i : IsInVersion v server number). (i.0, let n = i.1 in omega arith)) (λ (k : (server ≡ bumping) × (number ≡ count v bumping + 1)). absurd (other k.0)) s,
        )
