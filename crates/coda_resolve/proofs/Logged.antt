-- A missing update of a directory without a cause stands in a log.
use Rattle.std.proofs.Common.{◌≡◌, ℕ, ◌+◌, ◌-◌, ◌<◌, ◌≤◌, zero, suc, Bool, true, false, cond, List, [], ◌∷◌, ◌++◌, Option, Some, None, refl, sym, ap, ◌∙◌, subst, map, ◌||◌, ◌⊎◌, inl, inr, ⊎_elim, arith}
use Rattle.std.specs.List.{list_any, find, filter, flat_map, range_with_len}
use Rattle.std.proofs.Math.Dec.{eqb}
use Rattle.std.proofs.lemmas.Bool.{true≢false, leb-true, leb-false, eqb-true, eqb-false, cases_order}
use Rattle.coda_vv.specs.Vector.{count}
use Rattle.coda_reslog.specs.declared.change.Held.{Held}
use Rattle.coda_resolve.specs.Copies.{Copies, vector_of}
use Rattle.coda_resolve.specs.Missing.{knows, fewest, most, gaps, servers}
use Rattle.coda_resolve.specs.Placement.{SomeOf, IsIn}
use Rattle.coda_resolve.proofs.Lists.{some_none}

-- ---- lists

module _ {X : Type 0} where
  pub find_passes : (t : X → Bool) (xs : List X) (x : X) → find t xs ≡ None → IsIn x xs → t x ≡ false
  find_passes t [] x e s = absurd s
  find_passes t (y ∷ ys) x e s = go (t y) refl e s (find_passes t ys x)
    where
      go : (b : Bool) → t y ≡ b → cond b (Some y) (find t ys) ≡ None → IsIn x (y ∷ ys) → (find t ys ≡ None → IsIn x ys → t x ≡ false) → t x ≡ false
      go true a e s more = absurd (some_none y e)
      go false a e (inl is) more = subst (λ z. t z ≡ false) is a
      go false a e (inr s) more = more e s

  pub filter_passes : (t : X → Bool) (xs : List X) (x : X) → filter t xs ≡ [] → IsIn x xs → t x ≡ false
  filter_passes t [] x e s = absurd s
  filter_passes t (y ∷ ys) x e s = go (t y) refl e s (filter_passes t ys x)
    where
      go : (b : Bool) → t y ≡ b → cond b (y ∷ filter t ys) (filter t ys) ≡ [] → IsIn x (y ∷ ys) → (filter t ys ≡ [] → IsIn x ys → t x ≡ false) → t x ≡ false
      go true a e s more = absurd cc
      go false a e (inl is) more = subst (λ z. t z ≡ false) is a
      go false a e (inr s) more = more e s

  pub some_append_left : (P : X → Type 0) (xs ys : List X) → SomeOf P xs → SomeOf P (xs ++ ys)
  some_append_left P [] ys s = absurd s
  some_append_left P (x ∷ xs) ys (inl p) = inl p
  some_append_left P (x ∷ xs) ys (inr s) = inr (some_append_left P xs ys s)

  pub some_append_right : (P : X → Type 0) (xs ys : List X) → SomeOf P ys → SomeOf P (xs ++ ys)
  some_append_right P [] ys s = s
  some_append_right P (x ∷ xs) ys s = inr (some_append_right P xs ys s)

  pub in_any : (t : X → Bool) (xs : List X) (x : X) → IsIn x xs → t x ≡ true → list_any t xs ≡ true
  in_any t [] x s e = absurd s
  in_any t (y ∷ ys) x (inl is) e = ap (λ b. b || list_any t ys) (ap t is ∙ e)
  in_any t (y ∷ ys) x (inr s) e = ap (λ b. t y || b) (in_any t ys x s e) ∙ or_true (t y)
    where
      or_true : (b : Bool) → (b || true) ≡ true
      or_true true = refl
      or_true false = refl

  pub any_in : (t : X → Bool) (xs : List X) → list_any t xs ≡ true → (x : X) × (IsIn x xs × (t x ≡ true))
  any_in t [] e = absurd (true≢false (sym e))
  any_in t (y ∷ ys) e = go (t y) refl e (any_in t ys)
    where
      go : (b : Bool) → t y ≡ b → (b || list_any t ys) ≡ true → (list_any t ys ≡ true → (x : X) × (IsIn x ys × (t x ≡ true))) → (x : X) × (IsIn x (y ∷ ys) × (t x ≡ true))
      go true a e more = (y, (inl refl, a))
      go false a e more = let m = more e in (m.0, (inr m.1.0, m.1.1))

  pub in_filter : (t : X → Bool) (xs : List X) (x : X) → IsIn x xs → t x ≡ true → IsIn x (filter t xs)
  in_filter t [] x s e = absurd s
  in_filter t (y ∷ ys) x s e = go (t y) refl s (λ s. in_filter t ys x s e)
    where
      go : (b : Bool) → t y ≡ b → IsIn x (y ∷ ys) → (IsIn x ys → IsIn x (filter t ys)) → IsIn x (cond b (y ∷ filter t ys) (filter t ys))
      go true a (inl is) more = inl is
      go true a (inr s) more = inr (more s)
      go false a (inl is) more = absurd (true≢false (sym e ∙ sym (ap t is) ∙ a))
      go false a (inr s) more = more s

pub in_flat : {X A : Type 0} (f : X → List A) (xs : List X) (x : X) (a : A) → IsIn x xs → IsIn a (f x) → IsIn a (flat_map f xs)
in_flat f [] x a s i = absurd s
in_flat f (y ∷ ys) x a (inl is) i = some_append_left (λ z. z ≡ a) (f y) (flat_map f ys) (subst (λ z. IsIn a (f z)) (sym is) i)
in_flat f (y ∷ ys) x a (inr s) i = some_append_right (λ z. z ≡ a) (f y) (flat_map f ys) (in_flat f ys x a s i)

pub in_map : {X A : Type 0} (f : X → A) (xs : List X) (x : X) → IsIn x xs → IsIn (f x) (map f xs)
in_map f [] x s = absurd s
in_map f (y ∷ ys) x (inl is) = inl (ap f is)
in_map f (y ∷ ys) x (inr s) = inr (in_map f ys x s)

in_range : (n a s : ℕ) → a ≤ s → s < a + n → IsIn s (range_with_len a n)
in_range zero a s low high = absurd (omega arith)
in_range (suc n) a s low high = go (eqb a s) refl (λ k. in_range n (a + 1) s k (omega arith))
  where
    past : (a ≡ s → ⊥) → a + 1 ≤ s
    past ne = ⊎_elim (λ (k : a ≡ s). absurd (ne k)) (λ (k : (a < s) ⊎ (s < a)). ⊎_elim (λ (l : a < s). omega arith) (λ (l : s < a). absurd (omega arith)) k) (cases_order a s)

    go : (b : Bool) → eqb a s ≡ b → (a + 1 ≤ s → IsIn s (range_with_len (a + 1) n)) → IsIn s (a ∷ range_with_len (a + 1) n)
    go true e more = inl (eqb-true a s e)
    go false e more = inr (more (past (eqb-false a s e)))

-- ---- counts

fewest_least : (origin : ℕ) (copies : Copies) (copy : Option Held) → IsIn copy copies → fewest origin copies ≤ count (vector_of copy) origin
fewest_least origin (c ∷ []) copy (inl is) = subst (λ x. count (vector_of c) origin ≤ count (vector_of x) origin) is (omega arith)
fewest_least origin (c ∷ []) copy (inr s) = absurd s
fewest_least origin (c ∷ d ∷ cs) copy (inl is) = subst (λ x. fewest origin (c ∷ d ∷ cs) ≤ count (vector_of x) origin) is (omega arith)
fewest_least origin (c ∷ d ∷ cs) copy (inr s) = let k = fewest_least origin (d ∷ cs) copy s in omega arith
fewest_least origin [] copy s = absurd s

most_greatest : (origin : ℕ) (copies : Copies) (copy : Option Held) → IsIn copy copies → count (vector_of copy) origin ≤ most origin copies
most_greatest origin [] copy s = absurd s
most_greatest origin (c ∷ cs) copy (inl is) = subst (λ x. count (vector_of x) origin ≤ most origin (c ∷ cs)) is (omega arith)
most_greatest origin (c ∷ cs) copy (inr s) = let k = most_greatest origin cs copy s in omega arith

-- ---- the missing update

pub is_gap : (copies : Copies) (a b : Option Held) (origin seq : ℕ) → IsIn a copies → IsIn b copies → 1 ≤ origin → origin ≤ 8 → knows a origin seq ≡ true → knows b origin seq ≡ false → IsIn (origin, seq) (gaps copies)
is_gap copies a b origin seq ina inb low high one other =
    in_flat (λ o. map {B = ℕ × ℕ} (λ s. (o, s)) (range_with_len (fewest o copies + 1) (most o copies - fewest o copies))) servers origin (origin, seq)
    (in_range 8 1 origin low (omega arith))
    (in_map {A = ℕ × ℕ} (λ s. (origin, s)) (range_with_len (fewest origin copies + 1) (most origin copies - fewest origin copies)) seq inside)
  where
    inside : IsIn seq (range_with_len (fewest origin copies + 1) (most origin copies - fewest origin copies))
    inside =
        let x = fewest_least origin copies b inb in
        let y = most_greatest origin copies a ina in
        let p = leb-true seq (count (vector_of a) origin) one in
        let q = leb-false seq (count (vector_of b) origin) other in
        in_range (most origin copies - fewest origin copies) (fewest origin copies + 1) seq (omega arith) (omega arith)
