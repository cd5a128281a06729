-- Lists of views, of words and of calls, when one seat's view changes.
use Rattle.std.proofs.Common.{◌≡◌, ◌≢◌, ◌⊎◌, inl, inr, ⊎_elim, ℕ, zero, suc, ◌+◌, ◌<◌, ◌≤◌, ◌==◌, ◌||◌, Bool, true, false, cond, List, [], ◌∷◌, ◌++◌, length, set, drop, Some, refl, sym, ap, ◌∙◌, subst, arith, eq-eqb, ne_eqb, length-append, append_assoc}
use Rattle.std.specs.Prelude.{slice_get}
use Rattle.std.specs.List.{sum_by}
use Rattle.std.proofs.lemmas.List.Sums.{sum_by-cons, sum_by-append}
use mathlib.Core.Option.{some, some-ne-none, some-injective}
use mathlib.Core.List.{IsPrefix}
use mathlib.Core.Logic.{dite}
use native.Mathlib.Decide.{ℕ_discrete}
use lib.ListN.{get_elem?}
use Rattle.atomic_table.proofs.Lists.{at_set, at_snoc}
use Rattle.coda_turn.specs.Rule.{Has, times, placed, StandInHistory}
use Rattle.coda_turn.specs.Plays.{stands, unmet}

module _ {A : Type 0} where
  pub at_less : (l : List A) (i : ℕ) (a : A) → get_elem? l i ≡ some a → i < length l
  at_less [] i a e = absurd (some-ne-none a (sym e))
  at_less (x ∷ xs) zero a e = omega arith
  at_less (x ∷ xs) (suc i) a e = let h = at_less xs i a e in omega (arith, h)

  pub sum_set : (f : A → ℕ) (l : List A) (i : ℕ) (a b : A) → get_elem? l i ≡ some a → sum_by f (set l i b) + f a ≡ sum_by f l + f b
  sum_set f [] i a b e = absurd (some-ne-none a (sym e))
  sum_set f (x ∷ xs) zero a b e =
      let same : f x ≡ f a = ap f (some-injective x a e) in
      omega (arith, sum_by-cons f x xs, sum_by-cons f b xs, same)
  sum_set f (x ∷ xs) (suc i) a b e =
      let h = sum_set f xs i a b e in
      omega (arith, sum_by-cons f x xs, sum_by-cons f x (set xs i b), h)

  pub sum_snoc : (f : A → ℕ) (l : List A) (a : A) → sum_by f (l ++ a ∷ []) ≡ sum_by f l + f a
  sum_snoc f l a = let h : sum_by f (l ++ a ∷ []) ≡ sum_by f l + (0 + f a) = sum_by-append f l (a ∷ []) in omega (arith, h)

  -- a term of a sum that is 0
  pub sum_none : (f : A → ℕ) (l : List A) (i : ℕ) (a : A) → sum_by f l ≡ 0 → get_elem? l i ≡ some a → f a ≡ 0
  sum_none f [] i a z e = absurd (some-ne-none a (sym e))
  sum_none f (x ∷ xs) zero a z e =
      let same : f x ≡ f a = ap f (some-injective x a e) in
      omega (arith, sum_by-cons f x xs, same)
  sum_none f (x ∷ xs) (suc i) a z e = sum_none f xs i a (omega (arith, sum_by-cons f x xs)) e

  -- a sum of terms that are 0
  pub sum_zero : (f : A → ℕ) (l : List A) → ((i : ℕ) (a : A) → get_elem? l i ≡ some a → f a ≡ 0) → sum_by f l ≡ 0
  sum_zero f [] h = refl
  sum_zero f (x ∷ xs) h =
      let first = h 0 x refl in
      let others = sum_zero f xs (λ i a e. h (suc i) a e) in
      omega (arith, sum_by-cons f x xs, first, others)

  -- where one term is the whole sum, the others are 0
  pub sum_rest : (f : A → ℕ) (l : List A) (i j : ℕ) (a b : A) → get_elem? l i ≡ some a → get_elem? l j ≡ some b → i ≢ j → f a ≡ sum_by f l → f b ≡ 0
  sum_rest f [] i j a b e e' ne z = absurd (some-ne-none a (sym e))
  sum_rest f (x ∷ xs) zero zero a b e e' ne z = absurd (ne refl)
  sum_rest f (x ∷ xs) zero (suc j) a b e e' ne z =
      let same : f x ≡ f a = ap f (some-injective x a e) in
      sum_none f xs j b (omega (arith, sum_by-cons f x xs, same)) e'
  sum_rest f (x ∷ xs) (suc i) zero a b e e' ne z =
      let same : f x ≡ f b = ap f (some-injective x b e') in
      let most = sum_least f xs i a e in
      omega (arith, sum_by-cons f x xs, same, most)
    where
      sum_least : (f : A → ℕ) (l : List A) (i : ℕ) (a : A) → get_elem? l i ≡ some a → f a ≤ sum_by f l
      sum_least f [] i a e = absurd (some-ne-none a (sym e))
      sum_least f (x ∷ xs) zero a e =
          let same : f x ≡ f a = ap f (some-injective x a e) in
          omega (arith, sum_by-cons f x xs, same)
      sum_least f (x ∷ xs) (suc i) a e = let h = sum_least f xs i a e in omega (arith, sum_by-cons f x xs, h)
  sum_rest f (x ∷ xs) (suc i) (suc j) a b e e' ne z =
      let most = sum_most f xs i a e in
      sum_rest f xs i j a b e e' (λ h. ne (ap suc h)) (omega (arith, sum_by-cons f x xs, most))
    where
      sum_most : (f : A → ℕ) (l : List A) (i : ℕ) (a : A) → get_elem? l i ≡ some a → f a ≤ sum_by f l
      sum_most f [] i a e = absurd (some-ne-none a (sym e))
      sum_most f (x ∷ xs) zero a e =
          let same : f x ≡ f a = ap f (some-injective x a e) in
          omega (arith, sum_by-cons f x xs, same)
      sum_most f (x ∷ xs) (suc i) a e = let h = sum_most f xs i a e in omega (arith, sum_by-cons f x xs, h)

  -- where one term is not 0 at most
  pub sum_alone : (f : A → ℕ) (l : List A) (i : ℕ) (a : A) → get_elem? l i ≡ some a → ((j : ℕ) (b : A) → j ≢ i → get_elem? l j ≡ some b → f b ≡ 0) → sum_by f l ≡ f a
  sum_alone f [] i a e h = absurd (some-ne-none a (sym e))
  sum_alone f (x ∷ xs) zero a e h =
      let same : f x ≡ f a = ap f (some-injective x a e) in
      let others = sum_zero f xs (λ j b p. h (suc j) b (λ (q : suc j ≡ 0). omega arith) p) in
      omega (arith, sum_by-cons f x xs, same, others)
  sum_alone f (x ∷ xs) (suc i) a e h =
      let first = h 0 x (λ (q : 0 ≡ suc i). omega arith) refl in
      let others = sum_alone f xs i a e (λ j b n p. h (suc j) b (λ (q : suc j ≡ suc i). n (omega arith)) p) in
      omega (arith, sum_by-cons f x xs, first, others)

  -- where all views but one are unchanged
  pub each_set : (P : ℕ → A → Type 0) (vs : List A) (me : ℕ) (w : A) → P me w → ((j : ℕ) (v : A) → j ≢ me → get_elem? vs j ≡ some v → P j v) → (j : ℕ) (v : A) → get_elem? (set vs me w) j ≡ some v → P j v
  each_set P vs me w mine others j v e =
      ⊎_elim
      (λ (t : (j ≡ me) × (w ≡ v)). subst (λ (x : ℕ × A). P x.0 x.1) (λ i. (sym t.0 i, t.1 i)) mine)
      (λ (t : (j ≢ me) × (get_elem? vs j ≡ some v)). others j v t.0 t.1)
      (at_set vs me j w v e)

  pub each_snoc : (P : ℕ → A → Type 0) (vs : List A) (w : A) → ((j : ℕ) → P j w) → ((j : ℕ) (v : A) → get_elem? vs j ≡ some v → P j v) → (j : ℕ) (v : A) → get_elem? (vs ++ w ∷ []) j ≡ some v → P j v
  each_snoc P vs w mine others j v e = ⊎_elim (others j v) (λ (t : w ≡ v). subst (P j) t (mine j)) (at_snoc vs w v j e)

  -- membership
  pub has_front : (xs ys : List A) (x : A) → Has xs x → Has (xs ++ ys) x
  has_front xs ys x h = (h.0, front xs h.0 h.1)
    where
      front : (xs : List A) (k : ℕ) → slice_get xs k ≡ Some x → slice_get (xs ++ ys) k ≡ Some x
      front [] k e = absurd (cc)
      front (z ∷ zs) zero e = e
      front (z ∷ zs) (suc k) e = front zs k e

  pub has_back : (xs ys : List A) (x : A) → Has ys x → Has (xs ++ ys) x
  has_back [] ys x h = h
  has_back (z ∷ zs) ys x h = let t = has_back zs ys x h in (suc t.0, t.1)

  cases_at : (xs ys : List A) (x : A) (k : ℕ) → slice_get (xs ++ ys) k ≡ Some x → Has xs x ⊎ Has ys x
  cases_at [] ys x k e = inr (k, e)
  cases_at (z ∷ zs) ys x zero e = inl (0, e)
  cases_at (z ∷ zs) ys x (suc k) e = ⊎_elim (λ (t : Has zs x). inl (suc t.0, t.1)) (λ (t : Has ys x). inr t) (cases_at zs ys x k e)

  pub has_cases : (xs ys : List A) (x : A) → Has (xs ++ ys) x → Has xs x ⊎ Has ys x
  has_cases xs ys x h = cases_at xs ys x h.0 h.1

  pub has_one : (x y : A) → Has (x ∷ []) y → x ≡ y
  has_one x y h = at h.0 h.1
    where
      at : (k : ℕ) → slice_get (x ∷ []) k ≡ Some y → x ≡ y
      at zero e = cc
      at (suc k) e = absurd (cc)

  pub has_nil : (x : A) → Has [] x → ⊥
  has_nil x h = cc (h.1)

  pub get_front : (xs ys : List A) (k : ℕ) (x : A) → slice_get xs k ≡ Some x → slice_get (xs ++ ys) k ≡ Some x
  get_front [] ys k x e = absurd (cc)
  get_front (z ∷ zs) ys zero x e = e
  get_front (z ∷ zs) ys (suc k) x e = get_front zs ys k x e

  pub get_less : (xs : List A) (k : ℕ) (x : A) → slice_get xs k ≡ Some x → k < length xs
  get_less [] k x e = absurd (cc)
  get_less (z ∷ zs) zero x e = omega arith
  get_less (z ∷ zs) (suc k) x e = let h = get_less zs k x e in omega (arith, h)

  -- prefixes
  pub prefix_self : (xs : List A) → IsPrefix xs xs
  prefix_self [] = ([], refl)
  prefix_self (x ∷ xs) = let r = prefix_self xs in (r.0, ap (λ ys. x ∷ ys) r.1)

  pub prefix_nil : (xs : List A) → IsPrefix [] xs
  prefix_nil xs = (xs, refl)

  pub prefix_trans : (xs ys zs : List A) → IsPrefix xs ys → IsPrefix ys zs → IsPrefix xs zs
  prefix_trans xs ys zs p q = (p.0 ++ q.0, sym (append_assoc xs p.0 q.0) ∙ (ap (λ w. w ++ q.0) p.1 ∙ q.1))

  pub prefix_shorter : (xs ys zs : List A) → IsPrefix xs zs → IsPrefix ys zs → length xs ≤ length ys → IsPrefix xs ys
  prefix_shorter [] ys zs p q le = (ys, refl)
  prefix_shorter (x ∷ xs) [] zs p q le = absurd (omega arith)
  prefix_shorter (x ∷ xs) (y ∷ ys) [] p q le = absurd (cc (p.1))
  prefix_shorter (x ∷ xs) (y ∷ ys) (z ∷ zs) p q le =
      let heads : x ≡ y = cc (p.1, q.1) in
      let rest = prefix_shorter xs ys zs (p.0, cc (p.1)) (q.0, cc (q.1)) (omega arith) in
      (rest.0, cc (heads, rest.1))

  pub prefix_length : (xs ys : List A) → IsPrefix xs ys → length xs ≤ length ys
  prefix_length xs ys p = omega (arith, sym (ap length p.1) ∙ length-append xs p.0)

  pub drop_front : (xs ys : List A) → drop (length xs) (xs ++ ys) ≡ ys
  drop_front [] ys = refl
  drop_front (x ∷ xs) ys = drop_front xs ys

-- counts of places
abbrev here : ℕ → ℕ → ℕ
here n k = cond (n == k) 1 0

one_there : (n k : ℕ) → n ≡ k → here n k ≡ 1
one_there n k e = rw (eq-eqb n k e) refl

none_there : (n k : ℕ) → n ≢ k → here n k ≡ 0
none_there n k e = rw (ne_eqb n k e) refl

module _ {E : Type 0} where
  pub times_append : (k : ℕ) (xs ys : List (ℕ × E)) → times k (xs ++ ys) ≡ times k xs + times k ys
  times_append k xs ys = sum_by-append (λ (c : ℕ × E). here c.0 k) xs ys

  times_cons : (k : ℕ) (c : ℕ × E) (xs : List (ℕ × E)) → times k (c ∷ xs) ≡ here c.0 k + times k xs
  times_cons k c xs = sum_by-cons (λ (c : ℕ × E). here c.0 k) c xs

  -- no call has the place k
  pub times_none : (k : ℕ) (xs : List (ℕ × E)) → ((c : ℕ × E) → Has xs c → c.0 ≢ k) → times k xs ≡ 0
  times_none k [] h = refl
  times_none k (x ∷ xs) h =
      let first = none_there x.0 k (h x (0, refl)) in
      let others = times_none k xs (λ c t. h c (suc t.0, t.1)) in
      omega (arith, times_cons k x xs, first, others)

  pub times_placed_less : (k n : ℕ) (es : List E) → k < n → times k (placed n es) ≡ 0
  times_placed_less k n [] h = refl
  times_placed_less k n (e ∷ es) h =
      let first = none_there n k (λ (x : n ≡ k). omega arith) in
      let others = times_placed_less k (suc n) es (omega arith) in
      omega (arith, times_cons k (n, e) (placed (suc n) es), first, others)

  pub times_placed_in : (k n : ℕ) (es : List E) → n ≤ k → k < n + length es → times k (placed n es) ≡ 1
  times_placed_in k n [] h l = absurd (omega arith)
  times_placed_in k n (e ∷ es) h l = dite (ℕ_discrete n k)
      (λ same. let first = one_there n k same in
      let others = times_placed_less k (suc n) es (omega arith) in
      omega (arith, times_cons k (n, e) (placed (suc n) es), first, others))
      (λ other. let first = none_there n k other in
      let others = times_placed_in k (suc n) es (omega arith) (omega arith) in
      omega (arith, times_cons k (n, e) (placed (suc n) es), first, others))

  -- what was placed stands there
  pub stand_placed : (log es : List E) → StandInHistory (log ++ es) (placed (length log) es)
  stand_placed log es c h = place log es c.0 c.1 h.0 h.1
    where
      get_back : (log es : List E) (k : ℕ) → slice_get (log ++ es) (length log + k) ≡ slice_get es k
      get_back [] es k = ap (slice_get es) (omega arith)
      get_back (x ∷ xs) es k =
          let same : length (x ∷ xs) + k ≡ suc (length xs + k) = omega arith in
          ap (slice_get (x ∷ (xs ++ es))) same ∙ get_back xs es k

      nth : (n : ℕ) (es : List E) (c : ℕ × E) (k : ℕ) → slice_get (placed n es) k ≡ Some c → (c.0 ≡ n + k) × (slice_get es k ≡ Some c.1)
      nth n [] c k e = absurd (cc)
      nth n (x ∷ xs) c zero e =
          let same : (n, x) ≡ c = cc in
          (sym (ap (λ (y : ℕ × E). y.0) same) ∙ omega arith, ap (λ (y : ℕ × E). Some y.1) same)
      nth n (x ∷ xs) c (suc k) e = let t = nth (suc n) xs c k e in (t.0 ∙ omega arith, t.1)

      place : (log es : List E) (n : ℕ) (x : E) (k : ℕ) → slice_get (placed (length log) es) k ≡ Some (n, x) → slice_get (log ++ es) n ≡ Some x
      place log es n x k e = let t = nth (length log) es (n, x) k e in ap (slice_get (log ++ es)) t.0 ∙ (get_back log es k ∙ t.1)

-- words that were met and not held
stands_at : (xs : List ℕ) (w k : ℕ) → slice_get xs k ≡ Some w → stands xs w ≡ true
stands_at [] w k e = absurd (cc)
stands_at (x ∷ xs) w zero e = let same : x ≡ w = cc in rw (eq-eqb x w same) refl
stands_at (x ∷ xs) w (suc k) e = or_more (x == w) (stands xs w) (stands_at xs w k e)
  where
    or_more : (a b : Bool) → b ≡ true → a || b ≡ true
    or_more true b e = refl
    or_more false b e = e

pub stands_has : (held : List ℕ) (w : ℕ) → Has held w → stands held w ≡ true
stands_has held w h = stands_at held w h.0 h.1

more : (xs : List ℕ) (x w : ℕ) → Has xs w → Has (x ∷ xs) w
more xs x w t = (suc t.0, t.1)

abbrev Unmet : List ℕ → List ℕ → ℕ → Type 0
Unmet met held w = Has met w × (Has held w → ⊥)

unmet_step : (x : ℕ) (xs us held : List ℕ) (w : ℕ) → ((k : ℕ) → slice_get us k ≡ Some w → Unmet xs held w) → (b : Bool) → stands held x ≡ b → (k : ℕ) → slice_get (cond b us (x ∷ us)) k ≡ Some w → Unmet (x ∷ xs) held w
unmet_step x xs us held w rest true is k e = let t = rest k e in (more xs x w t.0, t.1)
unmet_step x xs us held w rest false is zero e =
    let same : x ≡ w = cc in ((0, e), λ t. let y = stands_has held x (subst (Has held) (sym same) t) in absurd (cc))
unmet_step x xs us held w rest false is (suc k) e = let t = rest k e in (more xs x w t.0, t.1)

unmet_at : (xs held : List ℕ) (w k : ℕ) → slice_get (unmet xs held) k ≡ Some w → Unmet xs held w
unmet_at [] held w k e = absurd (cc)
unmet_at (x ∷ xs) held w k e = unmet_step x xs (unmet xs held) held w (λ i h. unmet_at xs held w i h) (stands held x) refl k e

pub unmet_has : (met held : List ℕ) (w : ℕ) → Has (unmet met held) w → Has met w × (Has held w → ⊥)
unmet_has met held w h = unmet_at met held w h.0 h.1
