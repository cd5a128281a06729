-- The walk meets each object once, where the replicas are of one history.
use Rattle.std.proofs.Common.{◌≡◌, ◌<◌, ◌≤◌, ◌+◌, ℕ, zero, suc, Bool, true, false, cond, List, [], ◌∷◌, ◌++◌, refl, sym, ap, ◌∙◌, subst, inl, inr, arith, ◌⊎◌, ◌||◌}
use Rattle.std.specs.FinMap as finmap
use Rattle.std.specs.List.{flat_map, AllByRecursion, IsDistinct}
use Rattle.std.proofs.lemmas.Bool.{true≢false, leb-false}
use Rattle.coda_fid.specs.Fid.{same_fid}
use Rattle.coda_fid.specs.declared.fid.Fid.{Fid}
use Rattle.coda_fid.proofs.Fids.{same_fid_refl}
use Rattle.coda_tree.specs.Volume.{bindings}
use Rattle.coda_reslog.specs.declared.change.Held.{Held}
use Rattle.coda_resolve.specs.Causes.{times, is_double}
use Rattle.coda_resolve.specs.Merged.{merged_bindings}
use Rattle.coda_resolve.specs.Settling.{Fate, Same, Marked, Gone}
use Rattle.coda_resolve.specs.Resolution.{Replicas, copies_at, fate_at}
use Rattle.coda_resolve.specs.Placement.{IsIn, AreTreesOfOneKind}
use Rattle.coda_resolve.specs.Outcome.{next_up, walk, levels_of, taken_up}
use Rattle.coda_resolve.proofs.Again.{single}
use Rattle.coda_resolve.proofs.Apart.{bind_apart, no_cause_of, merged_of}
use Rattle.coda_resolve.proofs.Complete.{IsNext, At, Down, one_fid, one_fid_is, one_itself, one_depth, all_from_in}
use Rattle.coda_resolve.proofs.Logged.{filter_passes}
use Rattle.coda_resolve.proofs.Walked.{value_at}

-- ---- lists

pub in_append : {X : Type 0} (xs ys : List X) (x : X) → IsIn x (xs ++ ys) → IsIn x xs ⊎ IsIn x ys
in_append [] ys x s = inr s
in_append (z ∷ xs) ys x (inl is) = inl (inl is)
in_append (z ∷ xs) ys x (inr s) = by (in_append xs ys x s)
  where
    by : IsIn x xs ⊎ IsIn x ys → IsIn x (z ∷ xs) ⊎ IsIn x ys
    by (inl i) = inl (inr i)
    by (inr i) = inr i

pub in_flat_from : {X Y : Type 0} (f : X → List Y) (xs : List X) (y : Y) → IsIn y (flat_map f xs) → (x : X) × (IsIn x xs × IsIn y (f x))
in_flat_from f [] y s = absurd s
in_flat_from {X = X} {Y = Y} f (x ∷ xs) y s = by (in_append (f x) (flat_map f xs) y s) (in_flat_from f xs y)
  where
    by : IsIn y (f x) ⊎ IsIn y (flat_map f xs) → (IsIn y (flat_map f xs) → (z : X) × (IsIn z xs × IsIn y (f z))) → (z : X) × (IsIn z (x ∷ xs) × IsIn y (f z))
    by (inl i) more = (x, (inl refl, i))
    by (inr i) more = let m = more i in (m.0, (inr m.1.0, m.1.1))

all_both : {X : Type 0} (P : X → Type 0) (xs ys : List X) → AllByRecursion P xs → AllByRecursion P ys → AllByRecursion P (xs ++ ys)
all_both P [] ys a b = b
all_both P (x ∷ xs) ys a b = (a.0, all_both P xs ys a.1 b)

distinct_both : (xs ys : List Fid) → IsDistinct one_fid xs → IsDistinct one_fid ys → ((x y : Fid) → IsIn x xs → IsIn y ys → one_fid x y ≡ false) → IsDistinct one_fid (xs ++ ys)
unfolding IsDistinct
distinct_both [] ys a b apart = b
distinct_both (x ∷ xs) ys a b apart = (all_both (λ y. one_fid x y ≡ false) xs ys a.0 (all_from_in (λ y. one_fid x y ≡ false) ys (λ y s. apart x y (inl refl) s)), distinct_both xs ys a.1 b (λ z y s t. apart z y (inr s) t))

-- fids of which none stands twice
fewer : (f y : Fid) (fs : List Fid) → times y fs ≤ times y (f ∷ fs)
fewer f y fs = by (same_fid y f)
  where
    by : (b : Bool) → times y fs ≤ cond b 1 0 + times y fs
    by true = omega arith
    by false = omega arith

not_among : (f : Fid) (fs : List Fid) → times f fs < 1 → (y : Fid) → IsIn y fs → one_fid f y ≡ false
not_among f [] lt y s = absurd s
not_among f (z ∷ fs) lt y (inl is) = here (one_fid f y) refl
  where
    none : (b : Bool) → same_fid f z ≡ b → b ≡ false
    none true e = let one : times f (z ∷ fs) ≡ 1 + times f fs = ap (λ b. cond b 1 0 + times f fs) e in absurd (omega arith)
    none false e = refl

    here : (b : Bool) → one_fid f y ≡ b → b ≡ false
    here true e = absurd (true≢false (sym (ap (same_fid f) (is ∙ sym (one_fid_is f y e)) ∙ same_fid_refl f) ∙ none (same_fid f z) refl))
    here false e = refl
not_among f (z ∷ fs) lt y (inr t) = let le = fewer z f fs in not_among f fs (omega arith) y t

distinct_fids : (fs : List Fid) → ((f : Fid) → IsIn f fs → times f fs < 2) → IsDistinct one_fid fs
unfolding IsDistinct
distinct_fids [] h = tt
distinct_fids (f ∷ fs) h = (all_from_in (λ y. one_fid f y ≡ false) fs (not_among f fs (once (h f (inl refl)))), distinct_fids fs (λ y s. let le = fewer f y fs in let lt = h y (inr s) in omega arith))
  where
    once : times f (f ∷ fs) < 2 → times f fs < 1
    once lt = let one : times f (f ∷ fs) ≡ 1 + times f fs = ap (λ b. cond b 1 0 + times f fs) (same_fid_refl f) in omega arith

none_twice : IsDistinct one_fid []
unfolding IsDistinct
none_twice = tt

all_at_in : {X : Type 0} (P : X → Type 0) (xs : List X) (x : X) → AllByRecursion P xs → IsIn x xs → P x
all_at_in P [] x a s = absurd s
all_at_in P (y ∷ xs) x a (inl is) = subst P is a.0
all_at_in P (y ∷ xs) x a (inr s) = all_at_in P xs x a.1 s

-- ---- the walk

module _ (views : Replicas) (root : Fid) (history : AreTreesOfOneKind views root) where
  pub next_from : (g h : Fid) → IsIn h (next_up (fate_at views g)) → IsNext views g h
  next_from g h s = by (fate_at views g) refl s
    where
      by : (result : Fate) → fate_at views g ≡ result → IsIn h (next_up result) → IsNext views g h
      by (Same held) e s = let m = value_at (bindings held.node.kind) h s in record { name = m.0; held = held; same = e; bound = m.1 }
      by (Marked why) e s = absurd s
      by Gone e s = absurd s

  -- what the walk meets from an object on is below it
  met_below : (levels : ℕ) (g x : Fid) → IsIn x (walk levels views g) → (j : ℕ) × Down views j g x
  met_below zero g x s = absurd s
  met_below (suc levels) g x (inl is) = (zero, sym is)
  met_below (suc levels) g x (inr s) =
      let m = in_flat_from (walk levels views) (next_up (fate_at views g)) x s in
      let d = met_below levels m.0 x m.1.1 in
      (suc d.0, (m.0, (next_from g m.0 m.1.0, d.1)))

  at_below : (k j : ℕ) (g x : Fid) → At views root k g → Down views j g x → At views root (k + j) x
  at_below k zero g x a d = subst (λ n. At views root n x) (omega arith) (subst (At views root k) (sym d) a)
  at_below k (suc j) g x a d = subst (λ n. At views root n x) (omega arith) (at_below (suc k) j d.0 x (g, (d.1.0, a)) d.1.1)

  -- one binding up from the lower end
  last_step : (j : ℕ) (g x : Fid) → Down views (suc j) g x → (d : Fid) × (Down views j g d × IsNext views d x)
  last_step zero g x d = (g, (refl, subst (IsNext views g) (sym d.1.1) d.1.0))
  last_step (suc j) g x d = let m = last_step j d.0 x d.1.1 in (m.0, ((d.0, (d.1.0, m.1.0)), m.1.1))

  -- two objects of one depth with one object as far below both are one
  one_above : (k j : ℕ) (g h x : Fid) → At views root k g → At views root k h → Down views j g x → Down views j h x → g ≡ h
  one_above k zero g h x a b c d = sym c ∙ d
  one_above k (suc j) g h x a b c d =
      let m = last_step j g x c in
      let n = last_step j h x d in
      let same : m.0 ≡ n.0 = bind_apart views root m.0 n.0 x m.1.1.name n.1.1.name m.1.1.held n.1.1.held history m.1.1.same n.1.1.same m.1.1.bound n.1.1.bound in
      one_above k j g h n.0 a b (subst (Down views j g) same m.1.0) n.1.0

  -- what a directory binds that is the same everywhere it binds once
  next_distinct : (k : ℕ) (g : Fid) → At views root k g → IsDistinct one_fid (next_up (fate_at views g))
  next_distinct k g a = by (fate_at views g) refl
    where
      values_once : (held : Held) → fate_at views g ≡ Same held → (f : Fid) → IsIn f (finmap.values (bindings held.node.kind)) → times f (finmap.values (bindings held.node.kind)) < 2
      values_once held e f s =
          let m = value_at (bindings held.node.kind) f s in
          let free = no_cause_of (copies_at views g) (copies_at views) held m.0 f (history.kinds g) e m.1 in
          let is = merged_of (copies_at views g) (copies_at views) held m.0 f (history.kinds g) e m.1 in
          let double = filter_passes (is_double (copies_at views g) (copies_at views)) (finmap.values (merged_bindings (copies_at views g))) f (single (copies_at views g) (copies_at views) free) (subst (λ b. IsIn f (finmap.values b)) (sym is) s) in
          let less : times f (finmap.values (merged_bindings (copies_at views g))) < 2 = leb-false 2 (times f (finmap.values (merged_bindings (copies_at views g)))) (left _ _ double) in
          subst (λ b. times f (finmap.values b) < 2) is less
        where
          left : (p q : Bool) → (p || q) ≡ false → p ≡ false
          left true q e = e
          left false q e = refl

      by : (result : Fate) → fate_at views g ≡ result → IsDistinct one_fid (next_up result)
      by (Same held) e = distinct_fids (finmap.values (bindings held.node.kind)) (values_once held e)
      by (Marked why) e = none_twice
      by Gone e = none_twice

  same_places : (k i j : ℕ) → k + i ≡ k + j → j ≡ i
  same_places k i j e = omega arith

  -- what is met below two objects of one depth differs
  walks_apart : (levels k : ℕ) (g h x y : Fid) → At views root k g → At views root k h → one_fid g h ≡ false → IsIn x (walk levels views g) → IsIn y (walk levels views h) → one_fid x y ≡ false
  walks_apart levels k g h x y a b apart s t = by (one_fid x y) refl
    where
      by : (c : Bool) → one_fid x y ≡ c → c ≡ false
      by true e =
          let is = one_fid_is x y e in
          let m = met_below levels g x s in
          let n = met_below levels h y t in
          let one = at_below k m.0 g x a m.1 in
          let other = subst (At views root (k + n.0)) (sym is) (at_below k n.0 h y b n.1) in
          let depth = same_places k m.0 n.0 (one_depth views root history (k + m.0) (k + n.0) x one other) in
          let same = one_above k m.0 g h x a b m.1 (subst (λ d. Down views d h x) depth (subst (Down views n.0 h) (sym is) n.1)) in
          absurd (true≢false (sym (ap (one_fid g) (sym same) ∙ one_itself g) ∙ apart))
      by false e = refl

  -- nor is the object met again below it
  met_lower : (levels k : ℕ) (g y : Fid) → At views root k g → IsIn y (flat_map (walk levels views) (next_up (fate_at views g))) → one_fid g y ≡ false
  met_lower levels k g y a s = by (one_fid g y) refl
    where
      by : (c : Bool) → one_fid g y ≡ c → c ≡ false
      by true e =
          let m = in_flat_from (walk levels views) (next_up (fate_at views g)) y s in
          let d = met_below levels m.0 y m.1.1 in
          let lower = at_below (suc k) d.0 m.0 y (g, (next_from g m.0 m.1.0, a)) d.1 in
          let depth = one_depth views root history (suc k + d.0) k y lower (subst (At views root k) (one_fid_is g y e) a) in
          absurd (omega arith)
      by false e = refl

  each_distinct : (levels k : ℕ) (hs : List Fid) → IsDistinct one_fid hs → ((h : Fid) → IsIn h hs → At views root k h) → ((h : Fid) → At views root k h → IsDistinct one_fid (walk levels views h)) → IsDistinct one_fid (flat_map (walk levels views) hs)
  unfolding IsDistinct
  each_distinct levels k [] d at go = tt
  each_distinct levels k (h ∷ hs) d at go = distinct_both (walk levels views h) (flat_map (walk levels views) hs) (go h (at h (inl refl))) (each_distinct levels k hs d.1 (λ x s. at x (inr s)) go)
      (λ x y s t. let m = in_flat_from (walk levels views) hs y t in
      walks_apart levels k h m.0 x y (at h (inl refl)) (at m.0 (inr m.1.0)) (all_at_in (λ z. one_fid h z ≡ false) hs m.0 d.0 m.1.0) s m.1.1)

  walk_distinct : (levels k : ℕ) (g : Fid) → At views root k g → IsDistinct one_fid (walk levels views g)
  unfolding IsDistinct
  walk_distinct zero k g a = tt
  walk_distinct (suc levels) k g a = (
    all_from_in (λ y. one_fid g y ≡ false) (flat_map (walk levels views) (next_up (fate_at views g))) (λ y s. met_lower levels k g y a s),
    each_distinct levels (suc k) (next_up (fate_at views g)) (next_distinct k g a) (λ h s. (g, (next_from g h s, a))) (λ h b. walk_distinct levels (suc k) h b),
  )

pub met_once : (views : Replicas) (root : Fid) → AreTreesOfOneKind views root → IsDistinct one_fid (taken_up views root)
met_once views root history = walk_distinct views root history (levels_of views) 0 root refl
