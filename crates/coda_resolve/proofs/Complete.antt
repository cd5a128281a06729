-- The walk meets all that is taken up, where the replicas are of one history.
use Rattle.std.proofs.Common.{◌≡◌, ◌<◌, ◌≤◌, ◌+◌, ℕ, zero, suc, Bool, true, false, List, [], ◌∷◌, ◌++◌, Option, Some, None, is_some, refl, sym, ap, ◌∙◌, subst, inl, inr, map, length, arith, length-append, ◌||◌}
use Rattle.std.specs.Prelude.{slice_get}
use Rattle.std.specs.FinMap as finmap
use Rattle.std.specs.List.{flat_map, list_any, AllByRecursion, IsDistinct}
use Rattle.std.specs.Cmp.{eq_by_cmp_equiv, Equal-is}
use Rattle.std.specs.Ordering.{eq_by_cmp}
use Rattle.std.proofs.lemmas.Bool.{true≢false}
use Rattle.std.proofs.lemmas.Cmp.{nat_list_cmp_total}
use Rattle.std.proofs.lemmas.List.{length-map}
use Rattle.std.proofs.lemmas.Map.Lookups.{exact_bytes}
use Rattle.std.proofs.lemmas.Map.Made.{length-le_from_is_member}
use Rattle.coda_fid.specs.Fid.{fid_cmp}
use Rattle.coda_fid.specs.declared.fid.Fid.{Fid}
use Rattle.coda_fid.proofs.Fids.{exact_fids, fids_total}
use Rattle.coda_tree.proofs.MapEntries.{entry_index}
use Rattle.coda_tree.specs.Bindings.{Name, Bindings}
use Rattle.coda_tree.specs.Volume.{bindings}
use Rattle.coda_reslog.specs.declared.change.Held.{Held}
use Rattle.coda_resolve.specs.Copies.{first_some}
use Rattle.coda_resolve.specs.Settling.{Same}
use Rattle.coda_resolve.specs.Resolution.{Replicas, copies_at, fate_at, IsTakenUp, at_root, below}
use Rattle.coda_resolve.specs.Placement.{IsIn, AreTreesOfOneKind}
use Rattle.coda_resolve.specs.Outcome.{next_up, walk, levels_of, taken_up}
use Rattle.coda_resolve.proofs.MergedNames.{any_append}
use Rattle.coda_resolve.proofs.Logged.{any_in, in_flat}
use Rattle.coda_resolve.proofs.There.{Binds, fate_bound, taken_up_is_there, tree_of}
use Rattle.coda_resolve.proofs.Apart.{bind_apart, some_view}

-- ---- lists and maps

pub all_from_in : {X : Type 0} (P : X → Type 0) (xs : List X) → ((x : X) → IsIn x xs → P x) → AllByRecursion P xs
all_from_in P [] h = tt
all_from_in P (x ∷ xs) h = (h x (inl refl), all_from_in P xs (λ y s. h y (inr s)))

in_seconds : (es : List (Name × Fid)) (i : ℕ) (n : Name) (f : Fid) → slice_get es i ≡ Some (n, f) → IsIn f (map (λ e. e.1) es)
in_seconds [] i n f e = absurd (true≢false (sym (ap is_some e)))
in_seconds (x ∷ es) zero n f e = inl (ap (λ (o : Option (Name × Fid)). second o) e)
  where
    second : Option (Name × Fid) → Fid
    second None = x.1
    second (Some p) = p.1
in_seconds (x ∷ es) (suc i) n f e = inr (in_seconds es i n f e)

-- what is bound is among what a directory binds
pub in_values : (m : Bindings) (n : Name) (f : Fid) → finmap.get m n ≡ Some f → IsIn f (finmap.values m)
in_values m n f e = let at = entry_index nat_list_cmp_total exact_bytes m n f e in in_seconds (finmap.entries m) at.0 n f at.1

-- whether two fids are one, by their order
abbrev pub one_fid : Fid → Fid → Bool
one_fid = eq_by_cmp fid_cmp

pub one_fid_is : (a b : Fid) → one_fid a b ≡ true → a ≡ b
one_fid_is a b e = exact_fids a b ((Equal-is (fid_cmp a b)).0 e)

pub one_itself : (f : Fid) → one_fid f f ≡ true
one_itself f = (eq_by_cmp_equiv fids_total).refl f

-- the fids of all that the replicas hold
abbrev all_keys : Replicas → List Fid
all_keys views = flat_map (λ view. finmap.keys view) views

or_true : (b : Bool) → (b || true) ≡ true
or_true true = refl
or_true false = refl

held_somewhere : (views : Replicas) (f : Fid) → (first_some (copies_at views f) ≡ None → ⊥) → list_any (one_fid f) (all_keys views) ≡ true
held_somewhere [] f h = absurd (h refl)
held_somewhere (view ∷ views) f h = any_append (one_fid f) (finmap.keys view) (all_keys views) ∙ by (finmap.get view f) refl h (held_somewhere views f)
  where
    by : (o : Option Held) → finmap.get view f ≡ o → (first_some (o ∷ copies_at views f) ≡ None → ⊥) → ((first_some (copies_at views f) ≡ None → ⊥) → list_any (one_fid f) (all_keys views) ≡ true) → (list_any (one_fid f) (finmap.keys view) || list_any (one_fid f) (all_keys views)) ≡ true
    by None e h more = ap (λ b. list_any (one_fid f) (finmap.keys view) || b) (more h) ∙ or_true (list_any (one_fid f) (finmap.keys view))
    by (Some held) e h more = ap (λ b. b || list_any (one_fid f) (all_keys views)) (sym (finmap.contains_key-keys view f) ∙ ap is_some e)

many_keys : (views : Replicas) → length (all_keys views) + 1 ≡ levels_of views
many_keys [] = refl
many_keys (view ∷ views) =
    let more = many_keys views in
    let all : length (finmap.keys view ++ all_keys views) ≡ length (finmap.keys view) + length (all_keys views) = length-append (finmap.keys view) (all_keys views) in
    let here : length (finmap.keys view) ≡ finmap.len view = length-map (finmap.entries view) _ ∙ sym (finmap.len-entries view) in
    omega arith

-- ---- how deep an object is

-- the directory is the same everywhere after the resolution, and binds the object
pub record IsNext (views : Replicas) (d f : Fid) : Type 0 where
  pub name : Name
  pub held : Held
  pub same : fate_at views d ≡ Same held
  pub bound : finmap.get (bindings held.node.kind) name ≡ Some f

-- the object is so many bindings below the root
abbrev pub At : Replicas → Fid → ℕ → Fid → Type 0
At views root zero f = f ≡ root
At views root (suc k) f = (d : Fid) × (IsNext views d f × At views root k d)

taken_at : (views : Replicas) (root f : Fid) → IsTakenUp views root f → (k : ℕ) × At views root k f
taken_at views root g (at_root f is) = (zero, is)
taken_at views root g (below d n f held same bound up) = let m = taken_at views root d up in (suc m.0, (d, (record { name = n; held = held; same = same; bound = bound }, m.1)))

pub at_taken : (views : Replicas) (root : Fid) (k : ℕ) (f : Fid) → At views root k f → IsTakenUp views root f
at_taken views root zero f is = at_root f is
at_taken views root (suc k) f a = below a.0 a.1.0.name f a.1.0.held a.1.0.same a.1.0.bound (at_taken views root k a.0 a.1.1)

module _ (views : Replicas) (root : Fid) (history : AreTreesOfOneKind views root) where
  never_root : (d : Fid) → IsNext views d root → ⊥
  never_root d next =
      let v = some_view (Binds next.name root) d views (fate_bound (copies_at views d) (copies_at views) next.held next.name root next.same next.bound) in
      (tree_of root v.0 views history.trees v.1.0).unbound d next.name v.1.1

  pub one_depth : (i j : ℕ) (f : Fid) → At views root i f → At views root j f → i ≡ j
  one_depth zero zero f a b = refl
  one_depth zero (suc j) f a b = absurd (never_root b.0 (subst (IsNext views b.0) a b.1.0))
  one_depth (suc i) zero f a b = absurd (never_root a.0 (subst (IsNext views a.0) b a.1.0))
  one_depth (suc i) (suc j) f a b =
      let is : a.0 ≡ b.0 = bind_apart views root a.0 b.0 f a.1.0.name b.1.0.name a.1.0.held b.1.0.held history a.1.0.same b.1.0.same a.1.0.bound b.1.0.bound in
      ap suc (one_depth i j b.0 (subst (At views root i) is a.1.1) b.1.1)

  -- the object and what stands above it
  abbrev line : (k : ℕ) (f : Fid) → At views root k f → List Fid
  line zero f a = f ∷ []
  line (suc k) f a = f ∷ line k a.0 a.1.1

  line_length : (k : ℕ) (f : Fid) (a : At views root k f) → length (line k f a) ≡ k + 1
  line_length zero f a = refl
  line_length (suc k) f a = let more = line_length k a.0 a.1.1 in omega arith

  on_line : (k : ℕ) (f : Fid) (a : At views root k f) (x : Fid) → IsIn x (line k f a) → (i : ℕ) × ((i ≤ k) × At views root i x)
  on_line zero f a x (inl is) = (zero, (omega arith, subst (At views root zero) is a))
  on_line zero f a x (inr s) = absurd s
  on_line (suc k) f a x (inl is) = (suc k, (omega arith, subst (At views root (suc k)) is a))
  on_line (suc k) f a x (inr s) = let m = on_line k a.0 a.1.1 x s in (m.0, (let le = m.1.0 in omega arith, m.1.1))

  apart_on_line : (k : ℕ) (f : Fid) (a : At views root k f) → IsDistinct one_fid (line k f a)
  unfolding IsDistinct
  apart_on_line zero f a = (tt, tt)
  apart_on_line (suc k) f a = (all_from_in (λ y. one_fid f y ≡ false) (line k a.0 a.1.1) (λ y s. other y (on_line k a.0 a.1.1 y s) (one_fid f y) refl), apart_on_line k a.0 a.1.1)
    where
      other : (y : Fid) → (i : ℕ) × ((i ≤ k) × At views root i y) → (b : Bool) → one_fid f y ≡ b → b ≡ false
      other y m false e = refl
      other y m true e = let le = m.1.0 in let same = one_depth (suc k) m.0 y (subst (At views root (suc k)) (one_fid_is f y e) a) m.1.1 in absurd (omega arith)

  pub not_deep : (k : ℕ) (f : Fid) → At views root k f → k < levels_of views
  not_deep k f a =
      let few = length-le_from_is_member (eq_by_cmp_equiv fids_total) (line k f a) (all_keys views) (apart_on_line k f a) there in
      let count = line_length k f a in
      let keys = many_keys views in
      omega arith
    where
      there : (q : Fid) → list_any (one_fid q) (line k f a) ≡ true → list_any (one_fid q) (all_keys views) ≡ true
      there q e =
          let m = any_in (one_fid q) (line k f a) e in
          let l = on_line k f a m.0 m.1.0 in
          subst (λ x. list_any (one_fid x) (all_keys views) ≡ true) (sym (one_fid_is q m.0 m.1.1)) (held_somewhere views m.0 (taken_up_is_there views root history.trees m.0 (at_taken views root l.0 m.0 l.1.1)))

-- ---- the walk

-- the object is so many bindings below the other
abbrev pub Down : Replicas → ℕ → Fid → Fid → Type 0
Down views zero g f = f ≡ g
Down views (suc k) g f = (h : Fid) × (IsNext views g h × Down views k h f)

down_more : (views : Replicas) (k : ℕ) (g d f : Fid) → Down views k g d → IsNext views d f → Down views (suc k) g f
down_more views zero g d f a next = (f, (subst (λ x. IsNext views x f) a next, refl))
down_more views (suc k) g d f a next = (a.0, (a.1.0, down_more views k a.0 d f a.1.1 next))

at_down : (views : Replicas) (root : Fid) (k : ℕ) (f : Fid) → At views root k f → Down views k root f
at_down views root zero f a = a
at_down views root (suc k) f a = down_more views k root a.0 f (at_down views root k a.0 a.1.1) a.1.0

next_in : (views : Replicas) (d f : Fid) → IsNext views d f → IsIn f (next_up (fate_at views d))
next_in views d f next = subst (λ r. IsIn f (next_up r)) (sym next.same) (in_values (bindings next.held.node.kind) next.name f next.bound)

walk_meets : (views : Replicas) (levels k : ℕ) (g f : Fid) → Down views k g f → k < levels → IsIn f (walk levels views g)
walk_meets views zero k g f a lt = absurd (omega arith)
walk_meets views (suc levels) zero g f a lt = inl (sym a)
walk_meets views (suc levels) (suc k) g f a lt = inr (in_flat (walk levels views) (next_up (fate_at views g)) a.0 f (next_in views g a.0 a.1.0) (walk_meets views levels k a.0 f a.1.1 (omega arith)))

pub taken_up_is_met : (views : Replicas) (root f : Fid) → AreTreesOfOneKind views root → IsTakenUp views root f → IsIn f (taken_up views root)
taken_up_is_met views root f history up =
    let m = taken_at views root f up in
    walk_meets views (levels_of views) m.0 root f (at_down views root m.0 f m.1) (not_deep views root history m.0 f m.1)
