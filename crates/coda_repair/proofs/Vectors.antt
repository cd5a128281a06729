-- How many updates of a server are in the merge of vectors.
use Rattle.std.proofs.Common.{◌≡◌, ℕ, ◌+◌, ◌-◌, ◌<◌, ◌≤◌, ◌^◌, true, zero, suc, List, [], ◌∷◌, length, slice_index_or, slice_set, refl, sym, ap, ◌∙◌, subst, arith, inl, inr, map, Option, Some, None}
use Rattle.std.specs.Prelude.{max}
use Rattle.std.specs.FinMap as finmap
use Rattle.std.specs.FinMap.{is_sorted}
use Rattle.std.specs.List.{fold, AllByRecursion}
use Rattle.std.proofs.lemmas.List.{get_or-set_same}
use Rattle.coda_fid.specs.Fid.{fid_cmp}
use Rattle.coda_fid.specs.declared.fid.Fid.{Fid}
use Rattle.coda_tree.proofs.Booleans.{to_T}
use Rattle.coda_vv.specs.Vector.{Counts, count, joined, no_updates, bumped}
use Rattle.coda_reslog.specs.declared.change.Held.{Held}
use Rattle.coda_record.specs.declared.view.View.{View}
use Rattle.coda_resolve.specs.Copies.{Copies, vector_of}
use Rattle.coda_resolve.specs.Merged.{updates_of}
use Rattle.coda_resolve.specs.Placement.{IsIn}
use Rattle.coda_resolve.specs.Resolution.{copies_at}
use Rattle.coda_resolve.specs.Views.{objects_of, replicas_of, AreInOrder}
use Rattle.coda_repair.specs.Finding.{HasRoom, HaveRoom}
use Rattle.coda_repair.proofs.Repairs.{find_all}

-- ---- the merge

pub joined_at : (v w : Counts) (i : ℕ) → slice_index_or (joined v w) i 0 ≡ max (slice_index_or v i 0) (slice_index_or w i 0)
joined_at [] w i = omega arith
joined_at (x ∷ v) [] i = omega arith
joined_at (x ∷ v) (y ∷ w) zero = refl
joined_at (x ∷ v) (y ∷ w) (suc i) = joined_at v w i

pub fold_more : (i : ℕ) (vs : List Counts) (v : Counts) → slice_index_or v i 0 ≤ slice_index_or (fold joined v vs) i 0
fold_more i [] v = omega arith
fold_more i (w ∷ vs) v = let a = joined_at v w i in let b = fold_more i vs (joined v w) in omega (arith, a, b)

pub fold_has : (i : ℕ) (vs : List Counts) (v w : Counts) → IsIn w vs → slice_index_or w i 0 ≤ slice_index_or (fold joined v vs) i 0
fold_has i [] v w s = absurd s
fold_has i (u ∷ vs) v w (inl is) = let a = joined_at v u i in let b = fold_more i vs (joined v u) in subst (λ x. slice_index_or x i 0 ≤ slice_index_or (fold joined (joined v u) vs) i 0) is (omega (arith, a, b))
fold_has i (u ∷ vs) v w (inr s) = fold_has i vs (joined v u) w s

pub fold_less : (i n : ℕ) (vs : List Counts) (v : Counts) → slice_index_or v i 0 < n → AllByRecursion (λ w. slice_index_or w i 0 < n) vs → slice_index_or (fold joined v vs) i 0 < n
fold_less i n [] v lt a = lt
fold_less i n (w ∷ vs) v lt a = fold_less i n vs (joined v w) (let e = joined_at v w i in let b = a.0 in omega (arith, e, lt, b)) a.1

in_vectors : (copies : Copies) (old : Held) → IsIn (Some old) copies → IsIn old.vector.0 (map vector_of copies)
in_vectors [] old s = absurd s
in_vectors (copy ∷ copies) old (inl is) = inl (ap vector_of is)
in_vectors (copy ∷ copies) old (inr s) = inr (in_vectors copies old s)

-- the merge of the updates of copies has those of each
pub updates_has : (copies : Copies) (old : Held) (i : ℕ) → IsIn (Some old) copies → slice_index_or old.vector.0 i 0 ≤ slice_index_or (updates_of copies) i 0
updates_has [] old i s = absurd s
updates_has (copy ∷ copies) old i (inl is) = subst (λ (x : Counts). slice_index_or x i 0 ≤ slice_index_or (updates_of (copy ∷ copies)) i 0) (ap vector_of is) (fold_more i (map vector_of copies) (vector_of copy))
updates_has (copy ∷ copies) old i (inr s) = fold_has i (map vector_of copies) (vector_of copy) old.vector.0 (in_vectors copies old s)

-- ---- one update more

pub bumped_more : (v : Counts) (j i : ℕ) → slice_index_or v i 0 ≤ slice_index_or (slice_set v j (slice_index_or v j 0 + 1)) i 0
bumped_more [] j i = omega arith
bumped_more (x ∷ v) zero zero = omega arith
bumped_more (x ∷ v) zero (suc i) = omega arith
bumped_more (x ∷ v) (suc j) zero = omega arith
bumped_more (x ∷ v) (suc j) (suc i) = bumped_more v j i

pub bumped_here : (v : Counts) (source : ℕ) → 1 ≤ source → source ≤ length v → count (bumped v source) source ≡ count v source + 1
bumped_here v source one within = get_or-set_same v (source - 1) (count v source + 1) 0 (omega (arith, one, within))

-- the repaired object has one update of the source more than each copy
pub has_more : (copies : Copies) (old : Held) (source : ℕ) → 1 ≤ source → source ≤ 8 → length (updates_of copies) ≡ 8 → IsIn (Some old) copies → count old.vector.0 source < count (bumped (updates_of copies) source) source
has_more copies old source one eight wide s =
    let a = updates_has copies old (source - 1) s in
    let b = bumped_here (updates_of copies) source one (omega (arith, eight, wide)) in
    omega (arith, a, b)

-- ---- room

all_zero : (v : Counts) → AllByRecursion (λ x. x ≡ 0) v → (i : ℕ) → slice_index_or v i 0 ≡ 0
all_zero [] a i = refl
all_zero (x ∷ v) a zero = a.0
all_zero (x ∷ v) a (suc i) = all_zero v a.1 i

none_less : (i : ℕ) → slice_index_or no_updates i 0 < 2 ^ 63
none_less i = let e = all_zero no_updates (refl, (refl, (refl, (refl, (refl, (refl, (refl, (refl, tt)))))))) i in omega (arith, e)

copy_less : (view : View) (from : ℕ) (f : Fid) → is_sorted fid_cmp view.held ≡ true → HasRoom from view → slice_index_or (vector_of (finmap.get (objects_of view) f)) (from - 1) 0 < 2 ^ 63
copy_less view from f up room = by (finmap.get (objects_of view) f) refl
  where
    by : (o : Option Held) → finmap.get (objects_of view) f ≡ o → slice_index_or (vector_of (finmap.get (objects_of view) f)) (from - 1) 0 < 2 ^ 63
    by None e = subst (λ c. slice_index_or (vector_of c) (from - 1) 0 < 2 ^ 63) (sym e) (none_less (from - 1))
    by (Some held) e = subst (λ c. slice_index_or (vector_of c) (from - 1) 0 < 2 ^ 63) (sym e) (find_all (λ (o : Fid × Held). count o.1.vector.0 from < 2 ^ 63) view.held f held room (sym (finmap.get-from_sorted fid_cmp view.held f (to_T _ up)) ∙ e)).1

copies_less : (views : List View) (from : ℕ) (f : Fid) → AreInOrder views → HaveRoom from views → AllByRecursion (λ w. slice_index_or w (from - 1) 0 < 2 ^ 63) (map vector_of (copies_at (replicas_of views) f))
copies_less [] from f up room = tt
copies_less (view ∷ views) from f up room = (copy_less view from f up.0 room.0, copies_less views from f up.1 room.1)

-- one update more has room
pub updates_less : (views : List View) (from : ℕ) (f : Fid) → AreInOrder views → HaveRoom from views → count (updates_of (copies_at (replicas_of views) f)) from < 2 ^ 63
updates_less [] from f up room = none_less (from - 1)
updates_less (view ∷ views) from f up room = fold_less (from - 1) (2 ^ 63) (map vector_of (copies_at (replicas_of views) f)) (vector_of (finmap.get (objects_of view) f)) (copy_less view from f up.0 room.0) (copies_less views from f up.1 room.1)
