-- The parents under which nodes are cached, after each change of holds, and the ways up by them.
use Rattle.std.proofs.Common.{◌≡◌, ℕ, zero, suc, ◌+◌, ◌-◌, ◌≤◌, Bool, true, false, cond, ◌||◌, List, [], ◌∷◌, Option, Some, None, is_some, length, option_map, refl, sym, ap, ◌∙◌, inl, inr, arith}
use Rattle.std.specs.Option.{option_map_or}
use Rattle.std.specs.Ordering.{eq_by_cmp}
use Rattle.std.specs.FinMap as map
use Rattle.std.specs.FinMap.{find}
use Rattle.std.proofs.lemmas.Bool.{both_ways}
use Rattle.coda_fid.specs.declared.fid.Fid.{Fid}
use Rattle.coda_fid.specs.Fid.{fid_cmp, same_fid}
use Rattle.coda_fid.proofs.Fids.{fids_total, exact_fids}
use Rattle.coda_tree.specs.Slots.{altered}
use Rattle.coda_tree.proofs.Order.{fid_cases, get_here, get_else, gone_here, gone_else}
use Rattle.coda_tree.proofs.Keyed.{at_altered, off_altered}
use Rattle.coda_walk.specs.Going.{is_listed}
use Rattle.coda_cache.specs.declared.hold.Hold.{Hold}
use Rattle.coda_cache.specs.State.{CacheState, Holds, parent_held, parent_of}
use Rattle.coda_cache.specs.Steps.{each, not_valid, made_dirty, under, renewed, taken_from, all_dirty}
use Rattle.coda_cache.specs.Ways.{way_within, way_up, is_below}
use Rattle.coda_cache.specs.Parents.{Parents, put_under, parents_among, parents_of, below_within}
use Rattle.coda_cache.proofs.Taken.{taken_at}
use Rattle.coda_cache.proofs.Written.{get_each}
use Rattle.coda_cache.proofs.Operated.{len_some}
use Rattle.coda_cache.proofs.ParentsWays.{within_alike}

-- ---- what is there

put_there : (parents : Parents) (f : Fid) (parent : Option Fid) (q : Fid) → map.get (put_under parents f parent) q ≡ cond (eq_by_cmp fid_cmp q f) parent (map.get parents q)
put_there parents f None q = map.get-remove fids_total parents f q
put_there parents f (Some dir) q = map.get-insert fids_total parents f dir q

parent_first : (b : Bool) (hold : Hold) (rest : Option Hold) → cond b hold.parent (parent_held rest) ≡ parent_held (cond b (Some hold) rest)
parent_first true hold rest = refl
parent_first false hold rest = refl

among_there : (held : List (Fid × Hold)) (q : Fid) → map.get (parents_among held) q ≡ parent_held (find fid_cmp q held)
among_there [] q = map.get-empty fid_cmp q
among_there (e ∷ held) q =
    put_there (parents_among held) e.0 e.1.parent q ∙ ap (cond (eq_by_cmp fid_cmp q e.0) e.1.parent) (among_there held q)
    ∙ parent_first (eq_by_cmp fid_cmp q e.0) e.1 (find fid_cmp q held)

-- the entry of a node is the directory under which it is cached
pub parent_there : (holds : Holds) (f : Fid) → map.get (parents_of holds) f ≡ parent_held (map.get holds f)
unfolding parents_of
parent_there holds f = among_there (map.entries holds) f ∙ ap parent_held (sym (map.get-entries holds f))

put_few : (parents : Parents) (f : Fid) (parent : Option Fid) → map.len (put_under parents f parent) ≤ suc (map.len parents)
put_few parents f None = let n = map.len-remove fids_total parents f in by (map.contains_key parents f) n
  where
    by : (b : Bool) → map.len (map.remove parents f) ≡ cond b (map.len parents - 1) (map.len parents) → map.len (map.remove parents f) ≤ suc (map.len parents)
    by true n = omega (arith, n)
    by false n = omega (arith, n)
put_few parents f (Some dir) = let n = map.len-insert fids_total parents f dir in by (map.contains_key parents f) n
  where
    by : (b : Bool) → map.len (map.insert parents f dir) ≡ cond b (map.len parents) (map.len parents + 1) → map.len (map.insert parents f dir) ≤ suc (map.len parents)
    by true n = omega (arith, n)
    by false n = omega (arith, n)

among_few : (held : List (Fid × Hold)) → map.len (parents_among held) ≤ length held
among_few [] = let none = map.len-empty fid_cmp Fid in omega (arith, none)
among_few (e ∷ held) = let one = put_few (parents_among held) e.0 e.1.parent in let rest = among_few held in omega (arith, one, rest)

-- no more nodes have a parent than are held
pub few_parents : (holds : Holds) → map.len (parents_of holds) ≤ map.len holds
unfolding parents_of
few_parents holds = let few = among_few (map.entries holds) in let all = map.len-entries holds in omega (arith, few, all)

-- ---- after each change of holds

-- holds under the same directories
pub same_parents : (old new : Holds) → ((f : Fid) → parent_held (map.get new f) ≡ parent_held (map.get old f)) → parents_of new ≡ parents_of old
same_parents old new same = map.same_map fids_total exact_fids (parents_of new) (parents_of old) (λ f. parent_there new f ∙ same f ∙ sym (parent_there old f))

-- a node is held under a directory
pub parents_put : (holds : Holds) (f dir : Fid) (hold : Hold) → hold.parent ≡ Some dir → parents_of (map.insert holds f hold) ≡ map.insert (parents_of holds) f dir
parents_put holds f dir hold is = map.same_map fids_total exact_fids _ _ (λ q. parent_there (map.insert holds f hold) q ∙ elim (fid_cases q f) [
  | inl at ↦ ap parent_held (ap (map.get (map.insert holds f hold)) at ∙ get_here fids_total holds f hold) ∙ is
      ∙ sym (ap (map.get (map.insert (parents_of holds) f dir)) at ∙ get_here fids_total (parents_of holds) f dir)
  | inr apart ↦ ap parent_held (get_else fids_total exact_fids holds f hold q apart) ∙ sym (get_else fids_total exact_fids (parents_of holds) f dir q apart ∙ parent_there holds q)
])

-- a node that was not held is held under none
pub parents_put_top : (holds : Holds) (f : Fid) (hold : Hold) → map.get holds f ≡ None → hold.parent ≡ None → parents_of (map.insert holds f hold) ≡ parents_of holds
parents_put_top holds f hold free none = same_parents holds (map.insert holds f hold) (λ q. elim (fid_cases q f) [
  | inl at ↦ ap parent_held (ap (map.get (map.insert holds f hold)) at ∙ get_here fids_total holds f hold) ∙ none ∙ sym (ap parent_held (ap (map.get holds) at ∙ free))
  | inr apart ↦ ap parent_held (get_else fids_total exact_fids holds f hold q apart)
])

-- a node is held no longer
pub parents_removed : (holds : Holds) (f : Fid) → parents_of (map.remove holds f) ≡ map.remove (parents_of holds) f
parents_removed holds f = map.same_map fids_total exact_fids _ _ (λ q. parent_there (map.remove holds f) q ∙ elim (fid_cases q f) [
  | inl at ↦ ap parent_held (ap (map.get (map.remove holds f)) at ∙ gone_here fids_total holds f) ∙ sym (ap (map.get (map.remove (parents_of holds) f)) at ∙ gone_here fids_total (parents_of holds) f)
  | inr apart ↦ ap parent_held (gone_else fids_total exact_fids holds f q apart) ∙ sym (gone_else fids_total exact_fids (parents_of holds) f q apart ∙ parent_there holds q)
])

parent_kept : (change : Hold → Hold) → ((hold : Hold) → (change hold).parent ≡ hold.parent) → (o : Option Hold) → parent_held (option_map change o) ≡ parent_held o
parent_kept change keeps None = refl
parent_kept change keeps (Some hold) = keeps hold

-- a hold is changed, but for its parent
pub parents_altered : (holds : Holds) (f : Fid) (change : Hold → Hold) → ((hold : Hold) → (change hold).parent ≡ hold.parent) → parents_of (altered holds f change) ≡ parents_of holds
parents_altered holds f change keeps = same_parents holds (altered holds f change) (λ q. elim (fid_cases q f) [
  | inl at ↦ ap parent_held (ap (map.get (altered holds f change)) at ∙ at_altered holds f change) ∙ parent_kept change keeps (map.get holds f) ∙ sym (ap parent_held (ap (map.get holds) at))
  | inr apart ↦ ap parent_held (off_altered holds f change q apart)
])

moved_parent : (dir : Fid) (o : Option Hold) → is_some o ≡ true → parent_held (option_map (under dir) o) ≡ Some dir
moved_parent dir None there = absurd (both_ways _ refl there)
moved_parent dir (Some hold) there = refl

-- a node that is held is moved
pub parents_moved : (holds : Holds) (f dir : Fid) → map.contains_key holds f ≡ true → parents_of (altered holds f (under dir)) ≡ map.insert (parents_of holds) f dir
parents_moved holds f dir there = map.same_map fids_total exact_fids _ _ (λ q. parent_there (altered holds f (under dir)) q ∙ elim (fid_cases q f) [
  | inl at ↦ ap parent_held (ap (map.get (altered holds f (under dir))) at ∙ at_altered holds f (under dir)) ∙ moved_parent dir (map.get holds f) there
      ∙ sym (ap (map.get (map.insert (parents_of holds) f dir)) at ∙ get_here fids_total (parents_of holds) f dir)
  | inr apart ↦ ap parent_held (off_altered holds f (under dir) q apart) ∙ sym (get_else fids_total exact_fids (parents_of holds) f dir q apart ∙ parent_there holds q)
])

-- a copy is no longer valid
pub parents_not_valid : (holds : Holds) (f : Fid) → parents_of (altered holds f not_valid) ≡ parents_of holds
parents_not_valid holds f = parents_altered holds f not_valid (λ _. refl)

-- a node becomes dirty
pub parents_made_dirty : (holds : Holds) (f : Fid) → parents_of (altered holds f made_dirty) ≡ parents_of holds
parents_made_dirty holds f = parents_altered holds f made_dirty (λ _. refl)

-- nodes become dirty
pub parents_all_dirty : (holds : Holds) (fids : List Fid) → parents_of (all_dirty holds fids) ≡ parents_of holds
parents_all_dirty holds [] = refl
parents_all_dirty holds (f ∷ fids) = parents_all_dirty (altered holds f made_dirty) fids ∙ parents_made_dirty holds f

-- a new copy is held
pub parents_renewed : (holds : Holds) (f : Fid) (from : Option ℕ) → parents_of (altered holds f (renewed from)) ≡ parents_of holds
parents_renewed holds f from = parents_altered holds f (renewed from) (λ _. refl)

-- all holds are changed, but for their parents
pub parents_each : (holds : Holds) (change : Fid → Hold → Hold) → ((f : Fid) (hold : Hold) → (change f hold).parent ≡ hold.parent) → parents_of (each change holds) ≡ parents_of holds
parents_each holds change keeps = same_parents holds (each change holds) (λ f. ap parent_held (get_each change holds f) ∙ parent_kept (change f) (keeps f) (map.get holds f))

-- nodes are held no longer
pub parents_taken : (holds : Holds) (fids : List Fid) → parents_of (taken_from holds fids) ≡ taken_from (parents_of holds) fids
parents_taken holds [] = refl
parents_taken holds (f ∷ fids) = parents_taken (map.remove holds f) fids ∙ ap (λ (p : Parents). taken_from p fids) (parents_removed holds f)

-- what is left then at each fid
pub parent_taken : (holds : Holds) (fids : List Fid) (f : Fid) → map.get (parents_of (taken_from holds fids)) f ≡ cond (is_listed fids f) None (map.get (parents_of holds) f)
parent_taken holds fids f = ap (λ (p : Parents). map.get p f) (parents_taken holds fids) ∙ taken_at (parents_of holds) fids f

-- ---- the ways up

or_none : (b : Bool) → (b || false) ≡ b
or_none true = refl
or_none false = refl

-- the ways up in a cache are those by the parents
way_alike : (c : CacheState) (n : ℕ) (f g : Fid) → is_listed (way_within c (suc n) f) g ≡ below_within (parents_of c.holds) n f g
way_alike c zero f g = elim (parent_of c f) as (λ o. (same_fid f g || is_listed (option_map_or (λ p. way_within c zero p) o []) g) ≡ same_fid f g) [
  | None ↦ or_none (same_fid f g)
  | Some p ↦ or_none (same_fid f g)
]
way_alike c (suc n) f g =
    (elim (parent_of c f) as (λ o. (same_fid f g || is_listed (option_map_or (λ p. way_within c (suc n) p) o []) g) ≡ (same_fid f g || option_map_or (λ p. below_within (parents_of c.holds) n p g) o false)) [
      | None ↦ refl
      | Some p ↦ ap (λ b. same_fid f g || b) (way_alike c n p g)
    ])
    ∙ ap (λ o. same_fid f g || option_map_or (λ p. below_within (parents_of c.holds) n p g) o false) (sym (parent_there c.holds f))

-- but for the parent of one node that is held, there are fewer parents than holds
fewer_parents : (holds : Holds) (g : Fid) (n : ℕ) → map.contains_key holds g ≡ true → map.len holds ≡ suc n → map.len (map.remove (parents_of holds) g) ≤ n
fewer_parents holds g n there all =
    let few = few_parents (map.remove holds g) in
    let same : map.len (parents_of (map.remove holds g)) ≡ map.len (map.remove (parents_of holds) g) = ap (λ (p : Parents). map.len p) (parents_removed holds g) in
    let less : map.len (map.remove holds g) ≡ map.len holds - 1 = map.len-remove fids_total holds g ∙ ap (λ b. cond b (map.len holds - 1) (map.len holds)) there in
    omega (arith, few, same, less, all)

no_more : (parents : Parents) (g : Fid) → map.len (map.remove parents g) ≤ map.len parents
no_more parents g = let n = map.len-remove fids_total parents g in by (map.contains_key parents g) n
  where
    by : (b : Bool) → map.len (map.remove parents g) ≡ cond b (map.len parents - 1) (map.len parents) → map.len (map.remove parents g) ≤ map.len parents
    by true n = omega (arith, n)
    by false n = omega (arith, n)

-- so what stands below a node that is cached stands below it by the parents
pub below_alike : (c : CacheState) (f g : Fid) → map.contains_key c.holds g ≡ true → is_below c f g ≡ below_within (parents_of c.holds) (map.len (parents_of c.holds)) f g
unfolding way_up
below_alike c f g there =
    let n = len_some c.holds g there in
    ap (λ m. is_listed (way_within c m f) g) n.1 ∙ way_alike c n.0 f g
    ∙ within_alike (parents_of c.holds) g n.0 (map.len (parents_of c.holds)) f (fewer_parents c.holds g n.0 there n.1) (no_more (parents_of c.holds) g)
