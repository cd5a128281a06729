-- What marks and sources leave of a cache: nodes that are dirty just where a test says so, and copies that aren't valid.
use Rattle.std.proofs.Common.{◌≡◌, ℕ, zero, suc, ◌+◌, ◌<◌, Bool, true, false, cond, ◌&&◌, ◌||◌, List, [], ◌∷◌, ◌++◌, take, length, Option, Some, None, option_map, is_some, refl, sym, ap, ◌∙◌, inl, inr, arith}
use Rattle.std.specs.Prelude.{slice_index_or, ◌==◌, if◌then◌else◌}
use Rattle.std.specs.Option.{option_map_or}
use Rattle.std.specs.FinMap as map
use Rattle.coda_fid.specs.Fid.{same_fid}
use Rattle.coda_fid.specs.declared.fid.Fid.{Fid}
use Rattle.coda_fid.proofs.Fids.{fids_total, exact_fids, same_fid_refl}
use Rattle.coda_tree.specs.Slots.{altered}
use Rattle.coda_tree.proofs.Order.{fid_cases}
use Rattle.coda_tree.proofs.Keyed.{at_altered, off_altered, not_same}
use Rattle.coda_walk.specs.Going.{is_listed}
use Rattle.coda_cache.specs.declared.hold.Hold.{Hold}
use Rattle.coda_cache.specs.State.{CacheState, Holds, parent_held, source_of}
use Rattle.coda_cache.specs.Parents.{parents_of}
use Rattle.coda_cache.specs.Steps.{set_dirty, marked, not_valid, each, valid_but_from, invalidated, invalidated_from}
use Rattle.coda_venus.specs.Caching.{marked_by, invalidated_in, valid_in}
use Rattle.coda_venus.specs.Code.{held_in}
use Rattle.coda_venus.proofs.Cached.{held_is, same_parents, marked_held, invalidated_held}
use Rattle.coda_cache.proofs.Parents.{parent_there}
use Rattle.coda_cache.proofs.Written.{get_each}

-- ---- marks

-- one more is marked
pub marked_more : (test : Fid → Bool) (c : CacheState) (fids : List Fid) (i : ℕ) (d : Fid) → i < length fids → marked_by test c (take (suc i) fids) ≡ marked (marked_by test c (take i fids)) (slice_index_or fids i d) (test (slice_index_or fids i d))
marked_more test c [] i d h = absurd (omega (arith, h))
marked_more test c (f ∷ fids) zero d h = refl
marked_more test c (f ∷ fids) (suc i) d h = marked_more test (marked c f (test f)) fids i d (omega (arith, h))

pub marked_joined : (test : Fid → Bool) (c : CacheState) (front back : List Fid) → marked_by test c (front ++ back) ≡ marked_by test (marked_by test c front) back
marked_joined test c [] back = refl
marked_joined test c (f ∷ front) back = marked_joined test (marked c f (test f)) front back

-- by another test that says the same
pub marked_same : (one other : Fid → Bool) (c : CacheState) (fids : List Fid) → ((f : Fid) → one f ≡ other f) → marked_by one c fids ≡ marked_by other c fids
marked_same one other c fids same = ap (λ (test : Fid → Bool). marked_by test c fids) (λ i f. same f i)

-- nothing but holds changes
marked_only : (test : Fid → Bool) (c : CacheState) (fids : List Fid) → marked_by test c fids ≡ record c { holds = (marked_by test c fids).holds }
marked_only test c [] = refl
marked_only test c (f ∷ fids) = marked_only test (marked c f (test f)) fids

pub all_marked_held : (test : Fid → Bool) (c : CacheState) (fids : List Fid) → held_in (marked_by test c fids) ≡ held_in c
all_marked_held test c [] = refl
all_marked_held test c (f ∷ fids) = all_marked_held test (marked c f (test f)) fids ∙ marked_held c f (test f)

module _ (test : Fid → Bool) where
  one_marked : (holds : Holds) (f q : Fid) → map.get (altered holds f (set_dirty (test f))) q ≡ cond (same_fid f q) (option_map (set_dirty (test q)) (map.get holds q)) (map.get holds q)
  one_marked holds f q = elim (fid_cases q f) [
    | inl at ↦ ap (map.get (altered holds f (set_dirty (test f)))) at ∙ at_altered holds f (set_dirty (test f)) ∙ (λ i. option_map (set_dirty (test (sym at i))) (map.get holds (sym at i)))
        ∙ ap (λ b. cond b (option_map (set_dirty (test q)) (map.get holds q)) (map.get holds q)) (sym (ap (same_fid f) at ∙ same_fid_refl f))
    | inr apart ↦ off_altered holds f (set_dirty (test f)) q apart
        ∙ ap (λ b. cond b (option_map (set_dirty (test q)) (map.get holds q)) (map.get holds q)) (sym (not_same f q (λ at. apart (sym at))))
  ]

  marked_at : (c : CacheState) (fids : List Fid) (q : Fid) → map.get (marked_by test c fids).holds q ≡ cond (is_listed fids q) (option_map (set_dirty (test q)) (map.get c.holds q)) (map.get c.holds q)
  marked_at c [] q = refl
  marked_at c (f ∷ fids) q = marked_at (marked c f (test f)) fids q ∙ ap (λ o. cond (is_listed fids q) (option_map (set_dirty (test q)) o) o) (one_marked c.holds f q)
      ∙ both (same_fid f q) (is_listed fids q) (map.get c.holds q)
    where
      again : (o : Option Hold) → option_map (set_dirty (test q)) (option_map (set_dirty (test q)) o) ≡ option_map (set_dirty (test q)) o
      again None = refl
      again (Some hold) = refl

      both : (b l : Bool) (o : Option Hold) → cond l (option_map (set_dirty (test q)) (cond b (option_map (set_dirty (test q)) o) o)) (cond b (option_map (set_dirty (test q)) o) o) ≡ cond (b || l) (option_map (set_dirty (test q)) o) o
      both true true o = again o
      both true false o = refl
      both false l o = refl

  -- it is the same in which order they are marked, and how often
  pub marked_alike : (c : CacheState) (one other : List Fid) → ((f : Fid) → is_listed one f ≡ is_listed other f) → marked_by test c one ≡ marked_by test c other
  marked_alike c one other same = marked_only test c one ∙ (λ i. record c { holds = holds i }) ∙ sym (marked_only test c other)
    where
      holds : (marked_by test c one).holds ≡ (marked_by test c other).holds
      holds = map.same_map fids_total exact_fids _ _ (λ q. marked_at c one q ∙ ap (λ b. cond b (option_map (set_dirty (test q)) (map.get c.holds q)) (map.get c.holds q)) (same q) ∙ sym (marked_at c other q))

-- ---- copies that aren't valid any more

pub invalidated_more : (c : CacheState) (fids : List Fid) (i : ℕ) (d : Fid) → i < length fids → invalidated_in c (take (suc i) fids) ≡ invalidated (invalidated_in c (take i fids)) (slice_index_or fids i d)
invalidated_more c [] i d h = absurd (omega (arith, h))
invalidated_more c (f ∷ fids) zero d h = refl
invalidated_more c (f ∷ fids) (suc i) d h = invalidated_more (invalidated c f) fids i d (omega (arith, h))

pub valid_more : (c : CacheState) (fids : List Fid) (i : ℕ) (d : Fid) → i < length fids
    → valid_in c (take (suc i) fids) ≡ valid_in c (take i fids) + (if is_some (source_of (invalidated_in c (take i fids)) (slice_index_or fids i d)) then 1 else 0)
valid_more c [] i d h = absurd (omega (arith, h))
valid_more c (f ∷ fids) zero d h = let n : ℕ = (if is_some (source_of c f) then 1 else 0) in omega arith
valid_more c (f ∷ fids) (suc i) d h = let rest = valid_more (invalidated c f) fids i d (omega (arith, h)) in omega (arith, rest)

pub all_invalidated_held : (c : CacheState) (fids : List Fid) → held_in (invalidated_in c fids) ≡ held_in c
all_invalidated_held c [] = refl
all_invalidated_held c (f ∷ fids) = all_invalidated_held (invalidated c f) fids ∙ invalidated_held c f

pub invalidated_size : (c : CacheState) (fids : List Fid) → (invalidated_in c fids).size ≡ c.size
invalidated_size c [] = refl
invalidated_size c (f ∷ fids) = invalidated_size (invalidated c f) fids

pub marked_size : (test : Fid → Bool) (c : CacheState) (fids : List Fid) → (marked_by test c fids).size ≡ c.size
marked_size test c [] = refl
marked_size test c (f ∷ fids) = marked_size test (marked c f (test f)) fids

pub cut_held : (c : CacheState) (volume server : ℕ) → held_in (invalidated_from c volume server) ≡ held_in c
cut_held c volume server = held_is _ _ (parents_of (each (valid_but_from volume server) c.holds)) (parents_of c.holds) refl (same_parents _ _ (λ q.
    parent_there (each (valid_but_from volume server) c.holds) q ∙ ap parent_held (get_each (valid_but_from volume server) c.holds q) ∙ by q (map.get c.holds q) ∙ sym (parent_there c.holds q)))
  where
    by : (q : Fid) (o : Option Hold) → parent_held (option_map (valid_but_from volume server q) o) ≡ parent_held o
    by q None = refl
    by q (Some hold) = elim ((q.volume == volume) && option_map_or (λ s. s == server) hold.from false) as (λ b. (if b then not_valid hold else hold).parent ≡ hold.parent) [ true ↦ refl | false ↦ refl ]
