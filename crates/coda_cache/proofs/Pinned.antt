-- Which holds are dirty once those that were are clean and others are dirty.
use Rattle.std.proofs.Common.{◌≡◌, ℕ, zero, suc, ◌<◌, Bool, true, false, cond, ◌||◌, ◌&&◌, List, [], ◌∷◌, Option, Some, None, option_map, length, take, refl, sym, ap, ◌∙◌, inl, inr, arith}
use Rattle.std.specs.Prelude.{slice_index_or}
use Rattle.std.specs.FinMap as map
use Rattle.std.proofs.lemmas.Bool.{both_ways}
use Rattle.coda_fid.specs.declared.fid.Fid.{Fid}
use Rattle.coda_fid.specs.Fid.{same_fid}
use Rattle.coda_fid.proofs.Fids.{fids_total, exact_fids, same_fid_refl}
use Rattle.coda_tree.specs.Slots.{altered}
use Rattle.coda_tree.proofs.Order.{fid_cases}
use Rattle.coda_tree.proofs.Keyed.{not_same, at_altered, off_altered}
use Rattle.coda_walk.specs.Going.{is_listed}
use Rattle.coda_cache.specs.declared.hold.Hold.{Hold}
use Rattle.coda_cache.specs.declared.queued.Queued.{Queued}
use Rattle.coda_cache.specs.declared.marks.Marks.{Marks}
use Rattle.coda_cache.specs.State.{CacheState, Holds, is_dirty}
use Rattle.coda_cache.specs.Steps.{each, made_dirty, set_dirty, all_dirty}
use Rattle.coda_cache.specs.Indexed.{standings, AreMarked, AreIndexed, is_of, dirty_of, pinned_of, set_all}
use Rattle.coda_cache.proofs.Written.{get_each}
use Rattle.coda_cache.proofs.Standing.{held_dirty, marked_same, each_items, indexed_marked}

-- one more is set
pub more_set : (volume : Option ℕ) (b : Bool) (holds : Holds) (fids : List Fid) (i : ℕ) (d : Fid) → i < length fids →
    set_all volume b holds (take (suc i) fids) ≡ cond (is_of volume (slice_index_or fids i d)) (altered (set_all volume b holds (take i fids)) (slice_index_or fids i d) (set_dirty b)) (set_all volume b holds (take i fids))
more_set volume b holds [] i d h = absurd (omega (arith, h))
more_set volume b holds (f ∷ fids) zero d h = refl
more_set volume b holds (f ∷ fids) (suc i) d h = more_set volume b (cond (is_of volume f) (altered holds f (set_dirty b)) holds) fids i d (omega (arith, h))

-- one node more becomes dirty
pub more_dirty : (holds : Holds) (fids : List Fid) (i : ℕ) (d : Fid) → i < length fids → all_dirty holds (take (suc i) fids) ≡ altered (all_dirty holds (take i fids)) (slice_index_or fids i d) made_dirty
more_dirty holds [] i d h = absurd (omega (arith, h))
more_dirty holds (f ∷ fids) zero d h = refl
more_dirty holds (f ∷ fids) (suc i) d h = more_dirty (altered holds f made_dirty) fids i d (omega (arith, h))

-- a hold where one is set
one_set : (volume : Option ℕ) (b : Bool) (holds : Holds) (f q : Fid) →
    map.get (cond (is_of volume f) (altered holds f (set_dirty b)) holds) q ≡ cond (same_fid f q && is_of volume q) (option_map (set_dirty b) (map.get holds q)) (map.get holds q)
one_set volume b holds f q = elim (fid_cases q f) [
  | inl at ↦
      (elim (is_of volume f) as (λ x. is_of volume f ≡ x → map.get (cond x (altered holds f (set_dirty b)) holds) q ≡ cond (same_fid f q && is_of volume q) (option_map (set_dirty b) (map.get holds q)) (map.get holds q)) [
        | true ↦ λ e. ap (map.get (altered holds f (set_dirty b))) at ∙ at_altered holds f (set_dirty b) ∙ ap (λ x. option_map (set_dirty b) (map.get holds x)) (sym at)
            ∙ sym (λ i. cond ((ap (same_fid f) at ∙ same_fid_refl f) i && (ap (is_of volume) at ∙ e) i) (option_map (set_dirty b) (map.get holds q)) (map.get holds q))
        | false ↦ λ e. sym (λ i. cond ((ap (same_fid f) at ∙ same_fid_refl f) i && (ap (is_of volume) at ∙ e) i) (option_map (set_dirty b) (map.get holds q)) (map.get holds q))
      ]) refl
  | inr apart ↦
      (elim (is_of volume f) as (λ x. map.get (cond x (altered holds f (set_dirty b)) holds) q ≡ map.get holds q) [
        | true ↦ off_altered holds f (set_dirty b) q apart
        | false ↦ refl
      ]) ∙ sym (ap (λ x. cond (x && is_of volume q) (option_map (set_dirty b) (map.get holds q)) (map.get holds q)) (not_same f q (λ at. apart (sym at))))
]

-- a hold where some are set
some_set : (volume : Option ℕ) (b : Bool) (holds : Holds) (fids : List Fid) (q : Fid) →
    map.get (set_all volume b holds fids) q ≡ cond (is_listed fids q && is_of volume q) (option_map (set_dirty b) (map.get holds q)) (map.get holds q)
some_set volume b holds [] q = refl
some_set volume b holds (f ∷ fids) q =
    some_set volume b (cond (is_of volume f) (altered holds f (set_dirty b)) holds) fids q
    ∙ ap (λ o. cond (is_listed fids q && is_of volume q) (option_map (set_dirty b) o) o) (one_set volume b holds f q)
    ∙ twice (same_fid f q) (is_listed fids q) (is_of volume q) (map.get holds q)
  where
    again : (o : Option Hold) → option_map (set_dirty b) (option_map (set_dirty b) o) ≡ option_map (set_dirty b) o
    again None = refl
    again (Some hold) = refl

    twice : (e l v : Bool) (o : Option Hold) →
        cond (l && v) (option_map (set_dirty b) (cond (e && v) (option_map (set_dirty b) o) o)) (cond (e && v) (option_map (set_dirty b) o) o) ≡ cond ((e || l) && v) (option_map (set_dirty b) o) o
    twice true true true o = again o
    twice true true false o = refl
    twice true false true o = refl
    twice true false false o = refl
    twice false true true o = refl
    twice false true false o = refl
    twice false false true o = refl
    twice false false false o = refl

-- exactly these are dirty
pub pinned_holds : (volume : Option ℕ) (holds : Holds) (dirty fids : List Fid) → ((f : Fid) → held_dirty (map.get holds f) ≡ true → is_listed dirty f ≡ true) →
    set_all volume true (set_all volume false holds dirty) fids ≡ each (dirty_of volume fids) holds
pinned_holds volume holds dirty fids all = map.same_map fids_total exact_fids _ _ (λ q.
    some_set volume true (set_all volume false holds dirty) fids q
    ∙ ap (λ o. cond (is_listed fids q && is_of volume q) (option_map (set_dirty true) o) o) (some_set volume false holds dirty q)
    ∙ both (is_listed fids q) (is_of volume q) (is_listed dirty q) (map.get holds q) (all q)
    ∙ sym (get_each (dirty_of volume fids) holds q))
  where
    both : (l v d : Bool) (o : Option Hold) → (held_dirty o ≡ true → d ≡ true) →
        cond (l && v) (option_map (set_dirty true) (cond (d && v) (option_map (set_dirty false) o) o)) (cond (d && v) (option_map (set_dirty false) o) o) ≡ option_map (λ (hold : Hold). cond v (record hold { dirty = l }) hold) o
    both true true true None h = refl
    both true true false None h = refl
    both true false true None h = refl
    both true false false None h = refl
    both false true true None h = refl
    both false true false None h = refl
    both false false true None h = refl
    both false false false None h = refl
    both true true true (Some hold) h = refl
    both true true false (Some hold) h = refl
    both true false true (Some hold) h = refl
    both true false false (Some hold) h = refl
    both false true true (Some hold) h = refl
    both false true false (Some hold) h = ap (λ b. Some (record hold { dirty = b })) (clean hold.dirty h)
      where
        clean : (b : Bool) → (b ≡ true → false ≡ true) → b ≡ false
        clean true h = absurd (both_ways _ refl (h refl))
        clean false h = refl
    both false false true (Some hold) h = refl
    both false false false (Some hold) h = refl

-- a node that is neither among these nor among those that were dirty isn't dirty
still_clean : (volume : Option ℕ) (c : CacheState) (dirty fids : List Fid) → ((f : Fid) → is_dirty c f ≡ true → is_listed dirty f ≡ true) → (f : Fid) →
    cond (is_listed fids f) (is_dirty (pinned_of c volume fids) f) (cond (is_listed dirty f) (is_dirty (pinned_of c volume fids) f) (is_dirty c f)) ≡ is_dirty (pinned_of c volume fids) f
still_clean volume c dirty fids all f = go (is_listed fids f) (is_listed dirty f) refl (all f)
  where
    now : (l : Bool) → is_listed fids f ≡ l → is_dirty (pinned_of c volume fids) f ≡ held_dirty (option_map (λ (hold : Hold). cond (is_of volume f) (record hold { dirty = l }) hold) (map.get c.holds f))
    now l e = ap held_dirty (get_each (dirty_of volume fids) c.holds f) ∙ ap (λ b. held_dirty (option_map (λ (hold : Hold). cond (is_of volume f) (record hold { dirty = b }) hold) (map.get c.holds f))) e

    none : (o : Option Hold) (v : Bool) → held_dirty o ≡ false → held_dirty o ≡ held_dirty (option_map (λ (hold : Hold). cond v (record hold { dirty = false }) hold) o)
    none None v h = refl
    none (Some hold) true h = h
    none (Some hold) false h = refl

    clean : (b : Bool) → (b ≡ true → false ≡ true) → b ≡ false
    clean true h = absurd (both_ways _ refl (h refl))
    clean false h = refl

    go : (l d : Bool) → is_listed fids f ≡ l → (is_dirty c f ≡ true → d ≡ true) → cond l (is_dirty (pinned_of c volume fids) f) (cond d (is_dirty (pinned_of c volume fids) f) (is_dirty c f)) ≡ is_dirty (pinned_of c volume fids) f
    go true d e h = refl
    go false true e h = refl
    go false false e h = none (map.get c.holds f) (is_of volume f) (clean (is_dirty c f) h) ∙ sym (now false e)

pub pinned_of_items : (c : CacheState) (volume : Option ℕ) (fids : List Fid) → standings (pinned_of c volume fids) ≡ standings c
pinned_of_items c volume fids = each_items c (dirty_of volume fids) (λ f hold. elim (is_of volume f) as (λ b. (cond b (record hold { dirty = is_listed fids f }) hold).parent ≡ hold.parent) [ true ↦ refl | false ↦ refl ])

pub indexed_pinned : (q : Queued) (m marked : Marks) (c n : CacheState) (volume : Option ℕ) (dirty fids : List Fid) → AreIndexed q m c → ((f : Fid) → is_dirty c f ≡ true → is_listed dirty f ≡ true) → n ≡ pinned_of c volume fids →
    ((passes : Fid → Bool) → AreMarked m passes → AreMarked marked (λ f. cond (is_listed fids f) (is_dirty n f) (cond (is_listed dirty f) (is_dirty n f) (passes f)))) → AreIndexed q marked n
indexed_pinned q m marked c n volume dirty fids was all is renew =
    indexed_marked q q m marked c n was (ap standings is ∙ pinned_of_items c volume fids)
    (marked_same marked _ (is_dirty n) (λ f. (λ i. cond (is_listed fids f) (is_dirty (is i) f) (cond (is_listed dirty f) (is_dirty (is i) f) (is_dirty c f))) ∙ still_clean volume c dirty fids all f ∙ sym (ap (λ (s : CacheState). is_dirty s f) is))
    (renew (is_dirty c) was.marks))
