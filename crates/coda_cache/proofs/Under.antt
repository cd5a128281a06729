-- That each cached node is kept under its parent after each step of a cache.
use Rattle.std.proofs.Common.{◌≡◌, ℕ, Bool, true, false, cond, ◌||◌, ◌&&◌, List, [], ◌∷◌, Option, Some, None, option_map, is_some, refl, sym, ap, ◌∙◌, inl, inr}
use Rattle.std.specs.Prelude.{if◌then◌else◌}
use Rattle.std.specs.List.{list_any}
use Rattle.std.specs.Option.{IfSome, option_map_or}
use Rattle.std.specs.HashMap as hash
use Rattle.std.specs.HashMap.{HashMap}
use Rattle.std.specs.HashSet as hash_set
use Rattle.std.specs.HashSet.{HashSet}
use Rattle.std.specs.FinMap as map
use Rattle.std.proofs.lemmas.Bool.{both_ways}
use Rattle.coda_fid.specs.declared.fid.Fid.{Fid}
use Rattle.coda_fid.specs.Fid.{same_fid}
use Rattle.coda_fid.proofs.Fids.{fids_total, exact_fids, same_fid_is, same_fid_refl}
use Rattle.coda_tree.specs.declared.node.Node.{Node}
use Rattle.coda_tree.specs.Slots.{altered}
use Rattle.coda_tree.proofs.Order.{fid_cases, get_here, get_else, gone_here, gone_else}
use Rattle.coda_tree.proofs.Keyed.{not_same}
use Rattle.coda_walk.specs.Going.{is_listed}
use Rattle.coda_cache.specs.declared.hold.Hold.{Hold}
use Rattle.coda_cache.specs.declared.children.Children.{Children}
use Rattle.coda_cache.specs.Keeping.{Agree}
use Rattle.coda_cache.specs.Uses.{latest}
use Rattle.coda_cache.specs.State.{CacheState, Holds, parent_of, parent_held, is_cached}
use Rattle.coda_cache.specs.Steps.{used, put_in, kept_parent, dropped, taken_from, invalidated, not_valid, invalidated_from, valid_but_from, new_node, taken_out, moved_node, taken_below, moved_in, all_dirty, made_dirty, mutated, new_hold}
use Rattle.coda_cache.specs.Steps as steps
use Rattle.coda_cache.specs.Indexed.{AreUnder, is_kept_under, is_of, dirty_of, pinned_of}
use Rattle.coda_cache.proofs.Standing.{altered_at_all}
use Rattle.coda_cache.proofs.Taken.{taken_at}
use Rattle.coda_cache.proofs.Uses.{same_turned}
use Rattle.coda_cache.proofs.Written.{get_each}

-- ---- what is kept

pub under_same : (s : Children) (p q : Fid → Option Fid) → ((f : Fid) → q f ≡ p f) → AreUnder s p → AreUnder s q
under_same s p q same h = (elim s.parents as (λ o. IfSome o (λ parents. (f d : Fid) → p f ≡ Some d → is_kept_under parents d f ≡ true) → IfSome o (λ parents. (f d : Fid) → q f ≡ Some d → is_kept_under parents d f ≡ true)) [
  | None ↦ λ h. h
  | Some parents ↦ λ h f d e. h f d (sym (same f) ∙ e)
]) h

first_or : (b x : Bool) → x ≡ false → b ≡ cond b true x
first_or true x h = refl
first_or false x h = sym h

module _ {S H : Type 0} where
  -- what is kept where nothing was kept under a directory and nothing is
  pub none_kept : (old new : HashMap Fid (HashSet Fid H) S) (dir : Fid) → ((q : Fid) → hash.get same_fid new q ≡ cond (same_fid dir q) None (hash.get same_fid old q)) → ((f : Fid) → is_kept_under old dir f ≡ false) → (p f : Fid) → is_kept_under new p f ≡ is_kept_under old p f
  none_kept old new dir gone none p f = ap (λ (o : Option (HashSet Fid H)). option_map_or (λ fids. hash_set.contains same_fid fids f) o false) (gone p)
      ∙ (elim (same_fid dir p) as (λ b. same_fid dir p ≡ b → option_map_or (λ fids. hash_set.contains same_fid fids f) (cond b None (hash.get same_fid old p)) false ≡ is_kept_under old p f) [
        | true ↦ λ e. sym (ap (λ x. is_kept_under old x f) (sym (same_fid_is dir p e)) ∙ none f)
        | false ↦ λ _. refl
      ]) refl

  -- what is kept once a first fid is kept under a directory
  pub first_kept : (old new : HashMap Fid (HashSet Fid H) S) (dir fid : Fid) (fids : HashSet Fid H) → ((q : Fid) → hash.get same_fid new q ≡ cond (same_fid dir q) (Some fids) (hash.get same_fid old q)) →
      ((f : Fid) → hash_set.contains same_fid fids f ≡ same_fid fid f) → hash.get same_fid old dir ≡ None → (p f : Fid) → is_kept_under new p f ≡ cond (same_fid dir p && same_fid fid f) true (is_kept_under old p f)
  first_kept old new dir fid fids put one none p f = ap (λ (o : Option (HashSet Fid H)). option_map_or (λ fids. hash_set.contains same_fid fids f) o false) (put p)
      ∙ (elim (same_fid dir p) as (λ b. same_fid dir p ≡ b → option_map_or (λ fids. hash_set.contains same_fid fids f) (cond b (Some fids) (hash.get same_fid old p)) false ≡ cond (b && same_fid fid f) true (is_kept_under old p f)) [
        | true ↦ λ e. one f
            ∙ first_or (same_fid fid f) (is_kept_under old p f)
            (ap (λ x. is_kept_under old x f) (sym (same_fid_is dir p e)) ∙ ap (λ (o : Option (HashSet Fid H)). option_map_or (λ fids. hash_set.contains same_fid fids f) o false) none)
        | false ↦ λ _. refl
      ]) refl

  -- a fid is among those that are kept under a directory
  pub listed_under : (parents : HashMap Fid (HashSet Fid H) S) (dir : Fid) (fids : HashSet Fid H) → hash.get same_fid parents dir ≡ Some fids → (f : Fid) → is_kept_under parents dir f ≡ is_listed fids.keys f
  listed_under parents dir fids is f = ap (λ (o : Option (HashSet Fid H)). option_map_or (λ fids. hash_set.contains same_fid fids f) o false) is ∙ turned fids.keys
    where
      turned : (keys : List Fid) → list_any (same_fid f) keys ≡ is_listed keys f
      turned [] = refl
      turned (g ∷ keys) = λ i. same_turned f g i || turned keys i

-- ---- under what nodes are cached after each change of holds

parent_changed : (change : Hold → Hold) → ((hold : Hold) → (change hold).parent ≡ hold.parent) → (o : Option Hold) → parent_held (option_map change o) ≡ parent_held o
parent_changed change same None = refl
parent_changed change same (Some hold) = same hold

pub altered_parent : (holds : Holds) (f : Fid) (change : Hold → Hold) → ((hold : Hold) → (change hold).parent ≡ hold.parent) → (g : Fid) → parent_held (map.get (altered holds f change) g) ≡ parent_held (map.get holds g)
altered_parent holds f change same g = elim (altered_at_all holds f change g) [
  | inl e ↦ ap parent_held e
  | inr e ↦ ap parent_held e ∙ parent_changed change same (map.get holds g)
]

pub dirty_parent : (holds : Holds) (fids : List Fid) (g : Fid) → parent_held (map.get (all_dirty holds fids) g) ≡ parent_held (map.get holds g)
dirty_parent holds [] g = refl
dirty_parent holds (f ∷ fids) g = dirty_parent (altered holds f made_dirty) fids g ∙ altered_parent holds f made_dirty (λ _. refl) g

used_parent : (c : CacheState) (f g : Fid) → parent_of (used c f) g ≡ parent_of c g
used_parent c f g = elim (is_cached c f) as (λ b. parent_of (if b then record c { recency = latest c.recency f } else c) g ≡ parent_of c g) [ true ↦ refl | false ↦ refl ]

pinned_parent : (c : CacheState) (volume : Option ℕ) (fids : List Fid) (g : Fid) → parent_of (pinned_of c volume fids) g ≡ parent_of c g
pinned_parent c volume fids g = ap parent_held (get_each (dirty_of volume fids) c.holds g)
    ∙ parent_changed (dirty_of volume fids g) (λ hold. elim (is_of volume g) as (λ b. (cond b (record hold { dirty = is_listed fids g }) hold).parent ≡ hold.parent) [ true ↦ refl | false ↦ refl ]) (map.get c.holds g)

from_parent : (c : CacheState) (volume server : ℕ) (g : Fid) → parent_of (invalidated_from c volume server) g ≡ parent_of c g
from_parent c volume server g = ap parent_held (get_each (valid_but_from volume server) c.holds g)
    ∙ parent_changed (valid_but_from volume server g) (λ hold. stays hold _) (map.get c.holds g)
  where
    stays : (hold : Hold) (b : Bool) → (if b then not_valid hold else hold).parent ≡ hold.parent
    stays hold true = refl
    stays hold false = refl

out_parent : (c : CacheState) (f g : Fid) → parent_of (steps.without c f) g ≡ cond (same_fid f g) None (parent_of c g)
out_parent c f g = elim (fid_cases g f) [
  | inl at ↦ ap parent_held (ap (map.get (map.remove c.holds f)) at ∙ gone_here fids_total c.holds f)
      ∙ sym (ap (λ b. cond b None (parent_of c g)) (ap (same_fid f) at ∙ same_fid_refl f))
  | inr apart ↦ ap parent_held (gone_else fids_total exact_fids c.holds f g apart) ∙ sym (ap (λ b. cond b None (parent_of c g)) (not_same f g (λ at. apart (sym at))))
]

put_parent : (c : CacheState) (f : Fid) (parent : Option Fid) (node : Node) (from : Option ℕ) (g : Fid) →
    parent_of (put_in c f parent node from) g ≡ cond (same_fid f g) (parent_of (put_in c f parent node from) f) (parent_of c g)
put_parent c f parent node from g = elim (fid_cases g f) [
  | inl at ↦ ap (parent_of (put_in c f parent node from)) at ∙ sym (ap (λ b. cond b (parent_of (put_in c f parent node from) f) (parent_of c g)) (ap (same_fid f) at ∙ same_fid_refl f))
  | inr apart ↦ ap parent_held (get_else fids_total exact_fids c.holds f _ g apart) ∙ sym (ap (λ b. cond b (parent_of (put_in c f parent node from) f) (parent_of c g)) (not_same f g (λ at. apart (sym at))))
]

taken_parent : (b : Bool) (o : Option Hold) → parent_held (cond b None o) ≡ cond b None (parent_held o)
taken_parent true o = refl
taken_parent false o = refl

pub dropped_parent : (c : CacheState) (fids : List Fid) (g : Fid) → parent_of (dropped c fids) g ≡ cond (is_listed fids g) None (parent_of c g)
dropped_parent c fids g = ap parent_held (taken_at c.holds fids g) ∙ taken_parent (is_listed fids g) (map.get c.holds g)

-- ---- what is kept after each step

module _ (s : Children) (c n : CacheState) where
  under_by : (m : CacheState) (p : Fid → Option Fid) → n ≡ m → ((g : Fid) → parent_of m g ≡ p g) → AreUnder s p → AreUnder s (parent_of n)
  under_by m p is same h = under_same s p (parent_of n) (λ g. ap (λ (x : CacheState). parent_of x g) is ∙ same g) h

  pub under_used : (f : Fid) → n ≡ used c f → AreUnder s (parent_of c) → AreUnder s (parent_of n)
  under_used f is h = under_by (used c f) (parent_of c) is (used_parent c f) h

  pub under_pinned : (volume : Option ℕ) (fids : List Fid) → n ≡ pinned_of c volume fids → AreUnder s (parent_of c) → AreUnder s (parent_of n)
  under_pinned volume fids is h = under_by (pinned_of c volume fids) (parent_of c) is (pinned_parent c volume fids) h

  pub under_invalidated : (f : Fid) → n ≡ invalidated c f → AreUnder s (parent_of c) → AreUnder s (parent_of n)
  under_invalidated f is h = under_by (invalidated c f) (parent_of c) is (altered_parent c.holds f not_valid (λ _. refl)) h

  pub under_left : (volume server : ℕ) → n ≡ invalidated_from c volume server → AreUnder s (parent_of c) → AreUnder s (parent_of n)
  under_left volume server is h = under_by (invalidated_from c volume server) (parent_of c) is (from_parent c volume server) h

  pub under_out : (f : Fid) → n ≡ steps.without c f → AreUnder s (λ g. cond (same_fid f g) None (parent_of c g)) → AreUnder s (parent_of n)
  under_out f is h = under_by (steps.without c f) _ is (out_parent c f) h

  pub under_dropped : (fids : List Fid) → n ≡ dropped c fids → AreUnder s (λ g. cond (is_listed fids g) None (parent_of c g)) → AreUnder s (parent_of n)
  under_dropped fids is h = under_by (dropped c fids) _ is (dropped_parent c fids) h

  pub under_put : (f : Fid) (parent : Option Fid) (node : Node) (from : Option ℕ) → n ≡ put_in c f parent node from → (now : Option Fid) → now ≡ parent_of n f →
      AreUnder s (λ g. cond (same_fid f g) now (parent_of c g)) → AreUnder s (parent_of n)
  under_put f parent node from is now at h = under_by (put_in c f parent node from) _ is (λ g. put_parent c f parent node from g ∙ ap (λ o. cond (same_fid f g) o (parent_of c g)) (sym (at ∙ ap (λ (x : CacheState). parent_of x f) is))) h

-- a node that wasn't cached is under the directory under which it is put
pub under_new : (c n : CacheState) (f dir : Fid) (node : Node) (from : Option ℕ) → n ≡ put_in c f (Some dir) node from → Agree c.nodes c.holds c.recency → is_cached c f ≡ false → Some dir ≡ parent_of n f
under_new c n f dir node from is a free = sym (ap (λ (x : CacheState). parent_of x f) is ∙ ap parent_held (get_here fids_total c.holds f _) ∙ kept (map.get c.holds f) (a.held f ∙ free))
  where
    kept : (o : Option Hold) → is_some o ≡ false → kept_parent o (Some dir) ≡ Some dir
    kept None h = refl
    kept (Some hold) h = absurd (both_ways _ h refl)
