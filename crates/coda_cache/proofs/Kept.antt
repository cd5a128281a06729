-- Each step leaves a cache.
use Rattle.std.proofs.Common.{◌≡◌, ℕ, Bool, true, false, cond, not, ◌||◌, ◌&&◌, List, [], ◌∷◌, ◌++◌, Option, Some, None, is_some, option_map, refl, sym, ap, ◌∙◌, inl, inr}
use Rattle.std.specs.Prelude.{if◌then◌else◌}
use Rattle.std.specs.List.{filter, AllByRecursion, IsDistinct}
use Rattle.std.specs.FinMap as map
use Rattle.std.proofs.lemmas.Bool.{both_ways}
use Rattle.std.proofs.lemmas.Option.{none-some}
use Rattle.coda_fid.specs.declared.fid.Fid.{Fid}
use Rattle.coda_fid.specs.Fid.{fid_cmp, same_fid}
use Rattle.coda_fid.proofs.Fids.{same_fid_is}
use Rattle.coda_tree.specs.declared.node.Node.{Node}
use Rattle.coda_tree.specs.Slots.{altered}
use Rattle.coda_tree.specs.Volume.{has}
use Rattle.coda_tree.proofs.Order.{fid_cases}
use Rattle.coda_tree.proofs.Keyed.{at_altered, off_altered}
use Rattle.coda_walk.specs.Going.{is_listed}
use Rattle.coda_cache.specs.declared.hold.Hold.{Hold}
use Rattle.coda_cache.specs.Uses.{except, latest}
use Rattle.coda_cache.specs.State.{CacheState, Holds, empty_cache, is_cached, parent_of, parent_held}
use Rattle.coda_cache.specs.Ways.{is_below, at_or_below}
use Rattle.coda_cache.specs.Keeping.{Agree}
use Rattle.coda_cache.specs.Steps.{used, each, not_valid, invalidated, invalidated_from, valid_but_from, dirty_where, dirty_in, pinned_to, pinned_in, set_dirty, marked, except_all, dropped, removed}
use Rattle.coda_cache.specs.Laws.{IsCache, MayGo}
use Rattle.coda_cache.proofs.Agreeing.{agree_none, agree_used, agree_altered, except_here}
use Rattle.coda_cache.proofs.Written.{get_each, agree_each}
use Rattle.coda_cache.proofs.Taken.{taken_at, agree_taken}
use Rattle.coda_cache.proofs.Climbs.{below_by, child_cached}

-- ---- fids that differ

all_filter : (P : Fid → Type 0) (test : Fid → Bool) (fids : List Fid) → AllByRecursion P fids → AllByRecursion P (filter test fids)
all_filter P test [] h = tt
all_filter P test (f ∷ fids) h = elim (test f) as (λ b. AllByRecursion P (cond b (f ∷ filter test fids) (filter test fids))) [
  | true ↦ (h.0, all_filter P test fids h.1)
  | false ↦ all_filter P test fids h.1
]

distinct_filter : (test : Fid → Bool) (fids : List Fid) → IsDistinct same_fid fids → IsDistinct same_fid (filter test fids)
unfolding IsDistinct
distinct_filter test [] h = tt
distinct_filter test (f ∷ fids) h = elim (test f) as (λ b. IsDistinct same_fid (cond b (f ∷ filter test fids) (filter test fids))) [
  | true ↦ (all_filter (λ y. same_fid f y ≡ false) test fids h.0, distinct_filter test fids h.1)
  | false ↦ distinct_filter test fids h.1
]

distinct_last : (fids : List Fid) (f : Fid) → IsDistinct same_fid fids → is_listed fids f ≡ false → IsDistinct same_fid (fids ++ f ∷ [])
unfolding IsDistinct
distinct_last [] f d free = (tt, tt)
distinct_last (g ∷ fids) f d free = (elim (same_fid g f) as (λ b. same_fid g f ≡ b → (b || is_listed fids f) ≡ false → IsDistinct same_fid (g ∷ (fids ++ f ∷ []))) [
  | true ↦ λ e k. absurd (both_ways _ k refl)
  | false ↦ λ e k. (all_last fids e d.0, distinct_last fids f d.1 k)
]) refl free
  where
    all_last : (rest : List Fid) → same_fid g f ≡ false → AllByRecursion (λ y. same_fid g y ≡ false) rest → AllByRecursion (λ y. same_fid g y ≡ false) (rest ++ f ∷ [])
    all_last [] e h = (e, tt)
    all_last (x ∷ rest) e h = (h.0, all_last rest e h.1)

pub distinct_latest : (fids : List Fid) (f : Fid) → IsDistinct same_fid fids → IsDistinct same_fid (latest fids f)
distinct_latest fids f d = distinct_last (except fids f) f (distinct_filter (λ g. not (same_fid g f)) fids d) (except_here fids f)

distinct_except : (recency fids : List Fid) → IsDistinct same_fid recency → IsDistinct same_fid (except_all recency fids)
distinct_except recency [] d = d
distinct_except recency (f ∷ fids) d = distinct_except (except recency f) fids (distinct_filter (λ g. not (same_fid g f)) recency d)

-- ---- where parents stay

pub agree_of : (c : CacheState) → IsCache c → Agree c.nodes c.holds c.recency
agree_of c k = record { held = k.held; used = k.used }

-- a cache whose nodes have the same parents
pub same_parents : (c n : CacheState) → IsCache c → Agree n.nodes n.holds n.recency → IsDistinct same_fid n.recency → ((f : Fid) → is_cached n f ≡ is_cached c f) → ((f : Fid) → parent_of n f ≡ parent_of c f) → IsCache n
same_parents c n k a d has same = record {
  held = a.held;
  used = a.used;
  once = d;
  depth = k.depth;
  parents = λ f p is. has p ∙ k.parents f p (sym (same f) ∙ is);
  deeper = λ f p is. k.deeper f p (sym (same f) ∙ is);
}

pub empty_kept : (size : ℕ) → IsCache (empty_cache size)
unfolding IsDistinct
empty_kept size = record {
  held = agree_none.held;
  used = agree_none.used;
  once = tt;
  depth = λ _. 0;
  parents = λ f p is. absurd (none-some p (sym (ap parent_held (map.get-empty fid_cmp f)) ∙ is));
  deeper = λ f p is. absurd (none-some p (sym (ap parent_held (map.get-empty fid_cmp f)) ∙ is));
}

pub used_kept : (c : CacheState) (f : Fid) → IsCache c → IsCache (used c f)
used_kept c f k = (elim (is_cached c f) as (λ b. is_cached c f ≡ b → IsCache (if b then record c { recency = latest c.recency f } else c)) [
  | true ↦ λ there. same_parents c (record c { recency = latest c.recency f }) k (agree_used c.nodes c.holds c.recency (agree_of c k) f (k.used f ∙ there)) (distinct_latest c.recency f k.once) (λ q. refl) (λ q. refl)
  | false ↦ λ _. k
]) refl

pub parent_altered : (holds : Holds) (f : Fid) (change : Hold → Hold) → ((hold : Hold) → (change hold).parent ≡ hold.parent) → (q : Fid) → parent_held (map.get (altered holds f change) q) ≡ parent_held (map.get holds q)
parent_altered holds f change same q = elim (fid_cases q f) [
  | inl at ↦ ap (λ x. parent_held (map.get (altered holds f change) x)) at ∙ ap parent_held (at_altered holds f change) ∙ changed (map.get holds f) ∙ ap (λ x. parent_held (map.get holds x)) (sym at)
  | inr off ↦ ap parent_held (off_altered holds f change q off)
]
  where
    changed : (o : Option Hold) → parent_held (option_map change o) ≡ parent_held o
    changed None = refl
    changed (Some hold) = same hold

pub altered_kept : (c : CacheState) (f : Fid) (change : Hold → Hold) → ((hold : Hold) → (change hold).parent ≡ hold.parent) → IsCache c → IsCache (record c { holds = altered c.holds f change })
altered_kept c f change same k = same_parents c (record c { holds = altered c.holds f change }) k (agree_altered c.nodes c.holds c.recency (agree_of c k) f change) k.once (λ q. refl) (parent_altered c.holds f change same)

pub each_kept : (c : CacheState) (change : Fid → Hold → Hold) → ((f : Fid) (hold : Hold) → (change f hold).parent ≡ hold.parent) → IsCache c → IsCache (record c { holds = each change c.holds })
each_kept c change same k = same_parents c (record c { holds = each change c.holds }) k (agree_each c.nodes c.holds c.recency (agree_of c k) change) k.once (λ q. refl)
    (λ q. ap parent_held (get_each change c.holds q) ∙ changed q (map.get c.holds q))
  where
    changed : (q : Fid) (o : Option Hold) → parent_held (option_map (change q) o) ≡ parent_held o
    changed q None = refl
    changed q (Some hold) = same q hold

same_if : (b : Bool) (one other : Hold) → one.parent ≡ other.parent → (if b then one else other).parent ≡ other.parent
same_if true one other same = same
same_if false one other same = refl

pub invalidated_kept : (c : CacheState) (f : Fid) → IsCache c → IsCache (invalidated c f)
invalidated_kept c f k = altered_kept c f not_valid (λ hold. refl) k

pub invalidated_from_kept : (c : CacheState) (volume server : ℕ) → IsCache c → IsCache (invalidated_from c volume server)
invalidated_from_kept c volume server k = each_kept c (valid_but_from volume server) (λ f hold. same_if _ (not_valid hold) hold refl) k

pub pinned_to_kept : (c : CacheState) (fids : List Fid) → IsCache c → IsCache (pinned_to c fids)
pinned_to_kept c fids k = each_kept c (dirty_where fids) (λ f hold. refl) k

pub pinned_in_kept : (c : CacheState) (volume : ℕ) (fids : List Fid) → IsCache c → IsCache (pinned_in c volume fids)
pinned_in_kept c volume fids k = each_kept c (dirty_in volume fids) (λ f hold. same_if _ (dirty_where fids f hold) hold refl) k

pub marked_kept : (c : CacheState) (f : Fid) (dirty : Bool) → IsCache c → IsCache (marked c f dirty)
marked_kept c f dirty k = altered_kept c f (set_dirty dirty) (λ hold. refl) k

-- ---- nodes that go

left_at : (b : Bool) (o : Option Hold) (p : Fid) → parent_held (cond b None o) ≡ Some p → (b ≡ false) × (parent_held o ≡ Some p)
left_at true o p is = absurd (none-some p is)
left_at false o p is = (refl, is)

has_left : (b : Bool) (o : Option Node) → b ≡ false → is_some o ≡ true → is_some (cond b None o) ≡ true
has_left true o e there = absurd (both_ways _ e refl)
has_left false o e there = there

pub dropped_kept : (c : CacheState) (fids : List Fid) → IsCache c → MayGo c fids → IsCache (dropped c fids)
dropped_kept c fids k may =
    let a = agree_taken c.nodes c.holds c.recency fids (agree_of c k) in
    let at : (f p : Fid) → parent_of (dropped c fids) f ≡ Some p → (is_listed fids f ≡ false) × (parent_of c f ≡ Some p) =
    λ f p is. left_at (is_listed fids f) (map.get c.holds f) p (sym (ap parent_held (taken_at c.holds fids f)) ∙ is) in
    record {
      held = a.held;
      used = a.used;
      once = distinct_except c.recency fids k.once;
      depth = k.depth;
      parents = λ f p is. ap (λ (o : Option Node). is_some o) (taken_at c.nodes fids p)
          ∙ has_left (is_listed fids p) (map.get c.nodes p) (may f p (at f p is).0 (at f p is).1) (k.parents f p (at f p is).1);
      deeper = λ f p is. k.deeper f p (at f p is).1;
    }

pub listed_where : (test : Fid → Bool) (fids : List Fid) (f : Fid) → is_listed (filter test fids) f ≡ (test f && is_listed fids f)
listed_where test [] f = nothing (test f)
  where
    nothing : (b : Bool) → false ≡ (b && false)
    nothing true = refl
    nothing false = refl
listed_where test (g ∷ fids) f = (elim (same_fid g f) as (λ b. same_fid g f ≡ b → is_listed (cond (test g) (g ∷ filter test fids) (filter test fids)) f ≡ (test f && (b || is_listed fids f))) [
  | true ↦ λ e. let same = ap test (same_fid_is g f e) in
      ap (λ x. is_listed (cond x (g ∷ filter test fids) (filter test fids)) f) same
      ∙ (elim (test f) as (λ x. test f ≡ x → is_listed (cond x (g ∷ filter test fids) (filter test fids)) f ≡ (x && true)) [
        | true ↦ λ _. ap (λ b. b || is_listed (filter test fids) f) e
        | false ↦ λ t. listed_where test fids f ∙ ap (λ b. b && is_listed fids f) t
      ]) refl
  | false ↦ λ e. (elim (test g) as (λ x. is_listed (cond x (g ∷ filter test fids) (filter test fids)) f ≡ (test f && is_listed fids f)) [
    | true ↦ ap (λ b. b || is_listed (filter test fids) f) e ∙ listed_where test fids f
    | false ↦ listed_where test fids f
  ])
]) refl

pub both_true : (a b : Bool) → (a && b) ≡ true → (a ≡ true) × (b ≡ true)
both_true true b h = (refl, h)
both_true false b h = absurd (both_ways _ refl h)

pub below_may_go : (c : CacheState) (g : Fid) → IsCache c → MayGo c (at_or_below c g)
below_may_go c g k f p stays is = (elim (is_listed (at_or_below c g) p) as (λ b. is_listed (at_or_below c g) p ≡ b → b ≡ false) [
  | true ↦ λ goes.
      let below = both_true _ _ (sym (listed_where (λ x. is_below c x g) c.recency p) ∙ goes) in
      let there = child_cached c k f p is in
      let too : is_below c f g ≡ true = below_by c k f p g there is ∙ either (same_fid f g) (is_below c p g) below.0 in
      absurd (both_ways _ stays (listed_where (λ x. is_below c x g) c.recency f ∙ (λ i. too i && (k.used f ∙ there) i)))
  | false ↦ λ _. refl
]) refl
  where
    either : (a b : Bool) → b ≡ true → (a || b) ≡ true
    either true b h = refl
    either false b h = h

pub removed_kept : (c : CacheState) (f : Fid) → IsCache c → IsCache (removed c f)
removed_kept c f k = dropped_kept c (at_or_below c f) k (below_may_go c f k)
