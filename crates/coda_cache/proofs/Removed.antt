-- What is left when a node goes with all below it, by the holds as they are kept.
use Rattle.std.proofs.Common.{◌≡◌, ◌≢◌, ℕ, zero, suc, Bool, true, false, cond, not, ◌||◌, ◌&&◌, List, [], ◌∷◌, Option, Some, None, is_some, refl, sym, ap, ◌∙◌, subst, inl, inr}
use Rattle.std.specs.List.{filter, IsDistinct}
use Rattle.std.specs.Map.{keys_of}
use Rattle.std.specs.Map.Calls.{RetainsPairs}
use Rattle.std.specs.Option.{option_map_or}
use Rattle.std.specs.Ordering.{eq_by_cmp, is_eq}
use Rattle.std.specs.declared.cmp.Ordering.TheVariants.{Equal}
use Rattle.std.specs.HashMap.{HashMap, hash_map_len}
use Rattle.std.specs.FinMap as map
use Rattle.std.specs.FinMap.{FinMap}
use Rattle.std.proofs.lemmas.Bool.{false_from_ne_true}
use Rattle.std.proofs.lemmas.Cmp.{tied_itself}
use Rattle.coda_fid.specs.declared.fid.Fid.{Fid}
use Rattle.coda_fid.specs.Fid.{fid_cmp, same_fid}
use Rattle.coda_fid.proofs.Fids.{fids_total, exact_fids}
use Rattle.coda_tree.specs.declared.node.Node.{Node}
use Rattle.coda_tree.specs.Volume.{has}
use Rattle.coda_tree.proofs.Order.{fid_cases}
use Rattle.coda_tree.proofs.Parents.{tied_fid}
use Rattle.coda_walk.specs.Going.{is_listed}
use Rattle.coda_cache.specs.declared.hold.Hold.{Hold}
use Rattle.coda_cache.specs.Uses.{except}
use Rattle.coda_cache.specs.Held.{holds_of, way_in, below_in, way_of, below_of}
use Rattle.coda_cache.specs.State.{CacheState, parent_of, parent_held}
use Rattle.coda_cache.specs.Ways.{way_within, way_up, at_or_below}
use Rattle.coda_cache.specs.Keeping.{Agree}
use Rattle.coda_cache.specs.Steps.{taken_from, except_all, dropped, removed}
use Rattle.coda_tree.proofs.Keyed.{get_keyed as get_hashed}
use Rattle.coda_cache.proofs.Hashed.{keys_listed, len_hashed, listed_keys}
use Rattle.coda_cache.proofs.Ordered.{kept_at, get_keyed}
use Rattle.coda_cache.proofs.Taken.{taken_at}
use Rattle.coda_cache.proofs.Kept.{listed_where}
use Rattle.coda_cache.proofs.Uses.{same_turned}

-- ---- what a closure keeps that tests keys

pub kept_where : {F : Type 0} (T : F → Fid → Hold → Bool → Hold → F → Type 0) (p : Fid → Bool) (f : F) → ((k : Fid) (v : Hold) (b : Bool) (w : Hold) (f' : F) → T f k v b w f' → (b ≡ p k) × (w ≡ v) × (f' ≡ f)) →
    (es kept : List (Fid × Hold)) → RetainsPairs T f es kept → kept ≡ filter (λ e. p e.0) es
kept_where T p f h [] kept r = r
kept_where T p f h (e ∷ es) kept r =
    let a = h e.0 e.1 r.0 r.1 r.2 r.4 in
    let rest = kept_where T p f h es r.3 (subst (λ u. RetainsPairs T u es r.3) a.2 r.5) in
    r.6 ∙ (λ i. cond (a.0 i) ((e.0, a.1 i) ∷ rest i) (rest i))

same_test : (p : Fid → Bool) (q x : Fid) → fid_cmp q x ≡ Equal → p x ≡ p q
same_test p q x e = ap p (sym (exact_fids q x e))

none_either : (b : Bool) → cond {A = Option Hold} b None None ≡ None
none_either true = refl
none_either false = refl

kept_filter : (p : Fid → Bool) (es : List (Fid × Hold)) (q : Fid) → kept_at (filter (λ e. p e.0) es) q ≡ cond (p q) (kept_at es q) None
kept_filter p [] q = sym (none_either (p q))
kept_filter p (e ∷ es) q = elim (fid_cases q e.0) [
  | inl same ↦ (elim (p e.0) as (λ b. p e.0 ≡ b → kept_at (cond b (e ∷ filter (λ e. p e.0) es) (filter (λ e. p e.0) es)) q ≡ cond (p q) (kept_at (e ∷ es) q) None) [
    | true ↦ λ t. found q e (filter (λ e. p e.0) es) same ∙ sym (ap (λ b. cond b (kept_at (e ∷ es) q) None) (ap p same ∙ t) ∙ found q e es same)
    | false ↦ λ t. kept_filter p es q ∙ (λ i. cond ((ap p same ∙ t) i) (kept_at es q) None) ∙ sym (ap (λ b. cond b (kept_at (e ∷ es) q) None) (ap p same ∙ t))
  ]) refl
  | inr apart ↦ (elim (p e.0) as (λ b. kept_at (cond b (e ∷ filter (λ e. p e.0) es) (filter (λ e. p e.0) es)) q ≡ cond (p q) (kept_at (e ∷ es) q) None) [
    | true ↦ passed q e (filter (λ e. p e.0) es) apart ∙ kept_filter p es q ∙ ap (λ o. cond (p q) o None) (sym (passed q e es apart))
    | false ↦ kept_filter p es q ∙ ap (λ o. cond (p q) o None) (sym (passed q e es apart))
  ])
]
  where
    found : (q : Fid) (e : Fid × Hold) (es : List (Fid × Hold)) → q ≡ e.0 → kept_at (e ∷ es) q ≡ Some e.1
    found q e es same = ap (λ b. cond b (Some e.1) (kept_at es q)) (ap (λ x. eq_by_cmp fid_cmp x e.0) same ∙ ap is_eq (tied_itself fids_total e.0))

    passed : (q : Fid) (e : Fid × Hold) (es : List (Fid × Hold)) → q ≢ e.0 → kept_at (e ∷ es) q ≡ kept_at es q
    passed q e es apart = ap (λ b. cond b (Some e.1) (kept_at es q)) (false_from_ne_true _ (λ t. apart (tied_fid q e.0 t)))

pub keyed_where : (p : Fid → Bool) (old new : List (Fid × Hold)) → new ≡ filter (λ e. p e.0) old → holds_of new ≡ map.retain_keys (holds_of old) p
keyed_where p old new is = map.same_map fids_total exact_fids _ _ (λ q.
    get_keyed new q ∙ ap (λ (l : List (Fid × Hold)). kept_at l q) is ∙ kept_filter p old q ∙ ap (λ o. cond (p q) o None) (sym (get_keyed old q))
    ∙ sym (map.get-retain_keys (holds_of old) p q (same_test p q)))

-- ---- the ways up

ways_same : {S : Type 0} (m : HashMap Fid Hold S) (n : ℕ) (f : Fid) → way_in m n f ≡ way_of (holds_of m.entries) n f
ways_same m zero f = refl
ways_same m (suc n) f =
    ap (λ (o : Option Hold). f ∷ option_map_or (λ p. way_in m n p) (parent_held o) []) (sym (get_hashed m.entries f))
    ∙ (elim (parent_held (map.get (holds_of m.entries) f)) as (λ o. (f ∷ option_map_or (λ p. way_in m n p) o []) ≡ (f ∷ option_map_or (λ p. way_of (holds_of m.entries) n p) o [])) [
      | None ↦ refl
      | Some p ↦ ap (λ l. f ∷ l) (ways_same m n p)
    ])

pub filter_alike : (one other : Fid → Bool) (fids : List Fid) → ((g : Fid) → one g ≡ other g) → filter one fids ≡ filter other fids
filter_alike one other [] same = refl
filter_alike one other (g ∷ fids) same = (λ i. cond (same g i) (g ∷ filter_alike one other fids same i) (filter_alike one other fids same i))

-- the same fids are below a node, in whatever order
pub below_same : {S : Type 0} (m : HashMap Fid Hold S) (f : Fid) → IsDistinct same_fid (keys_of m.entries) → (q : Fid) → is_listed (below_in m f) q ≡ is_listed (below_of (holds_of m.entries) f) q
below_same m f distinct q =
    let way = ways_same m (hash_map_len m) q ∙ ap (λ n. way_of (holds_of m.entries) n q) (sym (len_hashed m.entries distinct)) in
    listed_where (λ g. is_listed (way_in m (hash_map_len m) g) f) (keys_of m.entries) q
    ∙ (λ i. is_listed (way i) f && listed_keys m.entries q i)
    ∙ sym (listed_where (λ g. is_listed (way_of (holds_of m.entries) (map.len (holds_of m.entries)) g) f) (map.keys (holds_of m.entries)) q)

way_is : (c : CacheState) (n : ℕ) (f : Fid) → way_of c.holds n f ≡ way_within c n f
way_is c zero f = refl
way_is c (suc n) f = elim (parent_of c f) as (λ o. (f ∷ option_map_or (λ p. way_of c.holds n p) o []) ≡ (f ∷ option_map_or (λ p. way_within c n p) o [])) [
  | None ↦ refl
  | Some p ↦ ap (λ l. f ∷ l) (way_is c n p)
]

-- ---- lists of the same fids

pub taken_same : {X : Type 0} (m : FinMap fid_cmp X) (a b : List Fid) → ((q : Fid) → is_listed a q ≡ is_listed b q) → taken_from m a ≡ taken_from m b
taken_same m a b same = map.same_map fids_total exact_fids _ _ (λ q. taken_at m a q ∙ ap (λ x. cond x None (map.get m q)) (same q) ∙ sym (taken_at m b q))

pub filter_all : (fids : List Fid) → filter (λ (_ : Fid). true) fids ≡ fids
filter_all [] = refl
filter_all (g ∷ fids) = ap (λ l. g ∷ l) (filter_all fids)

pub filter_twice : (one other both : Fid → Bool) (fids : List Fid) → ((g : Fid) → (one g && other g) ≡ both g) → filter other (filter one fids) ≡ filter both fids
filter_twice one other both [] same = refl
filter_twice one other both (g ∷ fids) same = (elim (one g) as (λ b. (b && other g) ≡ both g → filter other (cond b (g ∷ filter one fids) (filter one fids)) ≡ cond (both g) (g ∷ filter both fids) (filter both fids)) [
  | true ↦ λ e. (λ i. cond (e i) (g ∷ filter_twice one other both fids same i) (filter_twice one other both fids same i))
  | false ↦ λ e. filter_twice one other both fids same ∙ ap (λ b. cond b (g ∷ filter both fids) (filter both fids)) e
]) (same g)

except_is : (recency fids : List Fid) → except_all recency fids ≡ filter (λ g. not (is_listed fids g)) recency
except_is recency [] = sym (filter_all recency)
except_is recency (f ∷ fids) = except_is (except recency f) fids
    ∙ filter_twice (λ g. not (same_fid g f)) (λ g. not (is_listed fids g)) (λ g. not (is_listed (f ∷ fids) g)) recency (λ g. ap (λ b. not b && not (is_listed fids g)) (same_turned g f) ∙ neither (same_fid f g) (is_listed fids g))
  where
    neither : (a b : Bool) → (not a && not b) ≡ not (a || b)
    neither true b = refl
    neither false b = refl

pub except_same : (recency a b : List Fid) → ((q : Fid) → is_listed a q ≡ is_listed b q) → except_all recency a ≡ except_all recency b
except_same recency a b same = except_is recency a ∙ filter_alike _ _ recency (λ g. ap not (same g)) ∙ sym (except_is recency b)

pub same_below : (c : CacheState) (f : Fid) → Agree c.nodes c.holds c.recency → (q : Fid) → is_listed (below_of c.holds f) q ≡ is_listed (at_or_below c f) q
unfolding way_up
same_below c f a q =
    listed_where (λ g. is_listed (way_of c.holds (map.len c.holds) g) f) (map.keys c.holds) q
    ∙ (λ i. is_listed (way_is c (map.len c.holds) q i) f && (sym (keys_listed (map.keys c.holds) q) ∙ sym (map.contains_key-keys c.holds q) ∙ a.held q ∙ sym (a.used q)) i)
    ∙ sym (listed_where (λ g. is_listed (way_up c g) f) c.recency q)

-- the parts of the cache without the node and what is below it
pub nodes_removed : (c : CacheState) (f : Fid) → Agree c.nodes c.holds c.recency → taken_from c.nodes (below_of c.holds f) ≡ (removed c f).nodes
nodes_removed c f a = taken_same c.nodes _ _ (same_below c f a)

pub recency_removed : (c : CacheState) (f : Fid) → Agree c.nodes c.holds c.recency → except_all c.recency (below_of c.holds f) ≡ (removed c f).recency
recency_removed c f a = except_same c.recency _ _ (same_below c f a)

pub holds_removed : (c : CacheState) (f : Fid) → Agree c.nodes c.holds c.recency → map.retain_keys c.holds (has (removed c f).nodes) ≡ (removed c f).holds
holds_removed c f a = map.same_map fids_total exact_fids _ _ (λ q.
    map.get-retain_keys c.holds (has (removed c f).nodes) q (same_test (has (removed c f).nodes) q)
    ∙ ap (λ (o : Option Node). cond (is_some o) (map.get c.holds q) None) (taken_at c.nodes (at_or_below c f) q)
    ∙ left (is_listed (at_or_below c f) q) (map.get c.nodes q) (map.get c.holds q) (a.held q) ∙ sym (taken_at c.holds (at_or_below c f) q))
  where
    left : (b : Bool) (n : Option Node) (h : Option Hold) → is_some h ≡ is_some n → cond (is_some (cond b None n)) h None ≡ cond b None h
    left true n h same = refl
    left false n None same = none_either (is_some n)
    left false n (Some hold) same = ap (λ b. cond b (Some hold) None) (sym same)

-- the cache without these nodes, however they are listed
pub dropped_same : (c : CacheState) (a b : List Fid) → ((q : Fid) → is_listed a q ≡ is_listed b q) → dropped c a ≡ dropped c b
dropped_same c a b same = λ i. record c { nodes = taken_same c.nodes a b same i; holds = taken_same c.holds a b same i; recency = except_same c.recency a b same i }
