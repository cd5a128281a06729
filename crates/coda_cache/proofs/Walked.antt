-- Nodes that are put in turn, with or without blank ones before.
use Rattle.std.proofs.Common.{◌≡◌, ◌≢◌, ℕ, zero, suc, Bool, true, false, cond, not, ◌||◌, ◌&&◌, List, [], ◌∷◌, ◌++◌, Option, Some, None, is_some, refl, sym, ap, ◌∙◌, subst, inl, inr, append-nil, append_assoc, ◌<◌, length, take, arith}
use Rattle.std.specs.Prelude.{if◌then◌else◌, ◌==◌, slice_index_or}
use Rattle.std.specs.List.{filter}
use Rattle.std.specs.FinMap as map
use Rattle.std.specs.FinMap.{FinMap}
use Rattle.std.proofs.lemmas.Bool.{both_ways}
use Rattle.coda_fid.specs.declared.fid.Fid.{Fid}
use Rattle.coda_fid.specs.Fid.{fid_cmp, same_fid}
use Rattle.coda_fid.proofs.Fids.{fids_total, exact_fids, same_fid_is, same_fid_refl}
use Rattle.coda_tree.specs.declared.node.Node.{Node}
use Rattle.coda_tree.proofs.Order.{fid_cases, get_here, get_else, gone_here, gone_else, insert_removed}
use Rattle.coda_tree.proofs.Keyed.{not_same}
use Rattle.coda_walk.specs.Going.{is_listed}
use Rattle.coda_cache.specs.declared.hold.Hold.{Hold}
use Rattle.coda_cache.specs.Uses.{except, latest}
use Rattle.coda_cache.specs.State.{CacheState, Priorities, is_cached}
use Rattle.coda_cache.specs.Keeping.{Agree}
use Rattle.coda_cache.specs.Steps.{kept_parent, put_in, put_all, given_to, without}
use Rattle.coda_cache.specs.Walking.{blank, begun, begun_all, undone, AreCached}
use Rattle.coda_cache.proofs.Agreeing.{agree_put, forgotten}
use Rattle.coda_cache.proofs.Uses.{filter_joined, all_but_none, same_turned}
use Rattle.coda_cache.proofs.Removed.{filter_twice, filter_all}

abbrev pub Put : Type 0
Put = Fid × Option Fid × Node × ℕ

-- the fids of nodes that are put
abbrev fids_put : List Put → List Fid
fids_put [] = []
fids_put (p ∷ puts) = p.0 ∷ fids_put puts

-- the parent that is given first for a fid
abbrev given_first : List Put → Fid → Option Fid
given_first [] q = None
given_first (p ∷ puts) q = cond (same_fid p.0 q) p.1 (given_first puts q)

-- the uses of fids that are not put
abbrev other_uses : List Put → List Fid → List Fid
other_uses puts recency = filter (λ g. not (is_listed (fids_put puts) g)) recency

-- Two caches from which the same puts lead to the same: they differ at most at what is put, and there in no parent.
pub record Alike (a b : CacheState) (puts : List Put) : Type 0 where
  pub size : a.size ≡ b.size
  pub priorities : a.priorities ≡ b.priorities
  pub nodes : (q : Fid) → is_listed (fids_put puts) q ≡ false → map.get a.nodes q ≡ map.get b.nodes q
  pub holds : (q : Fid) → is_listed (fids_put puts) q ≡ false → map.get a.holds q ≡ map.get b.holds q
  pub parents : (q : Fid) → kept_parent (map.get a.holds q) (given_first puts q) ≡ kept_parent (map.get b.holds q) (given_first puts q)
  pub recency : other_uses puts a.recency ≡ other_uses puts b.recency

-- ---- the order of use

cons_or : (a b : Bool) → (not a && not b) ≡ not (a || b)
cons_or true b = refl
cons_or false b = refl

other_latest : (p : Put) (puts : List Put) (recency : List Fid) → other_uses puts (latest recency p.0) ≡ other_uses (p ∷ puts) recency ++ other_uses puts (p.0 ∷ [])
other_latest p puts recency =
    filter_joined (λ g. not (is_listed (fids_put puts) g)) (except recency p.0) (p.0 ∷ [])
    ∙ ap (λ l. l ++ other_uses puts (p.0 ∷ []))
    (filter_twice (λ g. not (same_fid g p.0)) (λ g. not (is_listed (fids_put puts) g)) (λ g. not (is_listed (fids_put (p ∷ puts)) g)) recency
    (λ g. ap (λ b. not b && not (is_listed (fids_put puts) g)) (same_turned g p.0) ∙ cons_or (same_fid p.0 g) (is_listed (fids_put puts) g)))

-- ---- one put more

alike_put : (a b : CacheState) (p : Put) (puts : List Put) → Alike a b (p ∷ puts) → Alike (put_in a p.0 p.1 p.2 (Some p.3)) (put_in b p.0 p.1 p.2 (Some p.3)) puts
alike_put a b p puts r = record {
  size = r.size;
  priorities = r.priorities;
  nodes = λ q other. elim (fid_cases q p.0) [
    | inl at ↦ (ap (map.get (map.insert a.nodes p.0 p.2)) at ∙ get_here fids_total a.nodes p.0 p.2) ∙ sym (ap (map.get (map.insert b.nodes p.0 p.2)) at ∙ get_here fids_total b.nodes p.0 p.2)
    | inr apart ↦ get_else fids_total exact_fids a.nodes p.0 p.2 q apart ∙ r.nodes q (apart_from q apart other) ∙ sym (get_else fids_total exact_fids b.nodes p.0 p.2 q apart)
  ];
  holds = λ q other. elim (fid_cases q p.0) [
    | inl at ↦ here q at
    | inr apart ↦ get_else fids_total exact_fids a.holds p.0 (held a) q apart ∙ r.holds q (apart_from q apart other) ∙ sym (get_else fids_total exact_fids b.holds p.0 (held b) q apart)
  ];
  parents = λ q. elim (fid_cases q p.0) [
    | inl at ↦ ap (λ (o : Option Hold). kept_parent o (given_first puts q)) (here q at)
    | inr apart ↦
        let given : given_first (p ∷ puts) q ≡ given_first puts q = ap (λ t. cond t p.1 (given_first puts q)) (not_same p.0 q (λ same. apart (sym same))) in
        (λ i. kept_parent (get_else fids_total exact_fids a.holds p.0 (held a) q apart i) (sym given i)) ∙ r.parents q ∙ (λ i. kept_parent (sym (get_else fids_total exact_fids b.holds p.0 (held b) q apart) i) (given i))
  ];
  recency = other_latest p puts a.recency ∙ ap (λ l. l ++ other_uses puts (p.0 ∷ [])) r.recency ∙ sym (other_latest p puts b.recency);
}
  where
    held : CacheState → Hold
    held c = record { parent = kept_parent (map.get c.holds p.0) p.1; from = Some p.3; dirty = false }

    apart_from : (q : Fid) → q ≢ p.0 → is_listed (fids_put puts) q ≡ false → is_listed (fids_put (p ∷ puts)) q ≡ false
    apart_from q apart other = ap (λ t. t || is_listed (fids_put puts) q) (not_same p.0 q (λ same. apart (sym same))) ∙ other

    first : given_first (p ∷ puts) p.0 ≡ p.1
    first = ap (λ t. cond t p.1 (given_first puts p.0)) (same_fid_refl p.0)

    same_held : held a ≡ held b
    same_held = λ i. record { parent = ((λ j. kept_parent (map.get a.holds p.0) (sym first j)) ∙ r.parents p.0 ∙ (λ j. kept_parent (map.get b.holds p.0) (first j))) i; from = Some p.3; dirty = false }

    here : (q : Fid) → q ≡ p.0 → map.get (map.insert a.holds p.0 (held a)) q ≡ map.get (map.insert b.holds p.0 (held b)) q
    here q at = ap (map.get (map.insert a.holds p.0 (held a))) at ∙ get_here fids_total a.holds p.0 (held a) ∙ ap Some same_held ∙ sym (ap (map.get (map.insert b.holds p.0 (held b))) at ∙ get_here fids_total b.holds p.0 (held b))

all_same : (a b : CacheState) → Alike a b [] → a ≡ b
all_same a b r = λ i. record {
  size = r.size i;
  nodes = map.same_map fids_total exact_fids a.nodes b.nodes (λ q. r.nodes q refl) i;
  holds = map.same_map fids_total exact_fids a.holds b.holds (λ q. r.holds q refl) i;
  recency = (sym (filter_all a.recency) ∙ r.recency ∙ filter_all b.recency) i;
  priorities = r.priorities i;
}

pub put_alike : (a b : CacheState) (puts : List Put) → Alike a b puts → put_all a puts ≡ put_all b puts
put_alike a b [] r = all_same a b r
put_alike a b (p ∷ puts) r = put_alike (put_in a p.0 p.1 p.2 (Some p.3)) (put_in b p.0 p.1 p.2 (Some p.3)) puts (alike_put a b p puts r)

-- ---- blank nodes before

pub begun_cached : (c : CacheState) (f : Fid) (parent : Option Fid) → is_cached (begun c f parent) f ≡ true
begun_cached c f parent = (elim (is_cached c f) as (λ b. is_cached c f ≡ b → is_cached (if b then c else put_in c f parent blank None) f ≡ true) [
  | true ↦ λ there. there
  | false ↦ λ _. ap (λ (o : Option Node). is_some o) (get_here fids_total c.nodes f blank)
]) refl

begun_still : (c : CacheState) (f : Fid) (parent : Option Fid) (q : Fid) → is_cached c q ≡ true → is_cached (begun c f parent) q ≡ true
begun_still c f parent q there = elim (is_cached c f) as (λ b. is_cached (if b then c else put_in c f parent blank None) q ≡ true) [
  | true ↦ there
  | false ↦ elim (fid_cases q f) [
    | inl at ↦ ap (λ (o : Option Node). is_some o) (ap (map.get (map.insert c.nodes f blank)) at ∙ get_here fids_total c.nodes f blank)
    | inr apart ↦ ap (λ (o : Option Node). is_some o) (get_else fids_total exact_fids c.nodes f blank q apart) ∙ there
  ]
]

all_still : (c : CacheState) (puts : List Put) (q : Fid) → is_cached c q ≡ true → is_cached (begun_all c puts) q ≡ true
all_still c [] q there = there
all_still c (p ∷ puts) q there = all_still (begun c p.0 p.1) puts q (begun_still c p.0 p.1 q there)

-- ---- a blank node leads to the same

-- a has no other parents than b, whose cached nodes beside those of a were begun from puts of the front
blank_alike : (a b : CacheState) (puts : List Put) (f : Fid) (parent : Option Fid) → Agree b.nodes b.holds b.recency → is_cached b f ≡ false → is_listed (fids_put puts) f ≡ true → given_first puts f ≡ parent → Alike a b puts → Alike a (put_in b f parent blank None) puts
blank_alike a b puts f parent agree free listed given r = record {
  size = r.size;
  priorities = r.priorities;
  nodes = λ q other. r.nodes q other ∙ sym (get_else fids_total exact_fids b.nodes f blank q (differs q other));
  holds = λ q other. r.holds q other ∙ sym (get_else fids_total exact_fids b.holds f held q (differs q other));
  parents = λ q. elim (fid_cases q f) [
    | inl at ↦
        r.parents q ∙ (λ i. kept_parent (map.get b.holds (at i)) (given_first puts (at i))) ∙ ap (λ o. kept_parent (map.get b.holds f) o) given
        ∙ sym ((λ i. kept_parent (map.get (map.insert b.holds f held) (at i)) (given_first puts (at i))) ∙ ap (λ (o : Option Hold). kept_parent o (given_first puts f)) (get_here fids_total b.holds f held))
    | inr apart ↦ r.parents q ∙ ap (λ (o : Option Hold). kept_parent o (given_first puts q)) (sym (get_else fids_total exact_fids b.holds f held q apart))
  ];
  recency = r.recency ∙ sym (filter_joined (λ g. not (is_listed (fids_put puts) g)) (except b.recency f) (f ∷ [])
      ∙ ap (λ t. other_uses puts (except b.recency f) ++ cond (not t) (f ∷ []) []) listed ∙ append-nil (other_uses puts (except b.recency f))
      ∙ ap (other_uses puts) (all_but_none (λ g. same_fid g f) f (λ g. refl) b.recency (agree.used f ∙ free)));
}
  where
    held : Hold
    held = record { parent = kept_parent (map.get b.holds f) parent; from = None; dirty = false }

    differs : (q : Fid) → is_listed (fids_put puts) q ≡ false → q ≢ f
    differs q other same = both_ways _ other (ap (is_listed (fids_put puts)) same ∙ listed)

-- ---- what is undone

pub undone_last : (c : CacheState) (fids : List Fid) (f : Fid) → undone c (fids ++ f ∷ []) ≡ undone (without c f) fids
undone_last c [] f = refl
undone_last c (g ∷ fids) f = ap (λ s. without s g) (undone_last c fids f)

no_hold : (o : Option Hold) → is_some o ≡ false → o ≡ None
no_hold None h = refl
no_hold (Some hold) h = absurd (both_ways _ h refl)

no_node : (o : Option Node) → is_some o ≡ false → o ≡ None
no_node None h = refl
no_node (Some node) h = absurd (both_ways _ h refl)

-- a node that was put where none was cached, and taken out again
pub put_undone : (c : CacheState) (f : Fid) (parent : Option Fid) (node : Node) (from : Option ℕ) → Agree c.nodes c.holds c.recency → is_cached c f ≡ false → without (put_in c f parent node from) f ≡ c
put_undone c f parent node from agree free = λ i. record {
  size = c.size;
  nodes = insert_removed fids_total exact_fids c.nodes f node (no_node (map.get c.nodes f) free) i;
  holds = insert_removed fids_total exact_fids c.holds f (record { parent = kept_parent (map.get c.holds f) parent; from = from; dirty = false }) (no_hold (map.get c.holds f) (agree.held f ∙ free)) i;
  recency = forgotten c.recency f (agree.used f ∙ free) i;
  priorities = c.priorities;
}

-- ---- blank nodes of all that is put

agree_begun : (c : CacheState) (f : Fid) (parent : Option Fid) → Agree c.nodes c.holds c.recency → Agree (begun c f parent).nodes (begun c f parent).holds (begun c f parent).recency
agree_begun c f parent a = elim (is_cached c f) as (λ b. Agree (if b then c else put_in c f parent blank None).nodes (if b then c else put_in c f parent blank None).holds (if b then c else put_in c f parent blank None).recency) [
  | true ↦ a
  | false ↦ agree_put c.nodes c.holds c.recency a f blank (record { parent = kept_parent (map.get c.holds f) parent; from = None; dirty = false })
]

listed_between : (done : List Put) (p : Put) (rest : List Put) → is_listed (fids_put (done ++ p ∷ rest)) p.0 ≡ true
listed_between [] p rest = ap (λ t. t || is_listed (fids_put rest) p.0) (same_fid_refl p.0)
listed_between (x ∷ done) p rest = later (same_fid x.0 p.0) (is_listed (fids_put (done ++ p ∷ rest)) p.0) (listed_between done p rest)
  where
    later : (a b : Bool) → b ≡ true → (a || b) ≡ true
    later true b h = refl
    later false b h = h

given_between : (c : CacheState) (done : List Put) (p : Put) (rest : List Put) → AreCached c done → is_cached c p.0 ≡ false → given_first (done ++ p ∷ rest) p.0 ≡ p.1
given_between c [] p rest cached free = ap (λ t. cond t p.1 (given_first rest p.0)) (same_fid_refl p.0)
given_between c (x ∷ done) p rest cached free = (elim (same_fid x.0 p.0) as (λ t. same_fid x.0 p.0 ≡ t → cond t x.1 (given_first (done ++ p ∷ rest) p.0) ≡ p.1) [
  | true ↦ λ e. absurd (both_ways _ free (ap (is_cached c) (sym (same_fid_is x.0 p.0 e)) ∙ cached.0))
  | false ↦ λ _. given_between c done p rest cached.1 free
]) refl

cached_last : (c : CacheState) (done : List Put) (p : Put) → AreCached c done → is_cached c p.0 ≡ true → AreCached c (done ++ p ∷ [])
cached_last c [] p cached there = (there, tt)
cached_last c (x ∷ done) p cached there = (cached.0, cached_last c done p cached.1 there)

still_cached : (c : CacheState) (f : Fid) (parent : Option Fid) (done : List Put) → AreCached c done → AreCached (begun c f parent) done
still_cached c f parent [] cached = tt
still_cached c f parent (x ∷ done) cached = (begun_still c f parent x.0 cached.0, still_cached c f parent done cached.1)

begun_alike : (a b : CacheState) (done rest : List Put) → Agree b.nodes b.holds b.recency → AreCached b done → Alike a b (done ++ rest) → Alike a (begun_all b rest) (done ++ rest)
begun_alike a b done [] agree cached r = r
begun_alike a b done (p ∷ rest) agree cached r =
    let one : Alike a (begun b p.0 p.1) (done ++ p ∷ rest) = (elim (is_cached b p.0) as (λ t. is_cached b p.0 ≡ t → Alike a (if t then b else put_in b p.0 p.1 blank None) (done ++ p ∷ rest)) [
      | true ↦ λ _. r
      | false ↦ λ free. blank_alike a b (done ++ p ∷ rest) p.0 p.1 agree free (listed_between done p rest) (given_between b done p rest cached free) r
    ]) refl in
    let parts : (done ++ p ∷ []) ++ rest ≡ done ++ p ∷ rest = append_assoc done (p ∷ []) rest in
    subst (Alike a (begun_all (begun b p.0 p.1) rest)) parts
    (begun_alike a (begun b p.0 p.1) (done ++ p ∷ []) rest (agree_begun b p.0 p.1 agree) (cached_last (begun b p.0 p.1) done p (still_cached b p.0 p.1 done cached) (begun_cached b p.0 p.1))
    (subst (Alike a (begun b p.0 p.1)) (sym parts) one))

-- puts after blank nodes of them lead to what the puts alone do
pub put_after_blanks : (c : CacheState) (puts : List Put) → Agree c.nodes c.holds c.recency → put_all (begun_all c puts) puts ≡ put_all c puts
put_after_blanks c puts agree = sym (put_alike c (begun_all c puts) puts (begun_alike c c [] puts agree tt (record {
  size = refl;
  priorities = refl;
  nodes = λ q other. refl;
  holds = λ q other. refl;
  parents = λ q. refl;
  recency = refl;
})))

pub all_cached : (c : CacheState) (puts : List Put) → AreCached (begun_all c puts) puts
all_cached c [] = tt
all_cached c (p ∷ puts) = (all_still (begun c p.0 p.1) puts p.0 (begun_cached c p.0 p.1), all_cached (begun c p.0 p.1) puts)

-- what is cached stays so when a node is put
pub put_cached : (c : CacheState) (f : Fid) (parent : Option Fid) (node : Node) (from : Option ℕ) (q : Fid) → is_cached c q ≡ true → is_cached (put_in c f parent node from) q ≡ true
put_cached c f parent node from q there = elim (fid_cases q f) [
  | inl at ↦ ap (λ (o : Option Node). is_some o) (ap (map.get (map.insert c.nodes f node)) at ∙ get_here fids_total c.nodes f node)
  | inr apart ↦ ap (λ (o : Option Node). is_some o) (get_else fids_total exact_fids c.nodes f node q apart) ∙ there
]

pub are_still_cached : (c : CacheState) (f : Fid) (parent : Option Fid) (node : Node) (from : Option ℕ) (puts : List Put) → AreCached c puts → AreCached (put_in c f parent node from) puts
are_still_cached c f parent node from [] cached = tt
are_still_cached c f parent node from (x ∷ puts) cached = (put_cached c f parent node from x.0 cached.0, are_still_cached c f parent node from puts cached.1)

-- one node more begins
pub begun_more : (c : CacheState) (puts : List Put) (i : ℕ) (d : Put) → i < length puts → begun_all c (take (suc i) puts) ≡ begun (begun_all c (take i puts)) (slice_index_or puts i d).0 (slice_index_or puts i d).1
begun_more c [] i d h = absurd (omega (arith, h))
begun_more c (p ∷ puts) zero d h = refl
begun_more c (p ∷ puts) (suc i) d h = begun_more (begun c p.0 p.1) puts i d (omega (arith, h))

-- what is undone where nothing was put
pub none_undone : (c : CacheState) (f : Fid) → Agree c.nodes c.holds c.recency → is_cached c f ≡ false → without c f ≡ c
none_undone c f agree free = λ i. record {
  size = c.size;
  nodes = absent c.nodes (no_node (map.get c.nodes f) free) i;
  holds = absent c.holds (no_hold (map.get c.holds f) (agree.held f ∙ free)) i;
  recency = all_but_none (λ g. same_fid g f) f (λ g. refl) c.recency (agree.used f ∙ free) i;
  priorities = c.priorities;
}
  where
    absent : {X : Type 0} (m : FinMap fid_cmp X) → map.get m f ≡ None → map.remove m f ≡ m
    absent m none = map.same_map fids_total exact_fids (map.remove m f) m (λ q. elim (fid_cases q f) [
      | inl at ↦ ap (map.get (map.remove m f)) at ∙ gone_here fids_total m f ∙ sym (ap (map.get m) at ∙ none)
      | inr apart ↦ gone_else fids_total exact_fids m f q apart
    ])

-- a node was put, or not, after it was noted
pub undone_begun : (c n : CacheState) (fids : List Fid) (f : Fid) → without n f ≡ c → undone n (fids ++ f ∷ []) ≡ undone c fids
undone_begun c n fids f back = undone_last n fids f ∙ ap (λ s. undone s fids) back

-- a priority more is given
pub given_more : (m : Priorities) (of : List (Fid × ℕ)) (i : ℕ) (d : Fid × ℕ) → i < length of → given_to m (take (suc i) of) ≡ (if (slice_index_or of i d).1 == 0 then given_to m (take i of) else map.insert (given_to m (take i of)) (slice_index_or of i d).0 (slice_index_or of i d).1)
given_more m [] i d h = absurd (omega (arith, h))
given_more m (e ∷ of) zero d h = refl
given_more m (e ∷ of) (suc i) d h = given_more (if e.1 == 0 then m else map.insert m e.0 e.1) of i d (omega (arith, h))
