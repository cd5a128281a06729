-- A cache in order stays so as objects are looked up and fetched.
use Rattle.std.proofs.Common.{◌≡◌, ◌≢◌, ℕ, suc, ◌<◌, Bool, true, false, cond, ◌||◌, List, [], ◌∷◌, Option, Some, None}
use Rattle.std.proofs.Common.{IsSome}
use Rattle.std.proofs.Common.{is_some, option_map, refl, sym, ap, ◌∙◌, ⊎_elim, inl, inr, arith}
use Rattle.std.proofs.lemmas.Bool.{false≢true}
use Rattle.std.proofs.lemmas.Option.{none-some, same_Some}
use Rattle.std.specs.List.{filter, AllByRecursion, IsDistinct}
use Rattle.std.specs.FinMap as map
use Rattle.coda_fid.specs.Fid.{same_fid}
use Rattle.coda_fid.specs.declared.fid.Fid.{Fid}
use Rattle.coda_fid.proofs.Fids.{fids_total, exact_fids, same_fid_refl}
use Rattle.coda_tree.specs.declared.node.Node.{Node}
use Rattle.coda_tree.specs.Volume.{has, IsDirNode}
use Rattle.coda_tree.proofs.Order.{fid_cases, get_here, get_else, gone_here, gone_else}
use Rattle.coda_tree.proofs.Parents.{parent_sound, there_node}
use Rattle.coda_cancel.proofs.Keys.{fid_other}
use Rattle.coda_walk.specs.Going.{is_listed}
use Rattle.coda_cache.specs.Laws.{IsCache}
use Rattle.coda_cache.specs.State.{parent_held, parent_of}
use Rattle.coda_cache.specs.Uses.{latest}
use Rattle.coda_cache.proofs.Agreeing.{latest_here, latest_else}
use Rattle.coda_cache.proofs.Kept.{distinct_latest}
use Rattle.coda_record.specs.declared.entry.ClientEntry.TheVariants as entry
use Rattle.coda_venus.specs.Held.{with_parent}
use Rattle.coda_venus.specs.History.{IsParent, MayEnterAll}
use Rattle.coda_venus.specs.State.{ClientState, client_after}
use Rattle.coda_venus.specs.Serving.{ServingClient, used_all, hold_of, cache_of}
use Rattle.coda_venus.specs.Rounds.{Looked, dropping, serving_after}
use Rattle.coda_rounds.specs.Entering.{IsInOrder}
use Rattle.coda_rounds.proofs.Fetching.{left_parents, was_cached}
use Rattle.coda_venus.proofs.ServedAlike.{held_at}
use Rattle.coda_rounds.proofs.Items.{recent_is, recent_from}
use Rattle.coda_rounds.proofs.Others.{left_stays}
use Rattle.coda_rounds.proofs.Replies.{left_of}

-- ---- it is a cache

all_filter : (P : Fid → Type 0) (test : Fid → Bool) (fids : List Fid) → AllByRecursion P fids
    → AllByRecursion P (filter test fids)
all_filter P test [] h = tt
all_filter P test (f ∷ fids) h = elim (test f) as (λ b. AllByRecursion P (cond b (f ∷ filter test fids) (filter test fids))) [
  | true ↦ (h.0, all_filter P test fids h.1)
  | false ↦ all_filter P test fids h.1
]

distinct_filter : (test : Fid → Bool) (fids : List Fid) → IsDistinct same_fid fids
    → IsDistinct same_fid (filter test fids)
unfolding IsDistinct
distinct_filter test [] h = tt
distinct_filter test (f ∷ fids) h = elim (test f) as (λ b. IsDistinct same_fid (cond b (f ∷ filter test fids) (filter test fids))) [
  | true ↦ (all_filter (λ y. same_fid f y ≡ false) test fids h.0, distinct_filter test fids h.1)
  | false ↦ distinct_filter test fids h.1
]

alike : (a b : Bool) → (a ≡ true → b ≡ true) → (b ≡ true → a ≡ true) → a ≡ b
alike true b to from = sym (to refl)
alike false true to from = from refl
alike false false to from = refl

pub in_order_cache : (s : ServingClient) → IsInOrder s → IsCache (cache_of s)
in_order_cache s k = record {
  held = λ f. ap is_some (held_at s f) ∙ kept (map.get s.client.held.nodes f) (hold_of s f);
  used = λ f. alike _ _ (λ on. (recent_is s f on).0) (λ there. recent_from s f there (k.orderly.used f there));
  once = distinct_filter (λ f. has s.client.held.nodes f) s.beside.uses k.once;
  depth = k.depth;
  parents = λ f p at. k.parents f p (own f p at);
  deeper = λ f p at. k.deeper f p (own f p at);
}
  where
    kept : {A B : Type 0} (o : Option A) (b : B) → is_some (option_map (λ (x : A). b) o) ≡ is_some o
    kept None b = refl
    kept (Some x) b = refl

    own : (f p : Fid) → parent_of (cache_of s) f ≡ Some p → map.get s.client.held.parents f ≡ Some p
    own f p at = by (map.get s.client.held.nodes f) refl (sym (ap parent_held (held_at s f)) ∙ at)
      where
        by : (o : Option Node) → map.get s.client.held.nodes f ≡ o
            → parent_held (option_map (λ (n : Node). hold_of s f) o) ≡ Some p
            → map.get s.client.held.parents f ≡ Some p
        by None e h = absurd (none-some p h)
        by (Some node) e h = h

-- ---- what was looked up

pub used_latest : (uses : List Fid) (x f : Fid) → is_listed uses f ≡ true → is_listed (latest uses x) f ≡ true
used_latest uses x f on = elim (fid_cases f x) [
  | inl same ↦ ap (is_listed (latest uses x)) same ∙ latest_here uses x
  | inr off ↦ latest_else uses x f off ∙ on
]

used_more : (uses fids : List Fid) (f : Fid) → is_listed uses f ≡ true → is_listed (used_all uses fids) f ≡ true
used_more uses [] f on = on
used_more uses (x ∷ fids) f on = used_more (latest uses x) fids f (used_latest uses x f on)

distinct_all : (uses fids : List Fid) → IsDistinct same_fid uses → IsDistinct same_fid (used_all uses fids)
distinct_all uses [] d = d
distinct_all uses (x ∷ fids) d = distinct_all (latest uses x) fids (distinct_latest uses x d)

pub order_looked : (s : ServingClient) (looked : List Fid) → IsInOrder s → IsInOrder (serving_after s (Looked looked))
order_looked s looked k = record {
  orderly = record {
    used = λ f there. used_more s.beside.uses looked f (k.orderly.used f there);
    cached = k.orderly.cached;
  };
  once = distinct_all s.beside.uses looked k.once;
  depth = k.depth;
  parents = k.parents;
  deeper = k.deeper;
}

-- ---- what drops leave of parents

parent_was : (c : ClientState) (gone : List Fid) (f p : Fid) → map.get (left_of c gone).held.parents f ≡ Some p
    → (is_listed gone f ≡ false) × (map.get c.held.parents f ≡ Some p)
parent_was c [] f p at = (refl, at)
parent_was c (x ∷ gone) f p at =
    let was = parent_was (client_after c (entry.Dropped x)) gone f p at in elim (fid_cases f x) [
      | inl same ↦ absurd (none-some p (sym (ap (map.get (map.remove c.held.parents x)) same ∙ gone_here fids_total c.held.parents x) ∙ was.1))
      | inr off ↦ (
        ap (λ b. b || is_listed gone f) (fid_other x f (λ e. off (sym e))) ∙ was.0,
        sym (gone_else fids_total exact_fids c.held.parents x f off) ∙ was.1,
      )
    ]

-- the parent of what is left is left
parent_left : (c : ClientState) (gone : List Fid) (f p : Fid) → MayEnterAll c (dropping gone)
    → map.get (left_of c gone).held.parents f ≡ Some p → is_listed gone p ≡ false
parent_left c [] f p may at = refl
parent_left c (x ∷ gone) f p may at =
    let was = parent_was c (x ∷ gone) f p at in
    ap (λ b. b || is_listed gone p)
    (fid_other x p (λ same. may.0.2 f (was.1 ∙ ap Some (sym same))))
    ∙ parent_left (client_after c (entry.Dropped x)) gone f p may.1 at

-- ---- what was fetched

module _ (s : ServingClient) (gone : List Fid) (fid : Fid) (parent : Option Fid) (node : Node) (copies : Fid → Option ℕ) (k : IsInOrder s) (may : MayEnterAll s.client (dropping gone)) (fits : IsParent (left_of s.client gone).held fid parent) where
  abbrev then_left : ClientState
  then_left = left_of s.client gone

  abbrev behind : ServingClient
  behind = record {
    client = client_after then_left (entry.Fetched fid parent node);
    beside = record { copies = copies; uses = latest s.beside.uses fid };
  }

  -- a node is there behind the fetch where it is left
  there_then : (f : Fid) → IsSome (map.get then_left.held.nodes f) → IsSome (map.get behind.client.held.nodes f)
  there_then f there = elim (fid_cases f fid) [
    | inl same ↦ ap is_some (ap (map.get behind.client.held.nodes) same ∙ get_here fids_total then_left.held.nodes fid node)
    | inr off ↦ ap is_some (get_else fids_total exact_fids then_left.held.nodes fid node f off) ∙ there
  ]

  fetched_there : IsSome (map.get behind.client.held.nodes fid)
  fetched_there = ap is_some (get_here fids_total then_left.held.nodes fid node)

  there_before : (f : Fid) → f ≢ fid → IsSome (map.get behind.client.held.nodes f)
      → IsSome (map.get s.client.held.nodes f)
  there_before f off there =
      was_cached s.client gone f (ap is_some (sym (get_else fids_total exact_fids then_left.held.nodes fid node f off))
      ∙ there)

  left_there : (f : Fid) → is_listed gone f ≡ false → IsSome (map.get s.client.held.nodes f)
      → IsSome (map.get then_left.held.nodes f)
  left_there f off there = ap is_some (left_stays s.client gone f off) ∙ there

  used_then : (f : Fid) → IsSome (map.get behind.client.held.nodes f) → is_listed behind.beside.uses f ≡ true
  used_then f there = elim (fid_cases f fid) [
    | inl same ↦ ap (is_listed (latest s.beside.uses fid)) same ∙ latest_here s.beside.uses fid
    | inr off ↦ used_latest s.beside.uses fid f (k.orderly.used f (there_before f off there))
  ]

  -- the parents stay, or an object that wasn't cached gets one that is
  data NewParents : Type 0 where
    stay : ((f : Fid) → map.get behind.client.held.parents f ≡ map.get then_left.held.parents f) → NewParents
    gets : (dir : Fid) → parent ≡ Some dir → map.get then_left.held.nodes fid ≡ None
        → IsSome (map.get then_left.held.nodes dir) → NewParents

  new_parents : (o : Option Fid) → parent ≡ o → IsParent then_left.held fid o → NewParents
  new_parents None e is = stay (λ f. ap (λ (q : Option Fid). map.get (with_parent then_left.held.parents fid q) f) e)
  new_parents (Some dir) e (inl own) =
      stay (λ f. ap (λ (q : Option Fid). map.get (with_parent then_left.held.parents fid q) f) e
      ∙ ⊎_elim
      (λ (same : f ≡ fid). ap (map.get (map.insert then_left.held.parents fid dir)) same
      ∙ get_here fids_total then_left.held.parents fid dir ∙ sym own ∙ ap (map.get then_left.held.parents) (sym same))
      (λ (off : f ≢ fid). get_else fids_total exact_fids then_left.held.parents fid dir f off)
      (fid_cases f fid))
  new_parents (Some dir) e (inr new) = gets dir e new.0 (elim new.1 [
    | inl at ↦ dir_there (map.get then_left.held.nodes dir) at.1
    | inr at ↦
        let binds = parent_sound then_left.held.nodes fid dir at in
        ap is_some (there_node (map.get then_left.held.nodes dir) fid binds.0 binds.1).1
  ])
    where
      dir_there : (o : Option Node) → IsDirNode o → is_some o ≡ true
      dir_there None h = absurd h
      dir_there (Some n) h = refl

  -- ---- where the parents stay

  was_parent : (f p : Fid) → map.get then_left.held.parents f ≡ Some p → map.get s.client.held.parents f ≡ Some p
  was_parent f p at = (parent_was s.client gone f p at).1

  child_then : (f p : Fid) → map.get then_left.held.parents f ≡ Some p → IsSome (map.get behind.client.held.nodes f)
  child_then f p at =
      let was = parent_was s.client gone f p at in
      there_then f (left_there f was.0 (k.orderly.cached f p was.1))

  parent_then : (f p : Fid) → map.get then_left.held.parents f ≡ Some p → IsSome (map.get then_left.held.nodes p)
  parent_then f p at =
      left_there p (parent_left s.client gone f p may at) (k.parents f p (was_parent f p at))

  order_stays : ((f : Fid) → map.get behind.client.held.parents f ≡ map.get then_left.held.parents f) → IsInOrder behind
  order_stays same = record {
    orderly = record { used = used_then; cached = λ f p at. child_then f p (sym (same f) ∙ at) };
    once = distinct_latest s.beside.uses fid k.once;
    depth = k.depth;
    parents = λ f p at. there_then p (parent_then f p (sym (same f) ∙ at));
    deeper = λ f p at. k.deeper f p (was_parent f p (sym (same f) ∙ at));
  }

  -- ---- where the object gets a parent

  module _ (dir : Fid) (is : parent ≡ Some dir) (absent : map.get then_left.held.nodes fid ≡ None) (there : IsSome (map.get then_left.held.nodes dir)) where
    own : map.get behind.client.held.parents fid ≡ Some dir
    own =
        ap (λ (q : Option Fid). map.get (with_parent then_left.held.parents fid q) fid) is
        ∙ get_here fids_total then_left.held.parents fid dir

    other : (f : Fid) → f ≢ fid → map.get behind.client.held.parents f ≡ map.get then_left.held.parents f
    other f off =
        ap (λ (q : Option Fid). map.get (with_parent then_left.held.parents fid q) f) is
        ∙ get_else fids_total exact_fids then_left.held.parents fid dir f off

    abbrev depth : Fid → ℕ
    depth f = cond (same_fid f fid) (suc (k.depth dir)) (k.depth f)

    depth_else : (f : Fid) → f ≢ fid → depth f ≡ k.depth f
    depth_else f off = ap (λ b. cond b (suc (k.depth dir)) (k.depth f)) (fid_other f fid off)

    depth_here : depth fid ≡ suc (k.depth dir)
    depth_here = ap (λ b. cond b (suc (k.depth dir)) (k.depth fid)) (same_fid_refl fid)

    present_other : (f : Fid) → IsSome (map.get then_left.held.nodes f) → f ≢ fid
    present_other f on same =
        false≢true (ap is_some (sym absent) ∙ ap (λ x. is_some (map.get then_left.held.nodes x)) (sym same) ∙ on)

    step_down : (a b x y : ℕ) → a ≡ x → b ≡ y → x < y → a < b
    step_down a b x y e g less = omega (arith, e, g, less)

    deeper_then : (f p : Fid) → map.get behind.client.held.parents f ≡ Some p → depth p < depth f
    deeper_then f p at = elim (fid_cases f fid) [
      | inl same ↦
          let is_dir : dir ≡ p = same_Some dir p (sym own ∙ ap (map.get behind.client.held.parents) (sym same) ∙ at) in
          step_down (depth p) (depth f) (k.depth dir) (suc (k.depth dir))
          (ap depth (sym is_dir) ∙ depth_else dir (present_other dir there)) (ap depth same ∙ depth_here) (omega arith)
      | inr off ↦
          let left = sym (other f off) ∙ at in
          step_down (depth p) (depth f) (k.depth p) (k.depth f) (depth_else p (present_other p (parent_then f p left)))
          (depth_else f off) (k.deeper f p (was_parent f p left))
    ]

    cached_then : (f p : Fid) → map.get behind.client.held.parents f ≡ Some p
        → IsSome (map.get behind.client.held.nodes f) × IsSome (map.get behind.client.held.nodes p)
    cached_then f p at = elim (fid_cases f fid) [
      | inl same ↦
          let is_dir : dir ≡ p = same_Some dir p (sym own ∙ ap (map.get behind.client.held.parents) (sym same) ∙ at) in (
            ap (λ x. is_some (map.get behind.client.held.nodes x)) same ∙ fetched_there,
            ap (λ x. is_some (map.get behind.client.held.nodes x)) (sym is_dir) ∙ there_then dir there,
          )
      | inr off ↦ let left = sym (other f off) ∙ at in (child_then f p left, there_then p (parent_then f p left))
    ]

    order_gets : IsInOrder behind
    order_gets = record {
      orderly = record { used = used_then; cached = λ f p at. (cached_then f p at).0 };
      once = distinct_latest s.beside.uses fid k.once;
      depth = depth;
      parents = λ f p at. (cached_then f p at).1;
      deeper = deeper_then;
    }

  -- the cache is in order behind the fetch
  pub order_fetched : IsInOrder behind
  order_fetched = by (new_parents parent refl fits)
    where
      by : NewParents → IsInOrder behind
      by (stay same) = order_stays same
      by (gets dir is absent there) = order_gets dir is absent there

  -- what was cached under a parent, isn't fetched and stays, is cached under it still
  pub parent_still : (f p : Fid) → f ≢ fid → is_listed gone f ≡ false → map.get s.client.held.parents f ≡ Some p
      → map.get behind.client.held.parents f ≡ Some p
  parent_still f p off stays at = by (new_parents parent refl fits)
    where
      by : NewParents → map.get behind.client.held.parents f ≡ Some p
      by (stay same) = same f ∙ left_parents s.client gone f stays ∙ at
      by (gets dir is absent there) = other dir is absent there f off ∙ left_parents s.client gone f stays ∙ at
