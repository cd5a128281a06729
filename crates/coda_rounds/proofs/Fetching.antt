-- The payload of a fetch may follow.
use Rattle.std.proofs.Common.{◌≡◌, ◌≢◌, Bool, true, false, if◌then◌else◌, List, [], ◌∷◌, ◌++◌, Option, Some, None}
use Rattle.std.proofs.Common.{IsSome, is_some, Ok, refl, sym, ap, ◌∙◌, subst, ⊎_elim, inl, inr}
use Rattle.std.proofs.lemmas.Bool.{or_left, or_right, or_parts, false≢true, false_from_ne_true}
use Rattle.std.specs.FinMap as map
use Rattle.coda_fid.specs.Fid.{same_fid, root_of}
use Rattle.coda_fid.specs.declared.fid.Fid.{Fid}
use Rattle.coda_fid.proofs.Fids.{fids_total, exact_fids, same_fid_refl}
use Rattle.coda_tree.specs.declared.node.Node.{Node}
use Rattle.coda_tree.specs.Blocks.{blocks_of as blocks_in}
use Rattle.coda_tree.specs.Volume.{has, IsDirNode, parent_of}
use Rattle.coda_tree.proofs.Changes.{binder_is_dir}
use Rattle.coda_tree.proofs.Order.{gone_else}
use Rattle.coda_tree.proofs.Parents.{parent_sound, there_node}
use Rattle.coda_cancel.proofs.Keys.{fid_true, fid_false}
use Rattle.coda_walk.specs.Going.{is_listed, who_goes}
use Rattle.coda_cache.specs.State.{CacheState, is_cached, parent_of as parent_held}
use Rattle.coda_cache.specs.Room.{items_with, kept_for, way_from, with_ancestors, evicted_for}
use Rattle.coda_cache.proofs.Operated.{self_on_way}
use Rattle.coda_record.specs.declared.entry.ClientEntry.{ClientEntry}
use Rattle.coda_record.specs.declared.entry.ClientEntry.TheVariants as entry
use Rattle.coda_venus.specs.Accepting.{is_mentioned}
use Rattle.coda_venus.specs.History.{IsDirty, IsParent, MayEnter, MayEnterAll}
use Rattle.coda_venus.specs.State.{ClientState, client_after}
use Rattle.coda_venus.specs.Serving.{ServingClient, cache_of}
use Rattle.coda_venus.specs.Rounds.{parent_of_fetched_by, parent_of_fetched, dropping, goes_for_fetch}
use Rattle.coda_rounds.specs.Laws.{IsUnserved}
use Rattle.coda_rounds.specs.Entering.{IsOrderly, IsPlaced, FetchesMayBeEntered}
use Rattle.coda_rounds.proofs.Entering.{what_goes_may_be_dropped}
use Rattle.coda_rounds.proofs.Others.{left_stays}
use Rattle.coda_rounds.proofs.Replies.{left_of, left_node, left_volumes, listed_behind}
use Rattle.coda_rounds.proofs.Staying.{goer, held, by_room}

-- ---- what drops leave

-- entries may follow drops
pub enter_behind : (c : ClientState) (gone : List Fid) (entries : List ClientEntry) → MayEnterAll c (dropping gone)
    → MayEnterAll (left_of c gone) entries → MayEnterAll c (dropping gone ++ entries)
enter_behind c [] entries drops more = more
enter_behind c (g ∷ gone) entries drops more =
    (drops.0, enter_behind (client_after c (entry.Dropped g)) gone entries drops.1 more)

pub left_parents : (c : ClientState) (gone : List Fid) (g : Fid) → is_listed gone g ≡ false
    → map.get (left_of c gone).held.parents g ≡ map.get c.held.parents g
left_parents c [] g off = refl
left_parents c (x ∷ gone) g off =
    let k = or_parts _ _ off in
    left_parents (client_after c (entry.Dropped x)) gone g k.1
    ∙ gone_else fids_total exact_fids c.held.parents x g (λ e. fid_false x g k.0 (sym e))

pub was_cached : (c : ClientState) (gone : List Fid) (g : Fid) → IsSome (map.get (left_of c gone).held.nodes g)
    → IsSome (map.get c.held.nodes g)
was_cached c gone g h = go (map.get (left_of c gone).held.nodes g) refl h
  where
    go : (o : Option Node) → map.get (left_of c gone).held.nodes g ≡ o → is_some o ≡ true
        → IsSome (map.get c.held.nodes g)
    go None e some = absurd (false≢true some)
    go (Some node) e some = ap is_some (left_node c gone g node e)

pub was_dirty : (c : ClientState) (gone : List Fid) (g : Fid) → IsDirty (left_of c gone) g → IsDirty c g
was_dirty c gone g h = ap (λ v. is_mentioned (v g.volume) g) (sym (left_volumes c gone)) ∙ h

-- ---- what is kept for a fetch

module _ (s : ServingClient) (f : Fid) (node : Node) (keep gone : List Fid) (room : goes_for_fetch s f node keep ≡ Ok gone) where
  abbrev cache : CacheState
  cache = cache_of s

  abbrev kept : List Fid
  kept = kept_for cache f (parent_of_fetched s.client.held f) keep

  kept_stays : (g : Fid) → is_listed kept g ≡ true → is_listed gone g ≡ false
  unfolding evicted_for who_goes
  kept_stays g on =
      subst (λ l. is_listed l g ≡ false) (by_room s f node keep _ _ _ gone room) (false_from_ne_true _ (λ goes.
      let o = goer _ cache.size kept (items_with cache f (parent_of_fetched s.client.held f) (blocks_in node.kind)) g goes in
      false≢true (sym (or_parts o.0.pinned (is_listed kept o.0.fid) o.3).1
      ∙ subst (λ x. is_listed kept x ≡ true) (sym o.2) on)))

  itself_stays : is_listed gone f ≡ false
  itself_stays = kept_stays f (or_left (same_fid f f) _ (same_fid_refl f))

  -- the directory under which it is put stays
  parent_stays : (dir : Fid) → has s.client.held.nodes f ≡ false → parent_of_fetched s.client.held f ≡ Some dir
      → has s.client.held.nodes dir ≡ true → is_listed gone dir ≡ false
  parent_stays dir absent is there =
      kept_stays dir (or_right (same_fid f dir) _ (listed_behind dir (way_from cache
      (if is_cached cache f then parent_held cache f else parent_of_fetched s.client.held f)) (with_ancestors cache keep)
      ∙ or_left (is_listed (way_from cache
      (if is_cached cache f then parent_held cache f else parent_of_fetched s.client.held f)) dir)
      (is_listed (with_ancestors cache keep) dir)
      (ap (λ b. is_listed (way_from cache (if b then parent_held cache f else parent_of_fetched s.client.held f)) dir) absent
      ∙ ap (λ o. is_listed (way_from cache o) dir) is ∙ self_on_way cache dir (held s dir there))))

  -- ---- its parent

  module _ (orderly : IsOrderly s) (placed : IsPlaced s f) where
    abbrev then_left : ClientState
    then_left = left_of s.client gone

    own_parent : (p : Option Fid) → has s.client.held.nodes f ≡ true → map.get s.client.held.parents f ≡ p
        → IsParent then_left.held f p
    own_parent None there e = (
      left_parents s.client gone f itself_stays ∙ e,
      inl (ap is_some (left_stays s.client gone f itself_stays) ∙ there),
    )
    own_parent (Some dir) there e = inl (left_parents s.client gone f itself_stays ∙ e)

    no_parent : (p : Option Fid) → map.get s.client.held.nodes f ≡ None → map.get s.client.held.parents f ≡ p
        → map.get s.client.held.parents f ≡ None
    no_parent None absent e = e
    no_parent (Some dir) absent e = absurd (false≢true (ap is_some (sym absent) ∙ orderly.cached f dir e))

    bound_parent : (p : Option Fid) → map.get s.client.held.nodes f ≡ None → f ≢ root_of f.volume
        → parent_of_fetched s.client.held f ≡ parent_of s.client.held.nodes f → parent_of s.client.held.nodes f ≡ p
        → IsParent then_left.held f p
    bound_parent None absent other is e = absurd (⊎_elim
        (λ (root : f ≡ root_of f.volume). other root)
        (λ (some : IsSome (parent_of s.client.held.nodes f)). false≢true (ap is_some (sym e) ∙ some))
        (placed absent))
    bound_parent (Some dir) absent other is e =
        let binds = parent_sound s.client.held.nodes f dir e in
        let there = there_node (map.get s.client.held.nodes dir) f binds.0 binds.1 in
        let off = parent_stays dir (ap is_some absent) (is ∙ e) (ap is_some there.1) in
        inr (
          left_stays s.client gone f itself_stays ∙ absent,
          inl (
            other,
            subst IsDirNode (sym (left_stays s.client gone dir off))
                (binder_is_dir s.client.held.nodes dir binds.0 f binds.1),
          ),
        )

    parent_fits : (o : Option Node) (b : Bool) → map.get s.client.held.nodes f ≡ o
        → same_fid f (root_of f.volume) ≡ b → IsParent then_left.held f (parent_of_fetched_by s.client.held f o b)
    parent_fits (Some n) b is root = own_parent (map.get s.client.held.parents f) (ap is_some is) refl
    parent_fits None true is root =
        (left_parents s.client gone f itself_stays ∙ no_parent _ is refl, inr (fid_true f (root_of f.volume) root))
    parent_fits None false is root =
        bound_parent (parent_of s.client.held.nodes f) is (fid_false f (root_of f.volume) root)
        (λ i. parent_of_fetched_by s.client.held f (is i) (root i)) refl

    pub fits_left : IsParent then_left.held f (parent_of_fetched s.client.held f)
    fits_left = parent_fits (map.get s.client.held.nodes f) (same_fid f (root_of f.volume)) refl refl

    may_fetch : (emulating : Bool) → IsUnserved emulating s f
        → MayEnter then_left (entry.Fetched f (parent_of_fetched s.client.held f) node)
    may_fetch emulating unserved = (
      λ both. false≢true (sym (unserved.clean (was_cached s.client gone f both.0)) ∙ was_dirty s.client gone f both.1),
      fits_left,
    )

pub fetches_may_be_entered : FetchesMayBeEntered
fetches_may_be_entered emulating s f node server keep gone orderly unserved placed room =
    enter_behind s.client gone (entry.Fetched f (parent_of_fetched s.client.held f) node ∷ [])
    (what_goes_may_be_dropped s f node keep gone orderly room)
    (may_fetch s f node keep gone room orderly placed emulating unserved, tt)
