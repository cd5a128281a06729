-- Who goes for an operation goes rightly.
use Rattle.std.specs.Prelude.{◌⊎◌}
use Rattle.std.proofs.Common.{◌≡◌, ◌==◌, ℕ, ◌+◌, ◌≤◌, Bool, true, false, cond, not, ◌||◌, ◌&&◌, List, [], ◌∷◌, Option, Some, None, option_map, refl, sym, ap, ◌∙◌, subst, inl, inr, arith}
use Rattle.std.specs.Prelude.{if◌then◌else◌, nat_lt, Ok, Err, Result, OnOk}
use Rattle.std.specs.List.{filter}
use Rattle.std.specs.FinMap as map
use Rattle.std.proofs.lemmas.Bool.{both_ways, ltb-false, lt-ltb, le-ltb}
use Rattle.std.proofs.lemmas.List.Folds.{list_any-append}
use Rattle.std.proofs.lemmas.Option.{none-some, same_Some}
use Rattle.coda_fid.specs.declared.fid.Fid.{Fid}
use Rattle.coda_fid.specs.declared.op.Record.{Record}
use Rattle.coda_fid.specs.Fid.{same_fid}
use Rattle.coda_fid.specs.Op.{fids_of}
use Rattle.coda_fid.proofs.Fids.{same_fid_is}
use Rattle.coda_walk.specs.declared.item.Item.{Item}
use Rattle.coda_walk.specs.Going.{blocks_of, is_listed, stays, who_goes}
use Rattle.coda_walk.specs.Laws.{MakesRoom, GoRightly}
use Rattle.coda_walk.proofs.Goes.{who_goes_rightly}
use Rattle.coda_cache.specs.declared.hold.Hold.{Hold}
use Rattle.coda_cache.specs.declared.fault.CacheFault.{CacheFault}
use Rattle.coda_cache.specs.declared.fault.CacheFault.TheVariants.{CacheFull}
use Rattle.coda_cache.specs.State.{CacheState, is_cached, parent_of, parent_held}
use Rattle.coda_cache.specs.Ways.{way_up}
use Rattle.coda_cache.specs.Steps.{new_node, taken_out, moved_node, taken_below, taken_from, moved_in, new_hold, mutated, dirty_in, dirty_where}
use Rattle.coda_cache.specs.Room.{item_of, items_of, pinned_blocks, further_blocks, is_further, way_of, with_ancestors, operated, evicted_after}
use Rattle.coda_cache.specs.Laws.{IsCache, MayMutate, KeepsPlace, IsFullRightly}
use Rattle.coda_cache.specs.Prospects.{hold_moved}
use Rattle.coda_cache.proofs.Climbs.{way_cached}
use Rattle.coda_cache.proofs.Foreseen.{dirty_at, moved_at, put_at, noted}
use Rattle.coda_cache.proofs.Kept.{pinned_in_kept}
use Rattle.coda_cache.proofs.KeptMore.{mutated_kept, creates}
use Rattle.coda_cache.proofs.Operated.{mutated_made, mutated_changed}
use Rattle.coda_cache.proofs.Rightly.{makes_room, or_true, or_first, or_second, pinned_above, ancestors_closed}
use Rattle.coda_cache.proofs.Taken.{taken_at}
use Rattle.coda_cache.proofs.Written.{get_each}

-- ---- blocks

-- the blocks of what stays are those of what is pinned and of what is kept besides
pub stay_sum : (kept : List Fid) (items : List Item) → blocks_of (filter (stays kept) items) ≡ pinned_blocks items + further_blocks kept items
stay_sum kept [] = refl
stay_sum kept (i ∷ items) = parts (stay_sum kept items) i.pinned (is_listed kept i.fid)
  where
    parts : blocks_of (filter (stays kept) items) ≡ pinned_blocks items + further_blocks kept items → (p l : Bool) → blocks_of (cond (p || l) (i ∷ filter (stays kept) items) (filter (stays kept) items))
        ≡ blocks_of (cond p (i ∷ filter (λ j. j.pinned) items) (filter (λ j. j.pinned) items)) + blocks_of (cond (not p && l) (i ∷ filter (is_further kept) items) (filter (is_further kept) items))
    parts rest true l = omega (arith, rest)
    parts rest false true = omega (arith, rest)
    parts rest false false = rest

-- ---- under what a node is cached after an operation

held_noted : (fids : List Fid) (q : Fid) (o : Option Hold) → parent_held (option_map (noted fids q) o) ≡ parent_held o
held_noted fids q None = refl
held_noted fids q (Some hold) = refl

held_logged : (volume : ℕ) (log : List Fid) (q : Fid) (o : Option Hold) → parent_held (option_map (dirty_in volume log q) o) ≡ parent_held o
held_logged volume log q None = refl
held_logged volume log q (Some hold) = elim (q.volume == volume) as (λ b. (if b then dirty_where log q hold else hold).parent ≡ hold.parent) [ true ↦ refl | false ↦ refl ]

module _ (c : CacheState) (client volume : ℕ) (rec : Record) (log : List Fid) where
  abbrev m : CacheState
  m = mutated c client rec

  abbrev n : CacheState
  n = operated c client volume rec log

  parent_logged : (g : Fid) → parent_of n g ≡ parent_of m g
  parent_logged g = ap parent_held (get_each (dirty_in volume log) m.holds g) ∙ held_logged volume log g (map.get m.holds g)

  -- a node is made or moved, or has its parent
  abbrev HasParent : Fid → Fid → Type 0
  HasParent g p = (new_node rec.op ≡ Some (p, g)) ⊎ ((moved_node rec.op ≡ Some (g, p)) ⊎ (parent_of c g ≡ Some p))

  from_made : (d : Fid × Fid) (g p : Fid) → new_node rec.op ≡ Some d → parent_of n g ≡ Some p → HasParent g p
  from_made d g p is up = cases (same_fid d.1 g) refl
      (sym (held_noted (fids_of rec.op) g (cond (same_fid d.1 g) (Some (new_hold d.0)) (map.get c.holds g)))
      ∙ sym (ap parent_held (ap (λ (x : CacheState). map.get x.holds g) (mutated_made c client rec d.0 d.1 is) ∙ dirty_at (map.insert c.holds d.1 (new_hold d.0)) (fids_of rec.op) g ∙ ap (option_map (noted (fids_of rec.op) g)) (put_at c.holds d.1 (new_hold d.0) g)))
      ∙ sym (parent_logged g) ∙ up)
    where
      cases : (b : Bool) → same_fid d.1 g ≡ b → parent_held (cond b (Some (new_hold d.0)) (map.get c.holds g)) ≡ Some p → HasParent g p
      cases true e h = inl (is ∙ (λ i. Some (same_Some d.0 p h i, same_fid_is d.1 g e i)))
      cases false e h = inr (inr h)

  from_changed : (g p : Fid) → new_node rec.op ≡ None → parent_of n g ≡ Some p → HasParent g p
  from_changed g p is up = moves (moved_node rec.op) refl
      (sym (held_noted (fids_of rec.op) g (option_map (hold_moved (moved_node rec.op) g) (cond (is_listed gone g) None (map.get c.holds g))))
      ∙ sym (ap parent_held (ap (λ (x : CacheState). map.get x.holds g) (mutated_changed c client rec is) ∙ dirty_at (moved_in (moved_node rec.op) (taken_from c.holds gone)) (fids_of rec.op) g
      ∙ ap (option_map (noted (fids_of rec.op) g)) (moved_at (taken_from c.holds gone) (moved_node rec.op) g ∙ ap (option_map (hold_moved (moved_node rec.op) g)) (taken_at c.holds gone g))))
      ∙ sym (parent_logged g) ∙ up)
    where
      gone : List Fid
      gone = taken_below c (taken_out rec.op)

      stays_there : (b : Bool) (o : Option Hold) → parent_held (cond b None o) ≡ Some p → parent_held o ≡ Some p
      stays_there true o h = absurd (none-some p h)
      stays_there false o h = h

      unmoved : (o : Option Hold) → parent_held (option_map (hold_moved None g) o) ≡ parent_held o
      unmoved None = refl
      unmoved (Some hold) = refl

      here : (f dir : Fid) (o : Option Hold) (b : Bool) → same_fid f g ≡ b → moved_node rec.op ≡ Some (f, dir) → parent_held (option_map (λ (hold : Hold). cond b (record hold { parent = Some dir }) hold) o) ≡ Some p → (moved_node rec.op ≡ Some (g, p)) ⊎ (parent_held o ≡ Some p)
      here f dir None b e moved h = absurd (none-some p h)
      here f dir (Some hold) true e moved h = inl (moved ∙ (λ i. Some (same_fid_is f g e i, same_Some dir p h i)))
      here f dir (Some hold) false e moved h = inr h

      moves : (o : Option (Fid × Fid)) → moved_node rec.op ≡ o → parent_held (option_map (hold_moved o g) (cond (is_listed gone g) None (map.get c.holds g))) ≡ Some p → HasParent g p
      moves None e h = inr (inr (stays_there (is_listed gone g) (map.get c.holds g) (sym (unmoved (cond (is_listed gone g) None (map.get c.holds g))) ∙ h)))
      moves (Some d) e h = elim (here d.0 d.1 (cond (is_listed gone g) None (map.get c.holds g)) (same_fid d.0 g) refl e h) [
        | inl moved ↦ inr (inl moved)
        | inr was ↦ inr (inr (stays_there (is_listed gone g) (map.get c.holds g) was))
      ]

  has_parent : (g p : Fid) → parent_of n g ≡ Some p → HasParent g p
  has_parent g p up = (elim (new_node rec.op) as (λ o. new_node rec.op ≡ o → HasParent g p) [
    | None ↦ λ is. from_changed g p is up
    | Some d ↦ λ is. from_made d g p is up
  ]) refl

  -- what is kept is cached
  kept_cached : IsCache c → (looked_up : List Fid) (g : Fid) → is_listed (with_ancestors c looked_up) g ≡ true → is_cached c g ≡ true
  kept_cached k [] g h = absurd (both_ways _ refl h)
  kept_cached k (f ∷ looked_up) g h = elim (or_true _ _ (sym (list_any-append (λ x. same_fid x g) (way_of c f) (with_ancestors c looked_up)) ∙ h)) [
    | inl on ↦ on_way (is_cached c f) refl on
    | inr later ↦ kept_cached k looked_up g later
  ]
    where
      on_way : (b : Bool) → is_cached c f ≡ b → is_listed (if b then way_up c f else []) g ≡ true → is_cached c g ≡ true
      on_way true there on = way_cached c k f g there on
      on_way false free on = absurd (both_ways _ refl on)

  module _ (k : IsCache c) (may : MayMutate c rec.op) (looked_up : List Fid) (keeps : KeepsPlace c n rec.op looked_up) where
    abbrev kept : List Fid
    kept = with_ancestors c looked_up

    is_cache : IsCache n
    is_cache = pinned_in_kept m volume log (mutated_kept c client rec k may)

    -- what is above one that stays stays
    held : (g p : Fid) → parent_of n g ≡ Some p → stays kept (item_of n g) ≡ true → stays kept (item_of n p) ≡ true
    held g p up s = elim (or_true _ _ s) [
      | inl pinned ↦ or_first _ _ (pinned_above n is_cache g p pinned up)
      | inr listed ↦ elim (has_parent g p up) [
        | inl made ↦ absurd (both_ways _ (creates c.nodes rec.op p g made may.may).1 (kept_cached k looked_up g listed))
        | inr later ↦ elim later [
          | inl moved ↦ keeps g p moved
          | inr was ↦ or_second _ _ (ancestors_closed c k looked_up g p listed was)
        ]
      ]
    ]

    room : pinned_blocks (items_of n) + further_blocks kept (items_of n) ≤ c.size → MakesRoom c.size kept (items_of n)
    room fits =
        let sum = stay_sum kept (items_of n) in
        makes_room n.recency (item_of n) kept c.size is_cache.depth (λ g. refl) (λ g p up. is_cache.deeper g p up) held (omega (arith, sum, fits))

  abbrev listed_in : Result (List Fid) CacheFault → List Fid
  listed_in (Ok gone) = gone
  listed_in (Err why) = []

  pub goes_rightly_after : (looked_up gone : List Fid) → IsCache c → MayMutate c rec.op → KeepsPlace c n rec.op looked_up → evicted_after c client volume rec log looked_up ≡ Ok gone → GoRightly c.size (with_ancestors c looked_up) (items_of n) gone
  unfolding evicted_after
  goes_rightly_after looked_up gone k may keeps is =
      let kept = with_ancestors c looked_up in
      let over = pinned_blocks (items_of n) + further_blocks kept (items_of n) in
      (elim (nat_lt c.size over) as (λ b. nat_lt c.size over ≡ b → (if b then Err (CacheFull (pinned_blocks (items_of n)) (further_blocks kept (items_of n)) c.size) else Ok (who_goes c.size kept (items_of n))) ≡ Ok gone → GoRightly c.size kept (items_of n) gone) [
        | true ↦ λ _ h. absurd (subst (λ (r : Result (List Fid) CacheFault). OnOk r ⊥) h tt)
        | false ↦ λ e h. subst (GoRightly c.size kept (items_of n)) (ap listed_in h) (who_goes_rightly c.size kept (items_of n) (room k may looked_up keeps (ltb-false _ _ e)))
      ]) refl is

  pub full_rightly : (looked_up : List Fid) → IsFullRightly c.size (pinned_blocks (items_of n)) (further_blocks (with_ancestors c looked_up) (items_of n)) (evicted_after c client volume rec log looked_up)
  unfolding evicted_after
  full_rightly looked_up =
      let kept = with_ancestors c looked_up in
      let answer : Bool → Result (List Fid) CacheFault = λ b. if b then Err (CacheFull (pinned_blocks (items_of n)) (further_blocks kept (items_of n)) c.size) else Ok (who_goes c.size kept (items_of n)) in
      record {
        full = λ h. ap answer (lt-ltb _ _ h);
        fits = λ h. (who_goes c.size kept (items_of n), ap answer (le-ltb _ _ h));
      }
