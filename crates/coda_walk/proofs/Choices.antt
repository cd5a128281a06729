-- A candidate more: what is kept and taken then, and the room beside it.
use Rattle.std.proofs.Common.{◌≡◌, ℕ, ◌+◌, ◌<◌, Bool, true, false, cond, ◌||◌, List, [], ◌∷◌, ◌++◌, length, Some, None, refl, sym, ap, ◌∙◌, subst, arith}
use Rattle.std.specs.Prelude.{nat_le}
use Rattle.std.specs.Option.{option_map_or}
use Rattle.std.specs.List.{filter}
use Rattle.std.specs.BTreeSet as tree_set
use Rattle.std.proofs.lemmas.Bool.{lt-leb, le-leb, both_ways, false_from_ne_true}
use Rattle.std.proofs.lemmas.Option.{none-some, same_Some}
use Rattle.coda_fid.specs.declared.fid.Fid.{Fid}
use Rattle.coda_fid.specs.Fid.{fid_cmp}
use Rattle.coda_walk.specs.declared.item.Item.{Item}
use Rattle.coda_walk.specs.declared.taking.Chosen.{Chosen}
use Rattle.coda_walk.specs.Going.{blocks_of, is_listed}
use Rattle.coda_walk.specs.Laws.{Among}
use Rattle.coda_walk.specs.Planning.{fids_of, item_at, parent_at, way_up, blocks_kept, Taken, taken_with, pinned_of}
use Rattle.coda_walk.specs.Plannable.{ArePlannable}
use Rattle.coda_walk.specs.Climbing.{unless, new_on, blocks_on, AreChosen}
use Rattle.coda_walk.proofs.Lists.{filter_alike}
use Rattle.coda_walk.proofs.Ways.{or_later, IsClosed, listed_both, kept_and_new, are_new, way_closed}
use Rattle.coda_walk.proofs.Blocks.{all_more, item_among, item_is, listed_from, from_listed, filter_same}

-- the item whose parent is given
pub item_under : (items : List Item) (f p : Fid) → parent_at items f ≡ Some p → (i : Item) × (item_at items f ≡ Some i) × (i.parent ≡ Some p)
item_under items f p e = (elim (item_at items f) as (λ o. item_at items f ≡ o → option_map_or (λ (i : Item). i.parent) o None ≡ Some p → (i : Item) × (item_at items f ≡ Some i) × (i.parent ≡ Some p)) [
  | None ↦ λ is k. absurd (none-some p k)
  | Some i ↦ λ is k. (i, is, k)
]) refl e

module _ (size : ℕ) (items : List Item) (recency : List Fid) (r : ArePlannable size items recency) where
  pub deeper_at : (f p : Fid) → parent_at items f ≡ Some p → r.depth p < r.depth f
  deeper_at f p e =
      let i = item_under items f p e in
      let a = item_among items f i.0 i.1 in
      subst (λ g. r.depth p < r.depth g) a.1 (r.deeper i.0 p a.0 i.2)

  pub bounded_at : (f p : Fid) → parent_at items f ≡ Some p → r.depth f < length items
  bounded_at f p e =
      let i = item_under items f p e in
      let a = item_among items f i.0 i.1 in
      subst (λ g. r.depth g < length items) a.1 (r.bounded i.0 a.0)

  -- the way up has the parent of each that it has
  pub up_closed : (f g p : Fid) → is_listed (way_up items f) g ≡ true → parent_at items g ≡ Some p → is_listed (way_up items f) p ≡ true
  up_closed f = way_closed items r.depth deeper_at (length items) f (λ p e. bounded_at f p e)

  -- what is kept with a way up more is closed
  both_closed : (kept : List Fid) (f : Fid) → IsClosed items (is_listed kept) → IsClosed items (is_listed (kept ++ way_up items f))
  both_closed kept f closed g p h e =
      listed_both kept (way_up items f) p ∙ join (is_listed kept g) (is_listed (way_up items f) g) (sym (listed_both kept (way_up items f) g) ∙ h) (λ k. closed g p k e) (λ k. up_closed f g p k e)
    where
      join : (a b : Bool) → (a || b) ≡ true → (a ≡ true → is_listed kept p ≡ true) → (b ≡ true → is_listed (way_up items f) p ≡ true) → (is_listed kept p || is_listed (way_up items f) p) ≡ true
      join true b h k l = ap (λ x. x || is_listed (way_up items f) p) (k refl)
      join false b h k l = or_later (is_listed kept p) _ (l h)

  -- the blocks of what is kept with a way up more
  pub blocks_with : (kept : List Fid) (f : Fid) → IsClosed items (is_listed kept) → blocks_kept items (kept ++ way_up items f) ≡ blocks_kept items kept + blocks_on items (new_on items (is_listed kept) (length items) (unless (is_listed kept) (Some f)))
  blocks_with kept f closed =
      ap blocks_of (filter_alike (λ i. is_listed (kept ++ way_up items f) i.fid) (λ i. is_listed kept i.fid || is_listed (new_on items (is_listed kept) (length items) (unless (is_listed kept) (Some f))) i.fid)
      (λ i. listed_both kept (way_up items f) i.fid ∙ kept_and_new items (is_listed kept) closed (length items) f i.fid) items)
      ∙ all_more (is_listed kept) items r.distinct _ (are_new items r.depth deeper_at (is_listed kept) (length items) (Some f))

  module _ (t : Taken) (f : Fid) (old : Chosen) (above : List Fid) (was : AreChosen size items t old)
      (new : above ≡ new_on items (tree_set.contains fid_cmp old.kept) (length items) (unless (tree_set.contains fid_cmp old.kept) (Some f))) where
    new_is : above ≡ new_on items (is_listed t.kept) (length items) (unless (is_listed t.kept) (Some f))
    new_is = new ∙ (λ i. new_on items (λ g. was.kept g i) (length items) (unless (λ g. was.kept g i) (Some f)))

    blocks_then : blocks_kept items (t.kept ++ way_up items f) ≡ blocks_kept items t.kept + blocks_on items above
    blocks_then = blocks_with t.kept f was.closed ∙ ap (λ l. blocks_kept items t.kept + blocks_on items l) (sym new_is)

    -- it fits
    pub one_taken : (left : ℕ) (now : Chosen) → left + blocks_on items above ≡ old.room →
        ((g : Fid) → tree_set.contains fid_cmp now.kept g ≡ (tree_set.contains fid_cmp old.kept g || is_listed above g)) →
        ((g : Fid) → tree_set.contains fid_cmp now.taken g ≡ (tree_set.contains fid_cmp old.taken g || is_listed (f ∷ []) g)) →
        now.room ≡ left → AreChosen size items (taken_with size items t f) now
    one_taken left now fits kept taken room = subst (λ b. AreChosen size items (cond b (record { kept = t.kept ++ way_up items f; taken = t.taken ++ f ∷ [] }) t) now) (sym passes) chosen
      where
        whole : old.room + blocks_kept items t.kept ≡ size
        whole = was.room

        passes : nat_le (blocks_kept items (t.kept ++ way_up items f)) size ≡ true
        passes = le-leb _ _ (let b = blocks_then in let w = whole in omega (arith, fits, b, w))

        chosen : AreChosen size items (record { kept = t.kept ++ way_up items f; taken = t.taken ++ f ∷ [] }) now
        chosen = record {
          kept = λ g. kept g ∙ ap (λ b. b || is_listed above g) (was.kept g) ∙ ap (λ l. is_listed t.kept g || is_listed l g) new_is
              ∙ sym (kept_and_new items (is_listed t.kept) was.closed (length items) f g) ∙ sym (listed_both t.kept (way_up items f) g);
          taken = λ g. taken g ∙ ap (λ b. b || is_listed (f ∷ []) g) (was.taken g) ∙ sym (listed_both t.taken (f ∷ []) g);
          room = let b = blocks_then in let w = whole in omega (arith, fits, b, w, room);
          closed = both_closed t.kept f was.closed;
        }

    -- it doesn't fit
    pub one_left : old.room < blocks_on items above → AreChosen size items (taken_with size items t f) old
    one_left over = subst (λ b. AreChosen size items (cond b (record { kept = t.kept ++ way_up items f; taken = t.taken ++ f ∷ [] }) t) old) (sym fails) was
      where
        whole : old.room + blocks_kept items t.kept ≡ size
        whole = was.room

        fails : nat_le (blocks_kept items (t.kept ++ way_up items f)) size ≡ false
        fails = lt-leb _ _ (let b = blocks_then in let w = whole in omega (arith, over, b, w))

  -- ---- the pinned ones

  pinned_listed : (i : Item) → Among i items → is_listed (fids_of (filter (λ (j : Item). j.pinned) items)) i.fid ≡ i.pinned
  pinned_listed i h = (elim i.pinned as (λ b. i.pinned ≡ b → is_listed (fids_of (filter (λ (j : Item). j.pinned) items)) i.fid ≡ b) [
    | true ↦ λ t. listed_from (λ j. j.pinned) items i h t
    | false ↦ λ t. false_from_ne_true _ (λ l.
        let p = from_listed (λ j. j.pinned) items i.fid l in
        let same : p.0 ≡ i = same_Some p.0 i (sym (item_is items r.distinct p.0 p.1) ∙ ap (item_at items) p.2.1 ∙ item_is items r.distinct i h) in
        both_ways _ t (ap (λ (j : Item). j.pinned) (sym same) ∙ p.2.0))
  ]) refl

  pub pinned_chosen : (now : Chosen) → ((g : Fid) → tree_set.contains fid_cmp now.kept g ≡ is_listed (pinned_of items).kept g) → ((g : Fid) → tree_set.contains fid_cmp now.taken g ≡ false) →
      now.room + blocks_of (filter (λ (i : Item). i.pinned) items) ≡ size → AreChosen size items (pinned_of items) now
  pinned_chosen now kept taken room = record {
    kept = kept;
    taken = taken;
    room = ap (λ (l : List Item). now.room + blocks_of l) (filter_same (λ i. is_listed (pinned_of items).kept i.fid) (λ i. i.pinned) items pinned_listed) ∙ room;
    closed = closed;
  }
    where
      closed : IsClosed items (is_listed (pinned_of items).kept)
      closed f p h e =
          let i = from_listed (λ j. j.pinned) items f h in
          let up : i.0.parent ≡ Some p = sym (ap (λ o. option_map_or (λ (j : Item). j.parent) o None) (item_is items r.distinct i.0 i.1)) ∙ ap (parent_at items) i.2.1 ∙ e in
          let j = r.there i.0 p i.1 up in
          let pinned = r.pinned_under j.0 i.0 j.1 i.1 (up ∙ ap Some (sym j.2)) i.2.0 in
          subst (λ g. is_listed (pinned_of items).kept g ≡ true) j.2 (listed_from (λ k. k.pinned) items j.0 j.1 pinned)
