-- Who goes for an operation, found by the queue of the cached nodes.
use Rattle.std.proofs.Common.{◌≡◌, ℕ, ◌+◌, Bool, true, false, cond, not, ◌||◌, ◌&&◌, List, [], ◌∷◌, ◌++◌, Option, Some, None, refl, sym, ap, ◌∙◌, subst, arith, append-nil}
use Rattle.std.specs.Prelude as prelude
use Rattle.std.specs.List.{filter, list_any}
use Rattle.std.specs.FinMap as map
use Rattle.std.specs.BTreeSet as btree
use Rattle.std.specs.BTreeSet.{BTreeSet}
use Rattle.std.specs.List.Sorted.{IsStrictlySortedBy}
use Rattle.std.proofs.lemmas.Bool.{both_ways}
use Rattle.coda_fid.specs.declared.fid.Fid.{Fid}
use Rattle.coda_fid.specs.declared.op.Record.{Record}
use Rattle.coda_fid.specs.Fid.{fid_cmp, same_fid}
use Rattle.coda_fid.proofs.Fids.{same_fid_is, same_fid_refl}
use Rattle.coda_certify.specs.Replay.{applied}
use Rattle.coda_walk.specs.declared.item.Item.{Item}
use Rattle.coda_walk.specs.Going.{blocks_of, is_listed, stays, who_goes}
use Rattle.coda_cache.specs.declared.hold.Hold.{Hold}
use Rattle.coda_cache.specs.declared.prospect.Prospect.{Prospect}
use Rattle.coda_cache.specs.State.{CacheState, parent_of, parent_held, blocks_at}
use Rattle.coda_cache.specs.Ways.{is_pinned}
use Rattle.coda_cache.specs.Room.{item_of, items_of, pinned_blocks, further_blocks, is_further}
use Rattle.coda_cache.specs.Indexed.{standing_of, standings, blocks_beside}
use Rattle.coda_cache.specs.Keeping.{Agree}
use Rattle.coda_cache.specs.Steps.{new_hold, under}
use Rattle.coda_cache.specs.Prospects.{will_go, hold_left, hold_made, hold_moved, hold_noted, parent_ahead, fids_made, Foresees, holds_parent, holds_made, leaves}
use Rattle.coda_cache.proofs.Afterwards.{stay_sum}
use Rattle.coda_cache.proofs.Alike.{who_goes_alike, filter_map_is}
use Rattle.coda_cache.proofs.Chosen.{no_blocks, beside_sum}
use Rattle.coda_cache.proofs.Foreseen.{parent_so}
use Rattle.coda_cache.proofs.Kept.{listed_where}
use Rattle.coda_cache.proofs.Hashed.{keys_listed}
use Rattle.coda_cache.proofs.Removed.{filter_twice}
use Rattle.coda_cache.proofs.Rightly.{among_map}
use Rattle.coda_cache.proofs.Spared.{is_held, is_spare, held_blocks, Closed, who_goes_of_spare}
use Rattle.coda_cache.proofs.Standing.{map_on, stands}
use Rattle.coda_cache.proofs.Summed.{AreFresh, fresh_sorted, sum_in}
use Rattle.coda_cache.proofs.Uses.{filter_joined}

not_false : (b : Bool) → not b ≡ false → b ≡ true
not_false true h = refl
not_false false h = absurd (both_ways _ h refl)

not_true : (b : Bool) → not b ≡ true → b ≡ false
not_true true h = absurd (both_ways _ refl h)
not_true false h = refl

-- nobody passes
none_passes : (test : Fid → Bool) (fids : List Fid) (g : Fid) → list_any test fids ≡ false → is_listed fids g ≡ true → test g ≡ false
none_passes test [] g none listed = absurd (both_ways _ refl listed)
none_passes test (f ∷ fids) g none listed = (elim (same_fid f g) as (λ b. same_fid f g ≡ b → (b || is_listed fids g) ≡ true → test g ≡ false) [
  | true ↦ λ e _. ap test (sym (same_fid_is f g e)) ∙ first (test f) none
  | false ↦ λ _ later. none_passes test fids g (second (test f) none) later
]) refl listed
  where
    first : (x : Bool) → (x || list_any test fids) ≡ false → x ≡ false
    first true h = absurd (both_ways _ h refl)
    first false h = refl

    second : (x : Bool) → (x || list_any test fids) ≡ false → list_any test fids ≡ false
    second true h = absurd (both_ways _ h refl)
    second false h = h

-- a set that has the parents of all that are in it
closed_up : (set : BTreeSet Fid) (parent : Fid → Option Fid) → not (list_any (leaves set parent) set.keys) ≡ true → (g p : Fid) → is_listed set.keys g ≡ true → parent g ≡ Some p → is_listed set.keys p ≡ true
closed_up set parent none g p listed is =
    sym (keys_listed set.keys p) ∙ sym (ap (holds_parent set) is) ∙ not_false (holds_parent set (parent g)) (none_passes (leaves set parent) set.keys g (not_true _ none) listed)

items_closed : (kept fids : List Fid) (c : CacheState) → ((g p : Fid) → is_listed kept g ≡ true → parent_of c g ≡ Some p → is_listed kept p ≡ true) → Closed kept (prelude.map (standing_of c) fids)
items_closed kept fids c up = record {
  free = λ i h. let at = among_map (standing_of c) fids i h in ap (λ (j : Item). j.pinned) (sym at.2);
  above = λ i p h held is. let at = among_map (standing_of c) fids i h in up at.0 p (ap (λ (j : Item). is_listed kept j.fid) at.2 ∙ held) (ap (λ (j : Item). j.parent) at.2 ∙ is);
}

-- ---- the order of use stays free of repetition

unlisted_joined : (fids more : List Fid) (g : Fid) → is_listed fids g ≡ false → is_listed more g ≡ false → is_listed (fids ++ more) g ≡ false
unlisted_joined [] more g h k = k
unlisted_joined (f ∷ fids) more g h k = (elim (same_fid f g) as (λ b. (b || is_listed fids g) ≡ false → (b || is_listed (fids ++ more) g) ≡ false) [
  | true ↦ λ h. absurd (both_ways _ h refl)
  | false ↦ λ h. unlisted_joined fids more g h k
]) h

pub fresh_ahead : (test : Fid → Bool) (fids more : List Fid) → AreFresh fids → AreFresh more → ((g : Fid) → is_listed fids g ≡ true → is_listed more g ≡ false) → AreFresh (filter test fids ++ more)
fresh_ahead test [] more fresh once apart = once
fresh_ahead test (f ∷ fids) more fresh once apart =
    let rest = fresh_ahead test fids more fresh.1 once (λ g h. apart g (later (same_fid f g) (is_listed fids g) h)) in
    elim (test f) as (λ b. AreFresh (cond b (f ∷ filter test fids) (filter test fids) ++ more)) [
      | true ↦ (unlisted_joined (filter test fids) more f (listed_where test fids f ∙ neither (test f) (is_listed fids f) fresh.0) (apart f (ap (λ b. b || is_listed fids f) (same_fid_refl f))), rest)
      | false ↦ rest
    ]
  where
    later : (b x : Bool) → x ≡ true → (b || x) ≡ true
    later true x h = refl
    later false x h = h

    neither : (a b : Bool) → b ≡ false → (a && b) ≡ false
    neither true b h = h
    neither false b h = refl

module _ (c : CacheState) (client : ℕ) (rec : Record) (n : CacheState) (p : Prospect) (is : Foresees c client rec n p) (a : Agree c.nodes c.holds c.recency) (fresh : AreFresh c.recency) where
  pub fresh_then : AreFresh n.recency
  fresh_then = subst AreFresh (sym is.recency) (fresh_ahead (λ f. not (will_go p f)) c.recency (fids_made p.made) fresh (once p.made) (λ g listed. apart p.made refl g listed))
    where
      once : (made : Option (Fid × Fid)) → AreFresh (fids_made made)
      once None = tt
      once (Some m) = (refl, tt)

      apart : (made : Option (Fid × Fid)) → p.made ≡ made → (g : Fid) → is_listed c.recency g ≡ true → is_listed (fids_made made) g ≡ false
      apart None e g listed = refl
      apart (Some m) e g listed = (elim (same_fid m.1 g) as (λ b. same_fid m.1 g ≡ b → (b || false) ≡ false) [
        | true ↦ λ same. absurd (both_ways _ (is.unused m e) (ap (is_listed c.recency) (same_fid_is m.1 g same) ∙ listed))
        | false ↦ λ _. refl
      ]) refl

  pub uncached : (g : Fid) → is_listed n.recency g ≡ false → blocks_at n g ≡ 0
  uncached g free = no_blocks n g (sym (is.agree.used g) ∙ free)

  -- the blocks that are pinned then, by a set
  pub pinned_then : (none : Fid → Bool) (keys : List Fid) → AreFresh keys → ((g : Fid) → none g ≡ false) → ((g : Fid) → is_listed keys g ≡ is_pinned n g) → blocks_beside n none keys ≡ pinned_blocks (items_of n)
  pinned_then none keys once empty are =
      beside_sum n none keys ∙ sum_in (item_of n) (λ i. i.pinned) none n.recency keys fresh_then once uncached (λ g. same (is_pinned n g) ∙ (λ i. sym (are g) i && not (sym (empty g) i)))
    where
      same : (b : Bool) → b ≡ (b && not false)
      same true = refl
      same false = refl

  -- and those of what is kept besides
  pub further_then : (but : Fid → Bool) (keys kept : List Fid) → AreFresh keys → ((g : Fid) → but g ≡ is_pinned n g) → ((g : Fid) → is_listed keys g ≡ is_listed kept g) → blocks_beside n but keys ≡ further_blocks kept (items_of n)
  further_then but keys kept once pinned are =
      beside_sum n but keys ∙ sum_in (item_of n) (is_further kept) but n.recency keys fresh_then once uncached (λ g. turned (is_pinned n g) (is_listed kept g) ∙ (λ i. sym (are g) i && not (sym (pinned g) i)))
    where
      turned : (a b : Bool) → (not a && b) ≡ (b && not a)
      turned true true = refl
      turned true false = refl
      turned false true = refl
      turned false false = refl

  module _ (stay other none : BTreeSet Fid) (kept : List Fid) (stay_is : (f : Fid) → btree.contains fid_cmp stay f ≡ (is_pinned n f || is_listed kept f)) (other_is : (f : Fid) → btree.contains fid_cmp other f ≡ (btree.contains fid_cmp stay f || will_go p f))
      (closed_then : not (list_any (leaves stay (parent_ahead c p)) stay.keys) ≡ true) (made : holds_made stay p.made ≡ true) (within : not (list_any (λ f. not (btree.contains fid_cmp other f)) p.touched.keys) ≡ true)
      (closed_now : not (list_any (leaves other (parent_of c)) other.keys) ≡ true) (rise : IsStrictlySortedBy fid_cmp other.keys) (empty : (f : Fid) → btree.contains fid_cmp none f ≡ false) where
    stay_listed : (f : Fid) → is_listed stay.keys f ≡ (is_pinned n f || is_listed kept f)
    stay_listed f = sym (keys_listed stay.keys f) ∙ stay_is f

    other_listed : (f : Fid) → is_listed other.keys f ≡ (is_listed stay.keys f || will_go p f)
    other_listed f = sym (keys_listed other.keys f) ∙ other_is f ∙ ap (λ b. b || will_go p f) (keys_listed stay.keys f)

    either_false : (a b : Bool) → (a || b) ≡ false → (a ≡ false) × (b ≡ false)
    either_false true b h = absurd (both_ways _ h refl)
    either_false false b h = (refl, h)

    -- what need not stay is as it was
    untouched : (g : Fid) → is_listed other.keys g ≡ false → btree.contains fid_cmp p.touched g ≡ false
    untouched g free = (elim (btree.contains fid_cmp p.touched g) as (λ b. btree.contains fid_cmp p.touched g ≡ b → b ≡ false) [
      | true ↦ λ there. absurd (both_ways _ free (sym (keys_listed other.keys g) ∙ not_false _ (none_passes (λ f. not (btree.contains fid_cmp other f)) p.touched.keys g (not_true _ within) (sym (keys_listed p.touched.keys g) ∙ there))))
      | false ↦ λ _. refl
    ]) refl

    parent_same : (g : Fid) → is_listed other.keys g ≡ false → parent_ahead c p g ≡ parent_of c g
    parent_same g free =
        let parts = either_false (is_listed stay.keys g) (will_go p g) (sym (other_listed g) ∙ free) in
        (λ i. parent_held (prelude.option_map (λ hold. hold_noted p g (hold_moved p.moved g hold)) (unmade p.made refl parts.0 (hold_left c p g) i))) ∙ same_parent (hold_left c p g) ∙ ap (λ b. parent_held (cond b None (map.get c.holds g))) parts.1
      where
        unmade : (o : Option (Fid × Fid)) → p.made ≡ o → is_listed stay.keys g ≡ false → (hold : Option Hold) → hold_made p.made g hold ≡ hold
        unmade None e unstay hold = ap (λ o. hold_made o g hold) e
        unmade (Some m) e unstay hold = ap (λ o. hold_made o g hold) e ∙ (elim (same_fid m.1 g) as (λ b. same_fid m.1 g ≡ b → cond b (Some (new_hold m.0)) hold ≡ hold) [
          | true ↦ λ same. absurd (both_ways _ unstay (ap (is_listed stay.keys) (sym (same_fid_is m.1 g same)) ∙ sym (keys_listed stay.keys m.1) ∙ sym (ap (holds_made stay) e) ∙ made))
          | false ↦ λ _. refl
        ]) refl

        unmoved : (o : Option (Fid × Fid)) → p.moved ≡ o → (hold : Hold) → (hold_moved o g hold).parent ≡ hold.parent
        unmoved None e hold = refl
        unmoved (Some m) e hold = (elim (same_fid m.0 g) as (λ b. same_fid m.0 g ≡ b → (cond b (under m.1 hold) hold).parent ≡ hold.parent) [
          | true ↦ λ same. absurd (both_ways _ (untouched g free) (ap (btree.contains fid_cmp p.touched) (sym (same_fid_is m.0 g same)) ∙ is.moves m e))
          | false ↦ λ _. refl
        ]) refl

        same_parent : (o : Option Hold) → parent_held (prelude.option_map (λ hold. hold_noted p g (hold_moved p.moved g hold)) o) ≡ parent_held o
        same_parent None = refl
        same_parent (Some hold) = unmoved p.moved refl hold

    standing_same : (g : Fid) → is_listed other.keys g ≡ false → standing_of c g ≡ standing_of n g
    standing_same g free =
        let parts = either_false (is_listed stay.keys g) (will_go p g) (sym (other_listed g) ∙ free) in
        sym (stands c n g (sym (parent_so c client rec n p is g) ∙ parent_same g free)
        (is.nodes g ∙ ap (λ b. cond b None (map.get (applied c.nodes client rec) g)) parts.1 ∙ is.others g (untouched g free)) is.priorities)

    -- the same need not stay, in the same order
    spare_fids : filter (λ g. not (is_listed stay.keys g)) n.recency ≡ filter (λ g. not (is_listed other.keys g)) c.recency
    spare_fids =
        ap (filter (λ g. not (is_listed stay.keys g))) is.recency ∙ filter_joined (λ g. not (is_listed stay.keys g)) (filter (λ f. not (will_go p f)) c.recency) (fids_made p.made)
        ∙ (λ i. filter_twice (λ f. not (will_go p f)) (λ g. not (is_listed stay.keys g)) (λ g. not (is_listed other.keys g)) c.recency (λ g. neither (will_go p g) (is_listed stay.keys g) ∙ ap not (sym (other_listed g))) i ++ none_made p.made refl i)
        ∙ append-nil _
      where
        neither : (a b : Bool) → (not a && not b) ≡ not (b || a)
        neither true true = refl
        neither true false = refl
        neither false true = refl
        neither false false = refl

        none_made : (o : Option (Fid × Fid)) → p.made ≡ o → filter (λ g. not (is_listed stay.keys g)) (fids_made p.made) ≡ []
        none_made None e = ap (λ o. filter (λ g. not (is_listed stay.keys g)) (fids_made o)) e
        none_made (Some m) e = ap (λ o. filter (λ g. not (is_listed stay.keys g)) (fids_made o)) e ∙ ap (λ b. cond (not b) (m.1 ∷ []) []) (sym (keys_listed stay.keys m.1) ∙ sym (ap (holds_made stay) e) ∙ made)

    spare_same : filter (is_spare other.keys) (standings c) ≡ filter (is_spare stay.keys) (standings n)
    spare_same =
        filter_map_is (standing_of c) (is_spare other.keys) c.recency
        ∙ map_on (standing_of c) (standing_of n) (filter (λ g. not (is_listed other.keys g)) c.recency) (λ g listed. standing_same g (not_true _ (first (not (is_listed other.keys g)) (is_listed c.recency g) (sym (listed_where (λ g. not (is_listed other.keys g)) c.recency g) ∙ listed))))
        ∙ ap (prelude.map (standing_of n)) (sym spare_fids) ∙ sym (filter_map_is (standing_of n) (is_spare stay.keys) n.recency)
      where
        first : (a b : Bool) → (a && b) ≡ true → a ≡ true
        first true b h = refl
        first false b h = absurd (both_ways _ refl h)

    -- ---- blocks

    held_now : blocks_beside c (btree.contains fid_cmp none) other.keys ≡ held_blocks other.keys (standings c)
    held_now =
        let agree_used : (g : Fid) → is_listed c.recency g ≡ false → blocks_at c g ≡ 0 = λ g free. no_blocks c g (sym (a.used g) ∙ free) in
        beside_sum c (btree.contains fid_cmp none) other.keys
        ∙ sum_in (standing_of c) (is_held other.keys) (btree.contains fid_cmp none) c.recency other.keys fresh (fresh_sorted other.keys rise) agree_used (λ g. same (is_listed other.keys g) ∙ ap (λ b. is_listed other.keys g && not b) (sym (empty g)))
      where
        same : (b : Bool) → b ≡ (b && not false)
        same true = refl
        same false = refl

    held_then : held_blocks stay.keys (standings n) ≡ pinned_blocks (items_of n) + further_blocks kept (items_of n)
    held_then = same_sum n.recency ∙ stay_sum kept (items_of n)
      where
        same_sum : (fids : List Fid) → blocks_of (filter (is_held stay.keys) (prelude.map (standing_of n) fids)) ≡ blocks_of (filter (stays kept) (prelude.map (item_of n) fids))
        same_sum [] = refl
        same_sum (g ∷ fids) =
            ap (λ b. blocks_of (cond b (standing_of n g ∷ filter (is_held stay.keys) (prelude.map (standing_of n) fids)) (filter (is_held stay.keys) (prelude.map (standing_of n) fids)))) (stay_listed g)
            ∙ (elim (is_pinned n g || is_listed kept g) as (λ b. blocks_of (cond b (standing_of n g ∷ filter (is_held stay.keys) (prelude.map (standing_of n) fids)) (filter (is_held stay.keys) (prelude.map (standing_of n) fids)))
            ≡ blocks_of (cond b (item_of n g ∷ filter (stays kept) (prelude.map (item_of n) fids)) (filter (stays kept) (prelude.map (item_of n) fids)))) [
              | true ↦ ap (λ k. blocks_at n g + k) (same_sum fids)
              | false ↦ same_sum fids
            ])

    all_sum : (fids : List Fid) → blocks_of (prelude.map (item_of n) fids) ≡ blocks_of (prelude.map (standing_of n) fids)
    all_sum [] = refl
    all_sum (g ∷ fids) = ap (λ k. blocks_at n g + k) (all_sum fids)

    -- who goes from the queue is who goes for the operation
    pub spares : (room held : ℕ) → held ≡ blocks_beside c (btree.contains fid_cmp none) other.keys → room + (pinned_blocks (items_of n) + further_blocks kept (items_of n)) ≡ c.size → who_goes (room + held) other.keys (standings c) ≡ who_goes c.size kept (items_of n)
    spares room held held_is fits =
        let now = held_is ∙ held_now in
        let then = held_then in
        let same = all_sum n.recency in
        who_goes_of_spare other.keys stay.keys (room + held) c.size (standings c) (standings n) (items_closed other.keys c.recency c (closed_up other (parent_of c) closed_now))
        (items_closed stay.keys n.recency n (λ g q h up. closed_up stay (parent_ahead c p) closed_then g q h (parent_so c client rec n p is g ∙ up))) spare_same (omega (arith, now, then, fits))
        ∙ who_goes_alike (standing_of n) (item_of n) kept stay.keys [] (λ g. refl) (λ g. refl) (λ g. refl) (λ g. refl) stay_listed (λ g _. refl) (λ t h. absurd h) c.size c.size 0 0 n.recency (λ g listed h. absurd (both_ways _ refl h))
        (ap (λ l. blocks_of l + 0) (append-nil (items_of n)) ∙ ap (λ k. k + 0) same) refl
        ∙ ap (who_goes c.size kept) (append-nil (items_of n))
