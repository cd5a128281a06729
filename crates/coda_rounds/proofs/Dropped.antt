-- Who goes may be dropped in turn, where each that may go is cached and clean, and what is cached under it has an item.
use Rattle.std.proofs.Common.{◌≡◌, ◌≢◌, ℕ, zero, suc, true, false, cond, not, List, [], ◌∷◌, Some, None}
use Rattle.std.proofs.Common.{IsSome, is_some, refl, sym, ap, ◌∙◌, inl, inr}
use Rattle.std.proofs.lemmas.Bool.{false≢true, not-true, not_from_false}
use Rattle.std.proofs.lemmas.Option.{none-some}
use Rattle.std.specs.Prelude.{nat_le}
use Rattle.std.specs.Option.{option_map_or}
use Rattle.std.specs.FinMap as map
use Rattle.coda_fid.specs.Fid.{same_fid}
use Rattle.coda_fid.specs.declared.fid.Fid.{Fid}
use Rattle.coda_fid.proofs.Fids.{fids_total, exact_fids, same_fid_refl}
use Rattle.coda_tree.proofs.Order.{fid_cases, gone_here, gone_else}
use Rattle.coda_cancel.proofs.Keys.{fid_false, fid_other}
use Rattle.coda_walk.specs.declared.item.Item.{Item}
use Rattle.coda_walk.specs.Going.{blocks_of, is_under, stays, without, next_to_go, going_within}
use Rattle.coda_walk.specs.Laws.{Among}
use Rattle.coda_walk.proofs.Goes.{next_may}
use Rattle.coda_walk.proofs.Lists.{in_filter, from_filter, any_from}
use Rattle.coda_record.specs.declared.entry.ClientEntry.TheVariants as entry
use Rattle.coda_venus.specs.History.{IsDirty, MayEnter, MayEnterAll}
use Rattle.coda_venus.specs.State.{ClientState, client_after}
use Rattle.coda_venus.specs.Rounds.{dropping}

-- An item that need not stay is that of a cached node that no record mentions; and what is cached under it has an item
-- too, under it.
pub record Tell (kept : List Fid) (c : ClientState) (items : List Item) : Type 0 where
  pub there : (i : Item) → Among i items → stays kept i ≡ false
      → IsSome (map.get c.held.nodes i.fid) × (¬ IsDirty c i.fid)
  pub above : (f : Fid) (i : Item) → map.get c.held.parents f ≡ Some i.fid → Among i items → stays kept i ≡ false
      → (j : Item) × Among j items × (j.fid ≡ f) × (j.parent ≡ Some i.fid)

module _ (kept : List Fid) (c : ClientState) (items : List Item) (tell : Tell kept c items) (i : Item) where
  abbrev rest : List Item
  rest = without i.fid items

  apart : (j : Item) → Among j rest → Among j items × (j.fid ≢ i.fid)
  apart j h = let p = from_filter (λ (x : Item). not (same_fid x.fid i.fid)) items j h in (p.0, fid_false j.fid i.fid (not-true _ p.1))

  left : (j : Item) → Among j items → j.fid ≢ i.fid → Among j rest
  left j h off =
      in_filter (λ (x : Item). not (same_fid x.fid i.fid)) items j h (not_from_false _ (fid_other j.fid i.fid off))

  -- it tells still of those that are left when it went
  tell_rest : Tell kept (client_after c (entry.Dropped i.fid)) rest
  tell_rest = record {
    there = λ j h free. let a = apart j h in let was = tell.there j a.0 free in (
      ap is_some (gone_else fids_total exact_fids c.held.nodes i.fid j.fid a.1) ∙ was.0,
      was.1,
    );
    above = λ f j at h free. elim (fid_cases f i.fid) [
      | inl same ↦ absurd (none-some j.fid (sym (ap (map.get (map.remove c.held.parents i.fid)) same ∙ gone_here fids_total c.held.parents i.fid) ∙ at))
      | inr off ↦
          let was = tell.above f j (sym (gone_else fids_total exact_fids c.held.parents i.fid f off) ∙ at) (apart j h).0 free in
          (was.0, left was.0 was.1 (λ e. off (sym was.2 ∙ e)), was.2, was.3)
    ];
  }

  -- one that may go may be dropped
  may_drop : next_to_go kept items ≡ Some i → MayEnter c (entry.Dropped i.fid)
  may_drop e =
      let n = next_may kept items i e in
      let is = tell.there i n.there n.free in (
        is.0,
        is.1,
        λ f at.
            let j = tell.above f i at n.there n.free in
            let under : is_under i.fid j.0 ≡ true = ap (λ o. option_map_or (λ p. same_fid p i.fid) o false) j.3 ∙ same_fid_refl i.fid in
            false≢true (sym n.bare ∙ any_from (is_under i.fid) items j.0 j.1 under),
      )

pub may_drop_all : (steps size : ℕ) (kept : List Fid) (items : List Item) (c : ClientState) → Tell kept c items
    → MayEnterAll c (dropping (going_within steps size kept items))
may_drop_all zero size kept items c tell = tt
may_drop_all (suc steps) size kept items c tell = elim (nat_le (blocks_of items) size) as (λ b. MayEnterAll c
    (dropping (cond b [] (option_map_or (λ (i : Item). i.fid ∷ going_within steps size kept (without i.fid items))
    (next_to_go kept items) [])))) [
      | true ↦ tt
      | false ↦ (elim (next_to_go kept items) as (λ o. next_to_go kept items ≡ o → MayEnterAll c
          (dropping (option_map_or (λ (i : Item). i.fid ∷ going_within steps size kept (without i.fid items)) o []))) [
            | None ↦ λ e. tt
            | Some i ↦ λ e. (
              may_drop kept c items tell i e,
              may_drop_all steps size kept (without i.fid items)
                  (client_after c (entry.Dropped i.fid)) (tell_rest kept c items tell i),
            )
          ]) refl
    ]
