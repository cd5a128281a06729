-- Who goes for an operation may be dropped in front of it.
use Rattle.std.proofs.Common.{◌≡◌, ◌≢◌, ℕ, Bool, true, false, cond, ◌||◌, if◌then◌else◌, ◌==◌, List, Option}
use Rattle.std.proofs.Common.{Some, None, IsSome, is_some, Result, Ok, Err, refl, sym, ap, ◌∙◌, subst, ⊎_elim, inl, inr}
use Rattle.std.proofs.Common.{◌⊎◌, arith}
use Rattle.std.proofs.lemmas.Bool.Decides.{nat_tests}
use Rattle.std.proofs.lemmas.Bool.{or_left, or_right, or_cases, or_parts, false≢true, false_from_ne_true, eqb-true}
use Rattle.std.proofs.lemmas.Option.{none-some, same_Some}
use Rattle.std.specs.FinMap as map
use Rattle.coda_fid.specs.Fid.{same_fid}
use Rattle.coda_fid.specs.Op.{carried}
use Rattle.coda_fid.specs.declared.fid.Fid.{Fid}
use Rattle.coda_fid.specs.declared.op.Op.{Op}
use Rattle.coda_fid.specs.declared.op.Op.TheVariants.{Create, Mkdir, Symlink, Store, Setattr, Remove, Rmdir, Rename}
use Rattle.coda_fid.specs.declared.op.Record.{Record}
use Rattle.coda_tree.specs.Volume.{has}
use Rattle.coda_tree.proofs.Order.{fid_cases}
use Rattle.coda_cancel.specs.Cancel.{add, appended, cancels, object, without}
use Rattle.coda_cancel.specs.Dropping.{mentioning}
use Rattle.coda_cancel.proofs.Keys.{fid_same}
use Rattle.coda_cml.specs.Steady.{any_record, makes_in}
use Rattle.coda_walk.specs.declared.item.Item.{Item}
use Rattle.coda_walk.specs.Going.{is_listed, stays, who_goes}
use Rattle.coda_walk.specs.Laws.{Among}
use Rattle.coda_cache.specs.declared.fault.CacheFault.{CacheFault}
use Rattle.coda_cache.specs.Laws.{IsCache}
use Rattle.coda_cache.specs.Room.{item_of, items_of, with_ancestors}
use Rattle.coda_cache.specs.Steps.{new_node, taken_out, moved_node}
use Rattle.coda_cache.proofs.Agreeing.{latest_else}
use Rattle.coda_venus.specs.Accepting.{is_mentioned}
use Rattle.coda_venus.specs.Held.{is_below}
use Rattle.coda_venus.specs.History.{IsDirty, MayEnterAll}
use Rattle.coda_venus.specs.State.{ClientVolume, volume_after}
use Rattle.coda_plain.specs.Deeds.{Operated}
use Rattle.coda_venus.specs.Serving.{ServingClient, used_new, cache_of, once_operated}
use Rattle.coda_venus.specs.Rounds.{dropping}
use Rattle.coda_rounds.specs.Entering.{IsOrderly, StandWhereMade, LooksUp, WhatGoesForOperationsMayBeDropped}
use Rattle.coda_histories.proofs.Ways.{below_itself}
use Rattle.coda_rounds.proofs.Climbing.{parent_below, parent_kept}
use Rattle.coda_rounds.proofs.Dropped.{Tell, may_drop_all}
use Rattle.coda_rounds.proofs.HeldBehind.{IsApart, held_before, held_behind, same_parent}
use Rattle.coda_rounds.proofs.Items.{among_of, parent_at, recent_is, recent_from, dirty_pinned, item_is}
use Rattle.coda_rounds.proofs.LogMentions.{IsLeft, last_mentions, mentioned_still}

-- ---- what is mentioned behind an operation

same_number : (n : ℕ) → (n == n) ≡ true
same_number n = grind (arith, nat_tests)

in_it : (d g f : Fid) → g ≡ f → (same_fid d f || (same_fid g f || false)) ≡ true
in_it d g f same = or_right (same_fid d f) _ (or_left (same_fid g f) false (fid_same g f same))

-- a creation undoes nothing, and mentions what it makes
creates_last : (op : Op) (dir f : Fid) → new_node op ≡ Some (dir, f) → (recs : List Record)
    → (cancels op recs ≡ false) × (mentioning f op ≡ true)
creates_last (Create d name g mode owner) dir f e recs = (refl, in_it d g f (ap (λ (p : Fid × Fid). p.1) (same_Some (d, g) (dir, f) e)))
creates_last (Mkdir d name g mode owner) dir f e recs = (refl, in_it d g f (ap (λ (p : Fid × Fid). p.1) (same_Some (d, g) (dir, f) e)))
creates_last (Symlink d name g target mode owner) dir f e recs = (refl, in_it d g f (ap (λ (p : Fid × Fid). p.1) (same_Some (d, g) (dir, f) e)))
creates_last (Store g pre content) dir f e recs = absurd (none-some (dir, f) e)
creates_last (Setattr g pre attrs) dir f e recs = absurd (none-some (dir, f) e)
creates_last (Remove d name g pre) dir f e recs = absurd (none-some (dir, f) e)
creates_last (Rmdir d name g pre) dir f e recs = absurd (none-some (dir, f) e)
creates_last (Rename d name to_dir to g over) dir f e recs = absurd (none-some (dir, f) e)

makes_mentioned : (recs : List Record) (rec : Record) (dir f : Fid) → new_node rec.op ≡ Some (dir, f)
    → any_record (mentioning f) (add recs rec) ≡ true
makes_mentioned recs rec dir f e =
    let c = creates_last rec.op dir f e recs in
    ap (λ b. any_record (mentioning f) (cond b (without (object (carried rec.op)) recs) (appended recs rec))) c.0
    ∙ last_mentions f recs rec c.1

module _ (s : ServingClient) (volume : ℕ) (rec : Record) (looked : List Fid) (is_cache : IsCache (cache_of s)) (orderly : IsOrderly s) (stand : StandWhereMade s volume) (looks : LooksUp s volume rec.op looked) where
  abbrev then_is : ServingClient
  then_is = once_operated s volume rec

  abbrev kept : List Fid
  kept = with_ancestors (cache_of s) looked

  abbrev was : ClientVolume
  was = s.client.volumes volume

  -- a node that is made is mentioned then
  made_dirty : (dir f : Fid) → new_node rec.op ≡ Some (dir, f) → IsDirty then_is.client f
  made_dirty dir f e =
      at_volume f.volume (looks.made dir f e).0
    where
      at_volume : (v : ℕ) → v ≡ volume → is_mentioned (then_is.client.volumes v) f ≡ true
      at_volume v same =
          subst (λ x. is_mentioned (then_is.client.volumes x) f ≡ true) (sym same)
          (ap (λ b. is_mentioned (if b then volume_after was (Operated rec) else was) f) (same_number volume)
          ∙ or_right (any_record (mentioning f) was.log.chunk) _ (makes_mentioned was.log.records rec dir f e))

  -- what is mentioned before is mentioned then, or is kept or taken out
  dirty_still : (q : Fid) → IsDirty s.client q → (IsDirty then_is.client q) ⊎ ((f : Fid) × (taken_out rec.op ≡ Some f) × ((q ≡ f) ⊎ (map.get s.client.held.parents f ≡ Some q)))
  dirty_still q dirty = by (q.volume == volume) refl
    where
      in_records : IsLeft q was.log.records rec → (is_mentioned (volume_after was (Operated rec)) q ≡ true) ⊎ ((f : Fid) × (taken_out rec.op ≡ Some f) × ((q ≡ f) ⊎ (map.get s.client.held.parents f ≡ Some q)))
      in_records (inl still) = inl (or_right (any_record (mentioning q) was.log.chunk) _ still)
      in_records (inr undone) = inr (
        undone.0,
        undone.1,
        ⊎_elim (λ (same : q ≡ undone.0). inl same)
            (λ (makes : any_record (makes_in q undone.0) was.log.records ≡ true). inr
            (stand q undone.0 undone.2 makes)) undone.3,
      )

      by : (b : Bool) → (q.volume == volume) ≡ b → (is_mentioned (if b then volume_after was (Operated rec) else s.client.volumes q.volume) q ≡ true) ⊎ ((f : Fid) × (taken_out rec.op ≡ Some f) × ((q ≡ f) ⊎ (map.get s.client.held.parents f ≡ Some q)))
      by false e = inl dirty
      by true e = ⊎_elim
          (λ (chunk : any_record (mentioning q) was.log.chunk ≡ true). inl
          (or_left (any_record (mentioning q) was.log.chunk) _ chunk))
          (λ (recs : any_record (mentioning q) was.log.records ≡ true). in_records
          (mentioned_still q was.log.records rec recs))
          (or_cases (any_record (mentioning q) was.log.chunk) (any_record (mentioning q) was.log.records)
          (ap (λ v. is_mentioned (s.client.volumes v) q) (sym (eqb-true q.volume volume e)) ∙ dirty))

  -- ---- who goes

  taken_kept : (f p : Fid) → taken_out rec.op ≡ Some f → map.get s.client.held.parents f ≡ Some p
      → is_listed kept p ≡ true
  taken_kept f p out at =
      let there = orderly.cached f p at in
      parent_kept (cache_of s) is_cache looked f p (looks.taken f out) there (parent_at s f there ∙ at)

  moved_kept : (f dir p : Fid) → moved_node rec.op ≡ Some (f, dir) → map.get s.client.held.parents f ≡ Some p
      → is_listed kept p ≡ true
  moved_kept f dir p to at =
      let there = orderly.cached f p at in
      parent_kept (cache_of s) is_cache looked f p (looks.moved f dir to) there (parent_at s f there ∙ at)

  not_kept : (i : Item) → stays kept i ≡ false → is_listed kept i.fid ≡ true → ⊥
  not_kept i free on = false≢true (sym (or_parts i.pinned (is_listed kept i.fid) free).1 ∙ on)

  goer_there : (i : Item) → Among i (items_of (cache_of then_is)) → stays kept i ≡ false
      → IsSome (map.get s.client.held.nodes i.fid) × (¬ IsDirty s.client i.fid)
  goer_there i h free =
      let is = item_is then_is i h in
      let before = held_before s.client.held s.client.number rec i.fid (recent_is then_is i.fid is.0).0 in
      let clean : (IsDirty then_is.client i.fid → ⊥) = λ dirty. false≢true (sym (or_parts i.pinned (is_listed kept i.fid) free).0 ∙ is.1 ∙ dirty_pinned then_is i.fid is.0 dirty) in (
        ⊎_elim (λ (there : has s.client.held.nodes i.fid ≡ true). there)
            (λ (made : (dir : Fid) × (new_node rec.op ≡ Some (dir, i.fid))). absurd (clean (made_dirty made.0 i.fid made.1)))
            before.1,
        λ dirty. ⊎_elim clean
            (λ (out : (f : Fid) × (taken_out rec.op ≡ Some f) × ((i.fid ≡ f) ⊎ (map.get s.client.held.parents f ≡ Some i.fid))). ⊎_elim
            (λ (same : i.fid ≡ out.0). false≢true (sym (before.0 out.0 out.1)
            ∙ ap (λ x. is_below s.client.held.parents x out.0) same ∙ below_itself s.client.held.parents out.0))
            (λ (at : map.get s.client.held.parents out.0 ≡ Some i.fid). not_kept i free (taken_kept out.0 i.fid out.1 at))
            out.2)
            (dirty_still i.fid dirty),
      )

  -- what stands under one that goes stands there behind the operation
  module _ (g : Fid) (i : Item) (at : map.get s.client.held.parents g ≡ Some i.fid) (h : Among i (items_of (cache_of then_is))) (free : stays kept i ≡ false) where
    there : has s.client.held.nodes g ≡ true
    there = orderly.cached g i.fid at

    apart : IsApart s.client.held s.client.number rec g
    apart x out = false_from_ne_true _ (λ below. elim (fid_cases g x) [
      | inl same ↦ not_kept i free (taken_kept x i.fid out (ap (map.get s.client.held.parents) (sym same) ∙ at))
      | inr off ↦ false≢true (sym ((held_before s.client.held s.client.number rec i.fid
          (recent_is then_is i.fid (item_is then_is i h).0).0).0 x out)
          ∙ parent_below s.client.held.parents g i.fid x at off below)
    ])

    not_made : (dir f : Fid) → new_node rec.op ≡ Some (dir, f) → g ≢ f
    not_made dir f e same =
        false≢true (ap is_some (sym ((looks.made dir f e).1)) ∙ ap (has s.client.held.nodes) (sym same) ∙ there)

    not_moved : (f dir : Fid) → moved_node rec.op ≡ Some (f, dir) → g ≢ f
    not_moved f dir e same =
        not_kept i free (moved_kept f dir i.fid e (ap (map.get s.client.held.parents) (sym same) ∙ at))

    used_still : (o : Option (Fid × Fid)) → new_node rec.op ≡ o
        → is_listed (used_new s.beside.uses o) g ≡ true
    used_still None e = orderly.used g there
    used_still (Some made) e =
        latest_else s.beside.uses made.1 g (not_made made.0 made.1 e) ∙ orderly.used g there

    under_then : (j : Item) × Among j (items_of (cache_of then_is)) × (j.fid ≡ g) × (j.parent ≡ Some i.fid)
    under_then =
        let still = held_behind s.client.held s.client.number rec g apart there in
        let recent = recent_from then_is g still (used_still (new_node rec.op) refl) in (
          item_of (cache_of then_is) g,
          among_of (item_of (cache_of then_is)) (cache_of then_is).recency g recent,
          refl,
          parent_at then_is g still
              ∙ same_parent s.client.held s.client.number rec g apart not_made not_moved ∙ at,
        )

  tells : Tell kept s.client (items_of (cache_of then_is))
  tells = record { there = goer_there; above = under_then }

  found : (b : Bool) (err : CacheFault) (who gone : List Fid)
      → ◌≡◌ {A = Result (List Fid) CacheFault} (if b then Err err else Ok who) (Ok gone) → who ≡ gone
  found true err who gone e = cc
  found false err who gone e = cc

pub what_goes_for_operations : WhatGoesForOperationsMayBeDropped
unfolding who_goes
what_goes_for_operations s volume rec looked gone is_cache orderly stand looks room =
    subst (λ l. MayEnterAll s.client (dropping l))
    (found s volume rec looked is_cache orderly stand looks _ _ _ gone room)
    (may_drop_all _ (cache_of s).size _ _ s.client (tells s volume rec looked is_cache orderly stand looks))
