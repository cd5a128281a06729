-- The payload of an operation may follow.
use Rattle.std.proofs.Common.{◌≡◌, ℕ, ◌+◌, Bool, true, false, if◌then◌else◌, ◌&&◌, not, List, [], ◌∷◌, Option}
use Rattle.std.proofs.Common.{Some, None, is_some, Result, Ok, Err, refl, sym, ap, ◌∙◌, subst, arith}
use Rattle.std.proofs.lemmas.Bool.{and_parts, or_parts, false≢true, false_from_ne_true, leb-false}
use Rattle.std.proofs.lemmas.Option.{none-some, same_Some}
use Rattle.std.specs.FinMap as map
use Rattle.std.specs.List.{list_any}
use Rattle.coda_fid.specs.Fid.{same_fid}
use Rattle.coda_fid.specs.declared.fid.Fid.{Fid}
use Rattle.coda_fid.specs.declared.op.Op.{Op}
use Rattle.coda_fid.specs.declared.op.Op.TheVariants.{Create, Mkdir, Symlink, Store, Setattr, Remove, Rmdir, Rename}
use Rattle.coda_fid.specs.declared.op.Record.{Record}
use Rattle.coda_tree.specs.declared.node.Node.{Node}
use Rattle.coda_tree.specs.Volume.{has}
use Rattle.coda_walk.specs.Going.{is_listed, who_goes}
use Rattle.coda_cache.specs.declared.fault.CacheFault.{CacheFault}
use Rattle.coda_cache.specs.Room.{items_of, with_ancestors}
use Rattle.coda_cache.specs.Steps.{new_node}
use Rattle.coda_record.specs.declared.entry.ClientEntry.TheVariants as entry
use Rattle.coda_venus.specs.Accepting.{Accepted, Sight, is_mentioned, next_fid, sight_of, accept}
use Rattle.coda_venus.specs.Ask.{Asked, too_big}
use Rattle.coda_venus.specs.Code.{has_room, is_full}
use Rattle.coda_venus.specs.Held.{is_below, some_below}
use Rattle.coda_venus.specs.History.{MayOperate, MayEnterAll}
use Rattle.coda_venus.specs.Keeping.{record_of}
use Rattle.coda_venus.specs.State.{ClientVolume, ClientState}
use Rattle.coda_venus.proofs.Accepted.{Relies, accepted_relies}
use Rattle.coda_venus.specs.Serving.{ServingClient, served, serving, looked_up_for, cache_of, once_operated, goes_for}
use Rattle.coda_venus.specs.Rounds.{dropping, recorded}
use Rattle.coda_rounds.specs.Laws.{MentionsOnlyVolume}
use Rattle.coda_rounds.specs.Sights.{HasLookedUp}
use Rattle.coda_rounds.specs.Entering.{LooksUp, IsNextFree, OperationsMayBeEntered}
use Rattle.coda_rounds.proofs.DroppedBelow.{below_left, dropped_clean, dropped_gone, left_number}
use Rattle.coda_rounds.proofs.Fetching.{enter_behind}
use Rattle.coda_rounds.proofs.LookedAt.{accepted_looks}
use Rattle.coda_rounds.proofs.Operating.{what_goes_for_operations}
use Rattle.coda_rounds.proofs.Others.{left_stays}
use Rattle.coda_rounds.proofs.Replies.{left_of, left_node, left_volumes, served_is}
use Rattle.coda_rounds.proofs.Staying.{goer, held, ancestors_have}
use Rattle.coda_rounds.proofs.Unserved.{some_key, key_some, present, alike, below_is}
use Rattle.coda_rounds.proofs.Whole.{what_was_looked_up}

-- what an operation makes is the next object
pub made_next : (t : Sight) (volume : ℕ) (op : Op) (dir f : Fid) → Relies t volume op → new_node op ≡ Some (dir, f)
    → f ≡ next_fid t volume
made_next t volume (Create d name g mode owner) dir f r e =
    sym (ap (λ (p : Fid × Fid). p.1) (same_Some (d, g) (dir, f) e)) ∙ r.next
made_next t volume (Mkdir d name g mode owner) dir f r e =
    sym (ap (λ (p : Fid × Fid). p.1) (same_Some (d, g) (dir, f) e)) ∙ r.next
made_next t volume (Symlink d name g target mode owner) dir f r e =
    sym (ap (λ (p : Fid × Fid). p.1) (same_Some (d, g) (dir, f) e)) ∙ r.next
made_next t volume (Store g pre content) dir f r e = absurd (none-some (dir, f) e)
made_next t volume (Setattr g pre attrs) dir f r e = absurd (none-some (dir, f) e)
made_next t volume (Remove d name g pre) dir f r e = absurd (none-some (dir, f) e)
made_next t volume (Rmdir d name g pre) dir f r e = absurd (none-some (dir, f) e)
made_next t volume (Rename d name to_dir to g over) dir f r e = absurd (none-some (dir, f) e)

-- what is kept doesn't go for an operation
kept_stays : (s : ServingClient) (volume : ℕ) (rec : Record) (looked gone : List Fid)
    → goes_for s volume rec looked ≡ Ok gone → (g : Fid) → is_listed (with_ancestors (cache_of s) looked) g ≡ true
    → is_listed gone g ≡ false
unfolding who_goes
kept_stays s volume rec looked gone room g on =
    subst (λ l. is_listed l g ≡ false) (found _ _ _ gone room) (false_from_ne_true _ (λ goes.
    let o = goer _ (cache_of s).size (with_ancestors (cache_of s) looked) (items_of (cache_of (once_operated s volume rec))) g goes in
    false≢true (sym (or_parts o.0.pinned (is_listed (with_ancestors (cache_of s) looked) o.0.fid) o.3).1
    ∙ subst (λ x. is_listed (with_ancestors (cache_of s) looked) x ≡ true) (sym o.2) on)))
  where
    found : (b : Bool) (err : CacheFault) (who gone : List Fid)
        → ◌≡◌ {A = Result (List Fid) CacheFault} (if b then Err err else Ok who) (Ok gone) → who ≡ gone
    found true err who gone e = cc
    found false err who gone e = cc

module _ (emulating : Bool) (s : ServingClient) (volume : ℕ) (ask : Asked) (op : Op) (within : MentionsOnlyVolume s volume) (free : IsNextFree s volume) (is : accept (sight_of (serving emulating s) volume) volume ask ≡ Ok op) where
  abbrev looked : List Fid
  looked = looked_up_for (served emulating s) volume ask

  -- it looked up what it takes out and moves, and makes the next object
  looks : LooksUp s volume op looked
  looks =
      let own = accepted_looks (sight_of (serving emulating s) volume) volume ask op is in
      let relies = accepted_relies (sight_of (serving emulating s) volume) volume ask op is in record {
        taken = own.taken;
        moved = own.moved;
        made = λ dir f e.
            let next = made_next (sight_of (serving emulating s) volume) volume op dir f relies e in
            (ap (λ (x : Fid). x.volume) next, ap (map.get s.client.held.nodes) next ∙ free);
      }

  -- ---- over what the drops leave

  module _ (gone : List Fid) (may : MayEnterAll s.client (dropping gone)) (stay : (g : Fid) → is_listed (with_ancestors (cache_of s) looked) g ≡ true → is_listed gone g ≡ false) where
    abbrev then_left : ClientState
    then_left = left_of s.client gone

    looked_stays : (f : Fid) → is_listed looked f ≡ true → has s.client.held.nodes f ≡ true → is_listed gone f ≡ false
    looked_stays f on there = stay f (ancestors_have (cache_of s) looked f there (held s f there) on)

    was_there : (f : Fid) → has (served emulating s) f ≡ true → has s.client.held.nodes f ≡ true
    was_there f there =
        let n = present (map.get (served emulating s) f) there in
        ap is_some (served_is emulating s f n.0 n.1).1

    abbrev dirty : Fid → Bool
    dirty g = is_mentioned (s.client.volumes volume) g

    abbrev tested : ClientState → Fid → Fid → Bool
    tested c f g = not (same_fid g f) && (dirty g && is_below c.held.parents g f)

    same_test : (f g : Fid) → is_listed gone g ≡ false → tested then_left f g ≡ tested s.client f g
    same_test f g off = ap (λ b. not (same_fid g f) && (dirty g && b)) (below_left s.client gone may g f off)

    dirty_stays : (f g : Fid) → tested s.client f g ≡ true → is_listed gone g ≡ false
    dirty_stays f g passes =
        let d = (and_parts (dirty g) _ (and_parts (not (same_fid g f)) _ passes).1).0 in
        false_from_ne_true _ (λ goes. dropped_clean s.client gone may g goes
        (ap (λ v. is_mentioned (s.client.volumes v) g) (within g d) ∙ d))

    there_stays : (g : Fid) → has then_left.held.nodes g ≡ true → is_listed gone g ≡ false
    there_stays g there =
        false_from_ne_true _ (λ goes. false≢true (sym (ap is_some (dropped_gone s.client gone g goes)) ∙ there))

    same_dirty : (f : Fid)
        → list_any (tested s.client f) (map.keys s.client.held.nodes)
        ≡ list_any (tested then_left f) (map.keys then_left.held.nodes)
    same_dirty f = alike _ _
        (λ h. let r = key_some (tested s.client f) s.client.held.nodes h in
        let off = dirty_stays f r.0 r.2 in
        some_key (tested then_left f) then_left.held.nodes r.0
        (ap is_some (left_stays s.client gone r.0 off) ∙ r.1) (same_test f r.0 off ∙ r.2))
        (λ h. let r = key_some (tested then_left f) then_left.held.nodes h in
        let off = there_stays r.0 r.1 in
        some_key (tested s.client f) s.client.held.nodes r.0
        (ap is_some (sym (left_stays s.client gone r.0 off)) ∙ r.1) (sym (same_test f r.0 off) ∙ r.2))

    below_then : (f : Fid) → some_below s.client.held dirty f ≡ some_below then_left.held dirty f
    unfolding some_below
    below_then f = same_dirty f

    next_gone : (o : Option Node) → map.get then_left.held.nodes (next_fid (sight_of s.client volume) volume) ≡ o
        → o ≡ None
    next_gone None e = refl
    next_gone (Some node) e =
        absurd (none-some node (sym free ∙ left_node s.client gone (next_fid (sight_of s.client volume) volume) node e))

    same_next : next_fid (sight_of then_left volume) volume ≡ next_fid (sight_of s.client volume) volume
    same_next i = record {
      volume = volume;
      vnode = left_number s.client gone i;
      uniq = (left_volumes s.client gone i volume).creations + 1;
    }

    has_looked : HasLookedUp volume looked (sight_of (serving emulating s) volume) (sight_of then_left volume)
    has_looked = record {
      number = sym (left_number s.client gone);
      creations = ap (λ v. (v volume).creations) (sym (left_volumes s.client gone));
      nodes = λ f node on there.
          let was = (served_is emulating s f node there).1 in
          left_stays s.client gone f (looked_stays f on (ap is_some was)) ∙ was;
      above = λ f dir on there. sym (below_left s.client gone may f dir (looked_stays f on (was_there f there)));
      dirty_below = λ f on there.
          below_is emulating s volume within f ∙ below_then f
          ∙ ap (λ v. some_below then_left.held (λ g. is_mentioned (v volume) g) f) (sym (left_volumes s.client gone));
      fresh = ap (map.get then_left.held.nodes) same_next ∙ next_gone _ refl;
    }

    may_operate : (time : ℕ) → too_big ask ≡ None
        → has_room (s.client.volumes volume) (record_of (s.client.volumes volume) time op) ≡ true
        → is_full (s.client.volumes volume) ≡ false
        → MayOperate then_left volume (record_of (s.client.volumes volume) time op)
    may_operate time small room few =
        let same = sym (left_volumes s.client gone) in
        let below = leb-false 4294967295 (s.client.volumes volume).log.last few in record {
          ask = ask;
          small = small;
          accepted = what_was_looked_up (sight_of (serving emulating s) volume) (sight_of then_left volume) volume ask op
              has_looked is;
          next = ap (λ v. (v volume).log.last + 1) same;
          few = omega (arith, below);
          room = ap (λ v. has_room (v volume) (record_of (s.client.volumes volume) time op)) (sym same) ∙ room;
        }

-- ---- the law

-- what was recorded was accepted
pub was_accepted : (v : ClientVolume) (time : ℕ) (r : Accepted) (rec : Record) → recorded v time r ≡ Ok rec
    → (op : Op) × (r ≡ Ok op) × (record_of v time op ≡ rec)
was_accepted v time (Err why) rec h = absurd (cc)
was_accepted v time (Ok op) rec h = (op, refl, cc)

pub operations_may_be_entered : OperationsMayBeEntered
operations_may_be_entered emulating s time volume ask rec gone is_cache orderly stand within free small accepted room few goes =
    let a = was_accepted (s.client.volumes volume) time (accept (sight_of (serving emulating s) volume) volume ask) rec accepted in
    let looked : List Fid = looked_up_for (served emulating s) volume ask in
    let looks_up : LooksUp s volume rec.op looked = subst (λ (r : Record). LooksUp s volume r.op looked) a.2 (looks emulating s volume ask a.0 within free a.1) in
    let may = what_goes_for_operations s volume rec looked gone is_cache orderly stand looks_up goes in
    enter_behind s.client gone (entry.Op volume rec ∷ []) may (
      subst (λ (r : Record). MayOperate (left_of s.client gone) volume r) a.2 (may_operate emulating s volume ask a.0
          within free a.1 gone may (kept_stays s volume rec looked gone goes) time small
          (ap (has_room (s.client.volumes volume)) a.2 ∙ room) few),
      tt,
    )
