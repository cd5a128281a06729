-- Each step of a call, with its fetches, has a payload that may follow.
use Rattle.std.proofs.Common.{◌≡◌, ℕ, Bool, true, false, cond, List, [], Option, Some, None, is_some, Result}
use Rattle.std.proofs.Common.{Ok, Err, refl, sym, ap, ◌∙◌, subst, inl, inr}
use Rattle.std.specs.FinMap as map
use Rattle.coda_fid.specs.declared.fid.Fid.{Fid}
use Rattle.coda_fid.specs.declared.op.Record.{Record}
use Rattle.coda_tree.specs.declared.node.Node.{Node}
use Rattle.coda_tree.specs.declared.node.NodeKind.{NodeKind}
use Rattle.coda_tree.specs.Bindings.{Name}
use Rattle.coda_tree.specs.Volume.{child, child_of}
use Rattle.coda_tree.proofs.Parents.{parent_complete, there_node}
use Rattle.coda_cache.specs.declared.fault.CacheFault.{CacheFault}
use Rattle.coda_venus.specs.Accepting.{sight_of, accept}
use Rattle.coda_venus.specs.Ask.{Asked, too_big}
use Rattle.coda_venus.specs.Code.{has_room, is_full}
use Rattle.coda_venus.specs.Keeping.{seen_at}
use Rattle.coda_venus.specs.declared.refused.Refused.{Refused as Refusal}
use Rattle.coda_venus.specs.declared.refused.Refused.TheVariants.{Need, LogFull}
use Rattle.coda_venus.specs.declared.seen.Seen.{Seen}
use Rattle.coda_venus.specs.Serving.{ServingClient, served, serving, using, looked_up_for, goes_for}
use Rattle.coda_venus.specs.Rounds.{RefusalCause, Because, CallResult, Answered, Needs, CallTurn, Sources}
use Rattle.coda_venus.specs.Rounds.{called_by, performed_unless, operated_by, accepted, operating_unless, operating}
use Rattle.coda_venus.specs.Rounds.{shown_by, showing}
use Rattle.coda_rounds.specs.Laws.{RefusesItself}
use Rattle.coda_rounds.specs.Sights.{IsLedTo}
use Rattle.coda_rounds.specs.Entering.{IsPlaced, MayEnterSteps, IsReady, NeedsPlaced, AnswersMayBeEntered}
use Rattle.coda_rounds.specs.Entering.{CallsMayBeEntered}
use Rattle.coda_rounds.proofs.InOrder.{in_order_cache}
use Rattle.coda_rounds.proofs.Needed.{needed_objects_are_led_to}
use Rattle.coda_rounds.proofs.Performing.{operations_may_be_entered}
use Rattle.coda_rounds.proofs.Ready.{ready_looked, rounds_may_be_entered}
use Rattle.coda_rounds.proofs.Replies.{served_is}
use Rattle.coda_rounds.proofs.Unserved.{by_needs, recorded_needs, seen_needs, showing_needs, needs_law}

-- ---- what is needed

-- what is led to over what is served is placed
led_placed : (emulating : Bool) (s : ServingClient) (fid : Fid) → IsLedTo (served emulating s) fid → IsPlaced s fid
led_placed emulating s fid (inl root) absent = inl root
led_placed emulating s fid (inr by) absent =
    let there = there_node (map.get (served emulating s) by.0) fid by.1 by.2 in
    let was = (served_is emulating s by.0 there.0 there.1).1 in
    let binds : child s.client.held.nodes by.0 by.1 ≡ Some fid = ap (λ o. child_of o by.1) (was ∙ sym there.1) ∙ by.2 in
    inr (ap is_some (parent_complete s.client.held.nodes by.0 by.1 fid binds).1)

operating_placed : {A : Type 0} (o : Option ℕ) (emulating : Bool) (refused : RefusalCause → A) (done : Record → A) (time volume : ℕ) (ask : Asked) (s : ServingClient) (fid : Fid) → (operating_unless o emulating refused done time volume ask s).comes_to ≡ Needs fid → IsPlaced s fid
operating_placed {A} (Some size) emulating refused done time volume ask s fid h = absurd (cc)
operating_placed {A} None emulating refused done time volume ask s fid h =
    let looked = looked_up_for (served emulating s) volume ask in
    let n = by_needs A (accepted emulating s time volume ask) emulating refused done (using s looked) volume looked fid h in
    led_placed emulating s fid (needed_objects_are_led_to (sight_of (serving emulating s) volume) volume ask fid
    (recorded_needs A (s.client.volumes volume) time (accept (sight_of (serving emulating s) volume) volume ask) fid
    n.1))

pub operating_place : {A : Type 0} (emulating : Bool) (refused : RefusalCause → A) (done : Record → A)
    (time volume : ℕ) (ask : Asked) → NeedsPlaced (operating emulating refused done time volume ask)
operating_place {A} emulating refused done time volume ask fetched s looked fid h =
    operating_placed (too_big ask) emulating refused done time volume ask s fid
    (ap (λ (t : CallTurn A). t.comes_to) h)

pub showing_place : {A : Type 0} (emulating : Bool) (refused : RefusalCause → A) (show : Bool → Seen → A)
    (kind : Node → NodeKind → Result Node Refusal) (volume : ℕ) (path : List Name) → RefusesItself kind
    → NeedsPlaced (showing emulating refused show kind volume path)
showing_place {A} emulating refused show kind volume path itself fetched s looked fid h =
    let n = showing_needs A (seen_at kind (served emulating s) volume path) emulating refused show fetched fid (ap (λ (t : CallTurn A). t.comes_to) h) in
    led_placed emulating s fid (seen_needs A kind itself (served emulating s) volume path fid n.1).1

-- ---- what a call does as it answers

-- its steps may be entered at the client
abbrev Enters : ServingClient → CallResult ℕ → Type 0
Enters s (Answered steps a) = MayEnterSteps s steps
Enters s (Needs fid) = Unit {0}

called_enters : (s : ServingClient) (emulating : Bool) (refused : RefusalCause → ℕ) (why : Refusal)
    → Enters s (called_by emulating refused why)
called_enters s true refused why = tt
called_enters s false refused (Need g) = tt
called_enters s false refused _ = tt

performed_enters : (s : ServingClient) (r : Result (List Fid) CacheFault) (full : Bool) (refused : RefusalCause → ℕ) (done : Record → ℕ) (volume : ℕ) (rec : Record) → ((gone : List Fid) → r ≡ Ok gone → full ≡ false → Enters s (performed_unless (Ok gone) false refused done volume rec)) → Enters s (performed_unless r full refused done volume rec)
performed_enters s (Ok gone) true refused done volume rec may = tt
performed_enters s (Ok gone) false refused done volume rec may = may gone refl refl
performed_enters s (Err why) full refused done volume rec may = tt

room_enters : (s : ServingClient) (b : Bool) (x : CallResult ℕ) (a : ℕ) → (b ≡ true → Enters s x)
    → Enters s (cond b x (Answered [] a))
room_enters s true x a may = may refl
room_enters s false x a may = tt

module _ (sources : Sources) (emulating : Bool) (refused : RefusalCause → ℕ) (done : Record → ℕ) (time volume : ℕ) (ask : Asked) (s : ServingClient) (ready : IsReady sources s volume) where
  abbrev looked : List Fid
  looked = looked_up_for (served emulating s) volume ask

  by_enters : too_big ask ≡ None → (r : Result Record Refusal) → accepted emulating s time volume ask ≡ r → Enters
      (using s looked) (operated_by r emulating refused done (using s looked) volume looked)
  by_enters small (Err why) e = called_enters (using s looked) emulating refused why
  by_enters small (Ok rec) e =
      room_enters (using s looked) (has_room (s.client.volumes volume) rec)
      (performed_unless (goes_for (using s looked) volume rec looked) (is_full (s.client.volumes volume)) refused done
      volume rec) (refused (Because LogFull))
      (λ room. performed_enters (using s looked) (goes_for (using s looked) volume rec looked)
      (is_full (s.client.volumes volume)) refused done volume rec
      (λ gone goes few. (
        operations_may_be_entered emulating (using s looked) time volume ask rec gone
            (in_order_cache (using s looked) now.order) now.order.orderly now.stand now.within now.free small e room few goes,
        tt,
      )))
    where
      now : IsReady sources (using s looked) volume
      now = ready_looked sources s volume looked ready

  operating_enters : (o : Option ℕ) → too_big ask ≡ o
      → let t : CallTurn ℕ = operating_unless o emulating refused done time volume ask s in Enters (using s t.looked) t.comes_to
  operating_enters (Some size) e = tt
  operating_enters None e = by_enters e (accepted emulating s time volume ask) refl

operating_answers : (sources : Sources) (emulating : Bool) (refused : RefusalCause → ℕ) (done : Record → ℕ)
    (time volume : ℕ) (ask : Asked)
    → AnswersMayBeEntered sources volume (operating emulating refused done time volume ask)
operating_answers sources emulating refused done time volume ask fetched s fids own answer ready e =
    subst (λ (t : CallTurn ℕ). Enters (using s t.looked) t.comes_to) e
    (operating_enters sources emulating refused done time volume ask s ready (too_big ask) refl)

shown_enters : (s : ServingClient) (r : Result Seen Refusal) (emulating : Bool) (refused : RefusalCause → ℕ) (show : Bool → Seen → ℕ) (fetched : List Fid) → Enters s (shown_by r emulating refused show fetched)
shown_enters s (Err why) emulating refused show fetched = called_enters s emulating refused why
shown_enters s (Ok seen) emulating refused show fetched = tt

showing_answers : (sources : Sources) (emulating : Bool) (refused : RefusalCause → ℕ) (show : Bool → Seen → ℕ)
    (kind : Node → NodeKind → Result Node Refusal) (volume : ℕ) (path : List Name)
    → AnswersMayBeEntered sources volume (showing emulating refused show kind volume path)
showing_answers sources emulating refused show kind volume path fetched s fids own answer ready e =
    subst (λ (t : CallTurn ℕ). Enters (using s t.looked) t.comes_to) e
    (shown_enters (using s ((showing emulating refused show kind volume path).turn fetched s).looked)
    (seen_at kind (served emulating s) volume path) emulating refused show fetched)

-- ---- every call

pub calls_may_be_entered : CallsMayBeEntered
calls_may_be_entered = record {
  operating = λ sources emulating refused done time volume ask s steps answer ready rounds.
      rounds_may_be_entered sources emulating volume (operating emulating refused done time volume ask) [] s steps
      answer (needs_law.operating emulating refused done time volume ask)
      (operating_place emulating refused done time volume ask)
      (operating_answers sources emulating refused done time volume ask) ready rounds;
  showing = λ sources emulating refused show kind volume path s steps answer itself ready rounds.
      rounds_may_be_entered sources emulating volume (showing emulating refused show kind volume path) [] s steps answer
      (λ fetched s looked fid h. needs_law.showing emulating refused show kind volume path fetched s looked fid itself
      h)
      (showing_place emulating refused show kind volume path itself)
      (showing_answers sources emulating refused show kind volume path) ready rounds;
}
