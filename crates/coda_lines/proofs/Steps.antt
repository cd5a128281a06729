-- The steps of calls with replies: they may be entered, and what they fetch is given.
use Rattle.std.proofs.Common.{◌≡◌, ℕ, Bool, true, false, cond, List, [], ◌∷◌, ◌++◌, Option, Some, None, Result, Ok, Err, refl, ap, ◌∙◌, subst}
use Rattle.coda_fid.specs.declared.fid.Fid.{Fid}
use Rattle.coda_fid.specs.declared.op.Record.{Record}
use Rattle.coda_tree.specs.declared.node.Node.{Node}
use Rattle.coda_tree.specs.declared.node.NodeKind.{NodeKind}
use Rattle.coda_tree.specs.Bindings.{Name}
use Rattle.coda_cache.specs.declared.fault.CacheFault.{CacheFault}
use Rattle.coda_venus.specs.Ask.{Asked, too_big}
use Rattle.coda_venus.specs.Code.{has_room, is_full}
use Rattle.coda_venus.specs.Keeping.{seen_at}
use Rattle.coda_venus.specs.declared.refused.Refused.{Refused as Refusal}
use Rattle.coda_venus.specs.declared.refused.Refused.TheVariants.{Need, LogFull}
use Rattle.coda_venus.specs.declared.seen.Seen.{Seen}
use Rattle.coda_venus.specs.Serving.{ServingClient, served, using, looked_up_for, goes_for}
use Rattle.coda_venus.specs.Rounds.{RefusalCause, Because, RoundStep, Looked, Installed, Turned, Performed, serving_after, Sources, parent_of_fetched, why_full}
use Rattle.coda_venus.specs.Rounds.{CallResult, Answered, Needs, CallTurn, ClientCall, Rounds, answers, fails, turned, again}
use Rattle.coda_venus.specs.Rounds.{called_by, performed_unless, operated_by, accepted, operating_unless, operating, shown_by, showing}
use Rattle.coda_rounds.specs.Laws.{RefusesItself}
use Rattle.coda_rounds.specs.Entering.{MayEnterSteps, IsReady}
use Rattle.coda_rounds.proofs.Calls.{calls_may_be_entered}

-- what a step fetches is what a server gives, below its parent
abbrev pub IsGiven : Sources → ServingClient → RoundStep → Type 0
IsGiven sources s (Installed gone fid parent node server) =
    (parent ≡ parent_of_fetched s.client.held fid) × (sources fid ≡ Ok (node, server))
IsGiven sources s step = Unit {0}

abbrev pub AreGiven : Sources → ServingClient → List RoundStep → Type 0
AreGiven sources s [] = Unit {0}
AreGiven sources s (step ∷ steps) = IsGiven sources s step × AreGiven sources (serving_after s step) steps

-- ---- a call with any answers, and one that tells nothing

-- what it comes to, but for the answer
abbrev untold : {A : Type 0} → CallResult A → CallResult ℕ
untold (Answered steps a) = Answered steps 0
untold (Needs fid) = Needs fid

abbrev untold_turn : {A : Type 0} → CallTurn A → CallTurn ℕ
untold_turn t = record { looked = t.looked; comes_to = untold t.comes_to }

-- it fetches nothing as it answers
abbrev FetchNothing : List RoundStep → Type 0
FetchNothing [] = Unit {0}
FetchNothing (Installed gone fid parent node server ∷ steps) = ⊥
FetchNothing (step ∷ steps) = FetchNothing steps

abbrev ComesToNothing : {A : Type 0} → CallResult A → Type 0
ComesToNothing (Answered steps a) = FetchNothing steps
ComesToNothing (Needs fid) = Unit {0}

-- steps that fetch nothing are given
own_given : (sources : Sources) (s : ServingClient) (steps : List RoundStep) → FetchNothing steps
    → AreGiven sources s steps
own_given sources s [] none = tt
own_given sources s (Looked fids ∷ steps) none = (tt, own_given sources (serving_after s (Looked fids)) steps none)
own_given sources s (Installed gone fid parent node server ∷ steps) none = absurd none
own_given sources s (Turned fid server ∷ steps) none =
    (tt, own_given sources (serving_after s (Turned fid server)) steps none)
own_given sources s (Performed gone volume rec ∷ steps) none =
    (tt, own_given sources (serving_after s (Performed gone volume rec)) steps none)

module _ (A : Type 0) where
  -- the call but for its answers
  record IsUntold (call : ClientCall A) (other : ClientCall ℕ) : Type 0 where
    turns : (fetched : List Fid) (s : ServingClient) → other.turn fetched s ≡ untold_turn (call.turn fetched s)
    nothing : (fetched : List Fid) (s : ServingClient) → ComesToNothing (call.turn fetched s).comes_to

  -- so are its rounds, and what they fetch is given
  rounds_untold : (sources : Sources) (call : ClientCall A) (other : ClientCall ℕ) → IsUntold call other
      → (fetched : List Fid) (s : ServingClient) (steps : List RoundStep) (answer : A)
      → Rounds sources call fetched s steps answer
      → AreGiven sources s steps × ((told : ℕ) × Rounds sources other fetched s steps told)
  rounds_untold sources call other u fetched s steps answer (answers f' s' looked own a e) =
      let own_nothing : FetchNothing own = subst (λ (t : CallTurn A). ComesToNothing t.comes_to) e (u.nothing fetched s) in (
        (tt, own_given sources (serving_after s (Looked looked)) own own_nothing),
        (0, answers fetched s looked own 0 (u.turns fetched s ∙ ap untold_turn e)),
      )
  rounds_untold sources call other u fetched s steps answer (fails f' s' looked fid why e none) =
      ((tt, tt), (other.refused (Because why), fails fetched s looked fid why (u.turns fetched s ∙ ap untold_turn e) none))
  rounds_untold sources call other u fetched s steps answer (turned f' s' looked fid node server why e there full) =
      ((tt, (tt, tt)), (other.refused (why_full why), turned fetched s looked fid node server why (u.turns fetched s ∙ ap untold_turn e) there full))
  rounds_untold sources call other u fetched s steps answer (again f' s' looked fid node server gone later a e there room rest) =
      let more = rounds_untold sources call other u (fetched ++ fid ∷ [])
      (serving_after (serving_after s (Looked looked)) (Installed gone fid (parent_of_fetched s.client.held fid) node server)) later a rest in (
        (tt, ((refl, there), more.0)),
        (more.1.0, again fetched s looked fid node server gone later more.1.0 (u.turns fetched s ∙ ap untold_turn e) there room more.1.1),
      )

  called_untold : (emulating : Bool) (refused : RefusalCause → A) (why : Refusal)
      → (called_by emulating (λ cause. 0) why ≡ untold (called_by emulating refused why))
      × ComesToNothing (called_by emulating refused why)
  called_untold true refused why = (refl, tt)
  called_untold false refused (Need g) = (refl, tt)
  called_untold false refused _ = (refl, tt)

  performed_untold : (r : Result (List Fid) CacheFault) (full : Bool) (refused : RefusalCause → A) (done : Record → A)
      (volume : ℕ) (rec : Record)
      → (performed_unless r full (λ cause. 0) (λ rec. 0) volume rec ≡ untold (performed_unless r full refused done volume rec))
      × ComesToNothing (performed_unless r full refused done volume rec)
  performed_untold (Ok gone) true refused done volume rec = (refl, tt)
  performed_untold (Ok gone) false refused done volume rec = (refl, tt)
  performed_untold (Err why) full refused done volume rec = (refl, tt)

  room_untold : (b : Bool) (x : CallResult A) (y : CallResult ℕ) (a : A) → (y ≡ untold x) × ComesToNothing x
      → (cond b y (Answered [] 0) ≡ untold (cond b x (Answered [] a))) × ComesToNothing (cond b x (Answered [] a))
  room_untold true x y a is = is
  room_untold false x y a is = (refl, tt)

  by_untold : (r : Result Record Refusal) (emulating : Bool) (refused : RefusalCause → A) (done : Record → A)
      (s : ServingClient) (volume : ℕ) (looked : List Fid)
      → (operated_by r emulating (λ cause. 0) (λ rec. 0) s volume looked ≡ untold (operated_by r emulating refused done s volume looked))
      × ComesToNothing (operated_by r emulating refused done s volume looked)
  by_untold (Err why) emulating refused done s volume looked = called_untold emulating refused why
  by_untold (Ok rec) emulating refused done s volume looked =
      room_untold (has_room (s.client.volumes volume) rec) _ _ (refused (Because LogFull))
      (performed_untold (goes_for s volume rec looked) (is_full (s.client.volumes volume)) refused done volume rec)

  operating_untold : (o : Option ℕ) (emulating : Bool) (refused : RefusalCause → A) (done : Record → A)
      (time volume : ℕ) (ask : Asked) (s : ServingClient)
      → (operating_unless o emulating (λ cause. 0) (λ rec. 0) time volume ask s
      ≡ untold_turn (operating_unless o emulating refused done time volume ask s))
      × ComesToNothing (operating_unless o emulating refused done time volume ask s).comes_to
  operating_untold (Some size) emulating refused done time volume ask s = (refl, tt)
  operating_untold None emulating refused done time volume ask s =
      let looked = looked_up_for (served emulating s) volume ask in
      let by = by_untold (accepted emulating s time volume ask) emulating refused done (using s looked) volume looked in
      ((λ i. record { looked = looked; comes_to = by.0 i }), by.1)

  shown_untold : (r : Result Seen Refusal) (emulating : Bool) (refused : RefusalCause → A) (show : Bool → Seen → A)
      (fetched : List Fid)
      → (shown_by r emulating (λ cause. 0) (λ was seen. 0) fetched ≡ untold (shown_by r emulating refused show fetched))
      × ComesToNothing (shown_by r emulating refused show fetched)
  shown_untold (Err why) emulating refused show fetched = called_untold emulating refused why
  shown_untold (Ok seen) emulating refused show fetched = (refl, tt)

  pub operating_steps : (sources : Sources) (emulating : Bool) (refused : RefusalCause → A) (done : Record → A)
      (time volume : ℕ) (ask : Asked) (s : ServingClient) (steps : List RoundStep) (answer : A)
      → IsReady sources s volume
      → Rounds sources (operating emulating refused done time volume ask) [] s steps answer
      → AreGiven sources s steps × MayEnterSteps s steps
  operating_steps sources emulating refused done time volume ask s steps answer ready rounds =
      let other : ClientCall ℕ = operating emulating (λ cause. 0) (λ rec. 0) time volume ask in
      let u = rounds_untold sources (operating emulating refused done time volume ask) other (record {
        turns = λ fetched s. (operating_untold (too_big ask) emulating refused done time volume ask s).0;
        nothing = λ fetched s. (operating_untold (too_big ask) emulating refused done time volume ask s).1;
      }) [] s steps answer rounds in
      (u.0, calls_may_be_entered.operating sources emulating (λ cause. 0) (λ rec. 0) time volume ask s steps u.1.0 ready u.1.1)

  pub showing_steps : (sources : Sources) (emulating : Bool) (refused : RefusalCause → A) (show : Bool → Seen → A)
      (kind : Node → NodeKind → Result Node Refusal) (volume : ℕ) (path : List Name) (s : ServingClient)
      (steps : List RoundStep) (answer : A) → RefusesItself kind → IsReady sources s volume
      → Rounds sources (showing emulating refused show kind volume path) [] s steps answer
      → AreGiven sources s steps × MayEnterSteps s steps
  showing_steps sources emulating refused show kind volume path s steps answer itself ready rounds =
      let other : ClientCall ℕ = showing emulating (λ cause. 0) (λ was seen. 0) kind volume path in
      let u = rounds_untold sources (showing emulating refused show kind volume path) other (record {
        turns = λ fetched s i. record {
          looked = ((showing emulating refused show kind volume path).turn fetched s).looked;
          comes_to = (shown_untold (seen_at kind (served emulating s) volume path) emulating refused show fetched).0 i;
        };
        nothing = λ fetched s.
            (shown_untold (seen_at kind (served emulating s) volume path) emulating refused show fetched).1;
      }) [] s steps answer rounds in
      (u.0, calls_may_be_entered.showing sources emulating (λ cause. 0) (λ was seen. 0) kind volume path s steps u.1.0 itself ready u.1.1)
