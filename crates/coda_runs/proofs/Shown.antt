-- What is read or listed stands at the path.
use Rattle.std.proofs.Common.{◌≡◌, ℕ, ◌+◌, Bool, true, false, cond, List, [], ◌∷◌, ◌++◌, Option, Some, None, Result, Ok, Err, refl, sym, ap, subst, ◌∙◌}
use Rattle.std.specs.FinMap as map
use Rattle.std.specs.Option.{unwrap_or}
use Rattle.coda_fid.specs.Fid.{root_of}
use Rattle.coda_fid.specs.declared.fid.Fid.{Fid}
use Rattle.coda_fid.specs.declared.op.Op.{Op}
use Rattle.coda_fid.specs.declared.op.Record.{Record}
use Rattle.coda_tree.specs.declared.node.Node.{Node}
use Rattle.coda_tree.specs.declared.node.NodeKind.{NodeKind}
use Rattle.coda_tree.specs.declared.node.NodeKind.TheVariants.{File, Link, Dir}
use Rattle.coda_tree.specs.Bindings.{Name}
use Rattle.coda_tree.specs.Volume.{Nodes}
use Rattle.coda_plain.specs.Cell.{ClientEntry, Did}
use Rattle.coda_plain.specs.Deeds.{Operated}
use Rattle.coda_script.specs.declared.line.Line.TheVariants as line
use Rattle.coda_script.specs.declared.line.Strength.{Strength}
use Rattle.coda_script.specs.declared.line.Strength.TheVariants.{Strong, Weak, Down}
use Rattle.coda_script.specs.declared.line.Task.{Task}
use Rattle.coda_script.specs.declared.line.Task.TheVariants as task
use Rattle.coda_script.specs.declared.reply.Reply.{Reply}
use Rattle.coda_script.specs.declared.reply.Reply.TheVariants.{Done}
use Rattle.coda_venus.specs.declared.refused.Refused.{Refused as ClientRefused}
use Rattle.coda_cell.specs.Refusing.{client_refused_as}
use Rattle.coda_cell.specs.Refused.{Refused}
use Rattle.coda_cell.specs.Refused as refused
use Rattle.coda_venus.specs.Ask.{Asked, too_big, object_of}
use Rattle.coda_cell.specs.Asking.{Said, read_in, list_in, shown_as, shown_at, show_object, look_ups, behind_fetches, answers, next_record, has_room, is_full, answer_to, operate_unless, operate}
use Rattle.coda_cell.specs.Held.{held_after_fetches, Fetch}
use Rattle.coda_cell.specs.Looking.{look_along, entries_of, is_fetched}
use Rattle.coda_venus.specs.Looking.{resolve}
use Rattle.coda_cell.specs.Accepting.{sight_of}
use Rattle.coda_venus.specs.Accepting.{Accepted, accept}
use Rattle.coda_cell.specs.State.{ClientVolume, ClientState, client_after_all, ReplicaState, CellState, Event, after_all}
use Rattle.coda_cell.specs.Sending.{Freezing, freezing, Ruling, ruling, Taking, taking, answered_to, ruled_on, drained_of, drain}
use Rattle.coda_cell.specs.Steps.{Doing, Unless, first_missing, on_volume, on_holder, offers_of, reply_to, ByClient, ByBoth, Operates, DoesTask, Does}
use Rattle.coda_cell.proofs.Events.{after_client}
use Rattle.coda_cell.proofs.Families.{put_here}
use Rattle.coda_cell.proofs.Fetches.{client_after_fetches, keeps_along}
use Rattle.coda_cell.proofs.Offered.{fetched_along_is_offered}
use Rattle.coda_shelves.specs.Cells.{Cell, state_of}
use Rattle.coda_shelves.specs.Lines.{is_cut, task_on, refused_down, refused_full, refused_fault}
use Rattle.coda_runs.specs.Performed.{CanReach}
use Rattle.coda_runs.specs.Shown.{Looks, shown_by, WasShown, WhatIsShownIsThere}
use Rattle.coda_runs.proofs.Performed.{leads}
use Rattle.coda_runs.proofs.Meeting.{met, IsMet, ShowsAs, clients_as, Ends, WasDown, DidAll, LackedRoom, HadFault, line_ends}
use Rattle.coda_runs.proofs.Served.{Keeps, keeps_look, has_fetched, put_off, reaches}

abbrev IsShownBy : NodeKind → Said → Type 0
IsShownBy kind said = shown_by (reply_to said) ≡ Some kind

-- ---- what an answer shows

-- where an answer shows something, its path leads there
pub record IsOf (nodes : Nodes) (r : Result Fid ClientRefused) (kind : NodeKind) : Type 0 where
  pub object : Fid
  pub found : r ≡ Ok object
  pub node : Node
  pub stands : map.get nodes object ≡ Some node
  pub kind_is : node.kind ≡ kind

of_read : (fetched : Bool) (was kind : NodeKind) → IsShownBy kind (read_in fetched was) → was ≡ kind
of_read fetched (File content) kind is = (let same : File content ≡ kind = cc in same)
of_read fetched (Link target) kind is = (let same : Link target ≡ kind = cc in same)
of_read fetched (Dir entries) kind is = cc

of_listed : (fetched : Bool) (was kind : NodeKind) → IsShownBy kind (list_in fetched was) → was ≡ kind
of_listed fetched (File content) kind is = cc
of_listed fetched (Link target) kind is = cc
of_listed fetched (Dir entries) kind is = (let same : Dir entries ≡ kind = cc in same)

nothing_shown : (why : Refused) (kind : NodeKind) → IsShownBy kind (Err why) → ⊥
nothing_shown why kind is = cc

of_shown : (show : Bool → NodeKind → Said) → ((fetched : Bool) (was kind : NodeKind) → IsShownBy kind (show fetched was) → was ≡ kind) → (fetches : List Fetch) (nodes : Nodes) (r : Result Fid ClientRefused) (kind : NodeKind)
    → IsShownBy kind (shown_at show fetches nodes r) → IsOf nodes r kind
of_shown show of fetches nodes (Err why) kind is = absurd (nothing_shown (client_refused_as why) kind is)
of_shown show of fetches nodes (Ok fid) kind is = by (map.get nodes fid) refl is
  where
    by : (o : Option Node) → map.get nodes fid ≡ o → IsShownBy kind (shown_as show (is_fetched fetches fid) o fid) → IsOf nodes (Ok fid) kind
    by None there h = cc
    by (Some node) there h = record { object = fid; found = refl; node = node; stands = there; kind_is = of (is_fetched fetches fid) node.kind kind h }

-- ---- a line

module _ (s : CellState) (Reaches : ℕ → ℕ → ℕ → Type 0) (reply : Reply) (kind : NodeKind) (is : shown_by reply ≡ Some kind) where
  abbrev Was : Task → List Event → Type 0
  Was t events = WasShown Reaches t s.clients (after_all s events).clients s.replicas kind

  shown : (t : Task) (client volume : ℕ) (path : List Name) (show : Bool → NodeKind → Said) → ((fetched : Bool) (was k : NodeKind) → IsShownBy k (show fetched was) → was ≡ k) → (o : Option Refused) (events : List Event) → ((server : ℕ) → is_cut (s.links client server) ≡ false → Reaches client volume server) → Looks t client volume path
      → Unless o (ByClient s client volume (λ offers c. show_object show offers c.held volume path)) reply events → Was t events
  shown t client volume path show of (Some why) events reach looks isnt = absurd (nothing_shown why kind (ap shown_by (sym isnt.0) ∙ is))
  shown t client volume path show of None events reach looks did =
      let offers = offers_of s client volume in
      let c = did.client in
      let fetches = look_along offers c.held (root_of volume) path in
      let held = held_after_fetches c.held fetches in
      let entries = entries_of fetches in
      let there = of_shown show of fetches held.nodes (resolve held.nodes (root_of volume) path) kind (ap shown_by (sym did.answered) ∙ is) in
      record {
        client = client;
        volume = volume;
        path = path;
        looks = looks;
        old = c;
        new = record c { held = held };
        was = did.there;
        is = ap (λ (q : CellState). q.clients client) (ap (after_all s) did.happened ∙ after_client s client c entries did.there) ∙ put_here s.clients client (Some (client_after_all c entries)) ∙ ap Some (client_after_fetches c fetches);
        others = λ other ne. ap (λ (q : CellState). q.clients other) (ap (after_all s) did.happened ∙ after_client s client c entries did.there) ∙ put_off s.clients client other (Some (client_after_all c entries)) ne;
        logs = refl;
        fetched = has_fetched s client volume (Reaches client volume) reach c.held fetches (keeps_along (Keeps c.held.nodes) offers (keeps_look c.held.nodes offers) c.held (root_of volume) path (λ fid node h. h)) (fetched_along_is_offered offers c.held (root_of volume) path);
        object = there.object;
        leads = leads held.nodes (root_of volume) path there.object there.found;
        node = there.node;
        stands = there.stands;
        kind_is = there.kind_is;
      }

  -- ---- lines that show nothing

  abbrev Never : Said → Type 0
  Never said = IsShownBy kind said → ⊥

  not_entered : (entries : List ClientEntry) (v : ClientVolume) (volume : ℕ) (op : Op) (rec : Record) (room full : Bool)
      → Never (cond room (cond full (answers entries (Err refused.JournalFull)) (answers (entries ++ Did volume (Operated rec) ∷ []) (Ok (Done (v.operations + 1) (object_of op))))) (answers entries (Err refused.LogFull))).said
  not_entered entries v volume op rec true true h = cc
  not_entered entries v volume op rec true false h = cc
  not_entered entries v volume op rec false full h = cc

  not_accepted : (entries : List ClientEntry) (v : ClientVolume) (time volume : ℕ) (r : Accepted) → Never (answer_to entries v time volume r).said
  not_accepted entries v time volume (Err why) h = nothing_shown (client_refused_as why) kind h
  not_accepted entries v time volume (Ok op) h = not_entered entries v volume op (next_record v time op) (has_room v (next_record v time op)) (is_full v) h

  not_unless : (o : Option ℕ) (offers : Option Nodes) (c : ClientState) (time volume : ℕ) (ask : Asked) → Never (operate_unless o offers c time volume ask).said
  not_unless (Some length) offers c time volume ask h = cc
  not_unless None offers c time volume ask h = not_accepted (entries_of (look_ups offers c.held volume ask)) (c.volumes volume) time volume (accept (sight_of (behind_fetches c (look_ups offers c.held volume ask)) volume) volume ask) h

  not_operated : (offers : Option Nodes) (c : ClientState) (time volume : ℕ) (ask : Asked) → Never (operate offers c time volume ask).said
  unfolding operate
  not_operated offers c time volume ask h = not_unless (too_big ask) offers c time volume ask h

  not_answered : (client volume : ℕ) (f : Freezing) (ruled : Ruling) (o : Result Taking Refused) → Never (answered_to client volume f ruled o).said
  not_answered client volume f ruled (Err why) h = nothing_shown why kind h
  not_answered client volume f ruled (Ok took) h = cc

  not_ruled : (client volume : ℕ) (f : Freezing) (r : ReplicaState) (o : Result Ruling Refused) → Never (ruled_on client volume f r o).said
  not_ruled client volume f r (Err why) h = nothing_shown why kind h
  not_ruled client volume f r (Ok ruled) h = not_answered client volume f ruled (taking f.number ruled.answer f.volume) h

  not_drained : (client volume : ℕ) (v : ClientVolume) (r : ReplicaState) (o : Result Freezing Refused) → Never (drained_of client volume v r o).said
  not_drained client volume v r (Err why) h = nothing_shown why kind h
  not_drained client volume v r (Ok f) h = not_ruled client volume f r (ruling client f.number f.span r) h

  not_drain : (strength : Strength) (now window client volume : ℕ) (v : ClientVolume) (r : ReplicaState) → Never (drain strength now window client volume v r).said
  not_drain Strong now window client volume v r h = not_drained client volume v r (freezing now window r.server v) h
  not_drain Weak now window client volume v r h = not_drained client volume v r (freezing now window r.server v) h
  not_drain Down now window client volume v r h = cc

  unless_never : (o : Option Refused) (own : Doing) (events : List Event) → (own reply events → ⊥) → Unless o own reply events → ⊥
  unless_never (Some why) own events never isnt = nothing_shown why kind (ap shown_by (sym isnt.0) ∙ is)
  unless_never None own events never does = never does

  no_operation : (client volume : ℕ) (ask : Asked) (events : List Event) → Operates s client volume ask reply events → ⊥
  no_operation client volume ask events does =
      unless_never (first_missing (on_volume s client volume)) (ByClient s client volume (λ offers c. operate offers c s.clock volume ask)) events
      (λ did. not_operated (offers_of s client volume) did.client s.clock volume ask (ap shown_by (sym did.answered) ∙ is)) does

  -- ---- each line

  task_was : (t : Task) (events : List Event) → ((client volume server : ℕ) → task_on t ≡ Some (client, volume) → is_cut (s.links client server) ≡ false → Reaches client volume server) → DoesTask s t reply events → Was t events
  task_was (task.Read client volume path) events reach does = shown (task.Read client volume path) client volume path read_in of_read (first_missing (on_volume s client volume)) events (λ server up. reach client volume server refl up) (refl, refl, refl) does
  task_was (task.List client volume path) events reach does = shown (task.List client volume path) client volume path list_in of_listed (first_missing (on_volume s client volume)) events (λ server up. reach client volume server refl up) (refl, refl, refl) does
  task_was (task.Create client volume path mode owner) events reach does = absurd (no_operation client volume _ events does)
  task_was (task.Mkdir client volume path mode owner) events reach does = absurd (no_operation client volume _ events does)
  task_was (task.Symlink client volume path target) events reach does = absurd (no_operation client volume _ events does)
  task_was (task.Store client volume path content) events reach does = absurd (no_operation client volume _ events does)
  task_was (task.Setattr client volume path attrs) events reach does = absurd (no_operation client volume _ events does)
  task_was (task.Remove client volume path) events reach does = absurd (no_operation client volume _ events does)
  task_was (task.Rmdir client volume path) events reach does = absurd (no_operation client volume _ events does)
  task_was (task.Rename client volume from to) events reach does = absurd (no_operation client volume _ events does)
  task_was (task.Drain client volume server window) events reach does =
      absurd (unless_never (first_missing (on_holder s client volume server)) (ByBoth s client volume (unwrap_or window 600)) events
      (λ did. not_drain (s.links client did.replica.server) s.clock (unwrap_or window 600) client volume (did.client.volumes volume) did.replica (ap shown_by (sym did.answered) ∙ is)) does)
  task_was (task.Hardlink client volume from to) events reach does = absurd does
  task_was (task.Refresh client volume server) events reach does = absurd does
  task_was (task.Giveup client volume) events reach does = absurd does

-- ---- a cell on disks

module _ (old new : Cell) (t : Task) (kind : NodeKind) where
  all_shown : (reply : Reply) (at : IsMet old (line.Task t)) (events : List Event) → shown_by reply ≡ Some kind
      → Does (met old at.links) (line.Task t) reply events → ShowsAs (after_all (met old at.links) events) new
      → WasShown (CanReach old) t (state_of old).clients (state_of new).clients (state_of old).replicas kind
  all_shown reply at events is does shows =
      subst (λ clients. WasShown (CanReach old) t (state_of old).clients clients (state_of old).replicas kind) (clients_as (after_all (met old at.links) events) new shows)
      (task_was (met old at.links) (CanReach old) reply kind is t events (reaches old t at) does)

  -- a refusal shows nothing
  never : {A : Type 0} (reply other : Reply) → shown_by reply ≡ Some kind → shown_by other ≡ None → reply ≡ other → A
  never reply other is none same = (let no : None ≡ Some kind = sym none ∙ ap shown_by (sym same) ∙ is in cc)

  ended : (reply : Reply) → shown_by reply ≡ Some kind → Ends old (line.Task t) reply new
      → WasShown (CanReach old) t (state_of old).clients (state_of new).clients (state_of old).replicas kind
  ended reply is (WasDown down answered same) = never reply refused_down is refl answered
  ended reply is (DidAll at events does shows) = all_shown reply at events is does shows
  ended reply is (LackedRoom at own events stop does shows answered lacks same) = never reply refused_full is refl answered
  ended reply is (HadFault at own events stop does shows answered same) = never reply refused_fault is refl answered

pub what_is_shown_is_there : WhatIsShownIsThere
what_is_shown_is_there cell t reply answered new kind happens is =
    ended cell new t kind reply is (line_ends cell (line.Task t) reply answered new refl happens)
