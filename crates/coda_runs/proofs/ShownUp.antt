-- A reply shows a volume or a log only where its actor is up.
use Rattle.std.proofs.Common.{◌≡◌, ℕ, ◌+◌, ◌&&◌, not, Bool, true, false, cond, List, [], ◌∷◌, ◌++◌, Option, Some, None, is_some, Result, Ok, Err, refl, sym, subst, inl, inr}
use Rattle.std.specs.FinMap as map
use Rattle.std.specs.Option.{unwrap_or}
use Rattle.std.proofs.lemmas.Bool.{false≢true}
use Rattle.coda_fid.specs.declared.fid.Fid.{Fid}
use Rattle.coda_fid.specs.declared.op.Op.{Op}
use Rattle.coda_fid.specs.declared.op.Record.{Record}
use Rattle.coda_record.specs.declared.answer.Answer.{Answer}
use Rattle.coda_record.specs.declared.answer.Answer.TheVariants as answers
use Rattle.coda_tree.specs.declared.node.Node.{Node}
use Rattle.coda_tree.specs.declared.node.NodeKind.{NodeKind}
use Rattle.coda_tree.specs.declared.node.NodeKind.TheVariants.{File, Link, Dir}
use Rattle.coda_tree.specs.Volume.{Nodes}
use Rattle.coda_letters.specs.Sent.{Sent, ChunkSent, AnswerSent, BreakSent, client_of, server_of, sent_at}
use Rattle.coda_plain.specs.Cell.{ClientEntry, Did}
use Rattle.coda_plain.specs.Deeds.{Operated}
use Rattle.coda_report.specs.Texts.{IsWhole}
use Rattle.coda_script.specs.declared.line.Strength.{Strength}
use Rattle.coda_script.specs.declared.line.Strength.TheVariants.{Strong, Weak, Down}
use Rattle.coda_script.specs.declared.line.Task.{Task}
use Rattle.coda_script.specs.declared.line.Task.TheVariants as task
use Rattle.coda_script.specs.declared.line.Line.{Line}
use Rattle.coda_script.specs.declared.line.Line.TheVariants as line
use Rattle.coda_script.specs.declared.reply.Reply.{Reply}
use Rattle.coda_script.specs.declared.reply.Reply.TheVariants.{Opened, Accepted, Done, Broken, Lost, ShowVolume, ShowLog, State}
use Rattle.coda_cell.specs.Accepting.{sight_of}
use Rattle.coda_venus.specs.Accepting.{Accepted as OpAccepted, accept}
use Rattle.coda_venus.specs.Ask.{Asked, too_big, object_of}
use Rattle.coda_cell.specs.Asking.{Said, answers as answers_with, look_ups, behind_fetches, next_record, has_room, is_full, answer_to, operate_unless, operate, read, list, shown_at, shown_as, read_in, list_in}
use Rattle.coda_cell.specs.Held.{Fetch}
use Rattle.coda_cell.specs.Looking.{entries_of, is_fetched}
use Rattle.coda_cell.specs.Messages.{over, sends_of, ruled_in, reply_taken, taken_in}
use Rattle.coda_cell.specs.Refusing.{refusal}
use Rattle.coda_cell.specs.Sending.{Freezing, freezing, Ruling, ruling, Taking, taking, answered_to, ruled_on, drained_of, drain}
use Rattle.coda_cell.specs.State.{ClientVolume, ClientState, ReplicaState, CellState, Event, log_of}
use Rattle.coda_cell.specs.Steps.{Doing, Unless, Says, Named, first_missing, on_volume, on_holder, client_named, volume_named, server_named, holder_named, no_volume, no_client, offers_of, reply_to, ByClient, ByBoth, BySend, ByRuling, ByTaking, valid_copies, Comes, link_down, Delivers, Loses, DoesTask, Does, ShowsState}
use Rattle.coda_cell.specs.States.{state_over}
use Rattle.coda_venus.specs.declared.refused.Refused.{Refused as ClientRefused}
use Rattle.coda_cell.specs.Refused.{Refused}
use Rattle.coda_cell.specs.Refused as refused
use Rattle.coda_shelves.specs.Cells.{Cell, state_of}
use Rattle.coda_shelves.specs.Lines.{client_down, replica_down, needs, is_down_for, EndsBy, UnlessDown, Happens, refused_down, refused_full, refused_fault}
use Rattle.coda_shelves.proofs.Ending.{nothing_ends}
use Rattle.coda_runs.specs.Shown.{CanShow}
use Rattle.coda_runs.proofs.Coming.{ComesTo, Acted, Aside, line_comes}
use Rattle.coda_runs.proofs.Meeting.{met, ActsUp, Ends, WasDown, DidAll, LackedRoom, HadFault}

-- ---- what is said that shows no volume and no log

abbrev IsSaid : Said → Type 0
IsSaid said = IsWhole (reply_to said)

entered_whole : (entries : List ClientEntry) (v : ClientVolume) (volume : ℕ) (op : Op) (rec : Record) (room full : Bool)
    → IsSaid (cond room (cond full (answers_with entries (Err refused.JournalFull)) (answers_with (entries ++ Did volume (Operated rec) ∷ []) (Ok (Done (v.operations + 1) (object_of op))))) (answers_with entries (Err refused.LogFull))).said
entered_whole entries v volume op rec true true = tt
entered_whole entries v volume op rec true false = tt
entered_whole entries v volume op rec false full = tt

accepted_whole : (entries : List ClientEntry) (v : ClientVolume) (time volume : ℕ) (r : OpAccepted) → IsSaid (answer_to entries v time volume r).said
accepted_whole entries v time volume (Err why) = tt
accepted_whole entries v time volume (Ok op) = entered_whole entries v volume op (next_record v time op) (has_room v (next_record v time op)) (is_full v)

unless_whole : (o : Option ℕ) (offers : Option Nodes) (c : ClientState) (time volume : ℕ) (ask : Asked) → IsSaid (operate_unless o offers c time volume ask).said
unless_whole (Some length) offers c time volume ask = tt
unless_whole None offers c time volume ask =
    accepted_whole (entries_of (look_ups offers c.held volume ask)) (c.volumes volume) time volume
    (accept (sight_of (behind_fetches c (look_ups offers c.held volume ask)) volume) volume ask)

operated_whole : (offers : Option Nodes) (c : ClientState) (time volume : ℕ) (ask : Asked) → IsSaid (operate offers c time volume ask).said
unfolding operate
operated_whole offers c time volume ask = unless_whole (too_big ask) offers c time volume ask

read_whole : (fetched : Bool) (kind : NodeKind) → IsSaid (read_in fetched kind)
read_whole fetched (File content) = tt
read_whole fetched (Link target) = tt
read_whole fetched (Dir entries) = tt

listed_whole : (fetched : Bool) (kind : NodeKind) → IsSaid (list_in fetched kind)
listed_whole fetched (File content) = tt
listed_whole fetched (Link target) = tt
listed_whole fetched (Dir entries) = tt

found_whole : (show : Bool → NodeKind → Said) → ((fetched : Bool) (kind : NodeKind) → IsSaid (show fetched kind))
    → (fetches : List Fetch) (nodes : Nodes) (r : Result Fid ClientRefused) → IsSaid (shown_at show fetches nodes r)
found_whole show whole fetches nodes (Err why) = tt
found_whole show whole fetches nodes (Ok fid) = by (map.get nodes fid)
  where
    by : (o : Option Node) → IsSaid (shown_as show (is_fetched fetches fid) o fid)
    by None = tt
    by (Some node) = whole (is_fetched fetches fid) node.kind

answered_whole : (client volume : ℕ) (f : Freezing) (ruled : Ruling) (o : Result Taking Refused) → IsSaid (answered_to client volume f ruled o).said
answered_whole client volume f ruled (Err why) = tt
answered_whole client volume f ruled (Ok took) = tt

ruled_whole : (client volume : ℕ) (f : Freezing) (r : ReplicaState) (o : Result Ruling Refused) → IsSaid (ruled_on client volume f r o).said
ruled_whole client volume f r (Err why) = tt
ruled_whole client volume f r (Ok ruled) = answered_whole client volume f ruled (taking f.number ruled.answer f.volume)

drained_whole : (client volume : ℕ) (v : ClientVolume) (r : ReplicaState) (o : Result Freezing Refused) → IsSaid (drained_of client volume v r o).said
drained_whole client volume v r (Err why) = tt
drained_whole client volume v r (Ok f) = ruled_whole client volume f r (ruling client f.number f.span r)

drain_whole : (strength : Strength) (now window client volume : ℕ) (v : ClientVolume) (r : ReplicaState) → IsSaid (drain strength now window client volume v r).said
drain_whole Strong now window client volume v r = drained_whole client volume v r (freezing now window r.server v)
drain_whole Weak now window client volume v r = drained_whole client volume v r (freezing now window r.server v)
drain_whole Down now window client volume v r = tt

sends_whole : (s : CellState) (client volume server : ℕ) (o : Result Freezing Refused) → IsSaid (sends_of s client volume server o).said
sends_whole s client volume server (Err why) = tt
sends_whole s client volume server (Ok f) = tt

rulings_whole : (s : CellState) (client server volume number : ℕ) (o : Result Ruling Refused) → IsSaid (ruled_in s client server volume number o).said
rulings_whole s client server volume number (Err why) = tt
rulings_whole s client server volume number (Ok ruled) = tt

taken_whole : (number : ℕ) (answer : Answer) → IsWhole (reply_taken number answer)
taken_whole number answers.Applied = tt
taken_whole number (answers.Conflict refused why) = tt
taken_whole number (answers.Behind last) = tt
taken_whole number (answers.Old last) = tt

takings_whole : (client volume number : ℕ) (answer : Answer) (o : Result Taking Refused) → IsSaid (taken_in client volume number answer o).said
takings_whole client volume number answer (Err why) = tt
takings_whole client volume number answer (Ok took) = taken_whole number answer

-- ---- lines

-- the lines that show a volume or a log
abbrev is_show : Line → Bool
is_show (line.ShowVolume server volume) = true
is_show (line.ShowLog client volume) = true
is_show _ = false

module _ (s : CellState) (reply : Reply) (events : List Event) where
  whole_as : (other : Reply) → IsWhole other → reply ≡ other → IsWhole reply
  whole_as other whole is = subst IsWhole (sym is) whole

  unless_is : (o : Option Refused) (own : Doing) → (own reply events → IsWhole reply) → Unless o own reply events → IsWhole reply
  unless_is (Some why) own rest does = whole_as (refusal why) tt does.0
  unless_is None own rest does = rest does

  operates_whole : (client volume : ℕ) (ask : Asked)
      → Unless (first_missing (on_volume s client volume)) (ByClient s client volume (λ offers c. operate offers c s.clock volume ask)) reply events
      → IsWhole reply
  operates_whole client volume ask does =
      unless_is (first_missing (on_volume s client volume)) (ByClient s client volume (λ offers c. operate offers c s.clock volume ask))
      (λ did. whole_as (reply_to (operate (offers_of s client volume) did.client s.clock volume ask).said) (operated_whole (offers_of s client volume) did.client s.clock volume ask) did.answered) does

  task_whole : (t : Task) → DoesTask s t reply events → IsWhole reply
  task_whole (task.Create client volume path mode owner) does = operates_whole client volume _ does
  task_whole (task.Mkdir client volume path mode owner) does = operates_whole client volume _ does
  task_whole (task.Symlink client volume path target) does = operates_whole client volume _ does
  task_whole (task.Store client volume path content) does = operates_whole client volume _ does
  task_whole (task.Setattr client volume path attrs) does = operates_whole client volume _ does
  task_whole (task.Remove client volume path) does = operates_whole client volume _ does
  task_whole (task.Rmdir client volume path) does = operates_whole client volume _ does
  task_whole (task.Rename client volume from to) does = operates_whole client volume _ does
  task_whole (task.Read client volume path) does =
      unless_is (first_missing (on_volume s client volume)) (ByClient s client volume (λ offers c. read offers c volume path))
      (λ did. whole_as (reply_to (read (offers_of s client volume) did.client volume path).said) (found_whole read_in read_whole _ _ _) did.answered) does
  task_whole (task.List client volume path) does =
      unless_is (first_missing (on_volume s client volume)) (ByClient s client volume (λ offers c. list offers c volume path))
      (λ did. whole_as (reply_to (list (offers_of s client volume) did.client volume path).said) (found_whole list_in listed_whole _ _ _) did.answered) does
  task_whole (task.Drain client volume server window) does =
      unless_is (first_missing (on_holder s client volume server)) (ByBoth s client volume (unwrap_or window 600))
      (λ did. whole_as (reply_to (drain (s.links client did.replica.server) s.clock (unwrap_or window 600) client volume (did.client.volumes volume) did.replica).said)
      (drain_whole (s.links client did.replica.server) s.clock (unwrap_or window 600) client volume (did.client.volumes volume) did.replica) did.answered) does
  task_whole (task.Hardlink client volume from to) does = absurd does
  task_whole (task.Refresh client volume server) does = absurd does
  task_whole (task.Giveup client volume) does = absurd does

  comes_whole : (sent : Sent) → Comes s sent reply events → IsWhole reply
  comes_whole (ChunkSent client server volume number span) does =
      unless_is (first_missing (on_holder s client volume server)) (ByRuling s client server volume number span)
      (λ did. whole_as (reply_to (ruled_in s client server volume number (ruling client number span did.replica)).said) (rulings_whole s client server volume number (ruling client number span did.replica)) did.answered) does
  comes_whole (AnswerSent server client volume number answer) does =
      unless_is (first_missing (on_holder s client volume server)) (ByTaking s client volume number answer)
      (λ did. whole_as (reply_to (taken_in client volume number answer (taking number answer (did.client.volumes volume))).said) (takings_whole client volume number answer (taking number answer (did.client.volumes volume))) did.answered) does
  comes_whole (BreakSent server client volume fids) does = unless_is (first_missing (on_holder s client volume server)) _ (λ did. whole_as (Broken (valid_copies s client fids)) tt did.0) does

  delivers_whole : (message : ℕ) (o : Option Sent) → Delivers s message o reply events → IsWhole reply
  delivers_whole message None does = whole_as (refusal (refused.NoMessage message)) tt does.0
  delivers_whole message (Some sent) does = unless_is (link_down (s.links (client_of sent) (server_of sent))) (Comes s sent) (comes_whole sent) does

  loses_whole : (message : ℕ) (o : Option Sent) → Loses message o reply events → IsWhole reply
  loses_whole message None does = whole_as (refusal (refused.NoMessage message)) tt does.0
  loses_whole message (Some sent) does = whole_as (Lost message) tt does.0

  does_whole : (said : Line) → is_show said ≡ false → Does s said reply events → IsWhole reply
  does_whole (line.Volume volume servers area) isnt does = unless_is (no_volume s volume) _ (λ did. whole_as (Opened (0 ∷ [])) tt did.0) does
  does_whole (line.Client client blocks area) isnt does = unless_is (no_client s client) _ (λ did. whole_as (Opened (0 ∷ [])) tt did.0) does
  does_whole (line.Link client server strength) isnt does =
      unless_is (first_missing (client_named s client ∷ server_named s server ∷ [])) _ (λ did. whole_as Accepted tt did.0) does
  does_whole (line.Tick seconds) isnt does = whole_as Accepted tt does.0
  does_whole (line.Task t) isnt does = task_whole t does
  does_whole (line.ShowVolume server volume) isnt does = absurd (false≢true (sym isnt))
  does_whole (line.ShowLog client volume) isnt does = absurd (false≢true (sym isnt))
  does_whole (line.ShowState client volume) isnt does = unless_is (first_missing (on_volume s client volume)) (ShowsState s client volume)
      (λ did. whole_as (State (state_over (s.links client did.replica.server) (log_of (did.client.volumes volume)))) tt did.answered) does
  does_whole (line.Send client volume server window) isnt does =
      unless_is (first_missing (on_holder s client volume server)) (BySend s client volume server (unwrap_or window 600))
      (λ did. let froze = over (s.links client server) (freezing s.clock (unwrap_or window 600) server (did.client.volumes volume)) in whole_as (reply_to (sends_of s client volume server froze).said) (sends_whole s client volume server froze) did.answered) does
  does_whole (line.Deliver message) isnt does = delivers_whole message (sent_at message s.waiting) does
  does_whole (line.Lose message) isnt does = loses_whole message (sent_at message s.waiting) does
  does_whole _ isnt does = absurd does

-- ---- a cell on disks

module _ (old new : Cell) (said : Line) (isnt : is_show said ≡ false) (reply : Reply) where
  ended_whole : Ends old said reply new → IsWhole reply
  ended_whole (WasDown down is same) = subst IsWhole (sym is) tt
  ended_whole (DidAll at events does shows) = does_whole (met old at.links) reply events said isnt does
  ended_whole (LackedRoom at own events stop does shows is lacks same) = subst IsWhole (sym is) tt
  ended_whole (HadFault at own events stop does shows is same) = subst IsWhole (sym is) tt

  came_whole : ComesTo old said reply new → IsWhole reply
  came_whole (Acted acts ends) = ended_whole ends
  came_whole (Aside none whole leaves) = whole

whole_can : (cell : Cell) (reply : Reply) → IsWhole reply → CanShow cell reply
whole_can cell (ShowVolume server volume) whole = absurd whole
whole_can cell (ShowLog client volume) whole = absurd whole
whole_can cell _ whole = tt

-- ---- lines that show

-- whom a line names first is there, where all are
first_there : (first : Named) (names : List Named) → first_missing (first ∷ names) ≡ None → first.there ≡ true
first_there first names all = by first.there all
  where
    by : (b : Bool) → cond b (first_missing names) (Some (refused.NoSuchActor first.number)) ≡ None → b ≡ true
    by true e = refl
    by false e = cc

some_there : {A : Type 0} (o : Option A) → is_some o ≡ true → (x : A) × (o ≡ Some x)
some_there None e = absurd (false≢true e)
some_there (Some x) e = (x, refl)

-- once all are there that a line names, who it needs is up
not_down : (o : Option Refused) (down : Bool) → o ≡ None → (not (is_some o) && down) ≡ false → down ≡ false
not_down None down all e = e
not_down (Some why) down all e = cc

module _ (old new : Cell) (reply : Reply) where
  -- a refusal shows nothing
  refused_can : (other : Reply) → IsWhole other → reply ≡ other → CanShow new reply
  refused_can other whole is = whole_can new reply (subst IsWhole (sym is) whole)

  -- a line by which nothing happens changes nothing
  ended_can : (own : Reply) (events : List Event) → events ≡ [] → CanShow old own → EndsBy old events own reply new → CanShow new reply
  ended_can own events none can ends = by (nothing_ends old events own reply new none ends) ends
    where
      by : new ≡ old → EndsBy old events own reply new → CanShow new reply
      by same (inl all) = subst (CanShow new) (sym all.1) (subst (λ cell. CanShow cell own) (sym same) can)
      by same (inr (inl full)) = refused_can refused_full tt full.3
      by same (inr (inr fault)) = refused_can refused_fault tt fault.2

  -- it is refused, or shows what is up
  acted_can : (o : Option Refused) (shown : Reply) (own : Reply) (events : List Event) → (o ≡ None → CanShow old shown) → Unless o (Says shown) own events
      → EndsBy old events own reply new → CanShow new reply
  acted_can (Some why) shown own events can does ends = ended_can own events does.1 (subst (CanShow old) (sym does.0) tt) ends
  acted_can None shown own events can does ends = ended_can own events does.1 (subst (CanShow old) (sym does.0) (can refl)) ends

  shows_volume : (server volume : ℕ) (outside : List (List ℕ)) → Happens old (line.ShowVolume server volume) reply outside new → CanShow new reply
  shows_volume server volume outside happens = by (is_down_for (needs old (line.ShowVolume server volume))) refl happens
    where
      by : (b : Bool) → is_down_for (needs old (line.ShowVolume server volume)) ≡ b → UnlessDown b old (ActsUp old (line.ShowVolume server volume)) reply outside new
          → CanShow new reply
      by true down h = refused_can refused_down tt h.0
      by false up h =
          let names = holder_named (state_of old) server volume ∷ [] in
          acted_can (first_missing names) (ShowVolume server volume) h.1.own h.1.events (λ all. not_down (first_missing names) (replica_down old server volume) all up) h.1.does h.1.ends

  shows_log : (client volume : ℕ) (outside : List (List ℕ)) → Happens old (line.ShowLog client volume) reply outside new → CanShow new reply
  shows_log client volume outside happens = by (is_down_for (needs old (line.ShowLog client volume))) refl happens
    where
      by : (b : Bool) → is_down_for (needs old (line.ShowLog client volume)) ≡ b → UnlessDown b old (ActsUp old (line.ShowLog client volume)) reply outside new
          → CanShow new reply
      by true down h = refused_can refused_down tt h.0
      by false up h =
          let s = state_of old in
          let names = on_volume s client volume in
          acted_can (first_missing names) (ShowLog client volume) h.1.own h.1.events
          (λ all. (not_down (first_missing names) (client_down old client) all up, some_there (s.clients client) (first_there (client_named s client) (volume_named s volume ∷ []) all))) h.1.does h.1.ends

pub shows_what_is_up : (old new : Cell) (said : Line) (reply : Reply) (outside : List (List ℕ)) → Happens old said reply outside new
    → CanShow new reply
shows_what_is_up old new (line.ShowVolume server volume) reply outside happens = shows_volume old new reply server volume outside happens
shows_what_is_up old new (line.ShowLog client volume) reply outside happens = shows_log old new reply client volume outside happens
shows_what_is_up old new said reply outside happens = whole_can new reply (came_whole old new said refl reply (line_comes old reply outside new said happens))
