-- Which events of a line that acts are entries: of a task all are, and of any line they come first; and none makes an actor.
use Rattle.std.proofs.Common.{◌≡◌, ℕ, Bool, true, false, List, [], ◌∷◌, ◌++◌, cond, map, Option, Some, None, Result, Ok, Err, refl, sym, subst}
use Rattle.std.specs.Option.{unwrap_or}
use Rattle.coda_record.specs.declared.answer.Answer.{Answer}
use Rattle.coda_tree.specs.Volume.{Nodes}
use Rattle.coda_letters.specs.Sent.{Sent, ChunkSent, AnswerSent, BreakSent, client_of, server_of, is_lossy, Waiting, sent_at, put_out, number_of}
use Rattle.coda_plain.specs.Cell.{ClientEntry, Did}
use Rattle.coda_plain.specs.Decisions.{ReplicaEntry}
use Rattle.coda_plain.specs.Moves.{Append, AtClient, AtReplica}
use Rattle.coda_script.specs.declared.line.Strength.{Strength}
use Rattle.coda_script.specs.declared.line.Strength.TheVariants.{Strong, Weak, Down}
use Rattle.coda_script.specs.declared.line.Task.{Task}
use Rattle.coda_script.specs.declared.line.Task.TheVariants as task
use Rattle.coda_script.specs.declared.line.Line.{Line}
use Rattle.coda_script.specs.declared.line.Line.TheVariants as line
use Rattle.coda_script.specs.declared.reply.Reply.{Reply}
use Rattle.coda_cell.specs.Asking.{Answer as ClientAnswer}
use Rattle.coda_cell.specs.State.{ClientVolume, ClientState, ReplicaState, CellState, Event, VolumeMade, ClientMade, Ticked, LinkSet, Entered, Posted, Lost, Used, Kept, Stale, at_client, after, after_all}
use Rattle.coda_cell.specs.Messages.{over, posting, going_by, sends_of, ruled_in, taken_in}
use Rattle.coda_cell.specs.Sending.{Freezing, freezing, Ruling, ruling, Taking, taking, deeds_at, entries_at, answered_to, ruled_on, drained_of, drain}
use Rattle.coda_cell.specs.Steps.{Doing, Unless, first_missing, on_volume, on_holder, client_named, server_named, holder_named, offers_of, ByClient, ByBoth, BySend, ByRuling, ByTaking, DoesTask, Comes, link_down, Delivers, Loses, Does}
use Rattle.coda_cell.specs.Refused.{Refused}
use Rattle.coda_shelves.specs.Lines.{Stop}

-- ---- events

abbrev IsEntry : Event → Type 0
IsEntry (Entered append) = Unit {0}
IsEntry (Used client fids) = Unit {0}
IsEntry (Kept client server fid) = Unit {0}
IsEntry (Stale client fids) = Unit {0}
IsEntry _ = ⊥

-- it is no entry, and makes no actor
abbrev IsNoEntry : Event → Type 0
IsNoEntry (Entered append) = ⊥
IsNoEntry (VolumeMade volume server) = ⊥
IsNoEntry (ClientMade client blocks) = ⊥
IsNoEntry _ = Unit {0}

-- the lines that act
abbrev pub is_acting : Line → Bool
is_acting (line.Link client server strength) = true
is_acting (line.Tick seconds) = true
is_acting (line.Task t) = true
is_acting (line.ShowVolume server volume) = true
is_acting (line.ShowLog client volume) = true
is_acting (line.ShowState client volume) = true
is_acting (line.Send client volume server window) = true
is_acting (line.Deliver message) = true
is_acting (line.Lose message) = true
is_acting _ = false

-- no event makes an actor
abbrev pub MakesNone : Event → Type 0
MakesNone (VolumeMade volume server) = ⊥
MakesNone (ClientMade client blocks) = ⊥
MakesNone _ = Unit {0}

abbrev pub MakeNone : List Event → Type 0
MakeNone [] = Unit {0}
MakeNone (event ∷ events) = MakesNone event × MakeNone events

abbrev pub AreEntries : List Event → Type 0
AreEntries [] = Unit {0}
AreEntries (event ∷ events) = IsEntry event × AreEntries events

abbrev AreNoEntries : List Event → Type 0
AreNoEntries [] = Unit {0}
AreNoEntries (event ∷ events) = IsNoEntry event × AreNoEntries events

-- entries come first, and other events behind them
abbrev pub ComeFirst : List Event → Type 0
ComeFirst [] = Unit {0}
ComeFirst (Entered append ∷ events) = ComeFirst events
ComeFirst (VolumeMade volume server ∷ events) = ⊥
ComeFirst (ClientMade client blocks ∷ events) = ⊥
ComeFirst (Ticked seconds ∷ events) = AreNoEntries events
ComeFirst (LinkSet client server strength ∷ events) = AreNoEntries events
ComeFirst (Posted sent ∷ events) = AreNoEntries events
ComeFirst (Lost message ∷ events) = AreNoEntries events
ComeFirst (Used client fids ∷ events) = ComeFirst events
ComeFirst (Kept client server fid ∷ events) = ComeFirst events
ComeFirst (Stale client fids ∷ events) = ComeFirst events

-- what waits behind entries is what waited before them
pub entries_stay : (s : CellState) (events : List Event) → AreEntries events → (after_all s events).waiting ≡ s.waiting
entries_stay s [] are = refl
entries_stay s (Entered (AtClient client entry) ∷ events) are = entries_stay (after s (Entered (AtClient client entry))) events are.1
entries_stay s (Entered (AtReplica server volume entry) ∷ events) are = entries_stay (after s (Entered (AtReplica server volume entry))) events are.1
entries_stay s (VolumeMade volume server ∷ events) are = absurd are.0
entries_stay s (ClientMade client blocks ∷ events) are = absurd are.0
entries_stay s (Ticked seconds ∷ events) are = absurd are.0
entries_stay s (LinkSet client server strength ∷ events) are = absurd are.0
entries_stay s (Posted sent ∷ events) are = absurd are.0
entries_stay s (Lost message ∷ events) are = absurd are.0
entries_stay s (Used client fids ∷ events) are = entries_stay (after s (Used client fids)) events are.1
entries_stay s (Kept client server fid ∷ events) are = entries_stay (after s (Kept client server fid)) events are.1
entries_stay s (Stale client fids ∷ events) are = entries_stay (after s (Stale client fids)) events are.1

-- entries make no actor, and nothing does of events of which entries come first
pub entries_make_none : (events : List Event) → AreEntries events → MakeNone events
entries_make_none [] are = tt
entries_make_none (Entered append ∷ events) are = (tt, entries_make_none events are.1)
entries_make_none (VolumeMade volume server ∷ events) are = absurd are.0
entries_make_none (ClientMade client blocks ∷ events) are = absurd are.0
entries_make_none (Ticked seconds ∷ events) are = absurd are.0
entries_make_none (LinkSet client server strength ∷ events) are = absurd are.0
entries_make_none (Posted sent ∷ events) are = absurd are.0
entries_make_none (Lost message ∷ events) are = absurd are.0
entries_make_none (Used client fids ∷ events) are = (tt, entries_make_none events are.1)
entries_make_none (Kept client server fid ∷ events) are = (tt, entries_make_none events are.1)
entries_make_none (Stale client fids ∷ events) are = (tt, entries_make_none events are.1)

others_make_none : (events : List Event) → AreNoEntries events → MakeNone events
others_make_none [] are = tt
others_make_none (Entered append ∷ events) are = absurd are.0
others_make_none (VolumeMade volume server ∷ events) are = absurd are.0
others_make_none (ClientMade client blocks ∷ events) are = absurd are.0
others_make_none (Ticked seconds ∷ events) are = (tt, others_make_none events are.1)
others_make_none (LinkSet client server strength ∷ events) are = (tt, others_make_none events are.1)
others_make_none (Posted sent ∷ events) are = (tt, others_make_none events are.1)
others_make_none (Lost message ∷ events) are = (tt, others_make_none events are.1)
others_make_none (Used client fids ∷ events) are = (tt, others_make_none events are.1)
others_make_none (Kept client server fid ∷ events) are = (tt, others_make_none events are.1)
others_make_none (Stale client fids ∷ events) are = (tt, others_make_none events are.1)

pub make_none : (events : List Event) → ComeFirst events → MakeNone events
make_none [] come = tt
make_none (Entered append ∷ events) come = (tt, make_none events come)
make_none (VolumeMade volume server ∷ events) come = absurd come
make_none (ClientMade client blocks ∷ events) come = absurd come
make_none (Ticked seconds ∷ events) come = (tt, others_make_none events come)
make_none (LinkSet client server strength ∷ events) come = (tt, others_make_none events come)
make_none (Posted sent ∷ events) come = (tt, others_make_none events come)
make_none (Lost message ∷ events) come = (tt, others_make_none events come)
make_none (Used client fids ∷ events) come = (tt, make_none events come)
make_none (Kept client server fid ∷ events) come = (tt, make_none events come)
make_none (Stale client fids ∷ events) come = (tt, make_none events come)

both_entries : (first rest : List Event) → AreEntries first → AreEntries rest → AreEntries (first ++ rest)
both_entries [] rest f r = r
both_entries (event ∷ first) rest f r = (f.0, both_entries first rest f.1 r)

others_first : (events : List Event) → AreNoEntries events → ComeFirst events
others_first [] are = tt
others_first (Entered append ∷ events) are = absurd are.0
others_first (VolumeMade volume server ∷ events) are = absurd are.0
others_first (ClientMade client blocks ∷ events) are = absurd are.0
others_first (Ticked seconds ∷ events) are = are.1
others_first (LinkSet client server strength ∷ events) are = are.1
others_first (Posted sent ∷ events) are = are.1
others_first (Lost message ∷ events) are = are.1
others_first (Used client fids ∷ events) are = others_first events are.1
others_first (Kept client server fid ∷ events) are = others_first events are.1
others_first (Stale client fids ∷ events) are = others_first events are.1

entries_first : (first rest : List Event) → AreEntries first → ComeFirst rest → ComeFirst (first ++ rest)
entries_first [] rest f r = r
entries_first (Entered append ∷ first) rest f r = entries_first first rest f.1 r
entries_first (VolumeMade volume server ∷ first) rest f r = absurd f.0
entries_first (ClientMade client blocks ∷ first) rest f r = absurd f.0
entries_first (Ticked seconds ∷ first) rest f r = absurd f.0
entries_first (LinkSet client server strength ∷ first) rest f r = absurd f.0
entries_first (Posted sent ∷ first) rest f r = absurd f.0
entries_first (Lost message ∷ first) rest f r = absurd f.0
entries_first (Used client fids ∷ first) rest f r = entries_first first rest f.1 r
entries_first (Kept client server fid ∷ first) rest f r = entries_first first rest f.1 r
entries_first (Stale client fids ∷ first) rest f r = entries_first first rest f.1 r

no_entry : (done rest : List Event) (next : Append) → AreNoEntries (done ++ Entered next ∷ rest) → ⊥
no_entry [] rest next are = are.0
no_entry (event ∷ done) rest next are = no_entry done rest next are.1

-- all that is before an entry are entries
before_entry : (done rest : List Event) (next : Append) → ComeFirst (done ++ Entered next ∷ rest) → AreEntries done
before_entry [] rest next come = tt
before_entry (Entered append ∷ done) rest next come = (tt, before_entry done rest next come)
before_entry (VolumeMade volume server ∷ done) rest next come = absurd come
before_entry (ClientMade client blocks ∷ done) rest next come = absurd come
before_entry (Ticked seconds ∷ done) rest next come = absurd (no_entry done rest next come)
before_entry (LinkSet client server strength ∷ done) rest next come = absurd (no_entry done rest next come)
before_entry (Posted sent ∷ done) rest next come = absurd (no_entry done rest next come)
before_entry (Lost message ∷ done) rest next come = absurd (no_entry done rest next come)
before_entry (Used client fids ∷ done) rest next come = (tt, before_entry done rest next come)
before_entry (Kept client server fid ∷ done) rest next come = (tt, before_entry done rest next come)
before_entry (Stale client fids ∷ done) rest next come = (tt, before_entry done rest next come)

-- so where events stop at an entry, those are done
pub stopped_entries : (events : List Event) → ComeFirst events → (stop : Stop events) → AreEntries stop.done
stopped_entries events come stop = before_entry stop.done stop.rest stop.next (subst ComeFirst stop.is come)

-- ---- of clients and replicas

pub client_entries : (client : ℕ) (entries : List ClientEntry) → AreEntries (map (at_client client) entries)
client_entries client [] = tt
client_entries client (entry ∷ entries) = (tt, client_entries client entries)

pub replica_entries : (server volume : ℕ) (entries : List ReplicaEntry) → AreEntries (entries_at server volume entries)
replica_entries server volume [] = tt
replica_entries server volume (entry ∷ entries) = (tt, replica_entries server volume entries)

are_first : (events : List Event) → AreEntries events → ComeFirst events
are_first [] are = tt
are_first (Entered append ∷ events) are = are_first events are.1
are_first (VolumeMade volume server ∷ events) are = absurd are.0
are_first (ClientMade client blocks ∷ events) are = absurd are.0
are_first (Ticked seconds ∷ events) are = absurd are.0
are_first (LinkSet client server strength ∷ events) are = absurd are.0
are_first (Posted sent ∷ events) are = absurd are.0
are_first (Lost message ∷ events) are = absurd are.0
are_first (Used client fids ∷ events) are = are_first events are.1
are_first (Kept client server fid ∷ events) are = are_first events are.1
are_first (Stale client fids ∷ events) are = are_first events are.1

-- ---- tasks

module _ (s : CellState) (reply : Reply) (events : List Event) where
  unless_entries : (o : Option Refused) (own : Doing) → (own reply events → AreEntries events) → Unless o own reply events → AreEntries events
  unless_entries (Some why) own rest does = subst AreEntries (sym does.1) tt
  unless_entries None own rest does = rest does

  asked_entries : (o : Option Refused) (client volume : ℕ) (ask : Option Nodes → ClientState → ClientAnswer)
      → Unless o (ByClient s client volume ask) reply events → AreEntries events
  asked_entries o client volume ask does =
      unless_entries o (ByClient s client volume ask) (λ did. subst AreEntries (sym did.happened) (client_entries client (ask (offers_of s client volume) did.client).entries)) does

answered_entries : (client volume : ℕ) (f : Freezing) (ruled : Ruling) (o : Result Taking Refused) → AreEntries (answered_to client volume f ruled o).events
answered_entries client volume f ruled (Err why) =
    both_entries (deeds_at client volume f.deeds) (entries_at ruled.replica.server volume ruled.entries) (client_entries client (map (Did volume) f.deeds)) (replica_entries ruled.replica.server volume ruled.entries)
answered_entries client volume f ruled (Ok took) =
    both_entries (deeds_at client volume f.deeds) (entries_at ruled.replica.server volume ruled.entries ++ deeds_at client volume took.deeds) (client_entries client (map (Did volume) f.deeds))
    (both_entries (entries_at ruled.replica.server volume ruled.entries) (deeds_at client volume took.deeds) (replica_entries ruled.replica.server volume ruled.entries) (client_entries client (map (Did volume) took.deeds)))

ruled_entries : (client volume : ℕ) (f : Freezing) (r : ReplicaState) (o : Result Ruling Refused) → AreEntries (ruled_on client volume f r o).events
ruled_entries client volume f r (Err why) = client_entries client (map (Did volume) f.deeds)
ruled_entries client volume f r (Ok ruled) = answered_entries client volume f ruled (taking f.number ruled.answer f.volume)

drained_entries : (client volume : ℕ) (v : ClientVolume) (r : ReplicaState) (o : Result Freezing Refused) → AreEntries (drained_of client volume v r o).events
drained_entries client volume v r (Err why) = tt
drained_entries client volume v r (Ok f) = ruled_entries client volume f r (ruling client f.number f.span r)

drain_entries : (strength : Strength) (now window client volume : ℕ) (v : ClientVolume) (r : ReplicaState)
    → AreEntries (drain strength now window client volume v r).events
drain_entries Strong now window client volume v r = drained_entries client volume v r (freezing now window r.server v)
drain_entries Weak now window client volume v r = drained_entries client volume v r (freezing now window r.server v)
drain_entries Down now window client volume v r = tt

pub task_entries : (s : CellState) (reply : Reply) (events : List Event) (t : Task) → DoesTask s t reply events → AreEntries events
task_entries s reply events (task.Create client volume path mode owner) does =
    asked_entries s reply events (first_missing (on_volume s client volume)) client volume _ does
task_entries s reply events (task.Mkdir client volume path mode owner) does =
    asked_entries s reply events (first_missing (on_volume s client volume)) client volume _ does
task_entries s reply events (task.Symlink client volume path target) does =
    asked_entries s reply events (first_missing (on_volume s client volume)) client volume _ does
task_entries s reply events (task.Store client volume path content) does =
    asked_entries s reply events (first_missing (on_volume s client volume)) client volume _ does
task_entries s reply events (task.Setattr client volume path attrs) does =
    asked_entries s reply events (first_missing (on_volume s client volume)) client volume _ does
task_entries s reply events (task.Remove client volume path) does = asked_entries s reply events (first_missing (on_volume s client volume)) client volume _ does
task_entries s reply events (task.Rmdir client volume path) does = asked_entries s reply events (first_missing (on_volume s client volume)) client volume _ does
task_entries s reply events (task.Rename client volume from to) does = asked_entries s reply events (first_missing (on_volume s client volume)) client volume _ does
task_entries s reply events (task.Read client volume path) does = asked_entries s reply events (first_missing (on_volume s client volume)) client volume _ does
task_entries s reply events (task.List client volume path) does = asked_entries s reply events (first_missing (on_volume s client volume)) client volume _ does
task_entries s reply events (task.Drain client volume server window) does =
    unless_entries s reply events (first_missing (on_holder s client volume server)) (ByBoth s client volume (unwrap_or window 600))
    (λ did. subst AreEntries (sym did.happened) (drain_entries (s.links client did.replica.server) s.clock (unwrap_or window 600) client volume (did.client.volumes volume) did.replica)) does
task_entries s reply events (task.Hardlink client volume from to) does = absurd does
task_entries s reply events (task.Refresh client volume server) does = absurd does
task_entries s reply events (task.Giveup client volume) does = absurd does

-- ---- letters

lost_others : (going : Waiting) (sent : Sent) → AreNoEntries (map (λ l. Lost l.0) going ++ Posted sent ∷ [])
lost_others [] sent = (tt, tt)
lost_others (l ∷ going) sent = (tt, lost_others going sent)

posting_first : (sent : Sent) (waiting : Waiting) → ComeFirst (posting sent waiting)
posting_first sent waiting = others_first (posting sent waiting) (lost_others (put_out sent waiting) sent)

module _ (s : CellState) where
  going_first : (sent : Sent) (o : Option ℕ) → ComeFirst (going_by o sent s).events
  going_first sent None = posting_first sent s.waiting
  going_first sent (Some message) = tt

  sends_first : (client volume server : ℕ) (o : Result Freezing Refused) → ComeFirst (sends_of s client volume server o).events
  sends_first client volume server (Err why) = tt
  sends_first client volume server (Ok f) =
      let sent = ChunkSent client server volume f.number f.span in
      entries_first (deeds_at client volume f.deeds) (going_by (number_of sent s.waiting) sent s).events (client_entries client (map (Did volume) f.deeds)) (going_first sent (number_of sent s.waiting))

  rulings_first : (client server volume number : ℕ) (o : Result Ruling Refused) → ComeFirst (ruled_in s client server volume number o).events
  rulings_first client server volume number (Err why) = tt
  rulings_first client server volume number (Ok ruled) =
      let sent = AnswerSent server client volume number ruled.answer in
      entries_first (entries_at server volume ruled.entries) (posting sent s.waiting) (replica_entries server volume ruled.entries) (posting_first sent s.waiting)

  takings_first : (client volume number : ℕ) (answer : Answer) (o : Result Taking Refused) → ComeFirst (taken_in client volume number answer o).events
  takings_first client volume number answer (Err why) = tt
  takings_first client volume number answer (Ok took) = are_first (deeds_at client volume took.deeds) (client_entries client (map (Did volume) took.deeds))

  -- ---- each line

  module _ (reply : Reply) (events : List Event) where
    none_first : events ≡ [] → ComeFirst events
    none_first none = subst ComeFirst (sym none) tt

    unless_first : (o : Option Refused) (own : Doing) → (own reply events → ComeFirst events) → Unless o own reply events → ComeFirst events
    unless_first (Some why) own rest does = none_first does.1
    unless_first None own rest does = rest does

    comes_first : (sent : Sent) → Comes s sent reply events → ComeFirst events
    comes_first (ChunkSent client server volume number span) does =
        unless_first (first_missing (on_holder s client volume server)) (ByRuling s client server volume number span)
        (λ did. subst ComeFirst (sym did.happened) (rulings_first client server volume number (ruling client number span did.replica))) does
    comes_first (AnswerSent server client volume number answer) does =
        unless_first (first_missing (on_holder s client volume server)) (ByTaking s client volume number answer)
        (λ did. subst ComeFirst (sym did.happened) (takings_first client volume number answer (taking number answer (did.client.volumes volume)))) does
    comes_first (BreakSent server client volume fids) does = unless_first (first_missing (on_holder s client volume server)) _ (λ did. subst ComeFirst (sym did.1) tt) does

    delivers_first : (message : ℕ) (o : Option Sent) → Delivers s message o reply events → ComeFirst events
    delivers_first message None does = none_first does.1
    delivers_first message (Some sent) does = unless_first (link_down (s.links (client_of sent) (server_of sent))) (Comes s sent) (comes_first sent) does

    loses_first : (message : ℕ) (o : Option Sent) → Loses message o reply events → ComeFirst events
    loses_first message None does = none_first does.1
    loses_first message (Some sent) does = subst ComeFirst (sym does.1) (by (is_lossy sent))
      where
        by : (b : Bool) → AreNoEntries (cond b [] (LinkSet (client_of sent) (server_of sent) Down ∷ []))
        by true = tt
        by false = (tt, tt)

    pub line_first : (said : Line) → is_acting said ≡ true → Does s said reply events → ComeFirst events
    line_first (line.Volume volume servers area) acts does = cc
    line_first (line.Client client blocks area) acts does = cc
    line_first (line.Link client server strength) acts does =
        unless_first (first_missing (client_named s client ∷ server_named s server ∷ [])) _ (λ did. subst ComeFirst (sym did.1) tt) does
    line_first (line.Tick seconds) acts does = subst ComeFirst (sym does.1) tt
    line_first (line.Task t) acts does = are_first events (task_entries s reply events t does)
    line_first (line.ShowVolume server volume) acts does = unless_first (first_missing (holder_named s server volume ∷ [])) _ (λ did. none_first did.1) does
    line_first (line.ShowLog client volume) acts does = unless_first (first_missing (on_volume s client volume)) _ (λ did. none_first did.1) does
    line_first (line.ShowState client volume) acts does = unless_first (first_missing (on_volume s client volume)) _ (λ did. none_first did.happened) does
    line_first (line.Send client volume server window) acts does =
        unless_first (first_missing (on_holder s client volume server)) (BySend s client volume server (unwrap_or window 600))
        (λ did. subst ComeFirst (sym did.happened) (sends_first client volume server (over (s.links client server) (freezing s.clock (unwrap_or window 600) server (did.client.volumes volume))))) does
    line_first (line.Deliver message) acts does = delivers_first message (sent_at message s.waiting) does
    line_first (line.Lose message) acts does = loses_first message (sent_at message s.waiting) does
    line_first _ acts does = absurd does
