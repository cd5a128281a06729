-- Whose entries are among the events of a line that acts, and on which volumes their deeds are: of its client, who is there, on a volume that is there, and of the replica
-- that holds it.
use Rattle.std.proofs.Common.{◌≡◌, ℕ, ◌==◌, Bool, true, false, List, [], ◌∷◌, ◌++◌, map, Option, Some, None, Result, Ok, Err, refl, sym, ap, subst, ◌∙◌, cond}
use Rattle.std.specs.Prelude.{nat_lt}
use Rattle.std.specs.Option.{option_map_or, unwrap_or}
use Rattle.std.proofs.lemmas.Bool.{eq-eqb}
use Rattle.coda_tree.specs.Volume.{Nodes}
use Rattle.coda_letters.specs.Sent.{Sent, ChunkSent, AnswerSent, BreakSent, client_of, server_of, is_lossy, Waiting, put_out, number_of, sent_at}
use Rattle.coda_plain.specs.Cell.{ClientEntry, Did, Fetched, Dropping}
use Rattle.coda_plain.specs.Decisions.{ReplicaEntry}
use Rattle.coda_plain.specs.Moves.{AtClient, AtReplica}
use Rattle.coda_record.specs.declared.answer.Answer.{Answer as RecordAnswer}
use Rattle.coda_replica.specs.Answers.{told, is_next}
use Rattle.coda_script.specs.declared.line.Line.{Line}
use Rattle.coda_script.specs.declared.line.Line.TheVariants as line
use Rattle.coda_script.specs.declared.line.Strength.{Strength}
use Rattle.coda_script.specs.declared.line.Strength.TheVariants.{Strong, Weak, Down}
use Rattle.coda_script.specs.declared.line.Task.{Task}
use Rattle.coda_script.specs.declared.line.Task.TheVariants as task
use Rattle.coda_script.specs.declared.reply.Reply.{Reply}
use Rattle.coda_cell.specs.Asking.{Answer, Said, answers, look_ups, behind_fetches, next_record, has_room, is_full, answer_to, operate_unless, operate, read, list}
use Rattle.coda_cell.specs.Messages.{over, posting, going_by, sends_of, ruled_in, taken_in}
use Rattle.coda_cell.specs.Refused.{Refused}
use Rattle.coda_cell.specs.Sending.{Freezing, freezing, Ruling, ruling_of, Taking, taking, deeds_at, entries_at, decides, answered_to, ruled_on, drained_of, drain}
use Rattle.coda_cell.specs.State.{ClientVolume, ClientState, ReplicaState, CellState, Event, VolumeMade, ClientMade, Ticked, LinkSet, Entered, Posted, Lost, Used, Kept, Stale, at_client}
use Rattle.coda_cell.specs.Steps.{Doing, Unless, first_missing, client_named, volume_named, server_named, holder_named, on_volume, on_holder, ByClient, ByBoth, BySend, ByRuling, ByTaking, Comes, link_down, Delivers, Loses, Does, DoesTask, bytes_of}
use Rattle.coda_cell.proofs.Events.{all_there, are_there}
use Rattle.coda_runs.proofs.Unlettered.{is_acting}
use Rattle.coda_plain.specs.Deeds.{Deed, Operated}
use Rattle.coda_cell.specs.Accepting.{sight_of}
use Rattle.coda_venus.specs.Accepting.{Accepted, accept}
use Rattle.coda_venus.specs.Ask.{Asked, Create, Mkdir, Symlink, Store, Setattr, Remove, Rmdir, Rename, too_big}
use Rattle.coda_cell.specs.Held.{Fetch}
use Rattle.coda_cell.specs.Looking.{entries_of}

-- ---- of these clients and replicas, on these volumes

-- a deed of a client is on one of these volumes
abbrev pub IsEntryOn : (ℕ → Type 0) → ClientEntry → Type 0
IsEntryOn V (Fetched fid parent node) = Unit {0}
IsEntryOn V (Did volume deed) = V volume
IsEntryOn V (Dropping gone entry) = IsEntryOn V entry

abbrev pub IsOf : (ℕ → Type 0) → (ℕ → ℕ → Type 0) → (ℕ → Type 0) → Event → Type 0
IsOf C R V (Entered (AtClient client entry)) = C client × IsEntryOn V entry
IsOf C R V (Entered (AtReplica server volume entry)) = R server volume
IsOf C R V event = Unit {0}

abbrev pub AreOf : (ℕ → Type 0) → (ℕ → ℕ → Type 0) → (ℕ → Type 0) → List Event → Type 0
AreOf C R V [] = Unit {0}
AreOf C R V (event ∷ events) = IsOf C R V event × AreOf C R V events

-- on whichever volumes
abbrev pub Anywhere : ℕ → Type 0
Anywhere volume = Unit {0}

anywhere : (entry : ClientEntry) → IsEntryOn Anywhere entry
anywhere (Fetched fid parent node) = tt
anywhere (Did volume deed) = tt
anywhere (Dropping gone entry) = anywhere entry

pub of_entries : (C : ℕ → Type 0) (R : ℕ → ℕ → Type 0) (client : ℕ) (entries : List ClientEntry) → C client → AreOf C R Anywhere (map (at_client client) entries)
of_entries C R client [] c = tt
of_entries C R client (entry ∷ entries) c = ((c, anywhere entry), of_entries C R client entries c)

map_both : (client : ℕ) (xs ys : List ClientEntry) → map (at_client client) (xs ++ ys) ≡ map (at_client client) xs ++ map (at_client client) ys
map_both client [] ys = refl
map_both client (x ∷ xs) ys = ap (λ l. at_client client x ∷ l) (map_both client xs ys)

module _ (C : ℕ → Type 0) (R : ℕ → ℕ → Type 0) (V : ℕ → Type 0) where
  of_both : (first rest : List Event) → AreOf C R V first → AreOf C R V rest → AreOf C R V (first ++ rest)
  of_both [] rest a b = b
  of_both (event ∷ first) rest a b = (a.0, of_both first rest a.1 b)

  pub of_front : (first rest : List Event) → AreOf C R V (first ++ rest) → AreOf C R V first
  of_front [] rest are = tt
  of_front (event ∷ first) rest are = (are.0, of_front first rest are.1)

  pub of_next : (first rest : List Event) (event : Event) → AreOf C R V (first ++ event ∷ rest) → IsOf C R V event
  of_next [] rest event are = are.0
  of_next (other ∷ first) rest event are = of_next first rest event are.1

  of_fetches : (client : ℕ) (fetches : List Fetch) → C client → AreOf C R V (map (at_client client) (entries_of fetches))
  of_fetches client [] c = tt
  of_fetches client (fetch ∷ fetches) c = ((c, tt), of_fetches client fetches c)

  of_decisions : (server volume : ℕ) (entries : List ReplicaEntry) → R server volume → AreOf C R V (entries_at server volume entries)
  of_decisions server volume [] r = tt
  of_decisions server volume (entry ∷ entries) r = (r, of_decisions server volume entries r)

  of_lost : (going : Waiting) (sent : Sent) → AreOf C R V (map (λ l. Lost l.0) going ++ Posted sent ∷ [])
  of_lost [] sent = (tt, tt)
  of_lost (l ∷ going) sent = (tt, of_lost going sent)

  of_going : (s : CellState) (sent : Sent) (o : Option ℕ) → AreOf C R V (going_by o sent s).events
  of_going s sent None = of_lost (put_out sent s.waiting) sent
  of_going s sent (Some message) = tt

  module _ (client volume : ℕ) (c : C client) (v : V volume) where
    of_deeds : (deeds : List Deed) → AreOf C R V (deeds_at client volume deeds)
    of_deeds [] = tt
    of_deeds (deed ∷ deeds) = ((c, v), of_deeds deeds)

    of_entered : (fetches : List Fetch) (deed : Deed) → AreOf C R V (map (at_client client) (entries_of fetches ++ Did volume deed ∷ []))
    of_entered fetches deed = subst (AreOf C R V) (sym (map_both client (entries_of fetches) (Did volume deed ∷ [])))
        (of_both (map (at_client client) (entries_of fetches)) (at_client client (Did volume deed) ∷ []) (of_fetches client fetches c) ((c, v), tt))

    of_chosen : (fetches : List Fetch) (deed : Deed) (room full : Bool) (none some kept : Said)
        → AreOf C R V (map (at_client client) (cond {A = Answer} room (cond full (answers (entries_of fetches) none) (answers (entries_of fetches ++ Did volume deed ∷ []) some)) (answers (entries_of fetches) kept)).entries)
    of_chosen fetches deed true true none some kept = of_fetches client fetches c
    of_chosen fetches deed true false none some kept = of_entered fetches deed
    of_chosen fetches deed false full none some kept = of_fetches client fetches c

    of_answer : (fetches : List Fetch) (known : ClientVolume) (time : ℕ) (accepted : Accepted) → AreOf C R V (map (at_client client) (answer_to (entries_of fetches) known time volume accepted).entries)
    of_answer fetches known time (Err why) = of_fetches client fetches c
    of_answer fetches known time (Ok op) = (let rec = next_record known time op in of_chosen fetches (Operated rec) (has_room known rec) (is_full known) _ _ _)

    of_operate_unless : (o : Option ℕ) (offers : Option Nodes) (known : ClientState) (time : ℕ) (ask : Asked) → AreOf C R V (map (at_client client) (operate_unless o offers known time volume ask).entries)
    of_operate_unless (Some length) offers known time ask = tt
    of_operate_unless None offers known time ask =
        of_answer (look_ups offers known.held volume ask) (known.volumes volume) time (accept (sight_of (behind_fetches known (look_ups offers known.held volume ask)) volume) volume ask)

    of_operate : (offers : Option Nodes) (known : ClientState) (time : ℕ) (ask : Asked) → AreOf C R V (map (at_client client) (operate offers known time volume ask).entries)
    unfolding operate
    of_operate offers known time ask = of_operate_unless (too_big ask) offers known time ask

    -- ---- chunks

    of_answered : (f : Freezing) (ruled : Ruling) (o : Result Taking Refused) → R ruled.replica.server volume → AreOf C R V (answered_to client volume f ruled o).events
    of_answered f ruled (Err why) r = of_both (deeds_at client volume f.deeds) (entries_at ruled.replica.server volume ruled.entries) (of_deeds f.deeds) (of_decisions ruled.replica.server volume ruled.entries r)
    of_answered f ruled (Ok took) r =
        of_both (deeds_at client volume f.deeds) (entries_at ruled.replica.server volume ruled.entries ++ deeds_at client volume took.deeds) (of_deeds f.deeds)
        (of_both (entries_at ruled.replica.server volume ruled.entries) (deeds_at client volume took.deeds) (of_decisions ruled.replica.server volume ruled.entries r) (of_deeds took.deeds))

    of_ruled : (f : Freezing) (r : ReplicaState) (next full : Bool) → R r.server volume → AreOf C R V (ruled_on client volume f r (ruling_of next full client f.number f.span r)).events
    of_ruled f r true true is = of_deeds f.deeds
    of_ruled f r true false is = (let ruled = decides client f.number f.span r in of_answered f ruled (taking f.number ruled.answer f.volume) is)
    of_ruled f r false full is = (let ruled : Ruling = record { answer = told (r.lasts client) f.number; entries = []; replica = r } in of_answered f ruled (taking f.number ruled.answer f.volume) is)

    of_drained : (known : ClientVolume) (r : ReplicaState) (o : Result Freezing Refused) → R r.server volume → AreOf C R V (drained_of client volume known r o).events
    of_drained known r (Err why) is = tt
    of_drained known r (Ok f) is = of_ruled f r (is_next (r.lasts client) f.number) (nat_lt 4294967295 f.number) is

    of_drain : (strength : Strength) (now window : ℕ) (known : ClientVolume) (r : ReplicaState) → R r.server volume → AreOf C R V (drain strength now window client volume known r).events
    of_drain Strong now window known r is = of_drained known r (freezing now window r.server known) is
    of_drain Weak now window known r is = of_drained known r (freezing now window r.server known) is
    of_drain Down now window known r is = tt

    of_sends : (s : CellState) (server : ℕ) (o : Result Freezing Refused) → AreOf C R V (sends_of s client volume server o).events
    of_sends s server (Err why) = tt
    of_sends s server (Ok f) =
        let sent = ChunkSent client server volume f.number f.span in
        of_both (deeds_at client volume f.deeds) (going_by (number_of sent s.waiting) sent s).events (of_deeds f.deeds) (of_going s sent (number_of sent s.waiting))

    of_taken : (number : ℕ) (answer : RecordAnswer) (o : Result Taking Refused) → AreOf C R V (taken_in client volume number answer o).events
    of_taken number answer (Err why) = tt
    of_taken number answer (Ok took) = of_deeds took.deeds

  of_ruled_in : (s : CellState) (client server volume number : ℕ) (o : Result Ruling Refused) → R server volume → AreOf C R V (ruled_in s client server volume number o).events
  of_ruled_in s client server volume number (Err why) r = tt
  of_ruled_in s client server volume number (Ok ruled) r =
      let sent = AnswerSent server client volume number ruled.answer in
      of_both (entries_at server volume ruled.entries) (posting sent s.waiting) (of_decisions server volume ruled.entries r) (of_lost (put_out sent s.waiting) sent)

  of_unless : (o : Option Refused) (own : Doing) (reply : Reply) (events : List Event) → (o ≡ None → own reply events → AreOf C R V events) → Unless o own reply events → AreOf C R V events
  of_unless (Some why) own reply events rest does = subst (AreOf C R V) (sym does.1) tt
  of_unless None own reply events rest does = rest refl does

-- those who are of some are of others
entry_more : (V W : ℕ → Type 0) → ((volume : ℕ) → V volume → W volume) → (entry : ClientEntry) → IsEntryOn V entry → IsEntryOn W entry
entry_more V W h (Fetched fid parent node) on = tt
entry_more V W h (Did volume deed) on = h volume on
entry_more V W h (Dropping gone entry) on = entry_more V W h entry on

pub of_more : (C D : ℕ → Type 0) (R S : ℕ → ℕ → Type 0) (V W : ℕ → Type 0) → ((client : ℕ) → C client → D client) → ((server volume : ℕ) → R server volume → S server volume) → ((volume : ℕ) → V volume → W volume)
    → (events : List Event) → AreOf C R V events → AreOf D S W events
of_more C D R S V W f g h [] are = tt
of_more C D R S V W f g h (VolumeMade volume server ∷ events) are = (tt, of_more C D R S V W f g h events are.1)
of_more C D R S V W f g h (ClientMade client blocks ∷ events) are = (tt, of_more C D R S V W f g h events are.1)
of_more C D R S V W f g h (Ticked seconds ∷ events) are = (tt, of_more C D R S V W f g h events are.1)
of_more C D R S V W f g h (LinkSet client server strength ∷ events) are = (tt, of_more C D R S V W f g h events are.1)
of_more C D R S V W f g h (Entered (AtClient client entry) ∷ events) are = ((f client are.0.0, entry_more V W h entry are.0.1), of_more C D R S V W f g h events are.1)
of_more C D R S V W f g h (Entered (AtReplica server volume entry) ∷ events) are = (g server volume are.0, of_more C D R S V W f g h events are.1)
of_more C D R S V W f g h (Posted sent ∷ events) are = (tt, of_more C D R S V W f g h events are.1)
of_more C D R S V W f g h (Lost message ∷ events) are = (tt, of_more C D R S V W f g h events are.1)
of_more C D R S V W f g h (Used client fids ∷ events) are = (tt, of_more C D R S V W f g h events are.1)
of_more C D R S V W f g h (Kept client server fid ∷ events) are = (tt, of_more C D R S V W f g h events are.1)
of_more C D R S V W f g h (Stale client fids ∷ events) are = (tt, of_more C D R S V W f g h events are.1)

-- ---- of those who are there

abbrev pub IsThere : CellState → ℕ → Type 0
IsThere s client = (client_named s client).there ≡ true

abbrev pub Holds : CellState → ℕ → ℕ → Type 0
Holds s server volume = (holder_named s server volume).there ≡ true

abbrev pub Stands : CellState → ℕ → Type 0
Stands s volume = (volume_named s volume).there ≡ true

module _ (s : CellState) (reply : Reply) (events : List Event) where
  abbrev AreThere : Type 0
  AreThere = AreOf (IsThere s) (Holds s) (Stands s) events

  holds : (volume : ℕ) (r : ReplicaState) → s.replicas volume ≡ Some r → Holds s r.server volume
  holds volume r is = ap (λ o. option_map_or (λ (x : ReplicaState). x.server == r.server) o false) is ∙ eq-eqb r.server r.server refl

  unless_there : (o : Option Refused) (own : Doing) → (o ≡ None → own reply events → AreThere) → Unless o own reply events → AreThere
  unless_there o own rest does = of_unless (IsThere s) (Holds s) (Stands s) o own reply events rest does

  happened_there : (others : List Event) → events ≡ others → AreOf (IsThere s) (Holds s) (Stands s) others → AreThere
  happened_there others is are = subst (AreOf (IsThere s) (Holds s) (Stands s)) (sym is) are

  of_asked : (client volume : ℕ) (ask : Option Nodes → ClientState → Answer)
      → (IsThere s client → Stands s volume → (offers : Option Nodes) (c : ClientState) → AreOf (IsThere s) (Holds s) (Stands s) (map (at_client client) (ask offers c).entries))
      → Unless (first_missing (on_volume s client volume)) (ByClient s client volume ask) reply events → AreThere
  of_asked client volume ask on does = unless_there (first_missing (on_volume s client volume)) (ByClient s client volume ask)
      (λ all did. (let there = are_there (client_named s client) (volume_named s volume) all in happened_there _ did.happened (on there.0 there.1 _ did.client))) does

  of_operation : (client volume : ℕ) (ask : Asked) → Unless (first_missing (on_volume s client volume)) (ByClient s client volume (λ offers c. operate offers c s.clock volume ask)) reply events → AreThere
  of_operation client volume ask does =
      of_asked client volume (λ offers c. operate offers c s.clock volume ask) (λ there stands offers c. of_operate (IsThere s) (Holds s) (Stands s) client volume there stands offers c s.clock ask) does

  of_task : (t : Task) → DoesTask s t reply events → AreThere
  of_task (task.Create client volume path mode owner) does = of_operation client volume (Create path (unwrap_or mode 420) (unwrap_or owner 0)) does
  of_task (task.Mkdir client volume path mode owner) does = of_operation client volume (Mkdir path (unwrap_or mode 493) (unwrap_or owner 0)) does
  of_task (task.Symlink client volume path target) does = of_operation client volume (Symlink path target) does
  of_task (task.Store client volume path content) does = of_operation client volume (Store path (bytes_of content)) does
  of_task (task.Setattr client volume path attrs) does = of_operation client volume (Setattr path attrs) does
  of_task (task.Remove client volume path) does = of_operation client volume (Remove path) does
  of_task (task.Rmdir client volume path) does = of_operation client volume (Rmdir path) does
  of_task (task.Rename client volume from to) does = of_operation client volume (Rename from to) does
  of_task (task.Read client volume path) does = of_asked client volume (λ offers c. read offers c volume path) (λ there stands offers c. of_fetches (IsThere s) (Holds s) (Stands s) client _ there) does
  of_task (task.List client volume path) does = of_asked client volume (λ offers c. list offers c volume path) (λ there stands offers c. of_fetches (IsThere s) (Holds s) (Stands s) client _ there) does
  of_task (task.Drain client volume server window) does = unless_there (first_missing (on_holder s client volume server)) (ByBoth s client volume (unwrap_or window 600))
      (λ all did. (let there = all_there (client_named s client) (volume_named s volume) (holder_named s server volume) all in happened_there _ did.happened (of_drain (IsThere s) (Holds s) (Stands s) client volume there.0 there.1
      (s.links client did.replica.server) s.clock (unwrap_or window 600) (did.client.volumes volume) did.replica (holds volume did.replica did.replica_there)))) does
  of_task (task.Hardlink client volume from to) does = absurd does
  of_task (task.Refresh client volume server) does = absurd does
  of_task (task.Giveup client volume) does = absurd does

  of_letter : (message : ℕ) (o : Option Sent) → Delivers s message o reply events → AreThere
  of_letter message None does = happened_there [] does.1 tt
  of_letter message (Some (ChunkSent client server volume number span)) does = unless_there (link_down (s.links client server)) (Comes s (ChunkSent client server volume number span))
      (λ link comes. unless_there (first_missing (on_holder s client volume server)) (ByRuling s client server volume number span)
      (λ all did. happened_there _ did.happened (of_ruled_in (IsThere s) (Holds s) (Stands s) s client server volume number _ (all_there (client_named s client) (volume_named s volume) (holder_named s server volume) all).2)) comes) does
  of_letter message (Some (AnswerSent server client volume number answer)) does = unless_there (link_down (s.links client server)) (Comes s (AnswerSent server client volume number answer))
      (λ link comes. unless_there (first_missing (on_holder s client volume server)) (ByTaking s client volume number answer)
      (λ all did. (let there = all_there (client_named s client) (volume_named s volume) (holder_named s server volume) all in
      happened_there _ did.happened (of_taken (IsThere s) (Holds s) (Stands s) client volume there.0 there.1 number answer (taking number answer (did.client.volumes volume))))) comes) does
  of_letter message (Some (BreakSent server client volume fids)) does = unless_there (link_down (s.links client server)) (Comes s (BreakSent server client volume fids))
      (λ link comes. unless_there (first_missing (on_holder s client volume server)) _ (λ all did. happened_there (Stale client fids ∷ []) did.1 (tt, tt)) comes) does

  of_loss : (message : ℕ) (o : Option Sent) → Loses message o reply events → AreThere
  of_loss message None does = happened_there [] does.1 tt
  of_loss message (Some sent) does = happened_there _ does.1 (tt, by (is_lossy sent))
    where
      by : (b : Bool) → AreOf (IsThere s) (Holds s) (Stands s) (cond b [] (LinkSet (client_of sent) (server_of sent) Down ∷ []))
      by true = tt
      by false = (tt, tt)

  -- whatever line acts
  pub of_line : (said : Line) → is_acting said ≡ true → Does s said reply events → AreOf (IsThere s) (Holds s) (Stands s) events
  of_line (line.Link client server strength) acts does = unless_there (first_missing (client_named s client ∷ server_named s server ∷ [])) _ (λ all did. happened_there _ did.1 (tt, tt)) does
  of_line (line.Tick seconds) acts does = happened_there (Ticked seconds ∷ []) does.1 (tt, tt)
  of_line (line.Task t) acts does = of_task t does
  of_line (line.ShowVolume server volume) acts does = unless_there (first_missing (holder_named s server volume ∷ [])) _ (λ all did. happened_there [] did.1 tt) does
  of_line (line.ShowLog client volume) acts does = unless_there (first_missing (on_volume s client volume)) _ (λ all did. happened_there [] did.1 tt) does
  of_line (line.ShowState client volume) acts does = unless_there (first_missing (on_volume s client volume)) _ (λ all did. happened_there [] did.happened tt) does
  of_line (line.Send client volume server window) acts does = unless_there (first_missing (on_holder s client volume server)) (BySend s client volume server (unwrap_or window 600))
      (λ all did. (let there = all_there (client_named s client) (volume_named s volume) (holder_named s server volume) all in
      happened_there _ did.happened (of_sends (IsThere s) (Holds s) (Stands s) client volume there.0 there.1 s server (over (s.links client server) (freezing s.clock (unwrap_or window 600) server (did.client.volumes volume)))))) does
  of_line (line.Deliver message) acts does = of_letter message (sent_at message s.waiting) does
  of_line (line.Lose message) acts does = of_loss message (sent_at message s.waiting) does
  of_line (line.Volume volume servers area) acts does = cc
  of_line (line.Client client blocks area) acts does = cc
  of_line _ acts does = absurd does
