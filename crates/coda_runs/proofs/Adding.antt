-- Which events of a line that acts may have happened where it is refused, or where it stops at an entry.
use Rattle.std.proofs.Common.{◌≡◌, ℕ, ◌==◌, nat_le, Bool, true, false, cond, List, [], ◌∷◌, ◌++◌, map, Option, Some, None, Result, Ok, Err, refl, sym, subst}
use Rattle.std.specs.Prelude.{nat_lt}
use Rattle.std.specs.List.{find}
use Rattle.coda_cml.specs.Chunks.{is_filled, too_young}
use Rattle.coda_cml.specs.Segments.{segments_of}
use Rattle.coda_cml.specs.Steps.{settle_refusal}
use Rattle.coda_cml.specs.declared.fault.FreezeFault.{FreezeFault}
use Rattle.coda_cml.specs.declared.fault.SettleFault.{SettleFault}
use Rattle.coda_cml.specs.declared.frozen.Frozen.{Frozen}
use Rattle.coda_fid.specs.declared.fid.Fid.{Fid}
use Rattle.coda_fid.specs.declared.op.Record.{Record}
use Rattle.coda_letters.specs.Sent.{Sent, ChunkSent, AnswerSent, Waiting, put_out, number_of}
use Rattle.coda_plain.specs.Cell.{Fetched, Did}
use Rattle.coda_plain.specs.Decisions.{Decided}
use Rattle.coda_plain.specs.Deeds.{Deed, Operated, Froze, Settled, Gaveup}
use Rattle.coda_plain.specs.Moves.{Append, AtReplica}
use Rattle.coda_record.specs.declared.answer.Answer.{Answer as RecordAnswer}
use Rattle.coda_record.specs.declared.answer.Answer.TheVariants.{Applied, Conflict, Behind, Old}
use Rattle.coda_replica.specs.Answers.{is_next, told}
use Rattle.coda_script.specs.declared.line.Strength.{Strength}
use Rattle.coda_script.specs.declared.line.Strength.TheVariants.{Strong, Weak, Down}
use Rattle.coda_script.specs.declared.reply.Reply.{Reply}
use Rattle.coda_script.specs.declared.reply.Reply.TheVariants.{Done}
use Rattle.coda_tree.specs.declared.node.Node.{Node}
use Rattle.coda_tree.specs.Volume.{Nodes}
use Rattle.coda_cell.specs.Accepting.{sight_of}
use Rattle.coda_venus.specs.Accepting.{Accepted, accept}
use Rattle.coda_venus.specs.Ask.{Asked, too_big}
use Rattle.coda_cell.specs.Asking.{Said, Answer, answers, look_ups, behind_fetches, next_record, has_room, is_full, answer_to, operate_unless, operate}
use Rattle.coda_cell.specs.Held.{Fetch}
use Rattle.coda_cell.specs.Looking.{entries_of}
use Rattle.coda_cell.specs.Messages.{over, posting, going_by, sends_of, ruled_in, taken_in}
use Rattle.coda_cell.specs.Refusing.{client_refused_as}
use Rattle.coda_cell.specs.Refused.{Refused}
use Rattle.coda_cell.specs.Refused as refused
use Rattle.coda_cell.specs.Sending.{Freezing, frozen_now, frozen_unless, freezing_of, freezing, Ruling, decides, ruling_of, Taking, taken_unless, taking, deeds_at, entries_at, answered_to, ruled_on, drained_of, drain}
use Rattle.coda_cell.specs.State.{ClientVolume, ClientState, ReplicaState, CellState, Event, Entered, Posted, Lost, at_client}
use Rattle.coda_cell.specs.Steps.{reply_to}
use Rattle.coda_runs.specs.Because.{IsRefused}

-- ---- before an entry

abbrev pub All : (Event → Type 0) → List Event → Type 0
All P [] = Unit {0}
All P (event ∷ events) = P event × All P events

-- an entry is among them
pub record Enters (events : List Event) : Type 0 where
  pub done : List Event
  pub next : Append
  pub rest : List Event
  pub is : events ≡ done ++ Entered next ∷ rest

-- P is so of each event behind which an entry comes
abbrev pub Led : (Event → Type 0) → List Event → Type 0
Led P [] = Unit {0}
Led P (event ∷ events) = (Enters events → P event) × Led P events

-- no entry, whatever else
abbrev pub IsQuiet : Event → Type 0
IsQuiet (Entered append) = ⊥
IsQuiet event = Unit {0}

never_in : (done rest : List Event) (next : Append) → All IsQuiet (done ++ Entered next ∷ rest) → ⊥
never_in [] rest next quiet = quiet.0
never_in (event ∷ done) rest next quiet = never_in done rest next quiet.1

never : (events : List Event) → All IsQuiet events → Enters events → ⊥
never events quiet enters = never_in enters.done enters.rest enters.next (subst (All IsQuiet) enters.is quiet)

module _ (P : Event → Type 0) where
  pub led_done : (done rest : List Event) (next : Append) → Led P (done ++ Entered next ∷ rest) → All P done
  led_done [] rest next led = tt
  led_done (event ∷ done) rest next led = (led.0 (record { done = done; next = next; rest = rest; is = refl }), led_done done rest next led.1)

  pub led_all : (events : List Event) → All P events → Led P events
  led_all [] all = tt
  led_all (event ∷ events) all = ((λ enters. all.0), led_all events all.1)

  pub led_both : (first rest : List Event) → All P first → Led P rest → Led P (first ++ rest)
  led_both [] rest all led = led
  led_both (event ∷ first) rest all led = ((λ enters. all.0), led_both first rest all.1 led)

  pub led_quiet : (events : List Event) → All IsQuiet events → Led P events
  led_quiet [] quiet = tt
  led_quiet (event ∷ events) quiet = ((λ enters. absurd (never events quiet.1 enters)), led_quiet events quiet.1)

  pub led_one : (event : Event) (events : List Event) → All IsQuiet events → Led P (event ∷ events)
  led_one event events quiet = ((λ enters. absurd (never events quiet enters)), led_quiet events quiet)

  all_both : (first rest : List Event) → All P first → All P rest → All P (first ++ rest)
  all_both [] rest a b = b
  all_both (event ∷ first) rest a b = (a.0, all_both first rest a.1 b)

  -- of a line that is answered so: all where it is refused
  abbrev pub Little : Reply → List Event → Type 0
  Little reply events = Led P events × (IsRefused reply → All P events)

-- ---- letters

pub lost_quiet : (going : Waiting) (sent : Sent) → All IsQuiet (map (λ l. Lost l.0) going ++ Posted sent ∷ [])
lost_quiet [] sent = (tt, tt)
lost_quiet (l ∷ going) sent = (tt, lost_quiet going sent)

going_quiet : (s : CellState) (sent : Sent) (o : Option ℕ) → All IsQuiet (going_by o sent s).events
going_quiet s sent None = lost_quiet (put_out sent s.waiting) sent
going_quiet s sent (Some message) = tt

-- ---- deeds

-- one deed, or none
abbrev pub IsShort : List Deed → Type 0
IsShort [] = Unit {0}
IsShort (deed ∷ []) = Unit {0}
IsShort (deed ∷ other ∷ deeds) = ⊥

-- a chunk is frozen for this server, and nothing else is done
abbrev pub AreFroze : ℕ → List Deed → Type 0
AreFroze server [] = Unit {0}
AreFroze server (Froze number home last ∷ deeds) = (home ≡ server) × AreFroze server deeds
AreFroze server (deed ∷ deeds) = ⊥

module _ (now window server : ℕ) (v : ClientVolume) where
  abbrev pub FrozeSo : Result Freezing Refused → Type 0
  FrozeSo (Err why) = Unit {0}
  FrozeSo (Ok f) = IsShort f.deeds × AreFroze server f.deeds

  kept_so : (chunk : Frozen) (b : Bool) → FrozeSo (cond b (Ok (record { number = chunk.number; span = v.front; deeds = []; volume = v })) (Err (refused.Frozen chunk.number chunk.home)))
  kept_so chunk true = (tt, tt)
  kept_so chunk false = tt

  now_so : (b : Bool) → FrozeSo (cond b (Err refused.JournalFull) (Ok (frozen_now now window server v)))
  now_so true = tt
  now_so false = (tt, (refl, tt))

  unless_so : (o : Option FreezeFault) → FrozeSo (frozen_unless o now window server v)
  unless_so (Some why) = tt
  unless_so None = now_so (nat_le 4294967295 v.chunks)

  pub froze_so : FrozeSo (freezing now window server v)
  froze_so = by v.frozen
    where
      by : (o : Option Frozen) → FrozeSo (freezing_of o now window server v)
      by None = unless_so (too_young now window (find is_filled (segments_of v.back)))
      by (Some chunk) = kept_so chunk (chunk.home == server)

abbrev pub TookSo : Result Taking Refused → Type 0
TookSo (Err why) = Unit {0}
TookSo (Ok took) = IsShort took.deeds

pub took_so : (number : ℕ) (answer : RecordAnswer) (v : ClientVolume) → TookSo (taking number answer v)
took_so number answer v = by (settle_refusal v.frozen number) answer
  where
    by : (o : Option SettleFault) (a : RecordAnswer) → TookSo (taken_unless o number a v)
    by (Some why) a = tt
    by None Applied = tt
    by None (Conflict refused why) = tt
    by None (Behind last) = tt
    by None (Old last) = tt

module _ (P : Event → Type 0) (client volume : ℕ) where
  short_led : (deeds : List Deed) (events : List Event) → IsShort deeds → All IsQuiet events → Led P (deeds_at client volume deeds ++ events)
  short_led [] events short quiet = led_quiet P events quiet
  short_led (deed ∷ []) events short quiet = led_one P (at_client client (Did volume deed)) events quiet
  short_led (deed ∷ other ∷ deeds) events short quiet = absurd short

  short_alone : (deeds : List Deed) → IsShort deeds → Led P (deeds_at client volume deeds)
  short_alone [] short = tt
  short_alone (deed ∷ []) short = led_one P (at_client client (Did volume deed)) [] tt
  short_alone (deed ∷ other ∷ deeds) short = absurd short

  -- ---- what a client is asked

  module _ (fetch : (fid : Fid) (parent : Option Fid) (node : Node) → P (at_client client (Fetched fid parent node))) where
    pub fetches_all : (fetches : List Fetch) → All P (map (at_client client) (entries_of fetches))
    fetches_all [] = tt
    fetches_all (f ∷ fetches) = (fetch _ _ _, fetches_all fetches)

    entered_led : (fetches : List Fetch) (deed : Deed) → Led P (map (at_client client) (entries_of fetches ++ Did volume deed ∷ []))
    entered_led [] deed = led_one P (at_client client (Did volume deed)) [] tt
    entered_led (f ∷ fetches) deed = ((λ enters. fetch _ _ _), entered_led fetches deed)

    abbrev pub LittleAnswer : Answer → Type 0
    LittleAnswer answer = Little P (reply_to answer.said) (map (at_client client) answer.entries)

    fetched_little : (fetches : List Fetch) (said : Said) → LittleAnswer (answers (entries_of fetches) said)
    fetched_little fetches said = (led_all P (map (at_client client) (entries_of fetches)) (fetches_all fetches), λ isnt. fetches_all fetches)

    chosen_little : (fetches : List Fetch) (deed : Deed) (room full : Bool) (number : ℕ) (object : Fid) (none kept : Said)
        → LittleAnswer (cond room (cond full (answers (entries_of fetches) none) (answers (entries_of fetches ++ Did volume deed ∷ []) (Ok (Done number object)))) (answers (entries_of fetches) kept))
    chosen_little fetches deed true true number object none kept = fetched_little fetches none
    chosen_little fetches deed true false number object none kept = (entered_led fetches deed, λ isnt. absurd isnt)
    chosen_little fetches deed false full number object none kept = fetched_little fetches kept

    answer_little : (fetches : List Fetch) (known : ClientVolume) (time : ℕ) (accepted : Accepted) → LittleAnswer (answer_to (entries_of fetches) known time volume accepted)
    answer_little fetches known time (Err why) = fetched_little fetches (Err (client_refused_as why))
    answer_little fetches known time (Ok op) = (let rec = next_record known time op in chosen_little fetches (Operated rec) (has_room known rec) (is_full known) _ _ _ _)

    unless_little : (o : Option ℕ) (offers : Option Nodes) (known : ClientState) (time : ℕ) (ask : Asked) → LittleAnswer (operate_unless o offers known time volume ask)
    unless_little (Some length) offers known time ask = (tt, λ isnt. tt)
    unless_little None offers known time ask =
        answer_little (look_ups offers known.held volume ask) (known.volumes volume) time (accept (sight_of (behind_fetches known (look_ups offers known.held volume ask)) volume) volume ask)

    pub operate_little : (offers : Option Nodes) (known : ClientState) (time : ℕ) (ask : Asked) → LittleAnswer (operate offers known time volume ask)
    unfolding operate
    operate_little offers known time ask = unless_little (too_big ask) offers known time ask

  -- ---- chunks

  module _ (server : ℕ) (froze : (number home last : ℕ) → home ≡ server → P (at_client client (Did volume (Froze number home last)))) (decided : (number : ℕ) (span : List Record) → P (Entered (AtReplica server volume (Decided client number span)))) where
    froze_all : (deeds : List Deed) → AreFroze server deeds → All P (deeds_at client volume deeds)
    froze_all [] are = tt
    froze_all (Froze number home last ∷ deeds) are = (froze number home last are.0, froze_all deeds are.1)
    froze_all (Operated rec ∷ deeds) are = absurd are
    froze_all (Settled number verdict ∷ deeds) are = absurd are
    froze_all (Gaveup ∷ deeds) are = absurd are

    answered_little : (f : Freezing) → AreFroze server f.deeds → (ruled : Ruling) → All P (entries_at ruled.replica.server volume ruled.entries) → (o : Result Taking Refused) → TookSo o
        → Little P (reply_to (answered_to client volume f ruled o).said) (answered_to client volume f ruled o).events
    answered_little f are ruled entries (Err why) short =
        let all = all_both P (deeds_at client volume f.deeds) (entries_at ruled.replica.server volume ruled.entries) (froze_all f.deeds are) entries in
        (led_all P (deeds_at client volume f.deeds ++ entries_at ruled.replica.server volume ruled.entries) all, λ isnt. all)
    answered_little f are ruled entries (Ok took) short = (
      led_both P (deeds_at client volume f.deeds) (entries_at ruled.replica.server volume ruled.entries ++ deeds_at client volume took.deeds) (froze_all f.deeds are)
          (led_both P (entries_at ruled.replica.server volume ruled.entries) (deeds_at client volume took.deeds) entries (short_alone took.deeds short)),
      λ isnt. absurd isnt,
    )

    ruled_little : (f : Freezing) (r : ReplicaState) → r.server ≡ server → AreFroze server f.deeds → (next full : Bool)
        → Little P (reply_to (ruled_on client volume f r (ruling_of next full client f.number f.span r)).said) (ruled_on client volume f r (ruling_of next full client f.number f.span r)).events
    ruled_little f r its are true true = (let all = froze_all f.deeds are in (led_all P (deeds_at client volume f.deeds) all, λ isnt. all))
    ruled_little f r its are true false =
        let ruled = decides client f.number f.span r in
        answered_little f are ruled (subst (λ n. P (Entered (AtReplica n volume (Decided client f.number f.span)))) (sym its) (decided f.number f.span), tt) (taking f.number ruled.answer f.volume) (took_so f.number ruled.answer f.volume)
    ruled_little f r its are false full =
        let ruled : Ruling = record { answer = told (r.lasts client) f.number; entries = []; replica = r } in
        answered_little f are ruled tt (taking f.number ruled.answer f.volume) (took_so f.number ruled.answer f.volume)

    drained_little : (now window : ℕ) (v : ClientVolume) (r : ReplicaState) → r.server ≡ server → (o : Result Freezing Refused) → FrozeSo now window server v o
        → Little P (reply_to (drained_of client volume v r o).said) (drained_of client volume v r o).events
    drained_little now window v r its (Err why) so = (tt, λ isnt. tt)
    drained_little now window v r its (Ok f) so = ruled_little f r its so.1 (is_next (r.lasts client) f.number) (nat_lt 4294967295 f.number)

    pub drain_little : (strength : Strength) (now window : ℕ) (v : ClientVolume) (r : ReplicaState) → r.server ≡ server → Little P (reply_to (drain strength now window client volume v r).said) (drain strength now window client volume v r).events
    drain_little Strong now window v r its = drained_little now window v r its (freezing now window r.server v) (subst (λ n. FrozeSo now window server v (freezing now window n v)) (sym its) (froze_so now window server v))
    drain_little Weak now window v r its = drained_little now window v r its (freezing now window r.server v) (subst (λ n. FrozeSo now window server v (freezing now window n v)) (sym its) (froze_so now window server v))
    drain_little Down now window v r its = (tt, λ isnt. tt)

  sends_little : (s : CellState) (server now window : ℕ) (v : ClientVolume) (o : Result Freezing Refused) → FrozeSo now window server v o → Little P (reply_to (sends_of s client volume server o).said) (sends_of s client volume server o).events
  sends_little s server now window v (Err why) so = (tt, λ isnt. tt)
  sends_little s server now window v (Ok f) so = (let sent = ChunkSent client server volume f.number f.span in (short_led f.deeds (going_by (number_of sent s.waiting) sent s).events so.0 (going_quiet s sent (number_of sent s.waiting)), λ isnt. absurd isnt))

  pub send_little : (s : CellState) (server now window : ℕ) (v : ClientVolume) (strength : Strength)
      → (let e = sends_of s client volume server (over strength (freezing now window server v)) in Little P (reply_to e.said) e.events)
  send_little s server now window v Strong = sends_little s server now window v (freezing now window server v) (froze_so now window server v)
  send_little s server now window v Weak = sends_little s server now window v (freezing now window server v) (froze_so now window server v)
  send_little s server now window v Down = (tt, λ isnt. tt)

  taken_little : (number : ℕ) (answer : RecordAnswer) (o : Result Taking Refused) → TookSo o → Little P (reply_to (taken_in client volume number answer o).said) (taken_in client volume number answer o).events
  taken_little number answer (Err why) short = (tt, λ isnt. tt)
  taken_little number Applied (Ok took) short = (short_alone took.deeds short, λ isnt. absurd isnt)
  taken_little number (Conflict refused why) (Ok took) short = (short_alone took.deeds short, λ isnt. absurd isnt)
  taken_little number (Behind last) (Ok took) short = (short_alone took.deeds short, λ isnt. absurd isnt)
  taken_little number (Old last) (Ok took) short = (short_alone took.deeds short, λ isnt. absurd isnt)

  pub taking_little : (number : ℕ) (answer : RecordAnswer) (v : ClientVolume) → Little P (reply_to (taken_in client volume number answer (taking number answer v)).said) (taken_in client volume number answer (taking number answer v)).events
  taking_little number answer v = taken_little number answer (taking number answer v) (took_so number answer v)

  pub ruling_little : (s : CellState) (server number : ℕ) (span : List Record) (r : ReplicaState) (next full : Bool)
      → (let e = ruled_in s client server volume number (ruling_of next full client number span r) in Little P (reply_to e.said) e.events)
  ruling_little s server number span r true true = (tt, λ isnt. tt)
  ruling_little s server number span r true false =
      let sent = AnswerSent server client volume number (decides client number span r).answer in
      (led_one P (Entered (AtReplica server volume (Decided client number span))) (posting sent s.waiting) (lost_quiet (put_out sent s.waiting) sent), λ isnt. absurd isnt)
  ruling_little s server number span r false full =
      let sent = AnswerSent server client volume number (told (r.lasts client) number) in
      (led_quiet P (posting sent s.waiting) (lost_quiet (put_out sent s.waiting) sent), λ isnt. absurd isnt)
