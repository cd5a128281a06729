-- What each line leaves can be spelled, where its numbers are in their ranges.
use Rattle.std.proofs.Common.{◌≡◌, ℕ, ◌<◌, ◌≤◌, ◌+◌, ◌==◌, ◌||◌, Bool, true, false, cond, List, [], ◌∷◌, ◌++◌, length, map, min, Option, Some, None, is_some, option_map, Result, Ok, Err, refl, sym, ap, ◌∙◌, subst, arith}
use Rattle.std.specs.Prelude.{nat_lt, nat_le, IfSome}
use Rattle.std.specs.Option.{unwrap_or}
use Rattle.std.specs.FinMap as finite
use Rattle.std.proofs.Math.Nat.{min-le_right}
use Rattle.std.proofs.lemmas.Bool.{eqb-true}
use Rattle.std.proofs.lemmas.Bool.Decides.{nat_tests}
use Rattle.coda_fid.specs.declared.fid.Fid.{Fid}
use Rattle.coda_fid.specs.declared.op.Attrs.{Attrs}
use Rattle.coda_fid.specs.declared.op.Op.{Op}
use Rattle.coda_tree.specs.declared.node.Node.{Node}
use Rattle.coda_tree.specs.Volume.{Nodes, parent_of}
use Rattle.coda_cml.specs.Chunks.{freeze_refusal}
use Rattle.coda_cml.specs.Segments.{segments_of}
use Rattle.coda_cml.specs.Steps.{settle_refusal}
use Rattle.coda_cml.specs.declared.fault.FreezeFault.{FreezeFault}
use Rattle.coda_cml.specs.declared.fault.SettleFault.{SettleFault}
use Rattle.coda_cml.specs.declared.frozen.Frozen.{Frozen}
use Rattle.coda_fid.specs.declared.op.Record.{Record}
use Rattle.coda_record.specs.declared.answer.Answer.{Answer as RecordAnswer}
use Rattle.coda_record.specs.declared.answer.Answer.TheVariants.{Applied, Conflict, Behind, Old}
use Rattle.coda_replica.specs.Answers.{is_next, told}
use Rattle.coda_record.specs.Form.{one, two, four, eight}
use Rattle.coda_record.specs.Parts.{u8, u16, u32, u64}
use Rattle.coda_record.specs.Spelling.{HasSpelling}
use Rattle.coda_record.specs.Table as table
use Rattle.coda_record.proofs.PartsAgree.{first_true}
use Rattle.coda_script.specs.declared.line.Strength.{Strength}
use Rattle.coda_script.specs.declared.line.Strength.TheVariants.{Strong, Weak, Down}
use Rattle.coda_script.specs.declared.line.Task.{Task}
use Rattle.coda_script.specs.declared.line.Task.TheVariants as task
use Rattle.coda_script.specs.declared.line.Line.{Line}
use Rattle.coda_script.specs.declared.line.Line.TheVariants as line
use Rattle.coda_script.specs.declared.reply.Reply.{Reply}
use Rattle.coda_script.specs.declared.reply.Reply.TheVariants.{Done}
use Rattle.coda_script.specs.Ranges.{IsClient, IsVolume, IsMode, IsOwner, IsNumber, AreServers, TaskInRange, InRange}
use Rattle.coda_plain.specs.Deeds.{Operated, course_of}
use Rattle.coda_plain.specs.Decisions.{last_of}
use Rattle.coda_plain.specs.Cell.{ClientEntry, Did}
use Rattle.coda_plain.specs.Moves.{done_on}
use Rattle.coda_plain.proofs.Soundness.{none_joins}
use Rattle.coda_venus.specs.Ask.{Asked, Create, Mkdir, Symlink, Store, Setattr, Remove, Rmdir, Rename, too_big, object_of, IsAskSpelled}
use Rattle.coda_cell.specs.Held.{Fetch, held_after_fetches}
use Rattle.coda_venus.specs.Held.{Held}
use Rattle.coda_cell.specs.Looking.{offered, fetch_of, looked, look_along, entries_of}
use Rattle.coda_cell.specs.State.{ClientVolume, ClientState, ReplicaState, new_client, Event, VolumeMade, ClientMade, Ticked, LinkSet, Entered, Posted, Lost, Used, Kept, Stale, CellState, at_client}
use Rattle.coda_cell.specs.Accepting.{sight_of}
use Rattle.coda_venus.specs.Accepting.{Accepted, accept}
use Rattle.coda_cell.specs.Asking.{Answer, answers, look_ups, behind_fetches, next_record, has_room, is_full, answer_to, operate_unless, operate, read, list}
use Rattle.coda_cell.specs.Made.{MadeCell, client_of, state_of, grown, grown_all, moves_of}
use Rattle.coda_letters.specs.Sent.{Sent, ChunkSent, AnswerSent, BreakSent, Waiting, client_of as sender_of, server_of, is_lossy, sent_at, put_out, number_of}
use Rattle.coda_cell.specs.Messages.{over, posting, going_by, sends_of, sends, ruled_in, taken_in}
use Rattle.coda_cell.specs.Steps.{Doing, Unless, first_missing, on_volume, on_holder, client_named, volume_named, server_named, holder_named, no_volume, no_client, offers_of, ByClient, ByBoth, BySend, ByRuling, ByTaking, bytes_of, Operates, DoesTask, Comes, link_down, Delivers, Loses, alone, Does}
use Rattle.coda_cell.specs.Sending.{Freezing, frozen_now, frozen_unless, freezing_of, freezing, Ruling, decides, ruling_of, ruling, Taking, taken, taken_unless, taking, deeds_at, entries_at, answered_to, ruled_on, drained_of, drain}
use Rattle.coda_cell.specs.Runs.{IsKept, IsLeft, MakesNumbered}
use Rattle.coda_spelling.specs.Spelled.{IsSpelled, AreSpelled}
use Rattle.coda_cell.specs.Spelled.{CanBeSpelled, LinesKeepSpellings, MessagesCanBeSpelled}
use Rattle.coda_cell.specs.Refused.{Refused}
use Rattle.coda_cell.specs.Refused as refused
use Rattle.coda_cell.proofs.Events.{all_there}
use Rattle.coda_cell.proofs.Fetches.{keeps_look_ups}
use Rattle.coda_cell.proofs.Histories.{number_stays}
use Rattle.coda_cell.proofs.KeptCells.{client_there, lawful}
use Rattle.coda_cell.proofs.KeptLines.{offered_are, lines_keep_cells}
use Rattle.coda_cell.proofs.Offered.{offered_is}
use Rattle.coda_spelling.proofs.SpelledParts.{within, is_within, below, attrs_spelled, both_true}
use Rattle.coda_venus.proofs.SpelledAsks.{accepted_spelled}
use Rattle.coda_cell.proofs.SpelledCells.{IsAppendSpelled, AreMovesSpelled, moves_spelled, nothing_spelled, chunk_spelled}
use Rattle.coda_spelling.proofs.SpelledNodes.{after_fetch}

-- what can be spelled of an event
abbrev pub IsEventSpelled : Event → Type 0
IsEventSpelled (VolumeMade volume server) = HasSpelling table.volume volume × HasSpelling table.server server
IsEventSpelled (ClientMade client blocks) = HasSpelling table.client client
IsEventSpelled (Ticked seconds) = Unit {0}
IsEventSpelled (LinkSet client server strength) = Unit {0}
IsEventSpelled (Entered append) = IsAppendSpelled append
IsEventSpelled (Posted sent) = Unit {0}
IsEventSpelled (Lost message) = Unit {0}
IsEventSpelled (Used client fids) = Unit {0}
IsEventSpelled (Kept client server fid) = Unit {0}
IsEventSpelled (Stale client fids) = Unit {0}

abbrev pub AreEventsSpelled : List Event → Type 0
AreEventsSpelled [] = Unit {0}
AreEventsSpelled (event ∷ events) = IsEventSpelled event × AreEventsSpelled events

both_spelled : (front back : List Event) → AreEventsSpelled front → AreEventsSpelled back → AreEventsSpelled (front ++ back)
both_spelled [] back f b = b
both_spelled (event ∷ front) back f b = (f.0, both_spelled front back f.1 b)

moves_are : (events : List Event) → AreEventsSpelled events → AreMovesSpelled (moves_of events)
moves_are [] are = tt
moves_are (VolumeMade volume server ∷ events) are = moves_are events are.1
moves_are (ClientMade client blocks ∷ events) are = moves_are events are.1
moves_are (Ticked seconds ∷ events) are = moves_are events are.1
moves_are (LinkSet client server strength ∷ events) are = moves_are events are.1
moves_are (Entered append ∷ events) are = (are.0, moves_are events are.1)
moves_are (Posted sent ∷ events) are = moves_are events are.1
moves_are (Lost message ∷ events) are = moves_are events are.1
moves_are (Used client fids ∷ events) are = moves_are events are.1
moves_are (Kept client server fid ∷ events) are = moves_are events are.1
moves_are (Stale client fids ∷ events) are = moves_are events are.1

-- the clock, the clients and the volumes
record IsNamed (cell : MadeCell) : Type 0 where
  pub clock : HasSpelling u64 cell.clock
  pub clients : (client blocks : ℕ) → cell.sizes client ≡ Some blocks → HasSpelling table.client client
  pub volumes : (volume server : ℕ) → cell.homes volume ≡ Some server → HasSpelling table.volume volume × HasSpelling table.server server

named_after : (cell : MadeCell) (event : Event) → IsNamed cell → IsEventSpelled event → IsNamed (grown cell event)
named_after cell (VolumeMade volume server) are is = record {
  clock = are.clock;
  clients = are.clients;
  volumes = λ v s e. elim (v == volume) as (λ b. (v == volume) ≡ b → cond b (Some server) (cell.homes v) ≡ Some s → HasSpelling table.volume v × HasSpelling table.server s) [
    | true ↦ λ same f. (subst (HasSpelling table.volume) (sym (eqb-true v volume same)) is.0, subst (HasSpelling table.server) (some_number server s f) is.1)
    | false ↦ λ other f. are.volumes v s f
  ] refl e;
}
  where
    some_number : (x y : ℕ) → Some x ≡ Some y → x ≡ y
    some_number x y e = cc
named_after cell (ClientMade client blocks) are is = record {
  clock = are.clock;
  clients = λ c b e. elim (c == client) as (λ x. (c == client) ≡ x → cond x (Some blocks) (cell.sizes c) ≡ Some b → HasSpelling table.client c) [
    | true ↦ λ same f. subst (HasSpelling table.client) (sym (eqb-true c client same)) is
    | false ↦ λ other f. are.clients c b f
  ] refl e;
  volumes = are.volumes;
}
named_after cell (Ticked seconds) are is = (let most = min-le_right (cell.clock + seconds) 18446744073709551615 in record {
  clock = below eight (min (cell.clock + seconds) 18446744073709551615) (omega (arith, most));
  clients = are.clients;
  volumes = are.volumes;
})
named_after cell (LinkSet client server strength) are is = record { clock = are.clock; clients = are.clients; volumes = are.volumes }
named_after cell (Entered append) are is = record { clock = are.clock; clients = are.clients; volumes = are.volumes }
named_after cell (Posted sent) are is = record { clock = are.clock; clients = are.clients; volumes = are.volumes }
named_after cell (Lost message) are is = record { clock = are.clock; clients = are.clients; volumes = are.volumes }
named_after cell (Used client fids) are is = record { clock = are.clock; clients = are.clients; volumes = are.volumes }
named_after cell (Kept client server fid) are is = record { clock = are.clock; clients = are.clients; volumes = are.volumes }
named_after cell (Stale client fids) are is = record { clock = are.clock; clients = are.clients; volumes = are.volumes }

named_all : (cell : MadeCell) (events : List Event) → IsNamed cell → AreEventsSpelled events → IsNamed (grown_all cell events)
named_all cell [] named are = named
named_all cell (event ∷ events) named are = named_all (grown cell event) events (named_after cell event named are.0) are.1

look_spelled : (offers : Option Nodes) → ((nodes : Nodes) → offers ≡ Some nodes → AreSpelled nodes) → (h : Held) (fid : Fid) → AreSpelled h.nodes → AreSpelled (looked offers h fid).nodes
look_spelled offers from h fid are = by (finite.get h.nodes fid) (offered offers fid) refl
  where
    by : (o offer : Option Node) → offered offers fid ≡ offer → AreSpelled (held_after_fetches h (fetch_of o offer (parent_of h.nodes fid) fid)).nodes
    by (Some node) offer e = are
    by None None e = are
    by None (Some node) e = (let at = offered_is offers fid node e in after_fetch h.nodes at.0 fid node are (from at.0 at.1) at.2)

fetches_spelled : (number : ℕ) (fetches : List Fetch) → AreEventsSpelled (map (at_client number) (entries_of fetches))
fetches_spelled number [] = tt
fetches_spelled number (fetch ∷ fetches) = (tt, fetches_spelled number fetches)

map_both : (number : ℕ) (xs ys : List ClientEntry) → map (at_client number) (xs ++ ys) ≡ map (at_client number) xs ++ map (at_client number) ys
map_both number [] ys = refl
map_both number (x ∷ xs) ys = ap (λ l. at_client number x ∷ l) (map_both number xs ys)

-- a client's number as a byte
pub byte : (n : ℕ) → HasSpelling table.client n → HasSpelling u8 n
byte n is = first_true _ _ is

small : (n : ℕ) → HasSpelling table.client n → n < 4294967296
small n is = let most = (is_within 1 255 one n is).1 in omega (arith, most)

module _ (cell : MadeCell) (kept : IsKept cell) (can : CanBeSpelled cell) (number blocks : ℕ) (there : cell.sizes number ≡ Some blocks) (volume : ℕ) (volumed : volume < 4294967296) where
  abbrev client : ClientState
  client = client_of number (cell.acted.clients number).history blocks

  abbrev offers : Option Nodes
  offers = offers_of (state_of cell) number volume

  offers_spelled : (nodes : Nodes) → offers ≡ Some nodes → AreSpelled nodes
  offers_spelled nodes e = let r = offered_are cell number volume nodes e in subst AreSpelled r.are (can.did.replicas r.server volume).nodes

  module _ (ask : Asked) (asked : too_big ask ≡ None → IsAskSpelled ask) where
    abbrev fetches : List Fetch
    fetches = look_ups offers client.held volume ask

    abbrev behind : ClientState
    behind = behind_fetches client fetches

    behind_spelled : AreSpelled behind.held.nodes
    behind_spelled = keeps_look_ups (λ (h : Held). AreSpelled h.nodes) offers (look_spelled offers offers_spelled) client.held volume ask (can.did.held number blocks)

    client_small : client.number < 4294967296
    client_small = subst (λ n. n < 4294967296) (sym (number_stays (new_client number blocks) (cell.acted.clients number).history)) (small number (can.clients number blocks there))

    record_spelled : (op : Op) → too_big ask ≡ None → accept (sight_of behind volume) volume ask ≡ Ok op → is_full (client.volumes volume) ≡ false → IsSpelled (next_record (client.volumes volume) cell.clock op)
    record_spelled op short accepted room =
        let n = (client.volumes volume).operations in
        let few : n < 4294967295 = grind (arith, nat_tests, room) in
        record {
          number = within 1 4294967295 eight (n + 1) (omega arith) (omega (arith, few)) (omega (arith, few));
          time = can.clock;
          op = accepted_spelled (sight_of behind volume) volume volumed client_small behind_spelled ask op (asked short) short accepted;
        }

    entered_spelled : (op : Op) → too_big ask ≡ None → accept (sight_of behind volume) volume ask ≡ Ok op → (room full : Bool) → is_full (client.volumes volume) ≡ full
        → AreEventsSpelled (map (at_client number) (cond room (cond full (answers (entries_of fetches) (Err refused.JournalFull))
        (answers (entries_of fetches ++ Did volume (Operated (next_record (client.volumes volume) cell.clock op)) ∷ []) (Ok (Done ((client.volumes volume).operations + 1) (object_of op))))) (answers (entries_of fetches) (Err refused.LogFull))).entries)
    entered_spelled op short accepted true true full = fetches_spelled number fetches
    entered_spelled op short accepted true false full =
        let rec = next_record (client.volumes volume) cell.clock op in
        subst AreEventsSpelled (sym (map_both number (entries_of fetches) (Did volume (Operated rec) ∷ [])))
        (both_spelled (map (at_client number) (entries_of fetches)) (at_client number (Did volume (Operated rec)) ∷ []) (fetches_spelled number fetches) ((byte number (can.clients number blocks there), record_spelled op short accepted full), tt))
    entered_spelled op short accepted false full e = fetches_spelled number fetches

    answered_spelled : (r : Accepted) → too_big ask ≡ None → accept (sight_of behind volume) volume ask ≡ r → AreEventsSpelled (map (at_client number) (answer_to (entries_of fetches) (client.volumes volume) cell.clock volume r).entries)
    answered_spelled (Err why) short is = fetches_spelled number fetches
    answered_spelled (Ok op) short is = entered_spelled op short is (has_room (client.volumes volume) (next_record (client.volumes volume) cell.clock op)) (is_full (client.volumes volume)) refl

    unless_spelled : (o : Option ℕ) → too_big ask ≡ o → AreEventsSpelled (map (at_client number) (operate_unless o offers client cell.clock volume ask).entries)
    unless_spelled (Some length) big = tt
    unless_spelled None short = answered_spelled (accept (sight_of behind volume) volume ask) short refl

    operated_spelled : AreEventsSpelled (map (at_client number) (operate offers client cell.clock volume ask).entries)
    unfolding operate
    operated_spelled = unless_spelled (too_big ask) refl

-- what is ruled can be spelled
decided_spelled : (server volume client number : ℕ) (span : List Record) (r : ReplicaState) (ruled : Ruling) → HasSpelling u8 client → ruling client number span r ≡ Ok ruled → AreEventsSpelled (entries_at server volume ruled.entries)
decided_spelled server volume client number span r ruled byte e = by (is_next (r.lasts client) number) (nat_lt 4294967295 number) e
  where
    by : (next full : Bool) → ruling_of next full client number span r ≡ Ok ruled → AreEventsSpelled (entries_at server volume ruled.entries)
    by true true e = cc
    by true false e = (let same : decides client number span r ≡ ruled = cc in subst (λ (x : Ruling). AreEventsSpelled (entries_at server volume x.entries)) same (byte, tt))
    by false full e =
        let tells : Ruling = record { answer = told (r.lasts client) number; entries = []; replica = r } in
        let same : tells ≡ ruled = cc in
        subst (λ (x : Ruling). AreEventsSpelled (entries_at server volume x.entries)) same tt

-- and so can what is taken
took_spelled : (client volume number : ℕ) (answer : RecordAnswer) (v : ClientVolume) (took : Taking) → taking number answer v ≡ Ok took → AreEventsSpelled (deeds_at client volume took.deeds)
took_spelled client volume number answer v took e = by (settle_refusal v.frozen number) e
  where
    taken_spelled : (answer : RecordAnswer) → AreEventsSpelled (deeds_at client volume (taken number answer v).deeds)
    taken_spelled Applied = (tt, tt)
    taken_spelled (Conflict refused why) = (tt, tt)
    taken_spelled (Behind last) = tt
    taken_spelled (Old last) = tt

    by : (o : Option SettleFault) → taken_unless o number answer v ≡ Ok took → AreEventsSpelled (deeds_at client volume took.deeds)
    by (Some why) e = cc
    by None e = (let same : taken number answer v ≡ took = cc in subst (λ (x : Taking). AreEventsSpelled (deeds_at client volume x.deeds)) same (taken_spelled answer))

-- and what is frozen
pub froze_spelled : (client volume now window server : ℕ) (v : ClientVolume) (f : Freezing) → freezing now window server v ≡ Ok f → AreEventsSpelled (deeds_at client volume f.deeds)
froze_spelled client volume now window server v f e = by v.frozen e
  where
    room : (b : Bool) → nat_le 4294967295 v.chunks ≡ b → (let r : Result Freezing Refused = cond b (Err refused.JournalFull) (Ok (frozen_now now window server v)) in r) ≡ Ok f → AreEventsSpelled (deeds_at client volume f.deeds)
    room true few e = cc
    room false few e =
        let same : frozen_now now window server v ≡ f = cc in
        let low : v.chunks < 4294967295 = grind (arith, nat_tests, few) in
        subst (λ (x : Freezing). AreEventsSpelled (deeds_at client volume x.deeds)) same (within 0 4294967295 eight (v.chunks + 1) (omega arith) (omega (arith, low)) (omega (arith, low)), tt)

    here : (o : Option FreezeFault) → frozen_unless o now window server v ≡ Ok f → AreEventsSpelled (deeds_at client volume f.deeds)
    here (Some why) e = cc
    here None e = room (nat_le 4294967295 v.chunks) refl e

    there : (chunk : Frozen) (b : Bool) → (let r : Result Freezing Refused = cond b (Ok (record { number = chunk.number; span = v.front; deeds = []; volume = v })) (Err (refused.Frozen chunk.number chunk.home)) in r) ≡ Ok f
        → AreEventsSpelled (deeds_at client volume f.deeds)
    there chunk false e = cc
    there chunk true e =
        let kept : Freezing = record { number = chunk.number; span = v.front; deeds = []; volume = v } in
        let same : kept ≡ f = cc in
        subst (λ (x : Freezing). AreEventsSpelled (deeds_at client volume x.deeds)) same tt

    by : (o : Option Frozen) → freezing_of o now window server v ≡ Ok f → AreEventsSpelled (deeds_at client volume f.deeds)
    by None e = here (freeze_refusal None now window (segments_of v.back)) e
    by (Some chunk) e = there chunk (chunk.home == server) e

module _ (cell : MadeCell) (can : CanBeSpelled cell) (number blocks : ℕ) (there : cell.sizes number ≡ Some blocks) (volume : ℕ) (v : ClientVolume) (r : ReplicaState) (now window : ℕ) where
  sender_byte : HasSpelling u8 number
  sender_byte = byte number (can.clients number blocks there)

  module _ (f : Freezing) (froze : AreEventsSpelled (deeds_at number volume f.deeds)) where
    exchange_spelled : (ruled : Ruling) (server : ℕ) → AreEventsSpelled (entries_at ruled.replica.server volume ruled.entries) → (o : Result Taking Refused) → taking f.number ruled.answer f.volume ≡ o → AreEventsSpelled (answered_to number volume f ruled o).events
    exchange_spelled ruled server entries (Err why) e = both_spelled (deeds_at number volume f.deeds) (entries_at ruled.replica.server volume ruled.entries) froze entries
    exchange_spelled ruled server entries (Ok took) e =
        both_spelled (deeds_at number volume f.deeds) (entries_at ruled.replica.server volume ruled.entries ++ deeds_at number volume took.deeds) froze
        (both_spelled (entries_at ruled.replica.server volume ruled.entries) (deeds_at number volume took.deeds) entries (took_spelled number volume f.number ruled.answer f.volume took e))

    ruled_spelled : (o : Result Ruling Refused) → ruling number f.number f.span r ≡ o → AreEventsSpelled (ruled_on number volume f r o).events
    ruled_spelled (Err why) e = froze
    ruled_spelled (Ok ruled) e = exchange_spelled ruled ruled.replica.server (decided_spelled ruled.replica.server volume number f.number f.span r ruled sender_byte e) (taking f.number ruled.answer f.volume) refl

  drained_spelled : (o : Result Freezing Refused) → freezing now window r.server v ≡ o → AreEventsSpelled (drained_of number volume v r o).events
  drained_spelled (Err why) e = tt
  drained_spelled (Ok f) e = ruled_spelled f (froze_spelled number volume now window r.server v f e) (ruling number f.number f.span r) refl

  drain_spelled : (strength : Strength) → AreEventsSpelled (drain strength now window number volume v r).events
  drain_spelled Strong = drained_spelled (freezing now window r.server v) refl
  drain_spelled Weak = drained_spelled (freezing now window r.server v) refl
  drain_spelled Down = tt

-- letters are of what can be said, so nothing of them is to be spelled
put_out_spelled : (going : Waiting) (sent : Sent) → AreEventsSpelled (map (λ l. Lost l.0) going ++ Posted sent ∷ [])
put_out_spelled [] sent = (tt, tt)
put_out_spelled (l ∷ going) sent = (tt, put_out_spelled going sent)

posting_spelled : (sent : Sent) (waiting : Waiting) → AreEventsSpelled (posting sent waiting)
posting_spelled sent waiting = put_out_spelled (put_out sent waiting) sent

module _ (s : CellState) (client volume server : ℕ) where
  going_spelled : (sent : Sent) (o : Option ℕ) → AreEventsSpelled (going_by o sent s).events
  going_spelled sent (Some message) = tt
  going_spelled sent None = posting_spelled sent s.waiting

  sent_spelled_of : (now window : ℕ) (v : ClientVolume) (o : Result Freezing Refused) → freezing now window server v ≡ o → AreEventsSpelled (sends_of s client volume server o).events
  sent_spelled_of now window v (Err why) e = tt
  sent_spelled_of now window v (Ok f) e = (let sent = ChunkSent client server volume f.number f.span in
      both_spelled (deeds_at client volume f.deeds) (going_by (number_of sent s.waiting) sent s).events (froze_spelled client volume now window server v f e) (going_spelled sent (number_of sent s.waiting)))

  sends_spelled : (window : ℕ) (v : ClientVolume) → AreEventsSpelled (sends s client volume server window v).events
  sends_spelled window v = by (s.links client server)
    where
      by : (strength : Strength) → AreEventsSpelled (sends_of s client volume server (over strength (freezing s.clock window server v))).events
      by Strong = sent_spelled_of s.clock window v (freezing s.clock window server v) refl
      by Weak = sent_spelled_of s.clock window v (freezing s.clock window server v) refl
      by Down = tt

  ruled_in_spelled : (number : ℕ) (span : List Record) (r : ReplicaState) → HasSpelling u8 client → (o : Result Ruling Refused) → ruling client number span r ≡ o → AreEventsSpelled (ruled_in s client server volume number o).events
  ruled_in_spelled number span r byte (Err why) e = tt
  ruled_in_spelled number span r byte (Ok ruled) e = (let sent = AnswerSent server client volume number ruled.answer in
      both_spelled (entries_at server volume ruled.entries) (posting sent s.waiting) (decided_spelled server volume client number span r ruled byte e) (posting_spelled sent s.waiting))

  taken_in_spelled : (number : ℕ) (answer : RecordAnswer) (v : ClientVolume) (o : Result Taking Refused) → taking number answer v ≡ o → AreEventsSpelled (taken_in client volume number answer o).events
  taken_in_spelled number answer v (Err why) e = tt
  taken_in_spelled number answer v (Ok took) e = took_spelled client volume number answer v took e

mode_spelled : (mode : Option ℕ) (other : ℕ) → IfSome mode IsMode → other < 65536 → HasSpelling u16 (unwrap_or mode other)
mode_spelled None other is fits = below two other fits
mode_spelled (Some mode) other is fits = below two mode (omega (arith, is))

owner_spelled : (owner : Option ℕ) → IfSome owner IsOwner → HasSpelling u32 (unwrap_or owner 0)
owner_spelled None is = below four 0 (omega arith)
owner_spelled (Some owner) is = let most = is.1 in below four owner (omega (arith, most))

target_spelled : (target : List ℕ) → (1 ≤ length target) × (length target ≤ 1024) → HasSpelling (table.target four) target
target_spelled target is = let most = is.1 in both_true _ _ (within 1 1024 four (length target) is.0 is.1 (omega (arith, most))) refl

set_spelled : (attrs : Attrs) → IfSome attrs.mode IsMode → IfSome attrs.owner IsOwner → IfSome attrs.mtime IsNumber → (is_some attrs.mode || (is_some attrs.owner || is_some attrs.mtime)) ≡ true → HasSpelling table.attrs attrs
set_spelled attrs mode owner mtime some = attrs_spelled attrs (modes attrs.mode mode) (owners attrs.owner owner) (times attrs.mtime mtime) some
  where
    modes : (o : Option ℕ) → IfSome o IsMode → IfSome o (λ m. m < 65536)
    modes None is = tt
    modes (Some m) is = omega (arith, is)

    owners : (o : Option ℕ) → IfSome o IsOwner → IfSome o (λ m. m < 4294967296)
    owners None is = tt
    owners (Some m) is = let most = is.1 in omega (arith, most)

    times : (o : Option ℕ) → IfSome o IsNumber → IfSome o (λ m. m < 18446744073709551616)
    times None is = tt
    times (Some m) is = let most = is.1 in omega (arith, most)

module _ (cell : MadeCell) (kept : IsKept cell) (can : CanBeSpelled cell) where
  nothing : (events : List Event) → events ≡ [] → AreEventsSpelled events
  nothing events none = subst AreEventsSpelled (sym none) tt

  unless_own : (o : Option Refused) (own : Doing) (reply : Reply) (events : List Event) → (own reply events → AreEventsSpelled events) → Unless o own reply events → AreEventsSpelled events
  unless_own (Some why) own reply events rest does = nothing events does.1
  unless_own None own reply events rest does = rest does

  operates : (client volume : ℕ) (ask : Asked) (reply : Reply) (events : List Event) → IsVolume volume → (too_big ask ≡ None → IsAskSpelled ask) → Operates (state_of cell) client volume ask reply events → AreEventsSpelled events
  operates client volume ask reply events range asked does =
      unless_own (first_missing (on_volume (state_of cell) client volume)) (ByClient (state_of cell) client volume (λ offers c. operate offers c cell.clock volume ask)) reply events (λ did.
      let c = client_there cell kept client did.client did.there in
      let most = range.1 in
      subst AreEventsSpelled (sym (did.happened ∙ ap (λ x. map (at_client client) (operate (offers_of (state_of cell) client volume) x cell.clock volume ask).entries) (sym c.2)))
      (operated_spelled cell kept can client c.0 c.1 volume (omega (arith, most)) ask asked)) does

  shows : (ask : Option Nodes → ClientState → Answer) (client volume : ℕ) (reply : Reply) (events : List Event) (fetches : Option Nodes → ClientState → List Fetch)
      → ((offers : Option Nodes) (c : ClientState) → (ask offers c).entries ≡ entries_of (fetches offers c))
      → Unless (first_missing (on_volume (state_of cell) client volume)) (ByClient (state_of cell) client volume ask) reply events → AreEventsSpelled events
  shows ask client volume reply events fetches looks does = unless_own (first_missing (on_volume (state_of cell) client volume)) (ByClient (state_of cell) client volume ask) reply events (λ did.
      let offers = offers_of (state_of cell) client volume in
      subst AreEventsSpelled (sym (did.happened ∙ ap (map (at_client client)) (looks offers did.client))) (fetches_spelled client (fetches offers did.client))) does

  both_act : (o : Option Refused) (client volume window : ℕ) (reply : Reply) (events : List Event) → Unless o (ByBoth (state_of cell) client volume window) reply events → AreEventsSpelled events
  both_act o client volume window reply events does = unless_own o (ByBoth (state_of cell) client volume window) reply events (λ did.
      let c = client_there cell kept client did.client did.client_there in
      subst AreEventsSpelled (sym did.happened) (drain_spelled cell can client c.0 c.1 volume (did.client.volumes volume) did.replica cell.clock window (cell.links client did.replica.server))) does

  task_spelled : (t : Task) (reply : Reply) (events : List Event) → TaskInRange t → DoesTask (state_of cell) t reply events → AreEventsSpelled events
  task_spelled (task.Create client volume path mode owner) reply events r does =
      operates client volume (Create path (unwrap_or mode 420) (unwrap_or owner 0)) reply events r.1 (λ short. (r.2.names, mode_spelled mode 420 r.3 (omega arith), owner_spelled owner r.4)) does
  task_spelled (task.Mkdir client volume path mode owner) reply events r does =
      operates client volume (Mkdir path (unwrap_or mode 493) (unwrap_or owner 0)) reply events r.1 (λ short. (r.2.names, mode_spelled mode 493 r.3 (omega arith), owner_spelled owner r.4)) does
  task_spelled (task.Symlink client volume path target) reply events r does = operates client volume (Symlink path target) reply events r.1 (λ short. (r.2.names, target_spelled target r.3)) does
  task_spelled (task.Store client volume path content) reply events r does = operates client volume (Store path (bytes_of content)) reply events r.1 (λ short. tt) does
  task_spelled (task.Setattr client volume path attrs) reply events r does = operates client volume (Setattr path attrs) reply events r.1 (λ short. set_spelled attrs r.3 r.4 r.5 r.6) does
  task_spelled (task.Remove client volume path) reply events r does = operates client volume (Remove path) reply events r.1 (λ short. r.2.names) does
  task_spelled (task.Rmdir client volume path) reply events r does = operates client volume (Rmdir path) reply events r.1 (λ short. r.2.names) does
  task_spelled (task.Rename client volume from to) reply events r does = operates client volume (Rename from to) reply events r.1 (λ short. (r.2.names, r.3.names)) does
  task_spelled (task.Read client volume path) reply events r does = shows (λ offers c. read offers c volume path) client volume reply events (λ offers c. look_along offers c.held _ path) (λ offers c. refl) does
  task_spelled (task.List client volume path) reply events r does = shows (λ offers c. list offers c volume path) client volume reply events (λ offers c. look_along offers c.held _ path) (λ offers c. refl) does
  task_spelled (task.Drain client volume server window) reply events r does =
      both_act (first_missing (client_named (state_of cell) client ∷ volume_named (state_of cell) volume ∷ holder_named (state_of cell) server volume ∷ [])) client volume (unwrap_or window 600) reply events does
  task_spelled (task.Hardlink client volume from to) reply events r does = absurd does
  task_spelled (task.Refresh client volume server) reply events r does = absurd does
  task_spelled (task.Giveup client volume) reply events r does = absurd does

  -- a client that is there
  client_byte : (client volume server : ℕ) → first_missing (on_holder (state_of cell) client volume server) ≡ None → HasSpelling u8 client
  client_byte client volume server all = by (cell.sizes client) refl (all_there (client_named (state_of cell) client) (volume_named (state_of cell) volume) (holder_named (state_of cell) server volume) all).0
    where
      by : (o : Option ℕ) → cell.sizes client ≡ o → is_some (option_map (client_of client (cell.acted.clients client).history) o) ≡ true → HasSpelling u8 client
      by None is e = cc
      by (Some blocks) is e = byte client (can.clients client blocks is)

  named_own : (o : Option Refused) (own : Doing) (reply : Reply) (events : List Event) → (o ≡ None → own reply events → AreEventsSpelled events) → Unless o own reply events → AreEventsSpelled events
  named_own (Some why) own reply events rest does = nothing events does.1
  named_own None own reply events rest does = rest refl does

  comes : (sent : Sent) (reply : Reply) (events : List Event) → Comes (state_of cell) sent reply events → AreEventsSpelled events
  comes (ChunkSent client server volume number span) reply events does = named_own (first_missing (on_holder (state_of cell) client volume server)) (ByRuling (state_of cell) client server volume number span) reply events (λ all did.
      subst AreEventsSpelled (sym did.happened) (ruled_in_spelled (state_of cell) client volume server number span did.replica (client_byte client volume server all) (ruling client number span did.replica) refl)) does
  comes (AnswerSent server client volume number answer) reply events does = named_own (first_missing (on_holder (state_of cell) client volume server)) (ByTaking (state_of cell) client volume number answer) reply events (λ all did.
      subst AreEventsSpelled (sym did.happened) (taken_in_spelled (state_of cell) client volume server number answer (did.client.volumes volume) (taking number answer (did.client.volumes volume)) refl)) does
  comes (BreakSent server client volume fids) reply events does = named_own (first_missing (on_holder (state_of cell) client volume server)) _ reply events (λ all did. subst AreEventsSpelled (sym did.1) (tt, tt)) does

  delivers : (message : ℕ) (o : Option Sent) (reply : Reply) (events : List Event) → Delivers (state_of cell) message o reply events → AreEventsSpelled events
  delivers message None reply events does = nothing events does.1
  delivers message (Some sent) reply events does = unless_own (link_down (cell.links (sender_of sent) (server_of sent))) (Comes (state_of cell) sent) reply events (comes sent reply events) does

  loses : (message : ℕ) (o : Option Sent) (reply : Reply) (events : List Event) → Loses message o reply events → AreEventsSpelled events
  loses message None reply events does = nothing events does.1
  loses message (Some sent) reply events does = subst AreEventsSpelled (sym does.1) (tt, by (is_lossy sent))
    where
      by : (b : Bool) → AreEventsSpelled (cond b [] (LinkSet (sender_of sent) (server_of sent) Down ∷ []))
      by true = tt
      by false = (tt, tt)

  number_spelled : (volume : ℕ) → IsVolume volume → HasSpelling table.volume volume
  number_spelled volume range = let most = range.1 in within 1 4294967295 four volume range.0 range.1 (omega (arith, most))

  server_spelled : (servers : List ℕ) → AreServers servers → HasSpelling table.server (alone servers)
  server_spelled [] range = absurd range
  server_spelled (server ∷ servers) range = let most = range.0.1 in within 1 8 one server range.0.0 range.0.1 (omega (arith, most))

  client_spelled : (client : ℕ) → IsClient client → HasSpelling table.client client
  client_spelled client range = let most = range.1 in within 1 255 one client range.0 range.1 (omega (arith, most))

  line_spelled : (said : Line) (reply : Reply) (events : List Event) → InRange said → Does (state_of cell) said reply events → AreEventsSpelled events
  line_spelled (line.Volume volume servers area) reply events r does =
      unless_own (no_volume (state_of cell) volume) _ reply events (λ did. subst AreEventsSpelled (sym did.1) ((number_spelled volume r.0, server_spelled servers r.1), tt)) does
  line_spelled (line.Client client blocks area) reply events r does = unless_own (no_client (state_of cell) client) _ reply events (λ did. subst AreEventsSpelled (sym did.1) (client_spelled client r.0, tt)) does
  line_spelled (line.Link client server strength) reply events r does =
      unless_own (first_missing (client_named (state_of cell) client ∷ server_named (state_of cell) server ∷ [])) _ reply events (λ did. subst AreEventsSpelled (sym did.1) (tt, tt)) does
  line_spelled (line.Tick seconds) reply events r does = subst AreEventsSpelled (sym does.1) (tt, tt)
  line_spelled (line.Task t) reply events r does = task_spelled t reply events r does
  line_spelled (line.ShowVolume server volume) reply events r does = unless_own (first_missing (holder_named (state_of cell) server volume ∷ [])) _ reply events (λ did. nothing events did.1) does
  line_spelled (line.ShowLog client volume) reply events r does = unless_own (first_missing (on_volume (state_of cell) client volume)) _ reply events (λ did. nothing events did.1) does
  line_spelled (line.ShowState client volume) reply events r does = unless_own (first_missing (on_volume (state_of cell) client volume)) _ reply events (λ did. nothing events did.happened) does
  line_spelled (line.Send client volume server window) reply events r does = unless_own (first_missing (on_holder (state_of cell) client volume server)) (BySend (state_of cell) client volume server (unwrap_or window 600)) reply events
      (λ did. subst AreEventsSpelled (sym did.happened) (sends_spelled (state_of cell) client volume server (unwrap_or window 600) (did.client.volumes volume))) does
  line_spelled (line.Deliver message) reply events r does = delivers message (sent_at message cell.waiting) reply events does
  line_spelled (line.Lose message) reply events r does = loses message (sent_at message cell.waiting) reply events does
  line_spelled _ reply events r does = absurd does

-- a client that is made has a number
numbered : (said : Line) → InRange said → MakesNumbered said
numbered (line.Client client blocks area) range = λ zero. (let low = range.0.0 in let no : ⊥ = omega (arith, low, zero) in absurd no)
numbered _ range = tt

-- what events leave that can be spelled
pub spelled_after : (old : MadeCell) (events : List Event) → IsKept old → CanBeSpelled old → IsLeft old events → AreEventsSpelled events → CanBeSpelled (grown_all old events)
spelled_after old events kept can left are =
    let named = named_all old events (record { clock = can.clock; clients = can.clients; volumes = can.volumes }) are in
    record {
      clock = named.clock;
      clients = named.clients;
      volumes = named.volumes;
      did = moves_spelled (moves_of events) old.acted (grown_all old events).acted left.moved kept.sound can.did (moves_are events are);
    }

pub lines_keep_spellings : LinesKeepSpellings
lines_keep_spellings old said reply events kept can range does =
    spelled_after old events kept can (lines_keep_cells old said reply events kept (numbered said range) does) (line_spelled old kept can said reply events range does)

pub number_spelled_of : (cell : MadeCell) (server volume client : ℕ) → IsKept cell → CanBeSpelled cell → HasSpelling table.count (last_of volume (cell.acted.replicas server volume).history client).number
number_spelled_of cell server volume client kept can =
    let most = (kept.sound.agree none_joins).reached server volume client in
    let few = (is_within 0 4294967295 eight (course_of (done_on cell.acted client volume)).chunks (can.did.chunks client volume)).1 in
    within 0 4294967295 eight (last_of volume (cell.acted.replicas server volume).history client).number (omega arith) (omega (arith, most, few)) (omega (arith, most, few))

pub messages_can_be_spelled : MessagesCanBeSpelled
messages_can_be_spelled = record {
  first = record { clock = refl; clients = λ client blocks e. cc; volumes = λ volume server e. cc; did = nothing_spelled };
  lines = lines_keep_spellings;
  records = λ cell client volume number kept can. chunk_spelled (done_on cell.acted client volume) number (lawful cell kept client volume) (can.did.operations client volume);
  numbers = number_spelled_of;
  verdicts = λ cell server volume client can. (can.did.replicas server volume).verdicts client;
}
