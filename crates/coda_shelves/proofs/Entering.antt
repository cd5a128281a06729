-- Which actors enter what happens by a line.
use Rattle.std.proofs.Common.{ℕ, Bool, true, false, List, [], ◌∷◌, ◌++◌, map, Option, Some, None, Result, Ok, Err}
use Rattle.std.specs.Prelude.{nat_lt}
use Rattle.coda_fid.specs.declared.op.Record.{Record}
use Rattle.coda_plain.specs.Cell.{ClientEntry, Did}
use Rattle.coda_plain.specs.Decisions.{ReplicaEntry}
use Rattle.coda_plain.specs.Moves.{AtClient, AtReplica}
use Rattle.coda_record.specs.declared.answer.Answer.{Answer}
use Rattle.coda_replica.specs.Answers.{told, is_next}
use Rattle.coda_script.specs.declared.line.Strength.{Strength}
use Rattle.coda_script.specs.declared.line.Strength.TheVariants.{Strong, Weak, Down}
use Rattle.coda_letters.specs.Sent.{Sent, ChunkSent, AnswerSent, Waiting, put_out, number_of}
use Rattle.coda_cell.specs.State.{ClientVolume, ReplicaState, CellState, Event, VolumeMade, ClientMade, Ticked, LinkSet, Entered, Posted, Lost, Used, Kept, Stale, at_client}
use Rattle.coda_cell.specs.Messages.{over, posting, going_by, sends_of, sends, ruled_in, chunk_comes, taken_in, answer_comes}
use Rattle.coda_cell.specs.Sending.{Freezing, freezing, Ruling, ruling_of, Taking, taking, deeds_at, entries_at, decides, answered_to, ruled_on, drained_of, drain}
use Rattle.coda_cell.specs.Refused.{Refused}
use Rattle.coda_matching.specs.Replicas.{IsDecision}

-- it makes no actor, and where it is an entry, it is one of these clients or replicas, which decide alone
abbrev pub IsBy : (ℕ → Type 0) → (ℕ → ℕ → Type 0) → Event → Type 0
IsBy C R (VolumeMade volume server) = ⊥
IsBy C R (ClientMade client blocks) = ⊥
IsBy C R (Ticked seconds) = Unit {0}
IsBy C R (LinkSet client server strength) = Unit {0}
IsBy C R (Entered (AtClient client entry)) = C client
IsBy C R (Entered (AtReplica server volume entry)) = R server volume × IsDecision entry
IsBy C R (Posted sent) = Unit {0}
IsBy C R (Lost message) = Unit {0}
IsBy C R (Used client fids) = Unit {0}
IsBy C R (Kept client server fid) = R server fid.volume
IsBy C R (Stale client fids) = Unit {0}

abbrev pub AreBy : (ℕ → Type 0) → (ℕ → ℕ → Type 0) → List Event → Type 0
AreBy C R [] = Unit {0}
AreBy C R (event ∷ events) = IsBy C R event × AreBy C R events

-- all of them are decisions
abbrev pub AreDecided : List ReplicaEntry → Type 0
AreDecided [] = Unit {0}
AreDecided (entry ∷ entries) = IsDecision entry × AreDecided entries

-- a ruling leaves decisions alone
abbrev IsAlone : Result Ruling Refused → Type 0
IsAlone (Ok ruled) = AreDecided ruled.entries
IsAlone (Err why) = Unit {0}

ruling_alone : (client number : ℕ) (span : List Record) (r : ReplicaState) (next full : Bool) → IsAlone (ruling_of next full client number span r)
ruling_alone client number span r true true = tt
ruling_alone client number span r true false = (tt, tt)
ruling_alone client number span r false full = tt

module _ (C : ℕ → Type 0) (R : ℕ → ℕ → Type 0) where
  pub by_both : (first rest : List Event) → AreBy C R first → AreBy C R rest → AreBy C R (first ++ rest)
  by_both [] rest a b = b
  by_both (event ∷ first) rest a b = (a.0, by_both first rest a.1 b)

  pub by_parts : (first rest : List Event) → AreBy C R (first ++ rest) → AreBy C R first × AreBy C R rest
  by_parts [] rest are = (tt, are)
  by_parts (event ∷ first) rest are = let parts = by_parts first rest are.1 in ((are.0, parts.0), parts.1)

  pub by_entries : (client : ℕ) (entries : List ClientEntry) → C client → AreBy C R (map (at_client client) entries)
  by_entries client [] c = tt
  by_entries client (entry ∷ entries) c = (c, by_entries client entries c)

  by_decisions : (server volume : ℕ) (entries : List ReplicaEntry) → R server volume → AreDecided entries → AreBy C R (entries_at server volume entries)
  by_decisions server volume [] r are = tt
  by_decisions server volume (entry ∷ entries) r are = ((r, are.0), by_decisions server volume entries r are.1)

  by_lost : (going : Waiting) (sent : Sent) → AreBy C R (map (λ l. Lost l.0) going ++ Posted sent ∷ [])
  by_lost [] sent = (tt, tt)
  by_lost (l ∷ going) sent = (tt, by_lost going sent)

  by_posting : (sent : Sent) (waiting : Waiting) → AreBy C R (posting sent waiting)
  by_posting sent waiting = by_lost (put_out sent waiting) sent

  by_going : (s : CellState) (sent : Sent) (o : Option ℕ) → AreBy C R (going_by o sent s).events
  by_going s sent None = by_posting sent s.waiting
  by_going s sent (Some message) = tt

  -- ---- what a line comes to

  module _ (client volume : ℕ) where
    by_deeds : (f : Freezing) → C client → AreBy C R (deeds_at client volume f.deeds)
    by_deeds f c = by_entries client (map (Did volume) f.deeds) c

    by_answered : (f : Freezing) (ruled : Ruling) (o : Result Taking Refused) → C client → AreBy C R (entries_at ruled.replica.server volume ruled.entries) → AreBy C R (answered_to client volume f ruled o).events
    by_answered f ruled (Err why) c r = by_both (deeds_at client volume f.deeds) (entries_at ruled.replica.server volume ruled.entries) (by_deeds f c) r
    by_answered f ruled (Ok took) c r =
        by_both (deeds_at client volume f.deeds) (entries_at ruled.replica.server volume ruled.entries ++ deeds_at client volume took.deeds) (by_deeds f c)
        (by_both (entries_at ruled.replica.server volume ruled.entries) (deeds_at client volume took.deeds) r (by_entries client (map (Did volume) took.deeds) c))

    by_ruled : (f : Freezing) (r : ReplicaState) (next full : Bool) → C client → R r.server volume → AreBy C R (ruled_on client volume f r (ruling_of next full client f.number f.span r)).events
    by_ruled f r true true c h = by_deeds f c
    by_ruled f r true false c h = let ruled = decides client f.number f.span r in by_answered f ruled (taking f.number ruled.answer f.volume) c (by_decisions r.server volume ruled.entries h (tt, tt))
    by_ruled f r false full c h =
        let ruled : Ruling = record { answer = told (r.lasts client) f.number; entries = []; replica = r } in by_answered f ruled (taking f.number ruled.answer f.volume) c tt

    by_drained : (v : ClientVolume) (r : ReplicaState) (o : Result Freezing Refused) → C client → R r.server volume → AreBy C R (drained_of client volume v r o).events
    by_drained v r (Err why) c h = tt
    by_drained v r (Ok f) c h = by_ruled f r (is_next (r.lasts client) f.number) (nat_lt 4294967295 f.number) c h

    pub by_drain : (strength : Strength) (now window : ℕ) (v : ClientVolume) (r : ReplicaState) → C client → R r.server volume → AreBy C R (drain strength now window client volume v r).events
    by_drain Strong now window v r c h = by_drained v r (freezing now window r.server v) c h
    by_drain Weak now window v r c h = by_drained v r (freezing now window r.server v) c h
    by_drain Down now window v r c h = tt

    by_sends_of : (s : CellState) (server : ℕ) (o : Result Freezing Refused) → C client → AreBy C R (sends_of s client volume server o).events
    by_sends_of s server (Err why) c = tt
    by_sends_of s server (Ok f) c =
        let sent = ChunkSent client server volume f.number f.span in
        by_both (deeds_at client volume f.deeds) (going_by (number_of sent s.waiting) sent s).events (by_deeds f c) (by_going s sent (number_of sent s.waiting))

    pub by_sends : (s : CellState) (server window : ℕ) (v : ClientVolume) → C client → AreBy C R (sends s client volume server window v).events
    by_sends s server window v c = by_sends_of s server (over (s.links client server) (freezing s.clock window server v)) c

    by_ruled_in : (s : CellState) (server number : ℕ) (o : Result Ruling Refused) → R server volume → IsAlone o → AreBy C R (ruled_in s client server volume number o).events
    by_ruled_in s server number (Err why) h alone = tt
    by_ruled_in s server number (Ok ruled) h alone =
        let sent = AnswerSent server client volume number ruled.answer in
        by_both (entries_at server volume ruled.entries) (posting sent s.waiting) (by_decisions server volume ruled.entries h alone) (by_posting sent s.waiting)

    pub by_ruling : (s : CellState) (server number : ℕ) (span : List Record) (r : ReplicaState) → R server volume → AreBy C R (chunk_comes s client server volume number span r).events
    by_ruling s server number span r h =
        let next = is_next (r.lasts client) number in
        let full = nat_lt 4294967295 number in
        by_ruled_in s server number (ruling_of next full client number span r) h (ruling_alone client number span r next full)

    by_taken_in : (number : ℕ) (answer : Answer) (o : Result Taking Refused) → C client → AreBy C R (taken_in client volume number answer o).events
    by_taken_in number answer (Err why) c = tt
    by_taken_in number answer (Ok took) c = by_entries client (map (Did volume) took.deeds) c

    pub by_taking : (number : ℕ) (answer : Answer) (v : ClientVolume) → C client → AreBy C R (answer_comes client volume number answer v).events
    by_taking number answer v c = by_taken_in number answer (taking number answer v) c
