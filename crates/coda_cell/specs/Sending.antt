-- How a chunk goes from a client to a replica and its verdict back: what each of the two makes of it, by what it has at that moment.
use Rattle.std.specs.Prelude.{ℕ, ◌+◌, Bool, true, false, ◌==◌, nat_le, nat_lt, if◌then◌else◌, List, [], ◌∷◌, ◌++◌, map, Option, Some, None, Result, Ok, Err}
use Rattle.coda_fid.specs.declared.op.Record.{Record}
use Rattle.coda_certify.specs.declared.verdict.Verdict.{Verdict}
use Rattle.coda_certify.specs.declared.verdict.Verdict.TheVariants as verdict
use Rattle.coda_certify.specs.Verdicts.{verdict_of}
use Rattle.coda_cml.specs.Segments.{segments_of, records_upto}
use Rattle.coda_cml.specs.Chunks.{freeze_refusal}
use Rattle.coda_cml.specs.Fronts.{chunk_end}
use Rattle.coda_cml.specs.Steps.{settle_refusal}
use Rattle.coda_cml.specs.declared.fault.FreezeFault.{FreezeFault}
use Rattle.coda_cml.specs.declared.fault.SettleFault.{SettleFault}
use Rattle.coda_cml.specs.declared.frozen.Frozen.{Frozen}
use Rattle.coda_record.specs.declared.answer.Answer.{Answer}
use Rattle.coda_record.specs.declared.answer.Answer.TheVariants.{Applied, Conflict, Behind, Old}
use Rattle.coda_replica.specs.Answers.{answer_of, is_next, told}
use Rattle.coda_script.specs.declared.line.Strength.{Strength}
use Rattle.coda_script.specs.declared.line.Strength.TheVariants.{Strong, Weak, Down}
use Rattle.coda_script.specs.declared.reply.Answer.TheVariants as reply
use Rattle.coda_script.specs.declared.reply.Answer.{Answer as ReplyAnswer}
use Rattle.coda_script.specs.declared.reply.Reply.TheVariants.{Drained}
use Rattle.coda_plain.specs.Deeds.{Deed, Froze, Settled}
use Rattle.coda_plain.specs.Decisions.{ReplicaEntry, Decided, decision}
use Rattle.coda_plain.specs.Cell.{Did}
use Rattle.coda_plain.specs.Moves.{AtReplica}
use Rattle.coda_cell.specs.Asking.{Said}
use Rattle.coda_cell.specs.State.{ClientVolume, volume_after, ReplicaState, replica_after, Event, Entered, at_client}
use Rattle.coda_cell.specs.Refusing.{refused_as, settle_refused_as}
use Rattle.coda_cell.specs.Refused.{Refused}
use Rattle.coda_cell.specs.Refused as refused

-- ---- a client freezes a chunk

-- a chunk that may go: its number, its operations, what the client did for it, and what it has of the volume then
pub record Freezing : Type 0 where
  pub number : ℕ
  pub span : List Record
  pub deeds : List Deed
  pub volume : ClientVolume

-- a chunk that is frozen now, for a server: as long a front of what is pending as may go, and no more than 64 records of it
abbrev pub frozen_now : ℕ → ℕ → ℕ → ClientVolume → Freezing
frozen_now now window server v = record {
  number = v.chunks + 1;
  span = records_upto (chunk_end now window 64 v.back) v.back;
  deeds = Froze (v.chunks + 1) server (chunk_end now window 64 v.back) ∷ [];
  volume = volume_after v (Froze (v.chunks + 1) server (chunk_end now window 64 v.back));
}

-- a client freezes at most 2^32 - 1 chunks of a volume
abbrev pub frozen_unless : Option FreezeFault → ℕ → ℕ → ℕ → ClientVolume → Result Freezing Refused
frozen_unless (Some why) now window server v = Err (refused_as why)
frozen_unless None now window server v = if nat_le 4294967295 v.chunks then Err refused.JournalFull else Ok (frozen_now now window server v)

-- the chunk that is frozen, for its own server
abbrev pub frozen_for : Frozen → ℕ → ClientVolume → Result Freezing Refused
frozen_for chunk server v = if chunk.home == server then Ok (record { number = chunk.number; span = v.front; deeds = []; volume = v }) else Err (refused.Frozen chunk.number chunk.home)

-- the chunk that is on its way, whatever the window says, and else one that is frozen now
abbrev pub freezing_of : Option Frozen → ℕ → ℕ → ℕ → ClientVolume → Result Freezing Refused
freezing_of (Some chunk) now window server v = frozen_for chunk server v
freezing_of None now window server v = frozen_unless (freeze_refusal None now window (segments_of v.back)) now window server v

-- the chunk that a client sends to a server
abbrev pub freezing : ℕ → ℕ → ℕ → ClientVolume → Result Freezing Refused
freezing now window server v = freezing_of v.frozen now window server v

-- ---- a replica answers a chunk

-- an answer, what the replica did for it, and what it is then
pub record Ruling : Type 0 where
  pub answer : Answer
  pub entries : List ReplicaEntry
  pub replica : ReplicaState

-- it decides the chunk
abbrev pub decides : ℕ → ℕ → List Record → ReplicaState → Ruling
decides client number span r = record { answer = answer_of (verdict_of (decision r.tree.nodes client span)); entries = Decided client number span ∷ []; replica = replica_after r (Decided client number span) }

-- by whether the chunk is the next one of its client, and whether no client has so many
abbrev pub ruling_of : Bool → Bool → ℕ → ℕ → List Record → ReplicaState → Result Ruling Refused
ruling_of true true client number span r = Err refused.JournalFull
ruling_of true false client number span r = Ok (decides client number span r)
ruling_of false full client number span r = Ok (record { answer = told (r.lasts client) number; entries = []; replica = r })

-- a client's chunk came to a replica: the next one is decided, and of any other the replica tells what it keeps
abbrev pub ruling : ℕ → ℕ → List Record → ReplicaState → Result Ruling Refused
ruling client number span r = ruling_of (is_next (r.lasts client) number) (nat_lt 4294967295 number) client number span r

-- ---- a client takes an answer

-- what the client did by the answer, and what it has of the volume then
pub record Taking : Type 0 where
  pub deeds : List Deed
  pub volume : ClientVolume

-- a chunk is settled
abbrev pub settles : ℕ → Verdict → ClientVolume → Taking
settles number verdict v = record { deeds = Settled number verdict ∷ []; volume = volume_after v (Settled number verdict) }

-- a verdict settles the chunk; any other answer leaves it frozen
abbrev pub taken : ℕ → Answer → ClientVolume → Taking
taken number Applied v = settles number verdict.Applied v
taken number (Conflict refused why) v = settles number (verdict.Conflict refused why) v
taken number (Behind last) v = record { deeds = []; volume = v }
taken number (Old last) v = record { deeds = []; volume = v }

abbrev pub taken_unless : Option SettleFault → ℕ → Answer → ClientVolume → Result Taking Refused
taken_unless (Some why) number answer v = Err (settle_refused_as why)
taken_unless None number answer v = Ok (taken number answer v)

-- an answer to a chunk of this number came to its client: it must be the one that is frozen, whatever the answer says
abbrev pub taking : ℕ → Answer → ClientVolume → Result Taking Refused
taking number answer v = taken_unless (settle_refusal v.frozen number) number answer v

-- ---- all three in turn

-- what a client and a replica come to: a reply or a refusal, what happens, and what that leaves the client of the volume, and the
-- replica
pub record Outcome : Type 0 where
  pub said : Said
  pub events : List Event
  pub volume : ClientVolume
  pub replica : ReplicaState

-- a refusal, by which nothing happens
abbrev pub stays : Refused → ClientVolume → ReplicaState → Outcome
stays why v r = record { said = Err why; events = []; volume = v; replica = r }

-- deeds of a client on a volume, as they happen
abbrev pub deeds_at : ℕ → ℕ → List Deed → List Event
deeds_at client volume deeds = map (at_client client) (map (Did volume) deeds)

-- entries of a server's replica of a volume, as they happen
abbrev pub entries_at : ℕ → ℕ → List ReplicaEntry → List Event
entries_at server volume entries = map (λ entry. Entered (AtReplica server volume entry)) entries

-- an answer as it is replied
abbrev pub reply_answer : Answer → ReplyAnswer
reply_answer Applied = reply.Decided verdict.Applied
reply_answer (Conflict number why) = reply.Decided (verdict.Conflict number why)
reply_answer (Behind last) = reply.Behind last
reply_answer (Old last) = reply.Old last

-- the chunk was frozen and ruled on, and the client takes the answer
abbrev pub answered_to : ℕ → ℕ → Freezing → Ruling → Result Taking Refused → Outcome
answered_to client volume f ruling (Err why) = record { said = Err why; events = deeds_at client volume f.deeds ++ entries_at ruling.replica.server volume ruling.entries; volume = f.volume; replica = ruling.replica }
answered_to client volume f ruling (Ok taking) = record {
  said = Ok (Drained f.number (reply_answer ruling.answer));
  events = deeds_at client volume f.deeds ++ (entries_at ruling.replica.server volume ruling.entries ++ deeds_at client volume taking.deeds);
  volume = taking.volume;
  replica = ruling.replica;
}

-- the chunk was frozen, and the replica rules on it
abbrev pub ruled_on : ℕ → ℕ → Freezing → ReplicaState → Result Ruling Refused → Outcome
ruled_on client volume f r (Err why) = record { said = Err why; events = deeds_at client volume f.deeds; volume = f.volume; replica = r }
ruled_on client volume f r (Ok ruling) = answered_to client volume f ruling (taking f.number ruling.answer f.volume)

abbrev pub drained_of : ℕ → ℕ → ClientVolume → ReplicaState → Result Freezing Refused → Outcome
drained_of client volume v r (Err why) = stays why v r
drained_of client volume v r (Ok f) = ruled_on client volume f r (ruling client f.number f.span r)

-- a client of this number freezes what may go of a volume, the replica answers, and the client takes the answer
abbrev pub drained : ℕ → ℕ → ℕ → ℕ → ClientVolume → ReplicaState → Outcome
drained now window client volume v r = drained_of client volume v r (freezing now window r.server v)

-- the same where the link is up
abbrev pub drain : Strength → ℕ → ℕ → ℕ → ℕ → ClientVolume → ReplicaState → Outcome
drain Strong now window client volume v r = drained now window client volume v r
drain Weak now window client volume v r = drained now window client volume v r
drain Down now window client volume v r = stays refused.LinkDown v r
