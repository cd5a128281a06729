-- What a replica answers to a chunk.
use Rattle.std.specs.Prelude.{◌≡◌, ◌<◌, ◌≤◌, ℕ, ◌+◌, Bool, true, ◌==◌, ◌&&◌, nat_lt, if◌then◌else◌, List, Option, Some, None}
use Rattle.std.specs.Option.{IsSome}
use Rattle.coda_fid.specs.declared.op.Record.{Record}
use Rattle.coda_tree.specs.declared.node.Node.{Node}
use Rattle.coda_certify.specs.declared.verdict.Verdict.{Verdict}
use Rattle.coda_certify.specs.declared.verdict.Verdict.TheVariants as verdict
use Rattle.coda_plain.specs.Decisions.{Last}
use Rattle.coda_record.specs.declared.answer.Answer.{Answer}
use Rattle.coda_record.specs.declared.answer.Answer.TheVariants.{Applied, Conflict, Behind, Old}
use Rattle.coda_replica.specs.State.{ReplicaState, last_for, decided}
use Rattle.coda_replica.specs.declared.fault.ReplicaFault.{ReplicaFault}
use Rattle.coda_replica.specs.declared.fault.ReplicaFault.TheVariants.{Down, NotFound, JournalFull, DiskFault, Memory}

-- a verdict as an answer
abbrev pub answer_of : Verdict → Answer
answer_of verdict.Applied = Applied
answer_of (verdict.Conflict number why) = Conflict number why

-- whether a chunk of this number is the next one
abbrev pub is_next : Last → ℕ → Bool
is_next last number = number == last.number + 1

-- The answer to a chunk that isn't the next one: the kept verdict to the last one that was decided, and else the last one's number. No
-- chunk has number 0.
abbrev pub told : Last → ℕ → Answer
told last number =
    if nat_lt last.number number then Behind last.number
    else (if (number == last.number) && nat_lt 0 number then answer_of last.verdict else Old last.number)

-- the answer to a chunk that a decision now would give this verdict
abbrev pub answer_to : Last → ℕ → Verdict → Answer
answer_to last number verdict = if is_next last number then answer_of verdict else told last number

-- the replica once the chunk came: decided where it is the next one, and else as it was
abbrev pub after_chunk : ReplicaState → ℕ → ℕ → List Record → ReplicaState
after_chunk r client number recs = if is_next (last_for r client) number then decided r client number recs else r

-- why a chunk isn't decided: only the next one may be refused, since no client has so many chunks, or else for want of memory
abbrev pub IsUndecided : Last → ℕ → ReplicaFault → Type 0
IsUndecided last number Memory = (is_next last number ≡ true) × (number ≤ 4294967295)
IsUndecided last number JournalFull = (is_next last number ≡ true) × (4294967295 < number)
IsUndecided last number Down = ⊥
IsUndecided last number NotFound = ⊥
IsUndecided last number DiskFault = ⊥

-- why a node isn't handed over: there is none, or else memory is wanted
abbrev pub IsUnfetched : Option Node → ReplicaFault → Type 0
IsUnfetched held Memory = IsSome held
IsUnfetched held NotFound = held ≡ None
IsUnfetched held Down = ⊥
IsUnfetched held JournalFull = ⊥
IsUnfetched held DiskFault = ⊥
