-- What holds of chunks that come in any order, any number of times.
use Rattle.std.specs.Prelude.{◌≡◌, ◌≢◌, ◌<◌, ℕ, ◌+◌, ◌⊎◌, List, [], ◌∷◌, ◌++◌}
use Rattle.coda_certify.specs.declared.verdict.Verdict.{Verdict}
use Rattle.coda_plain.specs.Decisions.{ReplicaEntry, Last, Decision, decisions_of, AreDecisions}
use Rattle.coda_plain.specs.Histories.{In}
use Rattle.coda_record.specs.declared.answer.Answer.TheVariants.{Behind, Old}
use Rattle.coda_replica.specs.Answers.{answer_of, answer_to}
use Rattle.coda_replica.specs.Comes.{Chunk, IsNext, history_after, history_of, answer_by}

-- Whatever chunks come, in whatever order and however often: of one client no two decisions are of one chunk. And each may follow
-- those before it: a client's chunks are decided in order, and none is left out.
pub record ChunksAreDecidedOnce : Type 0 where
  pub once : (volume : ℕ) (chunks : List Chunk) (front middle back : List Decision) (first second : Decision) → decisions_of volume (history_of volume [] chunks) ≡ front ++ first ∷ (middle ++ second ∷ back)
      → first.client ≡ second.client → first.number ≢ second.number
  pub in_order : (volume : ℕ) (past : List ReplicaEntry) (chunks : List Chunk) → AreDecisions volume past → AreDecisions volume (history_of volume past chunks)

-- A chunk that was decided and comes again is answered as it was, and changes nothing, whatever came between but the next chunk of its
-- client: also where it would be decided otherwise now, and whatever it has in it.
abbrev pub RepeatsAreAnsweredAlike : Type 0
RepeatsAreAnsweredAlike =
    (volume : ℕ) (past : List ReplicaEntry) (chunk again : Chunk) (between : List Chunk) → IsNext volume past chunk → again.client ≡ chunk.client → again.number ≡ chunk.number
    → ((other : Chunk) → In other between → other.client ≡ chunk.client → other.number ≢ chunk.number + 1)
    → (answer_by volume (history_of volume (history_after volume past chunk) between) again ≡ answer_by volume past chunk)
    × (history_after volume (history_of volume (history_after volume past chunk) between) again ≡ history_of volume (history_after volume past chunk) between)

-- What each answer tells a client: that chunks before its own are missing; that a later one was decided, or that its number is none; or
-- the verdict on the next chunk, or on the last one.
pub record AnswersTellTheLast : Type 0 where
  pub missing : (last : Last) (number : ℕ) (verdict : Verdict) → last.number + 1 < number → answer_to last number verdict ≡ Behind last.number
  pub passed : (last : Last) (number : ℕ) (verdict : Verdict) → (number < last.number) ⊎ (number ≡ 0) → answer_to last number verdict ≡ Old last.number
  pub next : (last : Last) (number : ℕ) (verdict : Verdict) → number ≡ last.number + 1 → answer_to last number verdict ≡ answer_of verdict
  pub kept : (last : Last) (number : ℕ) (verdict : Verdict) → number ≡ last.number → 0 < number → answer_to last number verdict ≡ answer_of last.verdict
