-- What a chunk makes of a replica's history.
use Rattle.std.specs.Prelude.{◌≡◌, ℕ, ◌+◌, if◌then◌else◌, List, [], ◌∷◌, ◌++◌}
use Rattle.coda_fid.specs.declared.op.Record.{Record}
use Rattle.coda_certify.specs.Verdicts.{verdict_of}
use Rattle.coda_plain.specs.Decisions.{ReplicaEntry, Decided, decision, nodes_of, last_of}
use Rattle.coda_record.specs.declared.answer.Answer.{Answer}
use Rattle.coda_replica.specs.State.{ReplicaState, last_for}
use Rattle.coda_replica.specs.Answers.{is_next, answer_to}

-- a chunk: its client, its number, and the operations that it is made of
pub record Chunk : Type 0 where
  pub client : ℕ
  pub number : ℕ
  pub span : List Record

-- the replica is what its history leaves
pub record IsReplicaOf (history : List ReplicaEntry) (r : ReplicaState) : Type 0 where
  pub nodes : r.tree.nodes ≡ nodes_of r.tree.number history
  pub lasts : (client : ℕ) → last_for r client ≡ last_of r.tree.number history client

-- whether the chunk is the next one of its client
abbrev pub IsNext : ℕ → List ReplicaEntry → Chunk → Type 0
IsNext volume past chunk = chunk.number ≡ (last_of volume past chunk.client).number + 1

-- the history once the chunk came: with its decision where it is the next one, and else as it was
abbrev pub history_after : ℕ → List ReplicaEntry → Chunk → List ReplicaEntry
history_after volume past chunk = if is_next (last_of volume past chunk.client) chunk.number then past ++ Decided chunk.client chunk.number chunk.span ∷ [] else past

-- the answer to the chunk, where this is the history
abbrev pub answer_by : ℕ → List ReplicaEntry → Chunk → Answer
answer_by volume past chunk = answer_to (last_of volume past chunk.client) chunk.number (verdict_of (decision (nodes_of volume past) chunk.client chunk.span))

-- a chunk came: the answer is that of the history, and the replica what the history then leaves
pub record Comes (past : List ReplicaEntry) (chunk : Chunk) (old new : ReplicaState) (answer : Answer) : Type 0 where
  pub answers : answer ≡ answer_by old.tree.number past chunk
  pub leaves : IsReplicaOf (history_after old.tree.number past chunk) new

-- the history once chunks came, one after the other
abbrev pub history_of : ℕ → List ReplicaEntry → List Chunk → List ReplicaEntry
history_of volume past [] = past
history_of volume past (chunk ∷ chunks) = history_of volume (history_after volume past chunk) chunks
