-- What a decision leaves of what can be spelled.
use Rattle.std.proofs.Common.{ℕ, ◌≤◌, List, Ok, Err}
use Rattle.std.specs.FinMap as map
use Rattle.coda_fid.specs.declared.op.Record.{Record}
use Rattle.coda_tree.specs.Volume.{Nodes}
use Rattle.coda_certify.specs.Replay.{Replayed, replay}
use Rattle.coda_certify.specs.Verdicts.{verdict_of, nodes_left}
use Rattle.coda_cancel.specs.Cancel.{fold}
use Rattle.coda_record.specs.Parts.{u8}
use Rattle.coda_record.specs.Spelling.{HasSpelling}
use Rattle.coda_record.specs.Table as table
use Rattle.coda_spelling.specs.Spelled.{AreAllSpelled, AreSpelled}
use Rattle.coda_spelling.proofs.SpelledNodes.{left_spelled}
use Rattle.coda_spelling.proofs.SpelledVerdicts.{room_left, verdict_spelled as replayed_spelled}
use Rattle.coda_plain.specs.Decisions.{or_replayed, decision}
use Rattle.coda_cell.proofs.SpelledFolds.{fold_spelled}

-- a decision is the replay of the operations, or that of what is sent of them
either : (a b : Replayed) (P : Replayed → Type 0) → P a → P b → P (or_replayed a b)
either (Ok nodes) b P whole sent = whole
either (Err why) b P whole sent = sent

module _ (m : Nodes) (client : ℕ) (span : List Record) where
  pub room_decided : map.len m ≤ 100000 → map.len (nodes_left m (decision m client span)) ≤ 100000
  room_decided room = either (replay m client span) (replay m client (fold span)) (λ r. map.len (nodes_left m r) ≤ 100000) (room_left m client span room) (room_left m client (fold span) room)

  module _ (are : AreSpelled m) (number : HasSpelling u8 client) (spelled : AreAllSpelled span) where
    pub after_decision : AreSpelled (nodes_left m (decision m client span))
    after_decision = either (replay m client span) (replay m client (fold span)) (λ r. AreSpelled (nodes_left m r)) (left_spelled m client span are number spelled) (left_spelled m client (fold span) are number (fold_spelled span spelled))

    pub verdict_spelled : map.len m ≤ 100000 → HasSpelling table.verdict (verdict_of (decision m client span))
    verdict_spelled room = either (replay m client span) (replay m client (fold span)) (λ r. HasSpelling table.verdict (verdict_of r)) (replayed_spelled m client span are room number spelled)
        (replayed_spelled m client (fold span) are room number (fold_spelled span spelled))
