use Rattle.std.proofs.Common.{◌≡◌, ◌+◌, length}
use Rattle.coda_cancel.specs.Passing.{goes, undropped}
use Rattle.coda_cancel.specs.Weights.{total_weight}
use Rattle.coda_cancel.proofs.scanning.staying_among.Given as goal

abbrev pub invariant-loop-record : goal.invariant-loop-record
invariant-loop-record l = record {
  count : l.count + length (undropped (goes l.cancelled l.op) l.records) ≡ length (undropped (goes l.cancelled l.op) l.shelf.records) + length l.records;
  weight : l.weight + total_weight (undropped (goes l.cancelled l.op) l.records) ≡ total_weight (undropped (goes l.cancelled l.op) l.shelf.records) + total_weight l.records;
}

abbrev pub decreases-loop-record : goal.decreases-loop-record
decreases-loop-record l = length l.records
