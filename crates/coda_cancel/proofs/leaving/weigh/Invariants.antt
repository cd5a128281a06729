use Rattle.std.proofs.Common.{◌≡◌, take}
use Rattle.coda_cancel.specs.Weights.{total_weight}
use Rattle.coda_cancel.proofs.leaving.weigh.Given as goal

abbrev pub invariant-loop-record : goal.invariant-loop-record
invariant-loop-record l = l.total ≡ total_weight (take l.record-index l.records)
