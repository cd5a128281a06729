use Rattle.std.proofs.Common.{◌≡◌, take}
use Rattle.coda_cancel.proofs.lent.LentRecords.to_vec.Given as goal

abbrev pub invariant-loop-record : goal.invariant-loop-record
invariant-loop-record l = l.copies.items ≡ take l.record-index l.record-items
