use Rattle.std.proofs.Common.{◌≡◌, length}
use Rattle.coda_cancel.specs.Mentions.{any_mentions}
use Rattle.coda_cancel.proofs.lent.LentRecords.mentions.Given as goal

abbrev pub invariant-loop-record : goal.invariant-loop-record
invariant-loop-record l = any_mentions l.fid l.self ≡ any_mentions l.fid l.fn.self

abbrev pub decreases-loop-record : goal.decreases-loop-record
decreases-loop-record l = length l.self
