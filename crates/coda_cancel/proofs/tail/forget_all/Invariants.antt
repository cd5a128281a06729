use Rattle.std.proofs.Common.{take}
use Rattle.coda_cancel.specs.Mentions.{has, is_mentioned, Loses}
use Rattle.coda_cancel.proofs.tail.forget_all.Given as goal

abbrev pub invariant-loop-record : goal.invariant-loop-record
invariant-loop-record l = Loses (has l.fn.index) (has l.index) (is_mentioned (take l.record-index l.records))
