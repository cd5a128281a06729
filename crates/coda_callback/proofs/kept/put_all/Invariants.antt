use Rattle.std.proofs.Common.{take}
use Rattle.coda_callback.specs.Kept.{has, Gains}
use Rattle.coda_callback.proofs.kept.put_all.Given as goal

abbrev pub invariant-loop-interest : goal.invariant-loop-interest
invariant-loop-interest l = Gains (has l.fn.kept) (has l.kept) (take l.interest-index l.moved)
