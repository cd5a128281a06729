use Rattle.std.proofs.Common.{take}
use Rattle.coda_callback.specs.Kept.{is_watched, Loses}
use Rattle.coda_callback.proofs.kept.forget_watches.Given as goal

abbrev pub invariant-loop-interest : goal.invariant-loop-interest
invariant-loop-interest l = Loses (is_watched l.fn.watched) (is_watched l.watched) (take l.interest-index l.moved)
