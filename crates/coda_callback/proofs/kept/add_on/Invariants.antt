use Rattle.std.proofs.Common.{◌≡◌, ◌++◌, map}
use Rattle.coda_callback.specs.Kept.{watches_on, interest_of}
use Rattle.coda_callback.proofs.kept.add_on.Given as goal

abbrev pub invariant-loop-watch : goal.invariant-loop-watch
invariant-loop-watch l = l.fn.found.items ++ map interest_of (watches_on l.watched l.fn.fid) ≡ l.found.items ++ map interest_of l.watch-iterator
