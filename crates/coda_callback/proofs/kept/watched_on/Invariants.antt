use Rattle.std.proofs.Common.{take}
use Rattle.coda_callback.specs.Kept.{AreThoseOn, is_watched}
use Rattle.coda_callback.proofs.kept.watched_on.Given as goal

abbrev pub invariant-loop-fid : goal.invariant-loop-fid
invariant-loop-fid l = AreThoseOn (is_watched l.fn.watched) (take l.fid-index l.fids) l.found.items
