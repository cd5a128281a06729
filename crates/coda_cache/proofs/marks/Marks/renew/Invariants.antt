use Rattle.std.proofs.Common.{Bool, cond, take}
use Rattle.coda_fid.specs.declared.fid.Fid.{Fid}
use Rattle.coda_walk.specs.Going.{is_listed}
use Rattle.coda_cache.specs.State.{is_dirty}
use Rattle.coda_cache.specs.Indexed.{AreMarked}
use Rattle.coda_cache.proofs.marks.Marks.renew.Given as goal

abbrev pub invariant-loop-fid : goal.invariant-loop-fid
invariant-loop-fid l = (passes : Fid → Bool) → AreMarked l.fn.self passes → AreMarked l.self (λ f. cond (is_listed (take l.fid-index l.fids) f) (is_dirty l.contents f) (passes f))
