use Rattle.std.proofs.Common.{Option, None, cond, take}
use Rattle.coda_fid.specs.declared.fid.Fid.{Fid}
use Rattle.coda_walk.specs.Going.{is_listed}
use Rattle.coda_cache.specs.Indexed.{AreUnder}
use Rattle.coda_cache.proofs.children.Children.take_all.Given as goal

abbrev pub invariant-loop-fid : goal.invariant-loop-fid
invariant-loop-fid l = (parent : Fid → Option Fid) → AreUnder l.fn.self parent → AreUnder l.self (λ f. cond (is_listed (take l.fid-index l.fids) f) None (parent f))
