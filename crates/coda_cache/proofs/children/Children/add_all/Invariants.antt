use Rattle.std.proofs.Common.{Option, cond, take}
use Rattle.coda_fid.specs.declared.fid.Fid.{Fid}
use Rattle.coda_walk.specs.Going.{is_listed}
use Rattle.coda_cache.specs.State.{parent_of}
use Rattle.coda_cache.specs.Indexed.{AreUnder}
use Rattle.coda_cache.proofs.children.Children.add_all.Given as goal

abbrev pub invariant-loop-fid : goal.invariant-loop-fid
invariant-loop-fid l = (parent : Fid → Option Fid) → AreUnder l.fn.self parent → AreUnder l.self (λ f. cond (is_listed (take l.fid-index l.fids) f) (parent_of l.contents f) (parent f))
