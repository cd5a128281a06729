use Rattle.std.proofs.Common.{ℕ, Option, None, cond, take, ◌&&◌}
use Rattle.coda_fid.specs.declared.fid.Fid.{Fid}
use Rattle.coda_walk.specs.Going.{is_listed}
use Rattle.coda_cache.specs.Indexed.{AreCovered, is_from}
use Rattle.coda_cache.proofs.sources.Sources.leave.Given as goal

abbrev pub invariant-loop-fid : goal.invariant-loop-fid
invariant-loop-fid l = (source : Fid → Option ℕ) → AreCovered l.fn.self source → AreCovered l.self (λ f. cond (is_listed (take l.fid-index l.fids) f && is_from l.server (source f)) None (source f))
