use Rattle.std.proofs.Common.{◌≡◌, ◌||◌, ◌&&◌, not, take}
use Rattle.coda_fid.specs.declared.fid.Fid.{Fid}
use Rattle.coda_resolve.specs.Changes.{is_among}
use Rattle.coda_resolve.specs.Counted.{has_fid}
use Rattle.coda_resolve.proofs.doubles.with_others.Given as goal

abbrev pub invariant-loop-fid : goal.invariant-loop-fid
invariant-loop-fid l = (f : Fid) → has_fid l.elsewhere f ≡ (has_fid l.fn.elsewhere f || (is_among (take l.fid-index l.fids) f && not (has_fid l.own f)))
