use Rattle.std.proofs.Common.{◌≡◌, take}
use Rattle.coda_fid.specs.declared.fid.Fid.{Fid}
use Rattle.coda_resolve.specs.Counted.{has_hashed}
use Rattle.coda_resolve.specs.Changes.{is_among}
use Rattle.coda_resolve.proofs.part.hashed.Given as goal

abbrev pub invariant-loop-fid : goal.invariant-loop-fid
invariant-loop-fid l = (f : Fid) → has_hashed l.set f ≡ is_among (take l.fid-index l.fids) f
