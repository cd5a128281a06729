use Rattle.std.proofs.Common.{◌≡◌, cond, None, take}
use Rattle.std.specs.BTreeMap.{get}
use Rattle.coda_fid.specs.Fid.{fid_cmp}
use Rattle.coda_fid.specs.declared.fid.Fid.{Fid}
use Rattle.coda_resolve.specs.Changes.{is_among}
use Rattle.coda_resolve.proofs.part.forget.Given as goal

abbrev pub invariant-loop-fid : goal.invariant-loop-fid
invariant-loop-fid l = (f : Fid) → get fid_cmp l.held f ≡ cond (is_among (take l.fid-index l.objects) f) None (get fid_cmp l.fn.held f)
