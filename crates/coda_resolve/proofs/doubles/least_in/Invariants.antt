use Rattle.std.proofs.Common.{◌≡◌, None, take}
use Rattle.std.specs.List.{filter, fold}
use Rattle.coda_fid.specs.Fid.{fid_cmp}
use Rattle.coda_resolve.specs.Causes.{least_with}
use Rattle.coda_resolve.specs.Counted.{is_in_one}
use Rattle.coda_resolve.proofs.doubles.least_in.Given as goal

abbrev pub invariant-loop-fid : goal.invariant-loop-fid
invariant-loop-fid l = l.least ≡ fold (least_with fid_cmp) None (filter (is_in_one l.twice l.lost l.elsewhere) (take l.fid-index l.fids))
