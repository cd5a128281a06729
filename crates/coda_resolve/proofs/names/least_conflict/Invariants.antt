use Rattle.std.proofs.Common.{◌≡◌, take, map, None, option_copied}
use Rattle.std.specs.List.{flat_map, fold}
use Rattle.coda_fid.specs.Name.{name_cmp}
use Rattle.coda_resolve.specs.Causes.{least_with, conflicts_of}
use Rattle.coda_resolve.specs.Lent.{lent}
use Rattle.coda_resolve.proofs.names.least_conflict.Given as goal

abbrev pub invariant-loop-update : goal.invariant-loop-update
invariant-loop-update l = option_copied l.least ≡ fold (least_with name_cmp) None (flat_map (conflicts_of (map option_copied l.copies)) (lent (take l.update-index l.updates)))
