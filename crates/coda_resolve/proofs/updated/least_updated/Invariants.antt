use Rattle.std.proofs.Common.{◌≡◌, None, take, map, option_copied}
use Rattle.std.specs.List.{flat_map, fold}
use Rattle.coda_fid.specs.Fid.{fid_cmp}
use Rattle.coda_reslog.specs.declared.entry.ResEntry.{ResEntry}
use Rattle.coda_resolve.specs.Causes.{least_with, updated_of}
use Rattle.coda_resolve.specs.Lent.{lent}
use Rattle.coda_resolve.specs.Resolution.{copies_at}
use Rattle.coda_resolve.specs.Views.{replicas_of}
use Rattle.coda_resolve.proofs.updated.least_updated.Given as goal

abbrev pub invariant-loop-update : goal.invariant-loop-update
invariant-loop-update l = l.least ≡ fold (least_with fid_cmp) None (flat_map (λ (u : ResEntry). updated_of (map option_copied l.copies) (copies_at (replicas_of l.views)) u u.lost) (lent (take l.update-index l.updates)))
