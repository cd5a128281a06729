use Rattle.std.proofs.Common.{◌≡◌, false, take}
use Rattle.std.specs.FinMap as finmap
use Rattle.std.specs.List.{list_any}
use Rattle.coda_resolve.specs.Counted.{has_fid}
use Rattle.coda_lineage.specs.Repairs.{is_taken}
use Rattle.coda_repair.proofs.spare.binds_one.Given as goal

abbrev pub invariant-loop-index : goal.invariant-loop-index
invariant-loop-index l = list_any (λ k. is_taken (has_fid l.subtree) l.top (finmap.get l.entries k)) (take l.index (finmap.keys l.entries)) ≡ false
