use Rattle.std.proofs.Common.{◌≡◌}
use Rattle.std.specs.HashMap as hash
use Rattle.std.specs.FinMap as map
use Rattle.std.specs.Map.{keys_of}
use Rattle.std.specs.List.{IsDistinct}
use Rattle.coda_fid.specs.Fid.{same_fid}
use Rattle.coda_fid.specs.declared.fid.Fid.{Fid}
use Rattle.coda_tree.specs.Table.{or_else}
use Rattle.coda_tree.proofs.Keyed.{kept_at}
use Rattle.coda_tree.proofs.nodes.copy_nodes.Given as goal

abbrev pub invariant-loop-fid : goal.invariant-loop-fid
invariant-loop-fid l = record {
  distinct : IsDistinct same_fid (keys_of l.fid-iterator);
  same : (q : Fid) → hash.get same_fid l.nodes q ≡ or_else (kept_at l.fid-iterator q) (map.get l.copy q);
}
