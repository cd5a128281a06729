use Rattle.std.specs.Map.{keys_of}
use Rattle.std.specs.List.{IsDistinct}
use Rattle.coda_fid.specs.Fid.{same_fid}
use Rattle.coda_tree.proofs.FirstParent.{IsPassed, IsBinder}
use Rattle.coda_tree.proofs.nodes.first_binder.Given as goal

abbrev pub invariant-loop-dir : goal.invariant-loop-dir
invariant-loop-dir l = record {
  distinct : IsDistinct same_fid (keys_of l.dir-iterator);
  passed : IsPassed l.nodes.entries l.dir-iterator l.fid l.first;
  binder : IsBinder l.nodes.entries l.fid l.first;
}
