use Rattle.std.proofs.Common.{◌≡◌, take}
use Rattle.std.specs.BTreeMap as tree
use Rattle.coda_fid.specs.declared.fid.Fid.{Fid}
use Rattle.coda_fid.specs.Fid.{fid_cmp}
use Rattle.coda_walk.specs.Planning.{item_at}
use Rattle.coda_walk.proofs.index.by_fid.Given as goal

abbrev pub invariant-loop-item : goal.invariant-loop-item
invariant-loop-item l = (f : Fid) → tree.get fid_cmp l.index f ≡ item_at (take l.item-index l.items) f
