use Rattle.std.proofs.Common.{◌≡◌, ◌++◌, take}
use Rattle.std.specs.List.{flat_map}
use Rattle.coda_values.specs.Table.{fid}
use Rattle.coda_values.proofs.held.put_all_fids.Given as goal

abbrev pub invariant-loop-fid : goal.invariant-loop-fid
invariant-loop-fid l = l.out.items ≡ l.fn.out.items ++ flat_map (λ f. (fid.piece f).bytes) (take l.fid-index l.fids)
