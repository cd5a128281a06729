use Rattle.std.proofs.Common.{◌≡◌, ◌++◌, take}
use Rattle.std.specs.List.{flat_map}
use Rattle.coda_values.specs.Held.{update}
use Rattle.coda_values.proofs.updates.put_all_updates.Given as goal

abbrev pub invariant-loop-index : goal.invariant-loop-index
invariant-loop-index l = l.out.items ≡ l.fn.out.items ++ flat_map (λ u. (update.piece u).bytes) (take l.index l.log)
