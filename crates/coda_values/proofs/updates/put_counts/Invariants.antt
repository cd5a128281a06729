use Rattle.std.proofs.Common.{◌≡◌, ◌++◌, take}
use Rattle.std.specs.List.{flat_map}
use Rattle.coda_values.specs.Table.{count}
use Rattle.coda_values.proofs.updates.put_counts.Given as goal

abbrev pub invariant-loop-count : goal.invariant-loop-count
invariant-loop-count l = l.out.items ≡ l.fn.out.items ++ flat_map (λ c. (count.piece c).bytes) (take l.count-index l.counts)
