use Rattle.std.proofs.Common.{◌≡◌, ◌++◌, take, None}
use Rattle.std.specs.FinMap as map
use Rattle.std.specs.List.{flat_map}
use Rattle.coda_values.specs.Nodes.{binding_after}
use Rattle.coda_values.proofs.nodes.put_all_bindings.Given as goal

abbrev pub invariant-loop-index : goal.invariant-loop-index
invariant-loop-index l = l.out.items ≡ l.fn.out.items ++ flat_map (λ b. ((binding_after None).piece b).bytes) (take l.index (map.entries l.entries))
