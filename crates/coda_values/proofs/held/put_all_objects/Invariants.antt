use Rattle.std.proofs.Common.{◌≡◌, ◌++◌, take, None}
use Rattle.std.specs.List.{flat_map}
use Rattle.coda_values.specs.Form.{four}
use Rattle.coda_values.specs.Held.{object_after}
use Rattle.coda_values.proofs.held.put_all_objects.Given as goal

abbrev pub invariant-loop-object : goal.invariant-loop-object
invariant-loop-object l = l.out.items ≡ l.fn.out.items ++ flat_map (λ o. ((object_after four None).piece o).bytes) (take l.object-index l.objects)
