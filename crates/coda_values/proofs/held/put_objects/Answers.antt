use Rattle.std.proofs.Common.{◌∙◌, append_assoc, length, arith, None}
use Rattle.std.specs.List.{flat_map}
use Rattle.std.proofs.lemmas.Result.{on_ok_weaker}
use Rattle.coda_values.specs.Form.{number_bytes, four}
use Rattle.coda_values.specs.Held.{objects, object_after}
use Rattle.coda_values.proofs.Objects.{few_objects, objects_bytes, each_held}
use Rattle.coda_values.proofs.held.put_objects.Goals as goal

pub overflow_cast-objects : goal.overflow_cast-objects
overflow_cast-objects c = let few = few_objects c.args.objects.now c.requires in omega (arith, few)

pub put_all_objects-requires : goal.put_all_objects-requires
put_all_objects-requires c = each_held c.args.objects.now c.requires

pub returns : goal.returns
unfolding objects
returns c = on_ok_weaker c.put_all_objects.result (λ e. e
    ∙ rw (c.in_ok-put_u32.ensures, objects_bytes None c.args.objects.now) (append_assoc c.args.out.now.items (number_bytes four (length c.args.objects.now)) (flat_map (λ o. ((object_after four None).piece o).bytes) c.args.objects.now))) c.put_all_objects.ensures
