use Rattle.std.proofs.Common.{◌∙◌, append_assoc, length, arith, None}
use Rattle.std.specs.List.{flat_map}
use Rattle.std.proofs.lemmas.Result.{on_ok_weaker}
use Rattle.coda_values.specs.Form.{number_bytes, four}
use Rattle.coda_record.specs.Entries.{segment}
use Rattle.coda_values.proofs.ListOf.{few_items, each_spelled, items_bytes}
use Rattle.coda_record.proofs.snapshots.put_segments.Goals as goal

pub overflow_cast-segments : goal.overflow_cast-segments
overflow_cast-segments c = let few = few_items (segment four) c.args.segments.now c.requires in omega (arith, few)

pub put_all_segments-requires : goal.put_all_segments-requires
put_all_segments-requires c = each_spelled (segment four) c.args.segments.now c.requires

pub returns : goal.returns
returns c = on_ok_weaker c.put_all_segments.result (λ e. e
    ∙ rw (c.in_ok-put_u32.ensures, items_bytes (segment four) c.args.segments.now) (append_assoc c.args.out.now.items (number_bytes four (length c.args.segments.now)) (flat_map (λ s. ((segment four).piece s).bytes) c.args.segments.now))) c.put_all_segments.ensures
