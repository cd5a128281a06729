use Rattle.std.proofs.Common.{◌∙◌, append_assoc, length, arith, None}
use Rattle.std.specs.List.{flat_map}
use Rattle.std.proofs.lemmas.Result.{on_ok_weaker}
use Rattle.coda_values.specs.Form.{number_bytes, four}
use Rattle.coda_record.specs.Hoard.{hoard_entry}
use Rattle.coda_values.proofs.ListOf.{few_items, each_spelled, items_bytes}
use Rattle.coda_record.proofs.hoard.put_hoard_entries.Goals as goal

pub overflow_cast-entries : goal.overflow_cast-entries
overflow_cast-entries c = let few = few_items (hoard_entry four) c.args.entries.now c.requires in omega (arith, few)

pub returns : goal.returns
returns c = on_ok_weaker c.put_all_hoard_entries.result (λ e. e
    ∙ rw (c.in_ok-put_u32.ensures, items_bytes (hoard_entry four) c.args.entries.now) (append_assoc c.args.out.now.items (number_bytes four (length c.args.entries.now)) (flat_map (λ e. ((hoard_entry four).piece e).bytes) c.args.entries.now))) c.put_all_hoard_entries.ensures
