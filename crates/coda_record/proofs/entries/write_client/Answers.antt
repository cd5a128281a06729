use Rattle.std.proofs.Common.{◌∙◌, refl, arith}
use Rattle.coda_record.specs.Entries.{client_payload, client_entry}
use Rattle.coda_record.specs.Form.{four}
use Rattle.coda_values.proofs.ListOf.{few_items, each_spelled, items_bytes}
use Rattle.coda_record.proofs.entries.write_client.Goals as goal

pub overflow_cast-entries : goal.overflow_cast-entries
unfolding client_payload
overflow_cast-entries c = let few = few_items (client_entry four) c.args.entries.now c.requires in omega (arith, few)

pub put_client_entries-requires : goal.put_client_entries-requires
unfolding client_payload
put_client_entries-requires c = each_spelled (client_entry four) c.args.entries.now c.requires

pub returns : goal.returns
unfolding client_payload
returns c = (c.from_vec.ensures ∙ (c.in_ok-put_client_entries.ensures ∙ rw (c.in_ok-put_u32.ensures, c.new-out.ensures.items, items_bytes (client_entry four) c.args.entries.now) refl), c.requires)
