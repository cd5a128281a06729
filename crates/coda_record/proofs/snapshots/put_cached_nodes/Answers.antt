use Rattle.std.proofs.Common.{◌∙◌, append_assoc, length, arith, None}
use Rattle.std.specs.List.{flat_map}
use Rattle.std.proofs.lemmas.Result.{on_ok_weaker}
use Rattle.coda_values.specs.Form.{number_bytes, four}
use Rattle.coda_record.specs.Entries.{cached_nodes, cached_after}
use Rattle.coda_record.proofs.InEntries.{few_cached, each_cached, cached_bytes}
use Rattle.coda_record.proofs.snapshots.put_cached_nodes.Goals as goal

pub overflow_cast-objects : goal.overflow_cast-objects
overflow_cast-objects c = let few = few_cached c.args.objects.now c.requires in omega (arith, few)

pub put_all_cached-requires : goal.put_all_cached-requires
put_all_cached-requires c = each_cached c.args.objects.now c.requires

pub returns : goal.returns
unfolding cached_nodes
returns c = on_ok_weaker c.put_all_cached.result (λ e. e
    ∙ rw (c.in_ok-put_u32.ensures, cached_bytes None c.args.objects.now) (append_assoc c.args.out.now.items (number_bytes four (length c.args.objects.now)) (flat_map (λ o. ((cached_after four None).piece o).bytes) c.args.objects.now))) c.put_all_cached.ensures
