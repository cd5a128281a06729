use Rattle.std.proofs.Common.{None, ◌∙◌, append_assoc, length, arith}
use Rattle.std.specs.FinMap as map
use Rattle.std.specs.List.{flat_map}
use Rattle.std.proofs.lemmas.Result.{on_ok_weaker}
use Rattle.coda_values.specs.Form.{number_bytes, four}
use Rattle.coda_values.specs.Nodes.{bindings, pairs, binding_after}
use Rattle.coda_values.proofs.LastName.{few_bindings, pairs_bytes}
use Rattle.coda_values.proofs.nodes.put_bindings.Goals as goal

pub overflow_cast-len : goal.overflow_cast-len
overflow_cast-len c = let few = few_bindings c.args.entries.now c.requires in rw (c.len.ensures ∙ map.len-entries c.args.entries.now) (omega (arith, few))

pub returns : goal.returns
unfolding bindings pairs
returns c = on_ok_weaker c.put_all_bindings.result (λ e. e
    ∙ rw (c.in_ok-put_u32.ensures, c.len.ensures ∙ map.len-entries c.args.entries.now, pairs_bytes (map.entries c.args.entries.now)) (append_assoc c.args.out.now.items (number_bytes four (length (map.entries c.args.entries.now))) (flat_map (λ b. ((binding_after None).piece b).bytes) (map.entries c.args.entries.now)))) c.put_all_bindings.ensures
