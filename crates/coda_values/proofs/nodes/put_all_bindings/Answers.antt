use Rattle.std.proofs.Common.{None, ap, sym, ◌∙◌, ◌++◌, arith}
use Rattle.std.specs.FinMap as map
use Rattle.std.specs.List.{flat_map}
use Rattle.coda_values.specs.Nodes.{binding_after}
use Rattle.coda_values.proofs.LastName.{written_on, all_taken}
use Rattle.coda_values.proofs.nodes.put_all_bindings.Goals as goal

pub loop-index-preserved : goal.loop-index-preserved
loop-index-preserved c = written_on (λ b. ((binding_after None).piece b).bytes) (map.entries c.args.entries.now) c.loop-index.index (c.in-Some.name.now, c.in-Some.fid) c.args.out.now.items c.loop-index.out.items c.put_binding.new.out.items c.in-Some.ensures.pair c.loop-index.invariant c.in_ok-put_binding-in-Some.ensures

pub returns : goal.returns
returns c = c.loop-index.invariant ∙ ap (λ bs. c.args.out.now.items ++ flat_map (λ b. ((binding_after None).piece b).bytes) bs) (all_taken (map.entries c.args.entries.now) c.loop-index.index (omega (arith, c.loop-index-test.false, c.loop-index.auto.index-end, c.len-index-end.ensures ∙ map.len-entries c.args.entries.now)))
