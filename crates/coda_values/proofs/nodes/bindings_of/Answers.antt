use Rattle.std.proofs.Common.{ℕ, List, Some, None, ap, ◌∙◌}
use Rattle.std.specs.FinMap as map
use Rattle.coda_fid.specs.declared.fid.Fid.{Fid}
use Rattle.coda_values.specs.Form.{gives}
use Rattle.coda_values.specs.Parts.{items}
use Rattle.coda_values.specs.Reading.{read}
use Rattle.coda_values.specs.Nodes.{binding_after, last_name}
use Rattle.coda_values.proofs.Lists.{goes_on}
use Rattle.coda_values.proofs.LastName.{first_turn, free_last, bound_last, last_behind}
use Rattle.coda_values.proofs.nodes.bindings_of.Goals as goal

pub loop-init : goal.loop-init
loop-init c = first_turn c.new-bindings.result c.args.count c.args.cursor.now c.new-bindings.ensures

pub insert-requires : goal.insert-requires
insert-requires c = free_last c.loop.bindings c.in_ok-name.name c.in_ok-name.ensures.after

pub loop-preserved : goal.loop-preserved
loop-preserved c =
    let b : List ℕ × Fid = (c.in_ok-name.name, c.in_ok-name.fid) in
    let bs = map.entries c.loop.bindings in
    let bound = ap map.entries c.in_ok-insert.ensures.ok ∙ bound_last c.loop.bindings b.0 b.1 c.in_ok-name.ensures.after in
    rw (bound, last_behind bs b) (goes_on binding_after (λ b. Some b.0) (last_name bs) bs c.args.count c.loop.counter c.loop.cursor b c.binding_after.new.cursor (read (items binding_after (λ b. Some b.0) None c.args.count (λ bs. gives bs)) c.args.cursor.now) c.loop-test.true c.in_ok-name.ensures.gives c.loop.invariant)
