use Rattle.std.proofs.Common.{◌≡◌, ◌-◌, Some, None}
use Rattle.std.specs.FinMap as map
use Rattle.coda_values.specs.Form.{gives}
use Rattle.coda_values.specs.Parts.{items}
use Rattle.coda_values.specs.Reading.{read}
use Rattle.coda_values.specs.Nodes.{binding_after, last_name}
use Rattle.coda_values.proofs.Lists.{left_to_read}
use Rattle.coda_values.proofs.nodes.bindings_of.Given as goal

abbrev pub invariant-loop : goal.invariant-loop
invariant-loop l = left_to_read binding_after (λ b. Some b.0) (last_name (map.entries l.bindings)) (map.entries l.bindings) (l.count - l.counter) l.cursor ≡ read (items binding_after (λ b. Some b.0) None l.count (λ bs. gives bs)) l.fn.cursor
