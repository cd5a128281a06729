use Rattle.std.proofs.Common.{◌≡◌, ◌-◌, length}
use Rattle.coda_values.specs.Form.{gives}
use Rattle.coda_values.specs.Parts.{items, each}
use Rattle.coda_values.specs.Reading.{read}
use Rattle.coda_values.specs.Held.{update}
use Rattle.coda_values.proofs.Lists.{left_to_read}
use Rattle.coda_values.proofs.updates.updates_of.Given as goal

abbrev pub invariant-loop : goal.invariant-loop
invariant-loop l = record {
  read_on : left_to_read (each update) (λ u. tt) tt l.log (l.count - l.counter) l.cursor ≡ read (items (each update) (λ u. tt) tt l.count (λ us. gives us)) l.fn.cursor;
  so_many : length l.log ≡ l.counter;
}
