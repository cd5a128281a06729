use Rattle.std.proofs.Common.{◌≡◌, ◌-◌, Some, None}
use Rattle.coda_values.specs.Form.{gives, four}
use Rattle.coda_values.specs.Parts.{items, each}
use Rattle.coda_values.specs.Reading.{read}
use Rattle.coda_record.specs.Table.{last_above}
use Rattle.coda_values.proofs.Lists.{left_to_read}
use Rattle.coda_record.proofs.decisions.lasts_of.Given as goal

abbrev pub invariant-loop : goal.invariant-loop
invariant-loop l = left_to_read last_above (λ l. l.client) l.before l.lasts.items (l.count - l.counter) l.cursor ≡ read (items last_above (λ l. l.client) 0 l.count (λ xs. gives xs)) l.fn.cursor
