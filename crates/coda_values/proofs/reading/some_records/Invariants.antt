use Rattle.std.proofs.Common.{◌≡◌, ◌-◌}
use Rattle.coda_values.specs.Form.{four, gives}
use Rattle.coda_values.specs.Parts.{items}
use Rattle.coda_values.specs.Reading.{read}
use Rattle.coda_values.specs.Table.{record_above}
use Rattle.coda_values.proofs.Lists.{left_to_read}
use Rattle.coda_values.proofs.reading.some_records.Given as goal

abbrev pub invariant-loop : goal.invariant-loop
invariant-loop l = left_to_read (record_above four) (λ r. r.number) l.before l.records.items (l.count - l.counter) l.cursor ≡ read (items (record_above four) (λ r. r.number) 0 l.count (λ rs. gives rs)) l.fn.cursor
