use Rattle.std.proofs.Common.{◌≡◌, ◌-◌, Some, None}
use Rattle.coda_values.specs.Form.{gives, four}
use Rattle.coda_values.specs.Parts.{items, each}
use Rattle.coda_values.specs.Reading.{read}
use Rattle.coda_record.specs.Entries.{segment, volume_log_above, cached_after, client_entry}
use Rattle.coda_values.proofs.Lists.{left_to_read}
use Rattle.coda_record.proofs.snapshots.segments_of.Given as goal

abbrev pub invariant-loop : goal.invariant-loop
invariant-loop l = left_to_read (each (segment four)) (λ s. tt) tt l.segments.items (l.count - l.counter) l.cursor ≡ read (items (each (segment four)) (λ s. tt) tt l.count (λ xs. gives xs)) l.fn.cursor
