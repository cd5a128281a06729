use Rattle.std.proofs.Common.{◌≡◌, ◌-◌, Some, None}
use Rattle.coda_values.specs.Form.{gives, four}
use Rattle.coda_values.specs.Parts.{items}
use Rattle.coda_values.specs.Reading.{read}
use Rattle.coda_values.specs.Held.{fid_after, object_after}
use Rattle.coda_values.proofs.Lists.{left_to_read}
use Rattle.coda_values.proofs.held.fids_of.Given as goal

abbrev pub invariant-loop : goal.invariant-loop
invariant-loop l = left_to_read fid_after (λ f. Some f) l.before l.fids.items (l.count - l.counter) l.cursor ≡ read (items fid_after (λ f. Some f) None l.count (λ xs. gives xs)) l.fn.cursor
