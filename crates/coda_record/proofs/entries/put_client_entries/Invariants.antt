use Rattle.std.proofs.Common.{◌≡◌, ◌++◌, take}
use Rattle.std.specs.List.{flat_map}
use Rattle.coda_record.specs.Entries.{client_entry}
use Rattle.coda_record.specs.Form.{four}
use Rattle.coda_record.proofs.entries.put_client_entries.Given as goal

abbrev pub invariant-loop-entry : goal.invariant-loop-entry
invariant-loop-entry l = l.out.items ≡ l.fn.out.items ++ flat_map (λ e. ((client_entry four).piece e).bytes) (take l.entry-index l.entries)
