use Rattle.std.proofs.Common.{◌≡◌, ◌++◌, take, None}
use Rattle.std.specs.List.{flat_map}
use Rattle.coda_values.specs.Form.{four}
use Rattle.coda_record.specs.Hoard.{hoard_entry}
use Rattle.coda_record.proofs.hoard.put_all_hoard_entries.Given as goal

abbrev pub invariant-loop-entry : goal.invariant-loop-entry
invariant-loop-entry l = l.out.items ≡ l.fn.out.items ++ flat_map (λ e. ((hoard_entry four).piece e).bytes) (take l.entry-index l.entries)
