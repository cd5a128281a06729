use Rattle.std.proofs.Common.{take, map, option_copied}
use Rattle.std.specs.List.{list_any}
use Rattle.coda_resolve.specs.Lent.{lent}
use Rattle.coda_resolve.specs.Merged.{is_on, first_bindings, IsSettled}
use Rattle.coda_resolve.proofs.names.merged_entries.Given as goal

abbrev pub invariant-loop-update : goal.invariant-loop-update
invariant-loop-update l = IsSettled (map option_copied l.copies) (λ n. list_any (is_on n) (lent (take l.update-index l.updates))) (first_bindings (map option_copied l.copies)) l.entries
