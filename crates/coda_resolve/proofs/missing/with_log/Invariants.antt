use Rattle.std.proofs.Common.{◌≡◌, ◌++◌, take, map, option_copied}
use Rattle.std.specs.List.{filter}
use Rattle.coda_resolve.specs.Lent.{lent}
use Rattle.coda_resolve.specs.Missing.{is_missing}
use Rattle.coda_resolve.proofs.missing.with_log.Given as goal

abbrev pub invariant-loop-index : goal.invariant-loop-index
invariant-loop-index l = lent l.found.items ≡ lent l.initial.found.items ++ filter (is_missing (map option_copied l.copies)) (take l.index l.log)
