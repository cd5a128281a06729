use Rattle.std.proofs.Common.{◌≡◌, ◌-◌, map, option_copied}
use Rattle.coda_resolve.specs.Stamps.{absent_from}
use Rattle.coda_resolve.proofs.wrapped.least_absent.Given as goal

-- nothing was found at the servers so far
abbrev pub invariant-loop-origin : goal.invariant-loop-origin
invariant-loop-origin l = absent_from l.logged (map option_copied l.copies) 1 8 ≡ absent_from l.logged (map option_copied l.copies) l.origin (9 - l.origin)
