use Rattle.std.proofs.Common.{◌≡◌, ◌+◌, ◌-◌, not}
use Rattle.std.specs.List.{find, range_with_len}
use Rattle.coda_resolve.specs.Stamps.{has_stamp}
use Rattle.coda_resolve.proofs.wrapped.first_absent.Given as goal

-- the numbers so far are all among the updates
abbrev pub invariant-loop-step : goal.invariant-loop-step
invariant-loop-step l = find (λ seq. not (has_stamp l.logged l.origin seq)) (range_with_len (l.from + 1) l.many) ≡ find (λ seq. not (has_stamp l.logged l.origin seq)) (range_with_len (l.from + l.step + 1) (l.many - l.step))
