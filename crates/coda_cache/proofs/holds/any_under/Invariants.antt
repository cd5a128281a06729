use Rattle.std.proofs.Common.{◌≡◌}
use Rattle.std.specs.List.{list_any}
use Rattle.coda_cache.specs.Indexed.{is_parent}
use Rattle.coda_cache.proofs.holds.any_under.Given as goal

abbrev pub invariant-loop-hold : goal.invariant-loop-hold
invariant-loop-hold l = list_any (λ e. is_parent l.dir e.1.parent) l.hold-iterator ≡ list_any (λ e. is_parent l.dir e.1.parent) l.fn.holds.entries
