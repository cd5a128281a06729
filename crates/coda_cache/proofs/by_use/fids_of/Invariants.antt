use Rattle.std.proofs.Common.{◌≡◌, ◌++◌}
use Rattle.std.specs.Prelude as prelude
use Rattle.coda_cache.specs.declared.by_use.Use.{Use}
use Rattle.coda_cache.proofs.by_use.fids_of.Given as goal

abbrev pub invariant-loop-at : goal.invariant-loop-at
invariant-loop-at l = l.fids.items ++ prelude.map (λ (u : Use). u.fid) l.at-iterator ≡ prelude.map (λ (u : Use). u.fid) l.uses.keys
