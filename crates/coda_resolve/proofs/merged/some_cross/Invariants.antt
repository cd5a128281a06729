use Rattle.std.proofs.Common.{◌≡◌, drop}
use Rattle.std.specs.List.{list_any}
use Rattle.coda_reslog.specs.declared.entry.ResEntry.{ResEntry}
use Rattle.coda_resolve.specs.Causes.{is_cross_kind}
use Rattle.coda_resolve.specs.Lent.{lent}
use Rattle.coda_resolve.proofs.merged.some_cross.Given as goal

abbrev pub invariant-loop-update : goal.invariant-loop-update
invariant-loop-update l = list_any (λ (u : ResEntry). is_cross_kind u.kind) (lent l.updates) ≡ list_any (λ (u : ResEntry). is_cross_kind u.kind) (lent (drop l.update-index l.updates))
