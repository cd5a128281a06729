use Rattle.std.proofs.Common.{◌≡◌, ◌||◌, drop, not, option_copied}
use Rattle.std.specs.List.{list_all}
use Rattle.coda_reslog.specs.declared.entry.ResEntry.{ResEntry}
use Rattle.coda_resolve.specs.Lent.{lent}
use Rattle.coda_resolve.specs.Merged.{is_attr}
use Rattle.coda_resolve.specs.Missing.{has_update}
use Rattle.coda_resolve.proofs.merged.has_attributes.Given as goal

abbrev pub invariant-loop-update : goal.invariant-loop-update
invariant-loop-update l = list_all (λ (u : ResEntry). not (is_attr u) || has_update u (option_copied l.copy)) (lent l.updates) ≡ list_all (λ (u : ResEntry). not (is_attr u) || has_update u (option_copied l.copy)) (lent (drop l.update-index l.updates))
