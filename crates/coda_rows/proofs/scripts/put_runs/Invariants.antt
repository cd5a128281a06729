use Rattle.std.specs.Prelude.{◌≡◌, ℕ, false}
use Rattle.std.specs.Ordering.{nat_cmp}
use Rattle.std.specs.BTreeMap.{get}
use Rattle.coda_disk.specs.Places.{is_out}
use Rattle.coda_rows.proofs.scripts.put_runs.Given as goal

abbrev pub invariant-loop-script : goal.invariant-loop-script
invariant-loop-script l = (k : ℕ) → is_out (get nat_cmp l.bay.places k) ≡ false
