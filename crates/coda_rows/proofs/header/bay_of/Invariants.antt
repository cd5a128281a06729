use Rattle.std.specs.Prelude.{◌≡◌, ℕ, false}
use Rattle.std.specs.Ordering.{nat_cmp}
use Rattle.std.specs.BTreeMap.{get}
use Rattle.coda_disk.specs.Places.{is_out}
use Rattle.coda_rows.proofs.header.bay_of.Given as goal

abbrev pub invariant-loop-line : goal.invariant-loop-line
invariant-loop-line l = (k : ℕ) → is_out (get nat_cmp l.bay.places k) ≡ false
