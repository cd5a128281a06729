-- Which calls of a disk or a bay in memory fail.
use Rattle.std.specs.Prelude.{◌≡◌, ◌⊎◌, Some}
use Rattle.std.specs.List.{Contains}
use Rattle.coda_io.specs.Faults.{counted}
use Rattle.coda_disk.specs.Passing.{one_fewer}
use Rattle.coda_disk.specs.declared.plan.Plan.{Plan}

-- The next call fails: its number is among those that fail, or the disk is armed and lets no more calls through.
abbrev pub Stops : Plan → Type 0
Stops plan = Contains plan.failing.items (counted plan.calls) ⊎ (plan.passes ≡ Some 0)

-- One call more was made, and one fewer passes.
pub record IsCounted (old new : Plan) : Type 0 where
  pub calls : new.calls ≡ counted old.calls
  pub passes : new.passes ≡ one_fewer old.passes
  pub failing : new.failing ≡ old.failing
  pub arms : new.arms ≡ old.arms
