-- What a call gives of what reading gives.
use Rattle.std.specs.Prelude.{◌≡◌, ℕ, Result, Ok, Err}
use Rattle.coda_values.specs.declared.fault.Fault.{Fault}
use Rattle.coda_values.specs.declared.fault.Fault.TheVariants as faults

-- the fault is that of reading; want of memory may come of itself
abbrev pub Fails : {Y : Type 0} → Fault → Result Y ℕ → Type 0
Fails faults.Memory read = Unit {0}
Fails (faults.Broken left) read = read ≡ Err left

-- what a call returned, seen by view, is what reading gives, unless memory ran out
abbrev pub Gives : {X Y : Type 0} → (X → Y) → Result X Fault → Result Y ℕ → Type 0
Gives view (Ok x) read = read ≡ Ok (view x)
Gives view (Err e) read = Fails e read
