-- What a call gives of what reading gives.
use Rattle.std.specs.Prelude.{◌≡◌, Result, Ok, Err}
use Rattle.coda_script.specs.declared.fault.LineFault.{LineFault}
use Rattle.coda_script.specs.declared.fault.LineFault.TheVariants.{Memory, BadLine}
use Rattle.coda_script.specs.Reading.{Fault}

-- the fault is that of reading; want of memory may come of itself
abbrev pub Fails : {Y : Type 0} → LineFault → Result Y Fault → Type 0
Fails Memory read = Unit {0}
Fails (BadLine column kind) read = read ≡ Err (column, kind)

-- what a call returned, seen by view, is what reading gives, unless memory ran out
abbrev pub Gives : {X Y : Type 0} → (X → Y) → Result X LineFault → Result Y Fault → Type 0
Gives view (Ok x) read = read ≡ Ok (view x)
Gives view (Err e) read = Fails e read
