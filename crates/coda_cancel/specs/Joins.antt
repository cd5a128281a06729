-- Which operations of a run drop records as they are added.
use Rattle.std.specs.Prelude.{ℕ, Option, Some, None, List, [], ◌∷◌, ◌++◌}
use Rattle.coda_fid.specs.declared.op.Record.{Record}
use Rattle.coda_cancel.specs.declared.join.Join.{Join}
use Rattle.coda_cancel.specs.Cancel.{add}
use Rattle.coda_cancel.specs.Numbers.{dropped, least}

-- what is noted of an operation, by the least number that it dropped, if it dropped any
abbrev pub noted : ℕ → Option ℕ → List Join
noted number None = []
noted number (Some least) = record { least = least; number = number } ∷ []

-- the operations of a run that drop records as they are added to a list in turn, each with the least number that it drops
abbrev pub joins_of : List Record → List Record → List Join
joins_of recs [] = []
joins_of recs (rec ∷ run) = noted rec.number (least (dropped recs rec)) ++ joins_of (add recs rec) run
