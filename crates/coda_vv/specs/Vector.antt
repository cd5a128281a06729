-- Version vectors as sets of updates.
use Rattle.std.specs.Prelude.{◌≤◌, ℕ, ◌+◌, ◌-◌, Bool, true, false, ◌&&◌, nat_le, max, List, [], ◌∷◌, slice_index_or, slice_set}
use Rattle.coda_vv.specs.declared.vector.Compare.{Compare}
use Rattle.coda_vv.specs.declared.vector.Compare.TheVariants.{Equal, Dominates, Submits, Inconsistent}

-- how many updates of each server are in a version, server 1 first
abbrev pub Counts : Type 0
Counts = List ℕ

-- how many updates of a server are in it
abbrev pub count : Counts → ℕ → ℕ
count v server = slice_index_or v (server - 1) 0

-- an update of a server, by its number from 1 on, is in the version
abbrev pub IsInVersion : Counts → ℕ → ℕ → Type 0
IsInVersion v server number = (1 ≤ number) × (number ≤ count v server)

-- whether the first includes the second: of each server it has as many updates or more
abbrev pub includes : Counts → Counts → Bool
includes [] ys = true
includes (x ∷ xs) [] = true
includes (x ∷ xs) (y ∷ ys) = nat_le y x && includes xs ys

-- the updates of both
abbrev pub joined : Counts → Counts → Counts
joined [] ys = ys
joined (x ∷ xs) [] = x ∷ xs
joined (x ∷ xs) (y ∷ ys) = max x y ∷ joined xs ys

-- no update
abbrev pub no_updates : Counts
no_updates = 0 ∷ 0 ∷ 0 ∷ 0 ∷ 0 ∷ 0 ∷ 0 ∷ 0 ∷ []

-- how two versions compare, from whether each includes the other
abbrev pub compared : Bool → Bool → Compare
compared true true = Equal
compared true false = Dominates
compared false true = Submits
compared false false = Inconsistent

-- how the updates of two versions compare
abbrev pub comparison : Counts → Counts → Compare
comparison v w = compared (includes v w) (includes w v)

-- with one more update of the server
abbrev pub bumped : Counts → ℕ → Counts
bumped v server = slice_set v (server - 1) (count v server + 1)
