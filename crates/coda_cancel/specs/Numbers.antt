-- The numbers of records.
use Rattle.std.specs.Prelude.{ℕ, Bool, if◌then◌else◌, nat_le, Option, Some, None, List, [], ◌∷◌, ◌<◌, ◌≤◌}
use Rattle.coda_fid.specs.declared.op.Op.{Op}
use Rattle.coda_fid.specs.declared.op.Record.{Record}
use Rattle.coda_fid.specs.Op.{carried}
use Rattle.coda_cancel.specs.Dropping.{mentioning, drops}
use Rattle.coda_cancel.specs.Cancel.{cancels, object}

-- the numbers of the records that pass a test
abbrev pub numbers : (Op → Bool) → List Record → List ℕ
numbers test [] = []
numbers test (rec ∷ recs) = if test rec.op then rec.number ∷ numbers test recs else numbers test recs

-- the numbers of the records that an operation drops
abbrev pub dropped : List Record → Record → List ℕ
dropped recs rec =
    if cancels rec.op recs
    then numbers (mentioning (object (carried rec.op))) recs
    else numbers (drops rec.op) recs

-- the lesser of a number and another, if there is one
abbrev pub lesser : ℕ → Option ℕ → ℕ
lesser number None = number
lesser number (Some other) = if nat_le number other then number else other

-- the least of the numbers, if there is one
abbrev pub least : List ℕ → Option ℕ
least [] = None
least (number ∷ rest) = Some (lesser number (least rest))

-- the numbers of the records are below this one
abbrev pub AreBelow : ℕ → List Record → Type 0
AreBelow number [] = Unit {0}
AreBelow number (rec ∷ recs) = (rec.number < number) × AreBelow number recs

-- the numbers of the records are this one at most
abbrev pub AreUpTo : ℕ → List Record → Type 0
AreUpTo number [] = Unit {0}
AreUpTo number (rec ∷ recs) = (rec.number ≤ number) × AreUpTo number recs

-- the numbers of the records are above this one
abbrev pub AreAbove : ℕ → List Record → Type 0
AreAbove number [] = Unit {0}
AreAbove number (rec ∷ recs) = (number < rec.number) × AreAbove number recs

-- the numbers of the records rise
abbrev pub IsRising : List Record → Type 0
IsRising [] = Unit {0}
IsRising (rec ∷ recs) = AreAbove rec.number recs × IsRising recs
