-- How an area is read, piece by piece.
use Rattle.std.specs.Prelude.{◌≡◌, ℕ, ◌≤◌, Bool, false, List, ◌++◌, length, take, drop}
use Rattle.std.specs.Int.{Width}
use Rattle.coda_journal.specs.Entries.{blocks}

-- So many bytes of the area are these entries.
pub record IsReadTo (width : Width) (area : List ℕ) (used : ℕ) (payloads : List (List ℕ)) : Type 0 where
  pub inside : used ≤ length area
  pub is : area ≡ blocks width payloads ++ drop used area

-- These bytes are the first ones of the area, and all of them where there are no more.
pub record IsFirst (area bytes : List ℕ) (more : Bool) : Type 0 where
  pub front : bytes ≡ take (length bytes) area
  pub all : more ≡ false → bytes ≡ area
