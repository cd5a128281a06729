-- What holds of version vectors, in words of sets of updates.
use Rattle.std.specs.Prelude.{◌≡◌, ◌≤◌, ◌↔◌, ◌⊎◌, length, ℕ, ◌+◌, true}
use Rattle.coda_vv.specs.declared.vector.Compare.TheVariants.{Equal, Dominates, Submits, Inconsistent}
use Rattle.coda_vv.specs.Vector.{Counts, count, includes, joined, comparison, bumped, IsInVersion}

-- the first has each update of the second
abbrev pub HasAllOf : Counts → Counts → Type 0
HasAllOf v w = (server number : ℕ) → 1 ≤ server → IsInVersion w server number → IsInVersion v server number

-- the first has an update that the second lacks
abbrev pub HasMoreThan : Counts → Counts → Type 0
HasMoreThan v w = (server : ℕ) × (number : ℕ) × (1 ≤ server) × IsInVersion v server number × (IsInVersion w server number → ⊥)

-- a vector includes another just where each update of the other is in it
abbrev pub VectorsIncludeUpdates : Type 0
VectorsIncludeUpdates = (v w : Counts) → length v ≡ length w → (includes v w ≡ true) ↔ HasAllOf v w

-- an update is in the vector of both just where it is in one of them
abbrev pub MergingJoinsUpdates : Type 0
MergingJoinsUpdates = (v w : Counts) (server number : ℕ) → length v ≡ length w → 1 ≤ server → IsInVersion (joined v w) server number ↔ (IsInVersion v server number ⊎ IsInVersion w server number)

-- an update is in a bumped vector just where it was there, or is the server's next one
abbrev pub BumpsAddOneUpdate : Type 0
BumpsAddOneUpdate = (v : Counts) (bumping server number : ℕ) → 1 ≤ bumping → bumping ≤ length v → 1 ≤ server → IsInVersion (bumped v bumping) server number ↔ (IsInVersion v server number ⊎ ((server ≡ bumping) × (number ≡ count v bumping + 1)))

-- inclusion is an order of vectors of one length
pub record InclusionIsAnOrder : Type 0 where
  pub reflexive : (v : Counts) → includes v v ≡ true
  pub transitive : (v w x : Counts) → length v ≡ length w → length w ≡ length x → includes v w ≡ true → includes w x ≡ true → includes v x ≡ true
  pub antisymmetric : (v w : Counts) → length v ≡ length w → includes v w ≡ true → includes w v ≡ true → v ≡ w

-- the merge includes both, and whatever includes both includes it
pub record MergingIsTheLeastUpperBound : Type 0 where
  pub first : (v w : Counts) → length v ≡ length w → includes (joined v w) v ≡ true
  pub second : (v w : Counts) → length v ≡ length w → includes (joined v w) w ≡ true
  pub least : (v w x : Counts) → length v ≡ length w → length w ≡ length x → includes x v ≡ true → includes x w ≡ true → includes x (joined v w) ≡ true

-- two versions are Equal just where they have the same counts; one dominates where it has all of the other's updates and
-- more, it submits where the other has all of its own and more, and they are inconsistent where each has one of its own
pub record ComparisonsTellInclusion : Type 0 where
  pub equal : (v w : Counts) → length v ≡ length w → (comparison v w ≡ Equal) ↔ (v ≡ w)
  pub dominates : (v w : Counts) → length v ≡ length w → (comparison v w ≡ Dominates) ↔ (HasAllOf v w × HasMoreThan v w)
  pub submits : (v w : Counts) → length v ≡ length w → (comparison v w ≡ Submits) ↔ (HasAllOf w v × HasMoreThan w v)
  pub inconsistent : (v w : Counts) → length v ≡ length w → (comparison v w ≡ Inconsistent) ↔ (HasMoreThan v w × HasMoreThan w v)
