-- Entries one behind the other, each with a gate of its own.
use Rattle.std.specs.Prelude.{◌≡◌, ◌≢◌, ◌⊎◌, ℕ, ◌+◌, ◌<◌, List, [], ◌∷◌, ◌++◌, length}
use Rattle.std.specs.Int.{Width, byte_len}
use Rattle.coda_journal.specs.Lengths.{length_bytes, length_in}

-- an entry behind its gate: the length of its payload, and the payload
abbrev pub body : Width → List ℕ → List ℕ
body width payload = length_bytes width (length payload) ++ payload

-- entries with open gates
abbrev pub blocks : Width → List (List ℕ) → List ℕ
blocks width [] = []
blocks width (payload ∷ payloads) = 1 ∷ body width payload ++ blocks width payloads

-- an entry with an open gate, and a closed gate behind it
abbrev pub framed : Width → List ℕ → List ℕ
framed width payload = 1 ∷ body width payload ++ 0 ∷ []

-- These entries stand here, and then a gate that isn't 1.
pub record Holds (width : Width) (area : List ℕ) (payloads : List (List ℕ)) : Type 0 where
  pub gate : ℕ
  pub rest : List ℕ
  pub is : area ≡ blocks width payloads ++ gate ∷ rest
  pub shut : gate ≢ 1

-- Behind the gate 1 at this place there are fewer bytes than the entry has.
pub record RunsPast (width : Width) (area : List ℕ) (place : ℕ) : Type 0 where
  pub before : List (List ℕ)
  pub rest : List ℕ
  pub is : area ≡ blocks width before ++ 1 ∷ rest
  pub past : length rest < byte_len width + length_in width rest
  pub here : place ≡ length (blocks width before)

-- The entries end where the area ends, and no gate is left for the next one.
pub record NoGate (width : Width) (area : List ℕ) (place : ℕ) : Type 0 where
  pub before : List (List ℕ)
  pub is : area ≡ blocks width before
  pub here : place ≡ length area

-- No list of entries and a closed gate stands here: at this place it breaks.
abbrev pub IsBroken : Width → List ℕ → ℕ → Type 0
IsBroken width area place = RunsPast width area place ⊎ NoGate width area place
