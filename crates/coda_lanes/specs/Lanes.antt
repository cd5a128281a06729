-- What is computed lane by lane.
use Rattle.std.specs.Prelude.{◌≡◌, ℕ, ◌+◌, ◌*◌, ◌/◌, ◌%◌, ◌^◌, Bool, false, cond, List, [], ◌∷◌, get_or, take, drop}

-- a function of the numbers at each place of two lists
abbrev pub each : {A : Type 0} → (ℕ → ℕ → A) → List ℕ → List ℕ → List A
each f [] ys = []
each f (x ∷ xs) [] = []
each f (x ∷ xs) (y ∷ ys) = f x y ∷ each f xs ys

-- the number whose bits these are, bit 0 first
abbrev pub mask_of : List Bool → ℕ
mask_of [] = 0
mask_of (bit ∷ bits) = cond bit 1 0 + 2 * mask_of bits

-- so many elements from a place on
abbrev pub part : {A : Type 0} → ℕ → ℕ → List A → List A
part at count xs = take count (drop at xs)

-- a bit of the mask is 1 just where the list has true at its place
abbrev pub MasksHaveTheBits : Type 0
MasksHaveTheBits = (bits : List Bool) (place : ℕ) → mask_of bits / 2 ^ place % 2 ≡ cond (get_or bits place false) 1 0
