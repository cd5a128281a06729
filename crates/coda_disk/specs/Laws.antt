-- What a crash leaves, place by place.
use Rattle.std.specs.Prelude.{◌≡◌, ℕ, ◌+◌, ◌%◌, ◌<◌, ◌≤◌, Bool, true, false, ◌&&◌, ◌||◌, leb, ltb, List, [], ◌∷◌, length, get_or}
use Rattle.coda_disk.specs.Memory.{fresh, state_of, are_inside}
use Rattle.coda_disk.specs.Images.{image_of}
use Rattle.coda_disk.specs.declared.calls.Call.{Call}
use Rattle.coda_disk.specs.declared.calls.Call.TheVariants.{Write, Stopped, Resize}

-- a write of these calls, also one that was refused, covers this place
abbrev pub is_pending : ℕ → List Call → Bool
is_pending place [] = false
is_pending place (Write at bytes ∷ calls) = (leb at place && ltb place (at + length bytes.items)) || is_pending place calls
is_pending place (Stopped at bytes ∷ calls) = (leb at place && ltb place (at + length bytes.items)) || is_pending place calls
is_pending place (Resize size ∷ calls) = is_pending place calls

-- By a choice above 1 a crash leaves, at each place that a write covers which isn't synced, the choice and the place, modulo 256;
-- at each other place stands what was synced there.
abbrev pub CrashesFillWhatIsPending : Type 0
CrashesFillWhatIsPending = (choice : ℕ) (synced : List ℕ) (calls : List Call) → 2 ≤ choice → are_inside (fresh synced) calls ≡ true
    → (place : ℕ) → place < length (image_of choice synced calls)
    → (is_pending place calls ≡ true → get_or (image_of choice synced calls) place 0 ≡ (choice + place) % 256)
    × (is_pending place calls ≡ false → (place < length synced) × (get_or (image_of choice synced calls) place 0 ≡ get_or synced place 0))

-- no write of these calls was refused
abbrev pub are_done : List Call → Bool
are_done [] = true
are_done (Write at bytes ∷ calls) = are_done calls
are_done (Stopped at bytes ∷ calls) = false
are_done (Resize size ∷ calls) = are_done calls

-- By choice 0 a crash leaves what was synced; by choice 1, where no write since was refused, what a read gave.
abbrev pub CrashesTakeAllOrNothing : Type 0
CrashesTakeAllOrNothing = (synced : List ℕ) (calls : List Call)
    → (image_of 0 synced calls ≡ synced) × (are_done calls ≡ true → image_of 1 synced calls ≡ (state_of synced calls).seen)
