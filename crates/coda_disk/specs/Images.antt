-- The image that a crash of a disk in memory leaves, by the choice that it is given.
use Rattle.std.specs.Prelude.{ℕ, zero, suc, ◌+◌, ◌%◌, ◌==◌, if◌then◌else◌, List, [], ◌∷◌, length, take}
use Rattle.coda_disk.specs.Told.{put}
use Rattle.coda_disk.specs.declared.calls.Call.{Call}
use Rattle.coda_disk.specs.declared.calls.Call.TheVariants.{Write, Stopped, Resize}

-- so many bytes from an offset on, each of which is the choice and its offset, modulo 256
abbrev pub filled : ℕ → ℕ → ℕ → List ℕ
filled choice at zero = []
filled choice at (suc count) = (choice + at) % 256 ∷ filled choice (at + 1) count

-- what a crash leaves of bytes that were written there and not synced: with 1 they are as written, with another choice filled
abbrev pub left_of : ℕ → ℕ → List ℕ → List ℕ
left_of choice at bytes = if choice == 1 then bytes else filled choice at (length bytes)

-- what a crash leaves after a call that wasn't synced; a write that was stopped counts as one
abbrev pub crashed_call : ℕ → List ℕ → Call → List ℕ
crashed_call choice image (Write at bytes) = put image at (left_of choice at bytes.items)
crashed_call choice image (Stopped at bytes) = put image at (left_of choice at bytes.items)
crashed_call choice image (Resize size) = take size image

abbrev pub crashed_calls : ℕ → List ℕ → List Call → List ℕ
crashed_calls choice image [] = image
crashed_calls choice image (call ∷ calls) = crashed_calls choice (crashed_call choice image call) calls

-- with 0 a crash leaves what was synced, with another choice the calls since too
abbrev pub image_of : ℕ → List ℕ → List Call → List ℕ
image_of choice synced calls = if choice == 0 then synced else crashed_calls choice synced calls
