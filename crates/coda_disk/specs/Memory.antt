-- A disk in memory: the calls that wrote since its last sync, and those before, of which it keeps no byte.
use Rattle.std.specs.Prelude.{◌≡◌, ◌⊎◌, ℕ, Bool, true, ◌&&◌, leb, ◌+◌, ◌≤◌, List, [], ◌∷◌, length, take}
use Rattle.coda_disk.specs.Told.{Told, put, Torn, Cut}
use Rattle.coda_disk.specs.declared.calls.Call.{Call}
use Rattle.coda_disk.specs.declared.calls.Call.TheVariants.{Write, Stopped, Resize}
use Rattle.coda_disk.specs.declared.calls.Past.{Past}
use Rattle.coda_disk.specs.declared.calls.Past.TheVariants.{Made, Synced'}

-- what a read gives, and what a crash may leave
pub record State : Type 1 where
  pub seen : List ℕ
  pub may_leave : List ℕ → Type 0

-- all is synced
abbrev pub fresh : List ℕ → State
fresh bytes = record { seen = bytes; may_leave = λ c. c ≡ bytes }

-- an image after one more step
abbrev pub After : (List ℕ → List ℕ → Type 0) → (List ℕ → Type 0) → List ℕ → Type 0
After step old c = (d : List ℕ) × old d × step d c

-- what a call does; a write that was stopped changes what a crash may leave, and nothing else
abbrev pub step : State → Call → State
step s (Write at bytes) = record { seen = put s.seen at bytes.items; may_leave = After (Torn at (length bytes.items)) s.may_leave }
step s (Stopped at bytes) = record { seen = s.seen; may_leave = After (Torn at (length bytes.items)) s.may_leave }
step s (Resize size) = record { seen = take size s.seen; may_leave = After (Cut size) s.may_leave }

abbrev pub after : State → List Call → State
after s [] = s
after s (call ∷ calls) = after (step s call) calls

-- after these calls since a sync that left these bytes
abbrev pub state_of : List ℕ → List Call → State
state_of synced calls = after (fresh synced) calls

-- a write begins no later than what is read then ends
abbrev pub is_inside : List ℕ → Call → Bool
is_inside seen (Write at bytes) = leb at (length seen)
is_inside seen (Stopped at bytes) = leb at (length seen)
is_inside seen (Resize size) = true

abbrev pub are_inside : State → List Call → Bool
are_inside s [] = true
are_inside s (call ∷ calls) = is_inside s.seen call && are_inside (step s call) calls

-- an image that a crash might have left since a moment, at one between two of these calls, the first of which came at start
abbrev pub LeftIn : ℕ → List ℕ → List Call → ℕ → List ℕ → Type 0
LeftIn start synced calls t c = (k : ℕ) × (t ≤ start + k) × (k ≤ length calls) × (state_of synced (take k calls)).may_leave c

-- how many moments passed before the last sync
abbrev pub moments : Past → ℕ
moments Made = 0
moments (Synced' shape past synced calls) = moments past + (length calls.value.items + 1)

-- an image that a crash might have left since a moment, before the last sync
abbrev pub LeftBefore : Past → ℕ → List ℕ → Type 0
LeftBefore Made t c = ⊥
LeftBefore (Synced' shape past synced calls) t c = LeftBefore past t c ⊎ LeftIn (moments past) synced.value.items calls.value.items t c

-- what it tells: what was, the bytes at the last sync, and the calls since
abbrev pub told_of : Past → List ℕ → List Call → Told
told_of past synced calls = record {
  honest = (state_of synced calls).may_leave (state_of synced calls).seen;
  seen = (state_of synced calls).seen;
  may_leave = (state_of synced calls).may_leave;
  moment = moments past + length calls;
  left_since = λ t c. LeftBefore past t c ⊎ LeftIn (moments past) synced calls t c;
}

-- A sync ends a span: what was before it is over, and is kept in the past alone.
pub record Ends (past : Past) (synced : List ℕ) (calls : List Call) (new : Past) : Type 0 where
  pub passed : moments new ≡ moments past + (length calls + 1)
  pub is_before : (t : ℕ) (c : List ℕ) → LeftBefore new t c → LeftBefore past t c ⊎ LeftIn (moments past) synced calls t c
  pub was_before : (t : ℕ) (c : List ℕ) → LeftBefore past t c ⊎ LeftIn (moments past) synced calls t c → LeftBefore new t c
