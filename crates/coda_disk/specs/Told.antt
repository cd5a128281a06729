-- What a disk tells of itself, what its calls do, and what a crash may leave between two syncs.
use Rattle.std.specs.Prelude.{◌≡◌, ◌⊎◌, ℕ, ◌+◌, ◌-◌, ◌<◌, ◌≤◌, min, max, List, ◌++◌, length, take, drop, Result, OnOk}

-- What a disk tells. A disk that isn't honest tells nothing.
pub record Told : Type 1 where
  -- that it is what it tells
  pub honest : Type 0
  -- what a read gives
  pub seen : List ℕ
  -- the images that a crash now may leave
  pub may_leave : List ℕ → Type 0
  -- a number that doesn't fall
  pub moment : ℕ
  -- the images that a crash at some moment since that one might have left
  pub left_since : ℕ → List ℕ → Type 0

-- these bytes at this offset, over what was there
abbrev pub put : List ℕ → ℕ → List ℕ → List ℕ
put old at bytes = take at old ++ bytes ++ drop (at + length bytes) old

-- these bytes past the end of what was there, and some bytes in the gap
abbrev pub HoldsPast : List ℕ → ℕ → List ℕ → List ℕ → Type 0
HoldsPast old at bytes new = (gap : List ℕ) × (length gap ≡ at - length old) × (new ≡ old ++ gap ++ bytes)

-- after a write of n bytes that a crash cuts short: any bytes in the range and past the old end, the same elsewhere
pub record Torn (at n : ℕ) (old new : List ℕ) : Type 0 where
  pub before : take at new ≡ take at old
  pub after : drop (at + n) new ≡ drop (at + n) old
  pub no_shorter : length old ≤ length new
  pub no_longer : length new ≤ max (length old) (at + n)

-- after a cut to this size that a crash cuts short: some length between, and the same bytes
pub record Cut (size : ℕ) (old new : List ℕ) : Type 0 where
  pub no_shorter : min size (length old) ≤ length new
  pub front : take (length new) old ≡ new

-- each new image is an old one after this step
abbrev pub Follows : (List ℕ → List ℕ → Type 0) → (List ℕ → Type 0) → (List ℕ → Type 0) → Type 0
Follows step old new = (c : List ℕ) → new c → (d : List ℕ) × old d × step d c

-- a crash leaves this image and nothing else
abbrev pub Only : List ℕ → (List ℕ → Type 0) → Type 0
Only image may_leave = (c : List ℕ) → may_leave c → c ≡ image

-- Time goes on: since a moment before, a crash might have left what it might have left before, and what it may leave now.
pub record Elapses (old new : Told) : Type 0 where
  pub later : old.moment ≤ new.moment
  pub nothing_else : (t : ℕ) (c : List ℕ) → t ≤ old.moment → new.left_since t c → old.left_since t c ⊎ new.may_leave c
  pub keeps : (t : ℕ) (c : List ℕ) → t ≤ old.moment → old.left_since t c → new.left_since t c

-- Nothing was written: the same is read, and a crash leaves nothing that it couldn't leave before.
pub record Kept (old new : Told) : Type 0 where
  pub honest : new.honest
  pub seen : new.seen ≡ old.seen
  pub crash : (c : List ℕ) → new.may_leave c → old.may_leave c
  pub time : Elapses old new

-- A read at this offset gave what stands there, as much as there is and the buffer takes.
abbrev pub Gives : List ℕ → ℕ → List ℕ → ℕ → Type 0
Gives seen at buffer count = (count ≡ min (length buffer) (length seen - at)) × (take count buffer ≡ take count (drop at seen))

-- Bytes were to be written at this offset. Where that failed, what a read gives there isn't said.
pub record Written {T E : Type 0} (at : ℕ) (bytes : List ℕ) (old new : Told) (result : Result T E) : Type 0 where
  pub honest : new.honest
  pub time : Elapses old new
  pub written : at ≤ length old.seen → OnOk result (new.seen ≡ put old.seen at bytes)
  pub crash : at ≤ length old.seen → Follows (Torn at (length bytes)) old.may_leave new.may_leave
  -- past the end: some bytes fill the gap, and a crash may leave any bytes from the old end on
  pub written_past : length old.seen < at → OnOk result (HoldsPast old.seen at bytes new.seen)
  pub crash_past : length old.seen < at → Follows (Torn (length old.seen) (at + length bytes - length old.seen)) old.may_leave new.may_leave

-- The disk was to be cut to this size, which is no greater than its own.
pub record WasCut {T E : Type 0} (size : ℕ) (old new : Told) (result : Result T E) : Type 0 where
  pub honest : new.honest
  pub time : Elapses old new
  pub written : size ≤ length old.seen → OnOk result (new.seen ≡ take size old.seen)
  pub crash : size ≤ length old.seen → Follows (Cut size) old.may_leave new.may_leave

-- A crash at any moment since old leaves an image that has P.
pub record LeavesOnly (old new : Told) (P : List ℕ → Type 0) : Type 0 where
  pub later : old.moment ≤ new.moment
  pub each : (c : List ℕ) → new.left_since old.moment c → P c
  -- for a run that began earlier
  pub before : (t : ℕ) (c : List ℕ) → t ≤ old.moment → new.left_since t c → old.left_since t c ⊎ P c
