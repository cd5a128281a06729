-- That a chunk is the longest front that may go.
use Rattle.std.specs.Prelude.{◌≡◌, ℕ, ◌+◌, ◌<◌, ◌≤◌, ◌⊎◌, true, List, [], ◌∷◌, take, length}
use Rattle.coda_cml.specs.declared.segment.Segment.{Segment}
use Rattle.coda_cml.specs.Chunks.{is_old, first_filled, chunk_length}

-- each of the segments is old enough
abbrev pub AreOld : ℕ → ℕ → List Segment → Type 0
AreOld now window [] = Unit {0}
AreOld now window (segment ∷ rest) = (is_old now window segment ≡ true) × AreOld now window rest

-- how many records segments have together
abbrev pub total : List Segment → ℕ
total [] = 0
total (segment ∷ rest) = segment.count + total rest

-- they may go together: each is old enough, and they have no more records than the cap
abbrev pub MayGo : ℕ → ℕ → ℕ → List Segment → Type 0
MayGo now window cap front = AreOld now window front × (total front ≤ cap)

-- The first segments, so many, are a chunk: they reach up to the first that has a record, before which there is none; they may
-- go, or go no further than that; and no longer front may go.
pub record IsChunk (now window cap : ℕ) (segments : List Segment) (count : ℕ) : Type 0 where
  pub reaches : first_filled segments ≤ count
  pub needed : (n : ℕ) → n < first_filled segments → total (take n segments) ≡ 0
  pub may : MayGo now window cap (take count segments) ⊎ (count ≡ first_filled segments)
  pub longest : (n : ℕ) → n ≤ length segments → MayGo now window cap (take n segments) → n ≤ count

-- a chunk is as long as it may be
abbrev pub ChunksAreLongest : Type 0
ChunksAreLongest = (now window cap : ℕ) (segments : List Segment) → IsChunk now window cap segments (chunk_length now window cap segments)
