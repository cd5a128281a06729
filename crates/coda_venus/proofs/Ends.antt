-- Where the segments in front of a log end.
use Rattle.std.proofs.Common.{◌≡◌, ℕ, zero, suc, ◌+◌, ◌<◌, ◌≤◌, if◌then◌else◌, true, false, List, [], ◌∷◌, ◌++◌, take, drop, length, refl, ap, ◌∙◌, arith}
use Rattle.std.specs.Prelude.{nat_le, Bool, ◌&&◌, ◌-◌}
use Rattle.std.proofs.lemmas.Bool.{le-leb, lt-leb}
use Rattle.coda_fid.specs.declared.op.Record.{Record}
use Rattle.coda_cml.specs.declared.segment.Segment.{Segment}
use Rattle.coda_cml.specs.Chunks.{is_filled, is_old, old_front, first_filled, chunk_length}
use Rattle.coda_cml.specs.Segments.{end_of}
use Rattle.coda_cml.specs.Partition.{BeginAbove, AreInTurn, EndUpTo, ArePartedBy}
use Rattle.coda_venus.specs.State.{ended_by}

pub parted_turn : (ss : List Segment) (rs : List Record) → ArePartedBy ss rs → AreInTurn ss
parted_turn [] rs h = tt
parted_turn (s ∷ ss) rs h = (h.0, h.1, parted_turn ss (drop s.count rs) h.4)

-- the first segments end where their first one does, or later
reaches : (j : ℕ) (s : Segment) (ss : List Segment) → AreInTurn (s ∷ ss) → s.last ≤ end_of (take (suc j) (s ∷ ss))
reaches zero s ss t = omega arith
reaches (suc j) s [] t = omega arith
reaches (suc j) s (u ∷ us) t = let h = reaches j u us t.2 in let a = t.1.0 in let b = t.2.0 in omega (arith, h, a, b)

none_ended : (n : ℕ) (ss : List Segment) → BeginAbove n ss → AreInTurn ss → ended_by n ss ≡ 0
none_ended n [] b t = refl
none_ended n (s ∷ ss) b t =
    let low = b.0 in
    let inside = t.0 in
    ap (λ x. if x then 1 + ended_by n ss else 0) (lt-leb s.last n (omega (arith, low, inside)))

one_more : (n : ℕ) → 1 + n ≡ suc n
one_more n = omega arith

-- those that end by the end of some in front are these
pub ended_front : (k : ℕ) (ss : List Segment) → AreInTurn ss → 0 < k → k ≤ length ss → ended_by (end_of (take k ss)) ss ≡ k
ended_front zero ss t some within = absurd (omega (arith, some))
ended_front (suc k) [] t some within = absurd (omega (arith, within))
ended_front (suc zero) (s ∷ ss) t some within =
    ap (λ x. if x then 1 + ended_by s.last ss else 0) (le-leb s.last s.last (omega arith)) ∙ ap (λ n. 1 + n) (none_ended s.last ss t.1 t.2)
ended_front (suc (suc j)) (s ∷ []) t some within = absurd (omega (arith, within))
ended_front (suc (suc j)) (s ∷ u ∷ us) t some within =
    let e = end_of (take (suc j) (u ∷ us)) in
    let h = reaches j u us t.2 in
    let a = t.1.0 in
    let b = t.2.0 in
    let more = ended_front (suc j) (u ∷ us) t.2 (omega arith) (omega (arith, within)) in
    ap (λ x. if x then 1 + ended_by e (u ∷ us) else 0) (le-leb s.last e (omega (arith, h, a, b))) ∙ ap (λ n. 1 + n) more ∙ one_more (suc j)

-- they end no later than all
pub end_upto : (n k : ℕ) (ss : List Segment) → EndUpTo n ss → end_of (take k ss) ≤ n
end_upto n zero ss h = omega arith
end_upto n (suc k) [] h = omega arith
end_upto n (suc zero) (s ∷ ss) h = h.0
end_upto n (suc (suc k)) (s ∷ []) h = h.0
end_upto n (suc (suc k)) (s ∷ u ∷ us) h = end_upto n (suc k) (u ∷ us) h.1

-- where they begin above a number, they end above it
pub end_above : (n k : ℕ) (ss : List Segment) → BeginAbove n ss → AreInTurn ss → 0 < k → 0 < length ss → n < end_of (take k ss)
end_above n zero ss b t some there = absurd (omega (arith, some))
end_above n (suc k) [] b t some there = absurd (omega (arith, there))
end_above n (suc k) (s ∷ ss) b t some there = let h = reaches k s ss t in let low = b.0 in let inside = t.0 in omega (arith, h, low, inside)

-- ---- where they begin

pub begin_both : (n : ℕ) (ss ts : List Segment) → BeginAbove n ss → BeginAbove n ts → BeginAbove n (ss ++ ts)
begin_both n [] ts a b = b
begin_both n (s ∷ ss) ts a b = (a.0, begin_both n ss ts a.1 b)

pub begin_front : (n : ℕ) (ss ts : List Segment) → BeginAbove n (ss ++ ts) → BeginAbove n ss
begin_front n [] ts h = tt
begin_front n (s ∷ ss) ts h = (h.0, begin_front n ss ts h.1)

pub begin_behind : (n : ℕ) (ss ts : List Segment) → BeginAbove n (ss ++ ts) → BeginAbove n ts
begin_behind n [] ts h = h
begin_behind n (s ∷ ss) ts h = begin_behind n ss ts h.1

-- ---- how many may go

old_within : (now window room : ℕ) (ss : List Segment) → old_front now window room ss ≤ length ss
old_within now window room [] = omega arith
old_within now window room (s ∷ ss) = by (is_old now window s && nat_le s.count room) (old_within now window (room - s.count) ss)
  where
    by : (b : Bool) → old_front now window (room - s.count) ss ≤ length ss → (if b then 1 + old_front now window (room - s.count) ss else 0) ≤ suc (length ss)
    by true h = omega (arith, h)
    by false h = omega arith

filled_within : (ss : List Segment) → first_filled ss ≤ length ss
filled_within [] = omega arith
filled_within (s ∷ ss) = by (is_filled s) (filled_within ss)
  where
    by : (b : Bool) → first_filled ss ≤ length ss → (if b then 1 else 1 + first_filled ss) ≤ suc (length ss)
    by true h = omega arith
    by false h = omega (arith, h)

pub chunk_within : (now window cap : ℕ) (ss : List Segment) → chunk_length now window cap ss ≤ length ss
chunk_within now window cap ss = let a = old_within now window cap ss in let b = filled_within ss in omega (arith, a, b)
