-- Places whose first ones have lost their records.
use Rattle.std.proofs.Common.{◌≡◌, ℕ, zero, suc, ◌<◌, ◌≤◌, List, [], ◌∷◌, length, get_or, take, drop, slice_set, Some, None, refl, ap, arith}
use Rattle.coda_fid.specs.declared.op.Record.{Record}
use Rattle.coda_cancel.specs.declared.shelf.Slot.{Slot}
use Rattle.coda_cancel.specs.declared.shelf.Slot.TheVariants.{Gone, Kept}
use Rattle.coda_cancel.specs.Slots.{number_of, record_of, kept_in, AreSlotsAbove, DoSlotsRise}

-- the places, with the records of the first ones, so many, gone
pub vacated : ℕ → List Slot → List Slot
vacated zero ss = ss
vacated (suc k) [] = []
vacated (suc k) (s ∷ ss) = Gone (number_of s) ∷ vacated k ss

pub kept_in-vacated : (k : ℕ) (ss : List Slot) → kept_in (vacated k ss) ≡ kept_in (drop k ss)
unfolding vacated
kept_in-vacated zero ss = refl
kept_in-vacated (suc k) [] = refl
kept_in-vacated (suc k) (s ∷ ss) = kept_in-vacated k ss

pub length-vacated : (k : ℕ) (ss : List Slot) → length (vacated k ss) ≡ length ss
unfolding vacated
length-vacated zero ss = refl
length-vacated (suc k) [] = refl
length-vacated (suc k) (s ∷ ss) = ap suc (length-vacated k ss)

above_vacated : (n k : ℕ) (ss : List Slot) → AreSlotsAbove n ss → AreSlotsAbove n (vacated k ss)
unfolding vacated
above_vacated n zero ss h = h
above_vacated n (suc k) [] h = h
above_vacated n (suc k) (s ∷ ss) h = (h.0, above_vacated n k ss h.1)

pub rising_vacated : (k : ℕ) (ss : List Slot) → DoSlotsRise ss → DoSlotsRise (vacated k ss)
unfolding vacated
rising_vacated zero ss h = h
rising_vacated (suc k) [] h = h
rising_vacated (suc k) (s ∷ ss) h = (above_vacated (number_of s) k ss h.0, rising_vacated k ss h.1)

pub nothing_vacated : (ss : List Slot) → ss ≡ vacated 0 ss
unfolding vacated
nothing_vacated ss = refl

pub vacated_next : (k : ℕ) (ss : List Slot) (s : Slot) → k < length ss → s ≡ get_or (vacated k ss) k s → slice_set (vacated k ss) k (Gone (number_of s)) ≡ vacated (suc k) ss
unfolding vacated
vacated_next k [] s lt e = absurd (omega (arith, lt))
vacated_next zero (x ∷ ss) s lt e = ap (λ y. Gone (number_of y) ∷ ss) e
vacated_next (suc k) (x ∷ ss) s lt e = ap (λ l. Gone (number_of x) ∷ l) (vacated_next k ss s (omega (arith, lt)) e)

pub vacated_at : (k : ℕ) (ss : List Slot) (d : Slot) → get_or (vacated k ss) k d ≡ get_or ss k d
unfolding vacated
vacated_at zero ss d = refl
vacated_at (suc k) [] d = refl
vacated_at (suc k) (x ∷ ss) d = vacated_at k ss d

-- what stands in one place
pub kept_here : (s : Slot) (rec : Record) → Some rec ≡ record_of s → kept_in (s ∷ []) ≡ rec ∷ []
kept_here (Gone n) rec e = cc
kept_here (Kept r) rec e = cc

pub none_here : (s : Slot) → None ≡ record_of s → kept_in (s ∷ []) ≡ []
none_here (Gone n) e = refl
none_here (Kept r) e = cc

-- fewer places have no more records
pub fewer_taken : (k n : ℕ) (ss : List Slot) → k ≤ n → length (kept_in (take k ss)) ≤ length (kept_in (take n ss))
fewer_taken zero n ss le = omega arith
fewer_taken (suc k) zero ss le = absurd (omega (arith, le))
fewer_taken (suc k) (suc n) [] le = omega arith
fewer_taken (suc k) (suc n) (Gone m ∷ ss) le = fewer_taken k n ss (omega (arith, le))
fewer_taken (suc k) (suc n) (Kept r ∷ ss) le = let h = fewer_taken k n ss (omega (arith, le)) in omega (arith, h)
