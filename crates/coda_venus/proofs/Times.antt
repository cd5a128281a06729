-- A freeze that may follow is found again.
use Rattle.std.proofs.Common.{◌≡◌, ℕ, zero, suc, ◌+◌, ◌-◌, ◌≤◌, ◌≢◌, ◌==◌, ◌||◌, Bool, true, false, not, List, [], ◌∷◌, take, length, Option, Some, None, refl, sym, ap, ◌∙◌, subst, inl, inr, arith}
use Rattle.std.specs.Prelude.{nat_le, nat_lt, if◌then◌else◌, Result, Ok, Err}
use Rattle.std.specs.List.{find}
use Rattle.std.proofs.Math.Dec.{leb-zero}
use Rattle.std.proofs.lemmas.Bool.{le-leb, leb-true, lt-leb, ltb-false}
use Rattle.std.proofs.lemmas.Option.{none-some}
use Rattle.coda_cml.specs.Chunks.{is_filled, age, is_old, first_filled, chunk_length, too_young, freeze_refusal}
use Rattle.coda_cml.specs.Longest.{AreOld, IsChunk}
use Rattle.coda_cml.specs.Partition.{ArePartedBy}
use Rattle.coda_cml.specs.Segments.{end_of}
use Rattle.coda_cml.specs.State.{LogState}
use Rattle.coda_cml.specs.declared.frozen.Frozen.{Frozen}
use Rattle.coda_cml.specs.declared.fault.FreezeFault.{FreezeFault}
use Rattle.coda_cml.specs.declared.fault.FreezeFault.TheVariants.{Nothing, Young}
use Rattle.coda_cml.specs.declared.segment.Segment.{Segment}
use Rattle.coda_cml.proofs.segments.FrozenFronts.{may_go}
use Rattle.coda_cml.proofs.segments.LongestFront.{chunks_are_longest}
use Rattle.coda_venus.specs.State.{ended_by}
use Rattle.coda_venus.specs.History.{last_to_go, MayFreeze}
use Rattle.coda_venus.specs.Keeping.{chunk_by, next_chunk}
use Rattle.coda_venus.specs.Times.{newest_of, newest_in, time_of}
use Rattle.coda_venus.specs.declared.refused.Refused.{Refused}
use Rattle.coda_venus.specs.declared.refused.Refused.TheVariants.{JournalFull}
use Rattle.coda_venus.proofs.Ends.{parted_turn, ended_front, chunk_within}

-- ---- one chunk

chunk_low : (now window cap : ℕ) (ss : List Segment) (a b : ℕ) → a ≤ length ss → IsChunk now window cap ss a → IsChunk now window cap ss b → a ≤ b
chunk_low now window cap ss a b within is other = elim (is.may) [
  | inl goes ↦ other.longest a within goes
  | inr first ↦ (let reaches = other.reaches in omega (arith, first, reaches))
]

one_chunk : (now window cap : ℕ) (ss : List Segment) (a b : ℕ) → a ≤ length ss → b ≤ length ss → IsChunk now window cap ss a → IsChunk now window cap ss b → a ≡ b
one_chunk now window cap ss a b la lb is other = let low = chunk_low now window cap ss a b la is other in let high = chunk_low now window cap ss b a lb other is in omega (arith, low, high)

-- ---- which segments are old

-- those that are as new as another time at most, by the next one
by_time : (m : ℕ) (s : Segment) → newest_of s ≤ m → is_old (m + 1) 1 s ≡ true
by_time m s low = go (s.count == 0) low
  where
    go : (b : Bool) → (if b then 0 else s.newest) ≤ m → (b || nat_le 1 (m + 1 - s.newest)) ≡ true
    go true h = refl
    go false h = le-leb 1 (m + 1 - s.newest) (omega (arith, h))

-- what is old by that is old by any time and window by which that time is old
by_any : (m now window : ℕ) (s : Segment) → window ≤ now - m → is_old (m + 1) 1 s ≡ true → is_old now window s ≡ true
by_any m now window s reach old = go (s.count == 0) old
  where
    go : (b : Bool) → (b || nat_le 1 (m + 1 - s.newest)) ≡ true → (b || nat_le window (now - s.newest)) ≡ true
    go true h = refl
    go false h = let low = leb-true 1 (m + 1 - s.newest) h in le-leb window (now - s.newest) (omega (arith, low, reach))

by_nothing : (s : Segment) → is_old 0 0 s ≡ true
by_nothing s = go (s.count == 0)
  where
    go : (b : Bool) → (b || nat_le 0 (0 - s.newest)) ≡ true
    go true = refl
    go false = leb-zero (0 - s.newest)

all_by_time : (m : ℕ) (ss : List Segment) → newest_in ss ≤ m → AreOld (m + 1) 1 ss
all_by_time m [] low = tt
all_by_time m (s ∷ ss) low = (by_time m s (omega (arith, low)), all_by_time m ss (omega (arith, low)))

all_by_any : (m now window : ℕ) (ss : List Segment) → window ≤ now - m → AreOld (m + 1) 1 ss → AreOld now window ss
all_by_any m now window [] reach old = tt
all_by_any m now window (s ∷ ss) reach old = (by_any m now window s reach old.0, all_by_any m now window ss reach old.1)

all_by_nothing : (ss : List Segment) → AreOld 0 0 ss
all_by_nothing [] = tt
all_by_nothing (s ∷ ss) = (by_nothing s, all_by_nothing ss)

old_taken : (now window n : ℕ) (ss : List Segment) → AreOld now window ss → AreOld now window (take n ss)
old_taken now window zero ss old = tt
old_taken now window (suc n) [] old = tt
old_taken now window (suc n) (s ∷ ss) old = (old.0, old_taken now window n ss old.1)

-- ---- the first that has a record

-- where it is old, a window reaches back from now, and all up to it are old
young_is : (now window : ℕ) (s : Segment) → too_young now window (Some s) ≡ None → nat_le window (age now s) ≡ true
young_is now window s e = go (nat_le window (age now s)) e
  where
    go : (b : Bool) → (let none : Option FreezeFault = None in (if b then None else Some (Young (age now s) window)) ≡ none) → b ≡ true
    go true h = refl
    go false h = absurd (none-some (Young (age now s) window) (sym h))

old_is : (now window : ℕ) (s : Segment) → nat_le window (age now s) ≡ true → too_young now window (Some s) ≡ None
old_is now window s e = ap (λ b. let o : Option FreezeFault = if b then None else Some (Young (age now s) window) in o) e

window_reaches : (now window : ℕ) (ss : List Segment) → too_young now window (find is_filled ss) ≡ None → window ≤ now
window_reaches now window [] e = absurd (none-some Nothing (sym e))
window_reaches now window (s ∷ ss) e = go (is_filled s) e (window_reaches now window ss)
  where
    go : (b : Bool) → too_young now window (if b then Some s else find is_filled ss) ≡ None → (too_young now window (find is_filled ss) ≡ None → window ≤ now) → window ≤ now
    go true h rest = let reach = leb-true window (now - s.newest) (young_is now window s h) in omega (arith, reach)
    go false h rest = rest h

one_more : (n : ℕ) → suc n ≡ 1 + n
one_more n = omega arith

first_old : (now window : ℕ) (ss : List Segment) → too_young now window (find is_filled ss) ≡ None → AreOld now window (take (first_filled ss) ss)
first_old now window [] e = tt
first_old now window (s ∷ ss) e = go (s.count == 0) refl e (first_old now window ss)
  where
    go : (b : Bool) → (s.count == 0) ≡ b → too_young now window (if not b then Some s else find is_filled ss) ≡ None → (too_young now window (find is_filled ss) ≡ None → AreOld now window (take (first_filled ss) ss))
        → AreOld now window (take (if not b then 1 else 1 + first_filled ss) (s ∷ ss))
    go true is h rest = subst (λ n. AreOld now window (take n (s ∷ ss))) (one_more (first_filled ss)) (ap (λ b. b || nat_le window (age now s)) is, rest h)
    go false is h rest = (ap (λ b. b || nat_le window (age now s)) is ∙ young_is now window s h, tt)

-- where all up to it are old by another time, it may go
first_goes : (now window k : ℕ) (ss : List Segment) (o : Option FreezeFault) → find is_filled ss ≢ None → first_filled ss ≤ k → AreOld now window (take k ss) → too_young now window (find is_filled ss) ≡ None
first_goes now window k [] o some low old = absurd (some refl)
first_goes now window zero (s ∷ ss) o some low old = absurd (at_least_one (is_filled s) low)
  where
    at_least_one : (b : Bool) → (if b then 1 else 1 + first_filled ss) ≤ 0 → ⊥
    at_least_one true h = omega (arith, h)
    at_least_one false h = omega (arith, h)
first_goes now window (suc k) (s ∷ ss) o some low old = go (s.count == 0) refl some low (first_goes now window k ss o)
  where
    go : (b : Bool) → (s.count == 0) ≡ b → (if not b then Some s else find is_filled ss) ≢ None → (if not b then 1 else 1 + first_filled ss) ≤ suc k
        → (find is_filled ss ≢ None → first_filled ss ≤ k → AreOld now window (take k ss) → too_young now window (find is_filled ss) ≡ None) → too_young now window (if not b then Some s else find is_filled ss) ≡ None
    go true is there h rest = rest there (omega (arith, h)) old.1
    go false is there h rest = old_is now window s (sym (ap (λ b. b || nat_le window (age now s)) is) ∙ old.0)

-- ---- the chunk by another time

module _ (now window k : ℕ) (ss : List Segment) (free : too_young now window (find is_filled ss) ≡ None) (is : IsChunk now window 64 ss k) (within : k ≤ length ss) where
  abbrev m : ℕ
  m = newest_in (take k ss)

  front_old : AreOld now window (take k ss)
  front_old = elim (is.may) [
    | inl goes ↦ goes.0
    | inr first ↦ subst (λ n. AreOld now window (take n ss)) (sym first) (first_old now window ss free)
  ]

  some : find is_filled ss ≢ None
  some e = none_some (sym (ap (too_young now window) e) ∙ free)
    where
      none_some : (let o : Option FreezeFault = Some Nothing in o ≡ None) → ⊥
      none_some h = none-some Nothing (sym h)

  reach : window ≤ now - m
  reach = all (take k ss) front_old
    where
      back : window ≤ now
      back = window_reaches now window ss free

      all : (front : List Segment) → AreOld now window front → window ≤ now - newest_in front
      all [] old = omega (arith, back)
      all (s ∷ rest) old = let a = one s old.0 in let b = all rest old.1 in omega (arith, a, b)
        where
          one : (s : Segment) → is_old now window s ≡ true → window ≤ now - newest_of s
          one s old = go (s.count == 0) old
            where
              go : (b : Bool) → (b || nat_le window (now - s.newest)) ≡ true → window ≤ now - (if b then 0 else s.newest)
              go true h = omega (arith, back)
              go false h = leb-true window (now - s.newest) h

  module _ (later window2 : ℕ) (old2 : AreOld later window2 (take k ss)) (longer : (n : ℕ) → AreOld later window2 (take n ss) → AreOld now window (take n ss)) where
    is2 : IsChunk later window2 64 ss k
    is2 = record {
      reaches = is.reaches;
      needed = is.needed;
      may = elim (is.may) [ inl goes ↦ inl (old2, goes.1) | inr first ↦ inr first ];
      longest = λ n low goes. is.longest n low (longer n goes.0, goes.1);
    }

    pub same_chunk : (too_young later window2 (find is_filled ss) ≡ None) × (chunk_length later window2 64 ss ≡ k)
    same_chunk = (
      first_goes later window2 k ss None some is.reaches old2,
      one_chunk later window2 64 ss (chunk_length later window2 64 ss) k (chunk_within later window2 64 ss) within (chunks_are_longest later window2 64 ss) is2,
    )

  pub by_newest : (too_young (m + 1) 1 (find is_filled ss) ≡ None) × (chunk_length (m + 1) 1 64 ss ≡ k)
  by_newest = same_chunk (m + 1) 1 (all_by_time m (take k ss) (omega arith)) (λ n old. all_by_any m now window (take n ss) reach old)

  pub by_none : newest_in ss ≤ m → (too_young 0 0 (find is_filled ss) ≡ None) × (chunk_length 0 0 64 ss ≡ k)
  by_none low = same_chunk 0 0 (all_by_nothing (take k ss)) (λ n old. old_taken now window n ss (all_by_any m now window ss reach (all_by_time m ss low)))

-- ---- a freeze

not_refused : (o : Option Frozen) (now window : ℕ) (ss : List Segment) → freeze_refusal o now window ss ≡ None → (o ≡ None) × (too_young now window (find is_filled ss) ≡ None)
not_refused None now window ss e = (refl, e)
not_refused (Some chunk) now window ss e = absurd (none-some (FreezeFault.Frozen chunk.number chunk.home) (sym e))

next_by : (log : LogState) (now window number last k : ℕ) → log.frozen ≡ None → (too_young now window (find is_filled log.segments) ≡ None) × (chunk_length now window 64 log.segments ≡ k) → number ≡ log.chunks + 1 → number ≤ 4294967295
    → last ≡ end_of (take k log.segments) → (let ok : ℕ × ℕ → Result (ℕ × ℕ) Refused = λ p. Ok p in next_chunk log now window ≡ ok (number, last))
next_by log now window number last k none again next few ends =
    let free : freeze_refusal log.frozen now window log.segments ≡ None = ap (λ (o : Option Frozen). freeze_refusal o now window log.segments) none ∙ again.0 in
    let low : nat_le 4294967295 log.chunks ≡ false = lt-leb 4294967295 log.chunks (omega (arith, next, few)) in
    let at : last_to_go now window log.segments ≡ last = ap (λ n. end_of (take n log.segments)) again.1 ∙ sym ends in
    ap (λ (o : Option FreezeFault). chunk_by o log now window) free ∙ ap (λ (b : Bool). let r : Result (ℕ × ℕ) Refused = if b then Err JournalFull else Ok (log.chunks + 1, last_to_go now window log.segments) in r) low
    ∙ (λ i. Ok (sym next i, at i))

-- a freeze that may follow is found again
pub found_again : (log : LogState) (number last : ℕ) → ArePartedBy log.segments log.records → MayFreeze log number last
    → (let ok : ℕ × ℕ → Result (ℕ × ℕ) Refused = λ p. Ok p in next_chunk log (time_of last log.segments).0 (time_of last log.segments).1 ≡ ok (number, last))
found_again log number last parted may = by (nat_lt (newest_in (take (ended_by last ss) ss)) (newest_in ss)) refl
  where
    ss : List Segment
    ss = log.segments

    k : ℕ
    k = chunk_length may.now may.window 64 ss

    free : (log.frozen ≡ None) × (too_young may.now may.window (find is_filled ss) ≡ None)
    free = not_refused log.frozen may.now may.window ss may.goes

    within : k ≤ length ss
    within = chunk_within may.now may.window 64 ss

    is : IsChunk may.now may.window 64 ss k
    is = chunks_are_longest may.now may.window 64 ss

    ended : ended_by last ss ≡ k
    ended = ap (λ n. ended_by n ss) may.ends ∙ ended_front k ss (parted_turn ss log.records parted) (may_go log.frozen may.now may.window 64 ss may.goes).0 within

    same : newest_in (take (ended_by last ss) ss) ≡ newest_in (take k ss)
    same = ap (λ n. newest_in (take n ss)) ended

    next : (now window : ℕ) → (too_young now window (find is_filled ss) ≡ None) × (chunk_length now window 64 ss ≡ k) → (let ok : ℕ × ℕ → Result (ℕ × ℕ) Refused = λ p. Ok p in next_chunk log now window ≡ ok (number, last))
    next now window again = next_by log now window number last k free.0 again may.next may.few may.ends

    time : Bool → ℕ × ℕ
    time b = if b then (newest_in (take (ended_by last ss) ss) + 1, 1) else (0, 0)

    by : (b : Bool) → nat_lt (newest_in (take (ended_by last ss) ss)) (newest_in ss) ≡ b → (let ok : ℕ × ℕ → Result (ℕ × ℕ) Refused = λ p. Ok p in next_chunk log (time b).0 (time b).1 ≡ ok (number, last))
    by true lt = next (newest_in (take (ended_by last ss) ss) + 1) 1 (subst (λ n. (too_young (n + 1) 1 (find is_filled ss) ≡ None) × (chunk_length (n + 1) 1 64 ss ≡ k)) (sym same) (by_newest may.now may.window k ss free.1 is within))
    by false lt = next 0 0 (by_none may.now may.window k ss free.1 is within (let low = ltb-false (newest_in (take (ended_by last ss) ss)) (newest_in ss) lt in omega (arith, low, same)))
