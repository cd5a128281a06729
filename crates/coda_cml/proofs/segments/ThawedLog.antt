-- The log after a thaw.
use Rattle.std.proofs.Common.{◌≡◌, ℕ, ◌<◌, Bool, true, false, not, ◌&&◌, ◌||◌, List, [], ◌∷◌, ◌++◌, map, refl, sym, ap, ◌∙◌, arith}
use Rattle.std.specs.Prelude.{nat_le, nat_lt}
use Rattle.std.proofs.lemmas.Bool.{false≢true, true≢false}
use Rattle.coda_fid.specs.declared.op.Record.{Record}
use Rattle.coda_cancel.specs.declared.join.Join.{Join}
use Rattle.coda_cancel.specs.Cancel.{add, added, fold}
use Rattle.coda_cancel.specs.Numbers.{dropped, least, AreUpTo, AreAbove, IsRising}
use Rattle.coda_cancel.specs.Joins.{noted, joins_of}
use Rattle.coda_cml.specs.Steady.{IsSteady}
use Rattle.coda_cml.specs.Segments.{is_joined, segments_of}
use Rattle.coda_cml.specs.Regrouping.{is_inside, widen_front, rejoined, recounted}
use Rattle.coda_cml.specs.State.{LogState, IsLogOf}
use Rattle.coda_cml.specs.Steps.{thawed}
use Rattle.coda_cml.proofs.runs.JoinedNumbers.{cut_fact, cut_test}
use Rattle.coda_cml.proofs.runs.ThawedFold.{thaw}
use Rattle.coda_cml.proofs.runs.CutsAfterThaw.{none_up, none_above, cuts}
use Rattle.coda_cml.proofs.segments.RangesWithoutCounts.{bare, bared, ranges_by, ranges-append, EndsAt, bared-segments, bared-append}
use Rattle.coda_cml.proofs.runs.WhatIsLeft.{left_fold}
use Rattle.coda_cml.proofs.segments.CountedRanges.{recounted-ranges}
use Rattle.coda_cml.proofs.segments.GrowingRuns.{ends, run_ends, regrouped, noted_joins}
use Rattle.coda_cml.proofs.segments.FrozenFronts.{last_number, last_upto, last_above}

-- ---- what the added records join

inside-append : (js ks : List Join) (n : ℕ) → is_inside (js ++ ks) n ≡ (is_inside js n || is_inside ks n)
inside-append [] ks n = refl
inside-append (j ∷ js) ks n = ap (λ b. (nat_le j.least n && nat_lt n j.number) || b) (inside-append js ks n) ∙ or_more (nat_le j.least n && nat_lt n j.number) (is_inside js n) (is_inside ks n)
  where
    or_more : (a b d : Bool) → (a || (b || d)) ≡ ((a || b) || d)
    or_more true b d = refl
    or_more false b d = refl

inside_joins : (rs os : List Record) (n : ℕ) → is_inside (joins_of rs os) n ≡ is_joined n rs os
inside_joins rs [] n = refl
inside_joins rs (o ∷ os) n = inside-append (noted o.number (least (dropped rs o))) (joins_of (add rs o) os) n ∙ (λ i. noted_joins o rs n i || inside_joins (add rs o) os n i)

-- ---- where both parts end segments

above_behind : (m : ℕ) (os back : List Record) → AreAbove m (os ++ back) → AreAbove m back
above_behind m [] back a = a
above_behind m (o ∷ os) back a = above_behind m os back a.1

front_ranges : (c d : ℕ → Bool) (os back : List Record) → IsRising (os ++ back) → ((n : ℕ) → AreAbove n back → c n ≡ d n) → ranges_by c os ≡ ranges_by d os
front_ranges c d [] back r h = refl
front_ranges c d (o ∷ os) back r h = λ i. widen_front (h o.number (above_behind o.number os back r.0) i) (bare o) (front_ranges c d os back r.1 h i)

front_ends : (c d : ℕ → Bool) (os back : List Record) → IsRising (os ++ back) → ((n : ℕ) → AreAbove n back → c n ≡ d n) → EndsAt d os → EndsAt c os
front_ends c d [] back r h e = tt
front_ends c d (o ∷ []) back r h e = h o.number r.0 ∙ e
front_ends c d (o ∷ p ∷ os) back r h e = front_ends c d (p ∷ os) back r.1 h e

back_ranges : (c d : ℕ → Bool) (e : ℕ) (os : List Record) → AreAbove e os → ((n : ℕ) → e < n → c n ≡ d n) → ranges_by c os ≡ ranges_by d os
back_ranges c d e [] a h = refl
back_ranges c d e (o ∷ os) a h = λ i. widen_front (h o.number a.0 i) (bare o) (back_ranges c d e os a.1 h i)

both_ends : List Record → List Record → ℕ → Bool
both_ends front back n = ends front n && ends back n

and_true : (a b : Bool) → b ≡ true → (a && b) ≡ a
and_true true b e = e
and_true false b e = refl

true_and : (a b : Bool) → a ≡ true → (a && b) ≡ b
true_and true b e = refl
true_and false b e = absurd (false≢true e)

upto_greater : (e n : ℕ) → e < n → (rs : List Record) → AreUpTo e rs → AreUpTo n rs
upto_greater e n l [] a = tt
upto_greater e n l (r ∷ rs) a = (omega (arith, a.0), upto_greater e n l rs a.1)

in_front : (front back : List Record) (n : ℕ) → AreAbove n back → both_ends front back n ≡ ends front n
unfolding both_ends
in_front front back n a = and_true (ends front n) (ends back n) (ap not (cut_test n [] back (none_above n [] back tt a)))

in_back : (front back : List Record) → IsRising (front ++ back) → ranges_by (both_ends front back) back ≡ ranges_by (ends back) back
unfolding both_ends
in_back [] back r = refl
in_back (o ∷ os) back r = back_ranges (both_ends (o ∷ os) back) (ends back) (last_number o os) back (last_above o os back r)
    (λ n l. true_and (ends (o ∷ os) n) (ends back n) (ap not (cut_test n [] (o ∷ os) (none_up n [] (o ∷ os) (upto_greater (last_number o os) n l (o ∷ os) (last_upto o os back r))))))

parts : (front back : List Record) → IsRising (front ++ back) → IsRising front → map bared (segments_of front ++ segments_of back) ≡ ranges_by (both_ends front back) (front ++ back)
parts front back r f =
    bared-append (segments_of front) (segments_of back)
    ∙ (λ i. bared-segments (ends front) (fold front) front i ++ bared-segments (ends back) (fold back) back i)
    ∙ (λ i. sym (front_ranges (both_ends front back) (ends front) front back r (in_front front back)) i ++ sym (in_back front back r) i)
    ∙ sym (ranges-append (both_ends front back) front back (front_ends (both_ends front back) (ends front) front back r (in_front front back) (run_ends front f)))

four : (w f b t : Bool) → (w ≡ false → (f ≡ false) × (b ≡ false) × (t ≡ false)) → ((f ≡ false) × (b ≡ false) × (t ≡ false) → w ≡ false) → ((not f && not b) && not t) ≡ not w
four false f b t one two = let h = one refl in λ i. (not (h.0 i) && not (h.1 i)) && not (h.2 i)
four true true b t one two = refl
four true false true t one two = refl
four true false false true one two = refl
four true false false false one two = absurd (true≢false (two (refl, refl, refl)))

all_ends : (front back : List Record) → IsSteady (front ++ back) → IsRising (front ++ back) → (λ n. both_ends front back n && not (is_inside (joins_of (fold front) (fold back)) n)) ≡ ends (front ++ back)
unfolding both_ends
all_ends front back s r i n = at n i
  where
    at : (n : ℕ) → (both_ends front back n && not (is_inside (joins_of (fold front) (fold back)) n)) ≡ ends (front ++ back) n
    at n =
        let k = cuts n front back s r in
        ap (λ b. both_ends front back n && not b) (inside_joins (fold front) (fold back) n)
        ∙ four (is_joined n [] (front ++ back)) (is_joined n [] front) (is_joined n [] back) (is_joined n (fold front) (fold back))
        (λ h. let m = k.0 (cut_fact n [] (front ++ back) h) in (cut_test n [] front m.0, cut_test n [] back m.1, cut_test n (fold front) (fold back) m.2))
        (λ h. cut_test n [] (front ++ back) (k.1 (cut_fact n [] front h.0, cut_fact n [] back h.1, cut_fact n (fold front) (fold back) h.2)))

pub rising_front : (front back : List Record) → IsRising (front ++ back) → IsRising front
rising_front [] back r = tt
rising_front (o ∷ front) back r = (first o.number front back r.0, rising_front front back r.1)
  where
    first : (m : ℕ) (front back : List Record) → AreAbove m (front ++ back) → AreAbove m front
    first m [] back h = tt
    first m (x ∷ front) back h = (h.0, first m front back h.1)

segments-thawed : (front back : List Record) → IsSteady (front ++ back) → IsRising (front ++ back) →
    recounted (added (fold front) (fold back)) (rejoined (is_inside (joins_of (fold front) (fold back))) (segments_of front ++ segments_of back)) ≡ segments_of (front ++ back)
segments-thawed front back s r =
    regrouped (added (fold front) (fold back)) (front ++ back) (both_ends front back) (is_inside (joins_of (fold front) (fold back))) (segments_of front ++ segments_of back) (parts front back r (rising_front front back r))
    ∙ (λ i. recounted (thaw front back s i) (ranges_by (all_ends front back s r i) (front ++ back)))
    ∙ recounted-ranges (ends (front ++ back)) (front ++ back) (fold (front ++ back)) (left_fold (front ++ back)) r

-- the log of a steady run, thawed
pub thawed_log : (log : LogState) (front back : List Record) → IsLogOf log front back → IsSteady (front ++ back) → IsLogOf (thawed log) [] (front ++ back)
thawed_log log front back h s = record {
  rising = h.rising;
  reached = h.reached;
  thawed = λ e. refl;
  sent = λ e. refl;
  chunk = refl;
  chunk_segments = refl;
  records = (λ i. added (h.chunk i) (h.records i)) ∙ thaw front back s;
  segments = (λ i. recounted (added (h.chunk i) (h.records i)) (rejoined (is_inside (joins_of (h.chunk i) (h.records i))) (h.chunk_segments i ++ h.segments i))) ∙ segments-thawed front back s h.rising;
}
