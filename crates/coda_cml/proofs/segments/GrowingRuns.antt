-- The segments of a run that goes on.
use Rattle.std.proofs.Common.{◌≡◌, ℕ, Bool, true, false, cond, not, ◌&&◌, ◌||◌, List, [], ◌∷◌, ◌++◌, Option, Some, None, map, refl, sym, ap, ◌∙◌, subst, append_assoc, arith}
use Rattle.std.specs.Prelude.{nat_le, nat_lt}
use Rattle.std.specs.List.{list_any}
use Rattle.std.proofs.lemmas.Bool.Decides.{nat_tests}
use Rattle.coda_fid.specs.declared.op.Record.{Record}
use Rattle.coda_cancel.specs.Cancel.{add, added, fold}
use Rattle.coda_cancel.specs.Numbers.{dropped, lesser, least, AreUpTo, IsRising}
use Rattle.coda_cancel.specs.Joins.{noted}
use Rattle.coda_cancel.proofs.Rising.{rising_before, upto_push}
use Rattle.coda_cml.specs.declared.segment.Segment.{Segment}
use Rattle.coda_cml.specs.Segments.{is_joined, single, segments_of}
use Rattle.coda_cml.specs.Regrouping.{is_inside, widen_front, rejoined, recounted}
use Rattle.coda_cml.specs.Steps.{segments_after}
use Rattle.coda_cml.proofs.runs.ThawedFold.{added-append}
use Rattle.coda_cml.proofs.runs.JoinedNumbers.{cut_test}
use Rattle.coda_cml.proofs.runs.CutsAfterThaw.{none_up}
use Rattle.coda_cml.proofs.segments.RangesWithoutCounts.{bare, bared, ranges_by, ranges-fewer, ranges-append, EndsAt, bared-segments, bared-rejoined, bared-append, recounted-bared}
use Rattle.coda_cml.proofs.runs.WhatIsLeft.{left_fold}
use Rattle.coda_cml.proofs.segments.CountedRanges.{recounted-ranges}

-- where a segment of the run may end
abbrev pub ends : List Record → ℕ → Bool
ends os n = not (is_joined n [] os)

-- behind the last operation a run may be cut
pub ends_at : (c : ℕ → Bool) (before os : List Record) → IsRising (before ++ os) → ((n : ℕ) → AreUpTo n (before ++ os) → c n ≡ true) → EndsAt c os
ends_at c before [] r h = tt
ends_at c before (o ∷ []) r h = h o.number (upto_push o.number before o (rising_before before o [] r).1 refl)
ends_at c before (o ∷ p ∷ os) r h = ends_at c (before ++ o ∷ []) (p ∷ os) (subst IsRising (sym (append_assoc before (o ∷ []) (p ∷ os))) r) (λ n a. h n (subst (AreUpTo n) (append_assoc before (o ∷ []) (p ∷ os)) a))

pub run_ends : (os : List Record) → IsRising os → EndsAt (ends os) os
run_ends os r = ends_at (ends os) [] os r (λ n a. ap not (cut_test n [] os (none_up n [] os a)))

-- counts and ends, as the code keeps them
pub regrouped : (ks os : List Record) (c : ℕ → Bool) (g : ℕ → Bool) (ss : List Segment) → map bared ss ≡ ranges_by c os → recounted ks (rejoined g ss) ≡ recounted ks (ranges_by (λ n. c n && not (g n)) os)
regrouped ks os c g ss e = sym (recounted-bared ks (rejoined g ss)) ∙ ap (recounted ks) (bared-rejoined g ss ∙ ap (rejoined g) e ∙ ranges-fewer c g os)

-- the least of the numbers, if there is one, is up to n
abbrev pub within : Option ℕ → ℕ → Bool
within None n = false
within (Some l) n = nat_le l n

either_least : (n x l : ℕ) (b : Bool) → nat_le x l ≡ b → (nat_le x n || nat_le l n) ≡ nat_le (cond b x l) n
either_least n x l true e = grind (arith, nat_tests)
either_least n x l false e = grind (arith, nat_tests)

or_none : (b : Bool) → (b || false) ≡ b
or_none true = refl
or_none false = refl

pub any_least : (n : ℕ) (xs : List ℕ) → list_any (λ i. nat_le i n) xs ≡ within (least xs) n
any_least n [] = refl
any_least n (x ∷ xs) = go (least xs) (any_least n xs)
  where
    go : (o : Option ℕ) → list_any (λ i. nat_le i n) xs ≡ within o n → (nat_le x n || list_any (λ i. nat_le i n) xs) ≡ nat_le (lesser x o) n
    go None e = ap (λ b. nat_le x n || b) e ∙ or_none (nat_le x n)
    go (Some l) e = ap (λ b. nat_le x n || b) e ∙ either_least n x l (nat_le x l) refl

-- an operation joins what its note says
pub noted_joins : (o : Record) (rs : List Record) (n : ℕ) → is_inside (noted o.number (least (dropped rs o))) n ≡ (nat_lt n o.number && list_any (λ i. nat_le i n) (dropped rs o))
noted_joins o rs n = go (least (dropped rs o)) (any_least n (dropped rs o))
  where
    turn : (a b : Bool) → ((a && b) || false) ≡ (b && a)
    turn true true = refl
    turn true false = refl
    turn false true = refl
    turn false false = refl

    none : (a : Bool) → false ≡ (a && false)
    none true = refl
    none false = refl

    go : (l : Option ℕ) → list_any (λ i. nat_le i n) (dropped rs o) ≡ within l n → is_inside (noted o.number l) n ≡ (nat_lt n o.number && list_any (λ i. nat_le i n) (dropped rs o))
    go None e = none (nat_lt n o.number) ∙ ap (λ b. nat_lt n o.number && b) (sym e)
    go (Some l) e = turn (nat_le l n) (nat_lt n o.number) ∙ ap (λ b. nat_lt n o.number && b) (sym e)

pub joined-append : (n : ℕ) (rs os more : List Record) → is_joined n rs (os ++ more) ≡ (is_joined n rs os || is_joined n (added rs os) more)
joined-append n rs [] more = refl
joined-append n rs (o ∷ os) more =
    ap (λ b. (nat_lt n o.number && list_any (λ i. nat_le i n) (dropped rs o)) || b) (joined-append n (add rs o) os more)
    ∙ or_more (nat_lt n o.number && list_any (λ i. nat_le i n) (dropped rs o)) (is_joined n (add rs o) os) (is_joined n (added (add rs o) os) more)
  where
    or_more : (a b d : Bool) → (a || (b || d)) ≡ ((a || b) || d)
    or_more true b d = refl
    or_more false b d = refl

-- one more operation
ends_after : (os : List Record) (o : Record) → (λ n. ends os n && not (is_inside (noted o.number (least (dropped (fold os) o))) n)) ≡ ends (os ++ o ∷ [])
ends_after os o i n = at n i
  where
    both : (a b : Bool) → (not a && not b) ≡ not (a || (b || false))
    both true true = refl
    both true false = refl
    both false true = refl
    both false false = refl

    at : (n : ℕ) → (ends os n && not (is_inside (noted o.number (least (dropped (fold os) o))) n)) ≡ ends (os ++ o ∷ []) n
    at n = ap (λ b. ends os n && not b) (noted_joins o (fold os) n)
        ∙ both (is_joined n [] os) (nat_lt n o.number && list_any (λ i. nat_le i n) (dropped (fold os) o))
        ∙ ap not (sym (joined-append n [] os (o ∷ [])))

alone : (b : Bool) (o : Record) → widen_front b (bare o) [] ≡ bare o ∷ []
alone true o = refl
alone false o = refl

last_range : (os : List Record) (o : Record) → IsRising (os ++ o ∷ []) → ranges_by (ends os) os ++ bare o ∷ [] ≡ ranges_by (ends os) (os ++ o ∷ [])
last_range os o r = ap (λ l. ranges_by (ends os) os ++ l) (sym (alone (ends os o.number) o)) ∙ sym (ranges-append (ends os) os (o ∷ []) (run_ends os (rising_before os o [] r).0))

pub segments-after : (os : List Record) (o : Record) → IsRising (os ++ o ∷ []) → segments_after (segments_of os) (fold os) o ≡ segments_of (os ++ o ∷ [])
segments-after os o r =
    let g : ℕ → Bool = is_inside (noted o.number (least (dropped (fold os) o))) in
    let ks : List Record = add (fold os) o in
    let e : map bared (segments_of os ++ single [] o ∷ []) ≡ ranges_by (ends os) (os ++ o ∷ []) =
    bared-append (segments_of os) (single [] o ∷ []) ∙ ap (λ l. l ++ bare o ∷ []) (bared-segments (ends os) (fold os) os) ∙ last_range os o r in
    let folded : fold (os ++ o ∷ []) ≡ add (fold os) o = added-append [] os (o ∷ []) in
    regrouped ks (os ++ o ∷ []) (ends os) g (segments_of os ++ single [] o ∷ []) e
    ∙ (λ i. recounted (sym folded i) (ranges_by (ends_after os o i) (os ++ o ∷ [])))
    ∙ recounted-ranges (ends (os ++ o ∷ [])) (os ++ o ∷ []) (fold (os ++ o ∷ [])) (left_fold (os ++ o ∷ [])) r
