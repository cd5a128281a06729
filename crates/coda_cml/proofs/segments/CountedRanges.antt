-- The records of a run, counted along its segments.
use Rattle.std.proofs.Common.{◌≡◌, ℕ, suc, ◌+◌, ◌<◌, ◌≤◌, Bool, true, false, cond, List, [], ◌∷◌, ◌==◌, inl, inr, drop, refl, sym, ap, ◌∙◌, subst, zero-add, arith}
use Rattle.std.specs.Prelude.{nat_le, max}
use Rattle.std.proofs.lemmas.Bool.Decides.{nat_tests}
use Rattle.coda_fid.specs.declared.op.Record.{Record}
use Rattle.coda_cancel.specs.Numbers.{AreAbove, IsRising}
use Rattle.coda_cml.specs.declared.segment.Segment.{Segment}
use Rattle.coda_cml.specs.Segments.{put_front, single, count_of, segments_by}
use Rattle.coda_cml.specs.Regrouping.{widen_front, leading, recounted}
use Rattle.coda_cml.proofs.segments.RangesWithoutCounts.{bare, ranges_by}
use Rattle.coda_cml.proofs.runs.WhatIsLeft.{IsLeft, left_above}

-- a record with a smaller number isn't counted
not_equal : (m n : ℕ) → m < n → (m == n) ≡ false
not_equal m n h = grind (arith, nat_tests)

equal : (n : ℕ) → (n == n) ≡ true
equal n = grind (arith, nat_tests)

pub segments_past : (c : ℕ → Bool) (k : Record) (ks os : List Record) → AreAbove k.number os → segments_by c (k ∷ ks) os ≡ segments_by c ks os
segments_past c k ks [] a = refl
segments_past c k ks (o ∷ os) a =
    let n : cond (k.number == o.number) 1 0 + count_of o.number ks ≡ count_of o.number ks = ap (λ b. cond b 1 0 + count_of o.number ks) (not_equal k.number o.number a.0) ∙ zero-add (count_of o.number ks) in
    λ i. put_front (c o.number) (record { first = o.number; last = o.number; count = n i; newest = o.time }) (segments_past c k ks os a.1 i)

none_counted : (n : ℕ) (ks : List Record) → AreAbove n ks → count_of n ks ≡ 0
none_counted n [] a = refl
none_counted n (k ∷ ks) a = let e : (k.number == n) ≡ false = grind (arith, nat_tests) in (λ i. cond (e i) 1 0 + none_counted n ks a.1 i)

none_leading : (n : ℕ) (ks : List Record) → AreAbove n ks → leading n ks ≡ 0
none_leading n [] a = refl
none_leading n (k ∷ ks) a = let e : nat_le k.number n ≡ false = grind (arith, nat_tests) in ap (λ b. cond b (1 + leading n ks) 0) e

one_leading : (m n : ℕ) → m ≤ n → nat_le m n ≡ true
one_leading m n h = grind (arith, nat_tests)

-- each segment ends above a number that the run is above
abbrev LastsAbove : ℕ → List Segment → Type 0
LastsAbove n [] = Unit {0}
LastsAbove n (s ∷ ss) = (n < s.last) × LastsAbove n ss

lasts_above : (n : ℕ) (c : ℕ → Bool) (os : List Record) → AreAbove n os → LastsAbove n (ranges_by c os)
lasts_above n c [] a = tt
lasts_above n c (o ∷ os) a = go (c o.number) (ranges_by c os) (lasts_above n c os a.1)
  where
    go : (b : Bool) (ss : List Segment) → LastsAbove n ss → LastsAbove n (widen_front b (bare o) ss)
    go true ss h = (a.0, h)
    go false [] h = (a.0, tt)
    go false (t ∷ ts) h = h

-- an operation of which nothing is left
count_gone : (b : Bool) (o : Record) (ks : List Record) (rs : List Segment) → AreAbove o.number ks → recounted ks (widen_front b (bare o) rs) ≡ put_front b (single ks o) (recounted ks rs)
count_gone b o ks rs a = go b rs
  where
    n : count_of o.number ks ≡ 0
    n = none_counted o.number ks a

    l : leading o.number ks ≡ 0
    l = none_leading o.number ks a

    one : (rs : List Segment) → recounted ks (bare o ∷ rs) ≡ single ks o ∷ recounted ks rs
    one rs = (λ i. record { first = o.number; last = o.number; count = l i; newest = o.time } ∷ recounted (drop (l i) ks) rs) ∙ (λ i. record { first = o.number; last = o.number; count = sym n i; newest = o.time } ∷ recounted ks rs)

    go : (b : Bool) (rs : List Segment) → recounted ks (widen_front b (bare o) rs) ≡ put_front b (single ks o) (recounted ks rs)
    go true rs = one rs
    go false [] = one []
    go false (t ∷ ts) =
        let m : leading t.last ks ≡ count_of o.number ks + leading t.last ks = sym (ap (λ x. x + leading t.last ks) n ∙ zero-add (leading t.last ks)) in
        λ i. record { first = o.number; last = t.last; count = m i; newest = max o.time t.newest } ∷ recounted (drop (leading t.last ks) ks) ts

-- one of which its record is left
count_left : (b : Bool) (o k : Record) (ks : List Record) (rs : List Segment) → k.number ≡ o.number → AreAbove o.number ks → LastsAbove o.number rs → recounted (k ∷ ks) (widen_front b (bare o) rs) ≡ put_front b (single (k ∷ ks) o) (recounted ks rs)
count_left b o k ks rs e a h = go b rs h
  where
    n : count_of o.number (k ∷ ks) ≡ 1
    n = let z = none_counted o.number ks a in let t : (k.number == o.number) ≡ true = grind (arith, nat_tests) in ap (λ x. cond x 1 0 + count_of o.number ks) t ∙ omega arith

    l : leading o.number (k ∷ ks) ≡ 1
    l = let z = none_leading o.number ks a in let t : nat_le k.number o.number ≡ true = grind (arith, nat_tests) in ap (λ x. cond x (1 + leading o.number ks) 0) t ∙ omega arith

    one : (rs : List Segment) → recounted (k ∷ ks) (bare o ∷ rs) ≡ single (k ∷ ks) o ∷ recounted ks rs
    one rs = (λ i. record { first = o.number; last = o.number; count = l i; newest = o.time } ∷ recounted (drop (l i) (k ∷ ks)) rs) ∙ (λ i. record { first = o.number; last = o.number; count = sym n i; newest = o.time } ∷ recounted ks rs)

    go : (b : Bool) (rs : List Segment) → LastsAbove o.number rs → recounted (k ∷ ks) (widen_front b (bare o) rs) ≡ put_front b (single (k ∷ ks) o) (recounted ks rs)
    go true rs h = one rs
    go false [] h = one []
    go false (t ∷ ts) h =
        let p : nat_le k.number t.last ≡ true = one_leading k.number t.last (let u = h.0 in omega arith) in
        let q : cond (nat_le k.number t.last) (1 + leading t.last ks) 0 ≡ suc (leading t.last ks) = ap (λ x. cond x (1 + leading t.last ks) 0) p ∙ omega arith in
        let m : suc (leading t.last ks) ≡ count_of o.number (k ∷ ks) + leading t.last ks = omega (arith, n) in
        (λ i. record { first = o.number; last = t.last; count = q i; newest = max o.time t.newest } ∷ recounted (drop (q i) (k ∷ ks)) ts)
        ∙ (λ i. record { first = o.number; last = t.last; count = m i; newest = max o.time t.newest } ∷ recounted (drop (leading t.last ks) ks) ts)

-- counting along the records is counting by numbers
pub recounted-ranges : (c : ℕ → Bool) (os ks : List Record) → IsLeft ks os → IsRising os → recounted ks (ranges_by c os) ≡ segments_by c ks os
recounted-ranges c [] ks h r = refl
recounted-ranges c (o ∷ os) ks (inl h) r = count_gone (c o.number) o ks (ranges_by c os) (left_above o.number ks os h r.0) ∙ ap (put_front (c o.number) (single ks o)) (recounted-ranges c os ks h r.1)
recounted-ranges c (o ∷ os) ks (inr h) r =
    let k = h.0 in let rest = h.1 in
    let step : recounted (k ∷ rest) (ranges_by c (o ∷ os)) ≡ segments_by c (k ∷ rest) (o ∷ os) =
    count_left (c o.number) o k rest (ranges_by c os) h.3 (left_above o.number rest os h.4 r.0) (lasts_above o.number c os r.0)
    ∙ ap (put_front (c o.number) (single (k ∷ rest) o)) (recounted-ranges c os rest h.4 r.1 ∙ sym (segments_past c k rest os (subst (λ m. AreAbove m os) (sym h.3) r.0))) in
    ap (λ l. recounted l (ranges_by c (o ∷ os))) h.2 ∙ step ∙ ap (λ l. segments_by c l (o ∷ os)) (sym h.2)
