-- The front that goes as a chunk is the longest that may go.
use Rattle.std.proofs.Common.{◌≡◌, ℕ, zero, suc, ◌+◌, ◌-◌, ◌<◌, ◌≤◌, ◌==◌, Bool, true, false, cond, not, ◌&&◌, List, [], ◌∷◌, take, length, refl, sym, ap, ◌∙◌, subst, arith, inl, inr, ◌⊎◌, max}
use Rattle.std.specs.Prelude.{nat_le}
use Rattle.std.proofs.lemmas.Bool.{and_parts, and_from, false≢true}
use Rattle.std.proofs.lemmas.Bool.Decides.{nat_tests}
use Rattle.coda_cml.specs.declared.segment.Segment.{Segment}
use Rattle.coda_cml.specs.Chunks.{is_filled, is_old, old_front, first_filled}
use Rattle.coda_cml.specs.Longest.{total, MayGo, ChunksAreLongest}

le_test : (m n : ℕ) → nat_le m n ≡ true → m ≤ n
le_test m n h = grind (arith, nat_tests)

test_le : (m n : ℕ) → m ≤ n → nat_le m n ≡ true
test_le m n h = grind (arith, nat_tests)

-- the front that is chosen may go
old_may : (now window cap : ℕ) (ss : List Segment) → MayGo now window cap (take (old_front now window cap ss) ss)
old_may now window cap [] = (tt, omega arith)
old_may now window cap (s ∷ ss) = go (is_old now window s && nat_le s.count cap) refl (old_may now window (cap - s.count) ss)
  where
    rest : ℕ
    rest = old_front now window (cap - s.count) ss

    go : (b : Bool) → (is_old now window s && nat_le s.count cap) ≡ b → MayGo now window (cap - s.count) (take rest ss) → MayGo now window cap (take (cond b (1 + rest) 0) (s ∷ ss))
    go true e may =
        let both = and_parts (is_old now window s) (nat_le s.count cap) e in
        let within = le_test s.count cap both.1 in
        let next : suc rest ≡ 1 + rest = omega arith in
        subst (λ (k : ℕ). MayGo now window cap (take k (s ∷ ss))) next ((both.0, may.0), omega (arith, within, may.1))
    go false e may = (tt, omega arith)

-- and no longer one may
old_longest : (now window cap : ℕ) (ss : List Segment) (n : ℕ) → n ≤ length ss → MayGo now window cap (take n ss) → n ≤ old_front now window cap ss
old_longest now window cap [] n le may = omega (arith, le)
old_longest now window cap (s ∷ ss) zero le may = omega arith
old_longest now window cap (s ∷ ss) (suc n) le may =
    let fits : s.count ≤ cap = omega (arith, may.1) in
    let test : (is_old now window s && nat_le s.count cap) ≡ true = and_from (is_old now window s) (nat_le s.count cap) may.0.0 (test_le s.count cap fits) in
    let rest = old_longest now window (cap - s.count) ss n (omega (arith, le)) (may.0.1, omega (arith, may.1)) in
    subst (λ (b : Bool). suc n ≤ cond b (1 + old_front now window (cap - s.count) ss) 0) (sym test) (omega (arith, rest))

-- a segment that isn't filled has no record
not_filled : (n : ℕ) → not (n == 0) ≡ false → n ≡ 0
not_filled zero e = refl
not_filled (suc n) e = let some : (suc n == 0) ≡ false = grind (arith, nat_tests) in absurd (false≢true (sym e ∙ ap not some))

-- before the first segment with a record there is none
none_before : (ss : List Segment) (n : ℕ) → n < first_filled ss → total (take n ss) ≡ 0
none_before [] n h = absurd (omega (arith, h))
none_before (s ∷ ss) zero h = refl
none_before (s ∷ ss) (suc n) h = go (is_filled s) refl h (none_before ss n)
  where
    go : (b : Bool) → is_filled s ≡ b → suc n < cond b 1 (1 + first_filled ss) → (n < first_filled ss → total (take n ss) ≡ 0) → s.count + total (take n ss) ≡ 0
    go true e h rest = absurd (omega (arith, h))
    go false e h rest = let empty = not_filled s.count e in let none = rest (omega (arith, h)) in omega (arith, empty, none)

pub chunks_are_longest : ChunksAreLongest
chunks_are_longest now window cap ss = record {
  reaches = omega arith;
  needed = none_before ss;
  may = go (nat_le (first_filled ss) old) refl;
  longest = λ n le may. let most = old_longest now window cap ss n le may in omega (arith, most);
}
  where
    old : ℕ
    old = old_front now window cap ss

    go : (b : Bool) → nat_le (first_filled ss) old ≡ b → MayGo now window cap (take (max old (first_filled ss)) ss) ⊎ (max old (first_filled ss) ≡ first_filled ss)
    go true e = let more = le_test (first_filled ss) old e in let same : old ≡ max old (first_filled ss) = omega (arith, more) in inl (subst (λ (k : ℕ). MayGo now window cap (take k ss)) same (old_may now window cap ss))
    go false e = let less : old ≤ first_filled ss = grind (arith, nat_tests) in inr (omega (arith, less))
