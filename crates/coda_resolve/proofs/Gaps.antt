-- Numbers that are looked for one after the other.
use Rattle.std.proofs.Common.{◌≡◌, ℕ, ◌+◌, ◌-◌, ◌<◌, suc, Bool, true, false, not, cond, List, [], ◌∷◌, Option, Some, None, map, refl, ap, ◌∙◌, arith}
use Rattle.std.specs.Option.{option_map, option_or}
use Rattle.std.specs.List.{find, flat_map, range_with_len}
use Rattle.std.specs.BTreeSet.{BTreeSet}
use Rattle.std.proofs.lemmas.List.Folds.{find-append}
use Rattle.coda_resolve.specs.declared.stamps.Stamp.{Stamp}
use Rattle.coda_resolve.specs.Copies.{Copies, log_of}
use Rattle.coda_resolve.specs.Missing.{fewest, most, gaps_of, gaps, is_logged, wrapped}
use Rattle.coda_resolve.specs.Stamps.{has_stamp, AreStamps, first_absent, absent_from}

at_equal : (t : ℕ → Bool) (a b m n : ℕ) → a ≡ b → m ≡ n → find t (range_with_len a m) ≡ find t (range_with_len b n)
at_equal t a b m n e h = λ i. find t (range_with_len (e i) (h i))

at_first : (t : ℕ → Bool) (a n : ℕ) → t a ≡ false → find t (range_with_len a (suc n)) ≡ find t (range_with_len (a + 1) n)
at_first t a n e = ap (λ b. cond b (Some a) (find t (range_with_len (a + 1) n))) e

-- a number that doesn't pass is left behind
pub none_here : (t : ℕ → Bool) (from step many : ℕ) → step < many → t (from + step + 1) ≡ false → find t (range_with_len (from + step + 1) (many - step)) ≡ find t (range_with_len (from + (step + 1) + 1) (many - (step + 1)))
none_here t from step many lt e =
    at_equal t (from + step + 1) (from + step + 1) (many - step) (suc (many - (step + 1))) refl (omega arith)
    ∙ at_first t (from + step + 1) (many - (step + 1)) e
    ∙ at_equal t (from + step + 1 + 1) (from + (step + 1) + 1) (many - (step + 1)) (many - (step + 1)) (omega arith) refl

abbrev pair : ℕ → ℕ → ℕ × ℕ
pair a b = (a, b)

-- ---- servers, one after the other

find_mapped : {A B : Type 0} (t : B → Bool) (h : A → B) (xs : List A) → find t (map h xs) ≡ option_map h (find (λ x. t (h x)) xs)
find_mapped t h [] = refl
find_mapped t h (x ∷ xs) = by (t (h x)) (find_mapped t h xs)
  where
    by : (b : Bool) → find t (map h xs) ≡ option_map h (find (λ y. t (h y)) xs) → cond b (Some (h x)) (find t (map h xs)) ≡ option_map h (cond b (Some x) (find (λ y. t (h y)) xs))
    by true e = refl
    by false e = e

-- a test that passes alike finds alike
pub find_alike : {A : Type 0} (t u : A → Bool) (xs : List A) → ((x : A) → t x ≡ u x) → find t xs ≡ find u xs
find_alike t u [] h = refl
find_alike t u (x ∷ xs) h = λ i. cond (h x i) (Some x) (find_alike t u xs h i)

module _ (stamps : BTreeSet Stamp) (copies : Copies) where
  abbrev absent : ℕ × ℕ → Bool
  absent gap = not (has_stamp stamps gap.0 gap.1)

  of_server : (origin : ℕ) (o : Option ℕ) → first_absent stamps copies origin ≡ o → find absent (gaps_of copies origin) ≡ option_map (λ seq. pair origin seq) o
  of_server origin o e = find_mapped absent (λ seq. pair origin seq) (range_with_len (fewest origin copies + 1) (most origin copies - fewest origin copies)) ∙ ap (option_map (λ seq. pair origin seq)) e

  from_server : (origin left : ℕ) → origin < 9 → left ≡ 9 - origin → absent_from stamps copies origin left ≡ option_or (find absent (gaps_of copies origin)) (absent_from stamps copies (origin + 1) (9 - (origin + 1)))
  unfolding absent_from
  from_server origin left lt e =
      (λ i. find absent (flat_map (gaps_of copies) (range_with_len origin (more i))))
      ∙ find-append absent (gaps_of copies origin) (flat_map (gaps_of copies) (range_with_len (origin + 1) (9 - (origin + 1))))
    where
      more : left ≡ suc (9 - (origin + 1))
      more = omega arith

  pub next_server : (origin : ℕ) → origin < 9 → first_absent stamps copies origin ≡ None → absent_from stamps copies origin (9 - origin) ≡ absent_from stamps copies (origin + 1) (9 - (origin + 1))
  next_server origin lt e = from_server origin (9 - origin) lt refl ∙ ap (λ o. option_or o (absent_from stamps copies (origin + 1) (9 - (origin + 1)))) (of_server origin None e)

  pub this_server : (origin seq : ℕ) → origin < 9 → first_absent stamps copies origin ≡ Some seq → absent_from stamps copies origin (9 - origin) ≡ Some (origin, seq)
  this_server origin seq lt e = from_server origin (9 - origin) lt refl ∙ ap (λ o. option_or o (absent_from stamps copies (origin + 1) (9 - (origin + 1)))) (of_server origin (Some seq) e)

  pub no_server : (left : ℕ) → left ≡ 0 → (origin : ℕ) → absent_from stamps copies origin left ≡ None
  unfolding absent_from
  no_server left e origin = λ i. find absent (flat_map (gaps_of copies) (range_with_len origin (e i)))

-- an update is absent from the set of all logs just where it stands in no log
pub absent_unlogged : (stamps : BTreeSet Stamp) (copies : Copies) → AreStamps stamps (flat_map log_of copies) → absent_from stamps copies 1 8 ≡ wrapped copies
unfolding absent_from
absent_unlogged stamps copies are = find_alike (λ (gap : ℕ × ℕ). not (has_stamp stamps gap.0 gap.1)) (λ gap. not (is_logged copies gap)) (gaps copies) (λ gap. ap not (are gap.0 gap.1))
