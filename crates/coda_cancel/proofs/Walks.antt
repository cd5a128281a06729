-- Going over the records that mention an object, by their numbers: `upto` are those that were passed, `beyond` the others.
use Rattle.std.proofs.Common.{◌≡◌, ℕ, ◌<◌, ◌≤◌, Bool, true, false, cond, ◌&&◌, ◌||◌, ◌==◌, List, [], ◌∷◌, ◌++◌, Option, Some, None, length, refl, sym, ap, ◌∙◌, subst, arith, inl, inr, ◌⊎◌}
use Rattle.std.proofs.lemmas.Bool.{cases_order, le-leb, lt-leb, leb-true, leb-false, eq-eqb, ne_eqb, true≢false, false≢true, and_parts, and_left}
use Rattle.coda_fid.specs.declared.fid.Fid.{Fid}
use Rattle.coda_fid.specs.declared.op.Record.{Record}
use Rattle.coda_cancel.specs.Dropping.{mentioning}
use Rattle.coda_cancel.specs.Numbers.{AreAbove, IsRising}
use Rattle.coda_cancel.specs.Mentions.{tells, is_mentioned, is_upto, last_number}

abbrev pub upto : Option ℕ → List Record → List Record
upto a [] = []
upto a (r ∷ rs) = cond (is_upto a r.number) (r ∷ upto a rs) []

abbrev pub beyond : Option ℕ → List Record → List Record
beyond a [] = []
beyond a (r ∷ rs) = cond (is_upto a r.number) (beyond a rs) (r ∷ rs)

pub both_parts : (a : Option ℕ) (rs : List Record) → upto a rs ++ beyond a rs ≡ rs
both_parts a [] = refl
both_parts a (r ∷ rs) = go (is_upto a r.number) (both_parts a rs)
  where
    go : (b : Bool) → upto a rs ++ beyond a rs ≡ rs → cond b (r ∷ upto a rs) [] ++ cond b (beyond a rs) (r ∷ rs) ≡ r ∷ rs
    go true rest = ap (λ l. r ∷ l) rest
    go false rest = refl

pub none_passed : (rs : List Record) → upto None rs ≡ []
none_passed [] = refl
none_passed (r ∷ rs) = refl

pub all_left : (rs : List Record) → beyond None rs ≡ rs
all_left [] = refl
all_left (r ∷ rs) = refl

-- the numbers are up to this one
abbrev pub AllUpTo : Option ℕ → List Record → Type 0
AllUpTo a [] = Unit {0}
AllUpTo a (r ∷ rs) = (is_upto a r.number ≡ true) × AllUpTo a rs

-- the numbers are not
abbrev pub AllAfter : Option ℕ → List Record → Type 0
AllAfter a [] = Unit {0}
AllAfter a (r ∷ rs) = (is_upto a r.number ≡ false) × AllAfter a rs

-- no record mentions the object
abbrev pub IsQuiet : Fid → List Record → Type 0
IsQuiet f [] = Unit {0}
IsQuiet f (r ∷ rs) = (mentioning f r.op ≡ false) × IsQuiet f rs

pub upto_passed : (a : Option ℕ) (rs : List Record) → AllUpTo a (upto a rs)
upto_passed a [] = tt
upto_passed a (r ∷ rs) = go (is_upto a r.number) refl (upto_passed a rs)
  where
    go : (b : Bool) → is_upto a r.number ≡ b → AllUpTo a (upto a rs) → AllUpTo a (cond b (r ∷ upto a rs) [])
    go true e rest = (e, rest)
    go false e rest = tt

-- ---- numbers and mentions

-- a number behind one that was not reached was not reached either
after_more : (a : Option ℕ) (m n : ℕ) → m < n → is_upto a m ≡ false → is_upto a n ≡ false
after_more None m n l h = refl
after_more (Some k) m n l h = lt-leb n k (omega (arith, leb-false m k h, l))

-- and what was reached is below
pub reached_below : (a : Option ℕ) (m n : ℕ) → is_upto a m ≡ true → is_upto a n ≡ false → m < n
reached_below None m n h k = absurd (false≢true h)
reached_below (Some i) m n h k = omega (arith, leb-true m i h, leb-false n i k)

not_told : (r : Record) (f : Fid) (n : ℕ) → (r.number ≡ n → ⊥) → tells r f n ≡ false
not_told r f n h = and_left (r.number == n) (mentioning f r.op) (ne_eqb r.number n h)

or_false : (b d : Bool) → b ≡ false → d ≡ false → (b || d) ≡ false
or_false b d e h = ap (λ x. x || d) e ∙ h

first_false : (b d : Bool) → (b || d) ≡ false → b ≡ false
first_false true d e = absurd (true≢false e)
first_false false d e = refl

second_false : (b d : Bool) → (b || d) ≡ false → d ≡ false
second_false true d e = absurd (true≢false e)
second_false false d e = e

pub passed_silent : (a : Option ℕ) (rs : List Record) (f : Fid) (n : ℕ) → AllUpTo a rs → is_upto a n ≡ false → is_mentioned rs f n ≡ false
passed_silent a [] f n h k = refl
passed_silent a (r ∷ rs) f n h k = or_false (tells r f n) (is_mentioned rs f n) (not_told r f n (λ e. true≢false (sym h.0 ∙ ap (is_upto a) e ∙ k))) (passed_silent a rs f n h.1 k)

pub above_silent : (n : ℕ) (rs : List Record) (f : Fid) → AreAbove n rs → is_mentioned rs f n ≡ false
above_silent n [] f h = refl
above_silent n (r ∷ rs) f h = or_false (tells r f n) (is_mentioned rs f n) (not_told r f n (λ e. absurd (omega (arith, h.0, e)))) (above_silent n rs f h.1)

pub mentioned-append : (rs os : List Record) (f : Fid) (n : ℕ) → is_mentioned (rs ++ os) f n ≡ (is_mentioned rs f n || is_mentioned os f n)
mentioned-append [] os f n = refl
mentioned-append (r ∷ rs) os f n = ap (λ b. tells r f n || b) (mentioned-append rs os f n) ∙ go (tells r f n)
  where
    go : (b : Bool) → (b || (is_mentioned rs f n || is_mentioned os f n)) ≡ ((b || is_mentioned rs f n) || is_mentioned os f n)
    go true = refl
    go false = refl

-- ---- the last number

all_after_above : (a : Option ℕ) (n : ℕ) (rs : List Record) → is_upto a n ≡ false → AreAbove n rs → AllAfter a rs
all_after_above a n [] k h = tt
all_after_above a n (r ∷ rs) k h = (after_more a n r.number h.0 k, all_after_above a n rs k h.1)

upto_more : (m n : ℕ) → m ≤ n → (rs : List Record) → AllUpTo (Some m) rs → AllUpTo (Some n) rs
upto_more m n l [] h = tt
upto_more m n l (r ∷ rs) h = (le-leb r.number n (omega (arith, leb-true r.number m h.0, l)), upto_more m n l rs h.1)

pub last_reaches : (rs : List Record) → IsRising rs → AllUpTo (last_number rs) rs
last_reaches [] h = tt
last_reaches (r ∷ []) h = (le-leb r.number r.number (omega arith), tt)
last_reaches (r ∷ next ∷ rest) h = let more = last_reaches (next ∷ rest) h.1 in (go (last_number (next ∷ rest)) more.0, more)
  where
    go : (a : Option ℕ) → is_upto a next.number ≡ true → is_upto a r.number ≡ true
    go None e = absurd (false≢true e)
    go (Some m) e = le-leb r.number m (omega (arith, leb-true next.number m e, h.0.0))

-- ---- a step

-- the next record that mentions the object, and what stands between
pub record Step (f : Fid) (a : Option ℕ) (n : ℕ) (rs : List Record) : Type 0 where
  pub between : List Record
  pub found : Record
  pub quiet : IsQuiet f between
  pub is : found.number ≡ n
  pub told : mentioning f found.op ≡ true
  pub front : upto (Some n) rs ≡ upto a rs ++ (between ++ found ∷ [])
  pub rest : beyond a rs ≡ between ++ found ∷ beyond (Some n) rs

above_none : (n : ℕ) (rs : List Record) → AreAbove n rs → upto (Some n) rs ≡ []
above_none n [] h = refl
above_none n (r ∷ rs) h = ap (λ b. cond b (r ∷ upto (Some n) rs) []) (lt-leb r.number n h.0)

above_all : (n : ℕ) (rs : List Record) → AreAbove n rs → beyond (Some n) rs ≡ rs
above_all n [] h = refl
above_all n (r ∷ rs) h = ap (λ b. cond b (beyond (Some n) rs) (r ∷ rs)) (lt-leb r.number n h.0)

abbrev Ahead : Fid → ℕ → List Record → Type 0
Ahead f n rs = (between : List Record) × ((found : Record) × (IsQuiet f between × ((found.number ≡ n) × ((mentioning f found.op ≡ true) × ((upto (Some n) rs ≡ between ++ found ∷ []) × (rs ≡ between ++ found ∷ beyond (Some n) rs))))))

ahead : (f : Fid) (a : Option ℕ) (n : ℕ) (rs : List Record) → IsRising rs → AllAfter a rs → is_mentioned rs f n ≡ true → ((k : ℕ) → is_upto a k ≡ false → k < n → is_mentioned rs f k ≡ false) → Ahead f n rs
ahead f a n [] rising after there gap = absurd (false≢true there)
ahead f a n (r ∷ rs) rising after there gap = go (cases_order r.number n) (ahead f a n rs rising.1 after.1)
  where
    silent : (n < r.number) → is_mentioned (r ∷ rs) f n ≡ false
    silent l = passed_silent_above n (r ∷ rs) (l, above_more' rs rising.0)
      where
        above_more' : (os : List Record) → AreAbove r.number os → AreAbove n os
        above_more' [] h = tt
        above_more' (o ∷ os) h = (omega (arith, h.0, l), above_more' os h.1)

        passed_silent_above : (n : ℕ) (os : List Record) → AreAbove n os → is_mentioned os f n ≡ false
        passed_silent_above n os h = above_silent n os f h

    go : (r.number ≡ n) ⊎ ((r.number < n) ⊎ (n < r.number)) → (is_mentioned rs f n ≡ true → ((k : ℕ) → is_upto a k ≡ false → k < n → is_mentioned rs f k ≡ false) → Ahead f n rs) → Ahead f n (r ∷ rs)
    go (inl e) more =
        let above : AreAbove n rs = subst (λ m. AreAbove m rs) e rising.0 in
        let told : tells r f n ≡ true = sym (or_left (tells r f n) (is_mentioned rs f n) (above_silent n rs f above)) ∙ there in
        let here : is_upto (Some n) r.number ≡ true = le-leb r.number n (omega (arith, e)) in (
          [],
          (
            r,
            (
              tt,
              (
                e,
                (
                  (and_parts (r.number == n) (mentioning f r.op) told).1,
                  (
                    ap (λ b. cond b (r ∷ upto (Some n) rs) []) here ∙ ap (λ l. r ∷ l) (above_none n rs above),
                    ap (λ l. r ∷ l) (sym (above_all n rs above)) ∙ ap (λ b. r ∷ cond b (beyond (Some n) rs) (r ∷ rs)) (sym here),
                  ),
                ),
              ),
            ),
          ),
        )
      where
        or_left : (b d : Bool) → d ≡ false → (b || d) ≡ b
        or_left true d h = refl
        or_left false d h = h
    go (inr (inl l)) more =
        let own : tells r f r.number ≡ false = first_false (tells r f r.number) (is_mentioned rs f r.number) (gap r.number after.0 l) in
        let quiet : mentioning f r.op ≡ false = sym (ap (λ b. b && mentioning f r.op) (eq-eqb r.number r.number refl)) ∙ own in
        let later : is_mentioned rs f n ≡ true = sym (ap (λ b. b || is_mentioned rs f n) (not_told r f n (λ e. absurd (omega (arith, e, l))))) ∙ there in
        let rest = more later (λ k h m. second_false (tells r f k) (is_mentioned rs f k) (gap k h m)) in
        let here : is_upto (Some n) r.number ≡ true = le-leb r.number n (omega (arith, l)) in (
          r ∷ rest.0,
          (
            rest.1.0,
            (
              (quiet, rest.1.1.0),
              (
                rest.1.1.1.0,
                (
                  rest.1.1.1.1.0,
                  (
                    ap (λ b. cond b (r ∷ upto (Some n) rs) []) here ∙ ap (λ l. r ∷ l) rest.1.1.1.1.1.0,
                    ap (λ l. r ∷ l) rest.1.1.1.1.1.1 ∙ ap (λ b. r ∷ (rest.0 ++ rest.1.0 ∷ cond b (beyond (Some n) rs) (r ∷ rs))) (sym here),
                  ),
                ),
              ),
            ),
          ),
        )
    go (inr (inr l)) more = absurd (true≢false (sym there ∙ silent l))

pub step : (f : Fid) (a : Option ℕ) (n : ℕ) (rs : List Record) → IsRising rs → is_upto a n ≡ false → is_mentioned rs f n ≡ true → ((k : ℕ) → is_upto a k ≡ false → k < n → is_mentioned rs f k ≡ false) → Step f a n rs
step f a n [] rising after there gap = absurd (false≢true there)
step f a n (r ∷ rs) rising after there gap = go (is_upto a r.number) refl (step f a n rs rising.1 after)
  where
    go : (b : Bool) → is_upto a r.number ≡ b → (is_mentioned rs f n ≡ true → ((k : ℕ) → is_upto a k ≡ false → k < n → is_mentioned rs f k ≡ false) → Step f a n rs) → Step f a n (r ∷ rs)
    go true e more =
        let below : r.number < n = reached_below a r.number n e after in
        let later : is_mentioned rs f n ≡ true = sym (ap (λ b. b || is_mentioned rs f n) (not_told r f n (λ e. absurd (omega (arith, e, below))))) ∙ there in
        let here : is_upto (Some n) r.number ≡ true = le-leb r.number n (omega (arith, below)) in
        let s = more later (λ k h m. second_false (tells r f k) (is_mentioned rs f k) (gap k h m)) in
        record {
          between = s.between;
          found = s.found;
          quiet = s.quiet;
          is = s.is;
          told = s.told;
          front = ap (λ b. cond b (r ∷ upto (Some n) rs) []) here ∙ ap (λ l. r ∷ l) s.front ∙ ap (λ b. cond b (r ∷ upto a rs) [] ++ (s.between ++ s.found ∷ [])) (sym e);
          rest = ap (λ b. cond b (beyond a rs) (r ∷ rs)) e ∙ s.rest ∙ ap (λ b. s.between ++ s.found ∷ cond b (beyond (Some n) rs) (r ∷ rs)) (sym here);
        }
    go false e more =
        let s = ahead f a n (r ∷ rs) rising (e, all_after_above a r.number rs e rising.0) there gap in
        record {
          between = s.0;
          found = s.1.0;
          quiet = s.1.1.0;
          is = s.1.1.1.0;
          told = s.1.1.1.1.0;
          front = s.1.1.1.1.1.0 ∙ ap (λ b. cond b (r ∷ upto a rs) [] ++ (s.0 ++ s.1.0 ∷ [])) (sym e);
          rest = ap (λ b. cond b (beyond a rs) (r ∷ rs)) e ∙ s.1.1.1.1.1.1;
        }

-- ---- the end

quiet_after : (f : Fid) (a last : Option ℕ) (rs : List Record) → AllAfter a rs → AllUpTo last rs → ((k : ℕ) → is_upto a k ≡ false → is_upto last k ≡ true → is_mentioned rs f k ≡ false) → IsQuiet f rs
quiet_after f a last [] after upto none = tt
quiet_after f a last (r ∷ rs) after upto none = (
  sym (ap (λ b. b && mentioning f r.op) (eq-eqb r.number r.number refl)) ∙ first_false (tells r f r.number) (is_mentioned rs f r.number) (none r.number after.0 upto.0),
  quiet_after f a last rs after.1 upto.1 (λ k h m. second_false (tells r f k) (is_mentioned rs f k) (none k h m)),
)

rest_quiet : (f : Fid) (a last : Option ℕ) (rs : List Record) → IsRising rs → AllUpTo last rs → ((k : ℕ) → is_upto a k ≡ false → is_upto last k ≡ true → is_mentioned rs f k ≡ false) → IsQuiet f (beyond a rs)
rest_quiet f a last [] rising upto none = tt
rest_quiet f a last (r ∷ rs) rising upto none = go (is_upto a r.number) refl (rest_quiet f a last rs rising.1 upto.1 (λ k h m. second_false (tells r f k) (is_mentioned rs f k) (none k h m)))
  where
    go : (b : Bool) → is_upto a r.number ≡ b → IsQuiet f (beyond a rs) → IsQuiet f (cond b (beyond a rs) (r ∷ rs))
    go true e more = more
    go false e more = quiet_after f a last (r ∷ rs) (e, all_after_above a r.number rs e rising.0) upto none

-- where nothing is left to be found no later record mentions the object
pub end_quiet : (f : Fid) (a : Option ℕ) (rs : List Record) → IsRising rs → ((k : ℕ) → is_upto a k ≡ false → is_upto (last_number rs) k ≡ true → is_mentioned rs f k ≡ false) → IsQuiet f (beyond a rs)
end_quiet f a rs rising none = rest_quiet f a (last_number rs) rs rising (last_reaches rs rising) none

-- each step leaves fewer
pub fewer_left : (f : Fid) (a : Option ℕ) (n : ℕ) (rs : List Record) → Step f a n rs → length (beyond (Some n) rs) < length (beyond a rs)
fewer_left f a n rs s = subst (λ m. length (beyond (Some n) rs) < m) (sym (ap length s.rest)) (shorter s.between)
  where
    shorter : (xs : List Record) → length (beyond (Some n) rs) < length (xs ++ s.found ∷ beyond (Some n) rs)
    shorter [] = omega arith
    shorter (x ∷ xs) = omega (arith, shorter xs)
