-- An operation that the index knows already is added: what the index says then, and what the records weigh.
use Rattle.std.proofs.Common.{◌≡◌, ℕ, suc, ◌+◌, ◌-◌, ◌<◌, ◌≤◌, Bool, true, false, cond, if◌then◌else◌, not, ◌&&◌, ◌||◌, List, [], ◌∷◌, ◌++◌, Some, length, length-append, refl, sym, ap, ◌∙◌, arith}
use Rattle.std.specs.Prelude.{nat_le}
use Rattle.std.specs.BTreeSet.{BTreeSet}
use Rattle.std.proofs.lemmas.Bool.{leb-true, leb-false, le-leb, false≢true, and_right}
use Rattle.coda_fid.specs.declared.fid.Fid.{Fid}
use Rattle.coda_fid.specs.declared.op.Op.{Op}
use Rattle.coda_fid.specs.declared.op.Record.{Record}
use Rattle.coda_fid.specs.Op.{carried, weight_of}
use Rattle.coda_cancel.specs.declared.mentions.Mention.{Mention}
use Rattle.coda_cancel.specs.Dropping.{mentioning, drops}
use Rattle.coda_cancel.specs.Cancel.{cancels, object, add}
use Rattle.coda_cancel.specs.Numbers.{AreAbove, AreBelow, AreUpTo, IsRising, numbers, dropped}
use Rattle.coda_cancel.specs.Mentions.{has, tells, is_mentioned, is_upto, last_number, IsIndexOf, Covers, CoversUpTo, IsSameBeyond, Loses, Gains}
use Rattle.coda_cancel.specs.Passing.{goes, undropped, new_last}
use Rattle.coda_cancel.specs.Weights.{fits, total_weight}
use Rattle.coda_cancel.proofs.Rising.{rising_before, rising_behind, upto_add}
use Rattle.coda_cancel.proofs.Sizes.{size_after, total-append}
use Rattle.coda_cancel.proofs.Walks.{AllUpTo, passed_silent, mentioned-append, last_reaches}
use Rattle.coda_cancel.proofs.Indexed.{told_number}

abbrev Index : Type 0
Index = BTreeSet Mention

-- ---- numbers

-- the last of records below a number is below it
last_below : (k n : ℕ) (rs : List Record) → AreBelow k rs → is_upto (last_number rs) n ≡ true → n < k
last_below k n [] h e = absurd (false≢true e)
last_below k n (r ∷ []) h e = omega (arith, h.0, leb-true n r.number e)
last_below k n (r ∷ next ∷ rest) h e = last_below k n (next ∷ rest) h.1 e

silent_here : (r : Record) (f : Fid) (n : ℕ) → (r.number ≡ n → ⊥) → tells r f n ≡ false
silent_here r f n h = go (tells r f n) refl
  where
    go : (b : Bool) → tells r f n ≡ b → b ≡ false
    go true e = absurd (h (told_number r f n e))
    go false e = refl

upto_silent : (k n : ℕ) (rs : List Record) (f : Fid) → AreUpTo k rs → k < n → is_mentioned rs f n ≡ false
upto_silent k n [] f h l = refl
upto_silent k n (r ∷ rs) f h l = ap (λ b. b || is_mentioned rs f n) (silent_here r f n (λ e. absurd (omega (arith, h.0, l, e)))) ∙ upto_silent k n rs f h.1 l

over_silent : (k n : ℕ) (rs : List Record) (f : Fid) → AreAbove k rs → n ≤ k → is_mentioned rs f n ≡ false
over_silent k n [] f h l = refl
over_silent k n (r ∷ rs) f h l = ap (λ b. b || is_mentioned rs f n) (silent_here r f n (λ e. absurd (omega (arith, h.0, l, e)))) ∙ over_silent k n rs f h.1 l

pub below_silent : (n : ℕ) (rs : List Record) (f : Fid) → AreBelow n rs → is_mentioned rs f n ≡ false
below_silent n [] f h = refl
below_silent n (r ∷ rs) f h = ap (λ b. b || is_mentioned rs f n) (silent_here r f n (λ e. absurd (omega (arith, h.0, e)))) ∙ below_silent n rs f h.1

below_upto : (n : ℕ) (rs : List Record) → AreBelow n rs → AreUpTo n rs
below_upto n [] h = tt
below_upto n (r ∷ rs) h = (omega (arith, h.0), below_upto n rs h.1)

or_none : (b : Bool) → (b || false) ≡ b
or_none true = refl
or_none false = refl

pushed : (rs : List Record) (r : Record) (f : Fid) (n : ℕ) → is_mentioned (rs ++ r ∷ []) f n ≡ (is_mentioned rs f n || tells r f n)
pushed rs r f n = mentioned-append rs (r ∷ []) f n ∙ ap (λ b. is_mentioned rs f n || b) (or_none (tells r f n))

-- ---- one operation

module _ (index : Index) (rs : List Record) (r : Record) (below : AreBelow r.number rs) (covers : CoversUpTo (Some r.number) index (rs ++ r ∷ [])) where
  pub covers_front : Covers index rs
  covers_front f n within =
      let l = last_below r.number n rs below within in
      covers f n (le-leb n r.number (omega (arith, l))) ∙ pushed rs r f n ∙ ap (λ b. is_mentioned rs f n || b) (silent_here r f n (λ e. absurd (omega (arith, l, e)))) ∙ or_none (is_mentioned rs f n)

  module _ (index' : Index) (rs' : List Record) (within : AllUpTo (last_number rs) rs') (rising : IsRising rs) (left : CoversUpTo (last_number rs) index' rs') (past : IsSameBeyond (last_number rs) index index') where
    -- the index says of the operation what it said, and of the others what is left
    still : (f : Fid) (n : ℕ) → is_upto (Some r.number) n ≡ true → has index' f n ≡ (is_mentioned rs' f n || tells r f n)
    still f n upto = go (is_upto (last_number rs) n) refl
      where
        go : (b : Bool) → is_upto (last_number rs) n ≡ b → has index' f n ≡ (is_mentioned rs' f n || tells r f n)
        go true e =
            let l = last_below r.number n rs below e in
            left f n e ∙ sym (ap (λ b. is_mentioned rs' f n || b) (silent_here r f n (λ e. absurd (omega (arith, l, e)))) ∙ or_none (is_mentioned rs' f n))
        go false e = past f n e ∙ covers f n upto ∙ pushed rs r f n
            ∙ ap (λ b. b || tells r f n) (passed_silent (last_number rs) rs f n (last_reaches rs rising) e ∙ sym (passed_silent (last_number rs) rs' f n within e))

    pub put_behind_covers : (r' : Record) → ((f : Fid) (n : ℕ) → tells r' f n ≡ tells r f n) → CoversUpTo (Some r.number) index' (rs' ++ r' ∷ [])
    put_behind_covers r' same f n upto = still f n upto ∙ ap (λ b. is_mentioned rs' f n || b) (sym (same f n)) ∙ sym (pushed rs' r' f n)

    pub past_operation : IsSameBeyond (Some r.number) index index'
    past_operation f n over = past f n (go (is_upto (last_number rs) n) refl)
      where
        go : (b : Bool) → is_upto (last_number rs) n ≡ b → b ≡ false
        go true e = absurd (omega (arith, last_below r.number n rs below e, leb-false n r.number over))
        go false e = refl

    module _ (index'' : Index) (loses : Loses (has index') (has index'') (tells r)) (below' : AreBelow r.number rs') where
      pub forgotten_covers : CoversUpTo (Some r.number) index'' rs'
      forgotten_covers f n upto = loses f n ∙ ap (λ b. b && not (tells r f n)) (still f n upto) ∙ go (tells r f n) refl
        where
          go : (t : Bool) → tells r f n ≡ t → ((is_mentioned rs' f n || t) && not t) ≡ is_mentioned rs' f n
          go true e = and_right (is_mentioned rs' f n || true) false refl ∙ sym (ap (is_mentioned rs' f) (sym (told_number r f n e)) ∙ below_silent r.number rs' f below')
          go false e = all (is_mentioned rs' f n)
            where
              all : (b : Bool) → ((b || false) && true) ≡ b
              all true = refl
              all false = refl

      pub past_forgotten : IsSameBeyond (Some r.number) index index''
      past_forgotten f n over = loses f n ∙ ap (λ b. has index' f n && not b) (silent_here r f n (λ e. absurd (omega (arith, leb-false n r.number over, e)))) ∙ all (has index' f n) ∙ past_operation f n over
        where
          all : (b : Bool) → (b && true) ≡ b
          all true = refl
          all false = refl

-- ---- operations in turn

module _ (index : Index) (rs : List Record) (r : Record) (os : List Record) (rising : IsRising (rs ++ r ∷ os)) (indexed : IsIndexOf index (rs ++ r ∷ os)) where
  pub first_covers : CoversUpTo (Some r.number) index (rs ++ r ∷ [])
  first_covers f n upto =
      indexed f n ∙ mentioned-append rs (r ∷ os) f n
      ∙ ap (λ b. is_mentioned rs f n || (tells r f n || b)) (over_silent r.number n os f (rising_behind rs (r ∷ os) rising).0 (leb-true n r.number upto))
      ∙ sym (mentioned-append rs (r ∷ []) f n)

  pub added_indexed : (index' : Index) → CoversUpTo (Some r.number) index' (add rs r) → IsSameBeyond (Some r.number) index index' → IsIndexOf index' (add rs r ++ os)
  added_indexed index' covers past f n = go (is_upto (Some r.number) n) refl
    where
      go : (b : Bool) → is_upto (Some r.number) n ≡ b → has index' f n ≡ is_mentioned (add rs r ++ os) f n
      go true e = covers f n e ∙ sym (or_none (is_mentioned (add rs r) f n)) ∙ ap (λ b. is_mentioned (add rs r) f n || b) (sym (over_silent r.number n os f (rising_behind rs (r ∷ os) rising).0 (leb-true n r.number e))) ∙ sym (mentioned-append (add rs r) os f n)
      go false e =
          let over = leb-false n r.number e in
          let below = (rising_before rs r os rising).1 in
          past f n e ∙ indexed f n ∙ mentioned-append rs (r ∷ os) f n
          ∙ (λ i. upto_silent r.number n rs f (below_upto r.number rs below) over i || (silent_here r f n (λ e. absurd (omega (arith, over, e))) i || is_mentioned os f n))
          ∙ ap (λ b. b || is_mentioned os f n) (sym (upto_silent r.number n (add rs r) f (upto_add rs r below) over)) ∙ sym (mentioned-append (add rs r) os f n)

-- ---- what was asked of it

pub dropped_goes : (rs : List Record) (o : Record) → numbers (goes (cancels o.op rs) o.op) rs ≡ dropped rs o
dropped_goes rs o = go (cancels o.op rs)
  where
    go : (b : Bool) → numbers (goes b o.op) rs ≡ cond b (numbers (mentioning (object (carried o.op))) rs) (numbers (drops o.op) rs)
    go true = refl
    go false = refl

pub undropped_few : (gone : Op → Bool) (rs : List Record) → length (undropped gone rs) ≤ length rs
undropped_few gone [] = omega arith
undropped_few gone (r ∷ rs) = go (gone r.op) (undropped_few gone rs)
  where
    go : (b : Bool) → length (undropped gone rs) ≤ length rs → length (if b then undropped gone rs else r ∷ undropped gone rs) ≤ suc (length rs)
    go true h = omega (arith, h)
    go false h = omega (arith, h)

pub undropped_light : (gone : Op → Bool) (rs : List Record) → total_weight (undropped gone rs) ≤ total_weight rs
undropped_light gone [] = omega arith
undropped_light gone (r ∷ rs) = go (gone r.op) (undropped_light gone rs)
  where
    go : (b : Bool) → total_weight (undropped gone rs) ≤ total_weight rs → total_weight (if b then undropped gone rs else r ∷ undropped gone rs) ≤ weight_of r.op + total_weight rs
    go true h = omega (arith, h)
    go false h = omega (arith, h)

module _ (rs : List Record) (o : Record) where
  abbrev left : List Record
  left = undropped (goes (cancels o.op rs) o.op) rs

  abbrev own : List Record
  own = new_last (cancels o.op rs) o

  own_weight : total_weight own ≤ weight_of o.op
  own_weight = go (cancels o.op rs)
    where
      go : (b : Bool) → total_weight (new_last b o) ≤ weight_of o.op
      go true = omega arith
      go false = omega arith

  pub weight_added : (gone : ℕ) → gone + total_weight left ≡ total_weight rs → total_weight rs - gone + total_weight own ≡ total_weight (add rs o)
  weight_added gone h =
      let size = (size_after rs o).1 in
      let two = total-append left own in
      omega (arith, size, two, h)

  pub weight_bound : (gone : ℕ) → gone + total_weight left ≡ total_weight rs → total_weight (add rs o) ≤ total_weight rs + weight_of o.op
  weight_bound gone h =
      let size = (size_after rs o).1 in
      let two = total-append left own in
      let one = own_weight in
      omega (arith, size, two, one, h)

  own_length : length own ≤ 1
  own_length = go (cancels o.op rs)
    where
      go : (b : Bool) → length (new_last b o) ≤ 1
      go true = omega arith
      go false = omega arith

  pub room_left : (count weight : ℕ) → length rs < count → total_weight rs + weight_of o.op ≤ weight → fits count weight (add rs o) ≡ true
  room_left count weight few light =
      let size = size_after rs o in
      let more = length-append left own in
      let heavier = total-append left own in
      let fewer = undropped_few (goes (cancels o.op rs) o.op) rs in
      let lighter = undropped_light (goes (cancels o.op rs) o.op) rs in
      let one = own_length in
      let own_is = own_weight in
      let length_fits : nat_le (length (add rs o)) count ≡ true = le-leb _ _ (omega (arith, size.0, more, fewer, one, few)) in
      let weight_fits : nat_le (total_weight (add rs o)) weight ≡ true = le-leb _ _ (omega (arith, size.1, heavier, lighter, own_is, light)) in
      (λ i. length_fits i && weight_fits i)

-- the index of records with one more
pub pushed_indexed : (index index' : Index) (rs : List Record) (r : Record) → IsIndexOf index rs → Gains (has index) (has index') (tells r) → IsIndexOf index' (rs ++ r ∷ [])
pushed_indexed index index' rs r indexed gains f n = gains f n ∙ ap (λ b. b || tells r f n) (indexed f n) ∙ sym (pushed rs r f n)
