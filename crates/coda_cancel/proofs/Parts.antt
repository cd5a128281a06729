-- The index of a list's front and of the others.
use Rattle.std.proofs.Common.{◌≡◌, ℕ, ◌+◌, ◌<◌, Bool, true, false, not, ◌&&◌, ◌||◌, ◌==◌, List, [], ◌∷◌, ◌++◌, length, take, get_or, refl, sym, ap, ◌∙◌, subst}
use Rattle.std.specs.BTreeSet.{BTreeSet}
use Rattle.std.proofs.lemmas.Bool.{true≢false, false≢true}
use Rattle.std.proofs.lemmas.List.{append_assoc, take_more}
use Rattle.coda_fid.specs.declared.fid.Fid.{Fid}
use Rattle.coda_fid.specs.declared.op.Record.{Record}
use Rattle.coda_cancel.specs.declared.mentions.Mention.{Mention}
use Rattle.coda_cancel.specs.Dropping.{mentioning}
use Rattle.coda_cancel.specs.Numbers.{AreAbove, IsRising}
use Rattle.coda_cancel.specs.Mentions.{has, tells, is_mentioned, IsIndexOf, Gains, Loses}
use Rattle.coda_cancel.specs.Shelved.{is_numbered}
use Rattle.coda_cancel.proofs.Places.{somewhere}
use Rattle.coda_cancel.proofs.Walks.{mentioned-append}
use Rattle.coda_cancel.proofs.Indexed.{back_silent}

abbrev In : Type 0
In = Fid → ℕ → Bool

or_none : (b : Bool) → (b || false) ≡ b
or_none true = refl
or_none false = refl

mentioned_more : (i : ℕ) (rs : List Record) (d : Record) (f : Fid) (n : ℕ) → i < length rs → is_mentioned (take (i + 1) rs) f n ≡ (is_mentioned (take i rs) f n || tells (get_or rs i d) f n)
mentioned_more i rs d f n l = ap (λ l. is_mentioned l f n) (take_more rs i d l) ∙ mentioned-append (take i rs) (get_or rs i d ∷ []) f n ∙ ap (λ b. is_mentioned (take i rs) f n || b) (or_none (tells (get_or rs i d) f n))

module _ (old s n : In) (rs : List Record) (i : ℕ) (d : Record) (l : i < length rs) where
  pub forgotten_more : Loses old s (is_mentioned (take i rs)) → Loses s n (tells (get_or rs i d)) → Loses old n (is_mentioned (take (i + 1) rs))
  forgotten_more so more f k = more f k ∙ ap (λ b. b && not (tells (get_or rs i d) f k)) (so f k) ∙ go (old f k) (is_mentioned (take i rs) f k) (tells (get_or rs i d) f k) ∙ ap (λ b. old f k && not b) (sym (mentioned_more i rs d f k l))
    where
      go : (o a b : Bool) → ((o && not a) && not b) ≡ (o && not (a || b))
      go false a b = refl
      go true true b = refl
      go true false b = refl

-- a number of the front is none of the others
pub others_silent : (rs os : List Record) (n : ℕ) (f : Fid) → IsRising (rs ++ os) → is_numbered n rs ≡ true → is_mentioned os f n ≡ false
others_silent rs os n f rising there =
    let s = somewhere n rs there in
    let whole : rs ++ os ≡ s.front ++ s.rec ∷ (s.back ++ os) = ap (λ l. l ++ os) s.here ∙ append_assoc s.front (s.rec ∷ s.back) os in
    let silent = back_silent s.front s.rec (s.back ++ os) f (subst IsRising whole rising) in
    second (is_mentioned s.back f n) (is_mentioned os f n) (sym (mentioned-append s.back os f n) ∙ ap (is_mentioned (s.back ++ os) f) (sym s.is) ∙ silent)
  where
    second : (x y : Bool) → (x || y) ≡ false → y ≡ false
    second true y e = absurd (true≢false e)
    second false y e = e

mentioned_numbered : (rs : List Record) (f : Fid) (n : ℕ) → is_mentioned rs f n ≡ true → is_numbered n rs ≡ true
mentioned_numbered [] f n h = absurd (false≢true h)
mentioned_numbered (r ∷ rs) f n h = go (r.number == n) (mentioning f r.op) (mentioned_numbered rs f n) h
  where
    go : (x y : Bool) → (is_mentioned rs f n ≡ true → is_numbered n rs ≡ true) → ((x && y) || is_mentioned rs f n) ≡ true → (x || is_numbered n rs) ≡ true
    go true y rest h = refl
    go false y rest h = rest h

pub both_indexed : (index index' : BTreeSet Mention) (rs os : List Record) → IsIndexOf index os → Gains (has index) (has index') (is_mentioned rs) → IsIndexOf index' (rs ++ os)
both_indexed index index' rs os indexed gains f n = gains f n ∙ ap (λ b. b || is_mentioned rs f n) (indexed f n) ∙ turn (is_mentioned os f n) (is_mentioned rs f n) ∙ sym (mentioned-append rs os f n)
  where
    turn : (x y : Bool) → (x || y) ≡ (y || x)
    turn true true = refl
    turn true false = refl
    turn false true = refl
    turn false false = refl

pub rest_indexed : (index index' : BTreeSet Mention) (rs os : List Record) → IsRising (rs ++ os) → IsIndexOf index (rs ++ os) → Loses (has index) (has index') (is_mentioned rs) → IsIndexOf index' os
rest_indexed index index' rs os rising indexed loses f n = loses f n ∙ ap (λ b. b && not (is_mentioned rs f n)) (indexed f n ∙ mentioned-append rs os f n) ∙ go (is_mentioned rs f n) refl
  where
    go : (b : Bool) → is_mentioned rs f n ≡ b → ((b || is_mentioned os f n) && not b) ≡ is_mentioned os f n
    go true e = sym (others_silent rs os n f rising (mentioned_numbered rs f n e))
    go false e = all (is_mentioned os f n)
      where
        all : (b : Bool) → (b && true) ≡ b
        all true = refl
        all false = refl

above_first : (n : ℕ) (rs os : List Record) → AreAbove n (rs ++ os) → AreAbove n rs
above_first n [] os h = tt
above_first n (r ∷ rs) os h = (h.0, above_first n rs os h.1)

pub rising_first : (rs os : List Record) → IsRising (rs ++ os) → IsRising rs
rising_first [] os h = tt
rising_first (r ∷ rs) os h = (above_first r.number rs os h.0, rising_first rs os h.1)
