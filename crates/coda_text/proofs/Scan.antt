-- One step of a scan at a place of the line.
use Rattle.std.proofs.Common.{◌≡◌, ℕ, ◌+◌, ◌-◌, ◌<◌, ◌≤◌, Bool, true, false, List, [], ◌∷◌, ◌++◌, length, get_or, take, drop, Some, None, refl, sym, ap, ◌∙◌, add-one, arith, leb, rules, tests, inl, inr}
use Rattle.std.specs.Prelude.{◌&&◌, ◌||◌, slice_range}
use Rattle.std.proofs.Math.Seq.{drop-cons}
use Rattle.std.proofs.lemmas.List.{take_more, get_or-drop, drop_all, length-drop}
use Rattle.std.proofs.lemmas.Bool.{cases_lt, false≢true}
use Rattle.coda_text.specs.declared.words.Part.{Part}
use Rattle.coda_text.specs.declared.words.Next.{Next}
use Rattle.coda_text.specs.declared.words.Next.TheVariants.{End, Bad, Found}
use Rattle.coda_text.specs.Words.{Split, under_way, ended, broken, word, scan, is_separator, opens, goes_on, may_end}
use Rattle.coda_text.specs.Steps.{split_from, is_end, rest_of_word, Finishes, Finds}

or_left : (a b : Bool) → a ≡ false → (a || b) ≡ true → b ≡ true
or_left true b n e = absurd cc
or_left false b n e = e

and_right : (a b : Bool) → (a && b) ≡ true → b ≡ true
and_right true b e = e
and_right false b e = absurd cc

and_left : (a b : Bool) → (a && b) ≡ true → a ≡ true
and_left true b e = refl
and_left false b e = e

lt-leb : (a b : ℕ) → b < a → leb a b ≡ false
lt-leb a b lt = search (rules, tests)

or_right : (a b : Bool) → (a || b) ≡ false → b ≡ false
or_right true b e = absurd cc
or_right false b e = e

-- what is left, at a place inside
pub at_byte : (line : List ℕ) (at : ℕ) → at < length line → drop at line ≡ get_or line at 0 ∷ drop (at + 1) line
at_byte line at lt = drop-cons line at 0 lt ∙ ap (λ (n : ℕ). get_or line at 0 ∷ drop n line) (sym (add-one at))

pub at_end : (line : List ℕ) (at : ℕ) → length line ≤ at → drop at line ≡ []
at_end line at le = drop_all at line le

-- the bytes so far and one more
pub one_more : (line : List ℕ) (start at : ℕ) → start ≤ at → at < length line → slice_range line start (at + 1) ≡ slice_range line start at ++ get_or line at 0 ∷ []
one_more line start at le lt =
    let k : at + 1 - start ≡ at - start + 1 = omega arith in
    let place : start + (at - start) ≡ at = omega arith in
    rw k (take_more (drop start line) (at - start) 0 (omega (arith, length-drop start line)) ∙ ap (λ (b : ℕ). take (at - start) (drop start line) ++ b ∷ []) (get_or-drop start line (at - start) 0 ∙ ap (λ (n : ℕ). get_or line n 0) place))

pub skips : (line : List ℕ) (at : ℕ) → at < length line → is_separator (get_or line at 0) ≡ true → split_from line at ≡ split_from line (at + 1)
unfolding scan
skips line at lt e = rw (at_byte line at lt, e) refl

pub ends_there : (line : List ℕ) (at : ℕ) → length line ≤ at → split_from line at ≡ ended at
unfolding scan
ends_there line at le = rw (at_end line at le) refl

pub opens_none : (line : List ℕ) (at : ℕ) → at < length line → is_separator (get_or line at 0) ≡ false → opens (get_or line at 0) ≡ None → split_from line at ≡ broken at at
unfolding scan
opens_none line at lt sep e = rw (at_byte line at lt, sep, e) refl

pub opens_some : (line : List ℕ) (at : ℕ) (part : Part) → at < length line → is_separator (get_or line at 0) ≡ false → opens (get_or line at 0) ≡ Some part → split_from line at ≡ scan (under_way at (slice_range line at (at + 1)) part) (at + 1) (drop (at + 1) line)
unfolding scan
opens_some line at part lt sep e =
    let first : slice_range line at (at + 1) ≡ get_or line at 0 ∷ [] = one_more line at at (omega arith) lt ∙ ap (λ (n : ℕ). take n (drop at line) ++ get_or line at 0 ∷ []) (let z : at - at ≡ 0 = omega arith in z) in
    rw (first, at_byte line at lt, sep, e) refl

-- a word under way, as the code has it
abbrev pub going : List ℕ → ℕ → ℕ → Part → Split
going line start at part = scan (under_way start (slice_range line start at) part) at (drop at line)

pub goes_none : (line : List ℕ) (start at : ℕ) (part : Part) → at < length line → is_end line at part ≡ false → goes_on part (get_or line at 0) ≡ None → going line start at part ≡ broken start at
unfolding scan
goes_none line start at part lt keeps e = rw (at_byte line at lt, or_right (leb (length line) at) _ keeps, e) refl

pub goes_some : (line : List ℕ) (start at : ℕ) (part next : Part) → start ≤ at → at < length line → is_end line at part ≡ false → goes_on part (get_or line at 0) ≡ Some next → going line start at part ≡ going line start (at + 1) next
unfolding scan
goes_some line start at part next le lt keeps e = rw (one_more line start at le lt, at_byte line at lt, or_right (leb (length line) at) _ keeps, e) refl

-- the word ends at a separator or at the line's end
pub word_ends : (line : List ℕ) (start at : ℕ) (part : Part) → is_end line at part ≡ true → may_end part ≡ true → going line start at part ≡ word start (slice_range line start at) (split_from line at)
unfolding scan
word_ends line start at part there may =
    elim (cases_lt at (length line)) [
      | inl lt ↦
          let sep : is_separator (get_or line at 0) ≡ true = and_right (may_end part) _ (or_left _ _ (lt-leb (length line) at lt) there) in
          rw (at_byte line at lt, may, sep) refl
      | inr le ↦ rw (at_end line at le, may) refl
    ]

pub cut_short : (line : List ℕ) (start at : ℕ) (part : Part) → is_end line at part ≡ true → may_end part ≡ false → going line start at part ≡ broken start at
unfolding scan
cut_short line start at part there cut =
    elim (cases_lt at (length line)) [
      | inl lt ↦ absurd (false≢true (rw cut at (and_left (may_end part) (is_separator (get_or line at 0)) (or_left _ _ (lt-leb (length line) at lt) there))))
      | inr le ↦ rw (at_end line at le, cut) refl
    ]

-- what finishing a word found is what the line has next
pub finds : (next : Next) (line : List ℕ) (from start : ℕ) (part : Part) → from ≤ start → split_from line from ≡ rest_of_word line start part → Finishes line start part next → Finds line from next
finds End line from start part le e h = absurd h
finds (Bad a b) line from start part le e h = (h.0, e ∙ h.1)
finds (Found a b) line from start part le e h = (omega (arith, h.0), omega (arith, h.0, h.1), h.2, rw h.0 (e ∙ h.3))
