-- Which letters are lost: the oldest of those that may be, and as few as can.
use Rattle.std.proofs.Common.{◌≡◌, ℕ, zero, suc, ◌+◌, ◌≤◌, ◌<◌, Bool, true, false, not, [], ◌∷◌, ◌++◌, length, drop, refl, ap, ◌∙◌, arith, inl, inr}
use Rattle.std.specs.Prelude.{if◌then◌else◌}
use Rattle.std.specs.List.{filter}
use Rattle.std.specs.Map.{values_of}
use Rattle.std.proofs.Math.Seq.{drop-nil}
use Rattle.std.proofs.lemmas.Bool.{cases_Bool}
use Rattle.std.proofs.lemmas.List.Elements.{filter-append}
use Rattle.coda_net.specs.declared.letter.Letter.{Letter}
use Rattle.coda_net.specs.Pool.{Letters, lossy_count, lossy_bytes, must_go, without_oldest, without_oldest_of, lost_for}
use Rattle.coda_net.specs.Laws.{may_be_lost, fit, PostsLoseTheOldest}
use Rattle.coda_net.proofs.Losing.{within_bytes, none_goes}
use Rattle.coda_net.proofs.Kept.{count_behind, bytes_behind, oldest_lossy, oldest_safe, count_lossy, count_safe, bytes_lossy, bytes_safe, fits_with, go_lossy, go_safe, lost_lossy, lost_safe, posted_is_within}

-- those that may be lost, and the others
abbrev lossy_of : Letters → Letters
lossy_of ls = filter may_be_lost ls

abbrev safe_of : Letters → Letters
safe_of ls = filter (λ l. not (may_be_lost l)) ls

lossy_in : (l : ℕ × Letter) (ls : Letters) → l.1.lossy ≡ true → lossy_of (l ∷ ls) ≡ l ∷ lossy_of ls
lossy_in l ls e = ap (λ (b : Bool). if b then l ∷ lossy_of ls else lossy_of ls) e

lossy_out : (l : ℕ × Letter) (ls : Letters) → l.1.lossy ≡ false → lossy_of (l ∷ ls) ≡ lossy_of ls
lossy_out l ls e = ap (λ (b : Bool). if b then l ∷ lossy_of ls else lossy_of ls) e

safe_out : (l : ℕ × Letter) (ls : Letters) → l.1.lossy ≡ true → safe_of (l ∷ ls) ≡ safe_of ls
safe_out l ls e = ap (λ (b : Bool). if not b then l ∷ safe_of ls else safe_of ls) e

safe_in : (l : ℕ × Letter) (ls : Letters) → l.1.lossy ≡ false → safe_of (l ∷ ls) ≡ l ∷ safe_of ls
safe_in l ls e = ap (λ (b : Bool). if not b then l ∷ safe_of ls else safe_of ls) e

first_lost : (ls : Letters) → lossy_of (without_oldest ls) ≡ drop 1 (lossy_of ls)
first_lost [] = refl
first_lost (l ∷ ls) = elim (cases_Bool l.1.lossy) [
  | inl lossy ↦ rw (oldest_lossy l ls lossy, lossy_in l ls lossy) refl
  | inr safe ↦ rw (oldest_safe l ls safe, lossy_out l (without_oldest ls) safe, lossy_out l ls safe) (first_lost ls)
]

drop_behind_one : (count : ℕ) (ls : Letters) → drop count (drop 1 ls) ≡ drop (suc count) ls
drop_behind_one count [] = drop-nil count
drop_behind_one count (l ∷ ls) = refl

oldest_lost : (count : ℕ) (ls : Letters) → lossy_of (without_oldest_of count ls) ≡ drop count (lossy_of ls)
oldest_lost zero ls = refl
oldest_lost (suc count) ls = oldest_lost count (without_oldest ls) ∙ ap (λ (ks : Letters). drop count ks) (first_lost ls) ∙ drop_behind_one count (lossy_of ls)

first_safe : (ls : Letters) → safe_of (without_oldest ls) ≡ safe_of ls
first_safe [] = refl
first_safe (l ∷ ls) = elim (cases_Bool l.1.lossy) [
  | inl lossy ↦ rw (oldest_lossy l ls lossy, safe_out l ls lossy) refl
  | inr safe ↦ rw (oldest_safe l ls safe, safe_in l (without_oldest ls) safe, safe_in l ls safe) (ap (λ (ks : Letters). l ∷ ks) (first_safe ls))
]

safe_wait : (count : ℕ) (ls : Letters) → safe_of (without_oldest_of count ls) ≡ safe_of ls
safe_wait zero ls = refl
safe_wait (suc count) ls = safe_wait count (without_oldest ls) ∙ first_safe ls

-- those that may be lost alone count
lossy_counts : (ls : Letters) → lossy_count (values_of (lossy_of ls)) ≡ lossy_count (values_of ls)
lossy_counts [] = refl
lossy_counts (l ∷ ls) = elim (cases_Bool l.1.lossy) [
  | inl lossy ↦ rw (lossy_in l ls lossy) (omega (arith, lossy_counts ls, count_lossy l.1 (values_of ls) lossy, count_lossy l.1 (values_of (lossy_of ls)) lossy))
  | inr safe ↦ rw (lossy_out l ls safe) (omega (arith, lossy_counts ls, count_safe l.1 (values_of ls) safe))
]

lossy_weighs : (ls : Letters) → lossy_bytes (values_of (lossy_of ls)) ≡ lossy_bytes (values_of ls)
lossy_weighs [] = refl
lossy_weighs (l ∷ ls) = elim (cases_Bool l.1.lossy) [
  | inl lossy ↦ rw (lossy_in l ls lossy) (omega (arith, lossy_weighs ls, bytes_lossy l.1 (values_of ls) lossy, bytes_lossy l.1 (values_of (lossy_of ls)) lossy))
  | inr safe ↦ rw (lossy_out l ls safe) (omega (arith, lossy_weighs ls, bytes_safe l.1 (values_of ls) safe))
]

-- with fewer lost the rest doesn't fit
fewer_dont_fit : (count bytes : ℕ) (ls : Letters) (fewer : ℕ) → fewer < must_go count bytes (values_of ls) → fits_with count bytes (values_of (drop fewer (lossy_of ls))) ≡ false
fewer_dont_fit count bytes [] fewer lt = absurd (omega (arith, lt))
fewer_dont_fit count bytes (l ∷ ls) fewer lt =
    elim (cases_Bool (fits_with count bytes (values_of (l ∷ ls)))) [
      | inl fits ↦ absurd (omega (arith, lt, none_goes count bytes (values_of (l ∷ ls)) fits))
      | inr full ↦ elim (cases_Bool l.1.lossy) [
        | inl lossy ↦ rw (lossy_in l ls lossy) (behind_first count bytes l ls fewer lossy full (λ f e. fewer_dont_fit count bytes ls f (omega (arith, lt, e, go_lossy count bytes l.1 (values_of ls) full lossy))))
        | inr safe ↦ rw (lossy_out l ls safe) (fewer_dont_fit count bytes ls fewer (omega (arith, lt, go_safe count bytes l.1 (values_of ls) full safe)))
      ]
    ]
  where
    behind_first : (count bytes : ℕ) (l : ℕ × Letter) (ls : Letters) (fewer : ℕ) → l.1.lossy ≡ true → fits_with count bytes (values_of (l ∷ ls)) ≡ false
        → ((f : ℕ) → fewer ≡ suc f → fits_with count bytes (values_of (drop f (lossy_of ls))) ≡ false) → fits_with count bytes (values_of (drop fewer (l ∷ lossy_of ls))) ≡ false
    behind_first count bytes l ls zero lossy full rest =
        let counts : lossy_count (values_of (l ∷ lossy_of ls)) ≡ lossy_count (values_of (l ∷ ls)) = omega (arith, lossy_counts ls, count_lossy l.1 (values_of ls) lossy, count_lossy l.1 (values_of (lossy_of ls)) lossy) in
        let weighs : lossy_bytes (values_of (l ∷ lossy_of ls)) ≡ lossy_bytes (values_of (l ∷ ls)) = omega (arith, lossy_weighs ls, bytes_lossy l.1 (values_of ls) lossy, bytes_lossy l.1 (values_of (lossy_of ls)) lossy) in
        rw (counts, weighs) full
    behind_first count bytes l ls (suc f) lossy full rest = rest f refl

-- a new letter among those that may be lost, and among the others
new_lossy : (number : ℕ) (letter : Letter) → lossy_of ((number, letter) ∷ []) ≡ (if letter.lossy then (number, letter) ∷ [] else [])
new_lossy number letter = refl

not_if : {A : Type 0} (b : Bool) (x y : A) → (if not b then x else y) ≡ (if b then y else x)
not_if true x y = refl
not_if false x y = refl

new_safe : (number : ℕ) (letter : Letter) → safe_of ((number, letter) ∷ []) ≡ (if letter.lossy then [] else (number, letter) ∷ [])
new_safe number letter = not_if letter.lossy ((number, letter) ∷ []) []

none_fewer : (ls : Letters) (number : ℕ) (letter : Letter) (fewer : ℕ) → fewer < lost_for letter ls → fit (drop fewer (lossy_of ls) ++ (number, letter) ∷ []) ≡ false
none_fewer ls number letter fewer lt =
    let left : Letters = drop fewer (lossy_of ls) in
    let one : Letters = (number, letter) ∷ [] in
    elim (cases_Bool letter.lossy) [
      | inl lossy ↦
          let short = fewer_dont_fit 1 (length letter.bytes) ls fewer (omega (arith, lt, lost_lossy letter ls lossy)) in
          let counts : lossy_count (values_of (left ++ one)) ≡ 1 + lossy_count (values_of left) = omega (arith, count_behind left one, count_lossy letter [] lossy) in
          let weighs : lossy_bytes (values_of (left ++ one)) ≡ length letter.bytes + lossy_bytes (values_of left) = omega (arith, bytes_behind left one, bytes_lossy letter [] lossy) in
          rw (counts, weighs) short
      | inr safe ↦ absurd (omega (arith, lt, lost_safe letter ls safe))
    ]

-- a letter that fits alone is small enough
alone_is_small : (number : ℕ) (letter : Letter) → fit ((number, letter) ∷ []) ≡ true → letter.lossy ≡ true → length letter.bytes ≤ 67108864
alone_is_small number letter fits lossy =
    omega (arith, bytes_lossy letter [] lossy, within_bytes (lossy_count (values_of ((number, letter) ∷ []))) (lossy_bytes (values_of ((number, letter) ∷ []))) fits)

pub posts_lose : PostsLoseTheOldest
posts_lose = record {
  oldest_go = λ ls number letter. filter-append may_be_lost (without_oldest_of (lost_for letter ls) ls) ((number, letter) ∷ [])
      ∙ ap (λ (ks : Letters). ks ++ lossy_of ((number, letter) ∷ [])) (oldest_lost (lost_for letter ls) ls);
  others_wait = λ ls number letter. filter-append (λ l. not (may_be_lost l)) (without_oldest_of (lost_for letter ls) ls) ((number, letter) ∷ [])
      ∙ ap (λ (ks : Letters). ks ++ safe_of ((number, letter) ∷ [])) (safe_wait (lost_for letter ls) ls)
      ∙ ap (λ (ks : Letters). safe_of ls ++ ks) (new_safe number letter);
  rest_fits = λ ls number letter fits alone. posted_is_within ls number letter fits (alone_is_small number letter alone);
  no_fewer = none_fewer;
}
