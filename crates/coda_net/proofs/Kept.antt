-- What is always kept: numbers rise and were given out, and letters are within the limits.
use Rattle.std.proofs.Common.{◌≡◌, ℕ, zero, suc, ◌+◌, ◌≤◌, ◌<◌, Bool, true, false, List, [], ◌∷◌, ◌++◌, length, nat_eq, refl, sym, ap, ◌∙◌, arith, inl, inr}
use Rattle.std.specs.Prelude.{if◌then◌else◌}
use Rattle.std.specs.Map.{values_of}
use Rattle.std.proofs.lemmas.Bool.{cases_Bool}
use Rattle.coda_net.specs.declared.letter.Letter.{Letter}
use Rattle.coda_net.specs.Pool.{Letters, lossy_count, lossy_bytes, are_within, must_go, without_oldest, without_oldest_of, without, lost_for, posted_to, AreRising, AreUpTo, AreKept}
use Rattle.coda_net.proofs.Losing.{within_count, within_bytes, is_within, none_goes, one_goes}

-- ---- counts

pub count_behind : (ls ks : Letters) → lossy_count (values_of (ls ++ ks)) ≡ lossy_count (values_of ls) + lossy_count (values_of ks)
count_behind [] ks = omega arith
count_behind (l ∷ ls) ks = omega (arith, count_behind ls ks)

pub bytes_behind : (ls ks : Letters) → lossy_bytes (values_of (ls ++ ks)) ≡ lossy_bytes (values_of ls) + lossy_bytes (values_of ks)
bytes_behind [] ks = omega arith
bytes_behind (l ∷ ls) ks = omega (arith, bytes_behind ls ks)

-- ---- lists whose first letter may be lost, or may not

pub oldest_lossy : (l : ℕ × Letter) (ls : Letters) → l.1.lossy ≡ true → without_oldest (l ∷ ls) ≡ ls
oldest_lossy l ls e = ap (λ (b : Bool). if b then ls else l ∷ without_oldest ls) e

pub oldest_safe : (l : ℕ × Letter) (ls : Letters) → l.1.lossy ≡ false → without_oldest (l ∷ ls) ≡ l ∷ without_oldest ls
oldest_safe l ls e = ap (λ (b : Bool). if b then ls else l ∷ without_oldest ls) e

pub count_lossy : (l : Letter) (ls : List Letter) → l.lossy ≡ true → lossy_count (l ∷ ls) ≡ 1 + lossy_count ls
count_lossy l ls e = ap (λ (b : Bool). (if b then 1 else 0) + lossy_count ls) e

pub count_safe : (l : Letter) (ls : List Letter) → l.lossy ≡ false → lossy_count (l ∷ ls) ≡ lossy_count ls
count_safe l ls e = ap (λ (b : Bool). (if b then 1 else 0) + lossy_count ls) e ∙ omega arith

pub bytes_lossy : (l : Letter) (ls : List Letter) → l.lossy ≡ true → lossy_bytes (l ∷ ls) ≡ length l.bytes + lossy_bytes ls
bytes_lossy l ls e = ap (λ (b : Bool). (if b then length l.bytes else 0) + lossy_bytes ls) e

pub bytes_safe : (l : Letter) (ls : List Letter) → l.lossy ≡ false → lossy_bytes (l ∷ ls) ≡ lossy_bytes ls
bytes_safe l ls e = ap (λ (b : Bool). (if b then length l.bytes else 0) + lossy_bytes ls) e ∙ omega arith

-- whether all fits with so many letters of so many bytes beside it
abbrev pub fits_with : ℕ → ℕ → List Letter → Bool
fits_with count bytes ls = are_within (count + lossy_count ls) (bytes + lossy_bytes ls)

pub go_lossy : (count bytes : ℕ) (l : Letter) (ls : List Letter) → fits_with count bytes (l ∷ ls) ≡ false → l.lossy ≡ true → must_go count bytes (l ∷ ls) ≡ suc (must_go count bytes ls)
go_lossy count bytes l ls full lossy = one_goes count bytes l ls full ∙ ap (λ (b : Bool). (if b then 1 else 0) + must_go count bytes ls) lossy ∙ omega arith

pub go_safe : (count bytes : ℕ) (l : Letter) (ls : List Letter) → fits_with count bytes (l ∷ ls) ≡ false → l.lossy ≡ false → must_go count bytes (l ∷ ls) ≡ must_go count bytes ls
go_safe count bytes l ls full safe = one_goes count bytes l ls full ∙ ap (λ (b : Bool). (if b then 1 else 0) + must_go count bytes ls) safe ∙ omega arith

-- a letter that may not be lost stays in front
pub stays_in_front : (count : ℕ) (l : ℕ × Letter) (ls : Letters) → l.1.lossy ≡ false → without_oldest_of count (l ∷ ls) ≡ l ∷ without_oldest_of count ls
stays_in_front zero l ls e = refl
stays_in_front (suc count) l ls e = rw (oldest_safe l ls e) (stays_in_front count l (without_oldest ls) e)

-- one that may be lost is the first to go
pub first_goes : (count : ℕ) (l : ℕ × Letter) (ls : Letters) → l.1.lossy ≡ true → without_oldest_of (suc count) (l ∷ ls) ≡ without_oldest_of count ls
first_goes count l ls e = rw (oldest_lossy l ls e) refl

-- what is left is within the limits
pub left_is_within : (count bytes : ℕ) (ls : Letters) → are_within count bytes ≡ true → fits_with count bytes (values_of (without_oldest_of (must_go count bytes (values_of ls)) ls)) ≡ true
left_is_within count bytes [] alone = is_within (count + 0) (bytes + 0) (omega (arith, within_count count bytes alone)) (omega (arith, within_bytes count bytes alone))
left_is_within count bytes (l ∷ ls) alone =
    let k = must_go count bytes (values_of ls) in
    let rest = left_is_within count bytes ls alone in
    elim (cases_Bool (fits_with count bytes (values_of (l ∷ ls)))) [
      | inl fits ↦ rw (none_goes count bytes (values_of (l ∷ ls)) fits) fits
      | inr full ↦ elim (cases_Bool l.1.lossy) [
        | inl lossy ↦ rw (go_lossy count bytes l.1 (values_of ls) full lossy, first_goes k l ls lossy) rest
        | inr safe ↦ rw (go_safe count bytes l.1 (values_of ls) full safe, stays_in_front k l ls safe, count_safe l.1 (values_of (without_oldest_of k ls)) safe, bytes_safe l.1 (values_of (without_oldest_of k ls)) safe) rest
      ]
    ]

-- no more go than may be lost
pub few_go : (count bytes : ℕ) (ls : List Letter) → must_go count bytes ls ≤ lossy_count ls
few_go count bytes [] = omega arith
few_go count bytes (l ∷ ls) =
    elim (cases_Bool (are_within (count + lossy_count (l ∷ ls)) (bytes + lossy_bytes (l ∷ ls)))) [
      | inl fits ↦ omega (arith, none_goes count bytes (l ∷ ls) fits)
      | inr full ↦ elim (cases_Bool l.lossy) [
        | inl lossy ↦ omega (arith, few_go count bytes ls, go_lossy count bytes l ls full lossy, count_lossy l ls lossy)
        | inr safe ↦ omega (arith, few_go count bytes ls, go_safe count bytes l ls full safe, count_safe l ls safe)
      ]
    ]

one_goes_before : (ls ks : Letters) → 0 < lossy_count (values_of ls) → without_oldest (ls ++ ks) ≡ without_oldest ls ++ ks
one_goes_before [] ks some = absurd (omega (arith, some))
one_goes_before (l ∷ ls) ks some = elim (cases_Bool l.1.lossy) [
  | inl lossy ↦ oldest_lossy l (ls ++ ks) lossy ∙ ap (λ (r : Letters). r ++ ks) (sym (oldest_lossy l ls lossy))
  | inr safe ↦
      let more : 0 < lossy_count (values_of ls) = omega (arith, some, count_safe l.1 (values_of ls) safe) in
      oldest_safe l (ls ++ ks) safe ∙ ap (λ (r : Letters). l ∷ r) (one_goes_before ls ks more) ∙ ap (λ (r : Letters). r ++ ks) (sym (oldest_safe l ls safe))
]

one_less : (ls : Letters) → 0 < lossy_count (values_of ls) → lossy_count (values_of (without_oldest ls)) + 1 ≡ lossy_count (values_of ls)
one_less [] some = absurd (omega (arith, some))
one_less (l ∷ ls) some = elim (cases_Bool l.1.lossy) [
  | inl lossy ↦ rw (oldest_lossy l ls lossy) (omega (arith, count_lossy l.1 (values_of ls) lossy))
  | inr safe ↦
      let more : 0 < lossy_count (values_of ls) = omega (arith, some, count_safe l.1 (values_of ls) safe) in
      rw (oldest_safe l ls safe) (omega (arith, one_less ls more, count_safe l.1 (values_of ls) safe, count_safe l.1 (values_of (without_oldest ls)) safe))
]

-- those that go stand before the new one
pub go_before : (count : ℕ) (ls ks : Letters) → count ≤ lossy_count (values_of ls) → without_oldest_of count (ls ++ ks) ≡ without_oldest_of count ls ++ ks
go_before zero ls ks few = refl
go_before (suc count) ls ks few =
    let some : 0 < lossy_count (values_of ls) = omega (arith, few) in
    rw (one_goes_before ls ks some) (go_before count (without_oldest ls) ks (omega (arith, few, one_less ls some)))

pub lost_lossy : (letter : Letter) (ls : Letters) → letter.lossy ≡ true → lost_for letter ls ≡ must_go 1 (length letter.bytes) (values_of ls)
lost_lossy letter ls e = ap (λ (b : Bool). if b then must_go 1 (length letter.bytes) (values_of ls) else 0) e

pub lost_safe : (letter : Letter) (ls : Letters) → letter.lossy ≡ false → lost_for letter ls ≡ 0
lost_safe letter ls e = ap (λ (b : Bool). if b then must_go 1 (length letter.bytes) (values_of ls) else 0) e

pub few_are_lost : (letter : Letter) (ls : Letters) → lost_for letter ls ≤ lossy_count (values_of ls)
few_are_lost letter ls = elim (cases_Bool letter.lossy) [
  | inl lossy ↦ rw (lost_lossy letter ls lossy) (few_go 1 (length letter.bytes) (values_of ls))
  | inr safe ↦ rw (lost_safe letter ls safe) (omega arith)
]

pub lost_before : (ls : Letters) (number : ℕ) (letter : Letter) → without_oldest_of (lost_for letter ls) (ls ++ (number, letter) ∷ []) ≡ posted_to ls number letter
lost_before ls number letter = go_before (lost_for letter ls) ls ((number, letter) ∷ []) (few_are_lost letter ls)

-- ---- numbers

rising_from : (a b : ℕ) (ls : Letters) → a ≤ b → AreRising b ls → AreRising a ls
rising_from a b [] le rising = tt
rising_from a b (l ∷ ls) le rising = (omega (arith, le, rising.0), rising.1)

pub rising_without_oldest : (a : ℕ) (ls : Letters) → AreRising a ls → AreRising a (without_oldest ls)
rising_without_oldest a [] rising = tt
rising_without_oldest a (l ∷ ls) rising = elim (cases_Bool l.1.lossy) [
  | inl lossy ↦ rw (oldest_lossy l ls lossy) (rising_from a l.0 ls (omega (arith, rising.0)) rising.1)
  | inr safe ↦ rw (oldest_safe l ls safe) (rising.0, rising_without_oldest l.0 ls rising.1)
]

pub rising_left : (count a : ℕ) (ls : Letters) → AreRising a ls → AreRising a (without_oldest_of count ls)
rising_left zero a ls rising = rising
rising_left (suc count) a ls rising = rising_left count a (without_oldest ls) (rising_without_oldest a ls rising)

pub rising_behind : (a posted number : ℕ) (letter : Letter) (ls : Letters) → a ≤ posted → posted < number → AreUpTo posted ls → AreRising a ls → AreRising a (ls ++ (number, letter) ∷ [])
rising_behind a posted number letter [] le lt up rising = (omega (arith, le, lt), tt)
rising_behind a posted number letter (l ∷ ls) le lt up rising = (rising.0, rising_behind l.0 posted number letter ls up.0 lt up.1 rising.1)

up_without_oldest : (posted : ℕ) (ls : Letters) → AreUpTo posted ls → AreUpTo posted (without_oldest ls)
up_without_oldest posted [] up = tt
up_without_oldest posted (l ∷ ls) up = elim (cases_Bool l.1.lossy) [
  | inl lossy ↦ rw (oldest_lossy l ls lossy) up.1
  | inr safe ↦ rw (oldest_safe l ls safe) (up.0, up_without_oldest posted ls up.1)
]

pub up_left : (count posted : ℕ) (ls : Letters) → AreUpTo posted ls → AreUpTo posted (without_oldest_of count ls)
up_left zero posted ls up = up
up_left (suc count) posted ls up = up_left count posted (without_oldest ls) (up_without_oldest posted ls up)

pub up_behind : (posted number : ℕ) (letter : Letter) (ls : Letters) → posted ≤ number → AreUpTo posted ls → AreUpTo number (ls ++ (number, letter) ∷ [])
up_behind posted number letter [] le up = (omega arith, tt)
up_behind posted number letter (l ∷ ls) le up = (omega (arith, le, up.0), up_behind posted number letter ls le up.1)

-- ---- a letter that is lost

rising_without : (a number : ℕ) (ls : Letters) → AreRising a ls → AreRising a (without ls number)
rising_without a number [] rising = tt
rising_without a number (l ∷ ls) rising = elim (cases_Bool (nat_eq number l.0)) [
  | inl that ↦ rw that (rising_from a l.0 ls (omega (arith, rising.0)) rising.1)
  | inr other ↦ rw other (rising.0, rising_without l.0 number ls rising.1)
]

up_without : (posted number : ℕ) (ls : Letters) → AreUpTo posted ls → AreUpTo posted (without ls number)
up_without posted number [] up = tt
up_without posted number (l ∷ ls) up = elim (cases_Bool (nat_eq number l.0)) [
  | inl that ↦ rw that up.1
  | inr other ↦ rw other (up.0, up_without posted number ls up.1)
]

count_without : (number : ℕ) (ls : Letters) → lossy_count (values_of (without ls number)) ≤ lossy_count (values_of ls)
count_without number [] = omega arith
count_without number (l ∷ ls) = elim (cases_Bool (nat_eq number l.0)) [
  | inl that ↦ rw that (omega arith)
  | inr other ↦ rw other (omega (arith, count_without number ls))
]

bytes_without : (number : ℕ) (ls : Letters) → lossy_bytes (values_of (without ls number)) ≤ lossy_bytes (values_of ls)
bytes_without number [] = omega arith
bytes_without number (l ∷ ls) = elim (cases_Bool (nat_eq number l.0)) [
  | inl that ↦ rw that (omega arith)
  | inr other ↦ rw other (omega (arith, bytes_without number ls))
]

-- ---- the calls keep them

pub kept_lost : (ls : Letters) (posted number : ℕ) → AreKept ls posted → AreKept (without ls number) posted
kept_lost ls posted number kept =
    let count = lossy_count (values_of ls) in
    let bytes = lossy_bytes (values_of ls) in
    record {
      rising = rising_without 0 number ls kept.rising;
      given = up_without posted number ls kept.given;
      within = is_within (lossy_count (values_of (without ls number))) (lossy_bytes (values_of (without ls number)))
          (omega (arith, count_without number ls, within_count count bytes kept.within)) (omega (arith, bytes_without number ls, within_bytes count bytes kept.within));
    }

-- the letters with a new one are within the limits
pub posted_is_within : (ls : Letters) (number : ℕ) (letter : Letter) → are_within (lossy_count (values_of ls)) (lossy_bytes (values_of ls)) ≡ true → (letter.lossy ≡ true → length letter.bytes ≤ 67108864)
    → are_within (lossy_count (values_of (posted_to ls number letter))) (lossy_bytes (values_of (posted_to ls number letter))) ≡ true
posted_is_within ls number letter within small =
    let left : Letters = without_oldest_of (lost_for letter ls) ls in
    let one : Letters = (number, letter) ∷ [] in
    elim (cases_Bool letter.lossy) [
      | inl lossy ↦
          let fits : fits_with 1 (length letter.bytes) (values_of left) ≡ true =
          rw (lost_lossy letter ls lossy) (left_is_within 1 (length letter.bytes) ls (is_within 1 (length letter.bytes) (omega arith) (small lossy))) in
          is_within (lossy_count (values_of (left ++ one))) (lossy_bytes (values_of (left ++ one)))
          (omega (arith, count_lossy letter [] lossy, within_count (1 + lossy_count (values_of left)) (length letter.bytes + lossy_bytes (values_of left)) fits, count_behind left one))
          (omega (arith, bytes_lossy letter [] lossy, within_bytes (1 + lossy_count (values_of left)) (length letter.bytes + lossy_bytes (values_of left)) fits, bytes_behind left one))
      | inr safe ↦
          rw (lost_safe letter ls safe) (is_within (lossy_count (values_of (ls ++ one))) (lossy_bytes (values_of (ls ++ one)))
          (omega (arith, count_safe letter [] safe, within_count (lossy_count (values_of ls)) (lossy_bytes (values_of ls)) within, count_behind ls one))
          (omega (arith, bytes_safe letter [] safe, within_bytes (lossy_count (values_of ls)) (lossy_bytes (values_of ls)) within, bytes_behind ls one)))
    ]

pub kept_posted : (ls : Letters) (posted : ℕ) (letter : Letter) → AreKept ls posted → (letter.lossy ≡ true → length letter.bytes ≤ 67108864) → AreKept (posted_to ls (posted + 1) letter) (posted + 1)
kept_posted ls posted letter kept small =
    let left : Letters = without_oldest_of (lost_for letter ls) ls in
    let up = up_left (lost_for letter ls) posted ls kept.given in
    record {
      rising = rising_behind 0 posted (posted + 1) letter left (omega arith) (omega arith) up (rising_left (lost_for letter ls) 0 ls kept.rising);
      given = up_behind posted (posted + 1) letter left (omega arith) up;
      within = posted_is_within ls (posted + 1) letter kept.within small;
    }
