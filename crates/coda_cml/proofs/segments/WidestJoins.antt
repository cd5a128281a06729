-- Operations that drop records where later ones do too can be left out.
use Rattle.std.proofs.Common.{◌≡◌, ℕ, suc, zero, ◌+◌, ◌-◌, ◌<◌, ◌≤◌, Bool, true, false, ◌||◌, List, [], ◌∷◌, ◌++◌, Option, Some, None, length, take, drop, drop-cons, get_or, refl, sym, ap, ◌∙◌, subst, arith}
use Rattle.std.specs.Prelude.{nat_le, nat_lt, slice_get}
use Rattle.std.proofs.lemmas.Bool.{leb-true, leb-false, le-leb, lt-leb, lt-ltb, le-ltb, ltb-true, and_parts, and_from, and_left, and_right, false≢true}
use Rattle.std.proofs.lemmas.List.{drop_all, take_more}
use Rattle.coda_fid.specs.declared.op.Record.{Record}
use Rattle.coda_cancel.specs.declared.join.Join.{Join}
use Rattle.coda_cancel.specs.Cancel.{add}
use Rattle.coda_cancel.specs.Joins.{noted, joins_of}
use Rattle.coda_cancel.specs.Numbers.{AreAbove, IsRising, dropped, least}
use Rattle.coda_cml.specs.Regrouping.{is_within, is_inside, AreJoinsBelow, AreJoinsAbove, DoNumbersRise, AreJoinsBehind, DoJoinsRise, ends_from}

or_none : (b : Bool) → (b || false) ≡ b
or_none true = refl
or_none false = refl

inside-append : (js ks : List Join) (n : ℕ) → is_inside (js ++ ks) n ≡ (is_inside js n || is_inside ks n)
inside-append [] ks n = refl
inside-append (j ∷ js) ks n = ap (λ b. is_within n j || b) (inside-append js ks n) ∙ go (is_within n j)
  where
    go : (b : Bool) → (b || (is_inside js n || is_inside ks n)) ≡ ((b || is_inside js n) || is_inside ks n)
    go true = refl
    go false = refl

-- ---- a search

not_within : (n : ℕ) (j : Join) → j.number ≤ n → is_within n j ≡ false
not_within n j h = and_right (nat_le j.least n) (nat_lt n j.number) (le-ltb n j.number h)

not_yet : (n : ℕ) (j : Join) → n < j.least → is_within n j ≡ false
not_yet n j h = and_left (nat_le j.least n) (nat_lt n j.number) (lt-leb j.least n h)

behind_at : (j : Join) (js : List Join) (k : ℕ) (d : Join) → AreJoinsBehind j js → k < length js → j.number < (get_or js k d).number
behind_at j [] k d h l = absurd (omega (arith, l))
behind_at j (i ∷ js) zero d h l = h.1
behind_at j (i ∷ js) (suc k) d h l = behind_at j js k d h.2 (omega (arith, l))

-- those up to one that is not above the number don't count
pub searched : (n : ℕ) (js : List Join) (k : ℕ) (d : Join) → DoJoinsRise js → k < length js → (get_or js k d).number ≤ n → is_inside (drop (k + 1) js) n ≡ is_inside js n
searched n [] k d h l low = absurd (omega (arith, l))
searched n (j ∷ js) zero d h l low = sym (ap (λ b. b || is_inside js n) (not_within n j low))
searched n (j ∷ js) (suc k) d h l low =
    let one : suc k + 1 ≡ suc (k + 1) = omega arith in
    ap (λ m. is_inside (drop m (j ∷ js)) n) one
    ∙ searched n js k d h.1 (omega (arith, l)) low
    ∙ sym (ap (λ b. b || is_inside js n) (not_within n j (let here = behind_at j js k d h.0 (omega (arith, l)) in omega (arith, here, low))))

all_later : (n : ℕ) (j : Join) (js : List Join) → AreJoinsBehind j js → n ≤ j.least → is_inside js n ≡ false
all_later n j [] h l = refl
all_later n j (i ∷ js) h l = ap (λ b. b || is_inside js n) (not_yet n i (omega (arith, h.0, l))) ∙ all_later n j js h.2 l

rise_drop : (k : ℕ) (js : List Join) → DoJoinsRise js → DoJoinsRise (drop k js)
rise_drop zero js h = h
rise_drop (suc k) [] h = tt
rise_drop (suc k) (j ∷ js) h = rise_drop k js h.1

-- the first that is above the number tells
first_tells : (n : ℕ) (j : Join) (js : List Join) → DoJoinsRise (j ∷ js) → n < j.number → is_inside (j ∷ js) n ≡ nat_le j.least n
first_tells n j js h l = go (nat_le j.least n) refl
  where
    go : (b : Bool) → nat_le j.least n ≡ b → (is_within n j || is_inside js n) ≡ b
    go true e = ap (λ b. b || is_inside js n) (and_from (nat_le j.least n) (nat_lt n j.number) e (lt-ltb n j.number l))
    go false e = ap (λ b. b || is_inside js n) (and_left (nat_le j.least n) (nat_lt n j.number) e) ∙ all_later n j js h.0 (let low = leb-false j.least n e in omega (arith, low))

pub found_tells : (n : ℕ) (js : List Join) (k : ℕ) (j : Join) → DoJoinsRise js → k < length js → j ≡ get_or js k j → n < j.number → nat_le j.least n ≡ is_inside (drop k js) n
found_tells n js k j h l got high =
    let split : drop k js ≡ j ∷ drop (suc k) js = drop-cons js k j l ∙ ap (λ x. x ∷ drop (suc k) js) (sym got) in
    sym (ap (λ l. is_inside l n) split ∙ first_tells n j (drop (suc k) js) (subst DoJoinsRise split (rise_drop k js h)) high)

pub none_tells : (n : ℕ) (js : List Join) (k : ℕ) → length js ≤ k → false ≡ is_inside (drop k js) n
none_tells n js k h = sym (ap (λ l. is_inside l n) (drop_all k js h))

-- ---- the last one

front_behind : (j : Join) (js ks : List Join) → AreJoinsBehind j (js ++ ks) → AreJoinsBehind j js
front_behind j [] ks h = tt
front_behind j (i ∷ js) ks h = (h.0, h.1, front_behind j js ks h.2)

rise_take : (k : ℕ) (js : List Join) → DoJoinsRise js → DoJoinsRise (take k js)
rise_take zero js h = tt
rise_take (suc k) [] h = tt
rise_take (suc k) (j ∷ js) h = (behind_take k j js h.0, rise_take k js h.1)
  where
    behind_take : (k : ℕ) (j : Join) (js : List Join) → AreJoinsBehind j js → AreJoinsBehind j (take k js)
    behind_take zero j js h = tt
    behind_take (suc k) j [] h = tt
    behind_take (suc k) j (i ∷ js) h = (h.0, h.1, behind_take k j js h.2)

below_take : (n k : ℕ) (js : List Join) → AreJoinsBelow n js → AreJoinsBelow n (take k js)
below_take n zero js h = tt
below_take n (suc k) [] h = tt
below_take n (suc k) (j ∷ js) h = (h.0, below_take n k js h.1)

-- one that the new one covers is left out
covered : (n : ℕ) (j new : Join) → new.least ≤ j.least → j.number < new.number → is_within n j ≡ true → is_within n new ≡ true
covered n j new l m h =
    let parts = and_parts (nat_le j.least n) (nat_lt n j.number) h in
    and_from (nat_le new.least n) (nat_lt n new.number) (le-leb new.least n (let low = leb-true j.least n parts.0 in omega (arith, low, l))) (lt-ltb n new.number (let high = ltb-true n j.number parts.1 in omega (arith, high, m)))

or_covered : (x y : Bool) → (x ≡ true → y ≡ true) → (x || y) ≡ y
or_covered true y h = sym (h refl)
or_covered false y h = refl

pub cut_last : (n : ℕ) (js : List Join) (new : Join) → ends_from new.least js ≡ true → AreJoinsBelow new.number js → (is_inside (take (length js - 1) js) n || is_within n new) ≡ (is_inside js n || is_within n new)
cut_last n [] new h below = absurd (false≢true h)
cut_last n (j ∷ []) new h below = sym (ap (λ b. b || is_within n new) (or_none (is_within n j)) ∙ or_covered (is_within n j) (is_within n new) (covered n j new (leb-true new.least j.least h) below.0))
cut_last n (j ∷ next ∷ rest) new h below =
    let one : length (j ∷ next ∷ rest) - 1 ≡ suc (length (next ∷ rest) - 1) = omega arith in
    ap (λ k. is_inside (take k (j ∷ next ∷ rest)) n || is_within n new) one ∙ assoc (is_within n j) (is_inside (take (length (next ∷ rest) - 1) (next ∷ rest)) n) (is_within n new)
    ∙ ap (λ b. is_within n j || b) (cut_last n (next ∷ rest) new h below.1) ∙ sym (assoc (is_within n j) (is_inside (next ∷ rest) n) (is_within n new))
  where
    assoc : (x y z : Bool) → ((x || y) || z) ≡ (x || (y || z))
    assoc true y z = refl
    assoc false y z = refl

pub rise_cut : (js : List Join) → DoJoinsRise js → DoJoinsRise (take (length js - 1) js)
rise_cut js h = rise_take (length js - 1) js h

pub below_cut : (n : ℕ) (js : List Join) → AreJoinsBelow n js → AreJoinsBelow n (take (length js - 1) js)
below_cut n js h = below_take n (length js - 1) js h

-- ---- one more

behind_pushed : (j : Join) (js : List Join) (new : Join) → AreJoinsBehind j js → j.least < new.least → j.number < new.number → AreJoinsBehind j (js ++ new ∷ [])
behind_pushed j [] new h l m = (l, m, tt)
behind_pushed j (i ∷ js) new h l m = (h.0, h.1, behind_pushed j js new h.2 l m)

last_low : (j : Join) (js : List Join) (least : ℕ) → DoJoinsRise (j ∷ js) → ends_from least (j ∷ js) ≡ false → j.least < least
last_low j [] least h e = leb-false least j.least e
last_low j (i ∷ js) least h e = let more = last_low i js least h.1 e in omega (arith, more, h.0.0)

rest_ends : (j : Join) (js : List Join) (least : ℕ) → ends_from least (j ∷ js) ≡ false → ends_from least js ≡ false
rest_ends j [] least e = refl
rest_ends j (i ∷ js) least e = e

pub rise_pushed : (js : List Join) (new : Join) → DoJoinsRise js → ends_from new.least js ≡ false → AreJoinsBelow new.number js → DoJoinsRise (js ++ new ∷ [])
rise_pushed [] new h e below = (tt, tt)
rise_pushed (j ∷ js) new h e below = (behind_pushed j js new h.0 (last_low j js new.least h e) below.0, rise_pushed js new h.1 (rest_ends j js new.least e) below.1)

pub below_pushed : (js : List Join) (new : Join) (n : ℕ) → AreJoinsBelow new.number js → new.number < n → AreJoinsBelow n (js ++ new ∷ [])
below_pushed [] new n h l = (l, tt)
below_pushed (j ∷ js) new n h l = (omega (arith, h.0, l), below_pushed js new n h.1 l)

pub inside_pushed : (js : List Join) (new : Join) (n : ℕ) → is_inside (js ++ new ∷ []) n ≡ (is_inside js n || is_within n new)
inside_pushed js new n = inside-append js (new ∷ []) n ∙ ap (λ b. is_inside js n || b) (or_none (is_within n new))

-- ---- all

pub inside_more : (js : List Join) (i : ℕ) (d : Join) (n : ℕ) → i < length js → is_inside (take (i + 1) js) n ≡ (is_inside (take i js) n || is_within n (get_or js i d))
inside_more js i d n l = ap (λ l. is_inside l n) (take_more js i d l) ∙ inside_pushed (take i js) (get_or js i d) n

above_at : (m : ℕ) (js : List Join) (k : ℕ) (d : Join) → AreJoinsAbove m js → k < length js → m < (get_or js k d).number
above_at m [] k d h l = absurd (omega (arith, l))
above_at m (j ∷ js) zero d h l = h.0
above_at m (j ∷ js) (suc k) d h l = above_at m js k d h.1 (omega (arith, l))

pub next_above : (js : List Join) (i : ℕ) (d e : Join) → DoNumbersRise js → i + 1 < length js → (get_or js i d).number < (get_or js (i + 1) e).number
next_above [] i d e h l = absurd (omega (arith, l))
next_above (j ∷ js) zero d e h l = above_at j.number js 0 e h.0 (omega (arith, l))
next_above (j ∷ js) (suc i) d e h l =
    let one : suc (i + 1) ≡ suc i + 1 = omega arith in
    subst (λ m. (get_or js i d).number < (get_or (j ∷ js) m e).number) one (next_above js i d e h.1 (omega (arith, l)))

-- the joins of a run
joins_above : (m : ℕ) (recs run : List Record) → AreAbove m run → AreJoinsAbove m (joins_of recs run)
joins_above m recs [] h = tt
joins_above m recs (r ∷ run) h = go (least (dropped recs r)) (joins_above m (add recs r) run h.1)
  where
    go : (o : Option ℕ) → AreJoinsAbove m (joins_of (add recs r) run) → AreJoinsAbove m (noted r.number o ++ joins_of (add recs r) run)
    go None rest = rest
    go (Some k) rest = (h.0, rest)

pub joins_rise : (recs run : List Record) → IsRising run → DoNumbersRise (joins_of recs run)
joins_rise recs [] h = tt
joins_rise recs (r ∷ run) h = go (least (dropped recs r)) (joins_rise (add recs r) run h.1) (joins_above r.number (add recs r) run h.0)
  where
    go : (o : Option ℕ) → DoNumbersRise (joins_of (add recs r) run) → AreJoinsAbove r.number (joins_of (add recs r) run) → DoNumbersRise (noted r.number o ++ joins_of (add recs r) run)
    go None rest above = rest
    go (Some k) rest above = (above, rest)

pub few_joins : (recs run : List Record) → length (joins_of recs run) ≤ length run
few_joins recs [] = omega arith
few_joins recs (r ∷ run) = go (least (dropped recs r)) (few_joins (add recs r) run)
  where
    go : (o : Option ℕ) → length (joins_of (add recs r) run) ≤ length run → length (noted r.number o ++ joins_of (add recs r) run) ≤ suc (length run)
    go None rest = omega (arith, rest)
    go (Some k) rest = omega (arith, rest)

-- the last one tells
pub last_ends : (n : ℕ) (js : List Join) (j : Join) → Some j ≡ slice_get js (length js - 1) → nat_le n j.least ≡ ends_from n js
last_ends n [] j e = absurd cc
last_ends n (i ∷ []) j e = let same : j ≡ i = cc in ap (λ (j : Join). nat_le n j.least) same
last_ends n (i ∷ next ∷ rest) j e =
    let one : length (i ∷ next ∷ rest) - 1 ≡ suc (length (next ∷ rest) - 1) = omega arith in
    last_ends n (next ∷ rest) j (e ∙ ap (slice_get (i ∷ next ∷ rest)) one)
