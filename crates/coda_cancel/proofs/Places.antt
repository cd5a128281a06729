-- Places for records: what is kept in them, and their numbers.
use Rattle.std.proofs.Common.{◌≡◌, ℕ, suc, zero, ◌+◌, ◌-◌, ◌<◌, ◌≤◌, Bool, true, false, cond, ◌||◌, List, [], ◌∷◌, ◌++◌, map, Option, Some, None, length, take, drop, get_or, set, refl, sym, ap, ◌∙◌, subst, arith, inl, inr, ◌⊎◌}
use Rattle.std.specs.List.{filter}
use Rattle.std.specs.Prelude.{◌==◌, slice_get, option_map}
use Rattle.std.proofs.lemmas.Bool.{eqb-true, true≢false, false≢true, cases_lt, cases_order}
use Rattle.std.proofs.lemmas.List.{append-nil, take_more, take-append-drop}
use Rattle.std.proofs.Math.Seq.{get_or-append_seam, set-append_seam, take-append_seam, drop-append_seam}
use Rattle.coda_fid.specs.declared.op.Record.{Record}
use Rattle.coda_cancel.specs.declared.shelf.Slot.{Slot}
use Rattle.coda_cancel.specs.declared.shelf.Slot.TheVariants.{Gone, Kept}
use Rattle.coda_cancel.specs.Mentions.{last_number}
use Rattle.coda_cancel.specs.Numbers.{AreAbove, AreBelow, IsRising}
use Rattle.coda_cancel.specs.Shelved.{is_numbered}
use Rattle.coda_cancel.specs.Slots.{number_of, is_kept, put_slot, kept_in, AreSlotsAbove, DoSlotsRise, is_last_kept}

put_append : (s : Slot) (rs os : List Record) → put_slot s (rs ++ os) ≡ put_slot s rs ++ os
put_append (Gone n) rs os = refl
put_append (Kept r) rs os = refl

pub kept_in-append : (ss ts : List Slot) → kept_in (ss ++ ts) ≡ kept_in ss ++ kept_in ts
kept_in-append [] ts = refl
kept_in-append (s ∷ ss) ts = ap (put_slot s) (kept_in-append ss ts) ∙ put_append s (kept_in ss) (kept_in ts)

pub kept_in-kept : (rs : List Record) → kept_in (map Kept rs) ≡ rs
kept_in-kept [] = refl
kept_in-kept (r ∷ rs) = ap (λ l. r ∷ l) (kept_in-kept rs)

-- ---- numbers that rise

above_kept_in : (n : ℕ) (ss : List Slot) → AreSlotsAbove n ss → AreAbove n (kept_in ss)
above_kept_in n [] h = tt
above_kept_in n (Gone m ∷ ss) h = above_kept_in n ss h.1
above_kept_in n (Kept r ∷ ss) h = (h.0, above_kept_in n ss h.1)

pub kept_in_rises : (ss : List Slot) → DoSlotsRise ss → IsRising (kept_in ss)
kept_in_rises [] h = tt
kept_in_rises (Gone m ∷ ss) h = kept_in_rises ss h.1
kept_in_rises (Kept r ∷ ss) h = (above_kept_in r.number ss h.0, kept_in_rises ss h.1)

above_all_kept : (n : ℕ) (rs : List Record) → AreAbove n rs → AreSlotsAbove n (map Kept rs)
above_all_kept n [] h = tt
above_all_kept n (r ∷ rs) h = (h.0, above_all_kept n rs h.1)

pub all_kept_rise : (rs : List Record) → IsRising rs → DoSlotsRise (map Kept rs)
all_kept_rise [] h = tt
all_kept_rise (r ∷ rs) h = (above_all_kept r.number rs h.0, all_kept_rise rs h.1)

pub all_kept_last : (rs : List Record) → is_last_kept (map Kept rs) ≡ true
all_kept_last [] = refl
all_kept_last (r ∷ []) = refl
all_kept_last (r ∷ next ∷ rest) = all_kept_last (next ∷ rest)

-- by places
above_at : (n : ℕ) (ss : List Slot) (i : ℕ) (d : Slot) → AreSlotsAbove n ss → i < length ss → n < number_of (get_or ss i d)
above_at n [] i d h l = absurd (omega (arith, l))
above_at n (s ∷ ss) zero d h l = h.0
above_at n (s ∷ ss) (suc i) d h l = above_at n ss i d h.1 (omega (arith, l))

pub rising_at : (ss : List Slot) (i j : ℕ) (d : Slot) → DoSlotsRise ss → i < j → j < length ss → number_of (get_or ss i d) < number_of (get_or ss j d)
rising_at [] i j d h l m = absurd (omega (arith, m))
rising_at (s ∷ ss) i zero d h l m = absurd (omega (arith, l))
rising_at (s ∷ ss) zero (suc j) d h l m = above_at (number_of s) ss j d h.0 (omega (arith, m))
rising_at (s ∷ ss) (suc i) (suc j) d h l m = rising_at ss i j d h.1 (omega (arith, l)) (omega (arith, m))

-- ---- a record in its place

pub record Place (rec : Record) (ss : List Slot) (front back : List Record) : Type 0 where
  pub before : List Slot
  pub after : List Slot
  pub here : ss ≡ before ++ Kept rec ∷ after
  pub fronts : kept_in before ≡ front
  pub backs : kept_in after ≡ back

pub place : (rec : Record) (ss : List Slot) (front back : List Record) → kept_in ss ≡ front ++ rec ∷ back → Place rec ss front back
place rec [] [] back e = absurd cc
place rec [] (f ∷ fs) back e = absurd cc
place rec (Gone n ∷ ss) front back e =
    let p = place rec ss front back e in
    record { before = Gone n ∷ p.before; after = p.after; here = ap (λ l. Gone n ∷ l) p.here; fronts = p.fronts; backs = p.backs }
place rec (Kept r ∷ ss) [] back e =
    let same : r ≡ rec = cc in
    record { before = []; after = ss; here = λ i. Kept (same i) ∷ ss; fronts = refl; backs = cc }
place rec (Kept r ∷ ss) (f ∷ fs) back e =
    let p = place rec ss fs back cc in
    let same : r ≡ f = cc in
    record { before = Kept r ∷ p.before; after = p.after; here = ap (λ l. Kept r ∷ l) p.here; fronts = λ i. same i ∷ p.fronts i; backs = p.backs }

-- a numbered record stands somewhere
pub record Somewhere (n : ℕ) (rs : List Record) : Type 0 where
  pub front : List Record
  pub rec : Record
  pub back : List Record
  pub here : rs ≡ front ++ rec ∷ back
  pub is : rec.number ≡ n

pub somewhere : (n : ℕ) (rs : List Record) → is_numbered n rs ≡ true → Somewhere n rs
somewhere n [] h = absurd (false≢true h)
somewhere n (r ∷ rs) h = go (r.number == n) refl h (somewhere n rs)
  where
    go : (b : Bool) → (r.number == n) ≡ b → (b || is_numbered n rs) ≡ true → (is_numbered n rs ≡ true → Somewhere n rs) → Somewhere n (r ∷ rs)
    go true e h more = record { front = []; rec = r; back = rs; here = refl; is = eqb-true r.number n e }
    go false e h more = let s = more h in record { front = r ∷ s.front; rec = s.rec; back = s.back; here = ap (λ l. r ∷ l) s.here; is = s.is }

-- ---- another place of the same number

above_same : (n : ℕ) (before after : List Slot) (s t : Slot) → number_of s ≡ number_of t → AreSlotsAbove n (before ++ s ∷ after) → AreSlotsAbove n (before ++ t ∷ after)
above_same n [] after s t e h = (subst (λ m. n < m) e h.0, h.1)
above_same n (b ∷ before) after s t e h = (h.0, above_same n before after s t e h.1)

pub rising_same : (before after : List Slot) (s t : Slot) → number_of s ≡ number_of t → DoSlotsRise (before ++ s ∷ after) → DoSlotsRise (before ++ t ∷ after)
rising_same [] after s t e h = (subst (λ m. AreSlotsAbove m after) e h.0, h.1)
rising_same (b ∷ before) after s t e h = (above_same (number_of b) before after s t e h.0, rising_same before after s t e h.1)

pub last_same : (before after : List Slot) (r q : Record) → is_last_kept (before ++ Kept r ∷ after) ≡ true → is_last_kept (before ++ Kept q ∷ after) ≡ true
last_same [] [] r q h = refl
last_same [] (a ∷ after) r q h = h
last_same (b ∷ []) after r q h = last_same [] after r q h
last_same (b ∷ c ∷ before) after r q h = last_same (c ∷ before) after r q h

pub replaced_gone : (before after : List Slot) (n : ℕ) → kept_in (before ++ Gone n ∷ after) ≡ kept_in before ++ kept_in after
replaced_gone before after n = kept_in-append before (Gone n ∷ after)

pub replaced_kept : (before after : List Slot) (r : Record) → kept_in (before ++ Kept r ∷ after) ≡ kept_in before ++ r ∷ kept_in after
replaced_kept before after r = kept_in-append before (Kept r ∷ after)

-- ---- the last place

abbrev pub last_slot : List Slot → Option Slot
last_slot [] = None
last_slot (s ∷ []) = Some s
last_slot (s ∷ next ∷ rest) = last_slot (next ∷ rest)

pub last_at : (ss : List Slot) (s : Slot) → Some s ≡ slice_get ss (length ss - 1) → last_slot ss ≡ Some s
last_at [] s e = sym e
last_at (x ∷ []) s e = sym e
last_at (x ∷ next ∷ rest) s e =
    let one : length (x ∷ next ∷ rest) - 1 ≡ suc (length (next ∷ rest) - 1) = omega arith in
    last_at (next ∷ rest) s (e ∙ ap (slice_get (x ∷ next ∷ rest)) one)

some_kept : (s : Slot) (ss : List Slot) → is_last_kept (s ∷ ss) ≡ true → kept_in (s ∷ ss) ≡ [] → ⊥
some_kept (Gone n) [] h e = false≢true h
some_kept (Kept r) ss h e = absurd cc
some_kept (Gone n) (next ∷ rest) h e = some_kept next rest h e

pub last_number_at : (ss : List Slot) → is_last_kept ss ≡ true → last_number (kept_in ss) ≡ option_map number_of (last_slot ss)
last_number_at [] h = refl
last_number_at (Gone n ∷ []) h = absurd (false≢true h)
last_number_at (Kept r ∷ []) h = refl
last_number_at (Gone n ∷ next ∷ rest) h = last_number_at (next ∷ rest) h
last_number_at (Kept r ∷ next ∷ rest) h = skip (kept_in (next ∷ rest)) (some_kept next rest h) ∙ last_number_at (next ∷ rest) h
  where
    skip : (rs : List Record) → (rs ≡ [] → ⊥) → last_number (r ∷ rs) ≡ last_number rs
    skip [] h = absurd (h refl)
    skip (q ∷ rs) h = refl

-- places without a record are taken off
pub record Trimmed (ss : List Slot) (n : ℕ) : Type 0 where
  pub front : List Slot
  pub here : ss ≡ front ++ Gone n ∷ []

pub last_gone : (ss : List Slot) (n : ℕ) → last_slot ss ≡ Some (Gone n) → Trimmed ss n
last_gone [] n e = absurd cc
last_gone (s ∷ []) n e = let same : s ≡ Gone n = cc in record { front = []; here = λ i. same i ∷ [] }
last_gone (s ∷ next ∷ rest) n e = let t = last_gone (next ∷ rest) n e in record { front = s ∷ t.front; here = ap (λ l. s ∷ l) t.here }

above_front : (n : ℕ) (ss ts : List Slot) → AreSlotsAbove n (ss ++ ts) → AreSlotsAbove n ss
above_front n [] ts h = tt
above_front n (s ∷ ss) ts h = (h.0, above_front n ss ts h.1)

pub rising_front : (ss ts : List Slot) → DoSlotsRise (ss ++ ts) → DoSlotsRise ss
rising_front [] ts h = tt
rising_front (s ∷ ss) ts h = (above_front (number_of s) ss ts h.0, rising_front ss ts h.1)

pub kept_in-trimmed : (ss : List Slot) (n : ℕ) → kept_in (ss ++ Gone n ∷ []) ≡ kept_in ss
kept_in-trimmed ss n = kept_in-append ss (Gone n ∷ []) ∙ append-nil (kept_in ss)

pub last_is_kept : (ss : List Slot) → ((n : ℕ) → last_slot ss ≡ Some (Gone n) → ⊥) → is_last_kept ss ≡ true
last_is_kept [] h = refl
last_is_kept (Gone n ∷ []) h = absurd (h n refl)
last_is_kept (Kept r ∷ []) h = refl
last_is_kept (s ∷ next ∷ rest) h = last_is_kept (next ∷ rest) h

-- ---- one more record

below_all : (n : ℕ) (s : Slot) (ss : List Slot) → is_last_kept (s ∷ ss) ≡ true → DoSlotsRise (s ∷ ss) → AreBelow n (kept_in (s ∷ ss)) → number_of s < n
below_all n (Gone m) [] h r b = absurd (false≢true h)
below_all n (Kept q) [] h r b = b.0
below_all n (Gone m) (next ∷ rest) h r b = let more = below_all n next rest h r.1 b in omega (arith, more, r.0.0)
below_all n (Kept q) (next ∷ rest) h r b = b.0

below_rest : (n : ℕ) (s : Slot) (ss : List Slot) → AreBelow n (kept_in (s ∷ ss)) → AreBelow n (kept_in ss)
below_rest n (Gone m) ss b = b
below_rest n (Kept q) ss b = b.1

above_pushed : (n : ℕ) (ss : List Slot) (r : Record) → AreSlotsAbove n ss → n < r.number → AreSlotsAbove n (ss ++ Kept r ∷ [])
above_pushed n [] r h l = (l, tt)
above_pushed n (s ∷ ss) r h l = (h.0, above_pushed n ss r h.1 l)

last_rest : (s : Slot) (ss : List Slot) → is_last_kept (s ∷ ss) ≡ true → is_last_kept ss ≡ true
last_rest s [] h = refl
last_rest s (next ∷ rest) h = h

pub rising_pushed : (ss : List Slot) (r : Record) → DoSlotsRise ss → is_last_kept ss ≡ true → AreBelow r.number (kept_in ss) → DoSlotsRise (ss ++ Kept r ∷ [])
rising_pushed [] r rise last below = (tt, tt)
rising_pushed (s ∷ ss) r rise last below = (above_pushed (number_of s) ss r rise.0 (below_all r.number s ss last rise below), rising_pushed ss r rise.1 (last_rest s ss last) (below_rest r.number s ss below))

pub last_pushed : (ss : List Slot) (r : Record) → is_last_kept (ss ++ Kept r ∷ []) ≡ true
last_pushed [] r = refl
last_pushed (s ∷ []) r = refl
last_pushed (s ∷ next ∷ rest) r = last_pushed (next ∷ rest) r

-- ---- the gaps closed

pub kept_in-closed : (ss : List Slot) → kept_in (filter is_kept ss) ≡ kept_in ss
kept_in-closed [] = refl
kept_in-closed (Gone n ∷ ss) = kept_in-closed ss
kept_in-closed (Kept r ∷ ss) = ap (λ l. r ∷ l) (kept_in-closed ss)

pub last_closed : (ss : List Slot) → is_last_kept (filter is_kept ss) ≡ true
last_closed [] = refl
last_closed (Gone n ∷ ss) = last_closed ss
last_closed (Kept r ∷ ss) = go (filter is_kept ss) (last_closed ss)
  where
    go : (ts : List Slot) → is_last_kept ts ≡ true → is_last_kept (Kept r ∷ ts) ≡ true
    go [] h = refl
    go (t ∷ ts) h = h

above_closed : (n : ℕ) (ss : List Slot) → AreSlotsAbove n ss → AreSlotsAbove n (filter is_kept ss)
above_closed n [] h = tt
above_closed n (Gone m ∷ ss) h = above_closed n ss h.1
above_closed n (Kept r ∷ ss) h = (h.0, above_closed n ss h.1)

pub rising_closed : (ss : List Slot) → DoSlotsRise ss → DoSlotsRise (filter is_kept ss)
rising_closed [] h = tt
rising_closed (Gone m ∷ ss) h = rising_closed ss h.1
rising_closed (Kept r ∷ ss) h = (above_closed r.number ss h.0, rising_closed ss h.1)

-- ---- how many

pub fewer_kept : (ss : List Slot) → length (kept_in ss) ≤ length ss
fewer_kept [] = omega arith
fewer_kept (Gone n ∷ ss) = omega (arith, fewer_kept ss)
fewer_kept (Kept r ∷ ss) = omega (arith, fewer_kept ss)

pub rising_behind : (ss ts : List Slot) → DoSlotsRise (ss ++ ts) → DoSlotsRise ts
rising_behind [] ts h = h
rising_behind (s ∷ ss) ts h = rising_behind ss ts h.1

pub last_behind : (ss ts : List Slot) → is_last_kept (ss ++ ts) ≡ true → is_last_kept ts ≡ true
last_behind [] ts h = h
last_behind (s ∷ ss) ts h = last_behind ss ts (last_rest s (ss ++ ts) h)

-- ---- a place that was found by its number

abbrev pub IsPlaceOf : List Slot → ℕ → ℕ → Type 0
IsPlaceOf ss n at = (front : List Slot) (slot : Slot) (back : List Slot) → ss ≡ front ++ slot ∷ back → number_of slot ≡ n → at ≡ length front

module _ (ss : List Slot) (n at : ℕ) (found : IsPlaceOf ss n at) where
  pub at_place : (rec : Record) (front back : List Record) (p : Place rec ss front back) → rec.number ≡ n → at ≡ length p.before
  at_place rec front back p is = found p.before (Kept rec) p.after p.here is

  pub found_here : (front : List Record) (rec : Record) (back : List Record) (slot : Slot) → kept_in ss ≡ front ++ rec ∷ back → rec.number ≡ n → slot ≡ get_or ss at slot → slot ≡ Kept rec
  found_here front rec back slot e is got =
      let p = place rec ss front back e in
      got ∙ (λ i. get_or (p.here i) (at_place rec front back p is i) slot) ∙ get_or-append_seam p.before (Kept rec) p.after slot

  pub set_here : (rec : Record) (front back : List Record) (p : Place rec ss front back) (new : Slot) → rec.number ≡ n → set ss at new ≡ p.before ++ new ∷ p.after
  set_here rec front back p new is = (λ i. set (p.here i) (at_place rec front back p is i) new) ∙ set-append_seam p.before (Kept rec) p.after new

  pub found_kept : (slot : Slot) → is_numbered n (kept_in ss) ≡ true → slot ≡ get_or ss at slot → is_kept slot ≡ true
  found_kept slot there got = let s = somewhere n (kept_in ss) there in ap is_kept (found_here s.front s.rec s.back slot s.here s.is got)

  pub paid_here : (front : List Record) (rec : Record) (back : List Record) (new : Slot) (paid : Record) → kept_in ss ≡ front ++ rec ∷ back → rec.number ≡ n → new ≡ Kept paid → kept_in (set ss at new) ≡ front ++ paid ∷ back
  paid_here front rec back new paid e is same =
      let p = place rec ss front back e in
      ap kept_in (set_here rec front back p new is ∙ ap (λ s. p.before ++ s ∷ p.after) same) ∙ replaced_kept p.before p.after paid ∙ (λ i. p.fronts i ++ paid ∷ p.backs i)

  pub taken_here : (front : List Record) (rec : Record) (back : List Record) (new : Slot) (m : ℕ) → kept_in ss ≡ front ++ rec ∷ back → rec.number ≡ n → new ≡ Gone m → kept_in (set ss at new) ≡ front ++ back
  taken_here front rec back new m e is same =
      let p = place rec ss front back e in
      ap kept_in (set_here rec front back p new is ∙ ap (λ s. p.before ++ s ∷ p.after) same) ∙ replaced_gone p.before p.after m ∙ (λ i. p.fronts i ++ p.backs i)

  pub rising_here : (slot new : Slot) → DoSlotsRise ss → is_numbered n (kept_in ss) ≡ true → slot ≡ get_or ss at slot → number_of new ≡ number_of slot → DoSlotsRise (set ss at new)
  rising_here slot new rise there got same =
      let s = somewhere n (kept_in ss) there in
      let p = place s.rec ss s.front s.back s.here in
      let old = found_here s.front s.rec s.back slot s.here s.is got in
      subst DoSlotsRise (sym (set_here s.rec s.front s.back p new s.is)) (rising_same p.before p.after (Kept s.rec) new (sym (same ∙ ap number_of old)) (subst DoSlotsRise p.here rise))

  pub last_here : (slot new : Slot) (paid : Record) → is_last_kept ss ≡ true → is_numbered n (kept_in ss) ≡ true → new ≡ Kept paid → is_last_kept (set ss at new) ≡ true
  last_here slot new paid last there same =
      let s = somewhere n (kept_in ss) there in
      let p = place s.rec ss s.front s.back s.here in
      ap is_last_kept (set_here s.rec s.front s.back p new s.is ∙ ap (λ s. p.before ++ s ∷ p.after) same) ∙ last_same p.before p.after s.rec paid (ap is_last_kept (sym p.here) ∙ last)

  -- who is paid is known
  pub paid_kept : (f : Record → Record) (slot new : Slot) → is_numbered n (kept_in ss) ≡ true → slot ≡ get_or ss at slot → ((rec : Record) → slot ≡ Kept rec → new ≡ Kept (f rec)) → (paid : Record) × ((old : Record) × ((slot ≡ Kept old) × ((paid ≡ f old) × (new ≡ Kept paid))))
  paid_kept f slot new there got pays =
      let s = somewhere n (kept_in ss) there in
      let old = found_here s.front s.rec s.back slot s.here s.is got in
      (f s.rec, (s.rec, (old, (refl, pays s.rec old))))

pub length_taken : (front back : List Record) (rec : Record) → length (front ++ rec ∷ back) ≡ suc (length (front ++ back))
length_taken [] back rec = refl
length_taken (x ∷ front) back rec = ap suc (length_taken front back rec)

pub length_paid : (front back : List Record) (rec paid : Record) → length (front ++ rec ∷ back) ≡ length (front ++ paid ∷ back)
length_paid [] back rec paid = refl
length_paid (x ∷ front) back rec paid = ap suc (length_paid front back rec paid)

-- ---- a search

number_here : (ss front back : List Slot) (slot : Slot) → ss ≡ front ++ slot ∷ back → (d : Slot) → get_or ss (length front) d ≡ slot
number_here ss front back slot e d = ap (λ l. get_or l (length front) d) e ∙ get_or-append_seam front slot back d

front_within : (ss front back : List Slot) (slot : Slot) → ss ≡ front ++ slot ∷ back → length front < length ss
front_within ss front back slot e = subst (λ l. length front < length l) (sym e) (shorter front)
  where
    shorter : (xs : List Slot) → length xs < length (xs ++ slot ∷ back)
    shorter [] = omega arith
    shorter (x ∷ xs) = omega (arith, shorter xs)

-- a place of at most the number isn't behind its place
pub searched_below : (ss : List Slot) (n mid : ℕ) (front : List Slot) (slot : Slot) (back : List Slot) → DoSlotsRise ss → ss ≡ front ++ slot ∷ back → number_of slot ≡ n → mid < length ss → (got : Slot) → got ≡ get_or ss mid got → number_of got ≤ n → mid ≤ length front
searched_below ss n mid front slot back rise e is within got at low = go (cases_lt (length front) mid)
  where
    go : (length front < mid) ⊎ (mid ≤ length front) → mid ≤ length front
    go (inr l) = l
    go (inl l) =
        let below = rising_at ss (length front) mid got rise l within in
        let own : number_of (get_or ss (length front) got) ≡ n = ap number_of (number_here ss front back slot e got) ∙ is in
        let here : number_of got ≡ number_of (get_or ss mid got) = ap number_of at in
        absurd (omega (arith, below, own, here, low))

-- and one of a greater number is behind it
pub searched_above : (ss : List Slot) (n mid : ℕ) (front : List Slot) (slot : Slot) (back : List Slot) → DoSlotsRise ss → ss ≡ front ++ slot ∷ back → number_of slot ≡ n → mid < length ss → (got : Slot) → got ≡ get_or ss mid got → n < number_of got → length front < mid
searched_above ss n mid front slot back rise e is within got at high = go (cases_order (length front) mid)
  where
    own : number_of (get_or ss (length front) got) ≡ n
    own = ap number_of (number_here ss front back slot e got) ∙ is

    here : number_of got ≡ number_of (get_or ss mid got)
    here = ap number_of at

    go : (length front ≡ mid) ⊎ ((length front < mid) ⊎ (mid < length front)) → length front < mid
    go (inl m) = let same : number_of (get_or ss (length front) got) ≡ number_of (get_or ss mid got) = ap (λ i. number_of (get_or ss i got)) m in absurd (omega (arith, same, own, here, high))
    go (inr (inl l)) = l
    go (inr (inr l)) = let below = rising_at ss mid (length front) got rise l (front_within ss front back slot e) in absurd (omega (arith, below, own, here, high))

-- the place of the number itself is its place
pub searched_here : (ss : List Slot) (n mid : ℕ) (front : List Slot) (slot : Slot) (back : List Slot) → DoSlotsRise ss → ss ≡ front ++ slot ∷ back → number_of slot ≡ n → mid < length ss → (got : Slot) → got ≡ get_or ss mid got → number_of got ≡ n → mid ≡ length front
searched_here ss n mid front slot back rise e is within got at same = go (cases_order (length front) mid)
  where
    own : number_of (get_or ss (length front) got) ≡ n
    own = ap number_of (number_here ss front back slot e got) ∙ is

    here : number_of got ≡ number_of (get_or ss mid got)
    here = ap number_of at

    go : (length front ≡ mid) ⊎ ((length front < mid) ⊎ (mid < length front)) → mid ≡ length front
    go (inl m) = sym m
    go (inr (inl l)) = let below = rising_at ss (length front) mid got rise l within in absurd (omega (arith, below, own, here, same))
    go (inr (inr l)) = let below = rising_at ss mid (length front) got rise l (front_within ss front back slot e) in absurd (omega (arith, below, own, here, same))

-- ---- the last place taken off

pub last_kept_at : (ss : List Slot) (s : Slot) → last_slot ss ≡ Some s → is_last_kept ss ≡ is_kept s
last_kept_at [] s e = absurd cc
last_kept_at (x ∷ []) s e = let same : x ≡ s = cc in ap is_kept same
last_kept_at (x ∷ next ∷ rest) s e = last_kept_at (next ∷ rest) s e

one_less : (s : Slot) (ss : List Slot) → length (s ∷ ss) - 1 ≡ length ss
one_less s ss = omega arith

pub kept_in-cut : (ss : List Slot) → is_last_kept ss ≡ false → kept_in (take (length ss - 1) ss) ≡ kept_in ss
kept_in-cut [] h = absurd (true≢false h)
kept_in-cut (Gone n ∷ []) h = refl
kept_in-cut (Kept r ∷ []) h = absurd (true≢false h)
kept_in-cut (s ∷ next ∷ rest) h =
    let one : length (s ∷ next ∷ rest) - 1 ≡ suc (length (next ∷ rest) - 1) = omega arith in
    ap (λ k. kept_in (take k (s ∷ next ∷ rest))) one ∙ ap (put_slot s) (kept_in-cut (next ∷ rest) h)

above_taken : (n k : ℕ) (ss : List Slot) → AreSlotsAbove n ss → AreSlotsAbove n (take k ss)
above_taken n zero ss h = tt
above_taken n (suc k) [] h = tt
above_taken n (suc k) (s ∷ ss) h = (h.0, above_taken n k ss h.1)

pub rising_taken : (k : ℕ) (ss : List Slot) → DoSlotsRise ss → DoSlotsRise (take k ss)
rising_taken zero ss h = tt
rising_taken (suc k) [] h = tt
rising_taken (suc k) (s ∷ ss) h = (above_taken (number_of s) k ss h.0, rising_taken k ss h.1)

pub rising_dropped : (k : ℕ) (ss : List Slot) → DoSlotsRise ss → DoSlotsRise (drop k ss)
rising_dropped zero ss h = h
rising_dropped (suc k) [] h = tt
rising_dropped (suc k) (s ∷ ss) h = rising_dropped k ss h.1

pub last_dropped : (k : ℕ) (ss : List Slot) → is_last_kept ss ≡ true → is_last_kept (drop k ss) ≡ true
last_dropped zero ss h = h
last_dropped (suc k) [] h = h
last_dropped (suc k) (s ∷ ss) h = last_dropped k ss (last_rest s ss h)

-- ---- the places of the first records

pub kept_in-more : (k : ℕ) (ss : List Slot) (d : Slot) → k < length ss → kept_in (take (k + 1) ss) ≡ kept_in (take k ss) ++ kept_in (get_or ss k d ∷ [])
kept_in-more k ss d l = ap kept_in (take_more ss k d l) ∙ kept_in-append (take k ss) (get_or ss k d ∷ [])

front_count : (k : ℕ) (ss : List Slot) → kept_in (take k ss) ++ kept_in (drop k ss) ≡ kept_in ss
front_count k ss = sym (kept_in-append (take k ss) (drop k ss)) ∙ ap kept_in (take-append-drop k ss)

pub first_places : (k n : ℕ) (ss : List Slot) → length (kept_in (take k ss)) ≡ n → kept_in (take k ss) ≡ take n (kept_in ss)
first_places k n ss h = sym (take-append_seam (kept_in (take k ss)) (kept_in (drop k ss))) ∙ (λ i. take (h i) (front_count k ss i))

pub other_places : (k n : ℕ) (ss : List Slot) → length (kept_in (take k ss)) ≡ n → kept_in (drop k ss) ≡ drop n (kept_in ss)
other_places k n ss h = sym (drop-append_seam (kept_in (take k ss)) (kept_in (drop k ss))) ∙ (λ i. drop (h i) (front_count k ss i))

-- a place has a record or none
pub length_one : (s : Slot) (b : Bool) → is_kept s ≡ b → length (kept_in (s ∷ [])) ≡ cond b 1 0
length_one (Gone n) b e = ap (λ x. cond x 1 0) e
length_one (Kept r) b e = ap (λ x. cond x 1 0) e
