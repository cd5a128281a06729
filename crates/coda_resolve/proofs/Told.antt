-- Each new mark and each client's greatest decision is told.
use Rattle.std.proofs.Common.{◌≡◌, ◌<◌, ◌≤◌, ℕ, ◌+◌, zero, suc, arith, Bool, true, false, not, cond, List, [], ◌∷◌, Option, Some, None, refl, sym, ap, ◌∙◌, subst, inl, inr}
use Rattle.std.specs.Prelude.{◌⊎◌, ◌||◌, ◌&&◌, nat_le}
use Rattle.std.specs.List.{filter, filter_map, fold, list_all, list_any, range_with_len, cons_option}
use Rattle.std.proofs.lemmas.Bool.{true≢false, eqb-true, cases_lt}
use Rattle.coda_reslog.specs.declared.change.Held.{Held}
use Rattle.coda_record.specs.declared.last.Last.{Last}
use Rattle.coda_resolve.specs.Copies.{is_marked}
use Rattle.coda_resolve.specs.Lasts.{later, is_of, latest, clients}
use Rattle.coda_resolve.specs.Outcome.{mark_by, marks_of, taken_up}
use Rattle.coda_resolve.specs.Placement.{IsIn}
use Rattle.coda_resolve.specs.Resolution.{copies_at, fate_at}
use Rattle.coda_resolve.specs.Settling.{Marked, is_new}
use Rattle.coda_resolve.specs.Told.{MarksAreTold, GreatestAreJoined}
use Rattle.coda_resolve.proofs.Complete.{taken_up_is_met}
use Rattle.coda_resolve.proofs.Lasting.{same_number}
use Rattle.coda_resolve.proofs.Lists.{some_none}

-- what is made of one of the items is among what is made of all
in_made : {X Y : Type 0} (h : X → Option Y) (xs : List X) (x : X) (y : Y) → IsIn x xs → h x ≡ Some y → IsIn y (filter_map h xs)
in_made h [] x y s e = absurd s
in_made {X} {Y} h (z ∷ xs) x y (inl is) e = by (h z) (ap h is ∙ e)
  where
    by : (o : Option Y) → o ≡ Some y → IsIn y (cons_option o (filter_map h xs))
    by None e = absurd (some_none y (sym e))
    by (Some w) same = inl (some_is same)
      where
        some_is : Some w ≡ Some y → w ≡ y
        some_is e = cc
in_made {X} {Y} h (z ∷ xs) x y (inr s) e = by (h z) (in_made h xs x y s e)
  where
    by : (o : Option Y) → IsIn y (filter_map h xs) → IsIn y (cons_option o (filter_map h xs))
    by None t = t
    by (Some w) t = inr t

-- and each of these is made of one of the items
pub made_of : {X Y : Type 0} (h : X → Option Y) (xs : List X) (y : Y) → IsIn y (filter_map h xs) → (x : X) × (IsIn x xs × (h x ≡ Some y))
made_of h [] y s = absurd s
made_of {X} {Y} h (z ∷ xs) y s = by (h z) refl s (made_of h xs y)
  where
    by : (o : Option Y) → h z ≡ o → IsIn y (cons_option o (filter_map h xs)) → (IsIn y (filter_map h xs) → (x : X) × (IsIn x xs × (h x ≡ Some y))) → (x : X) × (IsIn x (z ∷ xs) × (h x ≡ Some y))
    by None e t more = let m = more t in (m.0, (inr m.1.0, m.1.1))
    by (Some w) e (inl is) more = (z, (inl refl, e ∙ ap Some is))
    by (Some w) e (inr t) more = let m = more t in (m.0, (inr m.1.0, m.1.1))

-- ---- marks

all_marked : (copies : List (Option Held)) → list_any (λ copy. not (is_marked copy)) copies ≡ false → list_all is_marked copies ≡ true
all_marked [] e = refl
all_marked (copy ∷ copies) e = by (is_marked copy) e (all_marked copies)
  where
    by : (b : Bool) → (not b || list_any (λ copy. not (is_marked copy)) copies) ≡ false → (list_any (λ copy. not (is_marked copy)) copies ≡ false → list_all is_marked copies ≡ true) → (b && list_all is_marked copies) ≡ true
    by true e more = more e
    by false e more = absurd (true≢false e)

pub marks_are_told : MarksAreTold
marks_are_told views root f why history up is = by (is_new (copies_at views f) (Marked why)) refl
  where
    by : (b : Bool) → is_new (copies_at views f) (Marked why) ≡ b → (list_all is_marked (copies_at views f) ≡ true) ⊎ IsIn (record { fid = f; why = why }) (marks_of views root)
    by true e = inr (in_made (λ g. mark_by (copies_at views g) g (fate_at views g)) (taken_up views root) f (record { fid = f; why = why }) (taken_up_is_met views root f history up)
        (ap (mark_by (copies_at views f) f) is ∙ ap (λ b. cond b (Some (record { fid = f; why = why })) None) e))
    by false e = inl (all_marked (copies_at views f) e)

-- ---- last decisions

-- there is one of that client, with a number at least as great
abbrev Has : Option Last → ℕ → ℕ → Type 0
Has o client number = (joined : Last) × ((o ≡ Some joined) × ((joined.client ≡ client) × (number ≤ joined.number)))

at_most : (m n : ℕ) → nat_le m n ≡ true → m ≤ n
at_most m n e = grind arith

above : (m n : ℕ) → nat_le m n ≡ false → n ≤ m
above m n e = grind arith

-- the decision itself, or one that is at least as late
itself : (known : Option Last) (last : Last) (client : ℕ) → last.client ≡ client → ((k : Last) → known ≡ Some k → k.client ≡ client) → Has (later known last) client last.number
itself None last client e of = (last, (refl, (e, omega arith)))
itself (Some k) last client e of = by (nat_le last.number k.number) refl
  where
    by : (b : Bool) → nat_le last.number k.number ≡ b → Has (cond (not b) (Some last) (Some k)) client last.number
    by true le = (k, (refl, (of k refl, at_most last.number k.number le)))
    by false le = (last, (refl, (e, omega arith)))

-- one that was there, or a later one
kept : (known : Option Last) (last : Last) (client number : ℕ) → last.client ≡ client → Has known client number → Has (later known last) client number
kept None last client number e h = absurd (some_none h.0 (sym h.1.0))
kept (Some k) last client number e (j, (is, (of, le))) = by (nat_le last.number k.number) refl
  where
    same : k ≡ j
    same = cc

    enough : number ≤ k.number
    enough = subst (λ l. number ≤ l.number) (sym same) le

    by : (b : Bool) → nat_le last.number k.number ≡ b → Has (cond (not b) (Some last) (Some k)) client number
    by true at = (k, (refl, (ap (λ (l : Last). l.client) same ∙ of, enough)))
    by false at = let more = above last.number k.number at in (last, (refl, (e, omega (arith, enough, more))))

all_kept : (lasts : List Last) (known : Option Last) (client number : ℕ) → Has known client number → Has (fold later known (filter (is_of client) lasts)) client number
all_kept [] known client number h = h
all_kept (l ∷ lasts) known client number h = by (is_of client l) refl (λ o has. all_kept lasts o client number has)
  where
    by : (b : Bool) → is_of client l ≡ b → ((o : Option Last) → Has o client number → Has (fold later o (filter (is_of client) lasts)) client number) → Has (fold later known (cond b (l ∷ filter (is_of client) lasts) (filter (is_of client) lasts))) client number
    by true e more = more (later known l) (kept known l client number (eqb-true l.client client e) h)
    by false e more = more known h

still_of : (known : Option Last) (last : Last) (client : ℕ) → last.client ≡ client → ((k : Last) → known ≡ Some k → k.client ≡ client) → (k : Last) → later known last ≡ Some k → k.client ≡ client
still_of known last client e of k is =
    let h = itself known last client e of in
    let same : h.0 ≡ k = some_is h.0 k (sym h.1.0 ∙ is) in
    subst (λ (l : Last). l.client ≡ client) same h.1.1.0
  where
    some_is : (a b : Last) → Some a ≡ Some b → a ≡ b
    some_is a b e = cc

found : (lasts : List Last) (known : Option Last) (last : Last) → ((k : Last) → known ≡ Some k → k.client ≡ last.client) → IsIn last lasts → Has (fold later known (filter (is_of last.client) lasts)) last.client last.number
found [] known last of s = absurd s
found (l ∷ lasts) known last of (inl is) =
    subst (λ (b : Bool). Has (fold later known (cond b (l ∷ filter (is_of last.client) lasts) (filter (is_of last.client) lasts))) last.client last.number) (sym here)
    (all_kept lasts (later known l) last.client last.number (subst (λ (m : Last). Has (later known l) last.client m.number) is (itself known l last.client (ap (λ (m : Last). m.client) is) of)))
  where
    here : is_of last.client l ≡ true
    here = ap (is_of last.client) is ∙ same_number last.client
found (l ∷ lasts) known last of (inr s) = by (is_of last.client l) refl (λ o all. found lasts o last all s)
  where
    by : (b : Bool) → is_of last.client l ≡ b → ((o : Option Last) → ((k : Last) → o ≡ Some k → k.client ≡ last.client) → Has (fold later o (filter (is_of last.client) lasts)) last.client last.number) → Has (fold later known (cond b (l ∷ filter (is_of last.client) lasts) (filter (is_of last.client) lasts))) last.client last.number
    by true e more = more (later known l) (still_of known l last.client (eqb-true l.client last.client e) of)
    by false e more = more known of

in_range : (n a c : ℕ) → a ≤ c → c < a + n → IsIn c (range_with_len a n)
in_range zero a c le lt = absurd (omega (arith, le, lt))
in_range (suc n) a c le lt = elim (cases_lt a c) [
  | inl less ↦ inr (in_range n (a + 1) c (omega arith) (omega (arith, lt)))
  | inr at ↦ let same : a ≡ c = omega arith in inl same
]

in_clients : (c : ℕ) → c < 256 → IsIn c clients
unfolding clients
in_clients c lt = in_range 256 0 c (omega arith) lt

pub greatest_are_joined : GreatestAreJoined
greatest_are_joined lasts last lt s =
    let h = found lasts None last (λ k e. absurd (some_none k (sym e))) s in
    (h.0, (in_made (latest lasts) clients last.client h.0 (in_clients last.client lt) h.1.0, h.1.1))
