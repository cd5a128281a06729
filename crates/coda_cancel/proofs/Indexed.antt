-- The index while records go: what it says of the records that are left.
use Rattle.std.proofs.Common.{◌≡◌, ℕ, ◌<◌, Bool, true, false, cond, not, ◌&&◌, ◌||◌, ◌==◌, List, [], ◌∷◌, ◌++◌, Option, Some, None, refl, sym, ap, ◌∙◌, subst, arith}
use Rattle.std.proofs.lemmas.Bool.{and_parts, and_right, eqb-true, eq-eqb, true≢false, false≢true, leb-true, le-leb, lt-ltb}
use Rattle.std.specs.BTreeSet.{BTreeSet}
use Rattle.std.proofs.lemmas.List.{append_assoc}
use Rattle.coda_fid.specs.declared.fid.Fid.{Fid}
use Rattle.coda_fid.specs.declared.op.Op.{Op}
use Rattle.coda_fid.specs.declared.op.Record.{Record}
use Rattle.coda_fid.specs.Op.{carried}
use Rattle.coda_cancel.specs.declared.mentions.Mention.{Mention}
use Rattle.coda_cancel.specs.Handing.{Debt, owe, paid, hand, sid_or}
use Rattle.coda_cancel.specs.Dropping.{mentioning}
use Rattle.coda_cancel.specs.Cancel.{kept, without}
use Rattle.coda_cancel.specs.Numbers.{AreBelow, IsRising}
use Rattle.coda_cancel.specs.Mentions.{has, tells, is_mentioned, is_upto, last_number, Covers, CoversUpTo, IsSameBeyond, Loses, IsNext, NoneNext, NoneBeyond}
use Rattle.coda_cancel.specs.Shelved.{is_numbered}
use Rattle.coda_cancel.proofs.Debts.{mentioning-with_pre}
use Rattle.coda_cancel.proofs.Rising.{rising_before, rising_behind}
use Rattle.coda_cancel.proofs.Walks.{upto, beyond, both_parts, AllUpTo, upto_passed, IsQuiet, Step, step, last_reaches, end_quiet, passed_silent, above_silent, mentioned-append}

abbrev Index : Type 0
Index = BTreeSet Mention

-- ---- numbers of what is left

all_upto-append : (a : Option ℕ) (rs os : List Record) → AllUpTo a rs → AllUpTo a os → AllUpTo a (rs ++ os)
all_upto-append a [] os h k = k
all_upto-append a (r ∷ rs) os h k = (h.0, all_upto-append a rs os h.1 k)

pub kept_upto : (a : Option ℕ) (t : Op → Bool) (d : Debt) (rs : List Record) → AllUpTo a rs → AllUpTo a (kept t d rs)
kept_upto a t d [] h = tt
kept_upto a t d (r ∷ rs) h = go (t r.op) (kept_upto a t (owe d (carried r.op)) rs h.1) (kept_upto a t (paid d (carried r.op)) rs h.1)
  where
    go : (b : Bool) → AllUpTo a (kept t (owe d (carried r.op)) rs) → AllUpTo a (kept t (paid d (carried r.op)) rs) → AllUpTo a (cond b (kept t (owe d (carried r.op)) rs) (hand d r ∷ kept t (paid d (carried r.op)) rs))
    go true one two = one
    go false one two = (h.0, two)

pub without_upto : (a : Option ℕ) (f : Fid) (rs : List Record) → AllUpTo a rs → AllUpTo a (without f rs)
without_upto a f [] h = tt
without_upto a f (r ∷ rs) h = go (mentioning f r.op) (without_upto a f rs h.1)
  where
    go : (b : Bool) → AllUpTo a (without f rs) → AllUpTo a (cond b (without f rs) (r ∷ without f rs))
    go true rest = rest
    go false rest = (h.0, rest)

-- ---- a step, by the index

-- behind what was passed the records are those that were there
ahead_same : (a : Option ℕ) (done rs : List Record) (f : Fid) (n : ℕ) → AllUpTo a done → is_upto a n ≡ false → is_mentioned (done ++ beyond a rs) f n ≡ is_mentioned rs f n
ahead_same a done rs f n h after =
    mentioned-append done (beyond a rs) f n ∙ ap (λ b. b || is_mentioned (beyond a rs) f n) (passed_silent a done f n h after)
    ∙ sym (ap (λ b. b || is_mentioned (beyond a rs) f n) (passed_silent a (upto a rs) f n (upto_passed a rs) after)) ∙ sym (mentioned-append (upto a rs) (beyond a rs) f n) ∙ ap (λ l. is_mentioned l f n) (both_parts a rs)

below_upto : (last : Option ℕ) (k n : ℕ) → k < n → is_upto last n ≡ true → is_upto last k ≡ true
below_upto None k n l h = absurd (false≢true h)
below_upto (Some m) k n l h = le-leb k m (omega (arith, l, leb-true n m h))

module _ (rs done now : List Record) (index : Index) (f : Fid) (a : Option ℕ) (rising : IsRising rs) (passed : AllUpTo a done) (is : now ≡ done ++ beyond a rs) (covers : CoversUpTo (last_number rs) index now) where
  said : (n : ℕ) → is_upto a n ≡ false → is_upto (last_number rs) n ≡ true → has index f n ≡ is_mentioned rs f n
  said n after within = covers f n within ∙ ap (λ l. is_mentioned l f n) is ∙ ahead_same a done rs f n passed after

  -- the next number is that of the next record that mentions the object
  next_step : (n : ℕ) → IsNext index f a (last_number rs) n → Step f a n rs
  next_step n next = step f a n rs rising next.0 (sym (said n next.0 next.1) ∙ next.2) (λ k after l. sym (said k after (below_upto (last_number rs) k n l next.1)) ∙ next.3 k after (lt-ltb k n l))

  -- with the last number that was asked for
  pub next_of : (last : Option ℕ) → last ≡ last_number rs → (n : ℕ) → IsNext index f a last n → Step f a n rs
  next_of last same n next = next_step n (subst (λ l. IsNext index f a l n) same next)

  pub none_of : (last : Option ℕ) → last ≡ last_number rs → NoneNext index f a last → IsQuiet f (beyond a rs)
  none_of last same none = end_quiet f a rs rising (λ k after within. sym (said k after within) ∙ subst (λ l. NoneNext index f a l) same none k after within)

  -- where the record stands now
  pub split_here : (n : ℕ) (s : Step f a n rs) → now ≡ (done ++ s.between) ++ s.found ∷ beyond (Some n) rs
  split_here n s = is ∙ ap (λ l. done ++ l) s.rest ∙ sym (append_assoc done s.between (s.found ∷ beyond (Some n) rs))

pub numbered_at : (front : List Record) (rec : Record) (back : List Record) (n : ℕ) → rec.number ≡ n → is_numbered n (front ++ rec ∷ back) ≡ true
numbered_at [] rec back n e = ap (λ b. b || is_numbered n back) (eq-eqb rec.number n e)
numbered_at (x ∷ front) rec back n e = go (x.number == n) (numbered_at front rec back n e)
  where
    go : (b : Bool) → is_numbered n (front ++ rec ∷ back) ≡ true → (b || is_numbered n (front ++ rec ∷ back)) ≡ true
    go true h = refl
    go false h = h

-- ---- a record that goes or is handed something

-- two tests that hold together are one
agree : (b c : Bool) → (b ≡ true → c ≡ true) → (c ≡ true → b ≡ true) → b ≡ c
agree true true f g = refl
agree true false f g = sym (f refl)
agree false true f g = g refl
agree false false f g = refl

pub told_number : (r : Record) (f : Fid) (n : ℕ) → tells r f n ≡ true → r.number ≡ n
told_number r f n h = eqb-true r.number n (and_parts (r.number == n) (mentioning f r.op) h).0

-- no other record of rising ones has its number
pub front_silent : (front : List Record) (rec : Record) (back : List Record) (f : Fid) → IsRising (front ++ rec ∷ back) → is_mentioned front f rec.number ≡ false
front_silent front rec back f rising = below_silent rec.number front (rising_before front rec back rising).1
  where
    below_silent : (n : ℕ) (rs : List Record) → AreBelow n rs → is_mentioned rs f n ≡ false
    below_silent n [] h = refl
    below_silent n (r ∷ rs) h = agree (tells r f n || is_mentioned rs f n) false (λ e. absurd (or_no (tells r f n) (is_mentioned rs f n) (λ t. omega (arith, h.0, told_number r f n t)) (λ t. true≢false (sym t ∙ below_silent n rs h.1)) e)) (λ e. absurd (false≢true e))
      where
        or_no : (x y : Bool) → (x ≡ true → ⊥) → (y ≡ true → ⊥) → (x || y) ≡ true → ⊥
        or_no true y f g e = f refl
        or_no false y f g e = g e

pub back_silent : (front : List Record) (rec : Record) (back : List Record) (f : Fid) → IsRising (front ++ rec ∷ back) → is_mentioned back f rec.number ≡ false
back_silent front rec back f rising = above_silent rec.number back f (rising_behind front (rec ∷ back) rising).0

-- what stands in the record's place now mentions what it does, unless it was dropped
abbrev pub Replaces : Bool → Record → List Record → Type 0
Replaces dropped rec new = (f : Fid) (n : ℕ) → is_mentioned new f n ≡ (not dropped && tells rec f n)

pub lose_step : (last : Option ℕ) (index index' : Index) (front : List Record) (rec : Record) (back new : List Record) (dropped : Bool) → IsRising (front ++ rec ∷ back) → CoversUpTo last index (front ++ rec ∷ back)
    → Loses (has index) (has index') (λ f n. dropped && tells rec f n) → Replaces dropped rec new → CoversUpTo last index' (front ++ (new ++ back))
lose_step last index index' front rec back new dropped rising covers loses replaces f n within =
    loses f n ∙ ap (λ b. b && not (dropped && tells rec f n)) (covers f n within ∙ mentioned-append front (rec ∷ back) f n)
    ∙ go dropped (tells rec f n) refl
    ∙ sym (mentioned-append front (new ++ back) f n ∙ ap (λ b. is_mentioned front f n || b) (mentioned-append new back f n ∙ ap (λ b. b || is_mentioned back f n) (replaces f n)))
  where
    keeps : (x y z : Bool) → ((x || (y || z)) && true) ≡ (x || ((true && y) || z))
    keeps true y z = refl
    keeps false true z = refl
    keeps false false true = refl
    keeps false false false = refl

    stays : (x z : Bool) → ((x || z) && true) ≡ (x || z)
    stays true z = refl
    stays false true = refl
    stays false false = refl

    go : (d t : Bool) → tells rec f n ≡ t → ((is_mentioned front f n || (t || is_mentioned back f n)) && not (d && t)) ≡ (is_mentioned front f n || ((not d && t) || is_mentioned back f n))
    go false t e = keeps (is_mentioned front f n) t (is_mentioned back f n)
    go true false e = stays (is_mentioned front f n) (is_mentioned back f n)
    go true true e =
        let same = told_number rec f n e in
        and_right (is_mentioned front f n || true) false refl ∙ sym (both_false (is_mentioned front f n) (is_mentioned back f n) (ap (is_mentioned front f) (sym same) ∙ front_silent front rec back f rising) (ap (is_mentioned back f) (sym same) ∙ back_silent front rec back f rising))
      where
        both_false : (x y : Bool) → x ≡ false → y ≡ false → (x || y) ≡ false
        both_false x y e h = ap (λ b. b || y) e ∙ h

-- the whole step: what was passed grows by what stands between and what stands in the record's place now
pub list_step : (front between new back : List Record) → ((front ++ between) ++ new) ++ back ≡ (front ++ (between ++ new)) ++ back
list_step front between new back = ap (λ l. l ++ back) (append_assoc front between new)

pub lose_beyond : (last : Option ℕ) (index index' : Index) (rec : Record) (dropped : Bool) → is_upto last rec.number ≡ true → Loses (has index) (has index') (λ f n. dropped && tells rec f n) → IsSameBeyond last index index'
lose_beyond last index index' rec dropped within loses f n past = loses f n ∙ go (tells rec f n) refl
  where
    and_all : (b : Bool) → (b && true) ≡ b
    and_all true = refl
    and_all false = refl

    go : (t : Bool) → tells rec f n ≡ t → (has index f n && not (dropped && t)) ≡ has index f n
    go true e = absurd (true≢false (sym within ∙ ap (is_upto last) (told_number rec f n e) ∙ past))
    go false e = ap (λ b. has index f n && not b) (and_right dropped false refl) ∙ and_all (has index f n)

pub beyond_twice : (last : Option ℕ) (a b c : Index) → IsSameBeyond last a b → IsSameBeyond last b c → IsSameBeyond last a c
beyond_twice last a b c h k f n past = k f n past ∙ h f n past

-- a record with another version mentions the same
pub handed_tells : (d : Debt) (r : Record) (f : Fid) (n : ℕ) → tells (hand d r) f n ≡ tells r f n
handed_tells d r f n = ap (λ b. r.number == n && b) (mentioning-with_pre (λ g p. sid_or (d g) p) f r.op)

or_none : (b : Bool) → (b || false) ≡ b
or_none true = refl
or_none false = refl

pub kept_replaces : (t : Op → Bool) (d : Debt) (r : Record) → Replaces (t r.op) r (kept t d (r ∷ []))
kept_replaces t d r f n = go (t r.op)
  where
    go : (b : Bool) → is_mentioned (cond b [] (hand d r ∷ [])) f n ≡ (not b && tells r f n)
    go true = refl
    go false = or_none (tells (hand d r) f n) ∙ handed_tells d r f n

-- ---- while nothing is changed

module _ (rs : List Record) (index : Index) (f : Fid) (a last : Option ℕ) (rising : IsRising rs) (covers : Covers index rs) (same : last ≡ last_number rs) where
  pub read_next : (n : ℕ) → IsNext index f a last n → Step f a n rs
  read_next n next = next_of rs (upto a rs) rs index f a rising (upto_passed a rs) (sym (both_parts a rs)) covers last same n next

  pub read_none : NoneNext index f a last → IsQuiet f (beyond a rs)
  read_none none = none_of rs (upto a rs) rs index f a rising (upto_passed a rs) (sym (both_parts a rs)) covers last same none

  pub none_beyond : NoneNext index f a last → NoneBeyond rs f a
  none_beyond none n after = go (is_upto (last_number rs) n) refl
    where
      go : (b : Bool) → is_upto (last_number rs) n ≡ b → is_mentioned rs f n ≡ false
      go true e = sym (covers f n e) ∙ none n after (subst (λ l. is_upto l n ≡ true) (sym same) e)
      go false e = passed_silent (last_number rs) rs f n (last_reaches rs rising) e

pub read_split : (f : Fid) (a : Option ℕ) (n : ℕ) (rs : List Record) (s : Step f a n rs) → rs ≡ (upto a rs ++ s.between) ++ s.found ∷ beyond (Some n) rs
read_split f a n rs s = sym (both_parts a rs) ∙ ap (λ l. upto a rs ++ l) s.rest ∙ sym (append_assoc (upto a rs) s.between (s.found ∷ beyond (Some n) rs))

pub read_numbered : (f : Fid) (a : Option ℕ) (n : ℕ) (rs : List Record) (s : Step f a n rs) → is_numbered n rs ≡ true
read_numbered f a n rs s = ap (is_numbered n) (read_split f a n rs s) ∙ numbered_at (upto a rs ++ s.between) s.found (beyond (Some n) rs) n s.is
