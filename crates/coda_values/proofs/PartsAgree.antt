-- The two sides of each part agree.
use Rattle.std.proofs.Common.{◌≡◌, ℕ, zero, suc, Bool, true, false, ◌&&◌, List, [], ◌∷◌, length, Option, Some, None, refl, sym, ap, subst, ◌∙◌, append_assoc}
use Rattle.std.specs.Prelude.{IsTrue, ◌==◌, Err}
use Rattle.std.proofs.lemmas.Bool.{eqb-true}
use Rattle.std.proofs.lemmas.List.{append-nil}
use Rattle.coda_values.specs.Form.{Piece, empty, both, limited, number_piece, Size, one, two, four, eight, Form, gives, unknown, number, raw, tagged, such, part, Format}
use Rattle.coda_values.specs.Parts.{number_of, u32, where_holds, between, is_within, counted, chosen, by_tag, one_of, optional, optional_piece, items_piece, items, list_by, list, each, list_of, list_up_to, flag, flag_piece, flag_forms, in_words}
use Rattle.coda_values.specs.Reading.{number_at, read}
use Rattle.coda_values.specs.Spelling.{HasSpelling}
use Rattle.coda_values.specs.Walks.{Always, Says, IsPlaced, Agrees}

-- what always holds may be weakened
weaker : {A : Type 0} (form : Form A) (P Q : Piece → A → Type 0) → ((p : Piece) (x : A) → P p x → Q p x) → Always form P → Always form Q
weaker (gives x) P Q h a = h empty x a
weaker unknown P Q h a = tt
weaker (number size) P Q h a = λ n fits. h (number_piece size n) n (a n fits)
weaker (raw n) P Q h a = λ bytes len. h (record { bytes = bytes; fits = true }) bytes (a bytes len)
weaker (tagged table) P Q h a = λ tag. weaker (table tag) (λ p x. P (both (number_piece one tag) p) x) (λ p x. Q (both (number_piece one tag) p) x) (λ p x b. h (both (number_piece one tag) p) x b) (a tag)
weaker (such test form) P Q h a = weaker form (λ p x. IsTrue (test x) → P (limited (test x) p) x) (λ p x. IsTrue (test x) → Q (limited (test x) p) x) (λ p x b t. h (limited (test x) p) x (b t)) a
weaker (part form piece next) P Q h a = (a.0, λ y fits. weaker (next y) (λ p x. P (both (piece y) p) x) (λ p x. Q (both (piece y) p) x) (λ p x b. h (both (piece y) p) x b) (a.1 y fits))

pub first_true : (a b : Bool) → (a && b) ≡ true → a ≡ true
first_true true b e = refl
first_true false b e = e

pub second_true : (a b : Bool) → (a && b) ≡ true → b ≡ true
second_true true b e = e
second_true false b e = absurd cc

pub number_agrees : (size : Size) → Agrees (number_of size)
number_agrees size = record { written = λ n fits. refl; said = λ n fits. refl; placed = tt }

-- a number is cut short where no byte is left
pub no_number : (size : Size) → read (number size) [] ≡ Err 0
unfolding number_at
no_number one = refl
no_number two = refl
no_number four = refl
no_number eight = refl

-- so are bytes behind their length, where the length is
pub no_bytes : (f : Format ℕ) → read f.form [] ≡ Err 0 → read (counted f).form [] ≡ Err 0
no_bytes f none = rw none refl

-- and what is tested
pub none_such : {A : Type 0} (test : A → Bool) (f : Format A) → read f.form [] ≡ Err 0 → read (where_holds test f).form [] ≡ Err 0
none_such test f none = rw none refl

pub where_agrees : {A : Type 0} (test : A → Bool) (f : Format A) → Agrees f → read f.form [] ≡ Err 0 → Agrees (where_holds test f)
where_agrees test f agrees none = record {
  written = weaker f.form (λ p x. p ≡ f.piece x) (λ p x. IsTrue (test x) → limited (test x) p ≡ limited (test x) (f.piece x)) (λ p x e t. ap (λ (q : Piece). limited (test x) q) e) agrees.written;
  said = λ x fits. (f.piece x, refl, agrees.said x (first_true (f.piece x).fits (test x) fits));
  placed = (agrees.placed, none);
}

pub counted_agrees : (f : Format ℕ) → Agrees f → Agrees (counted f)
counted_agrees f agrees = record {
  written = (agrees.written, λ n fits bytes len. ap (λ (k : ℕ). both (f.piece k) (record { bytes = bytes; fits = true })) (sym len));
  said = λ bytes fits. (length bytes, record { bytes = bytes; fits = true }, refl, agrees.said (length bytes), (refl, refl));
  placed = (agrees.placed, λ n. tt);
}

-- ---- tags

-- the property always holds behind each tag
abbrev pub AlwaysBehind : {A : Type 0} → List (ℕ × Form A) → (Piece → A → Type 0) → Type 0
AlwaysBehind [] P = Unit {0}
AlwaysBehind (c ∷ cs) P = Always c.1 (λ p x. P (both (number_piece one c.0) p) x) × AlwaysBehind cs P

pick : {A : Type 0} (b : Bool) (so other : Form A) (P : Piece → A → Type 0) → (b ≡ true → Always so P) → Always other P → Always (chosen b so other) P
pick true so other P f a = f refl
pick false so other P f a = a

pub behind_tags : {A : Type 0} (cases : List (ℕ × Form A)) (P : Piece → A → Type 0) → AlwaysBehind cases P → Always (one_of cases) P
behind_tags [] P a tag = tt
behind_tags (c ∷ cs) P a tag =
    pick (tag == c.0) c.1 (by_tag cs tag) (λ p x. P (both (number_piece one tag) p) x)
    (λ e. subst (λ (t : ℕ). Always c.1 (λ p x. P (both (number_piece one t) p) x)) (sym (eqb-true tag c.0 e)) a.0)
    (behind_tags cs P a.1 tag)

-- faults are placed behind each tag
abbrev pub ArePlaced : {A : Type 0} → List (ℕ × Form A) → Type 0
ArePlaced [] = Unit {0}
ArePlaced (c ∷ cs) = IsPlaced true c.1 × ArePlaced cs

pick_placed : {A : Type 0} (b : Bool) (so other : Form A) → IsPlaced true so → IsPlaced true other → IsPlaced true (chosen b so other)
pick_placed true so other p q = p
pick_placed false so other p q = q

pub tags_placed : {A : Type 0} (cases : List (ℕ × Form A)) → ArePlaced cases → (tag : ℕ) → IsPlaced true (by_tag cases tag)
tags_placed [] p tag = refl
tags_placed (c ∷ cs) p tag = pick_placed (tag == c.0) c.1 (by_tag cs tag) p.0 (tags_placed cs p.1 tag)

option_said : {A : Type 0} (f : Format A) → Agrees f → (x : Option A) → IsTrue (optional_piece f x).fits → Says (optional f).form (optional_piece f x) x
option_said f agrees None fits = (0, empty, refl, (refl, refl))
option_said f agrees (Some x) fits = (1, both (f.piece x) empty, refl, (x, empty, refl, agrees.said x, (refl, refl)))

pub optional_agrees : {A : Type 0} (f : Format A) → Agrees f → Agrees (optional f)
optional_agrees f agrees = record {
  written = behind_tags ((0, gives None) ∷ (1, part f.form f.piece (λ x. gives (Some x))) ∷ []) (λ p x. p ≡ optional_piece f x) (refl, ((agrees.written, λ x fits. refl), tt));
  said = option_said f agrees;
  placed = tags_placed ((0, gives None) ∷ (1, part f.form f.piece (λ x. gives (Some x))) ∷ []) (tt, ((agrees.placed, λ x. tt), tt));
}

-- ---- lists

abbrev piece_of : List ℕ → Bool → Piece
piece_of bytes fits = record { bytes = bytes; fits = fits }

pub piece_is : (a b : List ℕ) (s t : Bool) → a ≡ b → s ≡ t → piece_of a s ≡ piece_of b t
piece_is a b s t e f = ap (λ (x : List ℕ). piece_of x s) e ∙ ap (λ (y : Bool). piece_of b y) f

and_true : (s : Bool) → (s && true) ≡ s
and_true true = refl
and_true false = refl

and_assoc : (s t u : Bool) → ((s && t) && u) ≡ (s && (t && u))
and_assoc true t u = refl
and_assoc false t u = refl

pub both_empty : (p : Piece) → both p empty ≡ p
both_empty p = piece_is _ _ _ _ (append-nil p.bytes) (and_true p.fits)

both_assoc : (p q r : Piece) → both (both p q) r ≡ both p (both q r)
both_assoc p q r = piece_is _ _ _ _ (append_assoc p.bytes q.bytes r.bytes) (and_assoc p.fits q.fits r.fits)

-- items that are read make up a list of so many
pub items_written : {K A B : Type 0} (item : K → Format A) (key : A → K) → ((k : K) → Agrees (item k)) → (before : K) (n : ℕ) (next : List A → Form B) (P : Piece → B → Type 0)
    → ((xs : List A) → length xs ≡ n → Always (next xs) (λ p y. P (both (items_piece item key before xs) p) y)) → Always (items item key before n next) P
items_written item key agrees before zero next P h = h [] refl
items_written item key agrees before (suc n) next P h = (
  (agrees before).written,
  λ x fits. items_written item key agrees (key x) n (λ xs. next (x ∷ xs)) (λ p y. P (both ((item before).piece x) p) y)
      (λ xs len. weaker (next (x ∷ xs)) (λ p y. P (both (items_piece item key before (x ∷ xs)) p) y) (λ p y. P (both ((item before).piece x) (both (items_piece item key (key x) xs) p)) y)
      (λ p y b. subst (λ (q : Piece). P q y) (both_assoc ((item before).piece x) (items_piece item key (key x) xs) p) b)
      (h (x ∷ xs) (ap suc len))),
)

-- the items of a list are said one after the other
pub items_said : {K A B : Type 0} (item : K → Format A) (key : A → K) → ((k : K) → Agrees (item k)) → (before : K) (xs : List A) (next : List A → Form B) (q : Piece) (y : B)
    → Says (next xs) q y → Says (items item key before (length xs) next) (both (items_piece item key before xs) q) y
items_said item key agrees before [] next q y s = s
items_said item key agrees before (x ∷ xs) next q y s =
    (x, both (items_piece item key (key x) xs) q, both_assoc ((item before).piece x) (items_piece item key (key x) xs) q, (agrees before).said x, items_said item key agrees (key x) xs (λ ys. next (x ∷ ys)) q y s)

pub items_placed : {K A B : Type 0} (item : K → Format A) (key : A → K) → ((k : K) → Agrees (item k)) → (before : K) (n : ℕ) (next : List A → Form B)
    → ((xs : List A) → IsPlaced false (next xs)) → IsPlaced false (items item key before n next)
items_placed item key agrees before zero next p = p []
items_placed item key agrees before (suc n) next p = ((agrees before).placed, λ x. items_placed item key agrees (key x) n (λ xs. next (x ∷ xs)) (λ xs. p (x ∷ xs)))

pub list_by_agrees : {K A : Type 0} (size : Format ℕ) → Agrees size → (item : K → Format A) (key : A → K) (before : K) → ((k : K) → Agrees (item k)) → Agrees (list_by size item key before)
list_by_agrees size counts item key before agrees = record {
  written = (
    counts.written,
    λ n fits. items_written item key agrees before n (λ xs. gives xs) (λ p xs. both (size.piece n) p ≡ (list_by size item key before).piece xs)
        (λ xs len. ap (λ (p : Piece). both (size.piece n) p) (both_empty (items_piece item key before xs)) ∙ ap (λ (k : ℕ). both (size.piece k) (items_piece item key before xs)) (sym len)),
  );
  said = λ xs fits. (length xs, items_piece item key before xs, refl, counts.said (length xs), subst (λ (p : Piece). Says (items item key before (length xs) (λ ys. gives ys)) p xs) (both_empty (items_piece item key before xs)) (items_said item key agrees before xs (λ ys. gives ys) empty xs (refl, refl)));
  placed = (counts.placed, λ n. items_placed item key agrees before n (λ xs. gives xs) (λ xs. tt));
}

pub list_agrees : {K A : Type 0} (item : K → Format A) (key : A → K) (before : K) → ((k : K) → Agrees (item k)) → Agrees (list item key before)
list_agrees item key before agrees = list_by_agrees u32 (number_agrees four) item key before agrees

pub list_of_agrees : {A : Type 0} (f : Format A) → Agrees f → Agrees (list_of f)
list_of_agrees f agrees = list_agrees (each f) (λ x. tt) tt (λ before. agrees)

pub list_up_to_agrees : {A : Type 0} (most : ℕ) (f : Format A) → Agrees f → Agrees (list_up_to most f)
list_up_to_agrees most f agrees = list_by_agrees (between 0 most u32) (where_agrees (is_within 0 most) u32 (number_agrees four) (no_number four)) (each f) (λ x. tt) tt (λ before. agrees)

-- ---- flags, and values in other words

flag_said : (b : Bool) → IsTrue (flag_piece b).fits → Says flag.form (flag_piece b) b
flag_said false fits = (0, _, refl, (refl, refl))
flag_said true fits = (1, _, refl, (refl, refl))

pub flag_agrees : Agrees flag
flag_agrees = record {
  written = behind_tags flag_forms (λ p b. p ≡ flag_piece b) (refl, (refl, tt));
  said = flag_said;
  placed = tags_placed flag_forms (tt, (tt, tt));
}

pub in_words_agrees : {A B : Type 0} (to : A → B) (from : B → A) (f : Format A) → Agrees f → ((x : A) → HasSpelling f x → from (to x) ≡ x) → ((y : B) → to (from y) ≡ y) → Agrees (in_words to from f)
in_words_agrees to from f agrees back there = record {
  written = (agrees.written, λ x fits. both_empty (f.piece x) ∙ ap (λ z. f.piece z) (sym (back x fits)));
  said = λ y fits. (from y, empty, sym (both_empty (f.piece (from y))), agrees.said (from y), (refl, there y));
  placed = (agrees.placed, λ x. tt);
}
