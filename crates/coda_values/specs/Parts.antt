-- The parts that formats are made of: numbers, counted bytes, tags, what may be there, lists.
use Rattle.std.specs.Prelude.{ℕ, zero, suc, ◌&&◌, ◌==◌, nat_le, Bool, true, false, List, [], ◌∷◌, length, Option, Some, None}
use Rattle.coda_values.specs.Form.{Piece, empty, both, together, limited, Size, one, two, four, eight, number_piece, Form, gives, unknown, number, raw, tagged, such, Format, ◌>>=◌}

-- ---- numbers

abbrev pub number_of : Size → Format ℕ
number_of size = record { form = number size; piece = number_piece size }

abbrev pub u8 : Format ℕ
u8 = number_of one

abbrev pub u16 : Format ℕ
u16 = number_of two

abbrev pub u32 : Format ℕ
u32 = number_of four

abbrev pub u64 : Format ℕ
u64 = number_of eight

-- the values of a format that a test holds of
abbrev pub where_holds : {A : Type 0} → (A → Bool) → Format A → Format A
where_holds test f = record { form = such test f.form; piece = λ x. limited (test x) (f.piece x) }

-- whether a number lies from one to another
abbrev pub is_within : ℕ → ℕ → ℕ → Bool
is_within low high n = nat_le low n && nat_le n high

-- a number from one to another
abbrev pub between : ℕ → ℕ → Format ℕ → Format ℕ
between low high f = where_holds (is_within low high) f

-- ---- bytes

-- how many bytes there are, and these
abbrev pub counted : Format ℕ → Format (List ℕ)
counted f = record {
  form = do
    n ← f
    raw n;
  piece = λ bytes. both (f.piece (length bytes)) (record { bytes = bytes; fits = true });
}

-- ---- tags

abbrev pub chosen : {A : Type 0} → Bool → Form A → Form A → Form A
chosen true so other = so
chosen false so other = other

-- what stands behind each tag
abbrev pub by_tag : {A : Type 0} → List (ℕ × Form A) → ℕ → Form A
by_tag [] tag = unknown
by_tag (c ∷ cs) tag = chosen (tag == c.0) c.1 (by_tag cs tag)

-- one of some forms, each behind its tag
abbrev pub one_of : {A : Type 0} → List (ℕ × Form A) → Form A
one_of cases = tagged (by_tag cases)

-- a value behind 1, or 0
abbrev pub optional_piece : {A : Type 0} → Format A → Option A → Piece
optional_piece f None = together (u8.piece 0 ∷ [])
optional_piece f (Some x) = together (u8.piece 1 ∷ f.piece x ∷ [])

abbrev pub optional : {A : Type 0} → Format A → Format (Option A)
optional f = record {
  form = one_of ((0, gives None) ∷ (1, f >>= λ x. gives (Some x)) ∷ []);
  piece = optional_piece f;
}

-- ---- lists

-- items, each in the format that the key of the one before it leaves
abbrev pub items_piece : {K A : Type 0} → (K → Format A) → (A → K) → K → List A → Piece
items_piece item key before [] = empty
items_piece item key before (x ∷ xs) = both ((item before).piece x) (items_piece item key (key x) xs)

-- so many items, and what stands behind them
abbrev pub items : {K A B : Type 0} → (K → Format A) → (A → K) → K → ℕ → (List A → Form B) → Form B
items item key before zero next = next []
items item key before (suc n) next = item before >>= λ x. items item key (key x) n (λ xs. next (x ∷ xs))

-- how many items there are, in a format of numbers, and these: the first in the format that a key leaves, and each
-- further one in the format that the key of the one before it leaves
abbrev pub list_by : {K A : Type 0} → Format ℕ → (K → Format A) → (A → K) → K → Format (List A)
list_by size item key before = record {
  form = size >>= λ n. items item key before n (λ xs. gives xs);
  piece = λ xs. both (size.piece (length xs)) (items_piece item key before xs);
}

-- how many items there are, and these, each in the format that the key of the one before it leaves
abbrev pub list : {K A : Type 0} → (K → Format A) → (A → K) → K → Format (List A)
list item key before = list_by u32 item key before

-- one format, whatever stands before
abbrev pub each : {A : Type 0} → Format A → Unit {0} → Format A
each f before = f

-- how many items there are, and these, in whatever order
abbrev pub list_of : {A : Type 0} → Format A → Format (List A)
list_of f = list (each f) (λ x. tt) tt

-- at most so many items, in whatever order
abbrev pub list_up_to : {A : Type 0} → ℕ → Format A → Format (List A)
list_up_to most f = list_by (between 0 most u32) (each f) (λ x. tt) tt

-- ---- flags, and values in other words

abbrev pub flag_piece : Bool → Piece
flag_piece false = together (u8.piece 0 ∷ [])
flag_piece true = together (u8.piece 1 ∷ [])

abbrev pub flag_forms : List (ℕ × Form Bool)
flag_forms =
    ((0, gives false)
    ∷ (1, gives true)
    ∷ [])

-- 0 or 1
abbrev pub flag : Format Bool
flag = record { form = one_of flag_forms; piece = flag_piece }

-- the values of another type, one for each value of a format
abbrev pub in_words : {A B : Type 0} → (A → B) → (B → A) → Format A → Format B
in_words to from f = record {
  form = f >>= λ x. gives (to x);
  piece = λ y. f.piece (from y);
}
