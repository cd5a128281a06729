-- What one word of a line may be.
use Rattle.std.specs.Prelude.{ℕ, Bool, true, false, ◌&&◌, ◌==◌, nat_le, codes, if◌then◌else◌, List, [], ◌∷◌, length, Option, Some, None, option_and_then}
use Rattle.std.specs.Str.{bytes_eq}
use Rattle.coda_fid.specs.Name.{is_name}
use Rattle.coda_fid.specs.Path.{is_path, names_in}
use Rattle.coda_text.specs.Numbers.{number_of, octal_of, begins_with_digit}
use Rattle.coda_text.specs.Texts.{value_of, is_quoted}
use Rattle.coda_script.specs.declared.line.Rights.{Rights}

-- a number from one to another, or a mode in octal
pub data NumberSlot : Type 0 where
  between : ℕ → ℕ → NumberSlot
  octal : NumberSlot

-- a quoted text of any length, or of a length from one to another
pub data TextSlot : Type 0 where
  any : TextSlot
  sized : ℕ → ℕ → TextSlot

-- a number, where it lies in a range
abbrev pub within : ℕ → ℕ → ℕ → Option ℕ
within low high n = if nat_le low n && nat_le n high then Some n else None

-- the number that a word is in a slot
abbrev pub number_in : NumberSlot → List ℕ → Option ℕ
number_in (between low high) word = option_and_then (within low high) (number_of word)
number_in octal word = octal_of word

-- the path that some bytes are, as its names
abbrev pub path_of : List ℕ → Option (List (List ℕ))
path_of bytes = if is_path bytes then Some (names_in bytes) else None

-- the path that a word is, bare or quoted
abbrev pub path_in : List ℕ → Option (List (List ℕ))
path_in word = path_of (value_of word)

-- the name that a word is, bare or quoted
abbrev pub name_in : List ℕ → Option (List ℕ)
name_in word = if is_name (value_of word) then Some (value_of word) else None

-- whether a word begins with a letter, and what is behind it there
abbrev pub strip : ℕ → List ℕ → Bool × List ℕ
strip letter [] = (false, [])
strip letter (b ∷ bs) = if b == letter then (true, bs) else (false, b ∷ bs)

-- the rights, where nothing is left of a word
abbrev pub all_read : Rights → List ℕ → Option Rights
all_read rights [] = Some rights
all_read rights (b ∷ bs) = None

-- the rights whose letters a word has, each at most once and in the order `rlidw`
abbrev pub letters_in : List ℕ → Option Rights
letters_in word =
    let r = strip 114 word in
    let l = strip 108 r.1 in
    let i = strip 105 l.1 in
    let d = strip 100 i.1 in
    let w = strip 119 d.1 in
    all_read (record { read = r.0; lookup = l.0; insert = i.0; delete = d.0; write = w.0 }) w.1

-- no right
abbrev pub no_rights : Rights
no_rights = record { read = false; lookup = false; insert = false; delete = false; write = false }

-- the rights that a word is: their letters, or `-` for none
abbrev pub rights_in : List ℕ → Option Rights
rights_in word = if bytes_eq word (codes "-") then Some no_rights else letters_in word

-- a length that a text may have in a slot
abbrev pub has_room : TextSlot → ℕ → Bool
has_room any n = true
has_room (sized low high) n = nat_le low n && nat_le n high

-- the text that a word is in a slot: it has to be quoted, and its length counts behind the escapes
abbrev pub text_in : TextSlot → List ℕ → Option (List ℕ)
text_in slot word = if is_quoted word && has_room slot (length (value_of word)) then Some (value_of word) else None

-- whether a word is that one, as it stands
abbrev pub is_word : List ℕ → List ℕ → Bool
is_word word text = bytes_eq text word

-- whether a word stands for a server where more servers may stand: each word up to the line's end, or each one that
-- begins with a digit
abbrev pub is_server : Bool → List ℕ → Bool
is_server true word = true
is_server false word = begins_with_digit word
