-- What a word stands for, and how bytes are printed.
use Rattle.std.specs.Prelude.{ℕ, ◌+◌, ◌-◌, ◌*◌, ◌/◌, ◌%◌, Bool, false, ◌&&◌, ◌||◌, not, nat_le, ◌==◌, if◌then◌else◌, List, [], ◌∷◌, ◌++◌, length, Option, Some, None}
use Rattle.std.specs.Option.{option_to_list}
use Rattle.std.specs.List.{flat_map, list_all}
use Rattle.coda_text.specs.declared.texts.Escape.{Escape}
use Rattle.coda_text.specs.declared.texts.Escape.TheVariants.{Plain, Slash, High, Low}

-- the value of a hexadecimal digit, in either case
abbrev pub hex_value : ℕ → ℕ
hex_value b = if nat_le b 57 then (b - 48) % 16 else (if nat_le b 70 then (b - 55) % 16 else (b - 87) % 16)

-- the byte that a byte between quotes completes, if it does
abbrev pub gives : Escape → ℕ → Option ℕ
gives Plain b = if b == 34 || b == 92 then None else Some b
gives Slash b = if b == 120 then None else (if b == 110 then Some 10 else Some b)
gives High b = None
gives (Low high) b = Some (16 * (high % 16) + hex_value b)

-- where the byte behind it stands
abbrev pub after : Escape → ℕ → Escape
after Plain b = if b == 92 then Slash else Plain
after Slash b = if b == 120 then High else Plain
after High b = Low (hex_value b)
after (Low high) b = Plain

-- what bytes between quotes stand for, with their escapes replaced; the quotes stand for nothing
unfoldable pub decoded : Escape → List ℕ → List ℕ
decoded state [] = []
decoded state (b ∷ bs) = option_to_list (gives state b) ++ decoded (after state b) bs

-- whether a word is quoted: whether it begins with a quote
abbrev pub is_quoted : List ℕ → Bool
is_quoted [] = false
is_quoted (b ∷ bs) = b == 34

-- the bytes that a word stands for
abbrev pub value_of : List ℕ → List ℕ
value_of word = if is_quoted word then decoded Plain word else word

-- a hexadecimal digit, in lower case
abbrev pub hex_digit : ℕ → ℕ
hex_digit n = if nat_le n 9 then 48 + n else 87 + n

-- a byte between quotes: a quote and a backslash behind a backslash, what isn't printable as `\xhh`
abbrev pub escaped : ℕ → List ℕ
escaped b = if b == 34 || b == 92 then 92 ∷ b ∷ [] else (if nat_le 32 b && nat_le b 126 then b ∷ [] else 92 ∷ 120 ∷ hex_digit (b / 16) ∷ hex_digit (b % 16) ∷ [])

-- bytes between quotes
abbrev pub quoted : List ℕ → List ℕ
quoted bytes = 34 ∷ (flat_map escaped bytes ++ 34 ∷ [])

-- a printable byte that is no blank, quote or backslash
abbrev pub is_open_byte : ℕ → Bool
is_open_byte b = nat_le 33 b && nat_le b 126 && not (b == 34) && not (b == 92)

-- bytes that are printed as they are
abbrev pub is_open : List ℕ → Bool
is_open bytes = nat_le 1 (length bytes) && list_all is_open_byte bytes

-- bytes as they are where that is plain, and else between quotes
abbrev pub printed : List ℕ → List ℕ
printed bytes = if is_open bytes then bytes else quoted bytes
