-- How contents and modes are printed.
use Rattle.std.specs.Prelude.{ℕ, ◌/◌, ◌%◌, nat_le, if◌then◌else◌, List, [], ◌∷◌, ◌++◌, length, take, codes}
use Rattle.std.specs.Fmt.{decimal}
use Rattle.coda_text.specs.Texts.{quoted}

-- content: its first 64 bytes between quotes, and two dots where there are more
abbrev pub text_of_content : List ℕ → List ℕ
text_of_content bytes = if nat_le (length bytes) 64 then quoted bytes else quoted (take 64 bytes) ++ codes ".."

-- a mode: four octal digits
abbrev pub mode_text : ℕ → List ℕ
mode_text mode = decimal (mode / 512 % 8) ++ decimal (mode / 64 % 8) ++ decimal (mode / 8 % 8) ++ decimal (mode % 8)

-- a newline behind a text
abbrev pub line : List ℕ → List ℕ
line text = text ++ 10 ∷ []
