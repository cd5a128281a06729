-- What is printed is read again.
use Rattle.std.specs.Prelude.{◌≡◌, ◌<◌, ℕ, List, length}
use Rattle.std.specs.List.{AllByRecursion}
use Rattle.coda_text.specs.Words.{word, ended, split_of}
use Rattle.coda_text.specs.Texts.{value_of}

-- each number is a byte
abbrev pub AreBytes : List ℕ → Type 0
AreBytes bytes = AllByRecursion (λ b. b < 256) bytes

-- a text is one word of a line, and stands for the bytes
abbrev pub IsWordFor : List ℕ → List ℕ → Type 0
IsWordFor text bytes = (split_of text ≡ word 0 text (ended (length text))) × (value_of text ≡ bytes)
