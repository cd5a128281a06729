-- The tokens of a line.
use Rattle.std.specs.Prelude.{◌≡◌, ℕ, ◌+◌, List, [], ◌∷◌, map, length, Some, None, Result, Ok, Err}
use Rattle.std.specs.Global.{Vec}
use Rattle.coda_text.specs.declared.splitting.Token.{Token}
use Rattle.coda_text.specs.declared.splitting.TextFault.{TextFault}
use Rattle.coda_text.specs.declared.splitting.TextFault.TheVariants.{Memory, BadWord}
use Rattle.coda_text.specs.Words.{Split, Word}
use Rattle.coda_text.specs.Texts.{is_quoted, printed}
use Rattle.coda_text.specs.Printed.{AreBytes}

-- the span of a word
abbrev pub token_of : Word → Token
token_of w = record { start = w.at; end = w.at + length w.text; quoted = is_quoted w.text }

-- a line's tokens are its words exactly where each is one; else the fault is the span of the first that is none
abbrev pub Splits : Split → Result (Vec Token) TextFault → Type 0
Splits split (Ok tokens) = (split.breaks ≡ None) × (tokens.items ≡ map token_of split.words)
Splits split (Err Memory) = Unit {0}
Splits split (Err (BadWord start end)) = (split.end ≡ start) × (split.breaks ≡ Some end)

-- the one token of a line that is a word
abbrev pub IsOneToken : List ℕ → Result (Vec Token) TextFault → Type 0
IsOneToken line (Ok tokens) = tokens.items ≡ token_of (record { at = 0; text = line }) ∷ []
IsOneToken line (Err Memory) = Unit {0}
IsOneToken line (Err (BadWord start end)) = ⊥

-- where the line is what bytes were printed as, it is one token
abbrev pub FindsPrinted : List ℕ → Result (Vec Token) TextFault → Type 0
FindsPrinted line result = (bytes : List ℕ) → AreBytes bytes → printed bytes ≡ line → IsOneToken line result
