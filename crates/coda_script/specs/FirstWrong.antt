-- What a wrong column says: no line begins with the words before it and the word at it.
use Rattle.std.specs.Prelude.{◌≡◌, ℕ, ◌+◌, List, [], ◌∷◌, ◌++◌, map, None, Err}
use Rattle.coda_engine.specs.declared.status.Kind.{Kind}
use Rattle.coda_text.specs.Words.{Split, Word}
use Rattle.coda_script.specs.declared.line.Line.{Line}
use Rattle.coda_script.specs.Form.{Form}
use Rattle.coda_script.specs.Reading.{read}
use Rattle.coda_script.specs.Spelling.{Spells}

-- the column of the first of some words, or the one behind the line's last byte
abbrev pub column_of : ℕ → List Word → ℕ
column_of end [] = end + 1
column_of end (w ∷ ws) = w.at + 1

-- no line of the form begins with these words and the next one; where none is next, they are no line
abbrev pub NoneBegins : Form → List (List ℕ) → List Word → Type 0
NoneBegins f front [] = (line : Line) → Spells f front line → ⊥
NoneBegins f front (w ∷ ws) = (more : List (List ℕ)) (line : Line) → Spells f (front ++ w.text ∷ more) line → ⊥

-- The column is that of a word, or the one behind the line, and no line of the form begins with the words up to it. Where the line
-- has what is no word, the column behind its words is where that begins.
pub record IsWrongColumn (f : Form) (split : Split) (column : ℕ) : Type 0 where
  pub before : List Word
  pub after : List Word
  pub parts : split.words ≡ before ++ after
  pub place : column ≡ column_of split.end after
  pub none : (after ≡ [] → split.breaks ≡ None) → NoneBegins f (map (λ (w : Word). w.text) before) after

-- Where reading is wrong at a column, no line begins so.
abbrev pub WrongColumnsAreWrong : Type 0
WrongColumnsAreWrong = (f : Form) (split : Split) (column : ℕ) (kind : Kind) → read f split ≡ Err (column, kind) → IsWrongColumn f split column
