-- What a line says, and its first wrong column.
use Rattle.std.specs.Prelude.{codes, ℕ, ◌+◌, Bool, true, ◌==◌, if◌then◌else◌, List, [], ◌∷◌, Option, Some, None, Result, Ok, Err}
use Rattle.std.specs.Option.{option_map_or}
use Rattle.coda_engine.specs.declared.status.Kind.TheVariants as kinds
use Rattle.coda_text.specs.Words.{Split, Word, rest_of, split_of, is_separator}
use Rattle.coda_script.specs.declared.line.Line.{Line}
use Rattle.coda_script.specs.declared.line.Line.TheVariants.{Task, At}
use Rattle.coda_script.specs.declared.turns.Turns.{Turns}
use Rattle.coda_script.specs.declared.turns.Turns.TheVariants.{Unnamed, Thread, Several}
use Rattle.coda_script.specs.Slots.{between, number_in, is_word}
use Rattle.coda_script.specs.Reading.{Fault, ◌>>=◌, missing, read}
use Rattle.coda_script.specs.Table.{script}

-- the first byte that is no separator
unfoldable pub first_byte : List ℕ → Option ℕ
first_byte [] = None
first_byte (b ∷ bs) = if is_separator b then first_byte bs else Some b

-- a blank line or a comment, whose first byte behind separators is `#`: it says nothing
abbrev pub is_silent : List ℕ → Bool
is_silent line = option_map_or (λ b. b == 35) (first_byte line) true

-- one more thread
abbrev pub with_thread : Turns → ℕ → Turns
with_thread Unnamed t = Thread t
with_thread (Thread s) t = Several
with_thread Several t = Several

-- the threads that stand before a line, each behind a word `at`, after those seen; and what is behind them
unfoldable pub turns_at : Turns → Split → List Word → Result (Turns × Split) Fault
turns_at seen split [] = Ok (seen, split)
turns_at seen split (w ∷ []) = if is_word (codes "at") w.text then Err (missing split) else Ok (seen, split)
turns_at seen split (w ∷ v ∷ ws) =
    if is_word (codes "at") w.text
    then option_map_or (λ t. turns_at (with_thread seen t) (rest_of (rest_of split)) ws) (number_in (between 1 8) v.text) (Err (v.at + 1, kinds.Number))
    else Ok (seen, split)

-- what a line says behind the threads that it names: any line behind none, what a client does behind one; else the line
-- stands in the wrong place
abbrev pub placed : Turns → Line → Result Line Fault
placed Unnamed line = Ok line
placed (Thread t) (Task task) = Ok (At t task)
placed (Thread t) line = Err (1, kinds.Mode)
placed Several line = Err (1, kinds.Mode)

-- what the words of a line say
unfoldable pub read_words : Split → Result Line Fault
read_words split =
    turns_at Unnamed split split.words >>= λ turns.
    read script turns.1 >>= λ line. placed turns.0 line

-- what a line says, if it says anything, or its first wrong column
unfoldable pub line_of : List ℕ → Result (Option Line) Fault
line_of line = if is_silent line then Ok None else (read_words (split_of line) >>= (λ said. Ok (Some said)))
