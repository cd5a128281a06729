-- Reading a form from left to right: what the words say, or the first wrong column and what is wrong there.
use Rattle.std.specs.Prelude.{ℕ, ◌+◌, Bool, false, if◌then◌else◌, List, [], ◌∷◌, Option, Some, None, Result, Ok, Err, is_some}
use Rattle.std.specs.Option.{option_map_or}
use Rattle.coda_engine.specs.declared.status.Kind.{Kind}
use Rattle.coda_engine.specs.declared.status.Kind.TheVariants as kinds
use Rattle.coda_text.specs.Words.{Split, Word, rest_of}
use Rattle.coda_script.specs.declared.line.Line.{Line}
use Rattle.coda_script.specs.Slots.{NumberSlot, between, number_in, path_in, name_in, rights_in, text_in, is_word, is_server}
use Rattle.coda_script.specs.Form.{Form, ends, nothing, either, a_number, a_path, a_name, some_rights, a_text, perhaps, servers_above}

-- a column, from 1, and what is wrong there
abbrev pub Fault : Type 0
Fault = ℕ × Kind

infixl 10 ◌>>=◌
-- one reading after another: the first fault is that of the whole
abbrev pub ◌>>=◌ : {A B : Type 0} → Result A Fault → (A → Result B Fault) → Result B Fault
(Ok x) >>= f = f x
(Err e) >>= f = Err e

-- no word stands there: one is missing at the line's end, or what begins there is none
abbrev pub missing : Split → Fault
missing split = (split.end + 1, if is_some split.breaks then kinds.Text else kinds.Count)

-- the value of the first of these words, and what is behind it
abbrev pub value_at : {A : Type 0} → Kind → (List ℕ → Option A) → Split → List Word → Result (A × Split) Fault
value_at kind value split [] = Err (missing split)
value_at kind value split (w ∷ ws) = option_map_or (λ x. Ok (x, rest_of split)) (value w.text) (Err (w.at + 1, kind))

-- the value of the next word, and what is behind it; a word that has none is a fault of that kind
unfoldable pub slot_at : {A : Type 0} → Kind → (List ℕ → Option A) → Split → Result (A × Split) Fault
slot_at kind value split = value_at kind value split split.words

-- whether a word comes next that the test holds of
abbrev pub is_next : (List ℕ → Bool) → List Word → Bool
is_next test [] = false
is_next test (w ∷ ws) = test w.text

-- some word was wanted, and none of those that may stand there does
abbrev pub wrong_at : Split → List Word → Fault
wrong_at split [] = missing split
wrong_at split (w ∷ ws) = (w.at + 1, kinds.Word)

-- the line ends there
abbrev pub end_at : Kind → Line → Split → List Word → Result Line Fault
end_at kind line split [] = if is_some split.breaks then Err (missing split) else Ok line
end_at kind line split (w ∷ ws) = Err (w.at + 1, kind)

-- the servers above one, and what is behind them
unfoldable pub servers_at : Bool → ℕ → Split → List Word → Result (List ℕ × Split) Fault
servers_at all last split [] = Ok ([], split)
servers_at all last split (w ∷ ws) =
    if is_server all w.text
    then option_map_or (λ s. servers_at all s (rest_of split) ws >>= (λ more. Ok (s ∷ more.0, more.1))) (number_in (between (last + 1) 8) w.text) (Err (w.at + 1, kinds.Number))
    else Ok ([], split)

-- an optional word with its number
unfoldable pub option_at : List ℕ → NumberSlot → Split → Result (Option ℕ × Split) Fault
option_at word slot split =
    if is_next (is_word word) split.words
    then (slot_at kinds.Number (number_in slot) (rest_of split) >>= (λ n. Ok (Some n.0, n.1)))
    else Ok (None, split)

-- what the words say in a form
abbrev pub read : Form → Split → Result Line Fault
read (ends kind line) split = end_at kind line split split.words
read nothing split = Err (wrong_at split split.words)
read (either word so other) split = if is_next (is_word word) split.words then read so (rest_of split) else read other split
read (a_number slot next) split = slot_at kinds.Number (number_in slot) split >>= λ n. read (next n.0) n.1
read (a_path next) split = slot_at kinds.Path path_in split >>= λ p. read (next p.0) p.1
read (a_name next) split = slot_at kinds.Path name_in split >>= λ n. read (next n.0) n.1
read (some_rights next) split = slot_at kinds.Word rights_in split >>= λ r. read (next r.0) r.1
read (a_text slot next) split = slot_at kinds.Text (text_in slot) split >>= λ t. read (next t.0) t.1
read (perhaps word slot next) split = option_at word slot split >>= λ n. read (next n.0) n.1
read (servers_above all last next) split = servers_at all last split split.words >>= λ ss. read (next ss.0) ss.1
