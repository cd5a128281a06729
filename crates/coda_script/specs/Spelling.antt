-- Which words spell which line, apart from reading.
use Rattle.std.specs.Prelude.{◌≡◌, codes, ℕ, ◌+◌, ◌⊎◌, Bool, true, false, List, [], ◌∷◌, ◌++◌, map, Option, Some, None, Result, Ok}
use Rattle.coda_text.specs.Words.{Word, split_of}
use Rattle.coda_script.specs.declared.line.Line.{Line}
use Rattle.coda_script.specs.declared.line.Rights.{Rights}
use Rattle.coda_script.specs.declared.line.Line.TheVariants.{Task, At}
use Rattle.coda_script.specs.declared.line.Task.{Task as ATask}
use Rattle.coda_script.specs.declared.fault.LineFault.{LineFault}
use Rattle.coda_script.specs.Outcome.{Gives}
use Rattle.coda_script.specs.Slots.{between, number_in, path_in, name_in, rights_in, text_in, is_word, is_server}
use Rattle.coda_script.specs.Form.{Form, ends, nothing, either, a_number, a_path, a_name, some_rights, a_text, perhaps, servers_above}
use Rattle.coda_script.specs.Table.{script}
use Rattle.coda_script.specs.Lines.{is_silent}

-- whether a first word is there that the test holds of
abbrev pub begins : (List ℕ → Bool) → List (List ℕ) → Bool
begins test [] = false
begins test (w ∷ ws) = test w

-- the words spell these servers, each above the one before it, the first above that one
abbrev pub SpellServers : Bool → ℕ → List (List ℕ) → List ℕ → Type 0
SpellServers all last [] [] = Unit {0}
SpellServers all last (w ∷ ws) (s ∷ ss) = (is_server all w ≡ true) × (number_in (between (last + 1) 8) w ≡ Some s) × SpellServers all s ws ss
SpellServers all last [] (s ∷ ss) = ⊥
SpellServers all last (w ∷ ws) [] = ⊥

-- the words spell the line in the form
abbrev pub Spells : Form → List (List ℕ) → Line → Type 0
Spells (ends kind said) ws line = (ws ≡ []) × (line ≡ said)
Spells nothing ws line = ⊥
Spells (either word so other) ws line =
    ((rest : List (List ℕ)) × (ws ≡ word ∷ rest) × Spells so rest line)
    ⊎ ((begins (is_word word) ws ≡ false) × Spells other ws line)
Spells (a_number slot next) ws line = (w : List ℕ) × (rest : List (List ℕ)) × (ws ≡ w ∷ rest) × (n : ℕ) × (number_in slot w ≡ Some n) × Spells (next n) rest line
Spells (a_path next) ws line = (w : List ℕ) × (rest : List (List ℕ)) × (ws ≡ w ∷ rest) × (p : List (List ℕ)) × (path_in w ≡ Some p) × Spells (next p) rest line
Spells (a_name next) ws line = (w : List ℕ) × (rest : List (List ℕ)) × (ws ≡ w ∷ rest) × (n : List ℕ) × (name_in w ≡ Some n) × Spells (next n) rest line
Spells (some_rights next) ws line = (w : List ℕ) × (rest : List (List ℕ)) × (ws ≡ w ∷ rest) × (r : Rights) × (rights_in w ≡ Some r) × Spells (next r) rest line
Spells (a_text slot next) ws line = (w : List ℕ) × (rest : List (List ℕ)) × (ws ≡ w ∷ rest) × (t : List ℕ) × (text_in slot w ≡ Some t) × Spells (next t) rest line
Spells (perhaps word slot next) ws line =
    ((w : List ℕ) × (rest : List (List ℕ)) × (ws ≡ word ∷ w ∷ rest) × (n : ℕ) × (number_in slot w ≡ Some n) × Spells (next (Some n)) rest line)
    ⊎ ((begins (is_word word) ws ≡ false) × Spells (next None) ws line)
Spells (servers_above all last next) ws line =
    (mine : List (List ℕ)) × (rest : List (List ℕ)) × (ws ≡ mine ++ rest) × (ss : List ℕ) × SpellServers all last mine ss × (begins (is_server all) rest ≡ false) × Spells (next ss) rest line

-- the words are those of `at T LINE`
pub record SpellsAt (ws : List (List ℕ)) (line : Line) : Type 0 where
  pub turn : List ℕ
  pub thread : ℕ
  pub rest : List (List ℕ)
  pub task : ATask
  pub words : ws ≡ codes "at" ∷ turn ∷ rest
  pub number : number_in (between 1 8) turn ≡ Some thread
  pub spelled : Spells script rest (Task task)
  pub says : line ≡ At thread task

-- the words spell the line: it is one of the table, or one of a thread
abbrev pub SpellsLine : List (List ℕ) → Line → Type 0
SpellsLine ws line = Spells script ws line ⊎ SpellsAt ws line

-- the words of a line
abbrev pub words_of : List ℕ → List (List ℕ)
words_of line = map (λ (w : Word). w.text) (split_of line).words

-- the line is neither blank nor a comment, each word is one, and they spell what it says
pub record Says (line : List ℕ) (said : Line) : Type 0 where
  pub loud : is_silent line ≡ false
  pub whole : (split_of line).breaks ≡ None
  pub spelled : SpellsLine (words_of line) said

-- what a line says is read, unless memory runs out
abbrev pub ReadsAll : List ℕ → Result (Option Line) LineFault → Type 0
ReadsAll line result = (said : Line) → Says line said → Gives (λ o. o) result (Ok (Some said))
