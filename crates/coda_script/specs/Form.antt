-- What may stand on a line from some word on, as data: each part has the value that its word stands for handed to what
-- comes behind it.
use Rattle.std.specs.Prelude.{ℕ, Bool, List, Option}
use Rattle.coda_engine.specs.declared.status.Kind.{Kind}
use Rattle.coda_script.specs.declared.line.Line.{Line}
use Rattle.coda_script.specs.declared.line.Rights.{Rights}
use Rattle.coda_script.specs.Slots.{NumberSlot, TextSlot}

pub data Form : Type 0 where
  -- the line ends there and says that; a word that stands there all the same is a fault of this kind
  ends : Kind → Line → Form
  -- some word that never stands there
  nothing : Form
  -- that word and what comes behind it, or else the other
  either : List ℕ → Form → Form → Form
  -- a number
  a_number : NumberSlot → (ℕ → Form) → Form
  -- a path
  a_path : (List (List ℕ) → Form) → Form
  -- a name
  a_name : (List ℕ → Form) → Form
  -- rights
  some_rights : (Rights → Form) → Form
  -- a quoted text
  a_text : TextSlot → (List ℕ → Form) → Form
  -- an optional word with its number
  perhaps : List ℕ → NumberSlot → (Option ℕ → Form) → Form
  -- servers, each above the one before it, the first above that one: all words up to the line's end, or those that begin
  -- with a digit
  servers_above : Bool → ℕ → (List ℕ → Form) → Form
