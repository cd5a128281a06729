-- What a script's lines are, whatever cell they run in, which of them may ask the bay, and the words of a command line.
use Rattle.std.specs.Prelude.{◌≡◌, ℕ, true, ◌⊎◌, List, [], Some, None, Ok, ◌∷◌, codes}
use Rattle.coda_script.specs.declared.line.Line.{Line}
use Rattle.coda_script.specs.Lines.{line_of}
use Rattle.coda_site.specs.Makings.{asks_bay}
use Rattle.coda_shelves.specs.Lines.{is_built}
use Rattle.coda_runs.specs.Shelved.{Replies}
use Rattle.coda_script.specs.declared.reply.Reply.{Reply}
use Rattle.coda_script.specs.declared.reply.Reply.TheVariants.{Opened, Crashed, Refused}
use Rattle.coda_shelves.specs.Cells.{Cell}

-- The bytes run as a line with this text: they say nothing, and the text is empty then, or they say a line that is built.
abbrev pub IsGoodLine : List ℕ → List ℕ → Type 0
IsGoodLine bytes text = ((line_of bytes ≡ Ok None) × (text ≡ [])) ⊎ ((said : Line) × (line_of bytes ≡ Ok (Some said)) × (is_built said ≡ true))

-- The bytes say a line that may ask the bay: one that makes an actor, or a crash.
abbrev pub AsksBay : List ℕ → Type 0
AsksBay bytes = (said : Line) × (line_of bytes ≡ Ok (Some said)) × (asks_bay said ≡ true)

-- what the lines of a script give and refuse, of which nothing else is known than the bytes: a machine without a state
abbrev pub AnyGives : Unit {0} → List ℕ → List ℕ → List (List ℕ) → Unit {0} → Type 0
AnyGives old bytes text outside new = IsGoodLine bytes text

-- ---- which lines may ask the bay, by what is replied to them

-- the reply is that an actor is there with a disk of the bay, that its disk crashed, or a refusal
abbrev pub IsOfTheBay : Reply → Type 0
IsOfTheBay (Opened counts) = Unit {0}
IsOfTheBay Crashed = Unit {0}
IsOfTheBay (Refused refusal arguments) = Unit {0}
IsOfTheBay _ = ⊥

-- Where a line that may ask the bay isn't refused, it had a disk or a crash of it, whatever stands on the disk.
abbrev pub WhatAsksTheBayIsOfIt : Type 0
WhatAsksTheBayIsOfIt = (old new : Cell) (bytes text : List ℕ) (outside : List (List ℕ)) → AsksBay bytes → (r : Replies old bytes text outside new) → IsOfTheBay r.reply

-- ---- the words of a command line

-- the one word `run`
abbrev pub IsRun : List (List ℕ) → Type 0
IsRun words = words ≡ codes "run" ∷ []
