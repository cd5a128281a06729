-- How scripts end: every script of lines that are built runs to its end, and statuses depend on the script alone.
use Rattle.std.specs.Prelude.{◌≡◌, ℕ, true, ◌⊎◌, List, Some, None, Ok}
use Rattle.std.specs.Str.Lines.{lines}
use Rattle.std.specs.List.{AllByRecursion}
use Rattle.coda_engine.specs.Lines.{IsWithinLimits}
use Rattle.coda_engine.specs.Exact.{IsClean, CleanScriptsRun, OneStatus}
use Rattle.coda_script.specs.declared.line.Line.{Line}
use Rattle.coda_script.specs.declared.line.Line.TheVariants as line
use Rattle.coda_script.specs.Lines.{line_of}
use Rattle.coda_shelves.specs.Cells.{Cell}
use Rattle.coda_shelves.specs.Lines.{is_built}
use Rattle.coda_shelves.specs.FromBlank.{ArePlaced}
use Rattle.coda_shelves.specs.Running.{IsKept}
use Rattle.coda_runs.specs.Shelved.{LineRefused, LineGives}

-- a line that crashes nothing: what a crash leaves is the bay's to say
abbrev pub CrashesNothing : Line → Type 0
CrashesNothing (line.CrashClient client choice) = ⊥
CrashesNothing (line.CrashReplica server volume choice) = ⊥
CrashesNothing _ = Unit {0}

-- a line that says nothing, or that says something which is built and crashes nothing
abbrev pub IsTaken : List ℕ → Type 0
IsTaken bytes = (line_of bytes ≡ Ok None) ⊎ ((said : Line) × (line_of bytes ≡ Ok (Some said)) × (is_built said ≡ true) × CrashesNothing said)

-- a script within the limits, of such lines alone
pub record IsInGrammar (script : List ℕ) : Type 0 where
  pub within : IsWithinLimits script
  pub taken : AllByRecursion IsTaken (lines script)

-- Whatever the cell that is kept, and whose volumes have their replicas, as runs leave it (`WhatRanIsKept`), it may run each line of such a script, so the script is clean.
abbrev pub ScriptsInGrammarAreClean : Type 0
ScriptsInGrammarAreClean = (cell : Cell) (script : List ℕ) → IsKept cell → ArePlaced cell → IsInGrammar script → IsClean LineGives cell script

-- Whatever stands on disks: a script that can run to its end in one cell ends in none as one with a bad line, or as one that is too long.
abbrev pub CleanScriptsEnd : Type 0
CleanScriptsEnd = (cell other : Cell) → CleanScriptsRun LineGives LineRefused cell other

-- and a script has one status in all cells, but for faults and want of memory
abbrev pub ScriptsHaveOneStatus : Type 0
ScriptsHaveOneStatus = (cell other : Cell) → OneStatus LineGives LineRefused cell other
