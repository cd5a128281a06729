-- The exit codes and the texts of the statuses.
use Rattle.std.specs.Prelude.{ℕ, List, [], ◌++◌, codes}
use Rattle.std.specs.Fmt.{decimal}
use Rattle.coda_engine.specs.declared.status.Kind.{Kind}
use Rattle.coda_engine.specs.declared.status.Kind.TheVariants.{Word, Number, Text, Path, Count, Mode, Actors}
use Rattle.coda_engine.specs.declared.status.Status.{Status}
use Rattle.coda_engine.specs.declared.status.Status.TheVariants.{Done, Usage, Script, SourceFault, SinkFault, TooLong, BayFault, Memory}

-- the exit code of a status
abbrev pub code_of : Status → ℕ
code_of Done = 0
code_of Usage = 2
code_of (Script line column kind) = 3
code_of SourceFault = 4
code_of SinkFault = 5
code_of TooLong = 7
code_of BayFault = 6
code_of Memory = 8

-- the word of a kind
abbrev pub kind_text : Kind → List ℕ
kind_text Word = codes "word"
kind_text Number = codes "number"
kind_text Text = codes "text"
kind_text Path = codes "path"
kind_text Count = codes "count"
kind_text Mode = codes "mode"
kind_text Actors = codes "actors"

-- what standard error shows of a status
abbrev pub text_of : Status → List ℕ
text_of Done = []
text_of Usage = codes "coda: usage: coda run | coda par | coda load START LINES"
text_of (Script line column kind) =
    codes "coda: line " ++ decimal line ++ codes " column " ++ decimal column ++ codes ": " ++ kind_text kind
text_of SourceFault = codes "coda: read fault"
text_of SinkFault = codes "coda: write fault"
text_of TooLong = codes "coda: script too long"
text_of BayFault = codes "coda: bay fault"
text_of Memory = codes "coda: out of memory"
