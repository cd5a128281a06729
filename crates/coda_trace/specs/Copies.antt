-- Kinds of lines.
use Rattle.std.specs.Prelude.{Bool, true, false}
use Rattle.coda_script.specs.declared.line.Line.{Line}
use Rattle.coda_script.specs.declared.line.Line.TheVariants as line

-- the line is of a link or of letters, or shows something
abbrev pub is_plain_line : Line → Bool
is_plain_line (line.Link client server strength) = true
is_plain_line (line.Send client volume server window) = true
is_plain_line (line.Deliver message) = true
is_plain_line (line.Lose message) = true
is_plain_line (line.ShowVolume server volume) = true
is_plain_line (line.ShowLog client volume) = true
is_plain_line (line.ShowState client volume) = true
is_plain_line _ = false
