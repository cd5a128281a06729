-- The texts of replies in a cell.
use Rattle.std.specs.Prelude.{ℕ, List, [], Option, Some, None}
use Rattle.coda_tree.specs.Volume.{Tree}
use Rattle.coda_script.specs.declared.reply.Reply.{Reply}
use Rattle.coda_script.specs.declared.reply.Reply.TheVariants.{ShowVolume, ShowLog}
use Rattle.coda_report.specs.Texts.{reply_text}
use Rattle.coda_report.specs.Volumes.{volume_text}
use Rattle.coda_report.specs.LogTexts.{log_text}
use Rattle.coda_cell.specs.State.{new_volume, log_of, ClientState, CellState}
use Rattle.coda_cell.specs.Cells.{volume_at}

-- the volume that a server has
abbrev pub shown_volume : ℕ → Option Tree → List ℕ
shown_volume server None = []
shown_volume server (Some tree) = volume_text server tree

-- the log that a client has of a volume: an empty one where it did nothing there
abbrev pub shown_log : Option ClientState → ℕ → List ℕ
shown_log None volume = log_text (log_of new_volume)
shown_log (Some c) volume = log_text (log_of (c.volumes volume))

-- the text of a reply in the cell that the line left
abbrev pub text_of : CellState → Reply → List ℕ
text_of s (ShowVolume server volume) = shown_volume server (volume_at (s.replicas volume) server)
text_of s (ShowLog client volume) = shown_log (s.clients client) volume
text_of s reply = reply_text reply
