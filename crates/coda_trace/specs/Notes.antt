-- What an event of a trace tells of a step.
use Rattle.std.specs.Prelude.{◌≡◌, ◌↔◌, ℕ, List, [], ◌∷◌, ◌++◌}
use Rattle.coda_io.specs.Faults.{Rose}
use Rattle.coda_script.specs.declared.line.Line.{Line}
use Rattle.coda_script.specs.declared.reply.Reply.{Reply}
use Rattle.coda_script.specs.declared.reply.Reply.TheVariants.{Recovered}
use Rattle.coda_shelves.specs.Lines.{refused_fault}
use Rattle.coda_site.specs.Totals.{Counts}
use Rattle.coda_trace.specs.declared.event.Event.{Event}
use Rattle.coda_trace.specs.declared.event.Note.{Note}
use Rattle.coda_trace.specs.declared.event.Note.TheVariants as note

-- The note of a step with this reply: the count of a recovery exactly where that is replied, and a fault exactly where it is replied that a disk failed.
pub record IsNoteOf (reply : Reply) (noted : Note) : Type 0 where
  pub recovered : (count : ℕ) → (noted ≡ note.Recovered count) ↔ (reply ≡ Recovered count)
  pub fault : (noted ≡ note.Fault) ↔ (reply ≡ refused_fault)

-- A line had this reply, and disks counted so much before and behind it: the trace has one event more, with the line and the note of the reply; and
-- where that is a fault, the count of faults rose.
pub record IsTraced (said : Line) (reply : Reply) (before behind : Counts) (old new : List Event) : Type 0 where
  pub event : Event
  pub grows : new ≡ old ++ event ∷ []
  pub line : event.line ≡ said
  pub noted : IsNoteOf reply event.note
  pub rose : event.note ≡ note.Fault → Rose before.faults behind.faults
