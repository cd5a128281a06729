use Rattle.std.proofs.Common.{◌≡◌, length}
use Rattle.coda_script.specs.declared.turns.Turns.TheVariants.{Unnamed}
use Rattle.coda_script.specs.Lines.{turns_at}
use Rattle.coda_script.proofs.turns.read_turns.Given as goal

abbrev pub invariant-loop-cursor : goal.invariant-loop-cursor
invariant-loop-cursor l = turns_at Unnamed l.fn.cursor l.fn.cursor.words ≡ turns_at l.seen l.cursor l.cursor.words

abbrev pub decreases-loop-cursor : goal.decreases-loop-cursor
decreases-loop-cursor l = length l.cursor.words
