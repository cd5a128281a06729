use Rattle.std.proofs.Common.{length, ◌-◌}
use Rattle.std.specs.Int.{w32}
use Rattle.coda_journal.specs.Reading.{IsReadTo}
use Rattle.coda_journal.proofs.entries.read_on.Given as goal

abbrev pub invariant-loop-entries : goal.invariant-loop-entries
invariant-loop-entries l = IsReadTo w32 l.bytes l.entries.used l.entries.payloads.items

abbrev pub decreases-loop-entries : goal.decreases-loop-entries
decreases-loop-entries l = length l.bytes - l.entries.used
