use Rattle.std.proofs.Common.{rules}
use Rattle.coda_journal.specs.Lengths.{length_bytes}
use Rattle.coda_journal.proofs.frame.Frame.new.Goals as goal

pub returns : goal.returns
unfolding length_bytes
returns c = search rules
