use Rattle.std.proofs.Common.{◌≡◌, ℕ, ◌||◌, length}
use Rattle.coda_fid.specs.declared.fid.Fid.{Fid}
use Rattle.coda_cancel.specs.Mentions.{has, is_mentioned}
use Rattle.coda_cancel.proofs.indexing.note_all.Given as goal

abbrev pub invariant-loop-record : goal.invariant-loop-record
invariant-loop-record l = (f : Fid) (n : ℕ) → (has l.index f n || is_mentioned l.records f n) ≡ (has l.fn.index f n || is_mentioned l.fn.records f n)

abbrev pub decreases-loop-record : goal.decreases-loop-record
decreases-loop-record l = length l.records
