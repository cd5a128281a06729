use Rattle.std.proofs.Common.{◌≡◌, ◌+◌, length}
use Rattle.coda_cancel.specs.Mentions.{AreAhead}
use Rattle.coda_cancel.specs.Numbers.{numbers, least}
use Rattle.coda_cancel.specs.Passing.{goes, undropped}
use Rattle.coda_cancel.specs.Weights.{total_weight}
use Rattle.coda_cancel.proofs.Walks.{upto, beyond}
use Rattle.coda_cancel.proofs.leaving.leaving_of.Given as goal

abbrev pub invariant-loop-number : goal.invariant-loop-number
invariant-loop-number l = record {
  ahead : AreAhead l.index l.fid l.after l.mentions;
  least : l.least ≡ least (numbers (goes l.cancelled l.op) (upto l.after l.shelf.records));
  count : l.count + length (undropped (goes l.cancelled l.op) (upto l.after l.shelf.records)) ≡ length (upto l.after l.shelf.records);
  weight : l.weight + total_weight (undropped (goes l.cancelled l.op) (upto l.after l.shelf.records)) ≡ total_weight (upto l.after l.shelf.records);
}

abbrev pub decreases-loop-number : goal.decreases-loop-number
decreases-loop-number l = length (beyond l.after l.shelf.records)
