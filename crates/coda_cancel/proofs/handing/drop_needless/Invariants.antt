use Rattle.std.proofs.Common.{◌≡◌, ◌≤◌, ◌++◌, length}
use Rattle.coda_cancel.specs.Cancel.{kept, debt}
use Rattle.coda_cancel.specs.Dropping.{drops}
use Rattle.coda_cancel.specs.Handing.{nothing}
use Rattle.coda_cancel.specs.Mentions.{CoversUpTo, IsSameBeyond, last_number}
use Rattle.coda_cancel.specs.Numbers.{IsRising}
use Rattle.coda_cancel.specs.Passing.{owed_to}
use Rattle.coda_cancel.proofs.Walks.{upto, beyond}
use Rattle.coda_cancel.proofs.handing.drop_needless.Given as goal

abbrev pub invariant-loop-number : goal.invariant-loop-number
invariant-loop-number l = record {
  records : l.shelf.records ≡ kept (drops l.op) nothing (upto l.after l.fn.shelf.records) ++ beyond l.after l.fn.shelf.records;
  owed : owed_to l.fid l.owed ≡ debt (drops l.op) nothing (upto l.after l.fn.shelf.records);
  indexed : CoversUpTo (last_number l.fn.shelf.records) l.index l.shelf.records;
  past : IsSameBeyond (last_number l.fn.shelf.records) l.fn.index l.index;
  rising : IsRising l.shelf.records;
  room : l.fn.shelf.room ≤ l.shelf.room;
}

abbrev pub decreases-loop-number : goal.decreases-loop-number
decreases-loop-number l = length (beyond l.after l.fn.shelf.records)
