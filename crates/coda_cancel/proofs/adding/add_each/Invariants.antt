use Rattle.std.proofs.Common.{◌≡◌, ◌+◌, ◌≤◌, ◌<◌, ◌^◌, ◌++◌, reverse}
use Rattle.std.specs.Vec.{vec_len, vec_capacity}
use Rattle.coda_cancel.specs.Cancel.{added}
use Rattle.coda_cancel.specs.Mentions.{IsIndexOf}
use Rattle.coda_cancel.specs.Numbers.{IsRising}
use Rattle.coda_cancel.specs.Joins.{joins_of}
use Rattle.coda_cancel.specs.Weights.{total_weight}
use Rattle.coda_cancel.proofs.adding.add_each.Given as goal

abbrev pub invariant-loop-rec : goal.invariant-loop-rec
invariant-loop-rec l = record {
  records : added l.shelf.records (reverse l.later.items) ≡ added l.fn.shelf.records l.fn.later.items;
  joins : l.joins.items ++ joins_of l.shelf.records (reverse l.later.items) ≡ l.fn.joins.items ++ joins_of l.fn.shelf.records l.fn.later.items;
  rising : IsRising (l.shelf.records ++ reverse l.later.items);
  indexed : IsIndexOf l.index (l.shelf.records ++ reverse l.later.items);
  weight : l.weight ≡ total_weight l.shelf.records;
  light : total_weight (l.shelf.records ++ reverse l.later.items) < 2 ^ 64;
  room : vec_len l.later ≤ l.shelf.room;
  joins_room : vec_len l.joins + vec_len l.later ≤ vec_capacity l.joins;
}

abbrev pub decreases-loop-rec : goal.decreases-loop-rec
decreases-loop-rec l = vec_len l.later
