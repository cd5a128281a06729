use Rattle.std.proofs.Common.{◌≡◌, ◌-◌, ◌<◌, ◌≤◌, drop, length, get_or}
use Rattle.coda_cancel.specs.declared.join.Join.{Join}
use Rattle.coda_cml.specs.Regrouping.{is_inside}
use Rattle.coda_cml.proofs.regrouping.is_inside.Given as goal

abbrev pub invariant-loop-low : goal.invariant-loop-low
invariant-loop-low l = record {
  ordered : l.low ≤ l.high;
  in_range : l.high ≤ length l.joins;
  passed : is_inside (drop l.low l.joins) l.number ≡ is_inside l.joins l.number;
  above : (d : Join) → l.high < length l.joins → l.number < (get_or l.joins l.high d).number;
}

abbrev pub decreases-loop-low : goal.decreases-loop-low
decreases-loop-low l = l.high - l.low
