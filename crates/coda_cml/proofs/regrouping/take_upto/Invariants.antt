use Rattle.std.proofs.Common.{◌≡◌, ◌+◌, drop, length}
use Rattle.coda_cml.specs.Regrouping.{leading}
use Rattle.coda_cml.proofs.regrouping.take_upto.Given as goal

abbrev pub invariant-loop-record : goal.invariant-loop-record
invariant-loop-record l = record {
  same : l.count + leading l.number l.records ≡ leading l.number l.fn.records;
  left : l.records ≡ drop l.count l.fn.records;
  within : l.count + length l.records ≡ length l.fn.records;
}

abbrev pub decreases-loop-record : goal.decreases-loop-record
decreases-loop-record l = length l.records
