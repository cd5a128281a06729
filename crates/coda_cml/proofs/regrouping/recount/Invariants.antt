use Rattle.std.proofs.Common.{◌≡◌, ◌++◌, drop, take}
use Rattle.coda_cml.specs.Regrouping.{recounted}
use Rattle.coda_cml.proofs.regrouping.recount.Given as goal

abbrev pub invariant-loop-segment : goal.invariant-loop-segment
invariant-loop-segment l = record {
  done : take l.segment-index l.segments ++ recounted l.records (drop l.segment-index l.initial.segments) ≡ recounted l.initial.records l.initial.segments;
  rest : drop l.segment-index l.segments ≡ drop l.segment-index l.initial.segments;
}
