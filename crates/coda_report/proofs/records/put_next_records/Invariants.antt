use Rattle.std.proofs.Common.{◌≡◌, ◌++◌, take, drop}
use Rattle.std.specs.List.{flat_map}
use Rattle.std.specs.Prelude.{string_bytes}
use Rattle.coda_report.specs.Records.{record_line}
use Rattle.coda_report.proofs.records.put_next_records.Given as goal

abbrev pub invariant-loop-left : goal.invariant-loop-left
invariant-loop-left l = record {
  text : string_bytes l.out ++ flat_map record_line (take l.left l.records) ≡ string_bytes l.fn.out ++ flat_map record_line (take l.count l.fn.records);
  rest : drop l.left l.records ≡ drop l.count l.fn.records;
}

abbrev pub decreases-loop-left : goal.decreases-loop-left
decreases-loop-left l = l.left
