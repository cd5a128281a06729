use Rattle.std.proofs.Common.{◌≡◌, ◌++◌, drop}
use Rattle.std.specs.Prelude.{string_bytes}
use Rattle.coda_cml.specs.Partition.{ArePartedBy}
use Rattle.coda_report.specs.LogTexts.{segments_text}
use Rattle.coda_report.proofs.logs.put_segments.Given as goal

abbrev pub invariant-loop-segment : goal.invariant-loop-segment
invariant-loop-segment l = record {
  text : string_bytes l.out ++ segments_text l.word (drop l.segment-index l.segments) l.records ≡ string_bytes l.initial.out ++ segments_text l.word l.segments l.fn.records;
  parted : ArePartedBy (drop l.segment-index l.segments) l.records;
}
