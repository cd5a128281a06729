use Rattle.std.proofs.Common.{◌≡◌, ◌++◌, take}
use Rattle.std.specs.List.{flat_map}
use Rattle.std.specs.Prelude.{string_bytes}
use Rattle.coda_report.specs.Texts.{mark_line}
use Rattle.coda_report.proofs.outcomes.put_marks.Given as goal

abbrev pub invariant-loop-mark : goal.invariant-loop-mark
invariant-loop-mark l = string_bytes l.out ≡ string_bytes l.initial.out ++ flat_map mark_line (take l.mark-index l.marks)
