use Rattle.std.proofs.Common.{◌≡◌, ◌++◌, take}
use Rattle.std.specs.List.{flat_map}
use Rattle.std.specs.Prelude.{string_bytes}
use Rattle.coda_report.specs.Texts.{hoard_line}
use Rattle.coda_report.proofs.outcomes.put_hoard_entries.Given as goal

abbrev pub invariant-loop-entry : goal.invariant-loop-entry
invariant-loop-entry l = string_bytes l.out ≡ string_bytes l.initial.out ++ flat_map hoard_line (take l.entry-index l.entries)
