use Rattle.std.proofs.Common.{◌≡◌, ◌++◌, take}
use Rattle.std.specs.List.{AllByRecursion}
use Rattle.coda_record.specs.Spelling.{HasSpelling}
use Rattle.coda_record.specs.Table as table
use Rattle.coda_venus.specs.History.{bytes_of_entries}
use Rattle.coda_venus.specs.Rounds.{dropping}
use Rattle.coda_venus.proofs.entries.put_drops.Given as goal

abbrev pub invariant-loop-fid : goal.invariant-loop-fid
invariant-loop-fid l = record {
  bytes : l.out.items ≡ l.fn.out.items ++ bytes_of_entries (dropping (take l.fid-index l.gone));
  spelled : AllByRecursion (HasSpelling table.fid) (take l.fid-index l.gone);
}
