use Rattle.std.proofs.Common.{◌≡◌, ◌-◌, ◌+◌, ◌≤◌, false, length, take, drop, if◌then◌else◌}
use Rattle.std.specs.Int.{w32}
use Rattle.coda_journal.specs.Entries.{IsBroken}
use Rattle.coda_journal.specs.Quiet.{Quiet}
use Rattle.coda_journal.specs.Reading.{IsReadTo, IsFirst}
use Rattle.coda_journal.proofs.pieces.read_entries.Given as goal

abbrev pub invariant-loop-more : goal.invariant-loop-more
invariant-loop-more g l = record {
  inside : length l.bytes.items ≤ l.area;
  so_far : IsReadTo w32 l.bytes.items l.entries.used l.entries.payloads.items;
  broken : l.more ≡ false → IsBroken w32 l.bytes.items l.entries.used;
  quiet : (g.D.Disk.told l.initial.disk).honest → Quiet (g.D.Disk.told l.initial.disk) (g.D.Disk.told l.disk);
  first : (g.D.Disk.told l.initial.disk).honest → IsFirst (take l.area (drop l.start (g.D.Disk.told l.initial.disk).seen)) l.bytes.items l.more;
  later : g.D.Disk.faults l.initial.disk ≤ g.D.Disk.faults l.disk;
  arms : g.D.Disk.arms l.disk ≡ g.D.Disk.arms l.initial.disk;
}

abbrev pub decreases-loop-more : goal.decreases-loop-more
decreases-loop-more g l = l.area - length l.bytes.items + (if l.more then 1 else 0)
