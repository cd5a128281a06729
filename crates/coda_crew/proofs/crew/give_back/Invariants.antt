use Rattle.std.proofs.Common.{◌≡◌}
use Rattle.std.specs.BTreeMap.{btree_map_len}
use Rattle.coda_crew.specs.Crews.{sum_all}
use Rattle.coda_crew.proofs.Giving.{Giving}
use Rattle.coda_crew.proofs.crew.give_back.Given as goal

abbrev pub decreases-loop-number : goal.decreases-loop-number
decreases-loop-number g l = btree_map_len l.slots

abbrev pub invariant-loop-number : goal.invariant-loop-number
invariant-loop-number g l = record {
  giving : Giving g.A.Actor.form g.B.D.Disk.told (g.B.Bay.out l.fn.bay) (g.B.Bay.out l.bay) (g.B.Bay.has l.fn.bay) (g.B.Bay.has l.bay) l.fn.slots l.slots;
  answered : g.B.Bay.answered l.bay ≡ g.B.Bay.answered l.fn.bay;
  disk_faults : sum_all g.A.Actor.form g.B.D.Disk.faults l.slots.entries (g.B.Bay.disk_faults l.bay) ≡ sum_all g.A.Actor.form g.B.D.Disk.faults l.fn.slots.entries (g.B.Bay.disk_faults l.fn.bay);
  disk_arms : sum_all g.A.Actor.form g.B.D.Disk.arms l.slots.entries (g.B.Bay.disk_arms l.bay) ≡ sum_all g.A.Actor.form g.B.D.Disk.arms l.fn.slots.entries (g.B.Bay.disk_arms l.fn.bay);
  faults : g.B.Bay.faults l.bay ≡ g.B.Bay.faults l.fn.bay;
  follows : g.B.Bay.follows l.fn.bay l.bay;
}
