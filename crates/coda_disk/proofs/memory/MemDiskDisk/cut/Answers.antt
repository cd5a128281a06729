use Rattle.coda_disk.proofs.Writes.{was_cut_at, seen_cut, inside_cut}
use Rattle.coda_disk.proofs.memory.MemDiskDisk.cut.Goals as goal

pub invariant_of-self-2 : goal.invariant_of-self-2
invariant_of-self-2 c =
    let disk = c.args.self.now in
    record {
      seen = seen_cut disk.past disk.synced.items disk.calls.items _ disk.bytes.items _ c.args.size disk.seen c.if-not-keep.ensures c.truncate.ensures.items;
      inside = inside_cut disk.past disk.synced.items disk.calls.items _ c.args.size disk.inside c.if-not-keep.ensures;
    }

pub returns-clause-was_cut : goal.returns-clause-was_cut
returns-clause-was_cut c = λ h.
    let disk = c.args.self.now in
    was_cut_at disk.past disk.synced.items disk.calls.items _ h c.args.size c.if-not-keep.ensures
