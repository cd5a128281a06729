use Rattle.std.proofs.Common.{length, ap, ◌≡◌, arith}
use Rattle.coda_disk.specs.Memory.{state_of}
use Rattle.coda_disk.proofs.Writes.{placed_at, wrote_at, stopped_at, seen_wrote, seen_stopped, inside_wrote, inside_stopped, begins_inside}
use Rattle.coda_disk.proofs.memory.MemDiskDisk.write_at.Goals as goal

pub invariant_of-self-then-stopped : goal.invariant_of-self-then-stopped
invariant_of-self-then-stopped c =
    let disk = c.args.self.now in
    let end : c.len.result ≡ length (state_of disk.synced.items disk.calls.items).seen = omega (arith, c.len.ensures, ap length disk.seen) in
    let placed = placed_at c.len.result (length (state_of disk.synced.items disk.calls.items).seen) c.args.at c.args.bytes.now c.in-Ok.start c.in-Ok.written.items end c.in-Ok.ensures.inside c.in-Ok.ensures.past in
    let le = begins_inside (length (state_of disk.synced.items disk.calls.items).seen) c.args.at c.args.bytes.now c.in-Ok.start c.in-Ok.written.items placed in
    record {
      seen = seen_stopped disk.past disk.synced.items disk.calls.items _ disk.bytes.items c.in-Ok.start c.in-Ok.written disk.seen c.stop.ensures;
      inside = inside_stopped disk.past disk.synced.items disk.calls.items _ c.in-Ok.start c.in-Ok.written disk.inside c.stop.ensures le;
    }

pub returns-then-stopped-clause-written : goal.returns-then-stopped-clause-written
returns-then-stopped-clause-written c = λ h.
    let disk = c.args.self.now in
    let end : c.len.result ≡ length (state_of disk.synced.items disk.calls.items).seen = omega (arith, c.len.ensures, ap length disk.seen) in
    let placed = placed_at c.len.result (length (state_of disk.synced.items disk.calls.items).seen) c.args.at c.args.bytes.now c.in-Ok.start c.in-Ok.written.items end c.in-Ok.ensures.inside c.in-Ok.ensures.past in
    stopped_at disk.past disk.synced.items disk.calls.items _ h c.args.at c.args.bytes.now c.in-Ok.start c.in-Ok.written placed c.stop.ensures

pub invariant_of-self-else-not-write : goal.invariant_of-self-else-not-write
invariant_of-self-else-not-write c =
    let disk = c.args.self.now in
    let end : c.len.result ≡ length (state_of disk.synced.items disk.calls.items).seen = omega (arith, c.len.ensures, ap length disk.seen) in
    let placed = placed_at c.len.result (length (state_of disk.synced.items disk.calls.items).seen) c.args.at c.args.bytes.now c.in-Ok.start c.in-Ok.written.items end c.in-Ok.ensures.inside c.in-Ok.ensures.past in
    let le = begins_inside (length (state_of disk.synced.items disk.calls.items).seen) c.args.at c.args.bytes.now c.in-Ok.start c.in-Ok.written.items placed in
    record {
      seen = seen_wrote disk.past disk.synced.items disk.calls.items _ disk.bytes.items _ c.in-Ok.start c.in-Ok.written disk.seen c.if-not-write.ensures.0 c.if-not-write.ensures.1;
      inside = inside_wrote disk.past disk.synced.items disk.calls.items _ c.in-Ok.start c.in-Ok.written disk.inside c.if-not-write.ensures.0 le;
    }

pub returns-clause-written : goal.returns-clause-written
returns-clause-written c = λ h.
    let disk = c.args.self.now in
    let end : c.len.result ≡ length (state_of disk.synced.items disk.calls.items).seen = omega (arith, c.len.ensures, ap length disk.seen) in
    let placed = placed_at c.len.result (length (state_of disk.synced.items disk.calls.items).seen) c.args.at c.args.bytes.now c.in-Ok.start c.in-Ok.written.items end c.in-Ok.ensures.inside c.in-Ok.ensures.past in
    wrote_at disk.past disk.synced.items disk.calls.items _ h c.args.at c.args.bytes.now c.in-Ok.start c.in-Ok.written placed c.if-not-write.ensures.0
