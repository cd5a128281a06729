use Rattle.std.proofs.Common.{◌≡◌, take}
use Rattle.coda_disk.specs.Images.{crashed_calls}
use Rattle.coda_disk.proofs.memory.MemDisk.image.Given as goal

abbrev pub invariant-loop-call : goal.invariant-loop-call
invariant-loop-call l = l.image.items ≡ crashed_calls l.choice l.self.synced.items (take l.call-index l.self.calls.items)
