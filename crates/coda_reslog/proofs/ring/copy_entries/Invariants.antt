use Rattle.std.proofs.Common.{◌≡◌, take}
use Rattle.coda_reslog.proofs.ring.copy_entries.Given as goal

-- the first entries were copied
abbrev pub invariant-loop-index : goal.invariant-loop-index
invariant-loop-index l = record {
  copied : l.copies.items ≡ take l.index l.entries.items;
  room : l.copies.capacity ≡ 256;
}
