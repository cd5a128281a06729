use Rattle.std.proofs.Common.{◌≡◌, take}
use Rattle.coda_walk.specs.Planning.{pinned_of}
use Rattle.coda_walk.proofs.taking.pinned.Given as goal

abbrev pub invariant-loop-item : goal.invariant-loop-item
invariant-loop-item l = l.fids.items ≡ (pinned_of (take l.item-index l.items)).kept
