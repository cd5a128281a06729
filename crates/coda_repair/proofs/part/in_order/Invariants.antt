use Rattle.std.proofs.Common.{◌≡◌}
use Rattle.coda_repair.proofs.part.in_order.Given as goal

abbrev pub invariant-loop-fid : goal.invariant-loop-fid
invariant-loop-fid l = l.items.items ≡ l.yielded
