use Rattle.std.proofs.Common.{arith}
use Rattle.coda_cancel.proofs.Places.{fewer_kept}
use Rattle.coda_cancel.proofs.shelf.Shelf.reserve.Goals as goal

pub overflow_sub-len : goal.overflow_sub-len
overflow_sub-len c = let few = fewer_kept c.self.inside.slots.items in omega (arith, few, c.len.ensures, c.self.invariant.counted)
