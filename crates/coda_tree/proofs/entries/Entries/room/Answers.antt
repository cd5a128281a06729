use Rattle.std.proofs.Common.{arith}
use Rattle.coda_tree.proofs.Paged.{paged_len}
use Rattle.coda_tree.proofs.entries.Entries.room.Goals as goal

pub returns : goal.returns
returns c =
    let len = paged_len c.self.inside.pages.items c.self.inside.count c.args.self.now c.self.invariant c.self.view_is in
    let two = c.in-Some.ensures in
    let exact = c.in_ok-pairs.ensures.exact in
    grind (arith, len, two, exact)
