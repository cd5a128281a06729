use Rattle.std.proofs.Common.{sym, ◌∙◌}
use Rattle.coda_tree.specs.Volume.{child, unbound}
use Rattle.coda_tree.proofs.Changes.{unbound_here, unbound_else}
use Rattle.coda_tree.proofs.Known.{at_place}
use Rattle.coda_tree.proofs.nodes.NodeMap.child_elsewhere.Goals as goal

pub returns-then-is_same_place : goal.returns-then-is_same_place
returns-then-is_same_place c =
    let bare = child (unbound c.args.self.now c.args.other c.args.taken.now) in
    sym (at_place bare c.args.dir c.args.other c.args.name.now c.args.taken.now (c.is_same_place.ensures.0 c.if-is_same_place.true) ∙ unbound_here c.args.self.now c.args.other c.args.taken.now)

pub returns : goal.returns
returns c =
    c.child.ensures
    ∙ sym (unbound_else c.args.self.now c.args.other c.args.taken.now c.args.dir c.args.name.now (λ same. let is = c.is_same_place.ensures.1 same in let differs = c.if-is_same_place.false in cc))
