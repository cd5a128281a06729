use Rattle.std.proofs.Common.{sym, ap, ◌∙◌, subst}
use Rattle.coda_tree.specs.Volume.{Nodes}
use Rattle.coda_tree.specs.Slots.{Slotted, IsWhole}
use Rattle.coda_tree.specs.Drafted.{with_nodes, committed}
use Rattle.coda_tree.specs.Drafts.{drafted}
use Rattle.coda_tree.specs.Volumes.{seen}
use Rattle.coda_tree.proofs.UndoneAll.{whole_purged_all, nodes_purged_all}
use Rattle.coda_tree.proofs.draft.Draft.commit.Goals as goal

pub from_body-requires : goal.from_body-requires
from_body-requires c = subst (λ (b : Slotted). IsWhole b.slots) (sym c.purge_all.ensures) (whole_purged_all c.self.inside.body.slots c.self.inside.undos.items c.self.invariant.empties)

pub returns : goal.returns
returns c =
    c.from_body.ensures ∙ ap seen c.purge_all.ensures
    ∙ ap (λ (m : Nodes). committed (with_nodes (drafted c.self.inside.body c.self.inside.undos.items) m)) (nodes_purged_all c.self.inside.body.slots c.self.inside.undos.items) ∙ ap committed c.self.view_is
