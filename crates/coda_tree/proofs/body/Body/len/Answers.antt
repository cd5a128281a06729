use Rattle.std.proofs.Common.{◌<◌, sym, ◌∙◌, ap, subst}
use Rattle.std.specs.FinMap as map
use Rattle.coda_fid.specs.Fid.{root_of}
use Rattle.coda_tree.specs.Volume.{IsVolume}
use Rattle.coda_tree.specs.Slots.{Slotted, nodes_in}
use Rattle.coda_tree.proofs.Below.{depth_lt}
use Rattle.coda_tree.proofs.body.Body.len.Goals as goal

pub returns-clause-depth : goal.returns-clause-depth
returns-clause-depth c depth f at =
    let volume = subst (λ (b : Slotted). IsVolume (root_of b.number) (nodes_in b.slots)) c.self.view_is c.self.invariant.volume in
    let count = c.len.ensures ∙ ap (λ (b : Slotted). map.len (nodes_in b.slots)) c.self.view_is in
    subst (λ n. depth < n) (sym count) (depth_lt (nodes_in c.args.self.now.slots) volume depth f at)
