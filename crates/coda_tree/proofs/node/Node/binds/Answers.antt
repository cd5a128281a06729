use Rattle.std.proofs.Common.{◌≡◌, Some, false, sym, ap, ◌∙◌}
use Rattle.std.specs.FinMap as map
use Rattle.std.proofs.lemmas.Option.{none-some}
use Rattle.coda_fid.specs.Name.{name_cmp}
use Rattle.coda_tree.specs.Bindings.{Name}
use Rattle.coda_tree.specs.declared.node.NodeKind.{NodeKind}
use Rattle.coda_tree.specs.Volume.{bindings}
use Rattle.coda_tree.proofs.Parents.{binds_test}
use Rattle.coda_tree.proofs.node.Node.binds.Goals as goal

pub returns-in-Dir : goal.returns-in-Dir
returns-in-Dir c =
    let same : (n : Name) → map.get (bindings c.args.self.now.kind) n ≡ map.get c.in-Dir.entries n = λ n. ap (λ (k : NodeKind). map.get (bindings k) n) c.in-Dir.is in
    binds_test (Some c.args.self.now) c.args.fid c.binds.result (λ yes_. let found = c.binds.ensures.some yes_ in (found.0, same found.0 ∙ found.1)) (λ no_ n h. c.binds.ensures.none no_ n (sym (same n) ∙ h))

pub returns-in-File : goal.returns-in-File
returns-in-File c = binds_test (Some c.args.self.now) c.args.fid false (λ h. cc) (λ _ n h. none-some c.args.fid (sym (map.get-empty name_cmp n) ∙ sym (ap (λ (k : NodeKind). map.get (bindings k) n) c.in-File.is) ∙ h))

pub returns-in-Link : goal.returns-in-Link
returns-in-Link c = binds_test (Some c.args.self.now) c.args.fid false (λ h. cc) (λ _ n h. none-some c.args.fid (sym (map.get-empty name_cmp n) ∙ sym (ap (λ (k : NodeKind). map.get (bindings k) n) c.in-Link.is) ∙ h))
