use Rattle.std.proofs.Common.{Option, is_some, sym, ap, ◌∙◌}
use Rattle.std.specs.FinMap as map
use Rattle.coda_fid.specs.declared.fid.Fid.{Fid}
use Rattle.coda_fid.specs.Name.{name_cmp}
use Rattle.coda_tree.specs.declared.node.NodeKind.{NodeKind}
use Rattle.coda_tree.specs.Volume.{bindings}
use Rattle.coda_cache.proofs.sizes.binds.Goals as goal

pub returns-in-File : goal.returns-in-File
returns-in-File c = sym (ap (λ (k : NodeKind). is_some (map.get (bindings k) c.args.name.now)) c.in-File.is ∙ ap (λ (o : Option Fid). is_some o) (map.get-empty name_cmp c.args.name.now))

pub returns-in-Link : goal.returns-in-Link
returns-in-Link c = sym (ap (λ (k : NodeKind). is_some (map.get (bindings k) c.args.name.now)) c.in-Link.is ∙ ap (λ (o : Option Fid). is_some o) (map.get-empty name_cmp c.args.name.now))
