use Rattle.std.proofs.Common.{sym, ap, ◌∙◌}
use Rattle.std.specs.FinMap as map
use Rattle.coda_fid.specs.declared.fid.Fid.{Fid}
use Rattle.coda_fid.specs.Name.{name_cmp}
use Rattle.coda_tree.specs.declared.node.NodeKind.{NodeKind}
use Rattle.coda_tree.specs.Volume.{bindings}
use Rattle.coda_cache.proofs.sizes.names.Goals as goal

pub returns-in-File : goal.returns-in-File
returns-in-File c = sym (ap (λ (k : NodeKind). map.len (bindings k)) c.in-File.is ∙ map.len-empty name_cmp Fid)

pub returns-in-Link : goal.returns-in-Link
returns-in-Link c = sym (ap (λ (k : NodeKind). map.len (bindings k)) c.in-Link.is ∙ map.len-empty name_cmp Fid)
