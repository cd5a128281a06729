use Rattle.std.proofs.Common.{sym, ap, ◌∙◌}
use Rattle.std.specs.Prelude.{nat_le}
use Rattle.std.specs.FinMap as finmap
use Rattle.coda_fid.specs.Name.{name_cmp}
use Rattle.coda_fid.specs.declared.fid.Fid.{Fid}
use Rattle.coda_tree.specs.Volume.{bindings}
use Rattle.coda_resolve.proofs.updated.binds.Goals as goal

pub returns-in-File : goal.returns-in-File
returns-in-File c = sym (ap (λ k. nat_le 1 (finmap.len (bindings k))) c.in-File.is ∙ ap (nat_le 1) (finmap.len-empty name_cmp Fid))

pub returns-in-Link : goal.returns-in-Link
returns-in-Link c = sym (ap (λ k. nat_le 1 (finmap.len (bindings k))) c.in-Link.is ∙ ap (nat_le 1) (finmap.len-empty name_cmp Fid))
