use Rattle.std.proofs.Common.{◌↔◌, subst, sym}
use Rattle.std.specs.Prelude.{IsTrue}
use Rattle.std.specs.List.{Contains}
use Rattle.coda_fid.specs.Op.{fids_of}
use Rattle.coda_fid.proofs.Fids.{mentioned}
use Rattle.coda_fid.proofs.op.Op.mentions.Goals as goal

pub returns-clause-among : goal.returns-clause-among
returns-clause-among c = subst (λ b. IsTrue b ↔ Contains (fids_of c.args.self.now) c.args.fid) (sym c.names.ensures) (mentioned c.args.self.now c.args.fid)
