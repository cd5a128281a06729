use Rattle.std.proofs.Common.{arith, subst}
use Rattle.coda_fid.specs.declared.op.Op.{Op}
use Rattle.coda_values.specs.Form.{four}
use Rattle.coda_values.specs.Spelling.{HasSpelling}
use Rattle.coda_values.specs.Table.{op}
use Rattle.coda_values.proofs.Spans.{target_small, content_small}
use Rattle.coda_values.proofs.lengths.length_of_op.Goals as goal

pub returns-in-Symlink-clause-small : goal.returns-in-Symlink-clause-small
returns-in-Symlink-clause-small c =
    let small = target_small c.in-Symlink.dir c.in-Symlink.name c.in-Symlink.fid c.in-Symlink.target c.in-Symlink.mode c.in-Symlink.owner (subst (λ (o : Op). HasSpelling (op four) o) c.in-Symlink.is c.requires) in
    omega (arith, small, c.len.ensures.count, c.length_of_name-in-Symlink.ensures.small)

pub returns-in-Store-clause-small : goal.returns-in-Store-clause-small
returns-in-Store-clause-small c =
    let small = content_small c.in-Store.fid c.in-Store.pre c.in-Store.content (subst (λ (o : Op). HasSpelling (op four) o) c.in-Store.is c.requires) in
    omega (arith, small, c.len-in-Store.ensures.count)
