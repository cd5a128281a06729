use Rattle.std.proofs.Common.{false, List, sym, subst}
use Rattle.coda_fid.specs.declared.fid.Fid.{Fid}
use Rattle.coda_tree.specs.declared.binders.Bound.{Bound}
use Rattle.coda_tree.specs.Binders.{bound_in, bound_at, known_at, SaysNoMore}
use Rattle.coda_tree.proofs.Keyed.{kept_at}
use Rattle.coda_tree.proofs.Known.{refused_at}
use Rattle.coda_tree.proofs.binders.Binders.keep.Goals as goal

pub returns-in-Err : goal.returns-in-Err
returns-in-Err c =
    subst (λ (l : List (Fid × Bound)). (q : Fid) → SaysNoMore (known_at c.args.fid c.args.bound q (bound_at c.args.self.now q)) (bound_in false (kept_at l q))) (sym c.in-Err.ensures.err)
    (refused_at c.args.self.now.kept.entries c.args.self.now.whole c.args.fid c.args.bound c.in-Err.ensures.absent)
