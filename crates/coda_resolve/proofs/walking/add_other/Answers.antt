use Rattle.std.proofs.Common.{subst, sym, ◌++◌, ◌∷◌, []}
use Rattle.coda_resolve.specs.Survey.{AreOthersBut}
use Rattle.coda_resolve.proofs.Others.{alike_more, other_more}
use Rattle.coda_resolve.proofs.walking.add_other.Goals as goal

pub returns-then-stays : goal.returns-then-stays
returns-then-stays c = λ views changed fids is are. alike_more views changed fids c.args.others.now.items c.args.fid (is.1 c.if-stays.true) are

pub returns : goal.returns
returns c = λ views changed fids is are.
    subst (AreOthersBut views changed (fids ++ c.args.fid ∷ [])) (sym c.in_ok-push.ensures.items)
    (other_more views changed fids c.args.others.now.items c.args.fid c.args.fate is.0 are)
