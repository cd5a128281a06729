use Rattle.std.proofs.Common.{◌≡◌, None, subst}
use Rattle.coda_certify.specs.Checks.{rename_checks, first_reason}
use Rattle.coda_certify.proofs.Passed.{may_replace}
use Rattle.coda_certify.proofs.effects.rename.Goals as goal

pub replace-requires-clause-may : goal.replace-requires-clause-may
replace-requires-clause-may c =
    let m = c.args.draft.now.nodes in
    (may_replace m c.args.from_dir c.args.from.now c.args.to_dir c.args.to.now c.args.fid c.in-Some.over
    (subst (λ o. first_reason m (rename_checks c.args.from_dir c.args.from.now c.args.to_dir c.args.to.now c.args.fid o) ≡ None) c.in-Some.is c.requires)).0
