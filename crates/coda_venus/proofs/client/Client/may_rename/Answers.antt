use Rattle.std.proofs.Common.{rules}
use Rattle.coda_venus.proofs.Served.{steps_alike, bound_alike, replaced_alike}
use Rattle.coda_venus.proofs.client.Client.may_rename.Goals as goal
use Rattle.coda_venus.proofs.client.Client.may_rename.Goals.{then-ne-via-then-ne, then-ne-via-else-ne+then-is_none}

pub returns-then-ne-clause-no : goal.returns-then-ne-clause-no
returns-then-ne-clause-no c =
    let is = steps_alike c.args.self.now c.args.from_dir c.args.from.now c.step.result c.step.ensures in
    elim c.then-ne.branch [
      | then-ne-via-then-ne w ↦ search (rules, is)
      | then-ne-via-else-ne+then-is_none w ↦ search rules
    ]

pub returns-then-not-is_below-clause-yes : goal.returns-then-not-is_below-clause-yes
returns-then-not-is_below-clause-yes c =
    let is = steps_alike c.args.self.now c.args.from_dir c.args.from.now c.step.result c.step.ensures in
    let bound = bound_alike c.args.self.now c.args.to_dir c.args.to.now c.bound_at.result c.bound_at.ensures in
    let over = replaced_alike c.args.self.now c.args.fid c.in-Ok.bound c.replaced_by.result c.replaced_by.ensures in
    search (rules, is, bound, over)

pub returns-then-not-is_below-clause-no : goal.returns-then-not-is_below-clause-no
returns-then-not-is_below-clause-no c =
    let bound = bound_alike c.args.self.now c.args.to_dir c.args.to.now c.bound_at.result c.bound_at.ensures in
    let over = replaced_alike c.args.self.now c.args.fid c.in-Ok.bound c.replaced_by.result c.replaced_by.ensures in
    search (rules, bound, over)

pub returns-in-Err-clause-no : goal.returns-in-Err-clause-no
returns-in-Err-clause-no c =
    let bound = bound_alike c.args.self.now c.args.to_dir c.args.to.now c.bound_at.result c.bound_at.ensures in
    search (rules, bound)
