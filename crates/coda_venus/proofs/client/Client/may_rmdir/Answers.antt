use Rattle.std.proofs.Common.{rules}
use Rattle.std.specs.BTreeMap as tree
use Rattle.std.specs.Ordering.{nat_cmp}
use Rattle.coda_venus.specs.Accepting.{is_mentioned}
use Rattle.coda_venus.specs.Code.{volume_in}
use Rattle.coda_venus.proofs.Served.{steps_alike, below_alike}
use Rattle.coda_venus.proofs.client.Client.may_rmdir.Goals as goal
use Rattle.coda_venus.proofs.client.Client.may_rmdir.Goals.{else-is_empty-via-then-is_empty+else-not-is_dirty_below, else-is_empty-via-else-is_empty}

pub returns-then-ne-clause-no : goal.returns-then-ne-clause-no
returns-then-ne-clause-no c =
    let is = steps_alike c.args.self.now c.args.dir c.args.name.now c.step.result c.step.ensures in
    search (rules, is)

pub returns-then-not-is_dirty_below-clause-yes : goal.returns-then-not-is_dirty_below-clause-yes
returns-then-not-is_dirty_below-clause-yes c =
    let is = steps_alike c.args.self.now c.args.dir c.args.name.now c.step.result c.step.ensures in
    let test = is_mentioned (volume_in (tree.get nat_cmp c.args.self.now.logs c.args.volume)) in
    let below = below_alike c.args.self.now test c.args.fid c.is_dirty_below.result c.is_dirty_below.ensures in
    search (rules, is, below)

pub returns-else-is_empty-clause-no : goal.returns-else-is_empty-clause-no
returns-else-is_empty-clause-no c = elim c.else-is_empty.branch [
  | else-is_empty-via-then-is_empty+else-not-is_dirty_below w ↦
      let test = is_mentioned (volume_in (tree.get nat_cmp c.args.self.now.logs c.args.volume)) in
      let below = below_alike c.args.self.now test c.args.fid w.is_dirty_below.result w.is_dirty_below.ensures in
      search (rules, below)
  | else-is_empty-via-else-is_empty w ↦ search rules
]
