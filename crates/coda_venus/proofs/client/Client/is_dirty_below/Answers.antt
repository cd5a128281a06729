use Rattle.std.proofs.Common.{sym}
use Rattle.std.specs.BTreeMap as tree
use Rattle.std.specs.Ordering.{nat_cmp}
use Rattle.coda_venus.specs.Accepting.{is_mentioned}
use Rattle.coda_venus.specs.Caching.{served_held}
use Rattle.coda_venus.specs.Code.{volume_in}
use Rattle.coda_venus.proofs.Childless.{none_below}
use Rattle.coda_venus.proofs.client.Client.is_dirty_below.Goals as goal

pub returns-else-has_below : goal.returns-else-has_below
returns-else-has_below c = sym (none_below (served_held c.args.emulating c.args.self.now) (is_mentioned (volume_in (tree.get nat_cmp c.args.self.now.logs c.args.volume))) c.args.above (c.has_below.ensures.no c.if-has_below.false))
