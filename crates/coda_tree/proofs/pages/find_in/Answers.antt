use Rattle.std.proofs.Common.{sym}
use Rattle.coda_tree.proofs.Pairs.{find_at, find_gap}
use Rattle.coda_tree.proofs.pages.find_in.Goals as goal

pub returns-in-Ok : goal.returns-in-Ok
returns-in-Ok c = sym (find_at c.args.page.now c.args.name.now c.in-Ok.at c.index-page-at.result c.requires c.in-Ok.ensures.found)

pub returns-in-Err : goal.returns-in-Err
returns-in-Err c = sym (find_gap c.args.page.now c.args.name.now c.in-Err.field-0 c.in-Err.ensures.absent)
