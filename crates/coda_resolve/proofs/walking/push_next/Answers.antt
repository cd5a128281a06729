use Rattle.std.proofs.Common.{◌++◌, reverse, sym, ap}
use Rattle.coda_resolve.proofs.Stack.{file_next, link_next}
use Rattle.coda_resolve.proofs.walking.push_next.Goals as goal

pub returns-in-File : goal.returns-in-File
returns-in-File c = ap (λ fids. fids ++ reverse c.args.stack.items) (sym (file_next c.args.fate.now c.in-Same.held c.in-File.field-0 c.in-Same.is c.in-File.is))

pub returns-in-Link : goal.returns-in-Link
returns-in-Link c = ap (λ fids. fids ++ reverse c.args.stack.items) (sym (link_next c.args.fate.now c.in-Same.held c.in-Link.field-0 c.in-Same.is c.in-Link.is))
