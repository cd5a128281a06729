use Rattle.std.proofs.Common.{sym, ap, ◌++◌, reverse}
use Rattle.coda_resolve.proofs.Stack.{absent_values, file_values, link_values}
use Rattle.coda_resolve.proofs.reached.push_bound.Goals as goal

pub returns-in_default : goal.returns-in_default
returns-in_default c = ap (λ fids. fids ++ reverse c.args.stack.items) (sym (absent_values c.args.copy c.in_default.is))

pub returns-in-File : goal.returns-in-File
returns-in-File c = ap (λ fids. fids ++ reverse c.args.stack.items) (sym (file_values c.args.copy c.in-Some.held c.in-Some.is c.in-File.field-0 c.in-File.is))

pub returns-in-Link : goal.returns-in-Link
returns-in-Link c = ap (λ fids. fids ++ reverse c.args.stack.items) (sym (link_values c.args.copy c.in-Some.held c.in-Some.is c.in-Link.field-0 c.in-Link.is))
