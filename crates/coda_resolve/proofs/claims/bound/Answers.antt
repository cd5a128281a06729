use Rattle.std.proofs.Common.{sym, ap, ◌∙◌, option_copied}
use Rattle.std.specs.FinMap as finmap
use Rattle.coda_resolve.specs.Copies.{bindings_of}
use Rattle.coda_resolve.proofs.Bound.{nothing_bound, bound_file, bound_link}
use Rattle.coda_resolve.proofs.claims.bound.Goals as goal

pub returns-in_default : goal.returns-in_default
returns-in_default c = nothing_bound c.args.name.now ∙ ap (λ o. finmap.get (bindings_of (option_copied o)) c.args.name.now) (sym c.in_default.is)

pub returns-in-File : goal.returns-in-File
returns-in-File c = bound_file (option_copied c.args.copy) c.in-Some.held.now c.in-File.field-0 c.args.name.now (ap option_copied c.in-Some.is) c.in-File.is

pub returns-in-Link : goal.returns-in-Link
returns-in-Link c = bound_link (option_copied c.args.copy) c.in-Some.held.now c.in-Link.field-0 c.args.name.now (ap option_copied c.in-Some.is) c.in-Link.is
