use Rattle.std.proofs.Common.{subst}
use Rattle.std.specs.FinMap as finmap
use Rattle.coda_resolve.specs.Renewals.{IsRenewal, left_at}
use Rattle.coda_resolve.proofs.Renewing.{stays, comes}
use Rattle.coda_resolve.proofs.part.add_renewal.Goals as goal

pub returns-in_default : goal.returns-in_default
returns-in_default c = λ views view objects is are. stays views view objects c.args.held.now c.args.touched.now.items c.args.fid are (subst (IsRenewal (finmap.get view c.args.fid) (left_at views view c.args.fid)) c.in_default.is is)

pub returns : goal.returns
returns c = λ views view objects is are. comes views view objects c.args.held.now c.args.touched.now.items c.args.fid are c.insert.new.self c.add_where.new.fids.items c.in-Some.renewal (subst (IsRenewal (finmap.get view c.args.fid) (left_at views view c.args.fid)) c.in-Some.is is) c.in_ok-insert.ensures.updates c.in_ok-add_where.ensures
