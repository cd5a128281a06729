use Rattle.std.proofs.Common.{sym, ap, ◌∙◌, is_some}
use Rattle.std.proofs.lemmas.Result.{on_ok_weaker}
use Rattle.coda_resolve.proofs.Bound.{named_already, name_added_as}
use Rattle.coda_resolve.proofs.claims.add_name.Goals as goal

pub returns-then-is_some : goal.returns-then-is_some
returns-then-is_some c = named_already c.args.names.now c.args.name.now (ap is_some (sym c.find.ensures) ∙ sym c.is_some.ensures ∙ c.if-is_some.true)

pub returns : goal.returns
returns c = on_ok_weaker c.insert.result (λ added n. name_added_as c.args.names.now c.insert.new.self c.in_ok-copy.copy c.args.name.now c.args.fid n added c.in_ok-copy.ensures) c.insert.ensures.ok
