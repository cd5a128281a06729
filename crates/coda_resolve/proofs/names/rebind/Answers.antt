use Rattle.std.proofs.Common.{cond, refl, sym, ap, ◌∙◌}
use Rattle.std.specs.FinMap as finmap
use Rattle.std.specs.Ordering.{eq_by_cmp}
use Rattle.std.proofs.lemmas.Result.{on_ok_weaker}
use Rattle.coda_fid.specs.Name.{name_cmp}
use Rattle.coda_resolve.proofs.Rebound.{unbound_now, bound_now}
use Rattle.coda_resolve.proofs.names.rebind.Goals as goal

pub returns-in_default : goal.returns-in_default
returns-in_default c = λ n. unbound_now c.args.entries.now c.remove.new.self c.args.name.now c.remove.ensures n ∙ ap (λ o. cond (eq_by_cmp name_cmp n c.args.name.now) o (finmap.get c.args.entries.now n)) (sym c.in_default.is)

pub returns-then-is_some : goal.returns-then-is_some
returns-then-is_some c = λ n. bound_now c.args.entries.now c.rebind.new.self c.args.name.now c.args.name.now c.in-Some.fid c.rebind.ensures refl n ∙ ap (λ o. cond (eq_by_cmp name_cmp n c.args.name.now) o (finmap.get c.args.entries.now n)) (sym c.in-Some.is)

pub returns : goal.returns
returns c = on_ok_weaker c.insert.result (λ added n. bound_now c.args.entries.now c.insert.new.self c.in_ok-copy.copy c.args.name.now c.in-Some.fid added c.in_ok-copy.ensures n ∙ ap (λ o. cond (eq_by_cmp name_cmp n c.args.name.now) o (finmap.get c.args.entries.now n)) (sym c.in-Some.is)) c.insert.ensures.ok
