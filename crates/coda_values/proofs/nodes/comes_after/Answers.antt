use Rattle.std.proofs.Common.{◌-◌, ap, sym, ◌∙◌}
use Rattle.std.specs.FinMap as map
use Rattle.std.specs.Ordering.{is_lt}
use Rattle.coda_values.proofs.LastName.{last_found}
use Rattle.coda_values.proofs.nodes.comes_after.Goals as goal

pub returns-in-Some : goal.returns-in-Some
returns-in-Some c =
    let at = c.saturating_sub.ensures ∙ ap (λ n. n - 1) (c.len.ensures ∙ map.len-entries c.args.before.now) in
    c.is_lt.ensures ∙ ap is_lt c.compare.ensures ∙ sym (last_found (map.entries c.args.before.now) c.saturating_sub.result (c.in-Some.greatest.now, c.in-Some.field-0-1) c.args.name.now at c.in-Some.ensures.pair)
