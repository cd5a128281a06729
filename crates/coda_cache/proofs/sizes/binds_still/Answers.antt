use Rattle.std.proofs.Common.{not, sym, ap, ◌∙◌}
use Rattle.std.proofs.lemmas.Bool.{both_ways}
use Rattle.coda_tree.specs.Volume.{bindings}
use Rattle.coda_cache.proofs.Sized.{still_bound, unbound_then}
use Rattle.coda_cache.proofs.sizes.binds_still.Goals as goal

pub returns-then-not-is_same_name : goal.returns-then-not-is_same_name
returns-then-not-is_same_name c =
    c.binds.ensures ∙ sym (still_bound (bindings c.args.kind.now) c.args.gone.now c.args.name.now (λ same. both_ways _ c.if-not-is_same_name.true (c.is_same_name.ensures.1 same)))

pub returns-else-not-is_same_name : goal.returns-else-not-is_same_name
returns-else-not-is_same_name c = ap not c.if-not-is_same_name.false ∙ unbound_then (bindings c.args.kind.now) c.args.gone.now c.args.name.now (c.is_same_name.ensures.0 c.if-not-is_same_name.false)
