use Rattle.std.proofs.Common.{◌-◌, cond, sym, ap, ◌∙◌}
use Rattle.std.specs.FinMap as map
use Rattle.coda_tree.specs.Volume.{bindings}
use Rattle.coda_cache.proofs.Sized.{len_without}
use Rattle.coda_cache.proofs.sizes.names_without.Goals as goal

pub returns-then-binds : goal.returns-then-binds
returns-then-binds c =
    let m = bindings c.args.kind.now in
    c.saturating_sub.ensures ∙ ap (λ n. n - 1) c.names-count.ensures ∙ sym (len_without m c.args.name.now c.binds.result c.binds.ensures ∙ ap (λ b. cond b (map.len m - 1) (map.len m)) c.if-binds.true)

pub returns-else-binds : goal.returns-else-binds
returns-else-binds c =
    let m = bindings c.args.kind.now in
    c.names-count.ensures ∙ sym (len_without m c.args.name.now c.binds.result c.binds.ensures ∙ ap (λ b. cond b (map.len m - 1) (map.len m)) c.if-binds.false)
