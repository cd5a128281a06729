use Rattle.std.proofs.Common.{◌≡◌, ◌+◌, cond, sym, ap, ◌∙◌, subst}
use Rattle.std.specs.Prelude.{IfOk}
use Rattle.std.specs.FinMap as map
use Rattle.coda_tree.specs.Volume.{bindings}
use Rattle.coda_cache.proofs.Sized.{len_with}
use Rattle.coda_cache.proofs.sizes.names_with.Goals as goal

pub returns-then-binds : goal.returns-then-binds
returns-then-binds c = λ f.
    let m = bindings c.args.kind.now in
    c.names-count.ensures ∙ sym (len_with m c.args.name.now f c.binds.result c.binds.ensures ∙ ap (λ b. cond b (map.len m) (map.len m + 1)) c.if-binds.true)

pub returns-else-binds : goal.returns-else-binds
returns-else-binds c = λ f.
    let m = bindings c.args.kind.now in
    subst (λ k. IfOk c.one_more.result (λ n. n ≡ k)) (ap (λ n. n + 1) c.names-count.ensures ∙ sym (len_with m c.args.name.now f c.binds.result c.binds.ensures ∙ ap (λ b. cond b (map.len m) (map.len m + 1)) c.if-binds.false)) c.one_more.ensures
