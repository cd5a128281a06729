use Rattle.std.proofs.Common.{◌≡◌, ◌+◌, cond, sym, ap, ◌∙◌, subst}
use Rattle.std.specs.Prelude.{IfOk}
use Rattle.std.specs.FinMap as map
use Rattle.coda_tree.specs.Volume.{bindings}
use Rattle.coda_cache.proofs.Sized.{len_with}
use Rattle.coda_cache.proofs.sizes.names_renamed.Goals as goal

pub returns-then-binds_still : goal.returns-then-binds_still
returns-then-binds_still c = λ f.
    let m = map.remove (bindings c.args.kind.now) c.args.from.now in
    c.names_without-count.ensures ∙ sym (len_with m c.args.to.now f c.binds_still.result c.binds_still.ensures ∙ ap (λ b. cond b (map.len m) (map.len m + 1)) c.if-binds_still.true)

pub returns-else-binds_still : goal.returns-else-binds_still
returns-else-binds_still c = λ f.
    let m = map.remove (bindings c.args.kind.now) c.args.from.now in
    subst (λ k. IfOk c.one_more.result (λ n. n ≡ k)) (ap (λ n. n + 1) c.names_without-count.ensures ∙ sym (len_with m c.args.to.now f c.binds_still.result c.binds_still.ensures ∙ ap (λ b. cond b (map.len m) (map.len m + 1)) c.if-binds_still.false)) c.one_more.ensures
