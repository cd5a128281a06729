use Rattle.std.proofs.Common.{◌≡◌, ◌+◌, cond, sym, ap, ◌∙◌, subst}
use Rattle.std.specs.Prelude.{IfOk}
use Rattle.coda_cache.specs.State.{blocks_at}
use Rattle.coda_cache.proofs.contents.Contents.plus_unless_ahead.Goals as goal

pub returns-in_ok-more : goal.returns-in_ok-more
returns-in_ok-more c = λ client n is.
    subst (λ k. IfOk c.plus.result (λ sum. sum ≡ c.args.blocks + k)) (c.in_ok-more.ensures client n is ∙ sym (ap (λ b. cond b 0 (blocks_at n c.args.fid)) (sym c.contains.ensures ∙ c.if-contains.false))) c.plus.ensures
