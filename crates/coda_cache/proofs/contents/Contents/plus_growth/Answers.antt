use Rattle.std.proofs.Common.{◌≡◌, ◌+◌, ◌-◌, ◌∙◌, subst}
use Rattle.std.specs.Prelude.{IfOk}
use Rattle.coda_cache.proofs.contents.Contents.plus_growth.Goals as goal

pub returns : goal.returns
returns c = λ client n is. subst (λ k. IfOk c.plus.result (λ sum. sum ≡ c.args.blocks + k)) (c.saturating_sub-more.ensures ∙ (λ i. c.in_ok-after.ensures client n is i - c.blocks-2.ensures i)) c.plus.ensures
