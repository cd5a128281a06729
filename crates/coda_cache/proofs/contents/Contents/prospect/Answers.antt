use Rattle.std.proofs.Common.{◌+◌, ◌-◌, cond, refl, ◌∙◌}
use Rattle.std.specs.FinMap as map
use Rattle.coda_cache.proofs.Foreseen.{foreseen}
use Rattle.coda_cache.proofs.contents.Contents.prospect.Goals as goal

pub returns : goal.returns
returns c = λ client.
    foreseen c.args.self.now client c.args.volume c.args.rec.now c.args.noted.now _ c.agree.ensures c.requires.may refl c.in_ok-set_of.ensures (λ f. c.in_ok-set_of-2.ensures f ∙ c.mentioned.ensures f) (λ f. c.in_ok-gone.ensures f ∙ c.requires.gone f)
    c.len.ensures.ordered c.new_node-made.ensures c.moved_node.ensures (c.in_ok-steps.ensures ∙ (λ i. (map.len c.args.self.now.holds - c.len.ensures.len i) + cond (c.is_some.ensures i) 1 0))
