use Rattle.std.proofs.Common.{◌++◌, ◌∷◌, [], ap, ◌∙◌}
use Rattle.coda_walk.specs.declared.item.Item.{Item}
use Rattle.coda_cache.proofs.contents.Contents.push_item.Goals as goal

pub returns : goal.returns
returns c = λ client n is are. c.in_ok-push.ensures.items ∙ ap (λ (i : Item). c.args.items.now.items ++ i ∷ []) (c.in_ok-item.ensures client n is are)
