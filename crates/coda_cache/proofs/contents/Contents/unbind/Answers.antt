use Rattle.std.proofs.Common.{refl, ap, ◌∙◌}
use Rattle.coda_tree.specs.Volume.{unbound, unbind_in}
use Rattle.coda_tree.proofs.Changes.{has_changed}
use Rattle.coda_cache.specs.State.{CacheState}
use Rattle.coda_cache.specs.Operating.{with_nodes}
use Rattle.coda_cache.proofs.Agreeing.{agree_same}
use Rattle.coda_cache.proofs.Changed.{agree_there, small_unbound}
use Rattle.coda_cache.proofs.Small.{small_same}
use Rattle.coda_cache.proofs.contents.Contents.unbind.Goals as goal

pub invariant_of-self : goal.invariant_of-self
invariant_of-self c =
    record {
      agree = agree_same _ c.unbind.new.self _ c.self.inside.holds _ c.self.inside.recency c.unbind.ensures refl refl
          (agree_there c.self.inside.nodes _ c.self.inside.holds c.self.inside.recency (λ q. has_changed c.self.inside.nodes c.args.dir (λ node. unbind_in node c.args.name.now) q) c.self.invariant.agree);
      small = small_same _ _ c.unbind.ensures (small_unbound c.self.inside.nodes c.args.dir c.args.name.now c.self.invariant.small);
    }

pub returns : goal.returns
returns c =
    (λ i. record { size = c.self.inside.size; nodes = c.unbind.ensures i; holds = c.self.inside.holds; recency = c.self.inside.recency; priorities = c.self.inside.priorities })
    ∙ ap (λ (s : CacheState). with_nodes s (unbound s.nodes c.args.dir c.args.name.now)) c.self.view_is
