use Rattle.std.proofs.Common.{refl, ap, ◌∙◌}
use Rattle.coda_tree.specs.Volume.{changed, written, attrs_patch}
use Rattle.coda_tree.proofs.Changes.{has_changed}
use Rattle.coda_cache.specs.State.{CacheState}
use Rattle.coda_cache.specs.Operating.{with_nodes}
use Rattle.coda_cache.proofs.Agreeing.{agree_same}
use Rattle.coda_cache.proofs.Changed.{agree_there, small_set}
use Rattle.coda_cache.proofs.Small.{small_same}
use Rattle.coda_cache.proofs.contents.Contents.set_attributes.Goals as goal

pub invariant_of-self : goal.invariant_of-self
invariant_of-self c =
    record {
      agree = agree_same _ c.set_attributes.new.self _ c.self.inside.holds _ c.self.inside.recency c.set_attributes.ensures refl refl
          (agree_there c.self.inside.nodes _ c.self.inside.holds c.self.inside.recency (λ q. has_changed c.self.inside.nodes c.args.fid (written (attrs_patch c.args.attrs.now) c.args.sid) q) c.self.invariant.agree);
      small = small_same _ _ c.set_attributes.ensures (small_set c.self.inside.nodes c.args.fid c.args.attrs.now c.args.sid c.self.invariant.small);
    }

pub returns : goal.returns
returns c =
    (λ i. record { size = c.self.inside.size; nodes = c.set_attributes.ensures i; holds = c.self.inside.holds; recency = c.self.inside.recency; priorities = c.self.inside.priorities })
    ∙ ap (λ (s : CacheState). with_nodes s (changed s.nodes c.args.fid (written (attrs_patch c.args.attrs.now) c.args.sid))) c.self.view_is
