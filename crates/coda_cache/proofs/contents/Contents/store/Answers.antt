use Rattle.std.proofs.Common.{refl, ap, ◌∙◌}
use Rattle.coda_tree.specs.Volume.{changed, written, content_patch}
use Rattle.coda_tree.proofs.Changes.{has_changed}
use Rattle.coda_cache.specs.State.{CacheState}
use Rattle.coda_cache.specs.Operating.{with_nodes}
use Rattle.coda_cache.proofs.Agreeing.{agree_same}
use Rattle.coda_cache.proofs.Changed.{agree_there, small_stored}
use Rattle.coda_cache.proofs.Small.{small_same}
use Rattle.coda_cache.proofs.contents.Contents.store.Goals as goal

pub invariant_of-self : goal.invariant_of-self
invariant_of-self c =
    record {
      agree = agree_same _ c.store.new.self _ c.self.inside.holds _ c.self.inside.recency c.store.ensures refl refl
          (agree_there c.self.inside.nodes _ c.self.inside.holds c.self.inside.recency (λ q. has_changed c.self.inside.nodes c.args.fid (written (content_patch c.args.content c.args.mtime) c.args.sid) q) c.self.invariant.agree);
      small = small_same _ _ c.store.ensures (small_stored c.self.inside.nodes c.args.fid c.args.content c.args.mtime c.args.sid c.self.invariant.small c.requires);
    }

pub returns : goal.returns
returns c =
    (λ i. record { size = c.self.inside.size; nodes = c.store.ensures i; holds = c.self.inside.holds; recency = c.self.inside.recency; priorities = c.self.inside.priorities })
    ∙ ap (λ (s : CacheState). with_nodes s (changed s.nodes c.args.fid (written (content_patch c.args.content c.args.mtime) c.args.sid))) c.self.view_is
