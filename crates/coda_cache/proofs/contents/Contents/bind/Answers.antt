use Rattle.std.proofs.Common.{◌<◌, ◌^◌, refl, sym, ap, ◌∙◌, subst}
use Rattle.coda_tree.specs.Volume.{bound, bind_in}
use Rattle.coda_tree.proofs.Changes.{has_changed}
use Rattle.coda_cache.specs.State.{CacheState, blocks_in}
use Rattle.coda_cache.proofs.Agreeing.{agree_same}
use Rattle.coda_cache.proofs.Changed.{agree_there, small_bound}
use Rattle.coda_cache.proofs.Small.{small_same}
use Rattle.coda_cache.proofs.contents.Contents.bind.Goals as goal

pub invariant_of-self-2 : goal.invariant_of-self-2
invariant_of-self-2 c =
    let m = c.self.inside.nodes in
    record {
      agree = agree_same _ c.bind.new.self _ c.self.inside.holds _ c.self.inside.recency c.in_ok-bind.ensures.ok refl refl
          (agree_there m _ c.self.inside.holds c.self.inside.recency (λ q. has_changed m c.args.dir (λ node. bind_in node c.args.name c.args.fid) q) c.self.invariant.agree);
      small = small_same _ _ c.in_ok-bind.ensures.ok (small_bound m c.args.dir c.args.name c.args.fid c.self.invariant.small (subst (λ n. n < 2 ^ 32) (c.in_ok-blocks_with_one_more.ensures c.args.name c.args.fid c.requires.free ∙ ap (λ (s : CacheState). blocks_in (bound s.nodes c.args.dir c.args.name c.args.fid) c.args.dir) (sym c.self.view_is)) c.counted.ensures));
    }
