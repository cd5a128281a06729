use Rattle.std.proofs.Common.{[], ◌∷◌, ap, ◌∙◌}
use Rattle.coda_cache.specs.State.{CacheState}
use Rattle.coda_cache.specs.Steps.{without}
use Rattle.coda_cache.proofs.Agreeing.{agree_out, agree_same}
use Rattle.coda_cache.proofs.Small.{small_taken, small_same}
use Rattle.coda_cache.proofs.contents.Contents.take_out.Goals as goal

pub invariant_of-self : goal.invariant_of-self
invariant_of-self c =
    record {
      agree = agree_same _ c.take_out.new.self _ c.take_out-2.new.self _ c.take_out-3.new.self c.take_out.ensures c.take_out-2.ensures c.take_out-3.ensures
          (agree_out c.self.inside.nodes c.self.inside.holds c.self.inside.recency c.self.invariant.agree c.args.fid);
      small = small_same _ _ c.take_out.ensures (small_taken c.self.inside.nodes (c.args.fid ∷ []) c.self.invariant.small);
    }

pub returns : goal.returns
returns c =
    (λ i. record { size = c.self.inside.size; nodes = c.take_out.ensures i; holds = c.take_out-2.ensures i; recency = c.take_out-3.ensures i; priorities = c.self.inside.priorities })
    ∙ ap (λ (s : CacheState). without s c.args.fid) c.self.view_is
