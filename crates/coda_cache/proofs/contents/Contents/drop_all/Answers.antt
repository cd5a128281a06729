use Rattle.std.proofs.Common.{ap, ◌∙◌}
use Rattle.coda_cache.specs.State.{CacheState}
use Rattle.coda_cache.specs.Steps.{dropped}
use Rattle.coda_cache.proofs.Agreeing.{agree_same}
use Rattle.coda_cache.proofs.Taken.{agree_taken}
use Rattle.coda_cache.proofs.Small.{small_taken, small_same}
use Rattle.coda_cache.proofs.contents.Contents.drop_all.Goals as goal

pub invariant_of-self : goal.invariant_of-self
invariant_of-self c =
    record {
      agree = agree_same _ c.take_out_all.new.nodes _ c.take_out_all.new.holds _ c.take_out_all.new.recency c.take_out_all.ensures.nodes c.take_out_all.ensures.holds c.take_out_all.ensures.recency
          (agree_taken c.self.inside.nodes c.self.inside.holds c.self.inside.recency c.args.fids.now c.self.invariant.agree);
      small = small_same _ _ c.take_out_all.ensures.nodes (small_taken c.self.inside.nodes c.args.fids.now c.self.invariant.small);
    }

pub returns : goal.returns
returns c =
    (λ i. record { size = c.self.inside.size; nodes = c.take_out_all.ensures.nodes i; holds = c.take_out_all.ensures.holds i; recency = c.take_out_all.ensures.recency i; priorities = c.self.inside.priorities })
    ∙ ap (λ (s : CacheState). dropped s c.args.fids.now) c.self.view_is
