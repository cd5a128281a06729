use Rattle.std.proofs.Common.{ap, ◌∙◌}
use Rattle.std.specs.FinMap as map
use Rattle.coda_tree.specs.Volume.{Nodes, has}
use Rattle.coda_cache.specs.State.{CacheState}
use Rattle.coda_cache.specs.Ways.{at_or_below}
use Rattle.coda_cache.specs.Steps.{removed}
use Rattle.coda_cache.proofs.Agreeing.{agree_same}
use Rattle.coda_cache.proofs.Taken.{agree_taken}
use Rattle.coda_cache.proofs.Small.{small_same, small_taken}
use Rattle.coda_cache.proofs.Removed.{nodes_removed, recency_removed, holds_removed}
use Rattle.coda_cache.proofs.contents.Contents.remove.Goals as goal

pub invariant_of-self : goal.invariant_of-self
invariant_of-self c =
    let s : CacheState = record { size = c.self.inside.size; nodes = c.self.inside.nodes; holds = c.self.inside.holds; recency = c.self.inside.recency; priorities = c.self.inside.priorities } in
    let nodes = c.remove.ensures.nodes ∙ nodes_removed s c.args.fid c.self.invariant.agree in
    let recency = c.remove.ensures.recency ∙ recency_removed s c.args.fid c.self.invariant.agree in
    let holds = c.remove.ensures.holds ∙ ap (λ (n : Nodes). map.retain_keys s.holds (has n)) nodes ∙ holds_removed s c.args.fid c.self.invariant.agree in
    record {
      agree = agree_same _ c.remove.new.nodes _ c.remove.new.self _ c.remove.new.recency nodes holds recency (agree_taken s.nodes s.holds s.recency (at_or_below s c.args.fid) c.self.invariant.agree);
      small = small_same _ _ nodes (small_taken s.nodes (at_or_below s c.args.fid) c.self.invariant.small);
    }

pub returns : goal.returns
returns c =
    let s : CacheState = record { size = c.self.inside.size; nodes = c.self.inside.nodes; holds = c.self.inside.holds; recency = c.self.inside.recency; priorities = c.self.inside.priorities } in
    let nodes = c.remove.ensures.nodes ∙ nodes_removed s c.args.fid c.self.invariant.agree in
    let recency = c.remove.ensures.recency ∙ recency_removed s c.args.fid c.self.invariant.agree in
    let holds = c.remove.ensures.holds ∙ ap (λ (n : Nodes). map.retain_keys s.holds (has n)) nodes ∙ holds_removed s c.args.fid c.self.invariant.agree in
    (λ i. record { size = c.self.inside.size; nodes = nodes i; holds = holds i; recency = recency i; priorities = c.self.inside.priorities }) ∙ ap (λ (x : CacheState). removed x c.args.fid) c.self.view_is
