use Rattle.std.proofs.Common.{◌≡◌, Some, sym, ap, ◌∙◌}
use Rattle.std.specs.FinMap as map
use Rattle.coda_tree.specs.Volume.{Nodes, child, has, moved}
use Rattle.coda_tree.proofs.Moved.{replaced_last}
use Rattle.coda_cache.specs.State.{CacheState}
use Rattle.coda_cache.specs.Held.{below_of}
use Rattle.coda_cache.specs.Ways.{at_or_below}
use Rattle.coda_cache.specs.Steps.{removed, taken_from}
use Rattle.coda_cache.specs.Operating.{with_nodes}
use Rattle.coda_cache.proofs.Agreeing.{agree_same}
use Rattle.coda_cache.proofs.Changed.{agree_there, has_moved, small_moved, out_first}
use Rattle.coda_cache.proofs.Operated.{self_below}
use Rattle.coda_cache.proofs.Removed.{same_below, nodes_removed, recency_removed, holds_removed}
use Rattle.coda_cache.proofs.Small.{small_same, small_taken}
use Rattle.coda_cache.proofs.Taken.{agree_taken}
use Rattle.coda_cache.proofs.contents.Contents.replace.Goals as goal

pub invariant_of-self : goal.invariant_of-self
invariant_of-self c =
    let was : CacheState = record { size = c.self.inside.size; nodes = c.self.inside.nodes; holds = c.self.inside.holds; recency = c.self.inside.recency; priorities = c.self.inside.priorities } in
    let to = moved was.nodes c.args.from_dir c.args.from.now c.args.to_dir c.args.to.now c.args.fid in
    let s : CacheState = with_nodes was to in
    let there = has_moved was.nodes c.args.from_dir c.args.from.now c.args.to_dir c.args.to.now c.args.fid in
    let agree = agree_there was.nodes to was.holds was.recency there c.self.invariant.agree in
    let had : child was.nodes c.args.to_dir c.args.to.now ≡ Some c.args.over = ap (λ (x : CacheState). child x.nodes c.args.to_dir c.args.to.now) c.self.view_is ∙ c.requires.had in
    let first = c.replace.ensures ∙ sym (replaced_last was.nodes c.args.over c.args.from_dir c.args.from.now c.args.to_dir c.args.to.now c.args.fid) in
    let nodes = c.remove.ensures.nodes ∙ ap (λ (m : Nodes). taken_from m (below_of was.holds c.args.over)) first
    ∙ out_first to c.args.over (below_of was.holds c.args.over) (λ is. same_below s c.args.over agree c.args.over ∙ self_below s c.args.over agree is) ∙ nodes_removed s c.args.over agree in
    let holds = c.remove.ensures.holds ∙ ap (λ (m : Nodes). map.retain_keys was.holds (has m)) nodes ∙ holds_removed s c.args.over agree in
    let recency = c.remove.ensures.recency ∙ recency_removed s c.args.over agree in
    record {
      agree = agree_same _ c.remove.new.nodes _ c.remove.new.self _ c.remove.new.recency nodes holds recency (agree_taken to was.holds was.recency (at_or_below s c.args.over) agree);
      small = small_same _ _ nodes (small_taken to (at_or_below s c.args.over) (small_moved was.nodes c.args.from_dir c.args.from.now c.args.to_dir c.args.to.now c.args.fid c.args.over c.self.invariant.small had));
    }

pub returns : goal.returns
returns c =
    let was : CacheState = record { size = c.self.inside.size; nodes = c.self.inside.nodes; holds = c.self.inside.holds; recency = c.self.inside.recency; priorities = c.self.inside.priorities } in
    let to = moved was.nodes c.args.from_dir c.args.from.now c.args.to_dir c.args.to.now c.args.fid in
    let s : CacheState = with_nodes was to in
    let there = has_moved was.nodes c.args.from_dir c.args.from.now c.args.to_dir c.args.to.now c.args.fid in
    let agree = agree_there was.nodes to was.holds was.recency there c.self.invariant.agree in
    let had : child was.nodes c.args.to_dir c.args.to.now ≡ Some c.args.over = ap (λ (x : CacheState). child x.nodes c.args.to_dir c.args.to.now) c.self.view_is ∙ c.requires.had in
    let first = c.replace.ensures ∙ sym (replaced_last was.nodes c.args.over c.args.from_dir c.args.from.now c.args.to_dir c.args.to.now c.args.fid) in
    let nodes = c.remove.ensures.nodes ∙ ap (λ (m : Nodes). taken_from m (below_of was.holds c.args.over)) first
    ∙ out_first to c.args.over (below_of was.holds c.args.over) (λ is. same_below s c.args.over agree c.args.over ∙ self_below s c.args.over agree is) ∙ nodes_removed s c.args.over agree in
    let holds = c.remove.ensures.holds ∙ ap (λ (m : Nodes). map.retain_keys was.holds (has m)) nodes ∙ holds_removed s c.args.over agree in
    let recency = c.remove.ensures.recency ∙ recency_removed s c.args.over agree in
    (λ i. record { size = c.self.inside.size; nodes = nodes i; holds = holds i; recency = recency i; priorities = c.self.inside.priorities })
    ∙ ap (λ (x : CacheState). removed (with_nodes x (moved x.nodes c.args.from_dir c.args.from.now c.args.to_dir c.args.to.now c.args.fid)) c.args.over) c.self.view_is
