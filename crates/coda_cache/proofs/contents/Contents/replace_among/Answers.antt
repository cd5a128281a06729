use Rattle.std.proofs.Common.{◌≡◌, List, Some, sym, ap, ◌∙◌}
use Rattle.std.specs.FinMap as map
use Rattle.coda_fid.specs.declared.fid.Fid.{Fid}
use Rattle.coda_tree.specs.Volume.{Nodes, child, moved}
use Rattle.coda_tree.proofs.Moved.{replaced_last}
use Rattle.coda_walk.specs.Going.{is_listed}
use Rattle.coda_cache.specs.State.{CacheState}
use Rattle.coda_cache.specs.Ways.{at_or_below}
use Rattle.coda_cache.specs.Steps.{removed, taken_from}
use Rattle.coda_cache.specs.Operating.{with_nodes}
use Rattle.coda_cache.proofs.Agreeing.{agree_same}
use Rattle.coda_cache.proofs.Changed.{agree_there, has_moved, small_moved, below_nodes, out_first}
use Rattle.coda_cache.proofs.Operated.{self_below}
use Rattle.coda_cache.proofs.Removed.{taken_same, except_same}
use Rattle.coda_cache.proofs.Small.{small_same, small_taken}
use Rattle.coda_cache.proofs.Taken.{agree_taken}
use Rattle.coda_cache.proofs.contents.Contents.replace_among.Goals as goal

pub invariant_of-self : goal.invariant_of-self
invariant_of-self c =
    let was : CacheState = record { size = c.self.inside.size; nodes = c.self.inside.nodes; holds = c.self.inside.holds; recency = c.self.inside.recency; priorities = c.self.inside.priorities } in
    let to = moved was.nodes c.args.from_dir c.args.from.now c.args.to_dir c.args.to.now c.args.fid in
    let s : CacheState = with_nodes was to in
    let there = has_moved was.nodes c.args.from_dir c.args.from.now c.args.to_dir c.args.to.now c.args.fid in
    let agree = agree_there was.nodes to was.holds was.recency there c.self.invariant.agree in
    let had : child was.nodes c.args.to_dir c.args.to.now ≡ Some c.args.over = ap (λ (x : CacheState). child x.nodes c.args.to_dir c.args.to.now) c.self.view_is ∙ c.requires.had in
    let first = c.replace.ensures ∙ sym (replaced_last was.nodes c.args.over c.args.from_dir c.args.from.now c.args.to_dir c.args.to.now c.args.fid) in
    let goes : (f : Fid) → is_listed c.args.gone.now f ≡ is_listed (at_or_below s c.args.over) f =
    λ f. c.requires.gone f ∙ ap (λ (x : CacheState). is_listed (at_or_below x c.args.over) f) (sym c.self.view_is) ∙ ap (λ (l : List Fid). is_listed l f) (sym (below_nodes was to c.args.over)) in
    let nodes = c.take_out_all.ensures.nodes ∙ ap (λ (m : Nodes). taken_from m c.args.gone.now) first ∙ taken_same (map.remove to c.args.over) c.args.gone.now (at_or_below s c.args.over) goes
    ∙ out_first to c.args.over (at_or_below s c.args.over) (self_below s c.args.over agree) in
    let holds = c.take_out_all.ensures.holds ∙ taken_same was.holds c.args.gone.now (at_or_below s c.args.over) goes in
    let recency = c.take_out_all.ensures.recency ∙ except_same was.recency c.args.gone.now (at_or_below s c.args.over) goes in
    record {
      agree = agree_same _ c.take_out_all.new.nodes _ c.take_out_all.new.holds _ c.take_out_all.new.recency nodes holds recency (agree_taken to was.holds was.recency (at_or_below s c.args.over) agree);
      small = small_same _ _ nodes (small_taken to (at_or_below s c.args.over) (small_moved was.nodes c.args.from_dir c.args.from.now c.args.to_dir c.args.to.now c.args.fid c.args.over c.self.invariant.small had));
    }

pub returns : goal.returns
returns c =
    let was : CacheState = record { size = c.self.inside.size; nodes = c.self.inside.nodes; holds = c.self.inside.holds; recency = c.self.inside.recency; priorities = c.self.inside.priorities } in
    let to = moved was.nodes c.args.from_dir c.args.from.now c.args.to_dir c.args.to.now c.args.fid in
    let s : CacheState = with_nodes was to in
    let there = has_moved was.nodes c.args.from_dir c.args.from.now c.args.to_dir c.args.to.now c.args.fid in
    let agree = agree_there was.nodes to was.holds was.recency there c.self.invariant.agree in
    let had : child was.nodes c.args.to_dir c.args.to.now ≡ Some c.args.over = ap (λ (x : CacheState). child x.nodes c.args.to_dir c.args.to.now) c.self.view_is ∙ c.requires.had in
    let first = c.replace.ensures ∙ sym (replaced_last was.nodes c.args.over c.args.from_dir c.args.from.now c.args.to_dir c.args.to.now c.args.fid) in
    let goes : (f : Fid) → is_listed c.args.gone.now f ≡ is_listed (at_or_below s c.args.over) f =
    λ f. c.requires.gone f ∙ ap (λ (x : CacheState). is_listed (at_or_below x c.args.over) f) (sym c.self.view_is) ∙ ap (λ (l : List Fid). is_listed l f) (sym (below_nodes was to c.args.over)) in
    let nodes = c.take_out_all.ensures.nodes ∙ ap (λ (m : Nodes). taken_from m c.args.gone.now) first ∙ taken_same (map.remove to c.args.over) c.args.gone.now (at_or_below s c.args.over) goes
    ∙ out_first to c.args.over (at_or_below s c.args.over) (self_below s c.args.over agree) in
    let holds = c.take_out_all.ensures.holds ∙ taken_same was.holds c.args.gone.now (at_or_below s c.args.over) goes in
    let recency = c.take_out_all.ensures.recency ∙ except_same was.recency c.args.gone.now (at_or_below s c.args.over) goes in
    (λ i. record { size = c.self.inside.size; nodes = nodes i; holds = holds i; recency = recency i; priorities = c.self.inside.priorities })
    ∙ ap (λ (x : CacheState). removed (with_nodes x (moved x.nodes c.args.from_dir c.args.from.now c.args.to_dir c.args.to.now c.args.fid)) c.args.over) c.self.view_is
