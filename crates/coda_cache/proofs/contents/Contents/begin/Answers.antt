use Rattle.std.proofs.Common.{◌≡◌, List, ap, ◌∙◌, false, Option, Some, None, is_some, refl, sym}
use Rattle.std.proofs.lemmas.Bool.{both_ways}
use Rattle.coda_cache.specs.declared.hold.Hold.{Hold}
use Rattle.coda_cache.specs.Steps.{put_in, kept_parent}
use Rattle.std.specs.FinMap as map
use Rattle.coda_fid.specs.declared.fid.Fid.{Fid}
use Rattle.coda_cache.specs.Uses.{except}
use Rattle.coda_cache.specs.State.{CacheState, is_cached}
use Rattle.coda_cache.proofs.Agreeing.{agree_put, agree_same, forgotten, not_used}
use Rattle.coda_cache.proofs.Small.{small_put, small_same}
use Rattle.coda_cache.proofs.contents.Contents.begin.Goals as goal

unheld : (o : Option Hold) → is_some o ≡ false → o ≡ None
unheld None h = refl
unheld (Some hold) h = absurd (both_ways _ h refl)

-- what isn't cached has no hold and no use
pub begin-requires : goal.begin-requires
begin-requires c =
    let none = unheld (map.get c.self.inside.holds c.args.fid) (c.self.invariant.agree.held c.args.fid ∙ ap (λ (s : CacheState). is_cached s c.args.fid) c.self.view_is ∙ c.requires.free) in
    not_used c.self.inside.nodes c.self.inside.holds c.self.inside.recency c.self.invariant.agree c.args.fid none

pub hold_and_node-requires : goal.hold_and_node-requires
hold_and_node-requires c = record {
  free =
      unheld (map.get c.self.inside.holds c.args.fid) (c.self.invariant.agree.held c.args.fid ∙ ap (λ (s : CacheState). is_cached s c.args.fid) c.self.view_is ∙ c.requires.free);
}

pub returns-in-Ok-clause-ok : goal.returns-in-Ok-clause-ok
returns-in-Ok-clause-ok c =
    let none = unheld (map.get c.self.inside.holds c.args.fid) (c.self.invariant.agree.held c.args.fid ∙ ap (λ (s : CacheState). is_cached s c.args.fid) c.self.view_is ∙ c.requires.free) in
    let holds : c.hold_and_node.new.holds ≡ map.insert c.self.inside.holds c.args.fid (record { parent = kept_parent (map.get c.self.inside.holds c.args.fid) c.args.parent; from = c.args.from; dirty = false }) =
    c.in-Ok.ensures.ok.0 ∙ ap (λ o. map.insert c.self.inside.holds c.args.fid (record { parent = kept_parent o c.args.parent; from = c.args.from; dirty = false })) (sym none) in
    (λ i. record { size = c.self.inside.size; nodes = c.in-Ok.ensures.ok.1 i; holds = holds i; recency = c.in_ok-begin.ensures.ok i; priorities = c.self.inside.priorities })
    ∙ ap (λ (s : CacheState). put_in s c.args.fid c.args.parent c.args.node c.args.from) c.self.view_is

pub invariant_of-self-in-Ok : goal.invariant_of-self-in-Ok
invariant_of-self-in-Ok c =
    record {
      agree = agree_same _ c.hold_and_node.new.nodes _ c.hold_and_node.new.holds _ c.begin.new.self c.in-Ok.ensures.ok.1 c.in-Ok.ensures.ok.0 c.in_ok-begin.ensures.ok
          (agree_put c.self.inside.nodes c.self.inside.holds c.self.inside.recency c.self.invariant.agree c.args.fid c.args.node _);
      small = small_same _ _ c.in-Ok.ensures.ok.1 (small_put c.self.inside.nodes c.args.fid c.args.node c.self.invariant.small c.requires.small);
    }

pub invariant_of-self-in-Err : goal.invariant_of-self-in-Err
invariant_of-self-in-Err c =
    let none = unheld (map.get c.self.inside.holds c.args.fid) (c.self.invariant.agree.held c.args.fid ∙ ap (λ (s : CacheState). is_cached s c.args.fid) c.self.view_is ∙ c.requires.free) in
    let free = not_used c.self.inside.nodes c.self.inside.holds c.self.inside.recency c.self.invariant.agree c.args.fid none in
    record {
      agree = agree_same c.self.inside.nodes c.hold_and_node.new.nodes c.self.inside.holds c.hold_and_node.new.holds c.self.inside.recency c.take_out.new.self c.in-Err.ensures.err.1 c.in-Err.ensures.err.0
          (c.take_out.ensures ∙ ap (λ (l : List Fid). except l c.args.fid) c.in_ok-begin.ensures.ok ∙ forgotten c.self.inside.recency c.args.fid free) c.self.invariant.agree;
      small = small_same _ _ c.in-Err.ensures.err.1 c.self.invariant.small;
    }

pub returns-in-Err-clause-err : goal.returns-in-Err-clause-err
returns-in-Err-clause-err c =
    let none = unheld (map.get c.self.inside.holds c.args.fid) (c.self.invariant.agree.held c.args.fid ∙ ap (λ (s : CacheState). is_cached s c.args.fid) c.self.view_is ∙ c.requires.free) in
    let free = not_used c.self.inside.nodes c.self.inside.holds c.self.inside.recency c.self.invariant.agree c.args.fid none in
    let same : c.take_out.new.self ≡ c.self.inside.recency = c.take_out.ensures ∙ ap (λ (l : List Fid). except l c.args.fid) c.in_ok-begin.ensures.ok ∙ forgotten c.self.inside.recency c.args.fid free in
    (λ i. record { size = c.self.inside.size; nodes = c.in-Err.ensures.err.1 i; holds = c.in-Err.ensures.err.0 i; recency = same i; priorities = c.self.inside.priorities }) ∙ c.self.view_is
