use Rattle.std.proofs.Common.{◌≡◌, ℕ, true, false, Option, Some, sym, ap, ◌∙◌}
use Rattle.std.specs.FinMap as map
use Rattle.coda_fid.specs.declared.fid.Fid.{Fid}
use Rattle.coda_tree.specs.Slots.{altered, altered_at}
use Rattle.coda_tree.specs.Volume.{has}
use Rattle.coda_tree.proofs.Booleans.{some_of}
use Rattle.coda_cache.specs.declared.hold.Hold.{Hold}
use Rattle.coda_cache.specs.State.{CacheState, Holds, is_cached}
use Rattle.coda_cache.specs.Steps.{renewed, put_in, kept_parent}
use Rattle.coda_cache.proofs.Agreeing.{agree_renewed, agree_same}
use Rattle.coda_cache.proofs.Small.{small_put, small_same}
use Rattle.coda_cache.proofs.contents.Contents.renew.Goals as goal

pub set-requires : goal.set-requires
set-requires c =
    let there : has c.self.inside.nodes c.args.fid ≡ true = ap (λ (s : CacheState). is_cached s c.args.fid) c.self.view_is ∙ c.requires.held in
    there

pub touch-requires : goal.touch-requires
touch-requires c =
    let there : has c.self.inside.nodes c.args.fid ≡ true = ap (λ (s : CacheState). is_cached s c.args.fid) c.self.view_is ∙ c.requires.held in
    c.self.invariant.agree.used c.args.fid ∙ there

pub invariant_of-self : goal.invariant_of-self
invariant_of-self c =
    let there : has c.self.inside.nodes c.args.fid ≡ true = ap (λ (s : CacheState). is_cached s c.args.fid) c.self.view_is ∙ c.requires.held in
    let nodes = c.set.ensures in
    record {
      agree = agree_same _ c.set.new.self _ c.renew.new.self _ c.touch.new.self nodes c.renew.ensures c.touch.ensures
          (agree_renewed c.self.inside.nodes c.self.inside.holds c.self.inside.recency c.self.invariant.agree c.args.fid c.args.node (renewed c.args.from) (c.self.invariant.agree.held c.args.fid ∙ there));
      small = small_same _ _ nodes (small_put c.self.inside.nodes c.args.fid c.args.node c.self.invariant.small c.requires.small);
    }

-- a hold of a new copy is that of a node that is put
renewed_is : (holds : Holds) (f : Fid) (from : Option ℕ) (parent : Option Fid) (hold : Hold) → map.get holds f ≡ Some hold →
    altered holds f (renewed from) ≡ map.insert holds f (record { parent = kept_parent (map.get holds f) parent; from = from; dirty = false })
renewed_is holds f from parent hold is = ap (λ o. altered_at o holds f (renewed from)) is ∙ ap (λ o. map.insert holds f (record { parent = kept_parent o parent; from = from; dirty = false })) (sym is)

pub returns : goal.returns
returns c = λ parent.
    let there : has c.self.inside.nodes c.args.fid ≡ true = ap (λ (s : CacheState). is_cached s c.args.fid) c.self.view_is ∙ c.requires.held in
    let hold = some_of (map.get c.self.inside.holds c.args.fid) (c.self.invariant.agree.held c.args.fid ∙ there) in
    let nodes = c.set.ensures in
    let holds = c.renew.ensures ∙ renewed_is c.self.inside.holds c.args.fid c.args.from parent hold.0 hold.1 in
    (λ i. record { size = c.self.inside.size; nodes = nodes i; holds = holds i; recency = c.touch.ensures i; priorities = c.self.inside.priorities })
    ∙ ap (λ (s : CacheState). put_in s c.args.fid parent c.args.node c.args.from) c.self.view_is
