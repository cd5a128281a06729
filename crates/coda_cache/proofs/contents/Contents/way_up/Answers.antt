use Rattle.std.proofs.Common.{◌≡◌, ℕ, suc, ◌+◌, ◌-◌, ◌++◌, ◌∷◌, [], List, Some, Option, sym, ap, ◌∙◌, arith, append_assoc}
use Rattle.std.specs.FinMap as map
use Rattle.coda_fid.specs.declared.fid.Fid.{Fid}
use Rattle.coda_cache.specs.State.{CacheState, parent_of}
use Rattle.coda_cache.specs.Ways.{way_up, way_on, way_within}
use Rattle.coda_cache.proofs.contents.Contents.way_up.Goals as goal

-- a step further up
step_up : (s : CacheState) (way : List Fid) (now end : ℕ) (on : Fid) (all : List Fid) → end - now ≡ suc (end - (now + 1)) → way ++ way_on s (end - now) (Some on) ≡ all → (way ++ on ∷ []) ++ way_on s (end - (now + 1)) (parent_of s on) ≡ all
step_up s way now end on all steps was = append_assoc way (on ∷ []) _ ∙ ap (λ l. way ++ l) (sym (ap (λ n. way_within s n on) steps)) ∙ was

pub loop-step-init : goal.loop-step-init
unfolding way_up
loop-step-init c =
    let none : c.new-way.result.items ≡ [] = c.new-way.ensures.items in
    let steps : c.len-step-end.result - 0 ≡ c.len-step-end.result = omega arith in
    let all : c.len-step-end.result ≡ map.len c.args.self.now.holds = c.len-step-end.ensures ∙ ap (λ (s : CacheState). map.len s.holds) c.self.view_is in
    λ i. none i ++ way_within c.args.self.now ((steps ∙ all) i) c.args.fid

pub loop-step-preserved : goal.loop-step-preserved
loop-step-preserved c =
    let inside = c.loop-step-test.true in
    let way : c.push.new.self.items ≡ c.loop-step.way.items ++ c.in-Some.on ∷ [] = c.in_ok-push-in-Some.ensures.items in
    let at = ap (λ (o : Option Fid). c.loop-step.way.items ++ way_on c.args.self.now (c.len-step-end.result - c.loop-step._step) o) (sym c.in-Some.is) ∙ c.loop-step.invariant in
    (λ i. way i ++ way_on c.args.self.now (c.len-step-end.result - (c.loop-step._step + 1)) (c.parent-at.ensures i))
    ∙ step_up c.args.self.now c.loop-step.way.items c.loop-step._step c.len-step-end.result c.in-Some.on _ (omega (arith, inside)) at
