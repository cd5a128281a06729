use Rattle.std.proofs.Common.{◌≡◌, ℕ, suc, ◌+◌, ◌-◌, ◌++◌, ◌∷◌, [], List, Some, Option, sym, ap, ◌∙◌, arith, append_assoc}
use Rattle.coda_fid.specs.declared.fid.Fid.{Fid}
use Rattle.coda_cache.specs.State.{CacheState}
use Rattle.coda_cache.specs.declared.prospect.Prospect.{Prospect}
use Rattle.coda_cache.specs.Prospects.{parent_ahead, way_ahead, way_ahead_on}
use Rattle.coda_cache.proofs.contents.Contents.way_ahead.Goals as goal

-- a step further up
step_up : (s : CacheState) (p : Prospect) (way : List Fid) (now end : ℕ) (on : Fid) (all : List Fid) → end - now ≡ suc (end - (now + 1)) → way ++ way_ahead_on s p (end - now) (Some on) ≡ all → (way ++ on ∷ []) ++ way_ahead_on s p (end - (now + 1)) (parent_ahead s p on) ≡ all
step_up s p way now end on all steps was = append_assoc way (on ∷ []) _ ∙ ap (λ l. way ++ l) (sym (ap (λ n. way_ahead s p n on) steps)) ∙ was

pub loop-step-preserved : goal.loop-step-preserved
loop-step-preserved c =
    let inside = c.loop-step-test.true in
    let end = c.args.prospect.now.steps in
    let way : c.push.new.self.items ≡ c.loop-step.way.items ++ c.in-Some.on ∷ [] = c.in_ok-push-in-Some.ensures.items in
    let at = ap (λ (o : Option Fid). c.loop-step.way.items ++ way_ahead_on c.args.self.now c.args.prospect.now (end - c.loop-step._step) o) (sym c.in-Some.is) ∙ c.loop-step.invariant in
    (λ i. way i ++ way_ahead_on c.args.self.now c.args.prospect.now (end - (c.loop-step._step + 1)) (c.parent_ahead-at.ensures i))
    ∙ step_up c.args.self.now c.args.prospect.now c.loop-step.way.items c.loop-step._step end c.in-Some.on _ (omega (arith, inside)) at
