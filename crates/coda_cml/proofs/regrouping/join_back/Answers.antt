use Rattle.std.proofs.Common.{◌≡◌, ℕ, suc, ◌-◌, ◌<◌, ◌≤◌, Some, take, drop, length, get_or, sym, ap, ◌∙◌, subst, inl, inr, arith}
use Rattle.std.proofs.lemmas.Bool.{cases_lt}
use Rattle.std.proofs.lemmas.List.{get_or_default}
use Rattle.coda_cml.specs.declared.segment.Segment.{Segment}
use Rattle.coda_cml.specs.Segments.{joined}
use Rattle.coda_cml.specs.LastSegment.{ended_before, reaching, all_joined}
use Rattle.coda_cml.proofs.segments.LastJoined.{back_step, back_ends}
use Rattle.coda_cml.proofs.regrouping.join_back.Goals as goal
use Rattle.coda_cml.proofs.regrouping.join_back.Goals.{then-loop-kept-test+else-index-least, else-loop-kept-test}

pub joined-all-requires : goal.joined-all-requires
joined-all-requires c =
    let step = back_step c.args.segments.now.items c.loop-kept.kept c.index-in-loop-kept.result.now (omega (arith, c.loop-kept-test.true)) c.loop-kept.invariant.within in
    let counted = ap (λ (s : Segment). s.count) c.index-in-loop-kept.ensures in
    omega (arith, step.1, counted, c.loop-kept.invariant.count, c.requires.few)

pub loop-kept-preserved : goal.loop-kept-preserved
loop-kept-preserved c =
    let segments = c.args.segments.now.items in
    let step = back_step c.args.segments.now.items c.loop-kept.kept c.index-in-loop-kept.result.now (omega (arith, c.loop-kept-test.true)) c.loop-kept.invariant.within in
    let counted = ap (λ (s : Segment). s.count) c.index-in-loop-kept.ensures in
    let both = ap (λ (s : Segment). s.count) c.joined-all.ensures in
    let at : (j : ℕ) (d : Segment) → c.loop-kept.kept - 1 ≤ j → j < length c.args.segments.now.items → j < c.loop-kept.kept → c.args.least ≤ (get_or c.args.segments.now.items j d).last =
    λ j d a b l. (
    let here : c.loop-kept.kept - 1 ≡ j = omega (arith, a, l) in
    let same : c.index.result.now ≡ get_or c.args.segments.now.items j d = c.index.ensures ∙ ap (λ n. get_or c.args.segments.now.items n c.index.result.now) here ∙ get_or_default c.args.segments.now.items j c.index.result.now d b in
    subst (λ (s : Segment). c.args.least ≤ s.last) same c.if-index-least.true
    ) in
    record {
      within = omega (arith, c.loop-kept.invariant.within);
      all = c.joined-all.ensures ∙ (λ i. joined (c.index-in-loop-kept.ensures i) (c.loop-kept.invariant.all i)) ∙ ap (λ l. all_joined l c.args.last) (sym step.0);
      count = omega (arith, step.1, counted, both, c.loop-kept.invariant.count);
      behind = λ j d a b. elim (cases_lt j c.loop-kept.kept) [ inl l ↦ at j d a b l | inr l ↦ c.loop-kept.invariant.behind j d l b ];
    }

ends : (c : goal.After-truncate) → (take c.loop-kept.kept c.args.segments.now.items ≡ ended_before (Some c.args.least) c.args.segments.now.items) × (drop c.loop-kept.kept c.args.segments.now.items ≡ reaching (Some c.args.least) c.args.segments.now.items)
ends c = back_ends c.args.segments.now.items c.loop-kept.kept c.args.least c.requires.in_turn c.loop-kept.invariant.within before c.loop-kept.invariant.behind
  where
    before : (j : ℕ) (d : Segment) → suc j ≡ c.loop-kept.kept → (get_or c.args.segments.now.items j d).last < c.args.least
    before j d e = elim c.loop-kept-test.branch [
      | then-loop-kept-test+else-index-least w ↦ (
          let here : c.loop-kept.kept - 1 ≡ j = omega (arith, e) in
          let within : j < length c.args.segments.now.items = omega (arith, e, c.loop-kept.invariant.within) in
          let same : w.index.result.now ≡ get_or c.args.segments.now.items j d = w.index.ensures ∙ ap (λ n. get_or c.args.segments.now.items n w.index.result.now) here ∙ get_or_default c.args.segments.now.items j w.index.result.now d within in
          subst (λ (s : Segment). s.last < c.args.least) same w.if-index-least.false
          )
      | else-loop-kept-test w ↦ absurd (omega (arith, e, w.loop-kept-test.false))
    ]

pub returns-clause-segments : goal.returns-clause-segments
returns-clause-segments c = c.truncate.ensures.items ∙ (ends c).0

pub returns-clause-joined : goal.returns-clause-joined
returns-clause-joined c = c.loop-kept.invariant.all ∙ ap (λ l. all_joined l c.args.last) (ends c).1
