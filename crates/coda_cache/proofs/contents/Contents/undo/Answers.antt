use Rattle.std.proofs.Common.{sym, ap, ◌∙◌, arith}
use Rattle.coda_cache.specs.State.{CacheState}
use Rattle.coda_cache.specs.Walking.{undone}
use Rattle.coda_cache.proofs.Walked.{undone_last}
use Rattle.coda_cache.proofs.contents.Contents.undo.Goals as goal
use Rattle.coda_cache.proofs.contents.Contents.undo.Goals.{in-Some, in_default}

pub loop-step-preserved : goal.loop-step-preserved
loop-step-preserved c = elim c.match-pop.branch [
  | in-Some w ↦
      let rest = c.pop.new.self.items in
      let was = w.in-Some.ensures.items in
      let more = w.in-Some.ensures.cases in
      let left = c.loop-step.invariant.left in
      record {
        undone = ap (λ (s : CacheState). undone s rest) (w.self-is ∙ w.take_out.ensures) ∙ sym (undone_last c.loop-step.self rest w.in-Some.fid) ∙ sym (ap (undone c.loop-step.self) was) ∙ c.loop-step.invariant.undone;
        left = omega (arith, more, left);
      }
  | in_default w ↦
      let none = w.in_default.ensures.cases.0 in
      let left = c.loop-step.invariant.left in
      let steps = c.loop-step-test.true in
      let len = c.len-step-end.ensures in
      absurd (omega (arith, none, left, steps, len))
]
