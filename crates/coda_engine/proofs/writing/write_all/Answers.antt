use Rattle.std.proofs.Common.{take, arith}
use Rattle.std.proofs.Math.Seq.{take-add}
use Rattle.std.proofs.lemmas.List.{take_rest}
use Rattle.std.proofs.KnownBytes.{Appends-trans}
use Rattle.coda_engine.proofs.writing.write_all.Goals as goal

-- what was written before, and what this call took
pub loop-done-preserved : goal.loop-done-preserved
loop-done-preserved g c =
    let done = c.loop-done.done in
    let bytes = c.args.bytes.now in (
      omega (arith, c.in_ok-taken.ensures.bound),
      rw take-add (Appends-trans _ _ _ (take done bytes) _ c.loop-done.invariant.1 (rw (take_rest bytes done) at c.in_ok-taken.ensures.bytes)),
      omega (arith, c.write.ensures.cause.later),
    )
