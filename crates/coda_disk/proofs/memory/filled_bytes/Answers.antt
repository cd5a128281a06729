use Rattle.std.proofs.Common.{◌∙◌, refl}
use Rattle.coda_disk.proofs.Puts.{fills_next}
use Rattle.coda_disk.proofs.memory.filled_bytes.Goals as goal

pub loop-i-preserved : goal.loop-i-preserved
loop-i-preserved c = c.in_ok-push.ensures.items ∙ fills_next c.args.choice c.args.at c.loop-i.i _ c.loop-i.bytes.items c.loop-i.invariant refl
