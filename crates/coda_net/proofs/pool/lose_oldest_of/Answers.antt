use Rattle.std.proofs.Common.{◌∙◌, ap, sym}
use Rattle.coda_net.specs.Pool.{without_oldest}
use Rattle.coda_net.proofs.Losing.{one_more}
use Rattle.coda_net.proofs.pool.lose_oldest_of.Goals as goal

pub loop-preserved : goal.loop-preserved
loop-preserved c = c.lose_oldest.ensures ∙ ap without_oldest c.loop.invariant ∙ sym (one_more c.loop.counter c.args.letters.now.entries)
