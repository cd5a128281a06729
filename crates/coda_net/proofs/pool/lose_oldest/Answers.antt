use Rattle.std.proofs.Common.{◌∙◌}
use Rattle.coda_net.proofs.Losing.{removed_oldest}
use Rattle.coda_net.proofs.pool.lose_oldest.Goals as goal

pub returns : goal.returns
returns c = c.shift_remove_index.ensures.entries ∙ rw c.oldest-place.ensures (removed_oldest c.args.letters.now.entries)
