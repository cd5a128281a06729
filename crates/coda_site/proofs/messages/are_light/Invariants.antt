use Rattle.std.proofs.Common.{◌≡◌, ◌+◌, take}
use Rattle.coda_cancel.specs.Weights.{total_weight}
use Rattle.coda_site.proofs.messages.are_light.Given as goal

abbrev pub invariant-loop-rec : goal.invariant-loop-rec
invariant-loop-rec l = l.left + total_weight (take l.rec-index l.recs) ≡ 16777216
