use Rattle.std.proofs.Common.{◌≡◌, take}
use Rattle.coda_resolve.specs.Renewals.{marked_among}
use Rattle.coda_resolve.proofs.part.marked.Given as goal

abbrev pub invariant-loop-object : goal.invariant-loop-object
invariant-loop-object l = l.fids.items ≡ marked_among (take l.object-index l.objects)
