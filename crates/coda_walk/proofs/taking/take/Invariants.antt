use Rattle.std.proofs.Common.{◌≡◌, List}
use Rattle.coda_fid.specs.declared.fid.Fid.{Fid}
use Rattle.coda_walk.specs.Planning.{Taken, taken_of, takes}
use Rattle.coda_walk.specs.Plannable.{ArePlannable}
use Rattle.coda_walk.specs.Climbing.{AreChosen}
use Rattle.coda_walk.proofs.taking.take.Given as goal

abbrev pub invariant-loop-candidate : goal.invariant-loop-candidate
invariant-loop-candidate l = (recency : List Fid) → ArePlannable l.fn.size l.items recency → (t : Taken) × AreChosen l.fn.size l.items t l.chosen × (taken_of l.fn.size l.items t l.candidate-iterator ≡ takes l.fn.size l.items)
