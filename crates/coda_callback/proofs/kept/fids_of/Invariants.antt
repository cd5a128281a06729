use Rattle.std.proofs.Common.{◌≡◌, ◌++◌, map}
use Rattle.coda_callback.specs.declared.interest.Interest.{Interest}
use Rattle.coda_callback.specs.Kept.{fids_among}
use Rattle.coda_callback.proofs.kept.fids_of.Given as goal

abbrev pub invariant-loop-interest : goal.invariant-loop-interest
invariant-loop-interest l = fids_among l.kept.keys l.client ≡ l.fids.items ++ map (λ (i : Interest). i.fid) l.interest-iterator
