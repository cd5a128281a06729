use Rattle.std.proofs.Common.{◌≡◌, take}
use Rattle.std.specs.List.{filter}
use Rattle.coda_resolve.specs.Resolution.{has_in}
use Rattle.coda_resolve.specs.Views.{objects_of}
use Rattle.coda_resolve.proofs.doubles.those_there.Given as goal

abbrev pub invariant-loop-fid : goal.invariant-loop-fid
invariant-loop-fid l = l.there.items ≡ filter (has_in (objects_of l.view)) (take l.fid-index l.fids)
