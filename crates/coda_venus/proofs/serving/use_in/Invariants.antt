use Rattle.std.proofs.Common.{◌≡◌, drop}
use Rattle.coda_venus.specs.Caching.{used_in}
use Rattle.coda_venus.proofs.serving.use_in.Given as goal

abbrev pub invariant-loop-fid : goal.invariant-loop-fid
invariant-loop-fid l = used_in l.cache (drop l.fid-index l.fids) ≡ used_in l.fn.cache l.fids
