use Rattle.std.proofs.Common.{◌≡◌, take}
use Rattle.coda_cache.specs.Steps.{dropped}
use Rattle.coda_cache.specs.Uses.{except}
use Rattle.coda_venus.proofs.marks.drop_but.Given as goal

abbrev pub invariant-loop-fid : goal.invariant-loop-fid
invariant-loop-fid l = l.cache ≡ dropped l.fn.cache (except (take l.fid-index l.gone) l.kept)
