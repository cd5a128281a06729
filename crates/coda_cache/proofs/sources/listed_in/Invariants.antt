use Rattle.std.proofs.Common.{◌≡◌, ◌==◌, ◌++◌}
use Rattle.std.specs.List.{filter}
use Rattle.coda_fid.specs.declared.fid.Fid.{Fid}
use Rattle.coda_cache.proofs.sources.listed_in.Given as goal

abbrev pub invariant-loop-fid : goal.invariant-loop-fid
invariant-loop-fid l = l.list.items ++ filter (λ (f : Fid). f.volume == l.volume) l.fid-iterator ≡ filter (λ (f : Fid). f.volume == l.volume) l.fids.keys
