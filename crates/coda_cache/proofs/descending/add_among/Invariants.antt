use Rattle.std.proofs.Common.{◌≡◌, ◌++◌}
use Rattle.std.specs.List.{filter}
use Rattle.coda_fid.specs.declared.fid.Fid.{Fid}
use Rattle.coda_cache.specs.State.{parent_of}
use Rattle.coda_cache.specs.Indexed.{is_parent}
use Rattle.coda_cache.proofs.descending.add_among.Given as goal

abbrev pub invariant-loop-fid : goal.invariant-loop-fid
invariant-loop-fid l = l.level.items ++ filter (λ (f : Fid). is_parent l.dir (parent_of l.contents f)) l.fid-iterator ≡ l.fn.level.items ++ filter (λ (f : Fid). is_parent l.dir (parent_of l.contents f)) l.fids.keys
