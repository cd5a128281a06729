use Rattle.std.proofs.Common.{◌≡◌}
use Rattle.std.specs.List.{list_any}
use Rattle.coda_cache.specs.State.{parent_of}
use Rattle.coda_cache.specs.Indexed.{is_parent}
use Rattle.coda_cache.proofs.above.any_child.Given as goal

abbrev pub invariant-loop-fid : goal.invariant-loop-fid
invariant-loop-fid l = list_any (λ f. is_parent l.dir (parent_of l.contents f)) l.fid-iterator ≡ list_any (λ f. is_parent l.dir (parent_of l.contents f)) l.fids.keys
