use Rattle.std.proofs.Common.{◌≡◌, not}
use Rattle.std.specs.List.{list_any}
use Rattle.std.specs.BTreeSet as btree
use Rattle.coda_fid.specs.Fid.{fid_cmp}
use Rattle.coda_cache.proofs.sparing.is_within.Given as goal

abbrev pub invariant-loop-fid : goal.invariant-loop-fid
invariant-loop-fid l = list_any (λ f. not (btree.contains fid_cmp l.set f)) l.fid-iterator ≡ list_any (λ f. not (btree.contains fid_cmp l.set f)) l.fids.keys
