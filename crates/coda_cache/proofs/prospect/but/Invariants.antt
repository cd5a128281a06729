use Rattle.std.proofs.Common.{◌≡◌, take, not}
use Rattle.std.specs.List.{filter}
use Rattle.std.specs.BTreeSet as btree
use Rattle.coda_fid.specs.Fid.{fid_cmp}
use Rattle.coda_cache.proofs.prospect.but.Given as goal

abbrev pub invariant-loop-fid : goal.invariant-loop-fid
invariant-loop-fid l = l.left.items ≡ filter (λ f. not (btree.contains fid_cmp l.set f)) (take l.fid-index l.fids)
