use Rattle.std.proofs.Common.{◌≡◌, ◌+◌}
use Rattle.std.specs.List.Sorted.{IsStrictlySortedBy}
use Rattle.std.specs.BTreeSet as btree
use Rattle.coda_fid.specs.Fid.{fid_cmp}
use Rattle.coda_cache.specs.Indexed.{blocks_beside}
use Rattle.coda_cache.proofs.contents.Contents.blocks_beside.Given as goal

abbrev pub invariant-loop-fid : goal.invariant-loop-fid
invariant-loop-fid l = (l.blocks + blocks_beside l.self (btree.contains fid_cmp l.but) l.fid-iterator ≡ l.fn.more + blocks_beside l.self (btree.contains fid_cmp l.but) l.fids.keys) × IsStrictlySortedBy fid_cmp l.fids.keys
