use Rattle.std.proofs.Common.{◌≡◌, ◌≤◌, take}
use Rattle.coda_venus.specs.Caching.{invalidated_in, valid_in}
use Rattle.coda_venus.proofs.marks.invalidate_all.Given as goal

abbrev pub invariant-loop-fid : goal.invariant-loop-fid
invariant-loop-fid l = record {
  left : l.cache ≡ invalidated_in l.fn.cache (take l.fid-index l.fids);
  count : l.count ≡ valid_in l.fn.cache (take l.fid-index l.fids);
  few : l.count ≤ l.fid-index;
}
