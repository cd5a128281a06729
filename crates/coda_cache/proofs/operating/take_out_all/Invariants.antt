use Rattle.std.proofs.Common.{◌≡◌, take}
use Rattle.coda_cache.specs.Steps.{taken_from, except_all}
use Rattle.coda_cache.proofs.operating.take_out_all.Given as goal

abbrev pub invariant-loop-fid : goal.invariant-loop-fid
invariant-loop-fid l = record {
  nodes : l.nodes ≡ taken_from l.fn.nodes (take l.fid-index l.fids);
  holds : l.holds ≡ taken_from l.fn.holds (take l.fid-index l.fids);
  recency : l.recency ≡ except_all l.fn.recency (take l.fid-index l.fids);
}
