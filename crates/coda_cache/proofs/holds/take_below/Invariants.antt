use Rattle.std.proofs.Common.{◌≡◌}
use Rattle.std.specs.List.{filter}
use Rattle.std.specs.Map.{keys_of}
use Rattle.std.specs.HashMap.{hash_map_len}
use Rattle.coda_walk.specs.Going.{is_listed}
use Rattle.coda_cache.specs.Held.{way_in, below_in}
use Rattle.coda_cache.specs.Steps.{taken_from, except_all}
use Rattle.coda_cache.proofs.holds.take_below.Given as goal

abbrev pub invariant-loop-other : goal.invariant-loop-other
invariant-loop-other l = record {
  nodes : taken_from l.nodes (filter (λ g. is_listed (way_in l.fn.holds (hash_map_len l.fn.holds) g) l.fn.fid) (keys_of l.other-iterator)) ≡ taken_from l.fn.nodes (below_in l.fn.holds l.fn.fid);
  recency : except_all l.recency (filter (λ g. is_listed (way_in l.fn.holds (hash_map_len l.fn.holds) g) l.fn.fid) (keys_of l.other-iterator)) ≡ except_all l.fn.recency (below_in l.fn.holds l.fn.fid);
}
