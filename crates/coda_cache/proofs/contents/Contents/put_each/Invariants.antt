use Rattle.std.proofs.Common.{◌≡◌}
use Rattle.coda_cache.specs.Steps.{put_all}
use Rattle.coda_cache.specs.Walking.{AreCached, AreCounted}
use Rattle.coda_cache.proofs.contents.Contents.put_each.Given as goal

abbrev pub invariant-loop-put : goal.invariant-loop-put
invariant-loop-put l = record {
  puts : put_all l.self l.put-iterator.rest.items ≡ put_all l.fn.self l.fn.nodes.items;
  cached : AreCached l.self l.put-iterator.rest.items;
  small : AreCounted l.put-iterator.rest.items;
}
