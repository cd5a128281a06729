use Rattle.std.proofs.Common.{◌≡◌, take}
use Rattle.coda_cache.specs.Walking.{begun_all, undone}
use Rattle.coda_cache.proofs.contents.Contents.begin_all.Given as goal

abbrev pub invariant-loop-put : goal.invariant-loop-put
invariant-loop-put l = record {
  now : l.self ≡ begun_all l.fn.self (take l.put-index l.fn.nodes);
  undone : undone l.self l.noted.items ≡ undone l.fn.self l.fn.noted.items;
}
