use Rattle.std.proofs.Common.{◌≡◌, take}
use Rattle.coda_venus.specs.Caching.{log_mentions, marked_by}
use Rattle.coda_venus.proofs.client.Client.mark_all.Given as goal

abbrev pub invariant-loop-fid : goal.invariant-loop-fid
invariant-loop-fid l = record {
  cache : l.self.cache ≡ marked_by (log_mentions l.fn.self) l.fn.self.cache (take l.fid-index l.fids);
  number : l.self.number ≡ l.fn.self.number;
  logs : l.self.logs ≡ l.fn.self.logs;
}
