use Rattle.std.proofs.Common.{◌≡◌, ◌+◌, length}
use Rattle.coda_cml.specs.Steady.{any_record}
use Rattle.coda_venus.specs.Caching.{served_held}
use Rattle.coda_venus.specs.Held.{reaches_below}
use Rattle.coda_venus.proofs.client.Client.any_reaches.Given as goal

abbrev pub invariant-loop : goal.invariant-loop
invariant-loop l = (any_record (reaches_below (served_held l.emulating l.self) l.above) l.records ≡ any_record (reaches_below (served_held l.emulating l.self) l.above) l.fn.records) × (length l.records + l.counter ≡ l.end)
