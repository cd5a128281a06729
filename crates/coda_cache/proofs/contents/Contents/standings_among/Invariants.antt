use Rattle.std.proofs.Common.{◌≡◌, take}
use Rattle.std.specs.Prelude as prelude
use Rattle.coda_cache.specs.Indexed.{standing_of}
use Rattle.coda_cache.proofs.contents.Contents.standings_among.Given as goal

abbrev pub invariant-loop-fid : goal.invariant-loop-fid
invariant-loop-fid l = l.items.items ≡ prelude.map (standing_of l.self) (take l.fid-index l.fids)
