use Rattle.std.proofs.Common.{◌≡◌, take}
use Rattle.std.specs.Prelude.{map}
use Rattle.coda_cache.specs.Rows.{row_of}
use Rattle.coda_cache.proofs.contents.Contents.rows_among.Given as goal

abbrev pub invariant-loop-fid : goal.invariant-loop-fid
invariant-loop-fid l = l.rows.items ≡ map (row_of l.self) (take l.fid-index l.fids)
