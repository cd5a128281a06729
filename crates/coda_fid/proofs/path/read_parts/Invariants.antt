use Rattle.std.proofs.Common.{◌≡◌, take, length}
use Rattle.coda_fid.specs.Name.{AreNames}
use Rattle.coda_fid.specs.Path.{parts}
use Rattle.coda_fid.proofs.path.read_parts.Given as goal

abbrev pub invariant-loop-part : goal.invariant-loop-part
invariant-loop-part l = (l.names.items ≡ take (length l.yielded) (parts l.bytes)) × AreNames l.names.items
