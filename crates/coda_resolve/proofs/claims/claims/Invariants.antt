use Rattle.std.proofs.Common.{◌≡◌, take, map, option_copied}
use Rattle.coda_resolve.specs.Claims.{AreClaims, copies_of}
use Rattle.coda_resolve.specs.Lent.{lent}
use Rattle.coda_resolve.proofs.claims.claims.Given as goal

abbrev pub invariant-loop-copy : goal.invariant-loop-copy
invariant-loop-copy l = record {
  same : copies_of l.claims.items ≡ map option_copied (take l.copy-index l.copies);
  lacking : AreClaims (lent l.updates) l.claims.items;
}
