-- Updates that a directory's copies lend.
use Rattle.std.specs.Prelude.{List, map}
use Rattle.std.specs.Borrow.{Bor}
use Rattle.coda_reslog.specs.declared.entry.ResEntry.{ResEntry}

-- what is lent
abbrev pub lent : List (Bor ResEntry) → List ResEntry
lent updates = map (λ update. update.now) updates
