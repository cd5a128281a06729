-- A resolution log that isn't full keeps what is pushed.
use Rattle.std.proofs.Common.{◌≡◌, ◌-◌, ◌+◌, ◌<◌, List, [], ◌∷◌, ◌++◌, length, drop, ap, arith}
use Rattle.std.proofs.lemmas.List.{length-append}
use Rattle.coda_reslog.specs.declared.entry.ResEntry.{ResEntry}
use Rattle.coda_reslog.specs.Rings.{last_entries}

pub pushed : (log : List ResEntry) (update : ResEntry) → length log < 256 → last_entries (log ++ update ∷ []) ≡ log ++ update ∷ []
pushed log update few =
    let none : length (log ++ update ∷ []) - 256 ≡ 0 = omega (arith, few, length-append log (update ∷ [])) in
    ap (λ n. drop n (log ++ update ∷ [])) none
