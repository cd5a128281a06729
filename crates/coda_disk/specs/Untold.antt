-- A disk that tells nothing.
use Rattle.std.specs.Prelude.{[]}
use Rattle.coda_disk.specs.Told.{Told}

abbrev pub untold : Told
untold = record { honest = ⊥; seen = []; may_leave = λ _. ⊥; moment = 0; left_since = λ _ _. ⊥ }
