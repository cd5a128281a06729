-- What of the gathered replies isn't written yet.
use Rattle.std.specs.Prelude.{ℕ, List, drop}
use Rattle.coda_engine.specs.declared.gathering.Gathered.{Gathered}

-- the replies behind those that the sink took
abbrev pub waiting : Gathered → List ℕ
waiting gathered = drop gathered.taken gathered.bytes.items
