-- What clients cache.
use Rattle.std.specs.Prelude.{◌≡◌, ℕ, Some}
use Rattle.coda_histories.specs.Forests.{IsForest}
use Rattle.coda_cell.specs.State.{ClientState}
use Rattle.coda_shelves.specs.Cells.{state_of}
use Rattle.coda_runs.specs.Headline.{InEachKept}

-- What a client caches is a forest: each directory above a cached object is cached too, and no way up goes in a circle.
abbrev pub CachesAreForests : Type 0
CachesAreForests = InEachKept (λ cell. (client : ℕ) (c : ClientState) → (state_of cell).clients client ≡ Some c → IsForest c.held)
