-- What lines do where their replies are gathered before the sink gets them.
use Rattle.std.specs.Prelude.{◌≡◌, ◌≢◌, ℕ, ◌⊎◌, List, [], ◌++◌, Option, Some}
use Rattle.std.specs.Io.KnownBytes.{Appends}
use Rattle.coda_engine.specs.Machine.{Gives, Refuses}
use Rattle.coda_engine.specs.Reading.{Place, LineStops, Advances, Stops}
use Rattle.coda_engine.specs.declared.status.Status.{Status}
use Rattle.coda_engine.specs.declared.status.Status.TheVariants.{Done, Usage, Script, SourceFault, SinkFault, TooLong, BayFault, Memory}

-- This text came behind the replies that waited, and the sink got what waits no more.
abbrev pub Forwards : Option (List ℕ) → Option (List ℕ) → List ℕ → List ℕ → List ℕ → Type 0
Forwards held_old held_new waiting_old waiting_new text =
    (sent : List ℕ) × Appends held_old held_new sent × (sent ++ waiting_new ≡ waiting_old ++ text)

-- The line with this number may end the run; the replies of the lines before it were gathered. At a fault of the bay none of
-- them waits. Or the line wasn't run: what had to be written before it still waits, since the sink refused.
abbrev pub LineHalts : {M : Type 0} → Gives M → Refuses M → Option (List ℕ) → Option (List ℕ) → List ℕ → List ℕ → M → M → List ℕ → ℕ → Status → Type 0
LineHalts gives refuses held_old held_new waiting_old waiting_new old new line number status =
    ((sent : List ℕ) × Appends held_old held_new sent × LineStops gives refuses (Some waiting_old) (Some (sent ++ waiting_new)) old new line number status
    × (status ≡ BayFault → waiting_new ≡ []))
    ⊎ ((status ≡ SinkFault) × (new ≡ old) × (waiting_new ≢ []) × Forwards held_old held_new waiting_old waiting_new [])

-- These further bytes took the run from old to new, and what they gave came behind the replies that waited.
abbrev pub Gathers : {M : Type 0} → Gives M → Option (List ℕ) → Option (List ℕ) → List ℕ → List ℕ → Place M → List ℕ → Place M → Type 0
Gathers gives held_old held_new waiting_old waiting_new old bytes new =
    (sent : List ℕ) × Appends held_old held_new sent × Advances gives (Some waiting_old) (Some (sent ++ waiting_new)) old bytes new

-- The run ended among these further bytes, with the machine at new after the last line that ran. Of the replies that were gathered none is lost, and at a
-- fault of the bay none waits. Or the lines among the first of these bytes ran, and what had to be written behind them still waits.
abbrev pub Halts : {M : Type 0} → Gives M → Refuses M → Option (List ℕ) → Option (List ℕ) → List ℕ → List ℕ → Place M → M → List ℕ → Status → Type 0
Halts {M} gives refuses held_old held_new waiting_old waiting_new old new bytes status =
    ((sent : List ℕ) × Appends held_old held_new sent × Stops gives refuses 0 (Some waiting_old) (Some (sent ++ waiting_new)) old new bytes status
    × (status ≡ BayFault → waiting_new ≡ []))
    ⊎ ((front : List ℕ) × (more : List ℕ) × (at : Place M) × (status ≡ SinkFault) × (new ≡ at.state) × (waiting_new ≢ []) × (bytes ≡ front ++ more)
    × Gathers gives held_old held_new waiting_old waiting_new old front at)

-- the status stays and nothing is left to be written, or something is left since the sink refused
abbrev pub IsClosed : Status → List ℕ → Status → Type 0
IsClosed status left last = ((last ≡ status) × (left ≡ [])) ⊎ ((last ≡ SinkFault) × (left ≢ []))

-- A run that ends with the first status ends with the last one, where of the replies that waited these are left when the sink was
-- asked to take them. A fault of the sink or of the bay asks it nothing more.
abbrev pub Closes : Status → List ℕ → List ℕ → Status → Type 0
Closes SinkFault waited left last = (last ≡ SinkFault) × (left ≡ waited)
Closes BayFault waited left last = (last ≡ BayFault) × (left ≡ waited)
Closes Memory waited left last = last ≡ Memory
Closes Done waited left last = IsClosed Done left last
Closes Usage waited left last = IsClosed Usage left last
Closes (Script line column kind) waited left last = IsClosed (Script line column kind) left last
Closes SourceFault waited left last = IsClosed SourceFault left last
Closes TooLong waited left last = IsClosed TooLong left last
