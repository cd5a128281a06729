-- Cancellation at one object, over whatever a client caches.
use Rattle.std.specs.Prelude.{◌≡◌, ℕ, true, false, Option, List, [], ◌++◌}
use Rattle.coda_fid.specs.declared.fid.Fid.{Fid}
use Rattle.coda_fid.specs.declared.op.Record.{Record}
use Rattle.coda_tree.specs.declared.node.Node.{Node}
use Rattle.coda_cancel.specs.Cancel.{add, added, fold}
use Rattle.coda_cancel.specs.Dropping.{mentioning, creates}
use Rattle.coda_cml.specs.Steady.{any_record}
use Rattle.coda_overlay.specs.Objects.{operated_at}
use Rattle.coda_overlay.specs.Overlaying.{FindsItsNames, Overlays, IsOverlaid, Predates, RemovesInPlace}
use Rattle.coda_overlay.specs.Overlaying.{AllRemoveInPlace, PredatesOperation, takes_out, EndsTakenOut}
use Rattle.coda_overlay.specs.Overlaying.{IsTailNew}

-- Where a log leaves a copy of an object as it is, the log with one operation more, which finds its names there and
-- removes in place, leaves what the operation makes of it.
abbrev pub AdditionsOverlay : Type 0
AdditionsOverlay =
    (f : Fid) (client : ℕ) (given now : Option Node) (log : List Record) (rec : Record)
    → IsOverlaid f client given log now → FindsItsNames f now rec.op → RemovesInPlace log rec.op
    → PredatesOperation f given rec.op
    → IsOverlaid f client given (add log rec) (operated_at f client rec now)

-- Where a chunk and the tail behind it leave a copy as it is, the tail added to the chunk leaves it so too.
abbrev pub ThawsOverlay : Type 0
ThawsOverlay = (f : Fid) (client : ℕ) (given now : Option Node) (chunk tail : List Record)
    → IsOverlaid f client given (chunk ++ tail) now → AllRemoveInPlace chunk tail
    → IsOverlaid f client given (added chunk tail) now

-- What cancellation leaves of a run of operations makes of a copy what the run makes of it.
abbrev pub FoldsOverlay : Type 0
FoldsOverlay = (f : Fid) (client : ℕ) (given now : Option Node) (run : List Record)
    → IsOverlaid f client given run now → AllRemoveInPlace [] run → IsOverlaid f client given (fold run) now

-- A copy whose object no record of the log mentions is as it was given.
abbrev pub UnmentionedCopiesAreAsGiven : Type 0
UnmentionedCopiesAreAsGiven = (f : Fid) (client : ℕ) (given now : Option Node) (log : List Record)
    → Overlays f client given log now → any_record (mentioning f) log ≡ false → now ≡ given

-- A chunk that doesn't mention an object may be left out in front: the tail alone makes of the copy what both made.
abbrev pub UnrelatedFrontsGo : Type 0
UnrelatedFrontsGo = (f : Fid) (client : ℕ) (given now : Option Node) (chunk tail : List Record)
    → Overlays f client given (chunk ++ tail) now → any_record (mentioning f) chunk ≡ false
    → Overlays f client given tail now

-- Where a chunk and the tail behind it leave a copy as it is, and the tail creates nothing that the chunk mentions, the
-- chunk and the tail with one operation more, which finds its names there and removes in place in the tail, leave what
-- the operation makes of it.
abbrev pub AdditionsBehindChunksOverlay : Type 0
AdditionsBehindChunksOverlay =
    (f : Fid) (client : ℕ) (given now : Option Node) (chunk tail : List Record) (rec : Record)
    → Overlays f client given (chunk ++ tail) now → Predates f given tail → IsTailNew chunk tail
    → FindsItsNames f now rec.op → RemovesInPlace tail rec.op → PredatesOperation f given rec.op
    → Overlays f client given (chunk ++ add tail rec) (operated_at f client rec now) × Predates f given (add tail rec)

-- A log that doesn't mention an object leaves its copy as it was given.
abbrev pub UnmentionedCopiesStay : Type 0
UnmentionedCopiesStay = (f : Fid) (client : ℕ) (given : Option Node) (log : List Record)
    → any_record (mentioning f) log ≡ false → Overlays f client given log given

-- A log that takes an object out, and doesn't create it, takes it out still when a run is added to it.
abbrev pub TakenOutStays : Type 0
TakenOutStays = (f : Fid) (log run : List Record) → any_record (creates f) (log ++ run) ≡ false
    → any_record (takes_out f) (log ++ run) ≡ true → any_record (takes_out f) (added log run) ≡ true

-- An object that a log mentions is taken out by the last record that mentions it: once an operation takes it out, as long
-- as further ones don't mention it, and when a tail is added to the chunk in front of it.
pub record EndsStayTakenOut : Type 0 where
  pub taken : (f : Fid) (log : List Record) (rec : Record) → takes_out f rec.op ≡ true
      → any_record (mentioning f) (add log rec) ≡ true → EndsTakenOut f (add log rec)
  pub stays : (f : Fid) (log : List Record) (rec : Record) → EndsTakenOut f log → mentioning f rec.op ≡ false
      → EndsTakenOut f (add log rec)
  pub thawed : (f : Fid) (chunk tail : List Record) → EndsTakenOut f (chunk ++ tail)
      → any_record (mentioning f) (added chunk tail) ≡ true → EndsTakenOut f (added chunk tail)

-- Without the premise that removals are in place the law on additions is false.
abbrev pub PlacesMatter : Type 0
PlacesMatter =
    ((f : Fid) (client : ℕ) (given now : Option Node) (log : List Record) (rec : Record)
    → IsOverlaid f client given log now → FindsItsNames f now rec.op → PredatesOperation f given rec.op
    → IsOverlaid f client given (add log rec) (operated_at f client rec now))
    → ⊥
