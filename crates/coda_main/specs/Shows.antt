-- The cell of the code as a machine: what it is between two lines, how a line stops, and what one keeps at which the bay was at fault.
use Rattle.std.specs.Prelude.{◌≡◌, ◌≤◌, ◌++◌, ℕ, Bool, ⊤, nat_lt, List, drop, length, if◌then◌else◌}
use Rattle.coda_disk.specs.Told.{Told}
use Rattle.coda_engine.specs.declared.machine.LineStop.{LineStop}
use Rattle.coda_engine.specs.declared.machine.LineStop.TheVariants.{Refused, Unwritten, Bay, Memory as OutOfMemory}
use Rattle.coda_script.specs.declared.fault.LineFault.{LineFault}
use Rattle.coda_script.specs.declared.fault.LineFault.TheVariants.{BadLine, Memory}
use Rattle.coda_site.specs.Sites.{IsReady, IsClosable}
use Rattle.coda_site.specs.declared.site.Site.{Site}
use Rattle.coda_runs.specs.Shelved.{IsBadLine}
use Rattle.coda_site.specs.Totals.{Counts}

-- What a cell of the code is between two lines: the numbers that are out of its bay, what the disks tell that the bay has, the images that its
-- crashes left, and the site.
pub record Moment (D : Type 0) : Type 1 where
  pub out : ℕ → Bool
  pub has : ℕ → Told
  pub answered : List (List ℕ)
  pub site : Site D

abbrev pub moment : {D : Type 0} → (ℕ → Bool) → (ℕ → Told) → List (List ℕ) → Site D → Moment D
moment out has answered site = record { out = out; has = has; answered = answered; site = site }

-- the site goes on, and gives all disks back that are out
abbrev pub MayGoOn : {D : Type 0} → (D → Told) → Moment D → Type 0
MayGoOn told now = IsReady told now.out now.site

-- the site gives back what it has
abbrev pub MayClose : {D : Type 0} → Moment D → Type 0
MayClose now = IsClosable now.out now.site

-- after so many lines the site goes on, and as many letters were posted at most
abbrev pub MayRun : {D : Type 0} → (D → Told) → Moment D → ℕ → Type 0
MayRun told now lines = MayGoOn told now × (now.site.net.posted ≤ lines)

-- the images that the bay answered from one moment to another
abbrev pub answered_since : {D : Type 0} → Moment D → Moment D → List (List ℕ)
answered_since old new = drop (length old.answered) new.answered

-- how a line stops that wasn't read: as its fault says; a column of 4 GiB or more, which no script has, can't be named
abbrev pub stop_at : LineFault → LineStop
stop_at (BadLine column kind) = if nat_lt column 4294967296 then Refused (record { column = column; kind = kind }) else OutOfMemory
stop_at Memory = OutOfMemory

-- how bytes stop that say no line, or none that is built: as the cell refuses them, or for want of memory
abbrev pub StopsSo : List ℕ → LineStop → Type 0
StopsSo bytes (Refused fault) = IsBadLine bytes fault.column fault.kind
StopsSo bytes Unwritten = ⊥
StopsSo bytes Bay = ⊥
StopsSo bytes OutOfMemory = ⊤

-- how a line stops that was read: the bay refused a call, or there was no memory
abbrev pub StopsWithin : LineStop → Type 0
StopsWithin (Refused fault) = ⊥
StopsWithin Unwritten = ⊥
StopsWithin Bay = ⊤
StopsWithin OutOfMemory = ⊤

-- A line at which the bay was at fault armed no disk, no fault of a disk is forgotten, and the bay answered no image.
pub record BreaksOff {D : Type 0} (old : Moment D) (old_counts : Counts) (new : Moment D) (new_counts : Counts) : Type 0 where
  pub answered : new.answered ≡ old.answered
  pub faults : old_counts.faults ≤ new_counts.faults
  pub arms : new_counts.arms ≡ old_counts.arms
