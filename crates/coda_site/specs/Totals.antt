-- What the disks of a cell count, those that its bay has and those that are out in slots.
use Rattle.std.specs.Prelude.{◌≡◌, ◌≤◌, ◌+◌, ℕ, Bool, true, false, ◌&&◌, if◌then◌else◌, Result, Ok}
use Rattle.std.specs.BTreeMap.{BTreeMap}
use Rattle.coda_io.specs.Faults.{counted, Rose}
use Rattle.coda_disk.specs.Bays.{plus}
use Rattle.coda_disk.specs.Told.{Told}
use Rattle.coda_actors.specs.Clients.{client_form}
use Rattle.coda_actors.specs.Form.{Form}
use Rattle.coda_actors.specs.Replicas.{replica_form}
use Rattle.coda_actors.specs.Slots.{count_in}
use Rattle.coda_actors.specs.declared.slot.Slot.{Slot}
use Rattle.coda_crew.specs.Crews.{sum_of}
use Rattle.coda_script.specs.declared.line.Line.{Line}
use Rattle.coda_script.specs.declared.line.Line.TheVariants as line
use Rattle.coda_script.specs.declared.reply.Reply.{Reply}
use Rattle.coda_script.specs.declared.reply.Reply.TheVariants.{Accepted}
use Rattle.coda_shelves.specs.Lines.{refused_fault}
use Rattle.coda_site.specs.declared.fault.CellFault.{CellFault}
use Rattle.coda_site.specs.declared.site.Site.{Site}

-- ---- counts

-- how many calls of disks failed, and how many `arm` calls there were
pub record Counts : Type 0 where
  pub faults : ℕ
  pub arms : ℕ

-- What a call did was counted: the faults never fall, and where it failed for one they rose; one `arm` call more where it armed a disk, and else as
-- many as before.
pub record IsCounted (failed : Type 0) (armed : Bool) (old new : Counts) : Type 0 where
  pub later : old.faults ≤ new.faults
  pub cause : failed → Rose old.faults new.faults
  pub arms : new.arms ≡ (if armed then counted old.arms else old.arms)

-- ---- the counts of disks

-- what the disk of a slot counts
abbrev pub counts_in : {A D : Type 0} → Form A D → (D → ℕ) → (D → ℕ) → Slot A D → Counts
counts_in form faults arms slot = record { faults = count_in form faults slot; arms = count_in form arms slot }

-- what the disks of all slots of a crew count together
abbrev pub counts_of : {A D : Type 0} → Form A D → (D → ℕ) → (D → ℕ) → BTreeMap ℕ (Slot A D) → Counts
counts_of form faults arms slots = record { faults = sum_of (count_in form faults) slots.entries; arms = sum_of (count_in form arms) slots.entries }

-- a sum of the bay, with what the disks count that are out in slots, up to the last value of a sum
abbrev pub total : {D : Type 0} → (D → Told) → (D → ℕ) → ℕ → Site D → ℕ
total told count sum site = plus sum (sum_of (count_in (client_form told) count) site.clients.entries + sum_of (count_in (replica_form told) count) site.replicas.entries)

-- The totals of a cell: its bay's sums of the faults and of the `arm` calls of disks, with those of the disks that are out.
abbrev pub totals : {D : Type 0} → (D → Told) → (D → ℕ) → (D → ℕ) → ℕ → ℕ → Site D → Counts
totals told faults arms disk_faults disk_arms site = record { faults = total told faults disk_faults site; arms = total told arms disk_arms site }

-- ---- what replies say

-- the reply is that a disk failed
abbrev pub IsFault : Result Reply CellFault → Type 0
IsFault result = result ≡ Ok refused_fault

-- the reply is `ok`
abbrev pub is_ok : Result Reply CellFault → Bool
is_ok (Ok Accepted) = true
is_ok _ = false

-- the line asks that a disk be armed
abbrev pub is_arming : Line → Bool
is_arming (line.ArmClient client passes) = true
is_arming (line.ArmReplica server volume passes) = true
is_arming _ = false

-- the line armed a disk
abbrev pub has_armed : Line → Result Reply CellFault → Bool
has_armed said result = is_arming said && is_ok result
