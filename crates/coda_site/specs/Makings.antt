-- What is replied to a line that mounts a disk, by how the mounting ended.
use Rattle.std.specs.Prelude.{◌≡◌, Bool, true, false, [], ◌∷◌}
use Rattle.coda_actors.specs.declared.slot.Mounting.{Mounting}
use Rattle.coda_actors.specs.declared.slot.Mounting.TheVariants.{Entries, Foreign, DiskFault, Memory}
use Rattle.coda_script.specs.declared.line.Line.{Line}
use Rattle.coda_script.specs.declared.line.Line.TheVariants as line
use Rattle.coda_script.specs.declared.reply.Reply.{Reply}
use Rattle.coda_script.specs.declared.reply.Reply.TheVariants.{Opened, Recovered}
use Rattle.coda_shelves.specs.Lines.{refused_fault, refused_foreign}

-- the actor is made, with so many entries on its disk; or its disk failed, or is that of another actor
abbrev pub SaysOpened : Mounting → Reply → Type 0
SaysOpened (Entries count) reply = reply ≡ Opened (count ∷ [])
SaysOpened DiskFault reply = reply ≡ refused_fault
SaysOpened (Foreign at) reply = reply ≡ refused_foreign at
SaysOpened Memory reply = ⊥

-- the actor is recovered, with so many entries; or its disk failed, or is that of another actor
abbrev pub SaysRecovered : Mounting → Reply → Type 0
SaysRecovered (Entries count) reply = reply ≡ Recovered count
SaysRecovered DiskFault reply = reply ≡ refused_fault
SaysRecovered (Foreign at) reply = reply ≡ refused_foreign at
SaysRecovered Memory reply = ⊥

-- the line crashes an actor, recovers it, or lets its disk fail
abbrev pub is_disk_line : Line → Bool
is_disk_line (line.CrashClient client choice) = true
is_disk_line (line.CrashReplica server volume choice) = true
is_disk_line (line.RecoverClient client) = true
is_disk_line (line.RecoverReplica server volume) = true
is_disk_line (line.ArmClient client passes) = true
is_disk_line (line.ArmReplica server volume passes) = true
is_disk_line _ = false

-- the lines that may ask the bay for a disk, or for a crash
abbrev pub asks_bay : Line → Bool
asks_bay (line.Volume volume servers area) = true
asks_bay (line.Client client blocks area) = true
asks_bay (line.CrashClient client choice) = true
asks_bay (line.CrashReplica server volume choice) = true
asks_bay _ = false
