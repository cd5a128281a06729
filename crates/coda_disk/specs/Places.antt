-- The places of a bay in memory, and the marks of a bay of files.
use Rattle.std.specs.Prelude.{Bool, true, false, [], Option, None, Some}
use Rattle.coda_disk.specs.Told.{Told}
use Rattle.coda_disk.specs.Memory.{told_of}
use Rattle.coda_disk.specs.declared.calls.Past.TheVariants.{Made}
use Rattle.coda_disk.specs.declared.memory.MemDisk.{MemDisk}

-- what a disk in memory tells
abbrev pub told : MemDisk → Told
told disk = told_of disk.past disk.synced.items disk.calls.items

-- a number is out where its place is empty
abbrev pub is_out : Option (Option MemDisk) → Bool
is_out None = false
is_out (Some None) = true
is_out (Some (Some disk)) = false

-- a number without a place has an empty disk
abbrev pub told_at : Option (Option MemDisk) → Told
told_at None = told_of Made [] []
told_at (Some None) = told_of Made [] []
told_at (Some (Some disk)) = told disk

abbrev pub has_disk : Option (Option MemDisk) → Bool
has_disk None = false
has_disk (Some None) = false
has_disk (Some (Some disk)) = true

-- a number is out where it is marked so
abbrev pub is_marked : Option Bool → Bool
is_marked None = false
is_marked (Some is) = is
