-- Which earlier records an operation makes needless.
use Rattle.std.specs.Prelude.{ℕ, Bool, true, false, not, ◌&&◌, Option, Some, None, is_some}
use Rattle.coda_fid.specs.declared.fid.Fid.{Fid}
use Rattle.coda_fid.specs.declared.op.Attrs.{Attrs}
use Rattle.coda_fid.specs.declared.op.Over.{Over}
use Rattle.coda_fid.specs.declared.op.Op.{Op}
use Rattle.coda_fid.specs.declared.op.Op.TheVariants.{Create, Mkdir, Symlink, Store, Setattr, Remove, Rmdir, Rename}
use Rattle.coda_fid.specs.Fid.{same_fid}
use Rattle.coda_fid.specs.Op.{mentions}

-- whether an operation mentions the object
abbrev pub mentioning : Fid → Op → Bool
mentioning fid op = mentions op fid

-- whether an operation creates the object
abbrev pub creates : Fid → Op → Bool
creates fid (Create dir name it mode owner) = same_fid it fid
creates fid (Mkdir dir name it mode owner) = same_fid it fid
creates fid (Symlink dir name it target mode owner) = same_fid it fid
creates fid (Store it pre content) = false
creates fid (Setattr it pre attrs) = false
creates fid (Remove dir name it pre) = false
creates fid (Rmdir dir name it pre) = false
creates fid (Rename from_dir from to_dir to it over) = false

-- whether an operation stores the object
abbrev pub stores : Fid → Op → Bool
stores fid (Store it pre content) = same_fid it fid
stores fid _ = false

-- whether an operation stores the object or sets attributes of it
abbrev pub writes : Fid → Op → Bool
writes fid (Create dir name it mode owner) = false
writes fid (Mkdir dir name it mode owner) = false
writes fid (Symlink dir name it target mode owner) = false
writes fid (Store it pre content) = same_fid it fid
writes fid (Setattr it pre attrs) = same_fid it fid
writes fid (Remove dir name it pre) = false
writes fid (Rmdir dir name it pre) = false
writes fid (Rename from_dir from to_dir to it over) = false

-- whether a part that was set is set again
abbrev pub part_covers : Option ℕ → Option ℕ → Bool
part_covers (Some value) before = true
part_covers None before = not (is_some before)

-- whether each part that was set before is set again
abbrev pub covers : Attrs → Attrs → Bool
covers attrs before = part_covers attrs.mode before.mode && (part_covers attrs.owner before.owner && part_covers attrs.mtime before.mtime)

-- whether an operation sets attributes of the object, and no part that these don't set
abbrev pub is_covered : Fid → Attrs → Op → Bool
is_covered fid attrs (Setattr it pre before) = same_fid it fid && covers attrs before
is_covered fid attrs _ = false

-- whether an operation writes the replaced object, where there is one
abbrev pub writes_over : Option Over → Op → Bool
writes_over None op = false
writes_over (Some over) op = writes over.fid op

-- whether an operation makes an earlier one needless: a Store the Stores of its object, a Setattr the Setattrs that it covers, a removal the Stores and Setattrs of what goes, and so does a Rename with what it replaces
abbrev pub drops : Op → Op → Bool
drops (Create dir name fid mode owner) op = false
drops (Mkdir dir name fid mode owner) op = false
drops (Symlink dir name fid target mode owner) op = false
drops (Store fid pre content) op = stores fid op
drops (Setattr fid pre attrs) op = is_covered fid attrs op
drops (Remove dir name fid pre) op = writes fid op
drops (Rmdir dir name fid pre) op = writes fid op
drops (Rename from_dir from to_dir to fid over) op = writes_over over op
