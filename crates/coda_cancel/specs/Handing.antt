-- How the version that a client had of an object is handed on from dropped records to later ones.
use Rattle.std.specs.Prelude.{if◌then◌else◌, Option, Some, None}
use Rattle.coda_fid.specs.declared.fid.Fid.{Fid}
use Rattle.coda_fid.specs.declared.fid.Sid.{Sid}
use Rattle.coda_fid.specs.declared.op.Over.{Over}
use Rattle.coda_fid.specs.declared.op.Op.{Op}
use Rattle.coda_fid.specs.declared.op.Op.TheVariants.{Create, Mkdir, Symlink, Store, Setattr, Remove, Rmdir, Rename}
use Rattle.coda_fid.specs.declared.op.Record.{Record}
use Rattle.coda_fid.specs.Fid.{same_fid}

-- the replaced object of a rename, with another kept version
abbrev pub with_over : (Fid → Sid → Sid) → Option Over → Option Over
with_over change None = None
with_over change (Some over) = Some (record { fid = over.fid; pre = change over.fid over.pre })

-- the operation with another kept version, by its object and the version kept so far
abbrev pub with_pre : (Fid → Sid → Sid) → Op → Op
with_pre change (Create dir name fid mode owner) = Create dir name fid mode owner
with_pre change (Mkdir dir name fid mode owner) = Mkdir dir name fid mode owner
with_pre change (Symlink dir name fid target mode owner) = Symlink dir name fid target mode owner
with_pre change (Store fid pre content) = Store fid (change fid pre) content
with_pre change (Setattr fid pre attrs) = Setattr fid (change fid pre) attrs
with_pre change (Remove dir name fid pre) = Remove dir name fid (change fid pre)
with_pre change (Rmdir dir name fid pre) = Rmdir dir name fid (change fid pre)
with_pre change (Rename from_dir from to_dir to fid over) = Rename from_dir from to_dir to fid (with_over change over)

-- for each object the version, if any, that dropped records hand on to the next record that carries one for it
abbrev pub Debt : Type 0
Debt = Fid → Option Sid

-- nothing is owed
abbrev pub nothing : Debt
nothing fid = None

-- of two versions in turn the first: a version owed already was the earlier one
abbrev pub earlier : Option Sid → Sid → Option Sid
earlier (Some owed) pre = Some owed
earlier None pre = Some pre

-- what is owed once a record that carries this is dropped
abbrev pub owe : Debt → Option Over → Debt
owe owed None fid = owed fid
owe owed (Some over) fid = if same_fid fid over.fid then earlier (owed fid) over.pre else owed fid

-- what is owed once a record that carries this is kept
abbrev pub paid : Debt → Option Over → Debt
paid owed None fid = owed fid
paid owed (Some over) fid = if same_fid fid over.fid then None else owed fid

-- the version that is owed, and else the one given
abbrev pub sid_or : Option Sid → Sid → Sid
sid_or (Some owed) pre = owed
sid_or None pre = pre

-- the record with what it is owed
abbrev pub hand : Debt → Record → Record
hand owed rec = record rec { op = with_pre (λ fid pre. sid_or (owed fid) pre) rec.op }
