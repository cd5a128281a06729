-- What an operation names, carries and weighs.
use Rattle.std.specs.Prelude.{ℕ, ◌+◌, Bool, if◌then◌else◌, Option, Some, None, List, [], ◌∷◌, length}
use Rattle.std.specs.List.{list_any}
use Rattle.coda_fid.specs.declared.fid.Fid.{Fid}
use Rattle.coda_fid.specs.declared.fid.Sid.{Sid}
use Rattle.coda_fid.specs.declared.op.Over.{Over}
use Rattle.coda_fid.specs.declared.op.Op.{Op}
use Rattle.coda_fid.specs.declared.op.Op.TheVariants.{Create, Mkdir, Symlink, Store, Setattr, Remove, Rmdir, Rename}
use Rattle.coda_fid.specs.Fid.{same_fid}

-- the fid of a replaced object, where there is one
abbrev pub over_fids : Option Over → List Fid
over_fids None = []
over_fids (Some over) = over.fid ∷ []

-- the fids among the fields, in their order
abbrev pub fids_of : Op → List Fid
fids_of (Create dir name fid mode owner) = dir ∷ fid ∷ []
fids_of (Mkdir dir name fid mode owner) = dir ∷ fid ∷ []
fids_of (Symlink dir name fid target mode owner) = dir ∷ fid ∷ []
fids_of (Store fid pre content) = fid ∷ []
fids_of (Setattr fid pre attrs) = fid ∷ []
fids_of (Remove dir name fid pre) = dir ∷ fid ∷ []
fids_of (Rmdir dir name fid pre) = dir ∷ fid ∷ []
fids_of (Rename from_dir from to_dir to fid over) = from_dir ∷ to_dir ∷ fid ∷ over_fids over

-- whether a fid is among the fields
abbrev pub mentions : Op → Fid → Bool
mentions op fid = list_any (λ f. same_fid f fid) (fids_of op)

-- an object with the version of it that the client had
abbrev pub seen_at : Fid → Sid → Option Over
seen_at fid pre = Some (record { fid = fid; pre = pre })

-- the object that an operation has a kept version for, with that version
abbrev pub carried : Op → Option Over
carried (Create dir name fid mode owner) = None
carried (Mkdir dir name fid mode owner) = None
carried (Symlink dir name fid target mode owner) = None
carried (Store fid pre content) = seen_at fid pre
carried (Setattr fid pre attrs) = seen_at fid pre
carried (Remove dir name fid pre) = seen_at fid pre
carried (Rmdir dir name fid pre) = seen_at fid pre
carried (Rename from_dir from to_dir to fid over) = over

-- the version kept for an object, where it is the one carried
abbrev pub kept_for : Option Over → Fid → Option Sid
kept_for None fid = None
kept_for (Some over) fid = if same_fid over.fid fid then Some over.pre else None

-- the version that an operation has kept for an object
abbrev pub pre_of : Op → Fid → Option Sid
pre_of op fid = kept_for (carried op) fid

-- the bytes of the names, of the target and of the content of an operation
abbrev pub bytes_of : Op → ℕ
bytes_of (Create dir name fid mode owner) = length name
bytes_of (Mkdir dir name fid mode owner) = length name
bytes_of (Symlink dir name fid target mode owner) = length name + length target
bytes_of (Store fid pre content) = length content
bytes_of (Setattr fid pre attrs) = 0
bytes_of (Remove dir name fid pre) = length name
bytes_of (Rmdir dir name fid pre) = length name
bytes_of (Rename from_dir from to_dir to fid over) = length from + length to

-- what the record of an operation weighs
abbrev pub weight_of : Op → ℕ
weight_of op = 64 + bytes_of op
