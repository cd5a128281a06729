-- The texts of a log's records.
use Rattle.std.specs.Prelude.{ℕ, List, [], ◌∷◌, ◌++◌, length, codes, Option, Some, None}
use Rattle.std.specs.Fmt.{decimal}
use Rattle.coda_fid.specs.Fid.{fid_text, sid_text}
use Rattle.coda_fid.specs.declared.fid.Fid.{Fid}
use Rattle.coda_fid.specs.declared.fid.Sid.{Sid}
use Rattle.coda_fid.specs.declared.op.Attrs.{Attrs}
use Rattle.coda_fid.specs.declared.op.Over.{Over}
use Rattle.coda_fid.specs.declared.op.Op.{Op}
use Rattle.coda_fid.specs.declared.op.Op.TheVariants.{Create, Mkdir, Symlink, Store, Setattr, Remove, Rmdir, Rename}
use Rattle.coda_fid.specs.declared.op.Record.{Record}
use Rattle.coda_text.specs.Texts.{printed}
use Rattle.coda_report.specs.Printing.{line, text_of_content, mode_text}

-- a directory and a name in it
abbrev pub place_text : Fid → List ℕ → List ℕ
place_text dir name = fid_text dir ++ 32 ∷ printed name

-- an object with the version of it that the client had
abbrev pub version_text : Fid → Sid → List ℕ
version_text fid pre = fid_text fid ++ codes " pre " ++ sid_text pre

-- where a new object is bound, its fid, mode and owner
abbrev pub made_text : Fid → List ℕ → Fid → ℕ → ℕ → List ℕ
made_text dir name fid mode owner = place_text dir name ++ 32 ∷ fid_text fid ++ 32 ∷ mode_text mode ++ 32 ∷ decimal owner

-- where an object that goes is bound, and its version
abbrev pub gone_text : Fid → List ℕ → Fid → Sid → List ℕ
gone_text dir name fid pre = place_text dir name ++ 32 ∷ version_text fid pre

-- where an object was bound, and where it is to be
abbrev pub move_text : Fid → List ℕ → Fid → List ℕ → List ℕ
move_text from_dir from to_dir to = place_text from_dir from ++ 32 ∷ place_text to_dir to

-- a mode that is set
abbrev pub set_mode_text : Option ℕ → List ℕ
set_mode_text None = []
set_mode_text (Some mode) = codes " mode " ++ mode_text mode

-- an owner that is set
abbrev pub set_owner_text : Option ℕ → List ℕ
set_owner_text None = []
set_owner_text (Some owner) = codes " owner " ++ decimal owner

-- a time that is set
abbrev pub set_mtime_text : Option ℕ → List ℕ
set_mtime_text None = []
set_mtime_text (Some mtime) = codes " mtime " ++ decimal mtime

-- the attributes that are set
abbrev pub attrs_text : Attrs → List ℕ
attrs_text attrs = set_mode_text attrs.mode ++ set_owner_text attrs.owner ++ set_mtime_text attrs.mtime

-- the object that a rename replaces, where there is one
abbrev pub over_text : Option Over → List ℕ
over_text None = []
over_text (Some over) = codes " over " ++ version_text over.fid over.pre

-- an operation: its word, and what it carries
abbrev pub op_text : Op → List ℕ
op_text (Create dir name fid mode owner) = codes "create " ++ made_text dir name fid mode owner
op_text (Mkdir dir name fid mode owner) = codes "mkdir " ++ made_text dir name fid mode owner
op_text (Symlink dir name fid target mode owner) = codes "symlink " ++ made_text dir name fid mode owner ++ 32 ∷ text_of_content target
op_text (Store fid pre content) = codes "store " ++ version_text fid pre ++ 32 ∷ decimal (length content) ++ 32 ∷ text_of_content content
op_text (Setattr fid pre attrs) = codes "setattr " ++ version_text fid pre ++ attrs_text attrs
op_text (Remove dir name fid pre) = codes "remove " ++ gone_text dir name fid pre
op_text (Rmdir dir name fid pre) = codes "rmdir " ++ gone_text dir name fid pre
op_text (Rename from_dir from to_dir to fid over) = codes "rename " ++ move_text from_dir from to_dir to ++ 32 ∷ fid_text fid ++ over_text over

-- the line of a record: its number and its operation
abbrev pub record_line : Record → List ℕ
record_line entry = line (decimal entry.number ++ 32 ∷ op_text entry.op)
