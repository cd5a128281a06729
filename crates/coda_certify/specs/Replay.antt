-- What an operation does to a volume, and the replay of a list of records.
use Rattle.std.specs.Prelude.{◌≡◌, ℕ, false, Option, Some, None, option_map, Result, Ok, Err, List, [], ◌∷◌}
use Rattle.std.specs.FinMap as map
use Rattle.coda_fid.specs.declared.fid.Fid.{Fid}
use Rattle.coda_fid.specs.declared.fid.Sid.{Sid}
use Rattle.coda_fid.specs.declared.op.Record.{Record}
use Rattle.coda_fid.specs.declared.op.Op.{Op}
use Rattle.coda_fid.specs.declared.op.Over.{Over}
use Rattle.coda_fid.specs.declared.op.Op.TheVariants.{Create, Mkdir, Symlink, Store, Setattr, Remove, Rmdir, Rename}
use Rattle.coda_tree.specs.declared.node.Node.{Node}
use Rattle.coda_tree.specs.declared.node.NodeKind.{NodeKind}
use Rattle.coda_tree.specs.declared.node.NodeKind.TheVariants.{File, Link, Dir}
use Rattle.coda_tree.specs.Bindings.{Name}
use Rattle.coda_tree.specs.Volume.{Nodes, child, IsDirAt, Edit, Write, additions, removals, moves, replacements, content_patch, attrs_patch, edited_all}
use Rattle.coda_certify.specs.declared.reason.Reason.{Reason}
use Rattle.coda_certify.specs.Checks.{certify}

-- a node that a creation puts: of this time and version, and not marked
abbrev pub made : NodeKind → ℕ → ℕ → ℕ → Sid → Node
made kind mode owner time sid = record { kind = kind; mode = mode; owner = owner; mtime = time; sid = sid; marked = false }

-- the empty file that a creation puts
abbrev pub empty_file : ℕ → ℕ → ℕ → Sid → Node
empty_file mode owner time sid = made (File []) mode owner time sid

-- the empty directory that a creation puts
abbrev pub empty_dir : ℕ → ℕ → ℕ → Sid → Node
empty_dir mode owner time sid = made (Dir map.empty) mode owner time sid

-- the link that a creation puts
abbrev pub new_link : List ℕ → ℕ → ℕ → ℕ → Sid → Node
new_link target mode owner time sid = made (Link target) mode owner time sid

-- the edits that a rename is, by what it replaces
abbrev pub rename_effects : Fid → Name → Fid → Name → Fid → Option Over → List Edit
rename_effects from_dir from to_dir to fid None = moves from_dir from to_dir to fid
rename_effects from_dir from to_dir to fid (Some over) = replacements over.fid from_dir from to_dir to fid

-- the edits that an operation of this time and name is
abbrev pub effects : ℕ → Sid → Op → List Edit
effects time sid (Create dir name fid mode owner) = additions dir name fid (empty_file mode owner time sid)
effects time sid (Mkdir dir name fid mode owner) = additions dir name fid (empty_dir mode owner time sid)
effects time sid (Symlink dir name fid target mode owner) = additions dir name fid (new_link target mode owner time sid)
effects time sid (Store fid pre content) = Write fid (content_patch content time) sid ∷ []
effects time sid (Setattr fid pre attrs) = Write fid (attrs_patch attrs) sid ∷ []
effects time sid (Remove dir name fid pre) = removals dir name fid
effects time sid (Rmdir dir name fid pre) = removals dir name fid
effects time sid (Rename from_dir from to_dir to fid over) = rename_effects from_dir from to_dir to fid over

-- what a creation may rely on once it is certified: a directory is there, and name and fid are free
pub record MayCreate (m : Nodes) (dir : Fid) (name : Name) (fid : Fid) : Type 0 where
  pub dir_there : IsDirAt m dir
  pub name_free : child m dir name ≡ None
  pub fid_free : map.get m fid ≡ None

-- what a removal may rely on once it is certified: a directory binds the object at the name, and the object binds nothing
pub record MayRemove (m : Nodes) (dir : Fid) (name : Name) (fid : Fid) : Type 0 where
  pub dir_there : IsDirAt m dir
  pub bound : child m dir name ≡ Some fid
  pub leaf : (n : Name) → child m fid n ≡ None

-- what a rename may rely on: both directories are there, and the new name is bound to what is replaced
pub record MayRename (m : Nodes) (from_dir : Fid) (to_dir : Fid) (to : Name) (over : Option Over) : Type 0 where
  pub from_there : IsDirAt m from_dir
  pub to_there : IsDirAt m to_dir
  pub bound : child m to_dir to ≡ option_map (λ (o : Over). o.fid) over

-- what an operation may rely on once it is certified, where it is applied to copies of nodes
abbrev pub MayApply : Nodes → Op → Type 0
MayApply m (Create dir name fid mode owner) = MayCreate m dir name fid
MayApply m (Mkdir dir name fid mode owner) = MayCreate m dir name fid
MayApply m (Symlink dir name fid target mode owner) = MayCreate m dir name fid
MayApply m (Store fid pre content) = Unit {0}
MayApply m (Setattr fid pre attrs) = Unit {0}
MayApply m (Remove dir name fid pre) = IsDirAt m dir
MayApply m (Rmdir dir name fid pre) = IsDirAt m dir
MayApply m (Rename from_dir from to_dir to fid over) = MayRename m from_dir to_dir to over

-- the name of a client's operation
abbrev pub sid_of : ℕ → Record → Sid
sid_of client rec = record { client = client; number = rec.number }

-- the nodes after a client's operation
unfoldable pub applied : Nodes → ℕ → Record → Nodes
applied m client rec = edited_all m (effects rec.time (sid_of client rec) rec.op)

-- the nodes that a replay leaves, or the number and the reason of the record that it refuses
abbrev pub Replayed : Type 0
Replayed = Result Nodes (ℕ × Reason)

-- the rest of a replay, unless this record is refused
abbrev pub unless_refused : Option Reason → ℕ → Replayed → Replayed
unless_refused None number rest = rest
unless_refused (Some why) number rest = Err (number, why)

-- a client's records certified and applied, one after the other, up to the first that is refused
abbrev pub replay : Nodes → ℕ → List Record → Replayed
replay m client [] = Ok m
replay m client (rec ∷ recs) = unless_refused (certify m rec.op) rec.number (replay (applied m client rec) client recs)
