-- Certification: the checks of an operation, and the first that finds a reason to refuse it.
use Rattle.std.specs.Prelude.{ℕ, Bool, true, false, not, ◌==◌, Option, Some, None, nat_le, List, [], ◌∷◌}
use Rattle.std.specs.FinMap as map
use Rattle.coda_fid.specs.declared.fid.Fid.{Fid}
use Rattle.coda_fid.specs.declared.fid.Sid.{Sid}
use Rattle.coda_fid.specs.declared.op.Over.{Over}
use Rattle.coda_fid.specs.declared.op.Op.{Op}
use Rattle.coda_fid.specs.declared.op.Op.TheVariants.{Create, Mkdir, Symlink, Store, Setattr, Remove, Rmdir, Rename}
use Rattle.coda_fid.specs.Fid.{same_fid, same_sid}
use Rattle.coda_tree.specs.declared.node.Node.{Node}
use Rattle.coda_tree.specs.declared.node.NodeKind.{NodeKind}
use Rattle.coda_tree.specs.declared.node.NodeKind.TheVariants.{File, Link, Dir}
use Rattle.coda_tree.specs.Bindings.{Name}
use Rattle.coda_tree.specs.Volume.{Nodes, child, is_at_fid, is_below}
use Rattle.coda_certify.specs.declared.reason.Reason.{Reason}
use Rattle.coda_certify.specs.declared.reason.Reason.TheVariants.{NoDir, Marked, NoObject, WrongKind, NameTaken, NameOther, FidUsed, Changed, AttrChanged, NotEmpty, Loop, VolumeFull}

-- what is asked of the volume before an operation is applied to it
pub data Check : Type 0 where
  -- a directory stands at the fid
  IsADir : (dir : Fid) → Check
  -- the object at the fid is not marked as in conflict
  IsUnmarked : (fid : Fid) → Check
  -- an object stands at the fid
  IsThere : (fid : Fid) → Check
  -- it is a file
  IsAFile : (fid : Fid) → Check
  -- it is a file or a link
  IsNoDir : (fid : Fid) → Check
  -- it is a directory, where the operation is for one
  IsDirKind : (fid : Fid) → Check
  -- the object is another one than the replaced one
  IsApart : (replaced : Fid) (fid : Fid) → Check
  -- the directory binds nothing at the name
  IsNameFree : (dir : Fid) (name : Name) → Check
  -- the directory binds the object at the name
  IsBoundTo : (dir : Fid) (name : Name) (fid : Fid) → Check
  -- nothing stands at the fid
  IsFidFree : (fid : Fid) → Check
  -- the object is of the version that the client had
  IsOfVersion : (fid : Fid) (pre : Sid) → Check
  -- the object binds nothing
  IsEmptyDir : (fid : Fid) → Check
  -- the object is neither the directory nor above it
  IsNotAbove : (fid : Fid) (dir : Fid) → Check
  -- the volume may have one object more
  HasRoom : Check

-- the checks of a creation, in their order
abbrev pub creation_checks : Fid → Name → Fid → List Check
creation_checks dir name fid = IsADir dir ∷ IsUnmarked dir ∷ IsNameFree dir name ∷ IsFidFree fid ∷ HasRoom ∷ []

-- the checks of a store, in their order
abbrev pub store_checks : Fid → Sid → List Check
store_checks fid pre = IsUnmarked fid ∷ IsThere fid ∷ IsAFile fid ∷ IsOfVersion fid pre ∷ []

-- the checks of a change of attributes, in their order
abbrev pub setattr_checks : Fid → Sid → List Check
setattr_checks fid pre = IsUnmarked fid ∷ IsThere fid ∷ IsOfVersion fid pre ∷ []

-- the checks of the removal of a file or link, in their order
abbrev pub remove_checks : Fid → Name → Fid → Sid → List Check
remove_checks dir name fid pre = IsADir dir ∷ IsUnmarked dir ∷ IsUnmarked fid ∷ IsThere fid ∷ IsNoDir fid ∷ IsBoundTo dir name fid ∷ IsOfVersion fid pre ∷ []

-- the checks of the removal of a directory, in their order
abbrev pub rmdir_checks : Fid → Name → Fid → Sid → List Check
rmdir_checks dir name fid pre = IsADir dir ∷ IsUnmarked dir ∷ IsUnmarked fid ∷ IsThere fid ∷ IsDirKind fid ∷ IsBoundTo dir name fid ∷ IsOfVersion fid pre ∷ IsEmptyDir fid ∷ []

-- the checks of a rename to a free name, in their order
abbrev pub move_checks : Fid → Name → Fid → Name → Fid → List Check
move_checks from_dir from to_dir to fid =
    IsADir from_dir ∷ IsADir to_dir ∷ IsUnmarked from_dir ∷ IsUnmarked to_dir ∷ IsUnmarked fid
    ∷ IsThere fid ∷ IsNameFree to_dir to ∷ IsBoundTo from_dir from fid ∷ IsNotAbove fid to_dir ∷ []

-- the checks of a rename that replaces an object, in their order
abbrev pub replace_checks : Fid → Name → Fid → Name → Fid → Over → List Check
replace_checks from_dir from to_dir to fid over =
    IsADir from_dir ∷ IsADir to_dir ∷ IsUnmarked from_dir ∷ IsUnmarked to_dir ∷ IsUnmarked fid ∷ IsUnmarked over.fid
    ∷ IsThere fid ∷ IsThere over.fid ∷ IsNoDir over.fid ∷ IsNoDir fid ∷ IsApart over.fid fid
    ∷ IsBoundTo from_dir from fid ∷ IsBoundTo to_dir to over.fid ∷ IsOfVersion over.fid over.pre ∷ IsNotAbove fid to_dir ∷ []

-- the checks of a rename, by what it replaces
abbrev pub rename_checks : Fid → Name → Fid → Name → Fid → Option Over → List Check
rename_checks from_dir from to_dir to fid None = move_checks from_dir from to_dir to fid
rename_checks from_dir from to_dir to fid (Some over) = replace_checks from_dir from to_dir to fid over

-- the checks of an operation, in their order
abbrev pub checks : Op → List Check
checks (Create dir name fid mode owner) = creation_checks dir name fid
checks (Mkdir dir name fid mode owner) = creation_checks dir name fid
checks (Symlink dir name fid target mode owner) = creation_checks dir name fid
checks (Store fid pre content) = store_checks fid pre
checks (Setattr fid pre attrs) = setattr_checks fid pre
checks (Remove dir name fid pre) = remove_checks dir name fid pre
checks (Rmdir dir name fid pre) = rmdir_checks dir name fid pre
checks (Rename from_dir from to_dir to fid over) = rename_checks from_dir from to_dir to fid over

-- ---- what each check finds, by what it looks at

-- a reason where a test passes
abbrev pub where_true : Bool → Reason → Option Reason
where_true true why = Some why
where_true false why = None

-- whether a node of this kind is something else than a directory
abbrev pub is_no_dir : NodeKind → Bool
is_no_dir (File content) = true
is_no_dir (Link target) = true
is_no_dir (Dir entries) = false

-- whether a node of this kind is a directory
abbrev pub is_dir : NodeKind → Bool
is_dir (File content) = false
is_dir (Link target) = false
is_dir (Dir entries) = true

-- whether a node of this kind is something else than a file
abbrev pub is_no_file : NodeKind → Bool
is_no_file (File content) = false
is_no_file (Link target) = true
is_no_file (Dir entries) = true

-- no directory stands there
abbrev pub no_dir_of : Option Node → Fid → Option Reason
no_dir_of None dir = Some (NoDir dir)
no_dir_of (Some node) dir = where_true (is_no_dir node.kind) (NoDir dir)

-- what stands there is marked
abbrev pub marked_of : Option Node → Fid → Option Reason
marked_of None fid = None
marked_of (Some node) fid = where_true node.marked (Marked fid)

-- nothing stands there
abbrev pub no_object_of : Option Node → Fid → Option Reason
no_object_of None fid = Some (NoObject fid)
no_object_of (Some node) fid = None

-- what stands there is of a wrong kind
abbrev pub wrong_kind_of : (NodeKind → Bool) → Option Node → Fid → Option Reason
wrong_kind_of wrong None fid = None
wrong_kind_of wrong (Some node) fid = where_true (wrong node.kind) (WrongKind fid)

-- the replaced object is the moved one
abbrev pub same_object_of : Fid → Fid → Option Reason
same_object_of replaced fid = where_true (same_fid replaced fid) (WrongKind fid)

-- the name is bound
abbrev pub name_taken_of : Option Fid → Option Reason
name_taken_of None = None
name_taken_of (Some found) = Some (NameTaken found)

-- the name is bound to something else, or to nothing
abbrev pub name_other_of : Option Fid → Fid → Option Reason
name_other_of bound fid = where_true (not (is_at_fid bound fid)) (NameOther bound)

-- something stands there
abbrev pub fid_used_of : Option Node → Fid → Option Reason
fid_used_of None fid = None
fid_used_of (Some node) fid = Some (FidUsed fid)

-- how a change since the client's version is told: of a directory only the attributes have one
abbrev pub change_of : NodeKind → Sid → Sid → Reason
change_of (File content) kept found = Changed kept found
change_of (Link target) kept found = Changed kept found
change_of (Dir entries) kept found = AttrChanged kept found

-- what stands there is of another version
abbrev pub version_of : Option Node → Sid → Option Reason
version_of None pre = None
version_of (Some node) pre = where_true (not (same_sid node.sid pre)) (change_of node.kind pre node.sid)

-- a node of this kind binds something
abbrev pub not_empty_in : NodeKind → Option Reason
not_empty_in (File content) = None
not_empty_in (Link target) = None
not_empty_in (Dir entries) = where_true (not (map.len entries == 0)) NotEmpty

-- what stands there binds something
abbrev pub not_empty_of : Option Node → Option Reason
not_empty_of None = None
not_empty_of (Some node) = not_empty_in node.kind

-- the directory stands at or below the object
abbrev pub loop_of : Bool → Option Reason
loop_of below = where_true below Loop

-- so many objects are all that a volume may have
abbrev pub full_of : ℕ → Option Reason
full_of count = where_true (nat_le 100000 count) (VolumeFull count)

-- what a check finds in a volume: nothing, or a reason to refuse
abbrev pub reason_of : Nodes → Check → Option Reason
reason_of m (IsADir dir) = no_dir_of (map.get m dir) dir
reason_of m (IsUnmarked fid) = marked_of (map.get m fid) fid
reason_of m (IsThere fid) = no_object_of (map.get m fid) fid
reason_of m (IsAFile fid) = wrong_kind_of is_no_file (map.get m fid) fid
reason_of m (IsNoDir fid) = wrong_kind_of is_dir (map.get m fid) fid
reason_of m (IsDirKind fid) = wrong_kind_of is_no_dir (map.get m fid) fid
reason_of m (IsApart replaced fid) = same_object_of replaced fid
reason_of m (IsNameFree dir name) = name_taken_of (child m dir name)
reason_of m (IsBoundTo dir name fid) = name_other_of (child m dir name) fid
reason_of m (IsFidFree fid) = fid_used_of (map.get m fid) fid
reason_of m (IsOfVersion fid pre) = version_of (map.get m fid) pre
reason_of m (IsEmptyDir fid) = not_empty_of (map.get m fid)
reason_of m (IsNotAbove fid dir) = loop_of (is_below m dir fid)
reason_of m HasRoom = full_of (map.len m)

-- ---- the first reason

infixr 5 ◌otherwise◌
-- the first reason that there is
abbrev pub ◌otherwise◌ : Option Reason → Option Reason → Option Reason
None otherwise o = o
(Some why) otherwise o = Some why

-- the first reason that the checks find in turn
abbrev pub first_reason : Nodes → List Check → Option Reason
first_reason m [] = None
first_reason m (c ∷ cs) = reason_of m c otherwise first_reason m cs

-- the first reason to refuse an operation, or none
unfoldable pub certify : Nodes → Op → Option Reason
certify m op = first_reason m (checks op)
