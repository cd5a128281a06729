-- What a check that finds nothing says, and what a certified operation may rely on.
use Rattle.std.proofs.Common.{◌≡◌, ◌≢◌, Bool, true, false, not, List, [], ◌∷◌, Option, Some, None, refl, ap, ◌∙◌, arith}
use Rattle.std.specs.FinMap as map
use Rattle.std.proofs.lemmas.Bool.Decides.{nat_tests}
use Rattle.coda_fid.specs.Name.{name_cmp}
use Rattle.coda_fid.specs.Fid.{same_fid}
use Rattle.coda_fid.specs.declared.fid.Fid.{Fid}
use Rattle.coda_fid.specs.declared.fid.Sid.{Sid}
use Rattle.coda_fid.specs.declared.op.Over.{Over}
use Rattle.coda_fid.specs.declared.op.Op.{Op}
use Rattle.coda_fid.specs.declared.op.Op.TheVariants.{Create, Mkdir, Symlink, Store, Setattr, Remove, Rmdir, Rename}
use Rattle.coda_fid.proofs.Fids.{same_fid_is, same_fid_refl}
use Rattle.coda_tree.specs.declared.node.Node.{Node}
use Rattle.coda_tree.specs.declared.node.NodeKind.{NodeKind}
use Rattle.coda_tree.specs.declared.node.NodeKind.TheVariants.{File, Link, Dir}
use Rattle.coda_tree.specs.Bindings.{Name}
use Rattle.coda_tree.specs.Volume.{Nodes, child, child_of, bindings, IsDir, IsDirNode, MayMove, MayReplace}
use Rattle.coda_certify.specs.declared.reason.Reason.{Reason}
use Rattle.coda_certify.specs.Checks.{Check, ◌otherwise◌, where_true, is_no_dir, is_dir, no_dir_of, wrong_kind_of, same_object_of, name_taken_of, name_other_of, fid_used_of, not_empty_in, not_empty_of, reason_of, creation_checks, remove_checks, rmdir_checks, move_checks, replace_checks, rename_checks, first_reason, certify}
use Rattle.coda_certify.specs.Replay.{MayCreate, MayRemove}

-- what follows the last check changes nothing
pub otherwise-None : (o : Option Reason) → (o otherwise None) ≡ o
otherwise-None None = refl
otherwise-None (Some why) = refl

-- both found nothing
pub neither : (a b : Option Reason) → (a otherwise b) ≡ None → (a ≡ None) × (b ≡ None)
neither None b h = (refl, h)
neither (Some why) b h = cc

-- each check finds nothing
abbrev pub AllPass : Nodes → List Check → Type 0
AllPass m [] = Unit {0}
AllPass m (c ∷ cs) = (reason_of m c ≡ None) × AllPass m cs

-- where there is no first reason
pub all_pass : (m : Nodes) (cs : List Check) → first_reason m cs ≡ None → AllPass m cs
all_pass m [] h = tt
all_pass m (c ∷ cs) h = let r = neither (reason_of m c) (first_reason m cs) h in (r.0, all_pass m cs r.1)

pub where_true_none : (b : Bool) (why : Reason) → where_true b why ≡ None → b ≡ false
where_true_none true why h = cc
where_true_none false why h = refl

not_false : (b : Bool) → not b ≡ false → b ≡ true
not_false true h = refl
not_false false h = cc

dir_kind : (kind : NodeKind) → is_no_dir kind ≡ false → IsDir kind
dir_kind (File content) h = cc
dir_kind (Link target) h = cc
dir_kind (Dir entries) h = tt

pub dir_from_check : (o : Option Node) (dir : Fid) → no_dir_of o dir ≡ None → IsDirNode o
dir_from_check None dir h = cc
dir_from_check (Some node) dir h = dir_kind node.kind (where_true_none _ _ h)

pub name_free_from_check : (o : Option Fid) → name_taken_of o ≡ None → o ≡ None
name_free_from_check None h = refl
name_free_from_check (Some found) h = cc

pub fid_free_from_check : (o : Option Node) (fid : Fid) → fid_used_of o fid ≡ None → o ≡ None
fid_free_from_check None fid h = refl
fid_free_from_check (Some node) fid h = cc

pub bound_from_check : (o : Option Fid) (fid : Fid) → name_other_of o fid ≡ None → o ≡ Some fid
bound_from_check None fid h = cc
bound_from_check (Some found) fid h = ap Some (same_fid_is found fid (not_false _ (where_true_none _ _ h)))

leaf_kind : (kind : NodeKind) → is_dir kind ≡ false → (n : Name) → map.get (bindings kind) n ≡ None
leaf_kind (File content) h n = map.get-empty name_cmp n
leaf_kind (Link target) h n = map.get-empty name_cmp n
leaf_kind (Dir entries) h n = cc

-- what is no directory binds nothing
pub leaf_from_check : (o : Option Node) (fid : Fid) → wrong_kind_of is_dir o fid ≡ None → (n : Name) → child_of o n ≡ None
leaf_from_check None fid h n = refl
leaf_from_check (Some node) fid h n = leaf_kind node.kind (where_true_none _ _ h) n

empty_kind : (kind : NodeKind) → not_empty_in kind ≡ None → (n : Name) → map.get (bindings kind) n ≡ None
empty_kind (File content) h n = map.get-empty name_cmp n
empty_kind (Link target) h n = map.get-empty name_cmp n
empty_kind (Dir entries) h n =
    let none : map.len entries ≡ 0 = grind (arith, nat_tests, not_false _ (where_true_none _ _ h)) in
    ap (λ e. map.get e n) (map.empty_of_len entries none) ∙ map.get-empty name_cmp n

-- an empty directory binds nothing
pub empty_from_check : (o : Option Node) → not_empty_of o ≡ None → (n : Name) → child_of o n ≡ None
empty_from_check None h n = refl
empty_from_check (Some node) h n = empty_kind node.kind h n

pub differ_from_check : (replaced fid : Fid) → same_object_of replaced fid ≡ None → replaced ≢ fid
differ_from_check replaced fid h same = let e = where_true_none _ _ h in let t = same_fid_refl replaced in let r : same_fid replaced replaced ≡ false = ap (same_fid replaced) same ∙ e in cc

-- a creation that is not refused finds its directory there, and its name and fid free
pub may_create : (m : Nodes) (dir : Fid) (name : Name) (fid : Fid) → first_reason m (creation_checks dir name fid) ≡ None → MayCreate m dir name fid
may_create m dir name fid h =
    let p = all_pass m (creation_checks dir name fid) h in
    record {
      dir_there = dir_from_check (map.get m dir) dir p.0;
      name_free = name_free_from_check (child m dir name) p.1.1.0;
      fid_free = fid_free_from_check (map.get m fid) fid p.1.1.1.0;
    }

-- a removal that is not refused finds its object bound, and that it binds nothing
pub may_remove : (m : Nodes) (dir : Fid) (name : Name) (fid : Fid) (pre : Sid) → first_reason m (remove_checks dir name fid pre) ≡ None → MayRemove m dir name fid
may_remove m dir name fid pre h =
    let p = all_pass m (remove_checks dir name fid pre) h in
    record {
      dir_there = dir_from_check (map.get m dir) dir p.0;
      bound = bound_from_check (child m dir name) fid p.1.1.1.1.1.0;
      leaf = leaf_from_check (map.get m fid) fid p.1.1.1.1.0;
    }

pub may_rmdir : (m : Nodes) (dir : Fid) (name : Name) (fid : Fid) (pre : Sid) → first_reason m (rmdir_checks dir name fid pre) ≡ None → MayRemove m dir name fid
may_rmdir m dir name fid pre h =
    let p = all_pass m (rmdir_checks dir name fid pre) h in
    record {
      dir_there = dir_from_check (map.get m dir) dir p.0;
      bound = bound_from_check (child m dir name) fid p.1.1.1.1.1.0;
      leaf = empty_from_check (map.get m fid) p.1.1.1.1.1.1.1.0;
    }

-- a rename to a free name that is not refused finds its object bound, and the new directory not below it
pub may_move : (m : Nodes) (from_dir : Fid) (from : Name) (to_dir : Fid) (to : Name) (fid : Fid) → first_reason m (move_checks from_dir from to_dir to fid) ≡ None → MayMove m from_dir from to_dir to × (child m from_dir from ≡ Some fid)
may_move m from_dir from to_dir to fid h =
    let p = all_pass m (move_checks from_dir from to_dir to fid) h in
    let was = bound_from_check (child m from_dir from) fid p.1.1.1.1.1.1.1.0 in (
      record {
        fid = fid;
        was = was;
        to_dir = dir_from_check (map.get m to_dir) to_dir p.1.0;
        free = name_free_from_check (child m to_dir to) p.1.1.1.1.1.1.0;
        apart = where_true_none _ _ p.1.1.1.1.1.1.1.1.0;
      },
      was,
    )

-- a rename that replaces and is not refused finds both objects bound and apart, and that neither binds anything
pub may_replace : (m : Nodes) (from_dir : Fid) (from : Name) (to_dir : Fid) (to : Name) (fid : Fid) (over : Over) → first_reason m (replace_checks from_dir from to_dir to fid over) ≡ None → MayReplace m over.fid from_dir from to_dir to × (child m from_dir from ≡ Some fid)
may_replace m from_dir from to_dir to fid over h =
    let p = all_pass m (replace_checks from_dir from to_dir to fid over) h in
    let rest = p.1.1.1.1.1.1.1.1 in
    let was = bound_from_check (child m from_dir from) fid rest.1.1.1.0 in (
      record {
        fid = fid;
        was = was;
        had = bound_from_check (child m to_dir to) over.fid rest.1.1.1.1.0;
        differ = differ_from_check over.fid fid rest.1.1.0;
        leaf = leaf_from_check (map.get m fid) fid rest.1.0;
        old_leaf = leaf_from_check (map.get m over.fid) over.fid rest.0;
      },
      was,
    )

-- what an operation may rely on once it is certified, where it is applied to a volume
abbrev pub MayEdit : Nodes → Op → Type 0
MayEdit m (Create dir name fid mode owner) = MayCreate m dir name fid
MayEdit m (Mkdir dir name fid mode owner) = MayCreate m dir name fid
MayEdit m (Symlink dir name fid target mode owner) = MayCreate m dir name fid
MayEdit m (Store fid pre content) = Unit {0}
MayEdit m (Setattr fid pre attrs) = Unit {0}
MayEdit m (Remove dir name fid pre) = MayRemove m dir name fid
MayEdit m (Rmdir dir name fid pre) = MayRemove m dir name fid
MayEdit m (Rename from_dir from to_dir to fid over) = first_reason m (rename_checks from_dir from to_dir to fid over) ≡ None

pub may_edit : (m : Nodes) (op : Op) → certify m op ≡ None → MayEdit m op
unfolding certify
may_edit m (Create dir name fid mode owner) h = may_create m dir name fid h
may_edit m (Mkdir dir name fid mode owner) h = may_create m dir name fid h
may_edit m (Symlink dir name fid target mode owner) h = may_create m dir name fid h
may_edit m (Store fid pre content) h = tt
may_edit m (Setattr fid pre attrs) h = tt
may_edit m (Remove dir name fid pre) h = may_remove m dir name fid pre h
may_edit m (Rmdir dir name fid pre) h = may_rmdir m dir name fid pre h
may_edit m (Rename from_dir from to_dir to fid over) h = h
