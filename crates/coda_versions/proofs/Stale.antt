-- Certified operations carry versions that objects have.
use Rattle.std.proofs.Common.{◌≡◌, ℕ, ◌==◌, Bool, true, false, not, ◌&&◌, Option, Some, None, refl, sym, ap, ◌∙◌, subst}
use Rattle.std.specs.FinMap as map
use Rattle.std.proofs.lemmas.Bool.{and_parts, eqb-true}
use Rattle.coda_fid.specs.Fid.{same_sid}
use Rattle.coda_fid.specs.Op.{carried}
use Rattle.coda_fid.specs.declared.fid.Fid.{Fid}
use Rattle.coda_fid.specs.declared.fid.Sid.{Sid}
use Rattle.coda_fid.specs.declared.op.Op.{Op}
use Rattle.coda_fid.specs.declared.op.Op.TheVariants.{Create, Mkdir, Symlink, Store, Setattr, Remove, Rmdir, Rename}
use Rattle.coda_fid.specs.declared.op.Over.{Over}
use Rattle.coda_tree.specs.Volume.{Nodes}
use Rattle.coda_tree.specs.declared.node.Node.{Node}
use Rattle.coda_certify.specs.Checks.{no_object_of, version_of, change_of, certify, store_checks, setattr_checks}
use Rattle.coda_certify.specs.Checks.{remove_checks, rmdir_checks, replace_checks}
use Rattle.coda_certify.proofs.Passed.{all_pass, where_true_none}
use Rattle.coda_versions.specs.Versions.{HasVersion, StaleOperationsAreRefused}

same_version : (a b : Sid) → same_sid a b ≡ true → a ≡ b
same_version a b h =
    let p = and_parts (a.client == b.client) (a.number == b.number) h in
    let client = eqb-true a.client b.client p.0 in
    let number = eqb-true a.number b.number p.1 in
    λ i. record { client = client i; number = number i }

not_false : (b : Bool) → not b ≡ false → b ≡ true
not_false true h = refl
not_false false h = cc

-- the object is there, and of the version
passed : (m : Nodes) (fid : Fid) (pre : Sid) (o : Option Node) → map.get m fid ≡ o → no_object_of o fid ≡ None
    → version_of o pre ≡ None → HasVersion m fid pre
passed m fid pre None is there version = cc
passed m fid pre (Some node) is there version = record {
  node = node;
  there = is;
  is = same_version node.sid pre (not_false (same_sid node.sid pre) (where_true_none (not (same_sid node.sid pre)) (change_of node.kind pre node.sid) version));
}

some_is : (a b : Over) → Some a ≡ Some b → a ≡ b
some_is a b e = cc

pub stale_refused : StaleOperationsAreRefused
unfolding certify
stale_refused m (Create dir name fid mode owner) over c h = cc
stale_refused m (Mkdir dir name fid mode owner) over c h = cc
stale_refused m (Symlink dir name fid target mode owner) over c h = cc
stale_refused m (Store fid pre content) over c h =
    let p = all_pass m (store_checks fid pre) h in
    subst (λ (o : Over). HasVersion m o.fid o.pre) (some_is (record { fid = fid; pre = pre }) over c) (passed m fid pre (map.get m fid) refl p.1.0 p.1.1.1.0)
stale_refused m (Setattr fid pre attrs) over c h =
    let p = all_pass m (setattr_checks fid pre) h in
    subst (λ (o : Over). HasVersion m o.fid o.pre) (some_is (record { fid = fid; pre = pre }) over c) (passed m fid pre (map.get m fid) refl p.1.0 p.1.1.0)
stale_refused m (Remove dir name fid pre) over c h =
    let p = all_pass m (remove_checks dir name fid pre) h in
    subst (λ (o : Over). HasVersion m o.fid o.pre) (some_is (record { fid = fid; pre = pre }) over c) (passed m fid pre (map.get m fid) refl p.1.1.1.0 p.1.1.1.1.1.1.0)
stale_refused m (Rmdir dir name fid pre) over c h =
    let p = all_pass m (rmdir_checks dir name fid pre) h in
    subst (λ (o : Over). HasVersion m o.fid o.pre) (some_is (record { fid = fid; pre = pre }) over c) (passed m fid pre (map.get m fid) refl p.1.1.1.0 p.1.1.1.1.1.1.0)
stale_refused m (Rename from_dir from to_dir to fid None) over c h = cc
stale_refused m (Rename from_dir from to_dir to fid (Some v)) over c h =
    let p = all_pass m (replace_checks from_dir from to_dir to fid v) h in
    subst (λ (o : Over). HasVersion m o.fid o.pre) (some_is v over c) (passed m v.fid v.pre (map.get m v.fid) refl p.1.1.1.1.1.1.1.0 p.1.1.1.1.1.1.1.1.1.1.1.1.1.0)
