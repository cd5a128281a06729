-- What edits do to the version of one object, and what handing on a version does to checks and edits.
use Rattle.std.proofs.Common.{◌≡◌, ℕ, Bool, true, false, cond, List, [], ◌∷◌, Option, Some, None, option_map, is_some, refl, sym, ap, ◌∙◌, subst, map}
use Rattle.std.specs.FinMap as finite
use Rattle.std.proofs.lemmas.Bool.{false≢true}
use Rattle.coda_fid.specs.Fid.{same_fid}
use Rattle.coda_fid.specs.declared.fid.Fid.{Fid}
use Rattle.coda_fid.specs.declared.fid.Sid.{Sid}
use Rattle.coda_fid.specs.declared.op.Op.{Op}
use Rattle.coda_fid.specs.declared.op.Op.TheVariants.{Create, Mkdir, Symlink, Store, Setattr, Remove, Rmdir, Rename}
use Rattle.coda_tree.specs.declared.node.Node.{Node}
use Rattle.coda_tree.specs.declared.node.NodeKind.{NodeKind}
use Rattle.coda_tree.specs.declared.node.NodeKind.TheVariants.{File, Link, Dir}
use Rattle.coda_tree.specs.Bindings.{Name}
use Rattle.coda_tree.specs.Volume.{Nodes, child, child_of, IsVolume, Edit, Put, Bind, TakeOut, Unbind, Write, edited, edited_all}
use Rattle.coda_certify.specs.Checks.{Check, IsADir, IsUnmarked, IsThere, IsAFile, IsNoDir, IsDirKind, IsApart, IsNameFree, IsBoundTo, IsFidFree, IsOfVersion, IsEmptyDir, IsNotAbove, HasRoom, checks, is_no_dir, is_dir, is_no_file, no_dir_of, marked_of, no_object_of, wrong_kind_of, name_taken_of, name_other_of, fid_used_of, not_empty_of, full_of, reason_of, certify}
use Rattle.coda_certify.specs.Replay.{effects}
use Rattle.coda_certify.proofs.Passed.{AllPass}
use Rattle.coda_cancel.specs.Handing.{with_pre}
use Rattle.coda_cancel.specs.Dropping.{creates}
use Rattle.coda_cancel.proofs.Keys.{fid_true, fid_false, fid_same, fid_other, carries}
use Rattle.coda_cancel.proofs.Debts.{no_change}
use Rattle.coda_cml.proofs.volumes.Places.{place, act, get-edited}
use Rattle.coda_cml.proofs.volumes.Overwritten.{plain, LookAlike, child-written, everything, no_version}
use Rattle.coda_cml.proofs.volumes.Certifying.{version_at, certified_checks, certified_from, still_not_above, version_passes}

-- ---- the version of one object

abbrev node_sid : Node → Sid
node_sid node = node.sid

-- what an edit makes of the version at its place
abbrev pub version_act : Edit → Option Sid → Option Sid
version_act (Put f node) o = Some node.sid
version_act (Bind d name f) o = o
version_act (TakeOut f) o = None
version_act (Unbind d name) o = o
version_act (Write f patch sid) o = option_map (λ (old : Sid). sid) o

version_acts : (e : Edit) (o : Option Node) → option_map node_sid (act e o) ≡ version_act e (option_map node_sid o)
version_acts (Put f node) o = refl
version_acts (TakeOut f) o = refl
version_acts (Bind d n f) (Some x) = refl
version_acts (Bind d n f) None = refl
version_acts (Unbind d n) (Some x) = refl
version_acts (Unbind d n) None = refl
version_acts (Write f p s) (Some x) = refl
version_acts (Write f p s) None = refl

-- the version of an object after edits, by the version before
abbrev pub version_after : Fid → List Edit → Option Sid → Option Sid
version_after f [] o = o
version_after f (e ∷ es) o = version_after f es (cond (same_fid f (place e)) (version_act e o) o)

version_point : (e : Edit) (b : Bool) (o : Option Node) → option_map node_sid (cond b (act e o) o) ≡ cond b (version_act e (option_map node_sid o)) (option_map node_sid o)
version_point e true o = version_acts e o
version_point e false o = refl

version-edited : (f : Fid) (e : Edit) (m : Nodes) → version_at (edited m e) f ≡ cond (same_fid f (place e)) (version_act e (version_at m f)) (version_at m f)
unfolding version_at
version-edited f e m = ap (option_map node_sid) (get-edited m e f) ∙ version_point e (same_fid f (place e)) (finite.get m f)

pub version-edits : (f : Fid) (es : List Edit) (m : Nodes) → version_at (edited_all m es) f ≡ version_after f es (version_at m f)
version-edits f [] m = refl
version-edits f (e ∷ es) m = version-edits f es (edited m e) ∙ ap (version_after f es) (version-edited f e m)

-- the test of fids may be turned
pub turned : (a b : Fid) → same_fid a b ≡ same_fid b a
turned a b = go (same_fid a b) refl
  where
    go : (x : Bool) → same_fid a b ≡ x → x ≡ same_fid b a
    go true e = sym (fid_same b a (sym (fid_true a b e)))
    go false e = sym (fid_other b a (λ h. fid_false a b e (sym h)))

turned_to : (a b : Fid) (x : Bool) → same_fid a b ≡ x → same_fid b a ≡ x
turned_to a b x e = sym (turned a b) ∙ e

one_of : {A : Type 0} (b : Bool) (x y z : A) → b ≡ true → cond b x y ≡ cond b x z
one_of b x y z e = ap (λ c. cond c x y) e ∙ sym (ap (λ c. cond c x z) e)

none_of : {A : Type 0} (b : Bool) (x y : A) → b ≡ false → cond b x y ≡ y
none_of b x y e = ap (λ c. cond c x y) e

-- an operation that carries a version of f leaves f with one that does not depend on the one before
pub settled : (f : Fid) (t : ℕ) (s : Sid) (op : Op) → carries f op ≡ true → (a b : Sid) → version_after f (effects t s op) (Some a) ≡ version_after f (effects t s op) (Some b)
settled f t s (Create d n g mode owner) c a b = absurd (false≢true c)
settled f t s (Mkdir d n g mode owner) c a b = absurd (false≢true c)
settled f t s (Symlink d n g target mode owner) c a b = absurd (false≢true c)
settled f t s (Store g pre content) c a b = one_of (same_fid f g) (Some s) (Some a) (Some b) (turned_to g f true c)
settled f t s (Setattr g pre x) c a b = one_of (same_fid f g) (Some s) (Some a) (Some b) (turned_to g f true c)
settled f t s (Remove d n g pre) c a b = one_of (same_fid f g) None (version_after f (Unbind d n ∷ []) (Some a)) (version_after f (Unbind d n ∷ []) (Some b)) (turned_to g f true c)
settled f t s (Rmdir d n g pre) c a b = one_of (same_fid f g) None (version_after f (Unbind d n ∷ []) (Some a)) (version_after f (Unbind d n ∷ []) (Some b)) (turned_to g f true c)
settled f t s (Rename d n e m g None) c a b = absurd (false≢true c)
settled f t s (Rename d n e m g (Some v)) c a b = ap (version_after f (Unbind d n ∷ Bind e m g ∷ [])) (one_of (same_fid f v.fid) None (Some a) (Some b) (turned_to v.fid f true c))

-- one that does not, and that does not create f, leaves it its version
pub kept_version : (f : Fid) (t : ℕ) (s : Sid) (op : Op) → carries f op ≡ false → creates f op ≡ false → (a : Sid) → version_after f (effects t s op) (Some a) ≡ Some a
kept_version f t s (Create d n g mode owner) c k a = none_of (same_fid f g) (Some s) _ (turned_to g f false k) ∙ no_change (same_fid f d) (Some a)
kept_version f t s (Mkdir d n g mode owner) c k a = none_of (same_fid f g) (Some s) _ (turned_to g f false k) ∙ no_change (same_fid f d) (Some a)
kept_version f t s (Symlink d n g target mode owner) c k a = none_of (same_fid f g) (Some s) _ (turned_to g f false k) ∙ no_change (same_fid f d) (Some a)
kept_version f t s (Store g pre content) c k a = none_of (same_fid f g) (Some s) (Some a) (turned_to g f false c)
kept_version f t s (Setattr g pre x) c k a = none_of (same_fid f g) (Some s) (Some a) (turned_to g f false c)
kept_version f t s (Remove d n g pre) c k a = none_of (same_fid f g) None _ (turned_to g f false c) ∙ no_change (same_fid f d) (Some a)
kept_version f t s (Rmdir d n g pre) c k a = none_of (same_fid f g) None _ (turned_to g f false c) ∙ no_change (same_fid f d) (Some a)
kept_version f t s (Rename d n e m g None) c k a = no_change (same_fid f e) _ ∙ no_change (same_fid f d) (Some a)
kept_version f t s (Rename d n e m g (Some v)) c k a = no_change (same_fid f e) _ ∙ (no_change (same_fid f d) _ ∙ none_of (same_fid f v.fid) None (Some a) (turned_to v.fid f false c))

-- ---- handing on a version

-- the check with another version
abbrev pub with_version : (Fid → Sid → Sid) → Check → Check
with_version h (IsOfVersion fid pre) = IsOfVersion fid (h fid pre)
with_version h c = c

module _ (h : Fid → Sid → Sid) where
  checks-with_pre : (op : Op) → checks (with_pre h op) ≡ map (with_version h) (checks op)
  checks-with_pre (Rename d n e m g None) = refl
  checks-with_pre (Rename d n e m g (Some v)) = refl
  checks-with_pre _ = refl

  pub effects-with_pre : (t : ℕ) (s : Sid) (op : Op) → effects t s (with_pre h op) ≡ effects t s op
  effects-with_pre t s (Rename d n e m g None) = refl
  effects-with_pre t s (Rename d n e m g (Some v)) = refl
  effects-with_pre t s _ = refl

-- ---- nodes that look alike

by_plain : {A : Type 0} (g : Option Node → A) → ((o : Option Node) → g (plain o) ≡ g o) → (a b : Option Node) → plain a ≡ plain b → g a ≡ g b
by_plain g same a b e = sym (same a) ∙ ap g e ∙ same b

dir-plain : (dir : Fid) (o : Option Node) → no_dir_of (plain o) dir ≡ no_dir_of o dir
dir-plain dir None = refl
dir-plain dir (Some node) = go node.kind
  where
    go : (kind : NodeKind) → no_dir_of (plain (Some (record node { kind = kind }))) dir ≡ no_dir_of (Some (record node { kind = kind })) dir
    go (File content) = refl
    go (Link target) = refl
    go (Dir entries) = refl

marked-plain : (fid : Fid) (o : Option Node) → marked_of (plain o) fid ≡ marked_of o fid
marked-plain fid None = refl
marked-plain fid (Some node) = refl

object-plain : (fid : Fid) (o : Option Node) → no_object_of (plain o) fid ≡ no_object_of o fid
object-plain fid None = refl
object-plain fid (Some node) = refl

used-plain : (fid : Fid) (o : Option Node) → fid_used_of (plain o) fid ≡ fid_used_of o fid
used-plain fid None = refl
used-plain fid (Some node) = refl

some-plain : (o : Option Node) → is_some (plain o) ≡ is_some o
some-plain None = refl
some-plain (Some node) = refl

file-plain : (fid : Fid) (o : Option Node) → wrong_kind_of is_no_file (plain o) fid ≡ wrong_kind_of is_no_file o fid
file-plain fid None = refl
file-plain fid (Some node) = go node.kind
  where
    go : (kind : NodeKind) → wrong_kind_of is_no_file (plain (Some (record node { kind = kind }))) fid ≡ wrong_kind_of is_no_file (Some (record node { kind = kind })) fid
    go (File content) = refl
    go (Link target) = refl
    go (Dir entries) = refl

no_dir-plain : (fid : Fid) (o : Option Node) → wrong_kind_of is_dir (plain o) fid ≡ wrong_kind_of is_dir o fid
no_dir-plain fid None = refl
no_dir-plain fid (Some node) = go node.kind
  where
    go : (kind : NodeKind) → wrong_kind_of is_dir (plain (Some (record node { kind = kind }))) fid ≡ wrong_kind_of is_dir (Some (record node { kind = kind })) fid
    go (File content) = refl
    go (Link target) = refl
    go (Dir entries) = refl

dir_kind-plain : (fid : Fid) (o : Option Node) → wrong_kind_of is_no_dir (plain o) fid ≡ wrong_kind_of is_no_dir o fid
dir_kind-plain fid None = refl
dir_kind-plain fid (Some node) = go node.kind
  where
    go : (kind : NodeKind) → wrong_kind_of is_no_dir (plain (Some (record node { kind = kind }))) fid ≡ wrong_kind_of is_no_dir (Some (record node { kind = kind })) fid
    go (File content) = refl
    go (Link target) = refl
    go (Dir entries) = refl

empty-plain : (o : Option Node) → not_empty_of (plain o) ≡ not_empty_of o
empty-plain None = refl
empty-plain (Some node) = go node.kind
  where
    go : (kind : NodeKind) → not_empty_of (plain (Some (record node { kind = kind }))) ≡ not_empty_of (Some (record node { kind = kind }))
    go (File content) = refl
    go (Link target) = refl
    go (Dir entries) = refl

module _ (v u : Nodes) (alike : LookAlike v u) where
  pub child_alike : (d : Fid) (n : Name) → child v d n ≡ child u d n
  child_alike d n = by_plain (λ o. child_of o n) (λ o. child-written everything no_version o n) (finite.get v d) (finite.get u d) (alike d)

  pub some_alike : (q : Fid) → is_some (finite.get v q) ≡ is_some (finite.get u q)
  some_alike q = by_plain (λ o. is_some o) some-plain (finite.get v q) (finite.get u q) (alike q)

  at : {A : Type 0} (g : Option Node → A) → ((o : Option Node) → g (plain o) ≡ g o) → (q : Fid) → g (finite.get u q) ≡ g (finite.get v q)
  at g same q = sym (by_plain g same (finite.get v q) (finite.get u q) (alike q))

  module _ {root : Fid} (volume : IsVolume root v) (lens : finite.len v ≡ finite.len u) (h : Fid → Sid → Sid) (versions : (g : Fid) (p : Sid) → version_at v g ≡ Some p → version_at u g ≡ Some (h g p)) where
    passes : (c : Check) → reason_of v c ≡ None → reason_of u (with_version h c) ≡ None
    passes (IsADir dir) e = at (λ o. no_dir_of o dir) (dir-plain dir) dir ∙ e
    passes (IsUnmarked fid) e = at (λ o. marked_of o fid) (marked-plain fid) fid ∙ e
    passes (IsThere fid) e = at (λ o. no_object_of o fid) (object-plain fid) fid ∙ e
    passes (IsAFile fid) e = at (λ o. wrong_kind_of is_no_file o fid) (file-plain fid) fid ∙ e
    passes (IsNoDir fid) e = at (λ o. wrong_kind_of is_dir o fid) (no_dir-plain fid) fid ∙ e
    passes (IsDirKind fid) e = at (λ o. wrong_kind_of is_no_dir o fid) (dir_kind-plain fid) fid ∙ e
    passes (IsApart replaced fid) e = e
    passes (IsNameFree dir name) e = ap name_taken_of (sym (child_alike dir name)) ∙ e
    passes (IsBoundTo dir name fid) e = ap (λ o. name_other_of o fid) (sym (child_alike dir name)) ∙ e
    passes (IsFidFree fid) e = at (λ o. fid_used_of o fid) (used-plain fid) fid ∙ e
    passes (IsOfVersion fid pre) e = version_passes v u fid pre (h fid pre) (some_alike fid) (versions fid pre) e
    passes (IsEmptyDir fid) e = at not_empty_of empty-plain fid ∙ e
    passes (IsNotAbove fid dir) e = still_not_above v u volume (λ d n f is. child_alike d n ∙ is) fid dir e
    passes HasRoom e = ap full_of (sym lens) ∙ e

    all_passes : (cs : List Check) → AllPass v cs → AllPass u (map (with_version h) cs)
    all_passes [] e = tt
    all_passes (c ∷ cs) e = (passes c e.0, all_passes cs e.1)

    -- what is certified where the versions are those of the whole list is certified, with those handed on, where they are not
    pub certified_with_pre : (op : Op) → certify v op ≡ None → certify u (with_pre h op) ≡ None
    certified_with_pre op c = certified_from u (with_pre h op) (subst (AllPass u) (sym (checks-with_pre h op)) (all_passes (checks op) (certified_checks v op c)))
