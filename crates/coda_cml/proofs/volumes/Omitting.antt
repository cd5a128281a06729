-- Records that don't mention an object are certified, and do the same, where the object isn't.
use Rattle.std.proofs.Common.{◌≡◌, ◌≢◌, ℕ, Bool, true, false, cond, ◌||◌, List, [], ◌∷◌, Option, Some, None, refl, sym, ap, ◌∙◌, ⊎_elim, inl, inr, ◌⊎◌}
use Rattle.std.specs.FinMap as map
use Rattle.std.proofs.lemmas.Bool.{or_parts}
use Rattle.std.proofs.lemmas.Option.{none-some}
use Rattle.coda_fid.specs.Fid.{same_fid}
use Rattle.coda_fid.specs.declared.fid.Fid.{Fid}
use Rattle.coda_fid.specs.declared.fid.Sid.{Sid}
use Rattle.coda_fid.specs.declared.op.Op.{Op}
use Rattle.coda_fid.specs.declared.op.Op.TheVariants.{Create, Mkdir, Symlink, Store, Setattr, Remove, Rmdir, Rename}
use Rattle.coda_tree.specs.declared.node.Node.{Node}
use Rattle.coda_tree.specs.declared.node.NodeKind.{NodeKind}
use Rattle.coda_tree.specs.declared.node.NodeKind.TheVariants.{File, Link, Dir}
use Rattle.coda_tree.specs.Bindings.{Name}
use Rattle.coda_tree.specs.Volume.{Nodes, child, child_of, IsVolume, with_kind, content_patch, attrs_patch, Put, Bind}
use Rattle.coda_certify.specs.Checks.{Check, IsADir, IsUnmarked, IsThere, IsAFile, IsNoDir, IsDirKind, IsApart, IsNameFree, IsBoundTo, IsFidFree, IsOfVersion, IsEmptyDir, IsNotAbove, HasRoom, checks, is_no_dir, is_dir, is_no_file, no_dir_of, marked_of, no_object_of, wrong_kind_of, name_taken_of, name_other_of, fid_used_of, version_of, not_empty_of, reason_of, certify}
use Rattle.coda_certify.specs.Replay.{effects, empty_file, empty_dir, new_link}
use Rattle.coda_certify.proofs.Passed.{AllPass, name_free_from_check, bound_from_check, empty_from_check}
use Rattle.coda_cancel.specs.Dropping.{mentioning}
use Rattle.coda_cancel.proofs.Keys.{fid_false, fid_same, fid_other, fid_cases}
use Rattle.coda_cml.proofs.volumes.Certifying.{certified_checks, certified_from, still_not_above, still_room}
use Rattle.coda_cml.proofs.volumes.Erasing.{erase, erased_value, erase-none, child-erase, IsWithout, AreAside, there, aside_taken_out, aside_unbound, aside_bound, aside_written, aside_put, none_bound}

-- ---- what checks see of a node from which an object was erased

module _ (f : Fid) where
  -- the node with the object erased from what it binds
  abbrev erased_node : Node → NodeKind → Option Node
  erased_node node kind = erase f (Some (with_kind node kind))

  dir-erase : (dir : Fid) (o : Option Node) → no_dir_of (erase f o) dir ≡ no_dir_of o dir
  dir-erase dir None = refl
  dir-erase dir (Some node) = go node.kind
    where
      go : (kind : NodeKind) → no_dir_of (erased_node node kind) dir ≡ no_dir_of (Some (with_kind node kind)) dir
      go (File content) = refl
      go (Link target) = refl
      go (Dir entries) = refl

  marked-erase : (fid : Fid) (o : Option Node) → marked_of (erase f o) fid ≡ marked_of o fid
  marked-erase fid None = refl
  marked-erase fid (Some node) = refl

  object-erase : (fid : Fid) (o : Option Node) → no_object_of (erase f o) fid ≡ no_object_of o fid
  object-erase fid None = refl
  object-erase fid (Some node) = refl

  used-erase : (fid : Fid) (o : Option Node) → fid_used_of (erase f o) fid ≡ fid_used_of o fid
  used-erase fid None = refl
  used-erase fid (Some node) = refl

  file-erase : (fid : Fid) (o : Option Node) → wrong_kind_of is_no_file (erase f o) fid ≡ wrong_kind_of is_no_file o fid
  file-erase fid None = refl
  file-erase fid (Some node) = go node.kind
    where
      go : (kind : NodeKind) → wrong_kind_of is_no_file (erased_node node kind) fid ≡ wrong_kind_of is_no_file (Some (with_kind node kind)) fid
      go (File content) = refl
      go (Link target) = refl
      go (Dir entries) = refl

  no_dir-erase : (fid : Fid) (o : Option Node) → wrong_kind_of is_dir (erase f o) fid ≡ wrong_kind_of is_dir o fid
  no_dir-erase fid None = refl
  no_dir-erase fid (Some node) = go node.kind
    where
      go : (kind : NodeKind) → wrong_kind_of is_dir (erased_node node kind) fid ≡ wrong_kind_of is_dir (Some (with_kind node kind)) fid
      go (File content) = refl
      go (Link target) = refl
      go (Dir entries) = refl

  dir_kind-erase : (fid : Fid) (o : Option Node) → wrong_kind_of is_no_dir (erase f o) fid ≡ wrong_kind_of is_no_dir o fid
  dir_kind-erase fid None = refl
  dir_kind-erase fid (Some node) = go node.kind
    where
      go : (kind : NodeKind) → wrong_kind_of is_no_dir (erased_node node kind) fid ≡ wrong_kind_of is_no_dir (Some (with_kind node kind)) fid
      go (File content) = refl
      go (Link target) = refl
      go (Dir entries) = refl

  version-erase : (pre : Sid) (o : Option Node) → version_of (erase f o) pre ≡ version_of o pre
  version-erase pre None = refl
  version-erase pre (Some node) = go node.kind
    where
      go : (kind : NodeKind) → version_of (erased_node node kind) pre ≡ version_of (Some (with_kind node kind)) pre
      go (File content) = refl
      go (Link target) = refl
      go (Dir entries) = refl

  -- what binds nothing binds nothing still
  empty-erase : (o : Option Node) → not_empty_of o ≡ None → not_empty_of (erase f o) ≡ None
  empty-erase o h = ap not_empty_of (erase-none f o (λ n is. none-some f (sym (empty_from_check o h n) ∙ is))) ∙ h

  not_one : (q : Fid) → (same_fid q f || false) ≡ false → q ≢ f
  not_one q h = fid_false q f (or_parts _ _ h).0

  -- ---- the checks

  module _ {root : Fid} (v u : Nodes) (volume : IsVolume root v) (g : IsWithout f v u) where
    at : {A : Type 0} (see : Option Node → A) → ((o : Option Node) → see (erase f o) ≡ see o) → (q : Fid) → q ≢ f → see (map.get u q) ≡ see (map.get v q)
    at see same q ne = ap see (there f v u g q ne) ∙ same (map.get v q)

    none_here : map.get u f ≡ None
    none_here = g.points f ∙ ap (λ b. cond b None (erase f (map.get v f))) (fid_same f f refl)

    child_there : (q : Fid) → q ≢ f → (n : Name) → child u q n ≡ erased_value f (child v q n)
    child_there q ne n = ap (λ o. child_of o n) (there f v u g q ne) ∙ child-erase f (map.get v q) n

    value_cases : (o : Option Fid) → (erased_value f o ≡ None) ⊎ (erased_value f o ≡ o)
    value_cases None = inl refl
    value_cases (Some x) = go (same_fid x f)
      where
        go : (b : Bool) → (◌≡◌ {A = Option Fid} (cond b None (Some x)) None) ⊎ (cond b None (Some x) ≡ Some x)
        go true = inl refl
        go false = inr refl

    -- at each name nothing is bound, or what was
    no_more : (q : Fid) (n : Name) → (child u q n ≡ None) ⊎ (child u q n ≡ child v q n)
    no_more q n = ⊎_elim
        (λ (e : q ≡ f). inl (ap (λ o. child_of o n) (ap (map.get u) e ∙ none_here)))
        (λ (ne : q ≡ f → ⊥). ⊎_elim (λ (h : erased_value f (child v q n) ≡ None). inl (child_there q ne n ∙ h)) (λ (h : erased_value f (child v q n) ≡ child v q n). inr (child_there q ne n ∙ h)) (value_cases (child v q n)))
        (fid_cases q f)

    fewer : (q : Fid) (n : Name) (x : Fid) → child u q n ≡ Some x → child v q n ≡ Some x
    fewer q n x is = ⊎_elim (λ (h : child u q n ≡ None). absurd (none-some x (sym h ∙ is))) (λ (h : child u q n ≡ child v q n). sym h ∙ is) (no_more q n)

    free_too : (q : Fid) (n : Name) → child v q n ≡ None → child u q n ≡ None
    free_too q n e = ⊎_elim (λ (h : child u q n ≡ None). h) (λ (h : child u q n ≡ child v q n). h ∙ e) (no_more q n)

    bound_too : (d : Fid) (n : Name) (q : Fid) → d ≢ f → q ≢ f → child v d n ≡ Some q → child u d n ≡ Some q
    bound_too d n q ne other is = child_there d ne n ∙ (ap (erased_value f) is ∙ ap (λ b. cond b None (Some q)) (fid_other q f other))

    -- a check that has nothing to do with f
    abbrev IsAway : Check → Type 0
    IsAway (IsADir q) = q ≢ f
    IsAway (IsUnmarked q) = q ≢ f
    IsAway (IsThere q) = q ≢ f
    IsAway (IsAFile q) = q ≢ f
    IsAway (IsNoDir q) = q ≢ f
    IsAway (IsDirKind q) = q ≢ f
    IsAway (IsApart q r) = Unit {0}
    IsAway (IsNameFree d n) = Unit {0}
    IsAway (IsBoundTo d n q) = (d ≢ f) × (q ≢ f)
    IsAway (IsFidFree q) = q ≢ f
    IsAway (IsOfVersion q p) = q ≢ f
    IsAway (IsEmptyDir q) = q ≢ f
    IsAway (IsNotAbove q d) = Unit {0}
    IsAway HasRoom = Unit {0}

    passes : (c : Check) → IsAway c → reason_of v c ≡ None → reason_of u c ≡ None
    passes (IsADir q) a h = at (λ o. no_dir_of o q) (dir-erase q) q a ∙ h
    passes (IsUnmarked q) a h = at (λ o. marked_of o q) (marked-erase q) q a ∙ h
    passes (IsThere q) a h = at (λ o. no_object_of o q) (object-erase q) q a ∙ h
    passes (IsAFile q) a h = at (λ o. wrong_kind_of is_no_file o q) (file-erase q) q a ∙ h
    passes (IsNoDir q) a h = at (λ o. wrong_kind_of is_dir o q) (no_dir-erase q) q a ∙ h
    passes (IsDirKind q) a h = at (λ o. wrong_kind_of is_no_dir o q) (dir_kind-erase q) q a ∙ h
    passes (IsApart q r) a h = h
    passes (IsNameFree d n) a h = ap name_taken_of (free_too d n (name_free_from_check (child v d n) h))
    passes (IsBoundTo d n q) a h =
        let was = bound_from_check (child v d n) q h in
        ap (λ o. name_other_of o q) (bound_too d n q a.0 a.1 was ∙ sym was) ∙ h
    passes (IsFidFree q) a h = at (λ o. fid_used_of o q) (used-erase q) q a ∙ h
    passes (IsOfVersion q p) a h = at (λ o. version_of o p) (version-erase p) q a ∙ h
    passes (IsEmptyDir q) a h = ap not_empty_of (there f v u g q a) ∙ empty-erase (map.get v q) h
    passes (IsNotAbove q d) a h = still_not_above v u volume fewer q d h
    passes HasRoom a h = still_room (map.len u) (map.len v) g.fewer h

    abbrev AreAway : List Check → Type 0
    AreAway [] = Unit {0}
    AreAway (c ∷ cs) = IsAway c × AreAway cs

    all_pass : (cs : List Check) → AreAway cs → AllPass v cs → AllPass u cs
    all_pass [] a h = tt
    all_pass (c ∷ cs) a h = (passes c a.0 h.0, all_pass cs a.1 h.1)

    all_away : (op : Op) → mentioning f op ≡ false → AreAway (checks op)
    all_away (Create d n q mode owner) m = let h = or_parts _ _ m in let a = fid_false d f h.0 in (a, (a, (tt, (not_one q h.1, (tt, tt)))))
    all_away (Mkdir d n q mode owner) m = let h = or_parts _ _ m in let a = fid_false d f h.0 in (a, (a, (tt, (not_one q h.1, (tt, tt)))))
    all_away (Symlink d n q t mode owner) m = let h = or_parts _ _ m in let a = fid_false d f h.0 in (a, (a, (tt, (not_one q h.1, (tt, tt)))))
    all_away (Store q pre c) m = let a = not_one q m in (a, (a, (a, (a, tt))))
    all_away (Setattr q pre x) m = let a = not_one q m in (a, (a, (a, tt)))
    all_away (Remove d n q pre) m = let h = or_parts _ _ m in let a = fid_false d f h.0 in let b = not_one q h.1 in (a, (a, (b, (b, (b, ((a, b), (b, tt)))))))
    all_away (Rmdir d n q pre) m = let h = or_parts _ _ m in let a = fid_false d f h.0 in let b = not_one q h.1 in (a, (a, (b, (b, (b, ((a, b), (b, (b, tt))))))))
    all_away (Rename d n e x q None) m =
        let h = or_parts _ _ m in let k = or_parts _ _ h.1 in
        let a = fid_false d f h.0 in let b = fid_false e f k.0 in let c = not_one q k.1 in (a, (b, (a, (b, (c, (c, (tt, ((a, c), (tt, tt)))))))))
    all_away (Rename d n e x q (Some w)) m =
        let h = or_parts _ _ m in let k = or_parts _ _ h.1 in let l = or_parts _ _ k.1 in
        let a = fid_false d f h.0 in let b = fid_false e f k.0 in let c = fid_false q f l.0 in let y = not_one w.fid l.1 in
        (a, (b, (a, (b, (c, (y, (c, (y, (y, (c, (tt, ((a, c), ((b, y), (y, (tt, tt)))))))))))))))

    -- what doesn't mention the object is certified where it isn't
    pub certified_without : (op : Op) → mentioning f op ≡ false → certify v op ≡ None → certify u op ≡ None
    certified_without op m c = certified_from u op (all_pass (checks op) (all_away op m) (certified_checks v op c))

  -- ---- the edits

  new_aside : (d : Fid) (n : Name) (q : Fid) (node : Node) → ((k : Name) → child_of (Some node) k ≡ Some f → ⊥) → (same_fid d f || (same_fid q f || false)) ≡ false → AreAside f (Bind d n q ∷ Put q node ∷ [])
  new_aside d n q node never m = let h = or_parts _ _ m in let a = fid_false d f h.0 in let b = not_one q h.1 in (aside_bound f d n q a b, (aside_put f q node b never, tt))

  pub all_aside : (t : ℕ) (s : Sid) (op : Op) → mentioning f op ≡ false → AreAside f (effects t s op)
  all_aside t s (Create d n q mode owner) m = new_aside d n q (empty_file mode owner t s) (none_bound f) m
  all_aside t s (Mkdir d n q mode owner) m = new_aside d n q (empty_dir mode owner t s) (none_bound f) m
  all_aside t s (Symlink d n q target mode owner) m = new_aside d n q (new_link target mode owner t s) (none_bound f) m
  all_aside t s (Store q pre c) m = (aside_written f q (content_patch c t) s (not_one q m), tt)
  all_aside t s (Setattr q pre a) m = (aside_written f q (attrs_patch a) s (not_one q m), tt)
  all_aside t s (Remove d n q pre) m = let h = or_parts _ _ m in (aside_unbound f d n (fid_false d f h.0), (aside_taken_out f q (not_one q h.1), tt))
  all_aside t s (Rmdir d n q pre) m = let h = or_parts _ _ m in (aside_unbound f d n (fid_false d f h.0), (aside_taken_out f q (not_one q h.1), tt))
  all_aside t s (Rename d n e x q None) m =
      let h = or_parts _ _ m in let k = or_parts _ _ h.1 in
      (aside_unbound f d n (fid_false d f h.0), (aside_bound f e x q (fid_false e f k.0) (not_one q k.1), tt))
  all_aside t s (Rename d n e x q (Some w)) m =
      let h = or_parts _ _ m in let k = or_parts _ _ h.1 in let l = or_parts _ _ k.1 in
      (aside_taken_out f w.fid (not_one w.fid l.1), (aside_unbound f d n (fid_false d f h.0), (aside_bound f e x q (fid_false e f k.0) (fid_false q f l.0), tt)))
