-- A decision counts an update just where its record changed an object.
use Rattle.std.proofs.Common.{◌≡◌, ◌≢◌, ℕ, Bool, true, false, cond, if◌then◌else◌, Option, Some, None}
use Rattle.std.proofs.Common.{option_map, refl, sym, ap, ◌∙◌, subst, ◌⊎◌, inl, inr}
use Rattle.std.specs.FinMap as finmap
use Rattle.std.proofs.lemmas.Bool.{true≢false}
use Rattle.std.proofs.lemmas.Cmp.{nat_list_cmp_total}
use Rattle.coda_fid.specs.Fid.{same_fid}
use Rattle.coda_fid.specs.declared.fid.Fid.{Fid}
use Rattle.coda_fid.specs.declared.fid.Sid.{Sid}
use Rattle.coda_fid.specs.declared.op.Op.{Op}
use Rattle.coda_fid.specs.declared.op.Op.TheVariants.{Create, Mkdir, Symlink, Store, Setattr, Remove, Rmdir, Rename}
use Rattle.coda_fid.proofs.Fids.{same_fid_is, same_fid_refl}
use Rattle.coda_tree.specs.declared.node.Node.{Node}
use Rattle.coda_tree.specs.Bindings.{Name}
use Rattle.coda_tree.specs.Volume.{Nodes, child, child_of, bindings, bind_in, unbind_in, Patch, written, content_patch}
use Rattle.coda_tree.specs.Volume.{attrs_patch}
use Rattle.coda_tree.proofs.Order.{get_here, gone_here}
use Rattle.coda_reslog.specs.declared.change.Held.{Held}
use Rattle.coda_reslog.specs.declared.entry.Lost.{Lost}
use Rattle.coda_certify.specs.Checks.{certify}
use Rattle.coda_certify.specs.Replay.{effects, sid_of}
use Rattle.coda_certify.proofs.Passed.{may_edit, may_move, may_replace}
use Rattle.coda_overlay.specs.Objects.{all_edited_at, operated_at}
use Rattle.coda_overlay.specs.Overlaying.{takes_out}
use Rattle.coda_overlay.proofs.Copies.{get-applied}
use Rattle.coda_resolve.specs.Resolution.{Objects}
use Rattle.coda_resolve.specs.Changes.{node_of}
use Rattle.coda_resolve.proofs.Lists.{some_none}
use Rattle.coda_lineage.specs.Deeds.{Deed, deed_at, makes, first_by, next_update, writes, crosses, renames}
use Rattle.coda_lineage.specs.Deeds.{version_by}
use Rattle.coda_lineage.specs.Updates.{BindsOtherwise, IsBegun, IsCountedAt, DecisionsCountUpdates}
use Rattle.coda_lineage.proofs.Booleans.{the_some}

-- a name that is bound anew, or free again
bound_anew : (old node : Node) (name : Name) (fid : Fid) → finmap.get (bindings old.kind) name ≢ Some fid
    → BindsOtherwise old (bind_in node name fid)
bound_anew old node name fid other =
    (name, λ e. other (sym e ∙ get_here nat_list_cmp_total (bindings node.kind) name fid))

free_again : (old : Node) (name : Name) (fid : Fid) → finmap.get (bindings old.kind) name ≡ Some fid
    → BindsOtherwise old (unbind_in old name)
free_again old name fid was =
    (name, λ e. some_none fid (sym was ∙ sym e ∙ gone_here nat_list_cmp_total (bindings old.kind) name))

module _ (server : ℕ) (sid : Sid) (f : Fid) (m : Nodes) where
  -- an object that the record doesn't touch
  untouched : (op : Op) (o : Option Held) → IsCountedAt server sid op f o (version_by server sid (node_of o) o None)
  untouched op None = tt
  untouched op (Some old) = inl refl

  -- one that is there and that it updates
  updated : (op : Op) (old : Held) (node : Node) (deed : Deed) → (node.sid ≡ sid) ⊎ BindsOtherwise old.node node
      → IsCountedAt server sid op f (Some old) (version_by server sid (Some node) (Some old) (Some deed))
  updated op old node deed why = inr (record {
    changed = why;
    counted = refl;
    update = next_update server sid old deed;
    logged = refl;
    origin = refl;
    number = refl;
    version = refl;
  })

  -- one that goes
  gone : (op : Op) (o : Option Held) (deed : Option Deed) → takes_out f op ≡ true
      → IsCountedAt server sid op f o (version_by server sid None o deed)
  gone op None deed taken = tt
  gone op (Some old) deed taken = taken

  -- what f binds, where it is a directory that the operation names
  binds : (o : Option Held) → finmap.get m f ≡ node_of o → (dir : Fid) (name : Name) (is : Option Fid) → f ≡ dir
      → child m dir name ≡ is → child_of (node_of o) name ≡ is
  binds o at dir name is e h = sym (ap (λ p. child_of p name) at) ∙ ap (λ d. child m d name) e ∙ h

  -- what a creation makes of it
  created : (op : Op) (o : Option Held) → finmap.get m f ≡ node_of o → (dir : Fid) (name : Name) (fid : Fid)
      (node : Node) (deed : Deed) → makes op ≡ Some fid → IsBegun server (first_by server node node.kind).node.kind
      (first_by server node node.kind)
      → child m dir name ≡ None → finmap.get m fid ≡ None → (a b : Bool) → same_fid f fid ≡ a → same_fid f dir ≡ b
      → IsCountedAt server sid op f o
      (version_by server sid (if a then Some node else (if b then option_map (λ n. bind_in n name fid) (node_of o)
      else node_of o)) o (cond b (Some deed) None))
  created op None at dir name fid node deed new begun free none true b e d =
      (new ∙ ap Some (sym (same_fid_is f fid e)), begun)
  created op (Some old) at dir name fid node deed new begun free none true b e d =
      absurd (some_none old.node (sym at ∙ ap (finmap.get m) (same_fid_is f fid e) ∙ none))
  created op None at dir name fid node deed new begun free none false true e d = tt
  created op (Some old) at dir name fid node deed new begun free none false true e d =
      updated op old (bind_in old.node name fid) deed
      (inr (bound_anew old.node old.node name fid
      (λ was. some_none fid (sym was ∙ binds (Some old) at dir name None (same_fid_is f dir d) free))))
  created op o at dir name fid node deed new begun free none false false e d = untouched op o

  -- what a store or a change of attributes makes of it
  wrote : (op : Op) (o : Option Held) (patch : Patch) (deed : Deed) (a : Bool)
      → IsCountedAt server sid op f o
      (version_by server sid (if a then option_map (written patch sid) (node_of o) else node_of o) o
      (cond a (Some deed) None))
  wrote op None patch deed true = tt
  wrote op (Some old) patch deed true = updated op old (written patch sid old.node) deed (inl refl)
  wrote op o patch deed false = untouched op o

  -- what a removal makes of it
  removed : (op : Op) (o : Option Held) → finmap.get m f ≡ node_of o → (dir : Fid) (name : Name) (fid : Fid)
      (deed : Deed) → (same_fid f fid ≡ true → takes_out f op ≡ true) → child m dir name ≡ Some fid
      → (a b : Bool) → same_fid f fid ≡ a → same_fid f dir ≡ b
      → IsCountedAt server sid op f o
      (version_by server sid (if a then None else (if b then option_map (λ n. unbind_in n name) (node_of o) else
      node_of o)) o (cond b (Some deed) None))
  removed op o at dir name fid deed taken was true b e d = gone op o (cond b (Some deed) None) (taken e)
  removed op None at dir name fid deed taken was false true e d = tt
  removed op (Some old) at dir name fid deed taken was false true e d =
      updated op old (unbind_in old.node name) deed
      (inr (free_again old.node name fid (binds (Some old) at dir name (Some fid) (same_fid_is f dir d) was)))
  removed op o at dir name fid deed taken was false false e d = untouched op o

  -- what a rename makes of it, which takes it out of one directory and puts it into another, or into the same
  moved : (op : Op) (o : Option Held) → finmap.get m f ≡ node_of o → (from_dir : Fid) (from : Name) (to_dir : Fid)
      (to : Name) (fid : Fid) (lost : Option Lost) → child m from_dir from ≡ Some fid → child m to_dir to ≢ Some fid
      → (s a b : Bool) → same_fid from_dir to_dir ≡ s → same_fid f from_dir ≡ a → same_fid f to_dir ≡ b
      → IsCountedAt server sid op f o (version_by server sid
      (if b then option_map (λ n. bind_in n to fid)
      (if a then option_map (λ n. unbind_in n from) (node_of o) else node_of o) else
      (if a then option_map (λ n. unbind_in n from) (node_of o) else node_of o))
      o (cond s (cond b (Some (renames from to fid lost)) None)
      (cond a (Some (crosses from fid None)) (cond b (Some (crosses to fid lost)) None))))
  moved op None at from_dir from to_dir to fid lost was free s true true e p q = tt
  moved op None at from_dir from to_dir to fid lost was free s false true e p q = tt
  moved op None at from_dir from to_dir to fid lost was free s true false e p q = tt
  moved op None at from_dir from to_dir to fid lost was free s false false e p q = tt
  moved op (Some old) at from_dir from to_dir to fid lost was free true true true e p q =
      updated op old _ (renames from to fid lost)
      (inr (bound_anew old.node (unbind_in old.node from) to fid
      (λ same. free (sym (binds (Some old) at to_dir to _ (same_fid_is f to_dir q) refl) ∙ same))))
  moved op (Some old) at from_dir from to_dir to fid lost was free false true true e p q =
      updated op old _ (crosses from fid None)
      (inr (bound_anew old.node (unbind_in old.node from) to fid
      (λ same. free (sym (binds (Some old) at to_dir to _ (same_fid_is f to_dir q) refl) ∙ same))))
  moved op (Some old) at from_dir from to_dir to fid lost was free true false true e p q =
      updated op old _ (renames from to fid lost)
      (inr (bound_anew old.node old.node to fid
      (λ same. free (sym (binds (Some old) at to_dir to _ (same_fid_is f to_dir q) refl) ∙ same))))
  moved op (Some old) at from_dir from to_dir to fid lost was free false false true e p q =
      updated op old _ (crosses to fid lost)
      (inr (bound_anew old.node old.node to fid
      (λ same. free (sym (binds (Some old) at to_dir to _ (same_fid_is f to_dir q) refl) ∙ same))))
  moved op (Some old) at from_dir from to_dir to fid lost was free true true false e p q =
      absurd (true≢false (sym (ap (same_fid f) (sym (same_fid_is from_dir to_dir e)) ∙ p) ∙ q))
  moved op (Some old) at from_dir from to_dir to fid lost was free false true false e p q =
      updated op old _ (crosses from fid None)
      (inr (free_again old.node from fid (binds (Some old) at from_dir from (Some fid) (same_fid_is f from_dir p)
      was)))
  moved op (Some old) at from_dir from to_dir to fid lost was free true false false e p q = inl refl
  moved op (Some old) at from_dir from to_dir to fid lost was free false false false e p q = inl refl

  -- and one that replaces another object
  replaced : (op : Op) (o : Option Held) → finmap.get m f ≡ node_of o → (out from_dir : Fid) (from : Name)
      (to_dir : Fid) (to : Name) (fid : Fid) (lost : Option Lost) → (same_fid f out ≡ true → takes_out f op ≡ true)
      → child m from_dir from ≡ Some fid → child m to_dir to ≢ Some fid
      → (c s a b : Bool) → same_fid f out ≡ c → same_fid from_dir to_dir ≡ s → same_fid f from_dir ≡ a
      → same_fid f to_dir ≡ b
      → IsCountedAt server sid op f o (version_by server sid
      (if b then option_map (λ n. bind_in n to fid)
      (if a then option_map (λ n. unbind_in n from) (if c then None else node_of o) else
      (if c then None else node_of o)) else (if a then option_map (λ n. unbind_in n from)
      (if c then None else node_of o) else (if c then None else node_of o)))
      o (cond s (cond b (Some (renames from to fid lost)) None)
      (cond a (Some (crosses from fid None)) (cond b (Some (crosses to fid lost)) None))))
  replaced op o at out from_dir from to_dir to fid lost taken was free true s true true x e p q =
      gone op o None (taken x)
  replaced op o at out from_dir from to_dir to fid lost taken was free true s false true x e p q =
      gone op o None (taken x)
  replaced op o at out from_dir from to_dir to fid lost taken was free true s true false x e p q =
      gone op o None (taken x)
  replaced op o at out from_dir from to_dir to fid lost taken was free true s false false x e p q =
      gone op o None (taken x)
  replaced op o at out from_dir from to_dir to fid lost taken was free false s a b x e p q =
      moved op o at from_dir from to_dir to fid lost was free s a b e p q

-- whichever way the two fids stand
turned : (a b : Fid) → same_fid a b ≡ true → same_fid b a ≡ true
turned a b e = ap (same_fid b) (same_fid_is a b e) ∙ same_fid_refl b

module _ (server : ℕ) (sid : Sid) (time : ℕ) (f : Fid) (m : Nodes) (before : Objects) (o : Option Held) (at : finmap.get m f ≡ node_of o) where
  by_operation : (op : Op) → certify m op ≡ None → IsCountedAt server sid op f o (version_by server sid (all_edited_at f (effects time sid op) (node_of o)) o (deed_at before op f))
  unfolding deed_at certify
  by_operation (Create dir name fid mode owner) c =
      let may = may_edit m (Create dir name fid mode owner) c in
      created server sid f m (Create dir name fid mode owner) o at dir name fid _ _ refl (refl, refl) may.name_free
      may.fid_free (same_fid f fid) (same_fid f dir) refl refl
  by_operation (Mkdir dir name fid mode owner) c =
      let may = may_edit m (Mkdir dir name fid mode owner) c in
      created server sid f m (Mkdir dir name fid mode owner) o at dir name fid _ _ refl (refl, refl) may.name_free
      may.fid_free (same_fid f fid) (same_fid f dir) refl refl
  by_operation (Symlink dir name fid target mode owner) c =
      let may = may_edit m (Symlink dir name fid target mode owner) c in
      created server sid f m (Symlink dir name fid target mode owner) o at dir name fid _ _ refl (refl, refl)
      may.name_free may.fid_free (same_fid f fid) (same_fid f dir) refl refl
  by_operation (Store fid pre content) c =
      wrote server sid f m (Store fid pre content) o (content_patch content time) (writes fid) (same_fid f fid)
  by_operation (Setattr fid pre attrs) c =
      wrote server sid f m (Setattr fid pre attrs) o (attrs_patch attrs) (writes fid) (same_fid f fid)
  by_operation (Remove dir name fid pre) c =
      removed server sid f m (Remove dir name fid pre) o at dir name fid _ (turned f fid)
      (may_edit m (Remove dir name fid pre) c).bound (same_fid f fid) (same_fid f dir) refl refl
  by_operation (Rmdir dir name fid pre) c =
      removed server sid f m (Rmdir dir name fid pre) o at dir name fid _ (turned f fid)
      (may_edit m (Rmdir dir name fid pre) c).bound (same_fid f fid) (same_fid f dir) refl refl
  by_operation (Rename from_dir from to_dir to fid None) c =
      let may = may_move m from_dir from to_dir to fid c in
      moved server sid f m (Rename from_dir from to_dir to fid None) o at from_dir from to_dir to fid _ may.1
      (λ is. some_none fid (sym is ∙ may.0.free)) (same_fid from_dir to_dir) (same_fid f from_dir) (same_fid f to_dir)
      refl refl refl
  by_operation (Rename from_dir from to_dir to fid (Some over)) c =
      let may = may_replace m from_dir from to_dir to fid over c in
      replaced server sid f m (Rename from_dir from to_dir to fid (Some over)) o at over.fid from_dir from to_dir to
      fid _ (turned f over.fid) may.1
      (λ is. may.0.differ (the_some over.fid fid (sym may.0.had ∙ is) ∙ sym
      (the_some may.0.fid fid (sym may.0.was ∙ may.1))))
      (same_fid f over.fid) (same_fid from_dir to_dir) (same_fid f from_dir) (same_fid f to_dir) refl refl refl refl

pub decisions_count_updates : DecisionsCountUpdates
decisions_count_updates server client rec before after f d =
    subst (IsCountedAt server (sid_of client rec) rec.op f (finmap.get before f)) (sym is)
    (by_operation server (sid_of client rec) rec.time f d.nodes before (finmap.get before f) (d.those f) rec.op
    d.certified)
  where
    is : finmap.get after f ≡ version_by server (sid_of client rec) (operated_at f client rec (node_of (finmap.get before f))) (finmap.get before f) (deed_at before rec.op f)
    is =
        d.left f ∙ ap (λ n. version_by server (sid_of client rec) n (finmap.get before f) (deed_at before rec.op f))
        (get-applied f client rec d.nodes ∙ ap (operated_at f client rec) (d.those f))
