-- What is bound after an operation was bound before, or is what the operation binds.
use Rattle.std.proofs.Common.{◌≡◌, ℕ, List, Option, Some, None, option_map, refl, sym, ap, ◌∙◌, inl, inr, ◌⊎◌}
use Rattle.std.specs.FinMap as map
use Rattle.std.proofs.lemmas.Option.{none-some}
use Rattle.coda_fid.specs.Name.{name_cmp}
use Rattle.coda_fid.specs.declared.fid.Fid.{Fid}
use Rattle.coda_fid.specs.declared.fid.Sid.{Sid}
use Rattle.coda_fid.specs.declared.op.Over.{Over}
use Rattle.coda_fid.specs.declared.op.Op.{Op}
use Rattle.coda_fid.specs.declared.op.Op.TheVariants.{Create, Mkdir, Symlink, Store, Setattr, Remove, Rmdir, Rename}
use Rattle.coda_fid.specs.declared.op.Record.{Record}
use Rattle.coda_fid.proofs.Fids.{fids_total, exact_fids}
use Rattle.coda_tree.specs.declared.node.Node.{Node}
use Rattle.coda_tree.specs.declared.node.NodeKind.{NodeKind}
use Rattle.coda_tree.specs.declared.node.NodeKind.TheVariants.{File, Link, Dir}
use Rattle.coda_tree.specs.Bindings.{Name}
use Rattle.coda_tree.specs.Volume.{Nodes, bindings, child, child_of, changed, bind_in, unbind_in, bound, unbound, Patch, with_content, written, additions, removals, moves, content_patch, attrs_patch, edited_all}
use Rattle.coda_tree.proofs.Order.{fid_cases, name_cases, get_here, get_else, gone_here, gone_else}
use Rattle.coda_tree.proofs.Changes.{at_changed, off_changed, bound_else, bind_here, unbound_here, unbound_else}
use Rattle.coda_certify.specs.Replay.{empty_file, empty_dir, new_link, rename_effects, effects, sid_of, applied}

some_fid : (x y : Fid) → Some x ≡ Some y → x ≡ y
some_fid x y e = cc

-- a write leaves what is bound
written_binds : (patch : Patch) (sid : Sid) (o : Option Node) (n : Name) → child_of (option_map (written patch sid) o) n ≡ child_of o n
written_binds patch sid None n = refl
written_binds patch sid (Some node) n = by patch.content node.kind
  where
    by : (content : Option (List ℕ)) (kind : NodeKind) → map.get (bindings (with_content content kind)) n ≡ map.get (bindings kind) n
    by None kind = refl
    by (Some new) (File content) = refl
    by (Some new) (Link target) = refl
    by (Some new) (Dir entries) = refl

child_written : (m : Nodes) (f : Fid) (patch : Patch) (sid : Sid) (d : Fid) (n : Name) → child (changed m f (written patch sid)) d n ≡ child m d n
child_written m f patch sid d n = elim (fid_cases d f) [
  | inl at ↦
      ap (λ e. child (changed m f (written patch sid)) e n) at ∙ ap (λ o. child_of o n) (at_changed m f (written patch sid)) ∙ written_binds patch sid (map.get m f) n
      ∙ ap (λ e. child m e n) (sym at)
  | inr off ↦ ap (λ o. child_of o n) (off_changed m f (written patch sid) d off)
]

-- whether an operation binds the object at the name of the directory
abbrev pub IsBoundBy : Op → Fid → Name → Fid → Type 0
IsBoundBy (Create dir name fid mode owner) d n f = (d ≡ dir) × (n ≡ name) × (f ≡ fid)
IsBoundBy (Mkdir dir name fid mode owner) d n f = (d ≡ dir) × (n ≡ name) × (f ≡ fid)
IsBoundBy (Symlink dir name fid target mode owner) d n f = (d ≡ dir) × (n ≡ name) × (f ≡ fid)
IsBoundBy (Store fid pre content) d n f = ⊥
IsBoundBy (Setattr fid pre attrs) d n f = ⊥
IsBoundBy (Remove dir name fid pre) d n f = ⊥
IsBoundBy (Rmdir dir name fid pre) d n f = ⊥
IsBoundBy (Rename from_dir from to_dir to fid over) d n f = (d ≡ to_dir) × (n ≡ to) × (f ≡ fid)

-- what an edit leaves bound was bound, or is what it binds
was_bound : (m : Nodes) (dir : Fid) (name : Name) (fid d : Fid) (n : Name) (f : Fid) → child (bound m dir name fid) d n ≡ Some f → (child m d n ≡ Some f) ⊎ ((d ≡ dir) × (n ≡ name) × (f ≡ fid))
was_bound m dir name fid d n f is = elim (fid_cases d dir) [
  | inl at ↦ elim (name_cases n name) [
    | inl same ↦ inr (at, same, by (map.get m dir) (sym (ap (λ o. child_of o name) (at_changed m dir (λ node. bind_in node name fid))) ∙ sym (λ i. child (bound m dir name fid) (at i) (same i)) ∙ is))
    | inr other ↦ inl (sym (bound_else m dir name fid d n (λ both. other both.1)) ∙ is)
  ]
  | inr off ↦ inl (sym (bound_else m dir name fid d n (λ both. off both.0)) ∙ is)
]
  where
    by : (o : Option Node) → child_of (option_map (λ node. bind_in node name fid) o) name ≡ Some f → f ≡ fid
    by None e = absurd (none-some f e)
    by (Some node) e = sym (some_fid fid f (sym (bind_here node name fid) ∙ e))

was_unbound : (m : Nodes) (dir : Fid) (name : Name) (d : Fid) (n : Name) (f : Fid) → child (unbound m dir name) d n ≡ Some f → child m d n ≡ Some f
was_unbound m dir name d n f is = elim (fid_cases d dir) [
  | inl at ↦ elim (name_cases n name) [
    | inl same ↦ absurd (none-some f (sym (unbound_here m dir name) ∙ sym (λ i. child (unbound m dir name) (at i) (same i)) ∙ is))
    | inr other ↦ sym (unbound_else m dir name d n (λ both. other both.1)) ∙ is
  ]
  | inr off ↦ sym (unbound_else m dir name d n (λ both. off both.0)) ∙ is
]

was_put : (m : Nodes) (fid : Fid) (node : Node) (d : Fid) (n : Name) (f : Fid) → ((name : Name) → map.get (bindings node.kind) name ≡ None) → child (map.insert m fid node) d n ≡ Some f → child m d n ≡ Some f
was_put m fid node d n f leaf is = elim (fid_cases d fid) [
  | inl at ↦ absurd (none-some f (sym (ap (λ e. child (map.insert m fid node) e n) at ∙ ap (λ o. child_of o n) (get_here fids_total m fid node) ∙ leaf n) ∙ is))
  | inr off ↦ sym (ap (λ o. child_of o n) (get_else fids_total exact_fids m fid node d off)) ∙ is
]

was_taken : (m : Nodes) (gone d : Fid) (n : Name) (f : Fid) → child (map.remove m gone) d n ≡ Some f → child m d n ≡ Some f
was_taken m gone d n f is = elim (fid_cases d gone) [
  | inl at ↦ absurd (none-some f (sym (ap (λ e. child (map.remove m gone) e n) at ∙ ap (λ o. child_of o n) (gone_here fids_total m gone)) ∙ is))
  | inr off ↦ sym (ap (λ o. child_of o n) (gone_else fids_total exact_fids m gone d off)) ∙ is
]

was_added : (m : Nodes) (dir : Fid) (name : Name) (fid : Fid) (node : Node) (d : Fid) (n : Name) (f : Fid) → ((k : Name) → map.get (bindings node.kind) k ≡ None) → child (edited_all m (additions dir name fid node)) d n ≡ Some f
    → (child m d n ≡ Some f) ⊎ ((d ≡ dir) × (n ≡ name) × (f ≡ fid))
was_added m dir name fid node d n f leaf is = was_bound m dir name fid d n f (was_put (bound m dir name fid) fid node d n f leaf is)

was_removed : (m : Nodes) (dir : Fid) (name : Name) (fid d : Fid) (n : Name) (f : Fid) → child (edited_all m (removals dir name fid)) d n ≡ Some f → child m d n ≡ Some f
was_removed m dir name fid d n f is = was_unbound m dir name d n f (was_taken (unbound m dir name) fid d n f is)

was_moved : (m : Nodes) (from_dir : Fid) (from : Name) (to_dir : Fid) (to : Name) (fid d : Fid) (n : Name) (f : Fid) → child (edited_all m (moves from_dir from to_dir to fid)) d n ≡ Some f
    → (child m d n ≡ Some f) ⊎ ((d ≡ to_dir) × (n ≡ to) × (f ≡ fid))
was_moved m from_dir from to_dir to fid d n f is = elim (was_bound (unbound m from_dir from) to_dir to fid d n f is) [
  | inl old ↦ inl (was_unbound m from_dir from d n f old)
  | inr anew ↦ inr anew
]

was_renamed : (m : Nodes) (from_dir : Fid) (from : Name) (to_dir : Fid) (to : Name) (fid : Fid) (over : Option Over) (d : Fid) (n : Name) (f : Fid) → child (edited_all m (rename_effects from_dir from to_dir to fid over)) d n ≡ Some f
    → (child m d n ≡ Some f) ⊎ ((d ≡ to_dir) × (n ≡ to) × (f ≡ fid))
was_renamed m from_dir from to_dir to fid None d n f is = was_moved m from_dir from to_dir to fid d n f is
was_renamed m from_dir from to_dir to fid (Some over) d n f is = elim (was_moved (map.remove m over.fid) from_dir from to_dir to fid d n f is) [
  | inl old ↦ inl (was_taken m over.fid d n f old)
  | inr anew ↦ inr anew
]

was_by : (m : Nodes) (time : ℕ) (sid : Sid) (op : Op) (d : Fid) (n : Name) (f : Fid) → child (edited_all m (effects time sid op)) d n ≡ Some f → (child m d n ≡ Some f) ⊎ IsBoundBy op d n f
was_by m time sid (Create dir name fid mode owner) d n f is = was_added m dir name fid (empty_file mode owner time sid) d n f (map.get-empty name_cmp) is
was_by m time sid (Mkdir dir name fid mode owner) d n f is = was_added m dir name fid (empty_dir mode owner time sid) d n f (map.get-empty name_cmp) is
was_by m time sid (Symlink dir name fid target mode owner) d n f is = was_added m dir name fid (new_link target mode owner time sid) d n f (map.get-empty name_cmp) is
was_by m time sid (Store fid pre content) d n f is = inl (sym (child_written m fid (content_patch content time) sid d n) ∙ is)
was_by m time sid (Setattr fid pre attrs) d n f is = inl (sym (child_written m fid (attrs_patch attrs) sid d n) ∙ is)
was_by m time sid (Remove dir name fid pre) d n f is = inl (was_removed m dir name fid d n f is)
was_by m time sid (Rmdir dir name fid pre) d n f is = inl (was_removed m dir name fid d n f is)
was_by m time sid (Rename from_dir from to_dir to fid over) d n f is = was_renamed m from_dir from to_dir to fid over d n f is

-- what is bound after an operation was bound before, or the operation binds it
pub bound_before : (m : Nodes) (client : ℕ) (rec : Record) (dir : Fid) (name : Name) (kid : Fid) → child (applied m client rec) dir name ≡ Some kid → (child m dir name ≡ Some kid) ⊎ IsBoundBy rec.op dir name kid
unfolding applied
bound_before m client rec dir name kid is = was_by m rec.time (sid_of client rec) rec.op dir name kid is
