-- What a certified operation leaves: a volume, in which each object has the kind that it had.
use Rattle.std.proofs.Common.{◌≡◌, ◌≢◌, ℕ, false, cond, Option, Some, None, is_some, refl, sym, ap, ◌∙◌, subst, inr}
use Rattle.std.specs.FinMap as map
use Rattle.std.proofs.lemmas.Bool.{true≢false}
use Rattle.std.proofs.lemmas.Option.{same_Some}
use Rattle.coda_fid.specs.Fid.{same_fid}
use Rattle.coda_fid.specs.Name.{name_cmp}
use Rattle.coda_fid.specs.declared.fid.Fid.{Fid}
use Rattle.coda_fid.specs.declared.fid.Sid.{Sid}
use Rattle.coda_fid.specs.declared.op.Op.{Op}
use Rattle.coda_fid.specs.declared.op.Record.{Record}
use Rattle.coda_fid.specs.declared.op.Op.TheVariants.{Create, Mkdir, Symlink, Store, Setattr, Remove, Rmdir, Rename}
use Rattle.coda_tree.specs.declared.node.Node.{Node}
use Rattle.coda_tree.specs.Bindings.{Name}
use Rattle.coda_tree.specs.Tree.{IsBelow}
use Rattle.coda_tree.specs.Volume.{Nodes, child, IsVolume, IsLeaf, Patch, content_patch, attrs_patch, written}
use Rattle.coda_tree.specs.Volume.{changed, parent_of, is_below, edited_all, additions, removals, moves, replacements}
use Rattle.coda_tree.specs.Volume.{replaced, MayMove, MayReplace}
use Rattle.coda_tree.specs.Keeping.{IsKept}
use Rattle.coda_tree.proofs.Below.{is_below_complete}
use Rattle.coda_tree.proofs.Changes.{added_is, dir_node, volume_added, volume_detached}
use Rattle.coda_tree.proofs.KeptMoved.{kept_moved, kept_replaced}
use Rattle.coda_tree.proofs.KeptParents.{kept_written}
use Rattle.coda_tree.proofs.Moved.{detached_is, moved_is}
use Rattle.coda_tree.proofs.Parents.{parent_is, parent_sound}
use Rattle.coda_tree.proofs.Changes.{binder_is_dir}
use Rattle.coda_certify.specs.Checks.{certify}
use Rattle.coda_certify.specs.Replay.{MayCreate, MayRemove, effects, sid_of, applied}
use Rattle.coda_certify.proofs.Passed.{may_edit, may_move, may_replace}
use Rattle.coda_lineage.specs.Deeds.{makes}
use Rattle.coda_lineage.proofs.Edits.{fid_same, fid_other, KeepsKinds, KeepsKindsBut, keeps_created, keeps_less}
use Rattle.coda_lineage.proofs.Edits.{keeps_wrote, keeps_moved, keeps_replaced}

replaced_edits : (m : Nodes) (old from : Fid) (name : Name) (to : Fid) (at : Name) (f : Fid)
    → replaced m old from name to at f ≡ edited_all m (replacements old from name to at f)
unfolding replaced
replaced_edits m old from name to at f = refl

module _ {root : Fid} (m : Nodes) (v : IsVolume root m) where
  -- a volume with the directories that bind its fids
  with_parents : IsKept root m (parent_of m)
  with_parents = record {
    volume = v;
    kept = record { parent = λ f p is. parent_sound m f p is; binds = λ p n f is. parent_is m v p n f is };
  }

  created_volume : (dir : Fid) (name : Name) (fid : Fid) (node : Node) → IsLeaf node → MayCreate m dir name fid
      → IsVolume root (edited_all m (additions dir name fid node))
  created_volume dir name fid node leaf may =
      let there = dir_node m dir may.dir_there in
      subst (IsVolume root) (added_is m dir name fid node)
      (volume_added m dir name fid node there.0 there.1 may.fid_free v may.name_free leaf)

  removed_volume : (dir : Fid) (name : Name) (fid : Fid) → MayRemove m dir name fid
      → IsVolume root (edited_all m (removals dir name fid))
  removed_volume dir name fid may =
      let there = dir_node m dir may.dir_there in
      subst (IsVolume root) (detached_is m dir name fid)
      (volume_detached m dir name fid there.0 there.1 v may.bound may.leaf)

  written_volume : (fid : Fid) (patch : Patch) (sid : Sid) → IsVolume root (changed m fid (written patch sid))
  written_volume fid patch sid = let k = kept_written m (parent_of m) fid patch sid with_parents in k.volume

  not_below : (from : Fid) (name : Name) (to : Fid) (at : Name) (f : Fid) → MayMove m from name to at
      → child m from name ≡ Some f → IsBelow (child m) f to → ⊥
  not_below from name to at f may was below =
      let there = dir_node m to may.to_dir in
      let same : may.fid ≡ f = same_Some may.fid f (sym may.was ∙ was) in
      let apart : is_below m to f ≡ false = subst (λ (g : Fid). is_below m to g ≡ false) same may.apart in
      true≢false (sym (is_below_complete m v to f (ap is_some there.1) below) ∙ apart)

  moved_volume : (from : Fid) (name : Name) (to : Fid) (at : Name) (f : Fid) → MayMove m from name to at
      → child m from name ≡ Some f → IsVolume root (edited_all m (moves from name to at f))
  moved_volume from name to at f may was =
      let new : Fid → Option Fid = λ q. cond (same_fid q f) (Some to) (parent_of m q) in
      let k = kept_moved m (parent_of m) new from name to at f
      (ap (λ b. cond b (Some to) (parent_of m f)) (fid_same f f refl))
      (λ q other. ap (λ b. cond b (Some to) (parent_of m q)) (fid_other q f other))
      with_parents was may.to_dir may.free (not_below from name to at f may was) in
      subst (IsVolume root) (moved_is m from name to at f) k.volume

  module _ (gone from : Fid) (name : Name) (to : Fid) (at : Name) (f : Fid) (may : MayReplace m gone from name to at) (was : child m from name ≡ Some f) where
    same : may.fid ≡ f
    same = same_Some may.fid f (sym may.was ∙ was)

    pub differ : gone ≢ f
    differ = subst (λ (g : Fid). gone ≢ g) same may.differ

    pub leaf : (n : Name) → child m f n ≡ None
    leaf = subst (λ (g : Fid). (n : Name) → child m g n ≡ None) same may.leaf

    replaced_volume : IsVolume root (edited_all m (replacements gone from name to at f))
    replaced_volume =
        let new : Fid → Option Fid = λ q. cond (same_fid q f) (Some to) (cond (same_fid q gone) None (parent_of m q)) in
        let k = kept_replaced m (parent_of m) new gone from name to at f
        (ap (λ b. cond b (Some to) (cond (same_fid f gone) None (parent_of m f))) (fid_same f f refl))
        (ap (λ b. cond b (Some to) (cond (same_fid gone gone) None (parent_of m gone))) (fid_other gone f differ) ∙ ap
        (λ b. cond b None (parent_of m gone)) (fid_same gone gone refl))
        (λ q other stays. ap (λ b. cond b (Some to) (cond (same_fid q gone) None (parent_of m q)))
        (fid_other q f other) ∙ ap (λ b. cond b None (parent_of m q)) (fid_other q gone stays))
        with_parents was may.had differ leaf may.old_leaf in
        subst (IsVolume root) (replaced_edits m gone from name to at f) k.volume

  volume_after : (time : ℕ) (sid : Sid) (op : Op) → certify m op ≡ None
      → IsVolume root (edited_all m (effects time sid op))
  unfolding certify
  volume_after time sid (Create dir name fid mode owner) c =
      created_volume dir name fid _ (λ n. map.get-empty name_cmp n) (may_edit m (Create dir name fid mode owner) c)
  volume_after time sid (Mkdir dir name fid mode owner) c =
      created_volume dir name fid _ (λ n. map.get-empty name_cmp n) (may_edit m (Mkdir dir name fid mode owner) c)
  volume_after time sid (Symlink dir name fid target mode owner) c =
      created_volume dir name fid _ (λ n. map.get-empty name_cmp n)
      (may_edit m (Symlink dir name fid target mode owner) c)
  volume_after time sid (Store fid pre content) c = written_volume fid (content_patch content time) sid
  volume_after time sid (Setattr fid pre attrs) c = written_volume fid (attrs_patch attrs) sid
  volume_after time sid (Remove dir name fid pre) c =
      removed_volume dir name fid (may_edit m (Remove dir name fid pre) c)
  volume_after time sid (Rmdir dir name fid pre) c = removed_volume dir name fid (may_edit m (Rmdir dir name fid pre) c)
  volume_after time sid (Rename from_dir from to_dir to fid None) c = let may = may_move m from_dir from to_dir to fid c in moved_volume from_dir from to_dir to fid may.0 may.1
  volume_after time sid (Rename from_dir from to_dir to fid (Some over)) c = let may = may_replace m from_dir from to_dir to fid over c in replaced_volume over.fid from_dir from to_dir to fid may.0 may.1

  -- what a certified record leaves is a volume
  pub applied_volume : (client : ℕ) (rec : Record) → certify m rec.op ≡ None → IsVolume root (applied m client rec)
  unfolding applied
  applied_volume client rec c = volume_after rec.time (sid_of client rec) rec.op c

  -- what makes nothing keeps all kinds
  kept : (left : Nodes) → KeepsKinds m left → KeepsKindsBut None m left
  kept left keeps f node e = inr (keeps f node e)

  keeps_after : (time : ℕ) (sid : Sid) (op : Op) → certify m op ≡ None
      → KeepsKindsBut (makes op) m (edited_all m (effects time sid op))
  unfolding certify
  keeps_after time sid (Create dir name fid mode owner) c =
      keeps_created m dir name fid _ (may_edit m (Create dir name fid mode owner) c)
  keeps_after time sid (Mkdir dir name fid mode owner) c =
      keeps_created m dir name fid _ (may_edit m (Mkdir dir name fid mode owner) c)
  keeps_after time sid (Symlink dir name fid target mode owner) c =
      keeps_created m dir name fid _ (may_edit m (Symlink dir name fid target mode owner) c)
  keeps_after time sid (Store fid pre content) c = kept _ (keeps_wrote m fid (content_patch content time) sid)
  keeps_after time sid (Setattr fid pre attrs) c = kept _ (keeps_wrote m fid (attrs_patch attrs) sid)
  keeps_after time sid (Remove dir name fid pre) c =
      kept _ (keeps_less m dir name fid (may_edit m (Remove dir name fid pre) c))
  keeps_after time sid (Rmdir dir name fid pre) c =
      kept _ (keeps_less m dir name fid (may_edit m (Rmdir dir name fid pre) c))
  keeps_after time sid (Rename from_dir from to_dir to fid None) c =
      let may = may_move m from_dir from to_dir to fid c in
      kept _ (keeps_moved m from_dir from to_dir to fid (binder_is_dir m from_dir from fid may.1) may.0.to_dir)
  keeps_after time sid (Rename from_dir from to_dir to fid (Some over)) c =
      let may = may_replace m from_dir from to_dir to fid over c in
      kept _ (keeps_replaced m over.fid from_dir from to_dir to fid may.1 may.0.had may.0.old_leaf)

  -- and each node has the kind that it had, but for the one that is made
  pub applied_keeps : (client : ℕ) (rec : Record) → certify m rec.op ≡ None
      → KeepsKindsBut (makes rec.op) m (applied m client rec)
  unfolding applied
  applied_keeps client rec c = keeps_after rec.time (sid_of client rec) rec.op c
