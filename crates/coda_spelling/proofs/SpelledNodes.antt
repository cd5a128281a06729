-- What nodes have can be spelled, after operations and fetches of what can be spelled.
use Rattle.std.proofs.Common.{◌≡◌, ℕ, List, [], ◌∷◌, Option, Some, None, option_map, Ok, Err, refl, sym, ap, ◌∙◌, subst, inl, inr, arith}
use Rattle.std.specs.FinMap as map
use Rattle.coda_fid.proofs.Fids.{fids_total, exact_fids}
use Rattle.coda_fid.specs.declared.fid.Fid.{Fid}
use Rattle.coda_fid.specs.declared.fid.Sid.{Sid}
use Rattle.coda_fid.specs.declared.op.Op.{Op}
use Rattle.coda_fid.specs.declared.op.Op.TheVariants.{Create, Mkdir, Symlink, Store, Setattr, Remove, Rmdir, Rename}
use Rattle.coda_fid.specs.declared.op.Record.{Record}
use Rattle.coda_tree.specs.declared.node.Node.{Node}
use Rattle.coda_tree.specs.Bindings.{Name}
use Rattle.coda_tree.specs.Volume.{Nodes, child, child_of, changed, bind_in, unbind_in, written, Edit, Put, Bind, TakeOut, Unbind, Write, edited, edited_all, fresh, fresh_root}
use Rattle.coda_tree.proofs.Changes.{at_changed, off_changed}
use Rattle.coda_tree.proofs.Order.{fid_cases, get_here, get_else, gone_here, gone_else}
use Rattle.coda_certify.specs.declared.reason.Reason.{Reason}
use Rattle.coda_certify.specs.Checks.{certify}
use Rattle.coda_certify.specs.Replay.{effects, sid_of, applied, Replayed, unless_refused, replay}
use Rattle.coda_certify.specs.Verdicts.{nodes_left}
use Rattle.coda_record.specs.Form.{eight}
use Rattle.coda_record.specs.Parts.{u8}
use Rattle.coda_record.specs.Spelling.{HasSpelling}
use Rattle.coda_record.specs.Table as table
use Rattle.coda_spelling.specs.Spelled.{IsSpelled, AreAllSpelled, AreSpelled}
use Rattle.coda_spelling.proofs.BoundBefore.{IsBoundBy, bound_before}
use Rattle.coda_spelling.proofs.SpelledParts.{within, is_within, sid_spelled, IsOpSpelled, create_parts, mkdir_parts, symlink_parts, rename_parts}

some_node : (x y : Node) → Some x ≡ Some y → x ≡ y
some_node x y e = cc

-- ---- versions

abbrev AreVersions : Nodes → Type 0
AreVersions m = (fid : Fid) (node : Node) → map.get m fid ≡ Some node → HasSpelling table.sid node.sid

version_of : (x y : Node) → Some x ≡ Some y → HasSpelling table.sid x.sid → HasSpelling table.sid y.sid
version_of x y e is = subst (λ (n : Node). HasSpelling table.sid n.sid) (some_node x y e) is

version_put : (m : Nodes) (f : Fid) (node : Node) → AreVersions m → HasSpelling table.sid node.sid → AreVersions (map.insert m f node)
version_put m f node are is fid other e = elim (fid_cases fid f) [
  | inl same ↦ version_of node other (sym (ap (map.get (map.insert m f node)) same ∙ get_here fids_total m f node) ∙ e) is
  | inr off ↦ are fid other (sym (get_else fids_total exact_fids m f node fid off) ∙ e)
]

version_taken : (m : Nodes) (f : Fid) → AreVersions m → AreVersions (map.remove m f)
version_taken m f are fid other e = elim (fid_cases fid f) [
  | inl same ↦ (let no : None ≡ Some other = sym (ap (map.get (map.remove m f)) same ∙ gone_here fids_total m f) ∙ e in cc)
  | inr off ↦ are fid other (sym (gone_else fids_total exact_fids m f fid off) ∙ e)
]

version_changed : (m : Nodes) (d : Fid) (change : Node → Node) → AreVersions m → ((node : Node) → HasSpelling table.sid node.sid → HasSpelling table.sid (change node).sid) → AreVersions (changed m d change)
version_changed m d change are keeps fid other e = elim (fid_cases fid d) [
  | inl same ↦ by (map.get m d) refl (sym (ap (map.get (changed m d change)) same ∙ at_changed m d change) ∙ e)
  | inr off ↦ are fid other (sym (off_changed m d change fid off) ∙ e)
]
  where
    by : (o : Option Node) → map.get m d ≡ o → option_map change o ≡ Some other → HasSpelling table.sid other.sid
    by None at h = (let no : None ≡ Some other = h in cc)
    by (Some node) at h = version_of (change node) other h (keeps node (are d node at))

-- the version that an edit puts
abbrev IsVersion : Edit → Type 0
IsVersion (Put f node) = HasSpelling table.sid node.sid
IsVersion (Bind d name f) = Unit {0}
IsVersion (TakeOut f) = Unit {0}
IsVersion (Unbind d name) = Unit {0}
IsVersion (Write f patch sid) = HasSpelling table.sid sid

version_edited : (m : Nodes) (edit : Edit) → AreVersions m → IsVersion edit → AreVersions (edited m edit)
version_edited m (Put f node) are is = version_put m f node are is
version_edited m (Bind d name f) are is = version_changed m d (λ node. bind_in node name f) are (λ node h. h)
version_edited m (TakeOut f) are is = version_taken m f are
version_edited m (Unbind d name) are is = version_changed m d (λ node. unbind_in node name) are (λ node h. h)
version_edited m (Write f patch sid) are is = version_changed m f (written patch sid) are (λ node h. is)

abbrev AreAllVersions : List Edit → Type 0
AreAllVersions [] = Unit {0}
AreAllVersions (edit ∷ edits) = IsVersion edit × AreAllVersions edits

versions_edited : (m : Nodes) (edits : List Edit) → AreVersions m → AreAllVersions edits → AreVersions (edited_all m edits)
versions_edited m [] are is = are
versions_edited m (edit ∷ edits) are is = versions_edited (edited m edit) edits (version_edited m edit are is.0) is.1

versions_of : (time : ℕ) (sid : Sid) (op : Op) → HasSpelling table.sid sid → AreAllVersions (effects time sid op)
versions_of time sid (Create dir name fid mode owner) is = (tt, (is, tt))
versions_of time sid (Mkdir dir name fid mode owner) is = (tt, (is, tt))
versions_of time sid (Symlink dir name fid target mode owner) is = (tt, (is, tt))
versions_of time sid (Store fid pre content) is = (is, tt)
versions_of time sid (Setattr fid pre attrs) is = (is, tt)
versions_of time sid (Remove dir name fid pre) is = (tt, (tt, tt))
versions_of time sid (Rmdir dir name fid pre) is = (tt, (tt, tt))
versions_of time sid (Rename from_dir from to_dir to fid None) is = (tt, (tt, tt))
versions_of time sid (Rename from_dir from to_dir to fid (Some over)) is = (tt, (tt, (tt, tt)))

-- an operation's name as a version
named : (client : ℕ) (rec : Record) → HasSpelling u8 client → IsSpelled rec → HasSpelling table.sid (sid_of client rec)
named client rec number is =
    let few = (is_within 1 4294967295 eight rec.number is.number).1 in
    sid_spelled (sid_of client rec) number (within 0 4294967295 eight rec.number (omega arith) few (omega (arith, few)))

versions_after : (m : Nodes) (client : ℕ) (rec : Record) → AreVersions m → HasSpelling u8 client → IsSpelled rec → AreVersions (applied m client rec)
unfolding applied
versions_after m client rec are number is = versions_edited m (effects rec.time (sid_of client rec) rec.op) are (versions_of rec.time (sid_of client rec) rec.op (named client rec number is))

-- ---- what is bound

bound_spelled : (op : Op) (dir : Fid) (name : Name) (kid : Fid) → IsOpSpelled op → IsBoundBy op dir name kid → HasSpelling table.fid kid
bound_spelled (Create d n f mode owner) dir name kid is at = subst (HasSpelling table.fid) (sym at.2) (create_parts d n f mode owner is).1
bound_spelled (Mkdir d n f mode owner) dir name kid is at = subst (HasSpelling table.fid) (sym at.2) (mkdir_parts d n f mode owner is).1
bound_spelled (Symlink d n f target mode owner) dir name kid is at = subst (HasSpelling table.fid) (sym at.2) (symlink_parts d n f target mode owner is).1
bound_spelled (Store f pre content) dir name kid is at = absurd at
bound_spelled (Setattr f pre attrs) dir name kid is at = absurd at
bound_spelled (Remove d n f pre) dir name kid is at = absurd at
bound_spelled (Rmdir d n f pre) dir name kid is at = absurd at
bound_spelled (Rename from_dir from to_dir to f over) dir name kid is at = subst (HasSpelling table.fid) (sym at.2) (rename_parts from_dir from to_dir to f over is).4

-- ---- nodes

-- after an operation
pub after_operation : (m : Nodes) (client : ℕ) (rec : Record) → AreSpelled m → HasSpelling u8 client → IsSpelled rec → AreSpelled (applied m client rec)
after_operation m client rec are number is = record {
  versions = versions_after m client rec are.versions number is;
  bound = λ dir kid name at. elim (bound_before m client rec dir name kid at) [ inl old ↦ are.bound dir kid name old | inr anew ↦ bound_spelled rec.op dir name kid is.op anew ];
}

-- after a replay
ok_nodes : (x y : Nodes) → (let ok : Nodes → Replayed = λ z. Ok z in ok x ≡ ok y) → x ≡ y
ok_nodes x y h = cc

goes_on : (o : Option Reason) (number : ℕ) (rest : Replayed) (nodes : Nodes) → (rest ≡ Ok nodes → AreSpelled nodes) → unless_refused o number rest ≡ Ok nodes → AreSpelled nodes
goes_on None number rest nodes then_ h = then_ h
goes_on (Some why) number rest nodes then_ h = cc

after_replay : (m : Nodes) (client : ℕ) (recs : List Record) (nodes : Nodes) → AreSpelled m → HasSpelling u8 client → AreAllSpelled recs → replay m client recs ≡ Ok nodes → AreSpelled nodes
after_replay m client [] nodes are number is e = subst AreSpelled (ok_nodes m nodes e) are
after_replay m client (rec ∷ recs) nodes are number is e =
    goes_on (certify m rec.op) rec.number (replay (applied m client rec) client recs) nodes (after_replay (applied m client rec) client recs nodes (after_operation m client rec are number is.0) number is.1) e

-- after a replay, whatever becomes of it
pub left_spelled : (m : Nodes) (client : ℕ) (recs : List Record) → AreSpelled m → HasSpelling u8 client → AreAllSpelled recs → AreSpelled (nodes_left m (replay m client recs))
left_spelled m client recs are number is = by (replay m client recs) refl
  where
    by : (r : Replayed) → replay m client recs ≡ r → AreSpelled (nodes_left m r)
    by (Err why) e = are
    by (Ok nodes) e = after_replay m client recs nodes are number is e

-- after a fetch from nodes that can be spelled
pub after_fetch : (m from : Nodes) (fid : Fid) (node : Node) → AreSpelled m → AreSpelled from → map.get from fid ≡ Some node → AreSpelled (map.insert m fid node)
after_fetch m from fid node are offered at = record {
  versions = version_put m fid node are.versions (offered.versions fid node at);
  bound = λ dir kid name is. elim (fid_cases dir fid) [
    | inl same ↦ offered.bound fid kid name (ap (λ o. child_of o name) (at ∙ sym (get_here fids_total m fid node)) ∙ ap (λ d. child (map.insert m fid node) d name) (sym same) ∙ is)
    | inr off ↦ are.bound dir kid name (sym (ap (λ o. child_of o name) (get_else fids_total exact_fids m fid node dir off)) ∙ is)
  ];
}

-- a fresh volume binds nothing, and its root's version is that of no operation
pub fresh_spelled : (volume : ℕ) → AreSpelled (fresh volume).nodes
unfolding table.sid
fresh_spelled volume = after_root
  where
    none : AreSpelled map.empty
    none = record {
      versions = λ fid node e. (let no : None ≡ Some node = sym (map.get-empty _ fid) ∙ e in cc);
      bound = λ dir kid name e. (let no : None ≡ Some kid = ap (λ o. child_of o name) (sym (map.get-empty _ dir)) ∙ e in cc);
    }

    after_root : AreSpelled (fresh volume).nodes
    after_root = record {
      versions = version_put map.empty _ fresh_root none.versions refl;
      bound = λ dir kid name is. elim (fid_cases dir _) [
        | inl same ↦ (let no : None ≡ Some kid = sym (map.get-empty _ name) ∙ ap (λ o. child_of o name) (sym (get_here fids_total map.empty _ fresh_root)) ∙ ap (λ d. child (fresh volume).nodes d name) (sym same) ∙ is in cc)
        | inr off ↦ none.bound dir kid name (sym (ap (λ o. child_of o name) (get_else fids_total exact_fids map.empty _ fresh_root dir off)) ∙ is)
      ];
    }
