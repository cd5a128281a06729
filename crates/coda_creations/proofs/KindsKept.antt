-- What operations, decisions and histories leave of the kinds of objects.
use Rattle.std.proofs.Common.{◌≡◌, ℕ, true, List, [], ◌∷◌, Option, Some, None, option_map, Ok, Err}
use Rattle.std.proofs.Common.{refl, sym, ap, ◌∙◌, subst, inl, inr, ◌⊎◌}
use Rattle.std.specs.FinMap as map
use Rattle.std.proofs.lemmas.Bool.{or_left, or_right, or_cases, false≢true}
use Rattle.std.proofs.lemmas.Option.{none-some}
use Rattle.coda_fid.specs.Fid.{fid_cmp, same_fid, root_of}
use Rattle.coda_fid.specs.declared.fid.Fid.{Fid}
use Rattle.coda_fid.specs.declared.fid.Sid.{Sid}
use Rattle.coda_fid.specs.declared.op.Over.{Over}
use Rattle.coda_fid.specs.declared.op.Op.{Op}
use Rattle.coda_fid.specs.declared.op.Op.TheVariants.{Create, Mkdir, Symlink, Store, Setattr, Remove, Rmdir, Rename}
use Rattle.coda_fid.specs.declared.op.Record.{Record}
use Rattle.coda_fid.proofs.Fids.{fids_total, exact_fids}
use Rattle.coda_tree.specs.declared.node.Node.{Node}
use Rattle.coda_tree.specs.declared.node.NodeKind.{NodeKind}
use Rattle.coda_tree.specs.declared.node.NodeKind.TheVariants.{File, Link, Dir}
use Rattle.coda_tree.specs.Bindings.{Name}
use Rattle.coda_tree.specs.Volume.{Nodes, IsDir, IsDirNode, IsDirAt, changed, bind_in, unbind_in, bound, unbound, Patch}
use Rattle.coda_tree.specs.Volume.{with_content, written, content_patch, attrs_patch, additions, removals, moves}
use Rattle.coda_tree.specs.Volume.{edited_all, fresh, fresh_root}
use Rattle.coda_tree.proofs.Order.{fid_cases, get_here, get_else, gone_here, gone_else}
use Rattle.coda_tree.proofs.Changes.{at_changed, off_changed}
use Rattle.coda_certify.specs.Checks.{certify, checks}
use Rattle.coda_certify.specs.Replay.{Replayed, empty_file, empty_dir, new_link, rename_effects, effects, sid_of}
use Rattle.coda_certify.specs.Replay.{applied}
use Rattle.coda_certify.specs.Replay.{replay}
use Rattle.coda_certify.specs.Verdicts.{verdict_of, nodes_left}
use Rattle.coda_certify.specs.declared.verdict.Verdict.TheVariants.{Applied}
use Rattle.coda_certify.proofs.Passed.{AllPass, dir_from_check}
use Rattle.coda_cancel.specs.Cancel.{add, added, fold}
use Rattle.coda_cancel.proofs.Debts.{Blind}
use Rattle.coda_cancel.proofs.Keys.{fid_same}
use Rattle.coda_cml.specs.Steady.{any_record}
use Rattle.coda_cml.proofs.volumes.Certifying.{certified_checks}
use Rattle.coda_cml.proofs.runs.ThawedFold.{any_in_add}
use Rattle.coda_plain.specs.Histories.{left_by}
use Rattle.coda_plain.specs.Decisions.{ReplicaEntry, Decided, Resolved, sent_of, decision, Kept, kept_after, kept_of}
use Rattle.coda_plain.specs.Decisions.{nodes_of}
use Rattle.coda_creations.specs.Kinds.{Kind, ADirectory, kind_of, kind_in, kind_at, makes, IsBroughtAsBy}
use Rattle.coda_creations.specs.Kinds.{IsBroughtAs, DecisionsKeepKinds}
use Rattle.coda_creations.proofs.Brought.{certified, either}

-- ---- one edit

some_kind : (a b : Kind) → Some a ≡ Some b → a ≡ b
some_kind a b e = cc

-- the node of this kind
pub node_there : (o : Option Node) (kind : Kind) → kind_in o ≡ Some kind
    → (node : Node) × (o ≡ Some node) × (kind_of node.kind ≡ kind)
node_there None kind e = absurd (none-some kind e)
node_there (Some node) kind e = (node, refl, some_kind (kind_of node.kind) kind e)

pub put_kind : (m : Nodes) (at : Fid) (node : Node) (f : Fid) (kind : Kind)
    → kind_at (map.insert m at node) f ≡ Some kind
    → (kind_at m f ≡ Some kind) ⊎ ((f ≡ at) × (kind_of node.kind ≡ kind))
put_kind m at node f kind is = elim (fid_cases f at) [
  | inl same ↦
      let here : kind_at (map.insert m at node) f ≡ Some (kind_of node.kind) =
      ap (kind_at (map.insert m at node)) same ∙ ap kind_in (get_here fids_total m at node) in
      inr (same, some_kind (kind_of node.kind) kind (sym here ∙ is))
  | inr other ↦ inl (sym (ap kind_in (get_else fids_total exact_fids m at node f other)) ∙ is)
]

pub take_kind : (m : Nodes) (gone f : Fid) (kind : Kind) → kind_at (map.remove m gone) f ≡ Some kind
    → kind_at m f ≡ Some kind
take_kind m gone f kind is = elim (fid_cases f gone) [
  | inl same ↦ absurd (none-some kind
      (sym (ap (kind_at (map.remove m gone)) same ∙ ap kind_in (gone_here fids_total m gone)) ∙ is))
  | inr other ↦ sym (ap kind_in (gone_else fids_total exact_fids m gone f other)) ∙ is
]

change_kind : (m : Nodes) (d : Fid) (change : Node → Node)
    → ((was : Node) → map.get m d ≡ Some was → kind_of (change was).kind ≡ kind_of was.kind) → (f : Fid)
    → kind_at (changed m d change) f ≡ kind_at m f
change_kind m d change keeps f = elim (fid_cases f d) [
  | inl at ↦ ap (kind_at (changed m d change)) at ∙ ap kind_in (at_changed m d change) ∙ by (map.get m d) keeps ∙ ap
      (kind_at m) (sym at)
  | inr off ↦ ap kind_in (off_changed m d change f off)
]
  where
    by : (o : Option Node) → ((was : Node) → o ≡ Some was → kind_of (change was).kind ≡ kind_of was.kind)
        → kind_in (option_map change o) ≡ kind_in o
    by None keeps = refl
    by (Some was) keeps = ap Some (keeps was refl)

-- what stands there is a directory, if anything
abbrev IsNoOther : Option Node → Type 0
IsNoOther None = Unit {0}
IsNoOther (Some node) = IsDir node.kind

no_other : (o : Option Node) → IsDirNode o → IsNoOther o
no_other None is = absurd is
no_other (Some node) is = is

dir_kind : (kind : NodeKind) → IsDir kind → ADirectory ≡ kind_of kind
dir_kind (File content) is = absurd is
dir_kind (Link target) is = absurd is
dir_kind (Dir entries) is = refl

bind_kind : (m : Nodes) (d : Fid) (name : Name) (fid : Fid) → IsNoOther (map.get m d) → (f : Fid)
    → kind_at (bound m d name fid) f ≡ kind_at m f
bind_kind m d name fid dir f =
    change_kind m d (λ node. bind_in node name fid) (λ was is. dir_kind was.kind (subst IsNoOther is dir)) f

unbind_kind : (m : Nodes) (d : Fid) (name : Name) → IsNoOther (map.get m d) → (f : Fid)
    → kind_at (unbound m d name) f ≡ kind_at m f
unbind_kind m d name dir f =
    change_kind m d (λ node. unbind_in node name) (λ was is. dir_kind was.kind (subst IsNoOther is dir)) f

write_kind : (m : Nodes) (at : Fid) (patch : Patch) (sid : Sid) (f : Fid)
    → kind_at (changed m at (written patch sid)) f ≡ kind_at m f
write_kind m at patch sid f = change_kind m at (written patch sid) (λ was is. by patch.content was.kind) f
  where
    by : (content : Option (List ℕ)) (kind : NodeKind) → kind_of (with_content content kind) ≡ kind_of kind
    by None kind = refl
    by (Some new) (File content) = refl
    by (Some new) (Link target) = refl
    by (Some new) (Dir entries) = refl

dir_stays_taken : (m : Nodes) (gone d : Fid) → IsNoOther (map.get m d) → IsNoOther (map.get (map.remove m gone) d)
dir_stays_taken m gone d dir = elim (fid_cases d gone) [
  | inl same ↦ subst IsNoOther (sym (ap (map.get (map.remove m gone)) same ∙ gone_here fids_total m gone)) tt
  | inr other ↦ subst IsNoOther (sym (gone_else fids_total exact_fids m gone d other)) dir
]

dir_stays_unbound : (m : Nodes) (e : Fid) (name : Name) (d : Fid) → IsNoOther (map.get m d)
    → IsNoOther (map.get (unbound m e name) d)
dir_stays_unbound m e name d dir = elim (fid_cases d e) [
  | inl same ↦ subst IsNoOther (sym
      (ap (map.get (unbound m e name)) same ∙ at_changed m e (λ node. unbind_in node name))) (by (map.get m e))
  | inr other ↦ subst IsNoOther (sym (off_changed m e (λ node. unbind_in node name) d other)) dir
]
  where
    by : (o : Option Node) → IsNoOther (option_map (λ node. unbind_in node name) o)
    by None = tt
    by (Some node) = tt

-- ---- one operation

-- the directories in which an operation binds and unbinds are directories
abbrev pub GoesByDirs : Nodes → Op → Type 0
GoesByDirs m (Create dir name fid mode owner) = IsDirAt m dir
GoesByDirs m (Mkdir dir name fid mode owner) = IsDirAt m dir
GoesByDirs m (Symlink dir name fid target mode owner) = IsDirAt m dir
GoesByDirs m (Store fid pre content) = Unit {0}
GoesByDirs m (Setattr fid pre attrs) = Unit {0}
GoesByDirs m (Remove dir name fid pre) = IsDirAt m dir
GoesByDirs m (Rmdir dir name fid pre) = IsDirAt m dir
GoesByDirs m (Rename from_dir from to_dir to fid over) = IsDirAt m from_dir × IsDirAt m to_dir

added_kind : (m : Nodes) (dir : Fid) (name : Name) (fid : Fid) (node : Node) (f : Fid) (kind : Kind) → IsDirAt m dir
    → kind_at (edited_all m (additions dir name fid node)) f ≡ Some kind
    → (kind_at m f ≡ Some kind) ⊎ ((same_fid fid f ≡ true) × (kind_of node.kind ≡ kind))
added_kind m dir name fid node f kind is_dir is =
    elim (put_kind (bound m dir name fid) fid node f kind is) [
      | inl old ↦ inl (sym (bind_kind m dir name fid (no_other (map.get m dir) is_dir) f) ∙ old)
      | inr anew ↦ inr (fid_same fid f (sym anew.0), anew.1)
    ]

removed_kind : (m : Nodes) (dir : Fid) (name : Name) (fid f : Fid) (kind : Kind) → IsDirAt m dir
    → kind_at (edited_all m (removals dir name fid)) f ≡ Some kind → kind_at m f ≡ Some kind
removed_kind m dir name fid f kind is_dir is =
    sym (unbind_kind m dir name (no_other (map.get m dir) is_dir) f) ∙ take_kind (unbound m dir name) fid f kind is

moved_kind : (m : Nodes) (from_dir : Fid) (from : Name) (to_dir : Fid) (to : Name) (fid f : Fid)
    → IsNoOther (map.get m from_dir) → IsNoOther (map.get m to_dir)
    → kind_at (edited_all m (moves from_dir from to_dir to fid)) f ≡ kind_at m f
moved_kind m from_dir from to_dir to fid f old new =
    bind_kind (unbound m from_dir from) to_dir to fid (dir_stays_unbound m from_dir from to_dir new) f
    ∙ unbind_kind m from_dir from old f

renamed_kind : (m : Nodes) (from_dir : Fid) (from : Name) (to_dir : Fid) (to : Name) (fid : Fid) (over : Option Over)
    (f : Fid) (kind : Kind) → IsDirAt m from_dir → IsDirAt m to_dir
    → kind_at (edited_all m (rename_effects from_dir from to_dir to fid over)) f ≡ Some kind → kind_at m f ≡ Some kind
renamed_kind m from_dir from to_dir to fid None f kind old new is =
    sym (moved_kind m from_dir from to_dir to fid f (no_other (map.get m from_dir) old)
    (no_other (map.get m to_dir) new)) ∙ is
renamed_kind m from_dir from to_dir to fid (Some over) f kind old new is =
    let old_left = dir_stays_taken m over.fid from_dir (no_other (map.get m from_dir) old) in
    let new_left = dir_stays_taken m over.fid to_dir (no_other (map.get m to_dir) new) in
    take_kind m over.fid f kind (sym
    (moved_kind (map.remove m over.fid) from_dir from to_dir to fid f old_left new_left) ∙ is)

kind_by : (m : Nodes) (time : ℕ) (sid : Sid) (op : Op) (f : Fid) (kind : Kind) → GoesByDirs m op
    → kind_at (edited_all m (effects time sid op)) f ≡ Some kind
    → (kind_at m f ≡ Some kind) ⊎ (makes f kind op ≡ true)
kind_by m time sid (Create dir name fid mode owner) f kind dirs is =
    elim (added_kind m dir name fid (empty_file mode owner time sid) f kind dirs is) [
      | inl old ↦ inl old
      | inr anew ↦ inr (subst (λ k. makes f k (Create dir name fid mode owner) ≡ true) anew.1 anew.0)
    ]
kind_by m time sid (Mkdir dir name fid mode owner) f kind dirs is =
    elim (added_kind m dir name fid (empty_dir mode owner time sid) f kind dirs is) [
      | inl old ↦ inl old
      | inr anew ↦ inr (subst (λ k. makes f k (Mkdir dir name fid mode owner) ≡ true) anew.1 anew.0)
    ]
kind_by m time sid (Symlink dir name fid target mode owner) f kind dirs is =
    elim (added_kind m dir name fid (new_link target mode owner time sid) f kind dirs is) [
      | inl old ↦ inl old
      | inr anew ↦ inr (subst (λ k. makes f k (Symlink dir name fid target mode owner) ≡ true) anew.1 anew.0)
    ]
kind_by m time sid (Store fid pre content) f kind dirs is =
    inl (sym (write_kind m fid (content_patch content time) sid f) ∙ is)
kind_by m time sid (Setattr fid pre attrs) f kind dirs is = inl (sym (write_kind m fid (attrs_patch attrs) sid f) ∙ is)
kind_by m time sid (Remove dir name fid pre) f kind dirs is = inl (removed_kind m dir name fid f kind dirs is)
kind_by m time sid (Rmdir dir name fid pre) f kind dirs is = inl (removed_kind m dir name fid f kind dirs is)
kind_by m time sid (Rename from_dir from to_dir to fid over) f kind dirs is =
    inl (renamed_kind m from_dir from to_dir to fid over f kind dirs.0 dirs.1 is)

-- behind an operation that goes by directories an object is of the kind that it was, or the operation made it so
pub kind_operated : (m : Nodes) (client : ℕ) (rec : Record) (f : Fid) (kind : Kind) → GoesByDirs m rec.op
    → kind_at (applied m client rec) f ≡ Some kind → (kind_at m f ≡ Some kind) ⊎ (makes f kind rec.op ≡ true)
unfolding applied
kind_operated m client rec f kind dirs is = kind_by m rec.time (sid_of client rec) rec.op f kind dirs is

-- ---- a replay

passed_dirs : (m : Nodes) (op : Op) → AllPass m (checks op) → GoesByDirs m op
passed_dirs m (Create dir name fid mode owner) pass = dir_from_check (map.get m dir) dir pass.0
passed_dirs m (Mkdir dir name fid mode owner) pass = dir_from_check (map.get m dir) dir pass.0
passed_dirs m (Symlink dir name fid target mode owner) pass = dir_from_check (map.get m dir) dir pass.0
passed_dirs m (Store fid pre content) pass = tt
passed_dirs m (Setattr fid pre attrs) pass = tt
passed_dirs m (Remove dir name fid pre) pass = dir_from_check (map.get m dir) dir pass.0
passed_dirs m (Rmdir dir name fid pre) pass = dir_from_check (map.get m dir) dir pass.0
passed_dirs m (Rename from_dir from to_dir to fid None) pass =
    (dir_from_check (map.get m from_dir) from_dir pass.0, dir_from_check (map.get m to_dir) to_dir pass.1.0)
passed_dirs m (Rename from_dir from to_dir to fid (Some over)) pass =
    (dir_from_check (map.get m from_dir) from_dir pass.0, dir_from_check (map.get m to_dir) to_dir pass.1.0)

replayed_kind : (m : Nodes) (client : ℕ) (recs : List Record) (left : Nodes) (f : Fid) (kind : Kind)
    → replay m client recs ≡ Ok left → kind_at left f ≡ Some kind
    → (kind_at m f ≡ Some kind) ⊎ (any_record (makes f kind) recs ≡ true)
replayed_kind m client [] left f kind e is =
    (let same : m ≡ left = cc in inl (subst (λ k. kind_at k f ≡ Some kind) (sym same) is))
replayed_kind m client (rec ∷ recs) left f kind e is =
    let c = certified (certify m rec.op) rec.number (replay (applied m client rec) client recs) left e in
    let dirs = passed_dirs m rec.op (certified_checks m rec.op c.0) in
    elim (replayed_kind (applied m client rec) client recs left f kind c.1 is) [
      | inl was ↦ elim (kind_operated m client rec f kind dirs was)
          [ inl old ↦ inl old | inr made ↦ inr (or_left (makes f kind rec.op) (any_record (makes f kind) recs) made) ]
      | inr later ↦ inr (or_right (makes f kind rec.op) (any_record (makes f kind) recs) later)
    ]

-- what an operation makes it makes whatever version it carries
makes_blind : (f : Fid) (kind : Kind) → Blind (makes f kind)
makes_blind f kind h (Rename from_dir from to_dir to fid over) = refl
makes_blind f kind h _ = refl

-- what cancellation leaves makes nothing else
made_added : (f : Fid) (kind : Kind) (rs os : List Record) → any_record (makes f kind) (added rs os) ≡ true
    → (any_record (makes f kind) rs ≡ true) ⊎ (any_record (makes f kind) os ≡ true)
made_added f kind rs [] h = inl h
made_added f kind rs (o ∷ os) h = elim (made_added f kind (add rs o) os h) [
  | inl front ↦ elim (or_cases (any_record (makes f kind) rs) (makes f kind o.op)
      (any_in_add (makes f kind) (makes_blind f kind) rs o front)) [
        | inl old ↦ inl old
        | inr here ↦ inr (or_left (makes f kind o.op) (any_record (makes f kind) os) here)
      ]
  | inr later ↦ inr (or_right (makes f kind o.op) (any_record (makes f kind) os) later)
]

sent_made : (f : Fid) (kind : Kind) (span : List Record) → any_record (makes f kind) (fold span) ≡ true
    → any_record (makes f kind) span ≡ true
sent_made f kind span h = elim (made_added f kind [] span h) [ inl none ↦ absurd (false≢true none) | inr is ↦ is ]

-- ---- a decision

decided_by : (m : Nodes) (client : ℕ) (span : List Record) (f : Fid) (kind : Kind) (r : Replayed)
    → decision m client span ≡ r → kind_at (nodes_left m r) f ≡ Some kind
    → (kind_at m f ≡ Some kind) ⊎ ((verdict_of r ≡ Applied) × (any_record (makes f kind) span ≡ true))
decided_by m client span f kind (Err why) e is = inl is
decided_by m client span f kind (Ok left) e is =
    elim (either (replay m client span) (replay m client (sent_of span)) left e) [
      | inl whole ↦ elim (replayed_kind m client span left f kind whole is)
          [ inl old ↦ inl old | inr made ↦ inr (refl, made) ]
      | inr sent ↦ elim (replayed_kind m client (sent_of span) left f kind sent is)
          [ inl old ↦ inl old | inr made ↦ inr (refl, sent_made f kind span made) ]
    ]

pub decisions_keep : DecisionsKeepKinds
decisions_keep m client span f kind is =
    elim (decided_by m client span f kind (decision m client span) refl is)
    [ inl old ↦ inl old | inr made ↦ inr made.1 ]

-- ---- a history

pub entry_kind : (before : Kept) (e : ReplicaEntry) (f : Fid) (kind : Kind)
    → kind_at (kept_after before e).nodes f ≡ Some kind
    → (kind_at before.nodes f ≡ Some kind) ⊎ IsBroughtAsBy f kind before e
entry_kind before (Decided client number span) f kind is =
    decided_by before.nodes client span f kind (decision before.nodes client span) refl is
entry_kind before (Resolved objects lasts) f kind is = inr is

pub entries_kind : (before : Kept) (history : List ReplicaEntry) (f : Fid) (kind : Kind)
    → kind_at (left_by kept_after before history).nodes f ≡ Some kind
    → (kind_at before.nodes f ≡ Some kind) ⊎ IsBroughtAs f kind before history
entries_kind before [] f kind is = inl is
entries_kind before (e ∷ es) f kind is = elim (entries_kind (kept_after before e) es f kind is) [
  | inl was ↦ elim (entry_kind before e f kind was) [ inl old ↦ inl old | inr by ↦ inr (inl by) ]
  | inr later ↦ inr (inr later)
]

-- what a fresh volume has is its root
pub fresh_kind : (volume : ℕ) (f : Fid) (kind : Kind) → kind_at (fresh volume).nodes f ≡ Some kind
    → (f ≡ root_of volume) × (kind ≡ ADirectory)
fresh_kind volume f kind is = elim (put_kind map.empty (root_of volume) fresh_root f kind is) [
  | inl none ↦ absurd (none-some kind (sym (ap kind_in (map.get-empty fid_cmp f)) ∙ none))
  | inr root ↦ (root.0, sym root.1)
]

-- what a replica has is its root, or was brought
pub history_kind : (volume : ℕ) (history : List ReplicaEntry) (f : Fid) (kind : Kind)
    → kind_at (nodes_of volume history) f ≡ Some kind
    → ((f ≡ root_of volume) × (kind ≡ ADirectory)) ⊎ IsBroughtAs f kind (kept_of volume []) history
history_kind volume history f kind is = elim (entries_kind (kept_of volume []) history f kind is) [
  | inl root ↦ inl (fresh_kind volume f kind root)
  | inr by ↦ inr by
]
