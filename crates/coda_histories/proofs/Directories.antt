-- The parents of what is cached stay directories: after fetches, drops and operations.
use Rattle.std.proofs.Common.{◌≡◌, ◌≢◌, ℕ, Bool, true, cond, List, Option, Some, None, refl, sym, ap, subst, ◌∙◌, inl, inr, ◌⊎◌}
use Rattle.std.specs.Prelude.{not}
use Rattle.std.specs.FinMap as map
use Rattle.std.proofs.lemmas.Option.{none-some}
use Rattle.coda_fid.specs.declared.fid.Fid.{Fid}
use Rattle.coda_fid.specs.declared.fid.Sid.{Sid}
use Rattle.coda_fid.specs.declared.op.Op.{Op}
use Rattle.coda_fid.specs.declared.op.Op.TheVariants.{Create, Mkdir, Symlink, Store, Setattr, Remove, Rmdir, Rename}
use Rattle.coda_fid.specs.declared.op.Record.{Record}
use Rattle.coda_fid.proofs.Fids.{fids_total, exact_fids}
use Rattle.coda_tree.specs.declared.node.Node.{Node}
use Rattle.coda_tree.specs.declared.node.NodeKind.{NodeKind}
use Rattle.coda_tree.specs.declared.node.NodeKind.TheVariants.{File, Link, Dir}
use Rattle.coda_tree.specs.Bindings.{Name}
use Rattle.coda_tree.specs.Volume.{Nodes, IsDir, IsDirNode, IsDirAt, bind_in, unbind_in, bound, unbound, Patch, with_content, written, content_patch, attrs_patch, additions, removals, moves, edited_all}
use Rattle.coda_tree.proofs.Order.{fid_cases, get_here, get_else, gone_else}
use Rattle.coda_tree.proofs.Changes.{dir_changed, dir_not_free}
use Rattle.coda_certify.specs.Replay.{empty_file, empty_dir, new_link, effects, sid_of, applied}
use Rattle.coda_venus.specs.Held.{Parents, Held, is_below, taken_out, stays, held_without, parents_after, held_after_operation, held_after_fetch}
use Rattle.coda_venus.specs.Accepting.{Sight}
use Rattle.coda_venus.proofs.Accepted.{Relies}
use Rattle.coda_venus.specs.Held.{held_after_drop}
use Rattle.coda_venus.specs.History.{IsParent}
use Rattle.coda_histories.specs.Forests.{IsForest, ParentsAreDirs}
use Rattle.coda_histories.proofs.Forests.{IsBeside, stays_above, may_be_dir, without_was}
use Rattle.coda_histories.proofs.Ways.{some_fid, get_left, left_was, stays_apart}

pub put_was : (parents : Parents) (fid dir f p : Fid) → map.get (map.insert parents fid dir) f ≡ Some p → (map.get parents f ≡ Some p) ⊎ ((p ≡ dir) × (f ≡ fid))
put_was parents fid dir f p is = elim (fid_cases f fid) [
  | inl same ↦ inr (sym (some_fid dir p (sym (ap (map.get (map.insert parents fid dir)) same ∙ get_here fids_total parents fid dir) ∙ is)), same)
  | inr other ↦ inl (sym (get_else fids_total exact_fids parents fid dir f other) ∙ is)
]

-- ---- after a fetch, and after a drop

-- a directory stays one where a fetch of it gives one
dir_fetched : (m : Nodes) (fid : Fid) (node : Node) (d : Fid) → (IsDirAt m fid → IsDir node.kind) → IsDirAt m d → IsDirAt (map.insert m fid node) d
dir_fetched m fid node d keeps is = elim (fid_cases d fid) [
  | inl same ↦ subst IsDirNode (sym (ap (map.get (map.insert m fid node)) same ∙ get_here fids_total m fid node)) (keeps (subst (IsDirAt m) same is))
  | inr other ↦ subst IsDirNode (sym (get_else fids_total exact_fids m fid node d other)) is
]

pub under_fetched : (h : Held) (fid : Fid) (parent : Option Fid) (node : Node) → IsParent h fid parent → (IsDirAt h.nodes fid → IsDir node.kind) → ParentsAreDirs h → ParentsAreDirs (held_after_fetch h fid parent node)
under_fetched h fid None node of keeps under = λ f p is. dir_fetched h.nodes fid node p keeps (under f p is)
under_fetched h fid (Some dir) node of keeps under = λ f p is. elim (put_was h.parents fid dir f p is) [
  | inl old ↦ dir_fetched h.nodes fid node p keeps (under f p old)
  | inr at ↦ dir_fetched h.nodes fid node p keeps (subst (IsDirAt h.nodes) (sym at.0) (elim of [
    | inl own ↦ under fid dir own
    | inr anew ↦ may_be_dir h.nodes fid dir anew.1
  ]))
]

-- an object that is nobody's parent is dropped
pub under_dropped : (h : Held) (fid : Fid) → ((f : Fid) → map.get h.parents f ≢ Some fid) → ParentsAreDirs h → ParentsAreDirs (held_after_drop h fid)
under_dropped h fid childless under = λ f p is. (
    let was = without_was h.parents fid f p is in
    let other : p ≢ fid = λ same. childless f (was.1 ∙ ap Some same) in
    subst IsDirNode (sym (gone_else fids_total exact_fids h.nodes fid p other)) (under f p was.1))

-- ---- directories after an operation

dir_added : (m : Nodes) (dir : Fid) (name : Name) (fid : Fid) (new : Node) (d : Fid) → map.get m fid ≡ None → IsDirAt m d → IsDirAt (edited_all m (additions dir name fid new)) d
dir_added m dir name fid new d free is =
    subst IsDirNode (sym (get_else fids_total exact_fids (bound m dir name fid) fid new d (dir_not_free m d fid is free))) (dir_changed m dir (λ n. bind_in n name fid) (λ n _. tt) d is)

dir_removed : (m : Nodes) (dir : Fid) (name : Name) (fid d : Fid) → d ≢ fid → IsDirAt m d → IsDirAt (edited_all m (removals dir name fid)) d
dir_removed m dir name fid d other is = subst IsDirNode (sym (gone_else fids_total exact_fids (unbound m dir name) fid d other)) (dir_changed m dir (λ n. unbind_in n name) (λ n _. tt) d is)

dir_moved : (m : Nodes) (from_dir : Fid) (from : Name) (to_dir : Fid) (to : Name) (fid d : Fid) → IsDirAt m d → IsDirAt (edited_all m (moves from_dir from to_dir to fid)) d
dir_moved m from_dir from to_dir to fid d is = dir_changed (unbound m from_dir from) to_dir (λ n. bind_in n to fid) (λ n _. tt) d (dir_changed m from_dir (λ n. unbind_in n from) (λ n _. tt) d is)

dir_written : (patch : Patch) (sid : Sid) (node : Node) → IsDir node.kind → IsDir (written patch sid node).kind
dir_written patch sid node = by patch.content node.kind
  where
    by : (content : Option (List ℕ)) (kind : NodeKind) → IsDir kind → IsDir (with_content content kind)
    by None kind is = is
    by (Some new) (File content) is = absurd is
    by (Some new) (Link target) is = absurd is
    by (Some new) (Dir entries) is = tt

dir_by : (s : Sight) (volume time : ℕ) (sid : Sid) (op : Op) (d : Fid) → Relies s volume op → ((gone : Fid) → taken_out op ≡ Some gone → d ≢ gone) → IsDirAt s.held.nodes d → IsDirAt (edited_all s.held.nodes (effects time sid op)) d
dir_by s volume time sid (Create dir name fid mode owner) d r left is = dir_added s.held.nodes dir name fid (empty_file mode owner time sid) d r.place.fid_free is
dir_by s volume time sid (Mkdir dir name fid mode owner) d r left is = dir_added s.held.nodes dir name fid (empty_dir mode owner time sid) d r.place.fid_free is
dir_by s volume time sid (Symlink dir name fid target mode owner) d r left is = dir_added s.held.nodes dir name fid (new_link target mode owner time sid) d r.place.fid_free is
dir_by s volume time sid (Store fid pre content) d r left is = dir_changed s.held.nodes fid (written (content_patch content time) sid) (dir_written (content_patch content time) sid) d is
dir_by s volume time sid (Setattr fid pre attrs) d r left is = dir_changed s.held.nodes fid (written (attrs_patch attrs) sid) (dir_written (attrs_patch attrs) sid) d is
dir_by s volume time sid (Remove dir name fid pre) d r left is = dir_removed s.held.nodes dir name fid d (left fid refl) is
dir_by s volume time sid (Rmdir dir name fid pre) d r left is = dir_removed s.held.nodes dir name fid d (left fid refl) is
dir_by s volume time sid (Rename from_dir from to_dir to fid None) d r left is = dir_moved s.held.nodes from_dir from to_dir to fid d is
dir_by s volume time sid (Rename from_dir from to_dir to fid (Some over)) d r left is =
    dir_moved (map.remove s.held.nodes over.fid) from_dir from to_dir to fid d (subst IsDirNode (sym (gone_else fids_total exact_fids s.held.nodes over.fid d (left over.fid refl))) is)

-- a directory stays one, unless the operation takes it out
dir_operation : (s : Sight) (volume client : ℕ) (rec : Record) (d : Fid) → Relies s volume rec.op → ((gone : Fid) → taken_out rec.op ≡ Some gone → d ≢ gone) → IsDirAt s.held.nodes d → IsDirAt (applied s.held.nodes client rec) d
unfolding applied
dir_operation s volume client rec d relies left is = dir_by s volume rec.time (sid_of client rec) rec.op d relies left is

-- ---- parents after an operation

-- a parent was so before, or is a directory that isn't below what the operation takes out
abbrev WasOrMade : Held → Op → Fid → Fid → Type 0
WasOrMade h op f p = (map.get h.parents f ≡ Some p) ⊎ (IsDirAt h.nodes p × ((gone : Fid) → taken_out op ≡ Some gone → stays h.parents gone p ≡ true))

created_was : (h : Held) (op : Op) (dir fid f p : Fid) → taken_out op ≡ None → IsDirAt h.nodes dir → map.get (map.insert h.parents fid dir) f ≡ Some p → WasOrMade h op f p
created_was h op dir fid f p none at is = elim (put_was h.parents fid dir f p is) [
  | inl old ↦ inl old
  | inr anew ↦ inr (subst (IsDirAt h.nodes) (sym anew.0) at, λ gone taken. absurd (none-some gone (sym none ∙ taken)))
]

parents_was : (s : Sight) (volume : ℕ) (op : Op) (f p : Fid) → Relies s volume op → IsBeside s.held.parents op → map.get (parents_after s.held.parents op) f ≡ Some p → WasOrMade s.held op f p
parents_was s volume (Create dir name fid mode owner) f p r beside is = created_was s.held (Create dir name fid mode owner) dir fid f p refl r.place.dir_there is
parents_was s volume (Mkdir dir name fid mode owner) f p r beside is = created_was s.held (Mkdir dir name fid mode owner) dir fid f p refl r.place.dir_there is
parents_was s volume (Symlink dir name fid target mode owner) f p r beside is = created_was s.held (Symlink dir name fid target mode owner) dir fid f p refl r.place.dir_there is
parents_was s volume (Store fid pre content) f p r beside is = inl is
parents_was s volume (Setattr fid pre attrs) f p r beside is = inl is
parents_was s volume (Remove dir name fid pre) f p r beside is = inl is
parents_was s volume (Rmdir dir name fid pre) f p r beside is = inl is
parents_was s volume (Rename from_dir from to_dir to fid None) f p r beside is = created_was s.held (Rename from_dir from to_dir to fid None) to_dir fid f p refl r.places.to_there is
parents_was s volume (Rename from_dir from to_dir to fid (Some over)) f p r beside is = elim (put_was s.held.parents fid to_dir f p is) [
  | inl old ↦ inl old
  | inr at ↦ inr (
    subst (IsDirAt s.held.nodes) (sym at.0) r.places.to_there,
    λ gone taken. ap not ((λ i. is_below s.held.parents (at.0 i) (sym (some_fid over.fid gone taken) i)) ∙ beside),
  )
]

-- what is below a directory that stays is a directory that stays
dir_left : (m : Nodes) (test : Fid → Bool) (p : Fid) → test p ≡ true → IsDirAt m p → IsDirAt (map.retain_keys m test) p
dir_left m test p passes is = subst IsDirNode (sym (get_left m test p ∙ ap (λ b. cond b (map.get m p) None) passes)) is

module _ (s : Sight) (volume client : ℕ) (rec : Record) (relies : Relies s volume rec.op) (beside : IsBeside s.held.parents rec.op) (forest : IsForest s.held) (under : ParentsAreDirs s.held) where
  abbrev behind : Held
  behind = record { nodes = applied s.held.nodes client rec; parents = parents_after s.held.parents rec.op }

  -- a parent was a directory
  was_dir : (f p : Fid) → map.get behind.parents f ≡ Some p → IsDirAt s.held.nodes p
  was_dir f p is = elim (parents_was s volume rec.op f p relies beside is) [ inl old ↦ under f p old | inr anew ↦ anew.0 ]

  -- and stays where the object does
  parent_stays : (gone f p : Fid) → taken_out rec.op ≡ Some gone → map.get behind.parents f ≡ Some p → stays s.held.parents gone f ≡ true → stays s.held.parents gone p ≡ true
  parent_stays gone f p takes is here = elim (parents_was s volume rec.op f p relies beside is) [
    | inl old ↦ stays_above s.held gone f p forest old here
    | inr anew ↦ anew.1 gone takes
  ]

  under_without : (o : Option Fid) → taken_out rec.op ≡ o → ParentsAreDirs (held_without o s.held.parents behind)
  under_without None takes = λ f p is. dir_operation s volume client rec p relies (λ gone same. absurd (none-some gone (sym takes ∙ same))) (was_dir f p is)
  under_without (Some gone) takes = λ f p is. (
      let at = left_was behind.parents (stays s.held.parents gone) f p is in
      let here = parent_stays gone f p takes at.1 at.0 in
      let other : p ≢ gone = stays_apart s.held.parents gone p here in
      dir_left behind.nodes (stays s.held.parents gone) p here (dir_operation s volume client rec p relies (λ g same. subst (λ x. p ≢ x) (some_fid gone g (sym takes ∙ same)) other) (was_dir f p at.1)))

  -- the client's own operation
  pub under_operation : ParentsAreDirs (held_after_operation s.held client rec)
  under_operation = under_without (taken_out rec.op) refl
