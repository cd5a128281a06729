-- What an operation leaves bound, what it binds, and what is held after it.
use Rattle.std.proofs.Common.{◌≡◌, ◌≢◌, ℕ, true, false, ◌||◌, List, Option, Some, None, is_some, option_map, refl, sym, ap, subst, ◌∙◌, inl, inr, ◌⊎◌}
use Rattle.std.specs.FinMap as map
use Rattle.std.proofs.lemmas.Bool.{or_parts, false≢true}
use Rattle.std.proofs.lemmas.Option.{none-some}
use Rattle.coda_fid.specs.Fid.{same_fid}
use Rattle.coda_fid.specs.Name.{name_cmp}
use Rattle.coda_fid.specs.declared.fid.Fid.{Fid}
use Rattle.coda_fid.specs.declared.fid.Sid.{Sid}
use Rattle.coda_fid.specs.declared.op.Over.{Over}
use Rattle.coda_fid.specs.declared.op.Op.{Op}
use Rattle.coda_fid.specs.declared.op.Op.TheVariants.{Create, Mkdir, Symlink, Store, Setattr, Remove, Rmdir, Rename}
use Rattle.coda_fid.specs.declared.op.Record.{Record}
use Rattle.coda_fid.proofs.Fids.{fids_total, exact_fids}
use Rattle.coda_tree.specs.declared.node.Node.{Node}
use Rattle.coda_tree.specs.declared.node.NodeKind.{NodeKind}
use Rattle.coda_tree.specs.declared.node.NodeKind.TheVariants.{File, Link, Dir}
use Rattle.coda_tree.specs.Bindings.{Name}
use Rattle.coda_tree.specs.Volume.{Nodes, bindings, child, child_of, has, IsDirAt, IsDirNode, changed, bind_in, unbind_in, bound, unbound, Patch, with_content, written, additions, removals, moves, content_patch, attrs_patch, edited_all}
use Rattle.coda_tree.proofs.Order.{fid_cases, name_cases, get_here, get_else, gone_here, gone_else}
use Rattle.coda_tree.proofs.Changes.{at_changed, off_changed, has_changed, bound_else, bound_there, bind_here, unbound_here, unbound_else, dir_changed, dir_not_free}
use Rattle.coda_certify.specs.Replay.{MayCreate, MayRemove, empty_file, empty_dir, new_link, rename_effects, effects, sid_of, applied}
use Rattle.coda_cancel.specs.Dropping.{creates}
use Rattle.coda_cancel.proofs.Keys.{fid_same, fid_false, fid_other}
use Rattle.coda_cml.specs.Steady.{unbinds}
use Rattle.coda_venus.specs.Held.{Parents, Held, AreBound, taken_out, stays, held_without, parents_after, held_after_operation}
use Rattle.coda_venus.specs.Accepting.{Sight}
use Rattle.coda_venus.proofs.Accepted.{MayMove, Relies}
use Rattle.coda_histories.proofs.Ways.{some_fid}
use Rattle.coda_cell.proofs.Fetches.{child_fetched}
use Rattle.coda_histories.proofs.Ways.{left_was, stays_apart}
use Rattle.coda_cell.proofs.Going.{nodes_alone}

-- a write leaves what is bound
written_binds : (patch : Patch) (sid : Sid) (o : Option Node) (n : Name) → child_of (option_map (written patch sid) o) n ≡ child_of o n
written_binds patch sid None n = refl
written_binds patch sid (Some node) n = by patch.content node.kind
  where
    by : (content : Option (List ℕ)) (kind : NodeKind) → map.get (bindings (with_content content kind)) n ≡ map.get (bindings kind) n
    by None kind = refl
    by (Some new) (File content) = refl
    by (Some new) (Link target) = refl
    by (Some new) (Dir entries) = refl

child_written : (m : Nodes) (f : Fid) (patch : Patch) (sid : Sid) (d : Fid) (n : Name) → child (changed m f (written patch sid)) d n ≡ child m d n
child_written m f patch sid d n = elim (fid_cases d f) [
  | inl at ↦
      ap (λ e. child (changed m f (written patch sid)) e n) at ∙ ap (λ o. child_of o n) (at_changed m f (written patch sid)) ∙ written_binds patch sid (map.get m f) n
      ∙ ap (λ e. child m e n) (sym at)
  | inr off ↦ ap (λ o. child_of o n) (off_changed m f (written patch sid) d off)
]

-- what binds something isn't what binds nothing
binds_apart : (m : Nodes) (d gone kid : Fid) (n : Name) → child m d n ≡ Some kid → ((name : Name) → child m gone name ≡ None) → d ≢ gone
binds_apart m d gone kid n was leaf same = none-some kid (sym (leaf n) ∙ ap (λ e. child m e n) (sym same) ∙ was)

-- what is bound elsewhere stays when an object is taken out
still_there : (m : Nodes) (gone d kid : Fid) (n : Name) → d ≢ gone → child m d n ≡ Some kid → child (map.remove m gone) d n ≡ Some kid
still_there m gone d kid n apart was = ap (λ o. child_of o n) (gone_else fids_total exact_fids m gone d apart) ∙ was

-- the new object isn't there when it is put
none_put : (m : Nodes) (dir : Fid) (name : Name) (fid : Fid) → IsDirAt m dir → map.get m fid ≡ None → map.get (bound m dir name fid) fid ≡ None
none_put m dir name fid is free = off_changed m dir (λ node. bind_in node name fid) fid (λ same. dir_not_free m dir fid is free (sym same)) ∙ free

-- what is bound isn't where nothing is bound
not_free : (m : Nodes) (d dir kid : Fid) (n name : Name) → child m d n ≡ Some kid → child m dir name ≡ None → (d ≡ dir) × (n ≡ name) → ⊥
not_free m d dir kid n name was free at = none-some kid (sym free ∙ sym (λ i. child m (at.0 i) (at.1 i)) ∙ was)

-- nor where another object is
not_other : (m : Nodes) (d dir kid fid : Fid) (n name : Name) → child m d n ≡ Some kid → child m dir name ≡ Some fid → same_fid fid kid ≡ false → (d ≡ dir) × (n ≡ name) → ⊥
not_other m d dir kid fid n name was is other at = fid_false fid kid other (some_fid fid kid (sym is ∙ sym (λ i. child m (at.0 i) (at.1 i)) ∙ was))

still_added : (m : Nodes) (dir : Fid) (name : Name) (fid : Fid) (node : Node) (d : Fid) (n : Name) (kid : Fid) → MayCreate m dir name fid → child m d n ≡ Some kid → child (edited_all m (additions dir name fid node)) d n ≡ Some kid
still_added m dir name fid node d n kid may was =
    child_fetched (bound m dir name fid) fid d kid node n (none_put m dir name fid may.dir_there may.fid_free)
    (bound_else m dir name fid d n (not_free m d dir kid n name was may.name_free) ∙ was)

still_removed : (m : Nodes) (dir : Fid) (name : Name) (fid : Fid) (d : Fid) (n : Name) (kid : Fid) → MayRemove m dir name fid → same_fid fid kid ≡ false → child m d n ≡ Some kid → child (edited_all m (removals dir name fid)) d n ≡ Some kid
still_removed m dir name fid d n kid may other was =
    still_there (unbound m dir name) fid d kid n (binds_apart m d fid kid n was may.leaf)
    (unbound_else m dir name d n (not_other m d dir kid fid n name was may.bound other) ∙ was)

still_moved : (m : Nodes) (from_dir : Fid) (from : Name) (to_dir : Fid) (to : Name) (fid : Fid) (d : Fid) (n : Name) (kid : Fid) → (((d ≡ from_dir) × (n ≡ from)) → ⊥) → (((d ≡ to_dir) × (n ≡ to)) → ⊥)
    → child m d n ≡ Some kid → child (edited_all m (moves from_dir from to_dir to fid)) d n ≡ Some kid
still_moved m from_dir from to_dir to fid d n kid not_from not_to was = bound_else (unbound m from_dir from) to_dir to fid d n not_to ∙ unbound_else m from_dir from d n not_from ∙ was

still_renamed : (m : Nodes) (from_dir : Fid) (from : Name) (to_dir : Fid) (to : Name) (fid : Fid) (over : Option Over) (d : Fid) (n : Name) (kid : Fid) → MayMove m from_dir from to_dir to fid over
    → unbinds kid (Rename from_dir from to_dir to fid over) ≡ false → child m d n ≡ Some kid → child (edited_all m (rename_effects from_dir from to_dir to fid over)) d n ≡ Some kid
still_renamed m from_dir from to_dir to fid None d n kid may stays was =
    let parts = or_parts (same_fid fid kid) false stays in
    still_moved m from_dir from to_dir to fid d n kid (not_other m d from_dir kid fid n from was may.bound parts.0) (not_free m d to_dir kid n to was may.places.bound) was
still_renamed m from_dir from to_dir to fid (Some over) d n kid may stays was =
    let parts = or_parts (same_fid fid kid) (same_fid over.fid kid) stays in
    still_moved (map.remove m over.fid) from_dir from to_dir to fid d n kid (not_other m d from_dir kid fid n from was may.bound parts.0) (not_other m d to_dir kid over.fid n to was may.places.bound parts.1)
    (still_there m over.fid d kid n (binds_apart m d over.fid kid n was may.replaced.2) was)

still_by : (s : Sight) (volume time : ℕ) (sid : Sid) (op : Op) (d : Fid) (n : Name) (kid : Fid) → Relies s volume op → child s.held.nodes d n ≡ Some kid → unbinds kid op ≡ false → child (edited_all s.held.nodes (effects time sid op)) d n ≡ Some kid
still_by s volume time sid (Create dir name fid mode owner) d n kid r was stays = still_added s.held.nodes dir name fid (empty_file mode owner time sid) d n kid r.place was
still_by s volume time sid (Mkdir dir name fid mode owner) d n kid r was stays = still_added s.held.nodes dir name fid (empty_dir mode owner time sid) d n kid r.place was
still_by s volume time sid (Symlink dir name fid target mode owner) d n kid r was stays = still_added s.held.nodes dir name fid (new_link target mode owner time sid) d n kid r.place was
still_by s volume time sid (Store fid pre content) d n kid r was stays = child_written s.held.nodes fid (content_patch content time) sid d n ∙ was
still_by s volume time sid (Setattr fid pre attrs) d n kid r was stays = child_written s.held.nodes fid (attrs_patch attrs) sid d n ∙ was
still_by s volume time sid (Remove dir name fid pre) d n kid r was stays = still_removed s.held.nodes dir name fid d n kid r.0 stays was
still_by s volume time sid (Rmdir dir name fid pre) d n kid r was stays = still_removed s.held.nodes dir name fid d n kid r.0 stays was
still_by s volume time sid (Rename from_dir from to_dir to fid over) d n kid r was stays = still_renamed s.held.nodes from_dir from to_dir to fid over d n kid r stays was

-- what an operation doesn't take from where it is bound stays bound there
pub still_bound : (s : Sight) (volume client : ℕ) (rec : Record) (dir : Fid) (name : Name) (kid : Fid) → Relies s volume rec.op → child s.held.nodes dir name ≡ Some kid → unbinds kid rec.op ≡ false
    → child (applied s.held.nodes client rec) dir name ≡ Some kid
unfolding applied
still_bound s volume client rec dir name kid relies was stays = still_by s volume rec.time (sid_of client rec) rec.op dir name kid relies was stays

-- whether an operation binds the object at the name of the directory
abbrev pub IsBoundBy : Op → Fid → Name → Fid → Type 0
IsBoundBy (Create dir name fid mode owner) d n f = (d ≡ dir) × (n ≡ name) × (f ≡ fid)
IsBoundBy (Mkdir dir name fid mode owner) d n f = (d ≡ dir) × (n ≡ name) × (f ≡ fid)
IsBoundBy (Symlink dir name fid target mode owner) d n f = (d ≡ dir) × (n ≡ name) × (f ≡ fid)
IsBoundBy (Store fid pre content) d n f = ⊥
IsBoundBy (Setattr fid pre attrs) d n f = ⊥
IsBoundBy (Remove dir name fid pre) d n f = ⊥
IsBoundBy (Rmdir dir name fid pre) d n f = ⊥
IsBoundBy (Rename from_dir from to_dir to fid over) d n f = (d ≡ to_dir) × (n ≡ to) × (f ≡ fid)

-- as what it binds
bound_as : (m : Nodes) (dir : Fid) (name : Name) (fid d : Fid) (n : Name) (f : Fid) → (d ≡ dir) × (n ≡ name) × (f ≡ fid) → child m dir name ≡ Some fid → child m d n ≡ Some f
bound_as m dir name fid d n f at is = (λ i. child m (at.0 i) (at.1 i)) ∙ is ∙ ap Some (sym at.2)

anew_added : (m : Nodes) (dir : Fid) (name : Name) (fid : Fid) (node : Node) → MayCreate m dir name fid → child (edited_all m (additions dir name fid node)) dir name ≡ Some fid
anew_added m dir name fid node may =
    child_fetched (bound m dir name fid) fid dir fid node name (none_put m dir name fid may.dir_there may.fid_free) (bound_there m dir name fid may.dir_there)

anew_moved : (m : Nodes) (from_dir : Fid) (from : Name) (to_dir : Fid) (to : Name) (fid : Fid) → IsDirAt m to_dir → child (edited_all m (moves from_dir from to_dir to fid)) to_dir to ≡ Some fid
anew_moved m from_dir from to_dir to fid is = bound_there (unbound m from_dir from) to_dir to fid (dir_changed m from_dir (λ node. unbind_in node from) (λ node _. tt) to_dir is)

anew_renamed : (m : Nodes) (from_dir : Fid) (from : Name) (to_dir : Fid) (to : Name) (fid : Fid) (over : Option Over) → MayMove m from_dir from to_dir to fid over → child (edited_all m (rename_effects from_dir from to_dir to fid over)) to_dir to ≡ Some fid
anew_renamed m from_dir from to_dir to fid None may = anew_moved m from_dir from to_dir to fid may.places.to_there
anew_renamed m from_dir from to_dir to fid (Some over) may =
    let apart = binds_apart m to_dir over.fid over.fid to may.places.bound may.replaced.2 in
    anew_moved (map.remove m over.fid) from_dir from to_dir to fid (subst IsDirNode (sym (gone_else fids_total exact_fids m over.fid to_dir apart)) may.places.to_there)

anew_by : (s : Sight) (volume time : ℕ) (sid : Sid) (op : Op) (d : Fid) (n : Name) (f : Fid) → Relies s volume op → IsBoundBy op d n f → child (edited_all s.held.nodes (effects time sid op)) d n ≡ Some f
anew_by s volume time sid (Create dir name fid mode owner) d n f r at =
    bound_as (edited_all s.held.nodes (additions dir name fid (empty_file mode owner time sid))) dir name fid d n f at (anew_added s.held.nodes dir name fid (empty_file mode owner time sid) r.place)
anew_by s volume time sid (Mkdir dir name fid mode owner) d n f r at =
    bound_as (edited_all s.held.nodes (additions dir name fid (empty_dir mode owner time sid))) dir name fid d n f at (anew_added s.held.nodes dir name fid (empty_dir mode owner time sid) r.place)
anew_by s volume time sid (Symlink dir name fid target mode owner) d n f r at =
    bound_as (edited_all s.held.nodes (additions dir name fid (new_link target mode owner time sid))) dir name fid d n f at (anew_added s.held.nodes dir name fid (new_link target mode owner time sid) r.place)
anew_by s volume time sid (Store fid pre content) d n f r at = absurd at
anew_by s volume time sid (Setattr fid pre attrs) d n f r at = absurd at
anew_by s volume time sid (Remove dir name fid pre) d n f r at = absurd at
anew_by s volume time sid (Rmdir dir name fid pre) d n f r at = absurd at
anew_by s volume time sid (Rename from_dir from to_dir to fid over) d n f r at =
    bound_as (edited_all s.held.nodes (rename_effects from_dir from to_dir to fid over)) to_dir to fid d n f at (anew_renamed s.held.nodes from_dir from to_dir to fid over r)

-- what an operation binds is bound there after it
pub newly_bound : (s : Sight) (volume client : ℕ) (rec : Record) (dir : Fid) (name : Name) (kid : Fid) → Relies s volume rec.op → IsBoundBy rec.op dir name kid → child (applied s.held.nodes client rec) dir name ≡ Some kid
unfolding applied
newly_bound s volume client rec dir name kid relies at = anew_by s volume rec.time (sid_of client rec) rec.op dir name kid relies at

-- the parents with that of an object that the operation binds
parents_put : (s : Sight) (volume client : ℕ) (rec : Record) (dir : Fid) (name : Name) (fid : Fid) → Relies s volume rec.op → AreBound s.held → IsBoundBy rec.op dir name fid
    → (f p : Fid) → (f ≢ fid → unbinds f rec.op ≡ false) → map.get (map.insert s.held.parents fid dir) f ≡ Some p → (n : Name) × (child (applied s.held.nodes client rec) p n ≡ Some f)
parents_put s volume client rec dir name fid relies bound anew f p stands is = elim (fid_cases f fid) [
  | inl same ↦ (
      let here : Some dir ≡ Some p = sym (ap (map.get (map.insert s.held.parents fid dir)) same ∙ get_here fids_total s.held.parents fid dir) ∙ is in
      (name, subst (λ q. child (applied s.held.nodes client rec) q name ≡ Some f) (some_fid dir p here) (newly_bound s volume client rec dir name fid relies anew ∙ ap Some (sym same))))
  | inr other ↦ (
      let at = bound f p (sym (get_else fids_total exact_fids s.held.parents fid dir f other) ∙ is) in
      (at.0, still_bound s volume client rec p at.0 f relies at.1 (stands other)))
]

-- a rename leaves an object where it is that it neither moves nor replaces
renamed_else : (from_dir : Fid) (from : Name) (to_dir : Fid) (to : Name) (fid : Fid) (over : Option Over) (f : Fid) → ((gone : Fid) → taken_out (Rename from_dir from to_dir to fid over) ≡ Some gone → f ≢ gone) → f ≢ fid
    → unbinds f (Rename from_dir from to_dir to fid over) ≡ false
renamed_else from_dir from to_dir to fid None f left other = ap (λ b. b || false) (fid_other fid f (λ same. other (sym same)))
renamed_else from_dir from to_dir to fid (Some over) f left other =
    ap (λ b. b || same_fid over.fid f) (fid_other fid f (λ same. other (sym same))) ∙ fid_other over.fid f (λ same. left over.fid refl (sym same))

-- what is held is bound by its parents after an operation of the client
bound_after : (s : Sight) (volume client number time : ℕ) (op : Op) → Relies s volume op → AreBound s.held → (f p : Fid) → ((gone : Fid) → taken_out op ≡ Some gone → f ≢ gone) → map.get (parents_after s.held.parents op) f ≡ Some p
    → (n : Name) × (child (applied s.held.nodes client (record { number = number; time = time; op = op })) p n ≡ Some f)
bound_after s volume client number time (Create dir name fid mode owner) r bound f p left =
    parents_put s volume client (record { number = number; time = time; op = Create dir name fid mode owner }) dir name fid r bound (refl, refl, refl) f p (λ other. refl)
bound_after s volume client number time (Mkdir dir name fid mode owner) r bound f p left =
    parents_put s volume client (record { number = number; time = time; op = Mkdir dir name fid mode owner }) dir name fid r bound (refl, refl, refl) f p (λ other. refl)
bound_after s volume client number time (Symlink dir name fid target mode owner) r bound f p left =
    parents_put s volume client (record { number = number; time = time; op = Symlink dir name fid target mode owner }) dir name fid r bound (refl, refl, refl) f p (λ other. refl)
bound_after s volume client number time (Store fid pre content) r bound f p left = λ is.
    let at = bound f p is in
    (at.0, still_bound s volume client (record { number = number; time = time; op = Store fid pre content }) p at.0 f r at.1 refl)
bound_after s volume client number time (Setattr fid pre attrs) r bound f p left = λ is.
    let at = bound f p is in
    (at.0, still_bound s volume client (record { number = number; time = time; op = Setattr fid pre attrs }) p at.0 f r at.1 refl)
bound_after s volume client number time (Remove dir name fid pre) r bound f p left = λ is.
    let at = bound f p is in
    (at.0, still_bound s volume client (record { number = number; time = time; op = Remove dir name fid pre }) p at.0 f r at.1 (fid_other fid f (λ same. left fid refl (sym same))))
bound_after s volume client number time (Rmdir dir name fid pre) r bound f p left = λ is.
    let at = bound f p is in
    (at.0, still_bound s volume client (record { number = number; time = time; op = Rmdir dir name fid pre }) p at.0 f r at.1 (fid_other fid f (λ same. left fid refl (sym same))))
bound_after s volume client number time (Rename from_dir from to_dir to fid over) r bound f p left =
    parents_put s volume client (record { number = number; time = time; op = Rename from_dir from to_dir to fid over }) to_dir to fid r bound (refl, refl, refl) f p (renamed_else from_dir from to_dir to fid over f left)

-- a parent that is held still is that of an object that stays
parent_held : (gone : Option Fid) (parents : Parents) (h : Held) (f p : Fid) → map.get (held_without gone parents h).parents f ≡ Some p → (map.get h.parents f ≡ Some p) × ((g : Fid) → gone ≡ Some g → f ≢ g)
parent_held None parents h f p is = (is, λ g none. absurd (none-some g none))
parent_held (Some gone) parents h f p is =
    let was = left_was h.parents (stays parents gone) f p is in
    (was.1, λ g same. subst (λ x. f ≢ x) (some_fid gone g same) (stays_apart parents gone f was.0))

pub bound_operation : (s : Sight) (volume client : ℕ) (rec : Record) → Relies s volume rec.op → AreBound s.held → AreBound (held_after_operation s.held client rec)
bound_operation s volume client rec relies bound = λ f p is.
    let was = parent_held (taken_out rec.op) s.held.parents (record { nodes = applied s.held.nodes client rec; parents = parents_after s.held.parents rec.op }) f p is in
    let at = bound_after s volume client rec.number rec.time rec.op relies bound f p was.1 was.0 in
    (at.0, subst (λ m. child m p at.0 ≡ Some f) (sym (nodes_alone s volume client rec relies bound)) at.1)

-- what an edit leaves bound was bound, or is what it binds
was_bound : (m : Nodes) (dir : Fid) (name : Name) (fid d : Fid) (n : Name) (f : Fid) → child (bound m dir name fid) d n ≡ Some f → (child m d n ≡ Some f) ⊎ ((d ≡ dir) × (n ≡ name) × (f ≡ fid))
was_bound m dir name fid d n f is = elim (fid_cases d dir) [
  | inl at ↦ elim (name_cases n name) [
    | inl same ↦ inr (at, same, by (map.get m dir) (sym (ap (λ o. child_of o name) (at_changed m dir (λ node. bind_in node name fid))) ∙ sym (λ i. child (bound m dir name fid) (at i) (same i)) ∙ is))
    | inr other ↦ inl (sym (bound_else m dir name fid d n (λ both. other both.1)) ∙ is)
  ]
  | inr off ↦ inl (sym (bound_else m dir name fid d n (λ both. off both.0)) ∙ is)
]
  where
    by : (o : Option Node) → child_of (option_map (λ node. bind_in node name fid) o) name ≡ Some f → f ≡ fid
    by None e = absurd (none-some f e)
    by (Some node) e = sym (some_fid fid f (sym (bind_here node name fid) ∙ e))

was_unbound : (m : Nodes) (dir : Fid) (name : Name) (d : Fid) (n : Name) (f : Fid) → child (unbound m dir name) d n ≡ Some f → child m d n ≡ Some f
was_unbound m dir name d n f is = elim (fid_cases d dir) [
  | inl at ↦ elim (name_cases n name) [
    | inl same ↦ absurd (none-some f (sym (unbound_here m dir name) ∙ sym (λ i. child (unbound m dir name) (at i) (same i)) ∙ is))
    | inr other ↦ sym (unbound_else m dir name d n (λ both. other both.1)) ∙ is
  ]
  | inr off ↦ sym (unbound_else m dir name d n (λ both. off both.0)) ∙ is
]

was_put : (m : Nodes) (fid : Fid) (node : Node) (d : Fid) (n : Name) (f : Fid) → ((name : Name) → map.get (bindings node.kind) name ≡ None) → child (map.insert m fid node) d n ≡ Some f → child m d n ≡ Some f
was_put m fid node d n f leaf is = elim (fid_cases d fid) [
  | inl at ↦ absurd (none-some f (sym (ap (λ e. child (map.insert m fid node) e n) at ∙ ap (λ o. child_of o n) (get_here fids_total m fid node) ∙ leaf n) ∙ is))
  | inr off ↦ sym (ap (λ o. child_of o n) (get_else fids_total exact_fids m fid node d off)) ∙ is
]

was_taken : (m : Nodes) (gone d : Fid) (n : Name) (f : Fid) → child (map.remove m gone) d n ≡ Some f → child m d n ≡ Some f
was_taken m gone d n f is = elim (fid_cases d gone) [
  | inl at ↦ absurd (none-some f (sym (ap (λ e. child (map.remove m gone) e n) at ∙ ap (λ o. child_of o n) (gone_here fids_total m gone)) ∙ is))
  | inr off ↦ sym (ap (λ o. child_of o n) (gone_else fids_total exact_fids m gone d off)) ∙ is
]

was_added : (m : Nodes) (dir : Fid) (name : Name) (fid : Fid) (node : Node) (d : Fid) (n : Name) (f : Fid) → ((k : Name) → map.get (bindings node.kind) k ≡ None) → child (edited_all m (additions dir name fid node)) d n ≡ Some f
    → (child m d n ≡ Some f) ⊎ ((d ≡ dir) × (n ≡ name) × (f ≡ fid))
was_added m dir name fid node d n f leaf is = was_bound m dir name fid d n f (was_put (bound m dir name fid) fid node d n f leaf is)

was_removed : (m : Nodes) (dir : Fid) (name : Name) (fid d : Fid) (n : Name) (f : Fid) → child (edited_all m (removals dir name fid)) d n ≡ Some f → child m d n ≡ Some f
was_removed m dir name fid d n f is = was_unbound m dir name d n f (was_taken (unbound m dir name) fid d n f is)

was_moved : (m : Nodes) (from_dir : Fid) (from : Name) (to_dir : Fid) (to : Name) (fid d : Fid) (n : Name) (f : Fid) → child (edited_all m (moves from_dir from to_dir to fid)) d n ≡ Some f
    → (child m d n ≡ Some f) ⊎ ((d ≡ to_dir) × (n ≡ to) × (f ≡ fid))
was_moved m from_dir from to_dir to fid d n f is = elim (was_bound (unbound m from_dir from) to_dir to fid d n f is) [
  | inl old ↦ inl (was_unbound m from_dir from d n f old)
  | inr anew ↦ inr anew
]

was_renamed : (m : Nodes) (from_dir : Fid) (from : Name) (to_dir : Fid) (to : Name) (fid : Fid) (over : Option Over) (d : Fid) (n : Name) (f : Fid) → child (edited_all m (rename_effects from_dir from to_dir to fid over)) d n ≡ Some f
    → (child m d n ≡ Some f) ⊎ ((d ≡ to_dir) × (n ≡ to) × (f ≡ fid))
was_renamed m from_dir from to_dir to fid None d n f is = was_moved m from_dir from to_dir to fid d n f is
was_renamed m from_dir from to_dir to fid (Some over) d n f is = elim (was_moved (map.remove m over.fid) from_dir from to_dir to fid d n f is) [
  | inl old ↦ inl (was_taken m over.fid d n f old)
  | inr anew ↦ inr anew
]

was_by : (m : Nodes) (time : ℕ) (sid : Sid) (op : Op) (d : Fid) (n : Name) (f : Fid) → child (edited_all m (effects time sid op)) d n ≡ Some f → (child m d n ≡ Some f) ⊎ IsBoundBy op d n f
was_by m time sid (Create dir name fid mode owner) d n f is = was_added m dir name fid (empty_file mode owner time sid) d n f (map.get-empty name_cmp) is
was_by m time sid (Mkdir dir name fid mode owner) d n f is = was_added m dir name fid (empty_dir mode owner time sid) d n f (map.get-empty name_cmp) is
was_by m time sid (Symlink dir name fid target mode owner) d n f is = was_added m dir name fid (new_link target mode owner time sid) d n f (map.get-empty name_cmp) is
was_by m time sid (Store fid pre content) d n f is = inl (sym (child_written m fid (content_patch content time) sid d n) ∙ is)
was_by m time sid (Setattr fid pre attrs) d n f is = inl (sym (child_written m fid (attrs_patch attrs) sid d n) ∙ is)
was_by m time sid (Remove dir name fid pre) d n f is = inl (was_removed m dir name fid d n f is)
was_by m time sid (Rmdir dir name fid pre) d n f is = inl (was_removed m dir name fid d n f is)
was_by m time sid (Rename from_dir from to_dir to fid over) d n f is = was_renamed m from_dir from to_dir to fid over d n f is

-- what is bound after an operation was bound before, or the operation binds it
pub bound_before : (m : Nodes) (client : ℕ) (rec : Record) (dir : Fid) (name : Name) (kid : Fid) → child (applied m client rec) dir name ≡ Some kid → (child m dir name ≡ Some kid) ⊎ IsBoundBy rec.op dir name kid
unfolding applied
bound_before m client rec dir name kid is = was_by m rec.time (sid_of client rec) rec.op dir name kid is

pub there_put : (m : Nodes) (fid : Fid) (node : Node) (f : Fid) → has (map.insert m fid node) f ≡ true → (has m f ≡ true) ⊎ (f ≡ fid)
there_put m fid node f is = elim (fid_cases f fid) [
  | inl same ↦ inr same
  | inr other ↦ inl (sym (ap is_some (get_else fids_total exact_fids m fid node f other)) ∙ is)
]

there_taken : (m : Nodes) (gone f : Fid) → has (map.remove m gone) f ≡ true → has m f ≡ true
there_taken m gone f is = elim (fid_cases f gone) [
  | inl same ↦ absurd (false≢true (sym (ap (has (map.remove m gone)) same ∙ ap is_some (gone_here fids_total m gone)) ∙ is))
  | inr other ↦ sym (ap is_some (gone_else fids_total exact_fids m gone f other)) ∙ is
]

there_added : (m : Nodes) (dir : Fid) (name : Name) (fid : Fid) (node : Node) (f : Fid) → has (edited_all m (additions dir name fid node)) f ≡ true → (has m f ≡ true) ⊎ (same_fid fid f ≡ true)
there_added m dir name fid node f is = elim (there_put (bound m dir name fid) fid node f is) [
  | inl old ↦ inl (sym (has_changed m dir (λ n. bind_in n name fid) f) ∙ old)
  | inr same ↦ inr (fid_same fid f (sym same))
]

there_removed : (m : Nodes) (dir : Fid) (name : Name) (fid f : Fid) → has (edited_all m (removals dir name fid)) f ≡ true → has m f ≡ true
there_removed m dir name fid f is = sym (has_changed m dir (λ n. unbind_in n name) f) ∙ there_taken (unbound m dir name) fid f is

there_moved : (m : Nodes) (from_dir : Fid) (from : Name) (to_dir : Fid) (to : Name) (fid f : Fid) → has (edited_all m (moves from_dir from to_dir to fid)) f ≡ true → has m f ≡ true
there_moved m from_dir from to_dir to fid f is = sym (has_changed (unbound m from_dir from) to_dir (λ n. bind_in n to fid) f ∙ has_changed m from_dir (λ n. unbind_in n from) f) ∙ is

there_renamed : (m : Nodes) (from_dir : Fid) (from : Name) (to_dir : Fid) (to : Name) (fid : Fid) (over : Option Over) (f : Fid) → has (edited_all m (rename_effects from_dir from to_dir to fid over)) f ≡ true → has m f ≡ true
there_renamed m from_dir from to_dir to fid None f is = there_moved m from_dir from to_dir to fid f is
there_renamed m from_dir from to_dir to fid (Some over) f is = there_taken m over.fid f (there_moved (map.remove m over.fid) from_dir from to_dir to fid f is)

there_by : (m : Nodes) (time : ℕ) (sid : Sid) (op : Op) (f : Fid) → has (edited_all m (effects time sid op)) f ≡ true → (has m f ≡ true) ⊎ (creates f op ≡ true)
there_by m time sid (Create dir name fid mode owner) f is = there_added m dir name fid (empty_file mode owner time sid) f is
there_by m time sid (Mkdir dir name fid mode owner) f is = there_added m dir name fid (empty_dir mode owner time sid) f is
there_by m time sid (Symlink dir name fid target mode owner) f is = there_added m dir name fid (new_link target mode owner time sid) f is
there_by m time sid (Store fid pre content) f is = inl (sym (has_changed m fid (written (content_patch content time) sid) f) ∙ is)
there_by m time sid (Setattr fid pre attrs) f is = inl (sym (has_changed m fid (written (attrs_patch attrs) sid) f) ∙ is)
there_by m time sid (Remove dir name fid pre) f is = inl (there_removed m dir name fid f is)
there_by m time sid (Rmdir dir name fid pre) f is = inl (there_removed m dir name fid f is)
there_by m time sid (Rename from_dir from to_dir to fid over) f is = inl (there_renamed m from_dir from to_dir to fid over f is)

-- what is held after an operation was held before, or the operation creates it
pub has_operation : (m : Nodes) (client : ℕ) (rec : Record) (f : Fid) → has (applied m client rec) f ≡ true → (has m f ≡ true) ⊎ (creates f rec.op ≡ true)
unfolding applied
has_operation m client rec f is = there_by m rec.time (sid_of client rec) rec.op f is
