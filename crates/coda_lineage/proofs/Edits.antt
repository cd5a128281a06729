-- What an operation leaves of nodes: each was there and is of the kind that it was of, or is the one that the
-- operation makes.
use Rattle.std.proofs.Common.{◌≡◌, ◌≢◌, ℕ, true, false, List, Option, Some, None, option_map, refl, sym, ap, ◌∙◌}
use Rattle.std.proofs.Common.{subst, ◌⊎◌, inl, inr}
use Rattle.std.specs.FinMap as map
use Rattle.coda_fid.specs.Fid.{same_fid}
use Rattle.coda_fid.specs.declared.fid.Fid.{Fid}
use Rattle.coda_fid.specs.declared.fid.Sid.{Sid}
use Rattle.coda_fid.proofs.Fids.{fids_total, exact_fids, same_fid_is, same_fid_refl}
use Rattle.coda_tree.specs.declared.node.Node.{Node}
use Rattle.coda_tree.specs.declared.node.NodeKind.{NodeKind}
use Rattle.coda_tree.specs.declared.node.NodeKind.TheVariants.{File, Link, Dir}
use Rattle.coda_tree.specs.Bindings.{Name}
use Rattle.coda_tree.specs.Volume.{Nodes, child, IsDir, IsDirNode, IsDirAt, Patch, written, with_content, changed}
use Rattle.coda_tree.specs.Volume.{bind_in, unbind_in, bound, unbound, additions, removals, edited_all, added, moves}
use Rattle.coda_tree.specs.Volume.{replacements, detached, moved, replaced}
use Rattle.coda_tree.proofs.Order.{fid_cases, gone_here, gone_else}
use Rattle.coda_tree.proofs.Changes.{at_changed, off_changed, dir_node, added_is, get_added_dir, get_added_else}
use Rattle.coda_tree.proofs.Changes.{binder_differs, binder_is_dir, dir_changed, dir_left}
use Rattle.coda_tree.proofs.Moved.{detached_is, replaced_detached}
use Rattle.coda_certify.specs.Replay.{MayCreate, MayRemove}
use Rattle.coda_resolve.specs.Settled.{is_dir}
use Rattle.coda_resolve.proofs.Lists.{some_none}
use Rattle.coda_lineage.proofs.Booleans.{the_some, not_true}
use Rattle.std.proofs.lemmas.Option.{none-some}

pub fid_same : (a b : Fid) → a ≡ b → same_fid a b ≡ true
fid_same a b e = subst (λ x. same_fid a x ≡ true) e (same_fid_refl a)

pub fid_other : (a b : Fid) → a ≢ b → same_fid a b ≡ false
fid_other a b h = not_true (same_fid a b) (λ e. h (same_fid_is a b e))

dir_is : (k : NodeKind) → IsDir k → is_dir k ≡ true
dir_is (File content) d = absurd d
dir_is (Link target) d = absurd d
dir_is (Dir entries) d = refl

dir_at : (m : Nodes) (d : Fid) (node : Node) → IsDirAt m d → map.get m d ≡ Some node → is_dir node.kind ≡ true
dir_at m d node is at = dir_is node.kind (subst IsDirNode at is)

-- ---- nodes that keep their kinds

-- each node that is left was there, and is a directory where it was one
abbrev pub KeepsKinds : Nodes → Nodes → Type 0
KeepsKinds m left =
    (f : Fid) (node : Node) → map.get left f ≡ Some node → (was : Node)
    × ((map.get m f ≡ Some was) × (is_dir node.kind ≡ is_dir was.kind))

-- but for one that is made
abbrev pub KeepsKindsBut : Option Fid → Nodes → Nodes → Type 0
KeepsKindsBut new m left =
    (f : Fid) (node : Node) → map.get left f ≡ Some node → (new ≡ Some f)
    ⊎ ((was : Node) × ((map.get m f ≡ Some was) × (is_dir node.kind ≡ is_dir was.kind)))

keeps_then : (m mid left : Nodes) → KeepsKinds m mid → KeepsKinds mid left → KeepsKinds m left
keeps_then m mid left a b f node e =
    let y = b f node e in
    let x = a f y.0 y.1.0 in
    (x.0, (x.1.0, y.1.1 ∙ x.1.1))

keeps_changed : (m : Nodes) (d : Fid) (change : Node → Node)
    → ((node : Node) → map.get m d ≡ Some node → is_dir (change node).kind ≡ is_dir node.kind)
    → KeepsKinds m (changed m d change)
keeps_changed m d change alike f node e = elim (fid_cases f d) [
  | inl same ↦ here same (map.get m d) refl
  | inr apart ↦ (node, (sym (off_changed m d change f apart) ∙ e, refl))
]
  where
    here : f ≡ d → (o : Option Node) → map.get m d ≡ o
        → (was : Node) × ((map.get m f ≡ Some was) × (is_dir node.kind ≡ is_dir was.kind))
    here same None is =
        absurd (some_none node (sym e ∙ ap (map.get (changed m d change)) same ∙ at_changed m d change ∙ ap
        (option_map change) is))
    here same (Some was) is =
        let now : Some node ≡ Some (change was) = sym e ∙ ap (map.get (changed m d change)) same ∙ at_changed m d change ∙ ap (option_map change) is in (
          was,
          (
            ap (map.get m) same ∙ is,
            ap (λ (x : Node). is_dir x.kind) (the_some node (change was) now) ∙ alike was
                is,
          ),
        )

keeps_removed : (m : Nodes) (gone : Fid) → KeepsKinds m (map.remove m gone)
keeps_removed m gone f node e = elim (fid_cases f gone) [
  | inl same ↦ absurd (some_none node (sym e ∙ ap (map.get (map.remove m gone)) same ∙ gone_here fids_total m gone))
  | inr apart ↦ (node, (sym (gone_else fids_total exact_fids m gone f apart) ∙ e, refl))
]

keeps_bound : (m : Nodes) (d : Fid) (name : Name) (f : Fid) → IsDirAt m d → KeepsKinds m (bound m d name f)
keeps_bound m d name f is = keeps_changed m d (λ node. bind_in node name f) (λ node at. sym (dir_at m d node is at))

keeps_unbound : (m : Nodes) (d : Fid) (name : Name) → IsDirAt m d → KeepsKinds m (unbound m d name)
keeps_unbound m d name is = keeps_changed m d (λ node. unbind_in node name) (λ node at. sym (dir_at m d node is at))

-- ---- a creation

pub keeps_created : (m : Nodes) (dir : Fid) (name : Name) (fid : Fid) (node : Node) → MayCreate m dir name fid
    → KeepsKindsBut (Some fid) m (edited_all m (additions dir name fid node))
keeps_created m dir name fid node may f now e = elim (fid_cases f fid) [
  | inl same ↦ inl (ap Some (sym same))
  | inr apart ↦ inr (elim (fid_cases f dir) [ inl same ↦ binder same | inr other ↦ (now, (sym (get_made f apart other) ∙ e, refl)) ])
]
  where
    there : (d : Node) × (map.get m dir ≡ Some d) × IsDir d.kind
    there = dir_node m dir may.dir_there

    made_is : (q : Fid) → map.get (edited_all m (additions dir name fid node)) q ≡ map.get (added m dir name fid node) q
    made_is q = ap (λ l. map.get l q) (sym (added_is m dir name fid node))

    get_made : (q : Fid) → q ≢ fid → q ≢ dir → map.get (edited_all m (additions dir name fid node)) q ≡ map.get m q
    get_made q a b = made_is q ∙ get_added_else m dir name fid node there.0 there.1 may.fid_free q a b

    binder : f ≡ dir → (was : Node) × ((map.get m f ≡ Some was) × (is_dir now.kind ≡ is_dir was.kind))
    binder same =
        let is : Some now ≡ Some (bind_in there.0 name fid) = sym e ∙ ap (map.get (edited_all m (additions dir name fid node))) same ∙ made_is dir ∙ get_added_dir m dir name fid node there.0 there.1 may.fid_free in (
          there.0,
          (
            ap (map.get m) same ∙ there.1,
            ap (λ (x : Node). is_dir x.kind)
                (the_some now (bind_in there.0 name fid) is) ∙ sym (dir_is there.0.kind there.2),
          ),
        )

-- ---- what makes nothing

pub keeps_less : (m : Nodes) (dir : Fid) (name : Name) (fid : Fid) → MayRemove m dir name fid
    → KeepsKinds m (edited_all m (removals dir name fid))
keeps_less m dir name fid may =
    keeps_then m (unbound m dir name) (map.remove (unbound m dir name) fid) (keeps_unbound m dir name may.dir_there)
    (keeps_removed (unbound m dir name) fid)

pub keeps_wrote : (m : Nodes) (fid : Fid) (patch : Patch) (sid : Sid) → KeepsKinds m (changed m fid (written patch sid))
keeps_wrote m fid patch sid = keeps_changed m fid (written patch sid) (λ node at. same_kind patch.content node.kind)
  where
    same_kind : (o : Option (List ℕ)) (k : NodeKind) → is_dir (with_content o k) ≡ is_dir k
    same_kind None k = refl
    same_kind (Some new) (File content) = refl
    same_kind (Some new) (Link target) = refl
    same_kind (Some new) (Dir entries) = refl

pub keeps_moved : (m : Nodes) (from : Fid) (name : Name) (to : Fid) (at : Name) (f : Fid) → IsDirAt m from
    → IsDirAt m to → KeepsKinds m (edited_all m (moves from name to at f))
keeps_moved m from name to at f from_dir to_dir =
    keeps_then m (unbound m from name) (edited_all m (moves from name to at f)) (keeps_unbound m from name from_dir)
    (keeps_bound (unbound m from name) to at f (dir_changed m from (λ node. unbind_in node name) (λ _ _. tt) to to_dir))

pub keeps_replaced : (m : Nodes) (gone from : Fid) (name : Name) (to : Fid) (at : Name) (f : Fid)
    → child m from name ≡ Some f → child m to at ≡ Some gone → ((n : Name) → child m gone n ≡ None)
    → KeepsKinds m (edited_all m (replacements gone from name to at f))
unfolding replaced moved detached
keeps_replaced m gone from name to at f was had old_leaf =
    subst (KeepsKinds m) (replaced_detached m gone from name to at f)
    (keeps_then m (edited_all m (removals to at gone))
    (edited_all (edited_all m (removals to at gone)) (moves from name to at f)) (keeps_less m to at gone may)
    (keeps_moved (edited_all m (removals to at gone)) from name to at f from_dir to_dir))
  where
    may : MayRemove m to at gone
    may = record { dir_there = binder_is_dir m to at gone had; bound = had; leaf = old_leaf }

    there : (d : Node) × (map.get m to ≡ Some d) × IsDir d.kind
    there = dir_node m to may.dir_there

    to_other : to ≢ gone
    to_other = binder_differs m to at gone there.0 there.1 had old_leaf

    from_other : from ≢ gone
    from_other same = none-some f (sym (old_leaf name) ∙ ap (λ q. child m q name) (sym same) ∙ was)

    to_dir : IsDirAt (edited_all m (removals to at gone)) to
    to_dir =
        subst (λ n. IsDirAt n to) (detached_is m to at gone)
        (dir_left m to at gone there.0 there.1 to_other to to_other may.dir_there)

    from_dir : IsDirAt (edited_all m (removals to at gone)) from
    from_dir =
        subst (λ n. IsDirAt n from) (detached_is m to at gone)
        (dir_left m to at gone there.0 there.1 to_other from from_other (binder_is_dir m from name f was))
