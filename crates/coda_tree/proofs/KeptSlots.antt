-- What each edit of the slots makes of the nodes, and that they stay those of a volume.
use Rattle.std.proofs.Common.{◌≡◌, ◌≢◌, ℕ, Bool, true, false, not, Option, Some, None, IsTrue, ◌↔◌, IsSomeAnd, option_map, is_some, refl, sym, ap, ◌∙◌, subst, inl, inr, ◌⊎◌}
use Rattle.std.specs.FinMap as map
use Rattle.std.proofs.lemmas.Option.{none-some, same_Some}
use Rattle.coda_fid.specs.Fid.{fid_cmp, root_of}
use Rattle.coda_fid.specs.Name.{name_cmp}
use Rattle.coda_fid.specs.declared.fid.Fid.{Fid}
use Rattle.coda_fid.specs.declared.fid.Sid.{Sid}
use Rattle.coda_fid.proofs.Fids.{fids_total, exact_fids}
use Rattle.coda_tree.specs.declared.node.Node.{Node}
use Rattle.coda_tree.specs.declared.slot.Held.{Held}
use Rattle.coda_tree.specs.Bindings.{Name}
use Rattle.coda_tree.specs.Volume.{Nodes, child, has, changed, written, Patch, bind_in, unbind_in, bound, unbound, added, detached, moved, replaced, fresh_root, is_below, IsDirAt, IsLeaf, BindsAsMuch, MayMove, MayReplace}
use Rattle.coda_tree.specs.Slots.{Slots, held_in, node_held, parent_held, parent_in, nodes_in, altered, slot_changed, slot_moved, slot_with, purged, purged_at, withdrawn, IsWhole}
use Rattle.coda_tree.specs.SlotEdits.{slots_bound, slots_unbound, slots_vacated, slots_added, slots_detached, slots_moved, slots_replaced}
use Rattle.coda_tree.specs.Keeping.{IsKept, IsKeptIn}
use Rattle.coda_tree.proofs.Order.{fid_cases, get_here, get_else, gone_here, gone_else, insert_removed}
use Rattle.coda_tree.proofs.Below.{is_below_complete}
use Rattle.coda_tree.proofs.Changes.{dir_node, dir_changed, get_dir_put, added_put_first}
use Rattle.coda_tree.proofs.Moved.{detached_is, moved_apart, replaced_last}
use Rattle.coda_tree.proofs.Keyed.{at_altered, off_altered}
use Rattle.coda_tree.proofs.KeptParents.{kept_added, kept_detached, kept_root, kept_same, kept_changed, kept_written}
use Rattle.coda_tree.proofs.KeptMoved.{kept_moved, kept_replaced}
use Rattle.coda_tree.proofs.SlotMap.{get_nodes_in, nodes_put, nodes_changed, nodes_moved, nodes_vacated, nodes_purged, no_nodes, parent_put_here, parent_put_else, parent_else, parent_changed, parent_vacated, parent_moved, parent_purged}

-- ---- the nodes

pub nodes_bound : (s : Slots) (dir : Fid) (name : Name) (f : Fid) → nodes_in (slots_bound s dir name f) ≡ bound (nodes_in s) dir name f
nodes_bound s dir name f = nodes_changed s dir (λ node. bind_in node name f)

pub nodes_unbound : (s : Slots) (dir : Fid) (name : Name) → nodes_in (slots_unbound s dir name) ≡ unbound (nodes_in s) dir name
nodes_unbound s dir name = nodes_changed s dir (λ node. unbind_in node name)

pub nodes_added : (s : Slots) (dir : Fid) (name : Name) (f : Fid) (node : Node) → IsDirAt (nodes_in s) dir → map.get (nodes_in s) f ≡ None → nodes_in (slots_added s dir name f node) ≡ added (nodes_in s) dir name f node
nodes_added s dir name f node dir_there free =
    let held : Held = record { node = node; parent = Some dir } in
    let there = dir_node (nodes_in s) dir dir_there in
    nodes_bound (map.insert s f (Some held)) dir name f ∙ ap (λ (m : Nodes). bound m dir name f) (nodes_put s f (Some held)) ∙ added_put_first (nodes_in s) dir name f node there.0 there.1 free

pub nodes_detached : (s : Slots) (dir : Fid) (name : Name) (f : Fid) → nodes_in (slots_detached s dir name f) ≡ detached (nodes_in s) dir name f
nodes_detached s dir name f = nodes_vacated (slots_unbound s dir name) f ∙ ap (λ (m : Nodes). map.remove m f) (nodes_unbound s dir name) ∙ sym (detached_is (nodes_in s) dir name f)

-- bound at one place and unbound at another
nodes_over : (s : Slots) (from : Fid) (name : Name) (to : Fid) (new : Name) (f : Fid) → (((from ≡ to) × (name ≡ new)) → ⊥) → nodes_in (slots_unbound (slots_bound s to new f) from name) ≡ moved (nodes_in s) from name to new f
nodes_over s from name to new f apart =
    nodes_unbound (slots_bound s to new f) from name ∙ ap (λ (m : Nodes). unbound m from name) (nodes_bound s to new f) ∙ sym (moved_apart (nodes_in s) from name to new f apart)

pub nodes_moved_over : (s : Slots) (from : Fid) (name : Name) (to : Fid) (new : Name) (f : Fid) → (((from ≡ to) × (name ≡ new)) → ⊥) → nodes_in (slots_moved s from name to new f) ≡ moved (nodes_in s) from name to new f
nodes_moved_over s from name to new f apart = nodes_moved (slots_unbound (slots_bound s to new f) from name) f to ∙ nodes_over s from name to new f apart

pub nodes_replaced : (s : Slots) (old from : Fid) (name : Name) (to : Fid) (new : Name) (f : Fid) → (((from ≡ to) × (name ≡ new)) → ⊥) → nodes_in (slots_replaced s old from name to new f) ≡ replaced (nodes_in s) old from name to new f
nodes_replaced s old from name to new f apart =
    let t = slots_unbound (slots_bound s to new f) from name in
    nodes_moved (slots_vacated t old) f to ∙ nodes_vacated t old ∙ ap (λ (m : Nodes). map.remove m old) (nodes_over s from name to new f apart) ∙ replaced_last (nodes_in s) old from name to new f

-- where an object is bound nothing else is, nor nothing
pub places_free : (m : Nodes) (from : Fid) (name : Name) (to : Fid) (new : Name) (f : Fid) → child m from name ≡ Some f → child m to new ≡ None → ((from ≡ to) × (name ≡ new)) → ⊥
places_free m from name to new f was free both = none-some f (sym free ∙ sym (λ i. child m (both.0 i) (both.1 i)) ∙ was)

pub places_taken : (m : Nodes) (from : Fid) (name : Name) (to : Fid) (new : Name) (f old : Fid) → child m from name ≡ Some f → child m to new ≡ Some old → old ≢ f → ((from ≡ to) × (name ≡ new)) → ⊥
places_taken m from name to new f old was had differ both = differ (same_Some old f (sym had ∙ sym (λ i. child m (both.0 i) (both.1 i)) ∙ was))

-- a directory stays one where a name is bound or unbound
pub dir_bound : (s : Slots) (dir : Fid) (name : Name) (f q : Fid) → IsDirAt (nodes_in s) q → IsDirAt (nodes_in (slots_bound s dir name f)) q
dir_bound s dir name f q is = subst (λ (m : Nodes). IsDirAt m q) (sym (nodes_bound s dir name f)) (dir_changed (nodes_in s) dir (λ node. bind_in node name f) (λ _ _. tt) q is)

pub dir_unbound : (s : Slots) (dir : Fid) (name : Name) (q : Fid) → IsDirAt (nodes_in s) q → IsDirAt (nodes_in (slots_unbound s dir name)) q
dir_unbound s dir name q is = subst (λ (m : Nodes). IsDirAt m q) (sym (nodes_unbound s dir name)) (dir_changed (nodes_in s) dir (λ node. unbind_in node name) (λ _ _. tt) q is)

-- and where a node is put at a free fid
pub dir_put : (s : Slots) (f : Fid) (held : Held) (q : Fid) → IsDirAt (nodes_in s) q → map.get (nodes_in s) f ≡ None → map.get (nodes_in (map.insert s f (Some held))) q ≡ map.get (nodes_in s) q
dir_put s f held q is free = ap (λ (m : Nodes). map.get m q) (nodes_put s f (Some held)) ∙ get_dir_put (nodes_in s) q f held.node is free

-- ---- they stay those of a volume

pub nodes_fresh : (number : ℕ) → nodes_in (map.insert map.empty (root_of number) (Some (record { node = fresh_root; parent = None }))) ≡ map.insert map.empty (root_of number) fresh_root
nodes_fresh number = nodes_put map.empty (root_of number) (Some (record { node = fresh_root; parent = None })) ∙ ap (λ (m : Nodes). map.insert m (root_of number) fresh_root) no_nodes

pub kept_fresh : (number : ℕ) → IsKeptIn number (map.insert map.empty (root_of number) (Some (record { node = fresh_root; parent = None })))
kept_fresh number =
    let root = root_of number in
    let held : Held = record { node = fresh_root; parent = None } in
    let s : Slots = map.insert map.empty root (Some held) in
    let none : (q : Fid) → parent_in s q ≡ None = λ q. elim (fid_cases q root) [
      | inl at ↦ ap (parent_in s) at ∙ parent_put_here map.empty root (Some held)
      | inr other ↦ parent_put_else map.empty root (Some held) q other ∙ ap (λ (o : Option (Option Held)). parent_held (held_in o)) (map.get-empty fid_cmp q)
    ] in
    subst (λ (m : Nodes). IsKept root m (parent_in s)) (sym (nodes_fresh number))
    (kept_root root fresh_root (parent_in s) none tt (λ n. map.get-empty name_cmp n))

module _ (number : ℕ) (s : Slots) (k : IsKeptIn number s) where
  pub kept_slots_added : (dir : Fid) (name : Name) (f : Fid) (node : Node) → IsDirAt (nodes_in s) dir → child (nodes_in s) dir name ≡ None → map.get (nodes_in s) f ≡ None → IsLeaf node → IsKeptIn number (slots_added s dir name f node)
  kept_slots_added dir name f node dir_there name_free free leaf =
      let held : Held = record { node = node; parent = Some dir } in
      let put = map.insert s f (Some held) in
      let new = slots_added s dir name f node in
      subst (λ (m : Nodes). IsKept (root_of number) m (parent_in new)) (sym (nodes_added s dir name f node dir_there free))
      (kept_added (nodes_in s) (parent_in s) (parent_in new) dir name f node
      (parent_changed put dir (λ n. bind_in n name f) f ∙ parent_put_here s f (Some held))
      (λ q other. parent_changed put dir (λ n. bind_in n name f) q ∙ parent_put_else s f (Some held) q other) k dir_there name_free free leaf)

  pub kept_slots_detached : (dir : Fid) (name : Name) (f : Fid) → child (nodes_in s) dir name ≡ Some f → ((n : Name) → child (nodes_in s) f n ≡ None) → IsKeptIn number (slots_detached s dir name f)
  kept_slots_detached dir name f was leaf =
      let left = slots_unbound s dir name in
      let new = slots_detached s dir name f in
      subst (λ (m : Nodes). IsKept (root_of number) m (parent_in new)) (sym (nodes_detached s dir name f))
      (kept_detached (nodes_in s) (parent_in s) (parent_in new) dir name f (parent_vacated left f)
      (λ q other. parent_else left f (slot_with None) q other ∙ parent_changed s dir (λ n. unbind_in n name) q) k was leaf)

  -- the parents after a name was bound and another unbound
  parents_over : (from : Fid) (name : Name) (to : Fid) (new : Name) (f : Fid) (q : Fid) → parent_in (slots_unbound (slots_bound s to new f) from name) q ≡ parent_in s q
  parents_over from name to new f q = parent_changed (slots_bound s to new f) from (λ n. unbind_in n name) q ∙ parent_changed s to (λ n. bind_in n new f) q

  pub kept_slots_moved : (from : Fid) (name : Name) (to : Fid) (new : Name) (f : Fid) → MayMove (nodes_in s) from name to new → child (nodes_in s) from name ≡ Some f → IsKeptIn number (slots_moved s from name to new f)
  kept_slots_moved from name to new f may was =
      let m = nodes_in s in
      let over = slots_unbound (slots_bound s to new f) from name in
      let after = slots_moved s from name to new f in
      let same : may.fid ≡ f = same_Some may.fid f (sym may.was ∙ was) in
      let there : has m to ≡ true = let node = dir_node m to may.to_dir in ap is_some node.1 in
      let apart = ap (λ (g : Fid). is_below m to g) (sym same) ∙ may.apart in
      subst (λ (n : Nodes). IsKept (root_of number) n (parent_in after)) (sym (nodes_moved_over s from name to new f (places_free m from name to new f was may.free)))
      (kept_moved m (parent_in s) (parent_in after) from name to new f
      (parent_moved over f to from (parents_over from name to new f f ∙ k.kept.binds from name f was))
      (λ q other. parent_else over f (slot_moved to) q other ∙ parents_over from name to new f q) k was may.to_dir may.free
      (λ below. let found = is_below_complete m k.volume to f there below in cc))

  pub kept_slots_replaced : (old from : Fid) (name : Name) (to : Fid) (new : Name) (f : Fid) → MayReplace (nodes_in s) old from name to new → child (nodes_in s) from name ≡ Some f → IsKeptIn number (slots_replaced s old from name to new f)
  kept_slots_replaced old from name to new f may was =
      let m = nodes_in s in
      let over = slots_unbound (slots_bound s to new f) from name in
      let less = slots_vacated over old in
      let after = slots_replaced s old from name to new f in
      let same : may.fid ≡ f = same_Some may.fid f (sym may.was ∙ was) in
      let differ : old ≢ f = subst (λ (g : Fid). old ≢ g) same may.differ in
      subst (λ (n : Nodes). IsKept (root_of number) n (parent_in after)) (sym (nodes_replaced s old from name to new f (places_taken m from name to new f old was may.had differ)))
      (kept_replaced m (parent_in s) (parent_in after) old from name to new f
      (parent_moved less f to from (parent_else over old (slot_with None) f (λ e. differ (sym e)) ∙ parents_over from name to new f f ∙ k.kept.binds from name f was))
      (parent_else less f (slot_moved to) old differ ∙ parent_vacated over old)
      (λ q other stays. parent_else less f (slot_moved to) q other ∙ parent_else over old (slot_with None) q stays ∙ parents_over from name to new f q)
      k was may.had differ (subst (λ (g : Fid). (n : Name) → child m g n ≡ None) same may.leaf) may.old_leaf)

  -- a node changed that binds as much
  pub kept_slots_set : (f : Fid) (node : Node) → IsSomeAnd (map.get (nodes_in s) f) (λ (was : Node). BindsAsMuch was node) → IsKeptIn number (altered s f (slot_changed (λ _. node)))
  kept_slots_set f node may =
      kept_same (changed (nodes_in s) f (λ _. node)) (nodes_in (altered s f (slot_changed (λ _. node)))) (parent_in s) (parent_in (altered s f (slot_changed (λ _. node)))) (nodes_changed s f (λ _. node)) (parent_changed s f (λ _. node))
      (kept_changed (nodes_in s) (parent_in s) f (λ _. node) (λ was is. subst (λ o. IsSomeAnd o (λ (n : Node). BindsAsMuch n node)) is may) k)

  pub kept_slots_written : (f : Fid) (patch : Patch) (sid : Sid) → IsKeptIn number (altered s f (slot_changed (written patch sid)))
  kept_slots_written f patch sid =
      kept_same (changed (nodes_in s) f (written patch sid)) (nodes_in (altered s f (slot_changed (written patch sid)))) (parent_in s) (parent_in (altered s f (slot_changed (written patch sid)))) (nodes_changed s f (written patch sid)) (parent_changed s f (written patch sid))
      (kept_written (nodes_in s) (parent_in s) f patch sid k)

  pub kept_slots_purged : (f : Fid) → IsKeptIn number (purged s f)
  kept_slots_purged f = kept_same (nodes_in s) (nodes_in (purged s f)) (parent_in s) (parent_in (purged s f)) (nodes_purged s f) (parent_purged s f) k

-- ---- empty slots

full_changed : (change : Node → Node) (o : Option (Option Held)) → option_map (slot_changed change) o ≡ Some None → o ≡ Some None
full_changed change None h = cc
full_changed change (Some None) h = refl
full_changed change (Some (Some held)) h = cc

full_moved : (dir : Fid) (o : Option (Option Held)) → option_map (slot_moved dir) o ≡ Some None → o ≡ Some None
full_moved dir None h = cc
full_moved dir (Some None) h = refl
full_moved dir (Some (Some held)) h = cc

-- a slot is empty after a change where it was
pub empty_changed : (s : Slots) (f : Fid) (change : Node → Node) (q : Fid) → map.get (altered s f (slot_changed change)) q ≡ Some None → map.get s q ≡ Some None
empty_changed s f change q empty = elim (fid_cases q f) [
  | inl at ↦ ap (map.get s) at ∙ full_changed change (map.get s f) (sym (at_altered s f (slot_changed change)) ∙ ap (map.get (altered s f (slot_changed change))) (sym at) ∙ empty)
  | inr off ↦ sym (off_altered s f (slot_changed change) q off) ∙ empty
]

pub empty_moved : (s : Slots) (f : Fid) (dir : Fid) (q : Fid) → map.get (altered s f (slot_moved dir)) q ≡ Some None → map.get s q ≡ Some None
empty_moved s f dir q empty = elim (fid_cases q f) [
  | inl at ↦ ap (map.get s) at ∙ full_moved dir (map.get s f) (sym (at_altered s f (slot_moved dir)) ∙ ap (map.get (altered s f (slot_moved dir))) (sym at) ∙ empty)
  | inr off ↦ sym (off_altered s f (slot_moved dir) q off) ∙ empty
]

not_full : (held : Held) (o : Option (Option Held)) → o ≡ Some (Some held) → o ≡ Some None → ⊥
not_full held o full empty = let e : Some (Some held) ≡ Some None = sym full ∙ empty in none-some held (sym (same_Some (Some held) None e))

pub empty_put : (s : Slots) (f : Fid) (held : Held) (q : Fid) → map.get (map.insert s f (Some held)) q ≡ Some None → map.get s q ≡ Some None
empty_put s f held q empty = elim (fid_cases q f) [
  | inl at ↦ absurd (not_full held _ (ap (map.get (map.insert s f (Some held))) at ∙ get_here fids_total s f (Some held)) empty)
  | inr off ↦ sym (get_else fids_total exact_fids s f (Some held) q off) ∙ empty
]

-- or it is the one that was emptied
pub empty_vacated : (s : Slots) (f q : Fid) → map.get (slots_vacated s f) q ≡ Some None → (q ≡ f) ⊎ (map.get s q ≡ Some None)
empty_vacated s f q empty = elim (fid_cases q f) [
  | inl at ↦ inl at
  | inr off ↦ inr (sym (off_altered s f (slot_with None) q off) ∙ empty)
]

-- a slot that is taken away where it was empty
pub empty_purged : (s : Slots) (f q : Fid) → map.get (purged s f) q ≡ Some None → (q ≢ f) × (map.get s q ≡ Some None)
empty_purged s f q = elim (map.get s f) as (λ o. map.get s f ≡ o → map.get (purged_at o s f) q ≡ Some None → (q ≢ f) × (map.get s q ≡ Some None)) [
  | None ↦ λ none empty. (λ at. none-some _ (sym none ∙ ap (map.get s) (sym at) ∙ empty), empty)
  | Some None ↦ λ _ empty. elim (fid_cases q f) [
    | inl at ↦ absurd (none-some _ (sym (gone_here fids_total s f) ∙ ap (map.get (map.remove s f)) (sym at) ∙ empty))
    | inr off ↦ (off, sym (gone_else fids_total exact_fids s f q off) ∙ empty)
  ]
  | Some (Some held) ↦ λ full empty. (λ at. not_full held _ (ap (map.get s) at ∙ full) empty, empty)
] refl

pub purged_empty : (s : Slots) (f : Fid) → map.get s f ≡ Some None → map.remove s f ≡ purged s f
purged_empty s f empty = sym (ap (λ o. purged_at o s f) empty)

pub purged_else : (s : Slots) (f : Fid) → (map.get s f ≡ Some None → ⊥) → s ≡ purged s f
purged_else s f differs = elim (map.get s f) as (λ o. map.get s f ≡ o → s ≡ purged_at o s f) [
  | None ↦ λ _. refl
  | Some None ↦ λ empty. absurd (differs empty)
  | Some (Some held) ↦ λ _. refl
] refl

pub whole_fresh : (number : ℕ) → IsWhole (map.insert map.empty (root_of number) (Some (record { node = fresh_root; parent = None })))
whole_fresh number q empty =
    let held : Held = record { node = fresh_root; parent = None } in
    none-some _ (sym (map.get-empty fid_cmp q) ∙ empty_put map.empty (root_of number) held q empty)

module _ (s : Slots) (w : IsWhole s) where
  pub whole_changed : (f : Fid) (change : Node → Node) → IsWhole (altered s f (slot_changed change))
  whole_changed f change q empty = w q (empty_changed s f change q empty)

  pub whole_added : (dir : Fid) (name : Name) (f : Fid) (node : Node) → IsWhole (slots_added s dir name f node)
  whole_added dir name f node q empty =
      let held : Held = record { node = node; parent = Some dir } in
      w q (empty_put s f held q (empty_changed (map.insert s f (Some held)) dir (λ n. bind_in n name f) q empty))

  pub whole_detached : (dir : Fid) (name : Name) (f : Fid) → IsWhole (purged (slots_detached s dir name f) f)
  whole_detached dir name f q empty =
      let was = empty_purged (slots_detached s dir name f) f q empty in
      elim (empty_vacated (slots_unbound s dir name) f q was.1) [
        | inl at ↦ was.0 at
        | inr left ↦ w q (empty_changed s dir (λ n. unbind_in n name) q left)
      ]

  empty_over : (from : Fid) (name : Name) (to : Fid) (new : Name) (f q : Fid) → map.get (slots_unbound (slots_bound s to new f) from name) q ≡ Some None → map.get s q ≡ Some None
  empty_over from name to new f q empty = empty_changed s to (λ n. bind_in n new f) q (empty_changed (slots_bound s to new f) from (λ n. unbind_in n name) q empty)

  pub whole_moved : (from : Fid) (name : Name) (to : Fid) (new : Name) (f : Fid) → IsWhole (slots_moved s from name to new f)
  whole_moved from name to new f q empty = w q (empty_over from name to new f q (empty_moved (slots_unbound (slots_bound s to new f) from name) f to q empty))

  pub whole_replaced : (old from : Fid) (name : Name) (to : Fid) (new : Name) (f : Fid) → IsWhole (purged (slots_replaced s old from name to new f) old)
  whole_replaced old from name to new f q empty =
      let over = slots_unbound (slots_bound s to new f) from name in
      let was = empty_purged (slots_replaced s old from name to new f) old q empty in
      elim (empty_vacated over old q (empty_moved (slots_vacated over old) f to q was.1)) [
        | inl at ↦ was.0 at
        | inr left ↦ w q (empty_over from name to new f q left)
      ]

-- ---- what was put and is withdrawn

nothing_held : (o : Option (Option Held)) → node_held (held_in o) ≡ None → o ≢ None → o ≡ Some None
nothing_held None none some = absurd (some refl)
nothing_held (Some None) none some = refl
nothing_held (Some (Some held)) none some = absurd (none-some held.node (sym none))

-- nothing is left of what was put at a free fid
pub withdrawn_put : (s : Slots) (f : Fid) (slot : Option Held) (fresh : Bool) → (IsTrue fresh ↔ (map.get s f ≡ None)) → map.get (nodes_in s) f ≡ None → withdrawn fresh (map.insert s f slot) f ≡ s
withdrawn_put s f slot true is free = insert_removed fids_total exact_fids s f slot (is.0 refl)
withdrawn_put s f slot false is free =
    let put = map.insert s f slot in
    let was : map.get s f ≡ Some None = nothing_held (map.get s f) (sym (get_nodes_in s f) ∙ free) (λ none. let h = is.1 none in cc) in
    map.same_map fids_total exact_fids _ _ (λ q. elim (fid_cases q f) [
      | inl at ↦ ap (map.get (altered put f (slot_with None))) at ∙ at_altered put f (slot_with None) ∙ ap (option_map (slot_with None)) (get_here fids_total s f slot) ∙ sym (ap (map.get s) at ∙ was)
      | inr off ↦ off_altered put f (slot_with None) q off ∙ get_else fids_total exact_fids s f slot q off
    ])

-- a slot is fresh where there was none
pub fresh_is : {A : Type 0} (o : Option A) (fresh : Bool) → is_some o ≡ not fresh → IsTrue fresh ↔ (o ≡ None)
fresh_is None true e = (λ _. refl, λ _. refl)
fresh_is None false e = cc
fresh_is (Some x) true e = cc
fresh_is (Some x) false e = (λ h. cc, λ h. cc)
