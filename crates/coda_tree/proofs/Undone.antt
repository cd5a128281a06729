-- Each edit of slots can be undone, which gives the slots before it.
use Rattle.std.proofs.Common.{◌≡◌, ◌≢◌, ℕ, ◌+◌, ◌-◌, ◌<◌, ◌≤◌, Bool, true, false, cond, List, Option, Some, None, IsSome, IsTrue, ◌↔◌, option_map, is_some, refl, sym, ap, ◌∙◌, subst, inl, inr, Ordering, arith}
use Rattle.std.specs.FinMap as map
use Rattle.std.specs.FinMap.{FinMap}
use Rattle.std.specs.Cmp.{IsTotalOrder}
use Rattle.std.proofs.lemmas.Cmp.{nat_list_cmp_total}
use Rattle.std.proofs.lemmas.Map.Lookups.{CmpEqualImpliesEq, exact_bytes}
use Rattle.std.proofs.lemmas.Option.{none-some}
use Rattle.coda_fid.specs.Fid.{fid_cmp}
use Rattle.coda_fid.specs.Name.{name_cmp}
use Rattle.coda_fid.specs.declared.fid.Fid.{Fid}
use Rattle.coda_fid.specs.declared.fid.Sid.{Sid}
use Rattle.coda_fid.proofs.Fids.{fids_total, exact_fids}
use Rattle.coda_tree.specs.declared.node.Node.{Node}
use Rattle.coda_tree.specs.declared.node.Parts.{Parts}
use Rattle.coda_tree.specs.declared.node.NodeKind.{NodeKind}
use Rattle.coda_tree.specs.declared.node.NodeKind.TheVariants.{File, Link, Dir}
use Rattle.coda_tree.specs.declared.slot.Held.{Held}
use Rattle.coda_tree.specs.declared.undo.Undo.TheVariants.{Added, Detached, Moved, Replaced, Written}
use Rattle.coda_tree.specs.Bindings.{Name, Bindings}
use Rattle.coda_tree.specs.Volume.{Nodes, Patch, child, child_of, has, bindings, written, with_content, with_kind, bind_in, unbind_in, bound, unbound, IsDirAt, IsDirNode}
use Rattle.coda_tree.specs.Parts.{displaced, parts_before, given_back}
use Rattle.coda_tree.specs.Slots.{Slots, held_in, node_held, parent_held, parent_in, nodes_in, altered, slot_changed, slot_moved, slot_with, withdrawn}
use Rattle.coda_tree.specs.SlotEdits.{slots_bound, slots_unbound, slots_vacated, slots_added, slots_detached, slots_moved, slots_replaced}
use Rattle.coda_tree.specs.Undoing.{HasSlot, count_of, MayTakeBack, MayRebind, Undoes}
use Rattle.coda_tree.proofs.Order.{cases_by, fid_cases, get_here, get_else, insert_over}
use Rattle.coda_tree.proofs.Changes.{at_changed, off_changed, has_changed, binder_is_dir, bind_undone, bound_there, bound_else, unbound_here}
use Rattle.coda_tree.proofs.Keyed.{at_altered, off_altered}
use Rattle.coda_tree.proofs.SlotMap.{get_nodes_in, full_slot, parent_else, parent_changed}
use Rattle.coda_tree.proofs.KeptSlots.{nodes_bound, nodes_unbound, dir_bound, dir_unbound, dir_put, places_free, places_taken, withdrawn_put, empty_changed, empty_moved, empty_put, empty_vacated}

-- ---- finite maps

mapped_back : {X : Type 0} (o : Option X) (a b : X → X) → ((x : X) → o ≡ Some x → b (a x) ≡ x) → option_map b (option_map a o) ≡ o
mapped_back None a b back = refl
mapped_back (Some x) a b back = ap Some (back x refl)

-- a change that another takes back
pub taken_back : {X : Type 0} (s : FinMap fid_cmp X) (f : Fid) (a b : X → X) → ((x : X) → map.get s f ≡ Some x → b (a x) ≡ x) → altered (altered s f a) f b ≡ s
taken_back s f a b back = map.same_map fids_total exact_fids _ _ (λ q. elim (fid_cases q f) [
  | inl at ↦ ap (map.get (altered (altered s f a) f b)) at ∙ at_altered (altered s f a) f b ∙ ap (option_map b) (at_altered s f a) ∙ mapped_back (map.get s f) a b back ∙ ap (map.get s) (sym at)
  | inr off ↦ off_altered (altered s f a) f b q off ∙ off_altered s f a q off
])

module _ {K X : Type 0} {R : K → K → Ordering} (o : IsTotalOrder R) (exact : CmpEqualImpliesEq R) where
  insert_same : (m : FinMap R X) (k : K) (v : X) → map.get m k ≡ Some v → map.insert m k v ≡ m
  insert_same m k v is = map.same_map o exact _ _ (λ q. elim (cases_by o exact q k) [
    | inl at ↦ ap (map.get (map.insert m k v)) at ∙ get_here o m k v ∙ sym (ap (map.get m) at ∙ is)
    | inr off ↦ get_else o exact m k v q off
  ])

  insert_twice : (m : FinMap R X) (k : K) (v w : X) → map.insert (map.insert m k v) k w ≡ map.insert m k w
  insert_twice m k v w = map.same_map o exact _ _ (λ q. elim (cases_by o exact q k) [
    | inl at ↦ ap (map.get (map.insert (map.insert m k v) k w)) at ∙ get_here o (map.insert m k v) k w ∙ sym (ap (map.get (map.insert m k w)) at ∙ get_here o m k w)
    | inr off ↦ get_else o exact (map.insert m k v) k w q off ∙ get_else o exact m k v q off ∙ sym (get_else o exact m k w q off)
  ])

-- ---- nodes

kind_unbound : (kind : NodeKind) (name : Name) (f : Fid) → map.get (bindings kind) name ≡ Some f → Dir (map.insert (map.remove (bindings kind) name) name f) ≡ kind
kind_unbound (File content) name f is = absurd (none-some f (sym (map.get-empty name_cmp name) ∙ is))
kind_unbound (Link target) name f is = absurd (none-some f (sym (map.get-empty name_cmp name) ∙ is))
kind_unbound (Dir entries) name f is = ap Dir (insert_over nat_list_cmp_total exact_bytes entries name f ∙ insert_same nat_list_cmp_total exact_bytes entries name f is)

-- a directory in which a name was unbound and bound again
unbind_undone : (node : Node) (name : Name) (f : Fid) → map.get (bindings node.kind) name ≡ Some f → bind_in (unbind_in node name) name f ≡ node
unbind_undone node name f is = ap (λ kind. with_kind node kind) (kind_unbound node.kind name f is)

kind_rebound : (kind : NodeKind) (name : Name) (f old : Fid) → map.get (bindings kind) name ≡ Some old → Dir (map.insert (map.insert (bindings kind) name f) name old) ≡ kind
kind_rebound (File content) name f old is = absurd (none-some old (sym (map.get-empty name_cmp name) ∙ is))
kind_rebound (Link target) name f old is = absurd (none-some old (sym (map.get-empty name_cmp name) ∙ is))
kind_rebound (Dir entries) name f old is = ap Dir (insert_twice nat_list_cmp_total exact_bytes entries name f old ∙ insert_same nat_list_cmp_total exact_bytes entries name old is)

-- or bound to another fid and to the first again
rebind_undone : (node : Node) (name : Name) (f old : Fid) → map.get (bindings node.kind) name ≡ Some old → bind_in (bind_in node name f) name old ≡ node
rebind_undone node name f old is = ap (λ kind. with_kind node kind) (kind_rebound node.kind name f old is)

kind_back : (content : Option (List ℕ)) (kind : NodeKind) → with_content (displaced content kind) (with_content content kind) ≡ kind
kind_back None kind = refl
kind_back (Some new) (File content) = refl
kind_back (Some new) (Link target) = refl
kind_back (Some new) (Dir entries) = refl

-- a node that was written and given its parts again
node_back : (patch : Patch) (sid : Sid) (node : Node) → given_back (parts_before patch.content node) (written patch sid node) ≡ node
node_back patch sid node = ap (λ kind. with_kind node kind) (kind_back patch.content node.kind)

-- ---- slots

node_of_slot : (s : Slots) (f : Fid) (slot : Option Held) → map.get s f ≡ Some slot → map.get (nodes_in s) f ≡ node_held slot
node_of_slot s f slot is = get_nodes_in s f ∙ ap (λ o. node_held (held_in o)) is

slot_unbound : (slot : Option Held) (name : Name) (f : Fid) → child_of (node_held slot) name ≡ Some f → slot_changed (λ node. bind_in node name f) (slot_changed (λ node. unbind_in node name) slot) ≡ slot
slot_unbound None name f is = refl
slot_unbound (Some held) name f is = ap (λ (node : Node). let h : Held = record { node = node; parent = held.parent } in Some h) (unbind_undone held.node name f is)

-- a name that was unbound and bound again
unbound_back : (s : Slots) (dir : Fid) (name : Name) (f : Fid) → child (nodes_in s) dir name ≡ Some f → slots_bound (slots_unbound s dir name) dir name f ≡ s
unbound_back s dir name f was = taken_back s dir (slot_changed (λ node. unbind_in node name)) (slot_changed (λ node. bind_in node name f))
    (λ slot is. slot_unbound slot name f (ap (λ o. child_of o name) (sym (node_of_slot s dir slot is)) ∙ was))

slot_bound : (slot : Option Held) (name : Name) (f : Fid) → IsDirNode (node_held slot) → child_of (node_held slot) name ≡ None → slot_changed (λ node. unbind_in node name) (slot_changed (λ node. bind_in node name f) slot) ≡ slot
slot_bound None name f is free = refl
slot_bound (Some held) name f is free = ap (λ (node : Node). let h : Held = record { node = node; parent = held.parent } in Some h) (bind_undone held.node name f is free)

-- a free name that was bound and unbound again
bound_back : (s : Slots) (dir : Fid) (name : Name) (f : Fid) → IsDirAt (nodes_in s) dir → child (nodes_in s) dir name ≡ None → slots_unbound (slots_bound s dir name f) dir name ≡ s
bound_back s dir name f there free = taken_back s dir (slot_changed (λ node. bind_in node name f)) (slot_changed (λ node. unbind_in node name))
    (λ slot is. slot_bound slot name f (subst IsDirNode (node_of_slot s dir slot is) there) (ap (λ o. child_of o name) (sym (node_of_slot s dir slot is)) ∙ free))

slot_rebound : (slot : Option Held) (name : Name) (f old : Fid) → child_of (node_held slot) name ≡ Some old → slot_changed (λ node. bind_in node name old) (slot_changed (λ node. bind_in node name f) slot) ≡ slot
slot_rebound None name f old is = refl
slot_rebound (Some held) name f old is = ap (λ (node : Node). let h : Held = record { node = node; parent = held.parent } in Some h) (rebind_undone held.node name f old is)

-- a name that was bound to another fid and to the first again
rebound_back : (s : Slots) (dir : Fid) (name : Name) (f old : Fid) → child (nodes_in s) dir name ≡ Some old → slots_bound (slots_bound s dir name f) dir name old ≡ s
rebound_back s dir name f old was = taken_back s dir (slot_changed (λ node. bind_in node name f)) (slot_changed (λ node. bind_in node name old))
    (λ slot is. slot_rebound slot name f old (ap (λ o. child_of o name) (sym (node_of_slot s dir slot is)) ∙ was))

-- a slot that was emptied and filled again
filled_back : (s : Slots) (f : Fid) (slot : Option Held) → map.get s f ≡ Some slot → map.insert (slots_vacated s f) f slot ≡ s
filled_back s f slot is = map.same_map fids_total exact_fids _ _ (λ q. elim (fid_cases q f) [
  | inl at ↦ ap (map.get (map.insert (slots_vacated s f) f slot)) at ∙ get_here fids_total (slots_vacated s f) f slot ∙ sym (ap (map.get s) at ∙ is)
  | inr off ↦ get_else fids_total exact_fids (slots_vacated s f) f slot q off ∙ off_altered s f (slot_with None) q off
])

slot_moved_back : (slot : Option Held) (to from : Fid) → parent_held slot ≡ Some from → slot_moved from (slot_moved to slot) ≡ slot
slot_moved_back None to from is = refl
slot_moved_back (Some held) to from is = ap (λ (p : Option Fid). let h : Held = record { node = held.node; parent = p } in Some h) (sym is)

-- a parent that was changed and changed back
parent_back : (s : Slots) (f to from : Fid) → parent_in s f ≡ Some from → altered (altered s f (slot_moved to)) f (slot_moved from) ≡ s
parent_back s f to from was = taken_back s f (slot_moved to) (slot_moved from) (λ slot is. slot_moved_back slot to from (ap (λ o. parent_held (held_in o)) (sym is) ∙ was))

slot_written_back : (slot : Option Held) (patch : Patch) (sid : Sid) (parts : Parts) → ((node : Node) → node_held slot ≡ Some node → parts ≡ parts_before patch.content node) → slot_changed (given_back parts) (slot_changed (written patch sid) slot) ≡ slot
slot_written_back None patch sid parts were = refl
slot_written_back (Some held) patch sid parts were =
    ap (λ (node : Node). let h : Held = record { node = node; parent = held.parent } in Some h) (ap (λ (p : Parts). given_back p (written patch sid held.node)) (were held.node refl) ∙ node_back patch sid held.node)

-- parts that were written and given back
written_back : (s : Slots) (f : Fid) (patch : Patch) (sid : Sid) (parts : Parts) → ((node : Node) → map.get (nodes_in s) f ≡ Some node → parts ≡ parts_before patch.content node) → altered (altered s f (slot_changed (written patch sid))) f (slot_changed (given_back parts)) ≡ s
written_back s f patch sid parts were = taken_back s f (slot_changed (written patch sid)) (slot_changed (given_back parts)) (λ slot is. slot_written_back slot patch sid parts (λ node held. were node (node_of_slot s f slot is ∙ held)))

unchanged_slot : (change : Node → Node) (o : Option (Option Held)) → node_held (held_in o) ≡ None → option_map (slot_changed change) o ≡ o
unchanged_slot change None none = refl
unchanged_slot change (Some None) none = refl
unchanged_slot change (Some (Some held)) none = absurd (none-some held.node (sym none))

-- a change where there is no node
pub idle_change : (s : Slots) (f : Fid) (change : Node → Node) → map.get (nodes_in s) f ≡ None → altered s f (slot_changed change) ≡ s
idle_change s f change none = map.same_map fids_total exact_fids _ _ (λ q. elim (fid_cases q f) [
  | inl at ↦ ap (map.get (altered s f (slot_changed change))) at ∙ at_altered s f (slot_changed change) ∙ unchanged_slot change (map.get s f) (sym (get_nodes_in s f) ∙ none) ∙ ap (map.get s) (sym at)
  | inr off ↦ off_altered s f (slot_changed change) q off
])

full_there : (o : Option (Option Held)) → is_some (held_in o) ≡ true → o ≡ Some (held_in o)
full_there None full = cc
full_there (Some slot) full = refl

-- a fid where a node stands has a slot
slot_there : (s : Slots) (f : Fid) → has (nodes_in s) f ≡ true → map.get s f ≡ Some (held_in (map.get s f))
slot_there s f there = full_there (map.get s f) (sym (full_slot s f) ∙ there)

vacated_has : (s : Slots) (f : Fid) (slot : Option Held) → map.get s f ≡ Some slot → HasSlot (slots_vacated s f) f
vacated_has s f slot is none = none-some _ (sym none ∙ at_altered s f (slot_with None) ∙ ap (option_map (slot_with None)) is)

-- ---- room

less_le : (b : Bool) (n : ℕ) → cond b (n - 1) n ≤ n
less_le true n = omega arith
less_le false n = omega arith

len_remove_le : (m : Bindings) (name : Name) → map.len (map.remove m name) ≤ map.len m
len_remove_le m name = subst (λ n. n ≤ map.len m) (sym (map.len-remove nat_list_cmp_total m name)) (less_le (map.contains_key m name) (map.len m))

more_le : (b : Bool) (n : ℕ) → cond b n (n + 1) ≤ n + 1
more_le true n = omega arith
more_le false n = omega arith

len_insert_le : (m : Bindings) (name : Name) (f : Fid) → map.len (map.insert m name f) ≤ map.len m + 1
len_insert_le m name f = subst (λ n. n ≤ map.len m + 1) (sym (map.len-insert nat_list_cmp_total m name f)) (more_le (map.contains_key m name) (map.len m))

count_unbind : (o : Option Node) (name : Name) → count_of (option_map (λ node. unbind_in node name) o) ≤ count_of o
count_unbind None name = omega arith
count_unbind (Some node) name = len_remove_le (bindings node.kind) name

count_bind : (o : Option Node) (name : Name) (f : Fid) → count_of (option_map (λ node. bind_in node name f) o) ≤ count_of o + 1
count_bind None name f = omega arith
count_bind (Some node) name f = len_insert_le (bindings node.kind) name f

count_unbound : (m : Nodes) (d : Fid) (name : Name) → count_of (map.get (unbound m d name) d) ≤ count_of (map.get m d)
count_unbound m d name = subst (λ o. count_of o ≤ count_of (map.get m d)) (sym (at_changed m d (λ node. unbind_in node name))) (count_unbind (map.get m d) name)

le_more : (n : ℕ) → n ≤ n + 1
le_more n = omega arith

count_bound : (m : Nodes) (d : Fid) (name : Name) (f q : Fid) → count_of (map.get (bound m d name f) q) ≤ count_of (map.get m q) + 1
count_bound m d name f q = elim (fid_cases q d) [
  | inl at ↦ subst (λ e. count_of (map.get (bound m d name f) e) ≤ count_of (map.get m e) + 1) (sym at) (subst (λ o. count_of o ≤ count_of (map.get m d) + 1) (sym (at_changed m d (λ node. bind_in node name f))) (count_bind (map.get m d) name f))
  | inr off ↦ subst (λ o. count_of o ≤ count_of (map.get m q) + 1) (sym (off_changed m d (λ node. bind_in node name f) q off)) (le_more (count_of (map.get m q)))
]

le_lt : (a b n : ℕ) → a ≤ b → b < n → a < n
le_lt a b n le lt = omega (arith, le, lt)

lt_less : (a n : ℕ) → a + 1 < n → a < n
lt_less a n lt = omega (arith, lt)

-- a name that was unbound can be taken back
may_take_back : (s : Slots) (dir : Fid) (name : Name) (room : ℕ) → IsDirAt (nodes_in s) dir → count_of (map.get (nodes_in s) dir) < room → MayTakeBack (slots_unbound s dir name) dir name room
may_take_back s dir name room there enough = record {
  there = dir_unbound s dir name dir there;
  free = ap (λ (m : Nodes). child m dir name) (nodes_unbound s dir name) ∙ unbound_here (nodes_in s) dir name;
  enough = subst (λ (m : Nodes). count_of (map.get m dir) < room) (sym (nodes_unbound s dir name)) (le_lt _ _ room (count_unbound (nodes_in s) dir name) enough);
}

-- ---- the edits

pub added_undoes : (s : Slots) (dir : Fid) (name : Name) (f : Fid) (node : Node) (fresh : Bool) → IsDirAt (nodes_in s) dir → child (nodes_in s) dir name ≡ None → map.get (nodes_in s) f ≡ None → (IsTrue fresh ↔ (map.get s f ≡ None)) → Undoes s (slots_added s dir name f node) (Added dir name f fresh)
added_undoes s dir name f node fresh there name_free free is =
    let held : Held = record { node = node; parent = Some dir } in
    let put : Slots = map.insert s f (Some held) in
    let stays = dir_put s f held dir there free in
    let still = subst IsDirNode (sym stays) there in
    record {
      back = ap (λ (t : Slots). withdrawn fresh t f) (bound_back put dir name f still (ap (λ o. child_of o name) stays ∙ name_free)) ∙ withdrawn_put s f (Some held) fresh is free;
      may = dir_bound put dir name f dir still;
      empties = λ q empty. inr (empty_put s f held q (empty_changed put dir (λ n. bind_in n name f) q empty));
    }

pub detached_undoes : (s : Slots) (dir : Fid) (name : Name) (f : Fid) (room : ℕ) → child (nodes_in s) dir name ≡ Some f → has (nodes_in s) f ≡ true → count_of (map.get (nodes_in s) dir) + 1 < room → Undoes s (slots_detached s dir name f) (Detached dir name f (held_in (map.get (slots_unbound s dir name) f)) room)
detached_undoes s dir name f room was there enough =
    let left = slots_unbound s dir name in
    let held = held_in (map.get left f) in
    let full = slot_there left f (ap (λ (m : Nodes). has m f) (nodes_unbound s dir name) ∙ has_changed (nodes_in s) dir (λ n. unbind_in n name) f ∙ there) in
    let filled = filled_back left f held full in
    record {
      back = ap (λ (t : Slots). slots_bound t dir name f) filled ∙ unbound_back s dir name f was;
      may = (
        vacated_has left f held full,
        subst (λ (t : Slots). MayTakeBack t dir name room) (sym filled) (may_take_back s dir name room (binder_is_dir (nodes_in s) dir name f was) (lt_less _ room enough)),
      );
      empties = λ q empty. elim (empty_vacated left f q empty) [
        | inl at ↦ inl (ap Some (sym at))
        | inr still ↦ inr (empty_changed s dir (λ n. unbind_in n name) q still)
      ];
    }

pub moved_undoes : (s : Slots) (from : Fid) (name : Name) (to : Fid) (new : Name) (f : Fid) (room : ℕ) → child (nodes_in s) from name ≡ Some f → IsDirAt (nodes_in s) to → child (nodes_in s) to new ≡ None → parent_in s f ≡ Some from → count_of (map.get (nodes_in s) from) + 1 < room → Undoes s (slots_moved s from name to new f) (Moved from name to new f room)
moved_undoes s from name to new f room was to_dir free parent enough =
    let m = nodes_in s in
    let more = slots_bound s to new f in
    let over = slots_unbound more from name in
    let after = slots_moved s from name to new f in
    let first = parent_back over f to from (parent_changed more from (λ n. unbind_in n name) f ∙ parent_changed s to (λ n. bind_in n new f) f ∙ parent) in
    let still : child (nodes_in more) from name ≡ Some f = ap (λ (n : Nodes). child n from name) (nodes_bound s to new f) ∙ bound_else m to new f from name (places_free m from name to new f was free) ∙ was in
    let second = unbound_back more from name f still in
    record {
      back = ap (λ (t : Slots). slots_unbound (slots_bound t from name f) to new) first ∙ ap (λ (t : Slots). slots_unbound t to new) second ∙ bound_back s to new f to_dir free;
      may = (
        subst (λ (t : Slots). MayTakeBack t from name room) (sym first) (may_take_back more from name room (binder_is_dir (nodes_in more) from name f still)
            (le_lt _ _ room (subst (λ (n : Nodes). count_of (map.get n from) ≤ count_of (map.get m from) + 1) (sym (nodes_bound s to new f)) (count_bound m to new f from)) enough)),
        subst (λ (t : Slots). IsDirAt (nodes_in t) to) (sym (ap (λ (t : Slots). slots_bound t from name f) first ∙ second)) (dir_bound s to new f to to_dir),
      );
      empties = λ q empty. inr (empty_changed s to (λ n. bind_in n new f) q (empty_changed more from (λ n. unbind_in n name) q (empty_moved over f to q empty)));
    }

pub replaced_undoes : (s : Slots) (old from : Fid) (name : Name) (to : Fid) (new : Name) (f : Fid) (room : ℕ) → child (nodes_in s) from name ≡ Some f → child (nodes_in s) to new ≡ Some old → old ≢ f → has (nodes_in s) old ≡ true → parent_in s f ≡ Some from → count_of (map.get (nodes_in s) from) + 1 < room
    → Undoes s (slots_replaced s old from name to new f) (Replaced old (held_in (map.get (slots_unbound (slots_bound s to new f) from name) old)) from name to new f room)
replaced_undoes s old from name to new f room was had differ there parent enough =
    let m = nodes_in s in
    let more = slots_bound s to new f in
    let over = slots_unbound more from name in
    let less = slots_vacated over old in
    let held = held_in (map.get over old) in
    let first = parent_back less f to from (parent_else over old (slot_with None) f (λ e. differ (sym e)) ∙ parent_changed more from (λ n. unbind_in n name) f ∙ parent_changed s to (λ n. bind_in n new f) f ∙ parent) in
    let full = slot_there over old (ap (λ (n : Nodes). has n old) (nodes_unbound more from name) ∙ has_changed (nodes_in more) from (λ n. unbind_in n name) old ∙ ap (λ (n : Nodes). has n old) (nodes_bound s to new f) ∙ has_changed m to (λ n. bind_in n new f) old ∙ there) in
    let second = ap (λ (t : Slots). map.insert t old held) first ∙ filled_back over old held full in
    let still : child (nodes_in more) from name ≡ Some f = ap (λ (n : Nodes). child n from name) (nodes_bound s to new f) ∙ bound_else m to new f from name (places_taken m from name to new f old was had differ) ∙ was in
    let third = ap (λ (t : Slots). slots_bound t from name f) second ∙ unbound_back more from name f still in
    let to_dir = binder_is_dir m to new old had in
    record {
      back = ap (λ (t : Slots). slots_bound t to new old) third ∙ rebound_back s to new f old had;
      may = (
        subst (λ (t : Slots). HasSlot t old) (sym first) (vacated_has over old held full),
        subst (λ (t : Slots). MayTakeBack t from name room) (sym second) (may_take_back more from name room (binder_is_dir (nodes_in more) from name f still)
            (le_lt _ _ room (subst (λ (n : Nodes). count_of (map.get n from) ≤ count_of (map.get m from) + 1) (sym (nodes_bound s to new f)) (count_bound m to new f from)) enough)),
        subst (λ (t : Slots). MayRebind t to new) (sym third) (record {
          there = dir_bound s to new f to to_dir;
          bound = subst IsSome (sym (ap (λ (n : Nodes). child n to new) (nodes_bound s to new f) ∙ bound_there m to new f to_dir)) refl;
        }),
      );
      empties = λ q empty. elim (empty_vacated over old q (empty_moved less f to q empty)) [
        | inl at ↦ inl (ap Some (sym at))
        | inr left ↦ inr (empty_changed s to (λ n. bind_in n new f) q (empty_changed more from (λ n. unbind_in n name) q left))
      ];
    }

pub written_undoes : (s : Slots) (f : Fid) (patch : Patch) (sid : Sid) (parts : Parts) → ((node : Node) → map.get (nodes_in s) f ≡ Some node → parts ≡ parts_before patch.content node) → Undoes s (altered s f (slot_changed (written patch sid))) (Written f parts)
written_undoes s f patch sid parts were = record {
  back = written_back s f patch sid parts were;
  may = tt;
  empties = λ q empty. inr (empty_changed s f (written patch sid) q empty);
}
