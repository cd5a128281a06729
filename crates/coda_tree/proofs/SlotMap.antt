-- What slots hold as a finite map of nodes, and the directories that bind them.
use Rattle.std.proofs.Common.{◌≡◌, ◌≢◌, ℕ, zero, suc, ◌+◌, ◌-◌, ◌≤◌, ◌<◌, Bool, true, false, cond, List, [], ◌∷◌, length, Option, Some, None, Result, Ok, Err, OnOk, OnErr, IsSome, option_map, is_some, refl, sym, ap, ◌∙◌, subst, inl, inr, arith}
use Rattle.std.specs.Ordering.{is_eq}
use Rattle.std.specs.FinMap as map
use Rattle.std.specs.FinMap.{find}
use Rattle.std.proofs.lemmas.Option.{none-some}
use Rattle.coda_fid.specs.Fid.{fid_cmp}
use Rattle.coda_fid.specs.declared.fid.Fid.{Fid}
use Rattle.coda_fid.proofs.Fids.{fids_total, exact_fids}
use Rattle.coda_tree.specs.declared.node.Node.{Node}
use Rattle.coda_tree.specs.declared.slot.Held.{Held}
use Rattle.coda_tree.specs.Bindings.{Name}
use Rattle.coda_tree.specs.Volume.{Nodes, child, child_of, has, changed, changed_at, IsDirAt, IsDirNode}
use Rattle.coda_tree.specs.Slots.{Slots, keyed, held_in, node_held, parent_held, parent_in, with_slot, nodes_among, nodes_in, altered, slot_changed, slot_moved, slot_with, purged, purged_at}
use Rattle.coda_tree.specs.SlotSteps.{IsDirSlot, MayBindSlot, MayRebindSlot, MayTakeBackSlot}
use Rattle.coda_tree.specs.Undoing.{count_of, MayTakeBack}
use Rattle.coda_tree.proofs.Order.{fid_cases, get_here, get_else, gone_here, gone_else}
use Rattle.coda_tree.proofs.Changes.{at_changed, off_changed}
use Rattle.coda_tree.proofs.Keyed.{kept_at, get_keyed, at_altered, off_altered}

-- ---- the nodes

with_get : (m : Nodes) (f : Fid) (slot : Option Held) (q : Fid) → map.get (with_slot m f slot) q ≡ cond (is_eq (fid_cmp q f)) (node_held slot) (map.get m q)
with_get m f None q = map.get-remove fids_total m f q
with_get m f (Some held) q = map.get-insert fids_total m f held.node q

node_choice : (b : Bool) (x : Option (Option Held)) (o : Option (Option Held)) → node_held (held_in (cond b x o)) ≡ cond b (node_held (held_in x)) (node_held (held_in o))
node_choice true x o = refl
node_choice false x o = refl

get_among : (es : List (Fid × Option Held)) (q : Fid) → map.get (nodes_among es) q ≡ node_held (held_in (find fid_cmp q es))
get_among [] q = map.get-empty fid_cmp q
get_among (e ∷ es) q =
    with_get (nodes_among es) e.0 e.1 q ∙ ap (cond (is_eq (fid_cmp q e.0)) (node_held e.1)) (get_among es q)
    ∙ sym (node_choice (is_eq (fid_cmp q e.0)) (Some e.1) (find fid_cmp q es))

-- the node at a fid is the one that its slot holds
pub get_nodes_in : (s : Slots) (q : Fid) → map.get (nodes_in s) q ≡ node_held (held_in (map.get s q))
unfolding nodes_in
get_nodes_in s q = get_among (map.entries s) q ∙ ap (λ o. node_held (held_in o)) (sym (map.get-entries s q))

-- slots with one that is put
pub nodes_put : (s : Slots) (f : Fid) (slot : Option Held) → nodes_in (map.insert s f slot) ≡ with_slot (nodes_in s) f slot
nodes_put s f slot = map.same_map fids_total exact_fids _ _ (λ q.
    get_nodes_in (map.insert s f slot) q ∙ ap (λ o. node_held (held_in o)) (map.get-insert fids_total s f slot q) ∙ node_choice (is_eq (fid_cmp q f)) (Some slot) (map.get s q)
    ∙ ap (cond (is_eq (fid_cmp q f)) (node_held slot)) (sym (get_nodes_in s q)) ∙ sym (with_get (nodes_in s) f slot q))

-- slots with one that is taken away
pub nodes_removed : (s : Slots) (f : Fid) → nodes_in (map.remove s f) ≡ map.remove (nodes_in s) f
nodes_removed s f = map.same_map fids_total exact_fids _ _ (λ q.
    get_nodes_in (map.remove s f) q ∙ ap (λ o. node_held (held_in o)) (map.get-remove fids_total s f q) ∙ node_choice (is_eq (fid_cmp q f)) None (map.get s q)
    ∙ ap (cond (is_eq (fid_cmp q f)) None) (sym (get_nodes_in s q)) ∙ sym (map.get-remove fids_total (nodes_in s) f q))

-- what a change of a slot does to the node that it holds
at_nodes : (s : Slots) (f : Fid) (change : Option Held → Option Held) → map.get (nodes_in (altered s f change)) f ≡ node_held (held_in (option_map change (map.get s f)))
at_nodes s f change = get_nodes_in (altered s f change) f ∙ ap (λ o. node_held (held_in o)) (at_altered s f change)

off_nodes : (s : Slots) (f : Fid) (change : Option Held → Option Held) (q : Fid) → q ≢ f → map.get (nodes_in (altered s f change)) q ≡ map.get (nodes_in s) q
off_nodes s f change q other = get_nodes_in (altered s f change) q ∙ ap (λ o. node_held (held_in o)) (off_altered s f change q other) ∙ sym (get_nodes_in s q)

node_changed : (change : Node → Node) (o : Option (Option Held)) → node_held (held_in (option_map (slot_changed change) o)) ≡ option_map change (node_held (held_in o))
node_changed change None = refl
node_changed change (Some None) = refl
node_changed change (Some (Some held)) = refl

node_moved : (dir : Fid) (o : Option (Option Held)) → node_held (held_in (option_map (slot_moved dir) o)) ≡ node_held (held_in o)
node_moved dir None = refl
node_moved dir (Some None) = refl
node_moved dir (Some (Some held)) = refl

node_gone : (o : Option (Option Held)) → node_held (held_in (option_map (slot_with None) o)) ≡ None
node_gone None = refl
node_gone (Some slot) = refl

-- a node changed
pub nodes_changed : (s : Slots) (f : Fid) (change : Node → Node) → nodes_in (altered s f (slot_changed change)) ≡ changed (nodes_in s) f change
nodes_changed s f change = map.same_map fids_total exact_fids _ _ (λ q. elim (fid_cases q f) [
  | inl at ↦
      ap (map.get (nodes_in (altered s f (slot_changed change)))) at ∙ at_nodes s f (slot_changed change) ∙ node_changed change (map.get s f) ∙ ap (option_map change) (sym (get_nodes_in s f))
      ∙ sym (ap (map.get (changed (nodes_in s) f change)) at ∙ at_changed (nodes_in s) f change)
  | inr off ↦ off_nodes s f (slot_changed change) q off ∙ sym (off_changed (nodes_in s) f change q off)
])

-- a node with another parent
pub nodes_moved : (s : Slots) (f : Fid) (dir : Fid) → nodes_in (altered s f (slot_moved dir)) ≡ nodes_in s
nodes_moved s f dir = map.same_map fids_total exact_fids _ _ (λ q. elim (fid_cases q f) [
  | inl at ↦ ap (map.get (nodes_in (altered s f (slot_moved dir)))) at ∙ at_nodes s f (slot_moved dir) ∙ node_moved dir (map.get s f) ∙ sym (ap (map.get (nodes_in s)) at ∙ get_nodes_in s f)
  | inr off ↦ off_nodes s f (slot_moved dir) q off
])

-- a slot emptied
pub nodes_vacated : (s : Slots) (f : Fid) → nodes_in (altered s f (slot_with None)) ≡ map.remove (nodes_in s) f
nodes_vacated s f = map.same_map fids_total exact_fids _ _ (λ q. elim (fid_cases q f) [
  | inl at ↦ ap (map.get (nodes_in (altered s f (slot_with None)))) at ∙ at_nodes s f (slot_with None) ∙ node_gone (map.get s f) ∙ sym (ap (map.get (map.remove (nodes_in s) f)) at ∙ gone_here fids_total (nodes_in s) f)
  | inr off ↦ off_nodes s f (slot_with None) q off ∙ sym (gone_else fids_total exact_fids (nodes_in s) f q off)
])

removed_free : (m : Nodes) (f : Fid) → map.get m f ≡ None → map.remove m f ≡ m
removed_free m f free = map.same_map fids_total exact_fids _ _ (λ q. elim (fid_cases q f) [
  | inl at ↦ ap (map.get (map.remove m f)) at ∙ gone_here fids_total m f ∙ sym (ap (map.get m) at ∙ free)
  | inr off ↦ gone_else fids_total exact_fids m f q off
])

-- an empty slot taken away
pub nodes_purged : (s : Slots) (f : Fid) → nodes_in (purged s f) ≡ nodes_in s
nodes_purged s f = elim (map.get s f) as (λ o. map.get s f ≡ o → nodes_in (purged_at o s f) ≡ nodes_in s) [
  | None ↦ λ _. refl
  | Some None ↦ λ empty. nodes_removed s f ∙ removed_free (nodes_in s) f (get_nodes_in s f ∙ ap (λ o. node_held (held_in o)) empty)
  | Some (Some held) ↦ λ _. refl
] refl

-- ---- the directories that bind them

pub parent_put_here : (s : Slots) (f : Fid) (slot : Option Held) → parent_in (map.insert s f slot) f ≡ parent_held slot
parent_put_here s f slot = ap (λ o. parent_held (held_in o)) (get_here fids_total s f slot)

pub parent_put_else : (s : Slots) (f : Fid) (slot : Option Held) (q : Fid) → q ≢ f → parent_in (map.insert s f slot) q ≡ parent_in s q
parent_put_else s f slot q other = ap (λ o. parent_held (held_in o)) (get_else fids_total exact_fids s f slot q other)

pub parent_else : (s : Slots) (f : Fid) (change : Option Held → Option Held) (q : Fid) → q ≢ f → parent_in (altered s f change) q ≡ parent_in s q
parent_else s f change q other = ap (λ o. parent_held (held_in o)) (off_altered s f change q other)

parent_at : (s : Slots) (f : Fid) (change : Option Held → Option Held) → parent_in (altered s f change) f ≡ parent_held (held_in (option_map change (map.get s f)))
parent_at s f change = ap (λ o. parent_held (held_in o)) (at_altered s f change)

same_parent : (change : Node → Node) (o : Option (Option Held)) → parent_held (held_in (option_map (slot_changed change) o)) ≡ parent_held (held_in o)
same_parent change None = refl
same_parent change (Some None) = refl
same_parent change (Some (Some held)) = refl

-- a change of a node leaves them
pub parent_changed : (s : Slots) (f : Fid) (change : Node → Node) (q : Fid) → parent_in (altered s f (slot_changed change)) q ≡ parent_in s q
parent_changed s f change q = elim (fid_cases q f) [
  | inl at ↦ ap (parent_in (altered s f (slot_changed change))) at ∙ parent_at s f (slot_changed change) ∙ same_parent change (map.get s f) ∙ ap (parent_in s) (sym at)
  | inr off ↦ parent_else s f (slot_changed change) q off
]

no_parent_held : (o : Option (Option Held)) → parent_held (held_in (option_map (slot_with None) o)) ≡ None
no_parent_held None = refl
no_parent_held (Some slot) = refl

pub parent_vacated : (s : Slots) (f : Fid) → parent_in (altered s f (slot_with None)) f ≡ None
parent_vacated s f = parent_at s f (slot_with None) ∙ no_parent_held (map.get s f)

new_parent : (dir : Fid) (o : Option (Option Held)) (was : Fid) → parent_held (held_in o) ≡ Some was → parent_held (held_in (option_map (slot_moved dir) o)) ≡ Some dir
new_parent dir None was is = absurd (none-some was is)
new_parent dir (Some None) was is = absurd (none-some was is)
new_parent dir (Some (Some held)) was is = refl

pub parent_moved : (s : Slots) (f : Fid) (dir was : Fid) → parent_in s f ≡ Some was → parent_in (altered s f (slot_moved dir)) f ≡ Some dir
parent_moved s f dir was is = parent_at s f (slot_moved dir) ∙ new_parent dir (map.get s f) was is

pub parent_purged : (s : Slots) (f q : Fid) → parent_in (purged s f) q ≡ parent_in s q
parent_purged s f q = elim (map.get s f) as (λ o. map.get s f ≡ o → parent_in (purged_at o s f) q ≡ parent_in s q) [
  | None ↦ λ _. refl
  | Some None ↦ λ empty. elim (fid_cases q f) [
    | inl at ↦ ap (parent_in (map.remove s f)) at ∙ ap (λ o. parent_held (held_in o)) (gone_here fids_total s f) ∙ sym (ap (parent_in s) at ∙ ap (λ o. parent_held (held_in o)) empty)
    | inr off ↦ ap (λ o. parent_held (held_in o)) (gone_else fids_total exact_fids s f q off)
  ]
  | Some (Some held) ↦ λ _. refl
] refl

-- ---- how many nodes

there_is_one : (m : Nodes) (f : Fid) → has m f ≡ true → 0 < map.len m
there_is_one m f there = elim (map.len m) as (λ n. map.len m ≡ n → 0 < n) [
  | zero ↦ λ none. let gone : has m f ≡ false = ap (λ (n : Nodes). has n f) (map.empty_of_len m none) ∙ ap is_some (map.get-empty fid_cmp f) in cc
  | suc n ↦ λ _. omega arith
] refl

one_less : (n : ℕ) (b : Bool) → (b ≡ true → 0 < n) → cond b (n - 1) n + cond b 1 0 ≡ n
one_less n true some = let h = some refl in omega (arith, h)
one_less n false some = omega arith

one_more : (n : ℕ) (b : Bool) → cond b n (n + 1) + cond b 1 0 ≡ n + 1
one_more n true = refl
one_more n false = omega arith

pub len_with_slot : (m : Nodes) (f : Fid) (slot : Option Held) → map.len (with_slot m f slot) + cond (has m f) 1 0 ≡ map.len m + cond (is_some slot) 1 0
len_with_slot m f None =
    ap (λ n. n + cond (has m f) 1 0) (map.len-remove fids_total m f) ∙ one_less (map.len m) (has m f) (there_is_one m f) ∙ omega arith
len_with_slot m f (Some held) = ap (λ n. n + cond (has m f) 1 0) (map.len-insert fids_total m f held.node) ∙ one_more (map.len m) (has m f)

pub no_nodes : nodes_in (keyed []) ≡ map.empty
no_nodes = map.same_map fids_total exact_fids _ _ (λ q. get_nodes_in (keyed []) q ∙ ap (λ o. node_held (held_in o)) (map.get-empty fid_cmp q) ∙ sym (map.get-empty fid_cmp q))

some_node : (slot : Option Held) → is_some (node_held slot) ≡ is_some slot
some_node None = refl
some_node (Some held) = refl

-- a node stands where a slot is full
pub full_slot : (s : Slots) (f : Fid) → has (nodes_in s) f ≡ is_some (held_in (map.get s f))
full_slot s f = ap is_some (get_nodes_in s f) ∙ some_node (held_in (map.get s f))

one_at_most : (a b n m : ℕ) → a + b ≡ n + m → m ≤ 1 → a ≤ n + 1
one_at_most a b n m e le = omega (arith, e, le)

at_most_one : (b : Bool) → cond b 1 0 ≤ 1
at_most_one true = omega arith
at_most_one false = omega arith

suc_le : (a n k : ℕ) → a ≤ n + 1 → n ≤ k → a ≤ suc k
suc_le a n k le lt = omega (arith, le, lt)

-- there are no more nodes than slots
pub len_nodes_le : (entries : List (Fid × Option Held)) → map.len (nodes_in (keyed entries)) ≤ length entries
len_nodes_le [] = let none = ap (λ (m : Nodes). map.len m) no_nodes ∙ map.len-empty fid_cmp Node in omega (arith, none)
len_nodes_le (e ∷ es) =
    let m = nodes_in (keyed es) in
    let more = one_at_most (map.len (with_slot m e.0 e.1)) (cond (has m e.0) 1 0) (map.len m) (cond (is_some e.1) 1 0) (len_with_slot m e.0 e.1) (at_most_one (is_some e.1)) in
    subst (λ (n : Nodes). map.len n ≤ suc (length es)) (sym (nodes_put (keyed es) e.0 e.1)) (suc_le _ _ _ more (len_nodes_le es))

-- how many are full, once one slot is put
pub len_put : (s : Slots) (f : Fid) (slot : Option Held) → map.len (nodes_in (map.insert s f slot)) + cond (is_some (held_in (map.get s f))) 1 0 ≡ map.len (nodes_in s) + cond (is_some slot) 1 0
len_put s f slot =
    ap (λ (m : Nodes). map.len m + cond (is_some (held_in (map.get s f))) 1 0) (nodes_put s f slot)
    ∙ ap (λ b. map.len (with_slot (nodes_in s) f slot) + cond b 1 0) (sym (full_slot s f)) ∙ len_with_slot (nodes_in s) f slot

-- and once one is taken away or emptied
pub len_gone : (s t : Slots) (f : Fid) → nodes_in t ≡ map.remove (nodes_in s) f → map.len (nodes_in t) + cond (is_some (held_in (map.get s f))) 1 0 ≡ map.len (nodes_in s) + 0
len_gone s t f gone =
    ap (λ (m : Nodes). map.len m + cond (is_some (held_in (map.get s f))) 1 0) gone
    ∙ ap (λ b. map.len (map.remove (nodes_in s) f) + cond b 1 0) (sym (full_slot s f)) ∙ len_with_slot (nodes_in s) f None

-- a full slot is counted
pub some_full : (s : Slots) (f : Fid) → is_some (held_in (map.get s f)) ≡ true → 0 < map.len (nodes_in s)
some_full s f full = there_is_one (nodes_in s) f (full_slot s f ∙ full)

-- and a change of one node changes no count
pub len_changed : (m : Nodes) (f : Fid) (change : Node → Node) → map.len (changed m f change) ≡ map.len m
len_changed m f change = elim (map.get m f) as (λ o. map.get m f ≡ o → map.len (changed_at o m f change) ≡ map.len m) [
  | None ↦ λ _. refl
  | Some node ↦ λ is. map.len-insert fids_total m f (change node) ∙ ap (λ (o : Option Node). cond (is_some o) (map.len m) (map.len m + 1)) is
] refl

pub count_changed : (s : Slots) (f : Fid) (change : Node → Node) → map.len (nodes_in (altered s f (slot_changed change))) ≡ map.len (nodes_in s)
count_changed s f change = ap (λ (m : Nodes). map.len m) (nodes_changed s f change) ∙ len_changed (nodes_in s) f change

-- ---- what a directory may rely on

held_dir : (slot : Option Held) → IsDirNode (node_held slot) → IsDirSlot slot
held_dir None is = absurd is
held_dir (Some held) is = is

-- a directory is held where one stands
pub dir_slot : (s : Slots) (dir : Fid) → IsDirAt (nodes_in s) dir → IsDirSlot (held_in (map.get s dir))
dir_slot s dir is = held_dir (held_in (map.get s dir)) (subst IsDirNode (get_nodes_in s dir) is)

held_bind : (slot : Option Held) (name : Name) → IsDirNode (node_held slot) → child_of (node_held slot) name ≡ None → MayBindSlot slot name
held_bind None name is free = absurd is
held_bind (Some held) name is free = (is, free)

-- the name may be bound in it
pub bind_slot : (s : Slots) (dir : Fid) (name : Name) → IsDirAt (nodes_in s) dir → child (nodes_in s) dir name ≡ None → MayBindSlot (held_in (map.get s dir)) name
bind_slot s dir name is free = held_bind (held_in (map.get s dir)) name (subst IsDirNode (get_nodes_in s dir) is) (ap (λ o. child_of o name) (sym (get_nodes_in s dir)) ∙ free)

held_rebind : (slot : Option Held) (name : Name) → IsDirNode (node_held slot) → IsSome (child_of (node_held slot) name) → MayRebindSlot slot name
held_rebind None name is bound = absurd is
held_rebind (Some held) name is bound = (is, bound)

-- and may be bound anew
pub rebind_slot : (s : Slots) (dir : Fid) (name : Name) → IsDirAt (nodes_in s) dir → IsSome (child (nodes_in s) dir name) → MayRebindSlot (held_in (map.get s dir)) name
rebind_slot s dir name is bound = held_rebind (held_in (map.get s dir)) name (subst IsDirNode (get_nodes_in s dir) is) (subst (λ o. IsSome (child_of o name)) (get_nodes_in s dir) bound)

held_take_back : (slot : Option Held) (name : Name) (room : ℕ) → IsDirNode (node_held slot) → child_of (node_held slot) name ≡ None → count_of (node_held slot) < room → MayTakeBackSlot slot name room
held_take_back None name room is free enough = absurd is
held_take_back (Some held) name room is free enough = (is, free, enough)

-- and may be taken back
pub take_back_slot : (s : Slots) (dir : Fid) (name : Name) (room : ℕ) → MayTakeBack s dir name room → MayTakeBackSlot (held_in (map.get s dir)) name room
take_back_slot s dir name room may =
    held_take_back (held_in (map.get s dir)) name room (subst IsDirNode (get_nodes_in s dir) may.there) (ap (λ o. child_of o name) (sym (get_nodes_in s dir)) ∙ may.free)
    (subst (λ o. count_of o < room) (get_nodes_in s dir) may.enough)

-- ---- what is kept in a list of entries

-- what a list of entries has at a fid
pub held_kept : (P : Option Held → Type 0) (entries : List (Fid × Option Held)) (f : Fid) → P (held_in (map.get (keyed entries) f)) → P (held_in (kept_at entries f))
held_kept P entries f h = subst (λ o. P (held_in o)) (get_keyed entries f) h

-- a fact that holds anyway holds of a failure
pub on_err : {A E : Type 0} (r : Result A E) (P : Type 0) → P → OnErr r P
on_err (Ok x) P h = tt
on_err (Err e) P h = h

-- the count where one node was changed, or nothing was
pub count_either : {A E : Type 0} (r : Result A E) (s t : Slots) (f : Fid) (change : Node → Node) → OnOk r (t ≡ altered s f (slot_changed change)) → OnErr r (t ≡ s) → map.len (nodes_in t) ≡ map.len (nodes_in s)
count_either (Ok x) s t f change ok err = ap (λ (u : Slots). map.len (nodes_in u)) ok ∙ count_changed s f change
count_either (Err e) s t f change ok err = ap (λ (u : Slots). map.len (nodes_in u)) err

-- the count that was reckoned is the count
pub recounted_is : (result full after before was is : ℕ) → result + was ≡ full + is → full ≡ before → after + was ≡ before + is → result ≡ after
recounted_is result full after before was is a b c = omega (arith, a, b, c)
