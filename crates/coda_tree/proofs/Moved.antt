-- What a move makes of the nodes, in whichever order its edits are made.
use Rattle.std.proofs.Common.{◌≡◌, ◌≢◌, Option, Some, None, option_map, refl, sym, ap, ◌∙◌, subst, inl, inr}
use Rattle.std.specs.FinMap as map
use Rattle.std.proofs.lemmas.Cmp.{nat_list_cmp_total}
use Rattle.std.proofs.lemmas.Map.Lookups.{exact_bytes}
use Rattle.coda_fid.specs.declared.fid.Fid.{Fid}
use Rattle.coda_fid.proofs.Fids.{exact_fids, fids_total}
use Rattle.coda_tree.specs.declared.node.Node.{Node}
use Rattle.coda_tree.specs.declared.node.NodeKind.TheVariants.{Dir}
use Rattle.coda_tree.specs.Bindings.{Name, Bindings}
use Rattle.coda_tree.specs.Volume.{Nodes, bindings, changed, with_kind, bind_in, unbind_in, bound, unbound, detached, moved, replaced}
use Rattle.coda_tree.proofs.Order.{fid_cases, gone_here, gone_else, insert_over, insert_apart, remove_order}
use Rattle.coda_tree.proofs.Changes.{at_changed, off_changed}

-- ---- changes one after the other

map_twice : (a b : Node → Node) (o : Option Node) → option_map b (option_map a o) ≡ option_map (λ node. b (a node)) o
map_twice a b None = refl
map_twice a b (Some node) = refl

-- two changes of one node
changed_twice : (m : Nodes) (d : Fid) (a b : Node → Node) → changed (changed m d a) d b ≡ changed m d (λ node. b (a node))
changed_twice m d a b = map.same_map fids_total exact_fids _ _ (λ q. elim (fid_cases q d) [
  | inl at ↦
      ap (map.get (changed (changed m d a) d b)) at ∙ at_changed (changed m d a) d b ∙ ap (option_map b) (at_changed m d a) ∙ map_twice a b (map.get m d)
      ∙ sym (ap (map.get (changed m d (λ node. b (a node)))) at ∙ at_changed m d (λ node. b (a node)))
  | inr off ↦ off_changed (changed m d a) d b q off ∙ off_changed m d a q off ∙ sym (off_changed m d (λ node. b (a node)) q off)
])

-- changes of two nodes
changed_apart : (m : Nodes) (d e : Fid) (a b : Node → Node) → d ≢ e → changed (changed m d a) e b ≡ changed (changed m e b) d a
changed_apart m d e a b apart = map.same_map fids_total exact_fids _ _ (λ q. elim (fid_cases q d) [
  | inl at ↦
      ap (map.get (changed (changed m d a) e b)) at ∙ off_changed (changed m d a) e b d apart ∙ at_changed m d a
      ∙ sym (ap (map.get (changed (changed m e b) d a)) at ∙ at_changed (changed m e b) d a ∙ ap (option_map a) (off_changed m e b d apart))
  | inr off ↦ elim (fid_cases q e) [
    | inl at ↦
        ap (map.get (changed (changed m d a) e b)) at ∙ at_changed (changed m d a) e b ∙ ap (option_map b) (off_changed m d a e (λ same. apart (sym same)))
        ∙ sym (ap (map.get (changed (changed m e b) d a)) at ∙ off_changed (changed m e b) d a e (λ same. apart (sym same)) ∙ at_changed m e b)
    | inr away ↦ off_changed (changed m d a) e b q away ∙ off_changed m d a q off ∙ sym (off_changed (changed m e b) d a q off ∙ off_changed m e b q away)
  ]
])

-- changes that do the same to each node
changed_alike : (m : Nodes) (d : Fid) (a b : Node → Node) → ((node : Node) → a node ≡ b node) → changed m d a ≡ changed m d b
changed_alike m d a b same = λ i. changed m d (λ node. same node i)

none_changed : (m : Nodes) (d : Fid) (a : Node → Node) (q : Fid) → map.get m q ≡ None → map.get (changed m d a) q ≡ None
none_changed m d a q none = elim (fid_cases q d) [
  | inl at ↦ ap (map.get (changed m d a)) at ∙ at_changed m d a ∙ ap (option_map a) (ap (map.get m) (sym at) ∙ none)
  | inr off ↦ off_changed m d a q off ∙ none
]

-- a node taken out before a change or after it
pub remove_changed : (m : Nodes) (d : Fid) (a : Node → Node) (gone : Fid) → map.remove (changed m d a) gone ≡ changed (map.remove m gone) d a
remove_changed m d a gone = map.same_map fids_total exact_fids _ _ (λ q. elim (fid_cases q gone) [
  | inl at ↦
      ap (map.get (map.remove (changed m d a) gone)) at ∙ gone_here fids_total (changed m d a) gone
      ∙ sym (ap (map.get (changed (map.remove m gone) d a)) at ∙ none_changed (map.remove m gone) d a gone (gone_here fids_total m gone))
  | inr off ↦ gone_else fids_total exact_fids (changed m d a) gone q off ∙ elim (fid_cases q d) [
    | inl at ↦
        ap (map.get (changed m d a)) at ∙ at_changed m d a ∙ ap (option_map a) (sym (gone_else fids_total exact_fids m gone d (λ same. off (at ∙ same))))
        ∙ sym (ap (map.get (changed (map.remove m gone) d a)) at ∙ at_changed (map.remove m gone) d a)
    | inr away ↦ off_changed m d a q away ∙ sym (off_changed (map.remove m gone) d a q away ∙ gone_else fids_total exact_fids m gone q off)
  ]
])

-- ---- bindings one after the other

-- a name that is bound to a fid, whatever it was bound to
pub bound_over : (m : Nodes) (d : Fid) (name : Name) (f : Fid) → bound (unbound m d name) d name f ≡ bound m d name f
bound_over m d name f =
    changed_twice m d (λ node. unbind_in node name) (λ node. bind_in node name f)
    ∙ changed_alike m d (λ node. bind_in (unbind_in node name) name f) (λ node. bind_in node name f)
    (λ node. ap (λ (b : Bindings). with_kind node (Dir b)) (insert_over nat_list_cmp_total exact_bytes (bindings node.kind) name f))

bound_within : (m : Nodes) (d : Fid) (name new : Name) (f : Fid) → new ≢ name → bound (unbound m d name) d new f ≡ unbound (bound m d new f) d name
bound_within m d name new f apart =
    changed_twice m d (λ node. unbind_in node name) (λ node. bind_in node new f)
    ∙ changed_alike m d (λ node. bind_in (unbind_in node name) new f) (λ node. unbind_in (bind_in node new f) name)
    (λ node. ap (λ (b : Bindings). with_kind node (Dir b)) (insert_apart nat_list_cmp_total exact_bytes (bindings node.kind) name new f apart))
    ∙ sym (changed_twice m d (λ node. bind_in node new f) (λ node. unbind_in node name))

-- two names unbound, in either order
unbound_order : (m : Nodes) (d : Fid) (name : Name) (e : Fid) (other : Name) → unbound (unbound m d name) e other ≡ unbound (unbound m e other) d name
unbound_order m d name e other = elim (fid_cases d e) [
  | inl same ↦ subst (λ x. unbound (unbound m d name) x other ≡ unbound (unbound m x other) d name) same (
      changed_twice m d (λ node. unbind_in node name) (λ node. unbind_in node other)
      ∙ changed_alike m d (λ node. unbind_in (unbind_in node name) other) (λ node. unbind_in (unbind_in node other) name)
      (λ node. ap (λ (b : Bindings). with_kind node (Dir b)) (remove_order nat_list_cmp_total exact_bytes (bindings node.kind) name other))
      ∙ sym (changed_twice m d (λ node. unbind_in node other) (λ node. unbind_in node name)))
  | inr apart ↦ changed_apart m d e (λ node. unbind_in node name) (λ node. unbind_in node other) apart
]

-- ---- a move

pub moved_is : (m : Nodes) (from : Fid) (name : Name) (to : Fid) (new : Name) (f : Fid) → moved m from name to new f ≡ bound (unbound m from name) to new f
unfolding moved
moved_is m from name to new f = refl

-- from a place to another, the binding may be made first
pub moved_apart : (m : Nodes) (from : Fid) (name : Name) (to : Fid) (new : Name) (f : Fid) → (((from ≡ to) × (name ≡ new)) → ⊥) → moved m from name to new f ≡ unbound (bound m to new f) from name
moved_apart m from name to new f apart = moved_is m from name to new f ∙ elim (fid_cases from to) [
  | inl same ↦ subst (λ d. bound (unbound m from name) d new f ≡ unbound (bound m d new f) from name) same (bound_within m from name new f (λ alike. apart (same, sym alike)))
  | inr other ↦ changed_apart m from to (λ node. unbind_in node name) (λ node. bind_in node new f) other
]

-- from a place to itself, the binding is all
pub moved_same : (m : Nodes) (from : Fid) (name : Name) (to : Fid) (new : Name) (f : Fid) → (from ≡ to) × (name ≡ new) → moved m from name to new f ≡ bound m to new f
moved_same m from name to new f same = (λ i. moved m (same.0 i) (same.1 i) to new f) ∙ moved_is m to new to new f ∙ bound_over m to new f

-- ---- a move to a bound name

replaced_is : (m : Nodes) (old from : Fid) (name : Name) (to : Fid) (new : Name) (f : Fid) → replaced m old from name to new f ≡ bound (unbound (map.remove m old) from name) to new f
unfolding replaced
replaced_is m old from name to new f = refl

-- the replaced node may be taken out last
pub replaced_last : (m : Nodes) (old from : Fid) (name : Name) (to : Fid) (new : Name) (f : Fid) → map.remove (moved m from name to new f) old ≡ replaced m old from name to new f
replaced_last m old from name to new f =
    ap (λ (n : Nodes). map.remove n old) (moved_is m from name to new f)
    ∙ remove_changed (unbound m from name) to (λ node. bind_in node new f) old
    ∙ ap (λ (n : Nodes). bound n to new f) (remove_changed m from (λ node. unbind_in node name) old)
    ∙ sym (replaced_is m old from name to new f)

pub detached_is : (m : Nodes) (d : Fid) (name : Name) (f : Fid) → detached m d name f ≡ map.remove (unbound m d name) f
unfolding detached
detached_is m d name f = refl

-- it is a removal of what the name was bound to, and then a move
pub replaced_detached : (m : Nodes) (old from : Fid) (name : Name) (to : Fid) (new : Name) (f : Fid) → moved (detached m to new old) from name to new f ≡ replaced m old from name to new f
replaced_detached m old from name to new f =
    let gone = map.remove m old in
    moved_is (detached m to new old) from name to new f
    ∙ ap (λ (n : Nodes). bound (unbound n from name) to new f) (detached_is m to new old ∙ remove_changed m to (λ node. unbind_in node new) old)
    ∙ ap (λ (n : Nodes). bound n to new f) (unbound_order gone to new from name)
    ∙ bound_over (unbound gone from name) to new f
    ∙ sym (replaced_is m old from name to new f)
