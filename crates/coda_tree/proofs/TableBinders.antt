-- What a table knows of how fids are bound is true of its nodes after each change, and says which directory binds a fid.
use Rattle.std.proofs.Common.{◌≡◌, ℕ, true, List, Option, Some, None, option_map, refl, sym, ap, ◌∙◌, subst, inl, inr}
use Rattle.std.specs.declared.cmp.Ordering.TheVariants as order
use Rattle.std.specs.FinMap as map
use Rattle.std.specs.FinMap.Entries.{is_sorted, find}
use Rattle.std.proofs.lemmas.Option.{none-some}
use Rattle.std.proofs.lemmas.Cmp.{tied_itself}
use Rattle.coda_fid.specs.Fid.{fid_cmp}
use Rattle.coda_fid.specs.Name.{name_cmp}
use Rattle.coda_fid.specs.declared.fid.Fid.{Fid}
use Rattle.coda_fid.proofs.Fids.{fids_total, exact_fids}
use Rattle.coda_tree.specs.declared.node.Node.{Node}
use Rattle.coda_tree.specs.declared.node.NodeKind.{NodeKind}
use Rattle.coda_tree.specs.declared.node.NodeKind.TheVariants.{File, Link, Dir}
use Rattle.coda_tree.specs.declared.binders.Bound.TheVariants.{Nowhere, Once}
use Rattle.coda_tree.specs.declared.binders.Change.TheVariants.{More, Less}
use Rattle.coda_tree.specs.declared.binders.Binders.{Binders}
use Rattle.coda_tree.specs.Bindings.{Name}
use Rattle.coda_tree.specs.Volume.{Nodes, bindings, child, child_of, bound, unbound, changed, moved, unbind_in, with_content, parent_of, IsDirAt}
use Rattle.coda_tree.specs.Table.{or_else}
use Rattle.coda_tree.specs.Binders.{bound_at, after_at, after_leave, after_move, after_all, pairs_in, pairs_of, Notes, IsTrueOf, AreBinders}
use Rattle.coda_tree.proofs.Booleans.{from_T}
use Rattle.coda_tree.proofs.Order.{fid_cases, get_else, gone_here, gone_else}
use Rattle.coda_tree.proofs.Keyed.{or_none}
use Rattle.coda_tree.proofs.Trees.{edge_cases}
use Rattle.coda_tree.proofs.Changes.{at_changed, off_changed, bound_else, unbound_here, unbound_else, dir_changed, bound_there}
use Rattle.coda_tree.proofs.FirstParent.{parent_first, parent_none}
use Rattle.coda_tree.proofs.Known.{at_place, true_same, true_less_known, true_more, true_leave, true_all_less, true_all_more}

-- ---- the pairs of a node

find_pairs : (kind : NodeKind) (n : Name) → map.get (bindings kind) n ≡ find name_cmp n (pairs_in kind)
find_pairs (File content) n = map.get-empty name_cmp n
find_pairs (Link target) n = map.get-empty name_cmp n
find_pairs (Dir entries) n = map.get-entries entries n

child_pairs : (o : Option Node) (n : Name) → child_of o n ≡ find name_cmp n (pairs_of o)
child_pairs None n = refl
child_pairs (Some node) n = find_pairs node.kind n

sorted_in : (kind : NodeKind) → is_sorted name_cmp (pairs_in kind) ≡ true
sorted_in (File content) = refl
sorted_in (Link target) = refl
sorted_in (Dir entries) = from_T _ (map.entries_sorted entries)

sorted_pairs : (o : Option Node) → is_sorted name_cmp (pairs_of o) ≡ true
sorted_pairs None = refl
sorted_pairs (Some node) = sorted_in node.kind

-- ---- changes

-- no node binds anything
pub nothing_bound : (b : Binders) → ((f : Fid) → bound_at b f ≡ Nowhere) → AreBinders (child map.empty) b
nothing_bound b nowhere q = subst (IsTrueOf (child map.empty) q) (sym (nowhere q)) (λ d n is. none-some q (sym (ap (λ o. child_of o n) (map.get-empty fid_cmp d)) ∙ is))

-- a node is taken out
pub removed_true : (m : Nodes) (d : Fid) (b b' : Binders) → AreBinders (child m) b → Notes b b' (after_all Less (pairs_of (map.get m d))) → AreBinders (child (map.remove m d)) b'
removed_true m d b b' h notes q = true_less_known (child (map.remove m d)) q _ _ (notes q)
    (true_all_less (pairs_of (map.get m d)) (child m) (child (map.remove m d)) d q (bound_at b q) (sorted_pairs (map.get m d)) (λ n. child_pairs (map.get m d) n) (λ n. ap (λ o. child_of o n) (gone_here fids_total m d))
    (λ e n other. ap (λ o. child_of o n) (gone_else fids_total exact_fids m d e other)) (h q))

-- and another one put there
pub put_true : (m : Nodes) (d : Fid) (node : Node) (b b' : Binders) → AreBinders (child (map.remove m d)) b → Notes b b' (after_all (More d) (pairs_of (map.get (map.insert m d node) d))) → AreBinders (child (map.insert m d node)) b'
put_true m d node b b' h notes q =
    let is = map.get (map.insert m d node) d in
    let free : (n : Name) → child (map.remove m d) d n ≡ None = λ n. ap (λ o. child_of o n) (gone_here fids_total m d) in
    true_less_known (child (map.insert m d node)) q _ _ (notes q)
    (true_all_more (pairs_of is) (child (map.remove m d)) (child (map.insert m d node)) d q (bound_at b q) (sorted_pairs is) (λ n _ _. free n)
    (λ n. child_pairs is n ∙ sym (ap (or_else (find name_cmp n (pairs_of is))) (free n) ∙ or_none _))
    (λ e n other. ap (λ o. child_of o n) (get_else fids_total exact_fids m d node e other) ∙ sym (ap (λ o. child_of o n) (gone_else fids_total exact_fids m d e other))) (h q))

-- a free name is bound
pub bound_true : (m : Nodes) (d : Fid) (n : Name) (f : Fid) (b b' : Binders) → IsDirAt m d → child m d n ≡ None → AreBinders (child m) b → Notes b b' (after_at f (More d)) → AreBinders (child (bound m d n f)) b'
bound_true m d n f b b' dir free h notes q =
    true_less_known (child (bound m d n f)) q _ _ (notes q) (true_more (child m) (child (bound m d n f)) d n f q (bound_at b q) (record { was = free; is = bound_there m d n f dir; others = λ e k off. bound_else m d n f e k off }) (h q))

-- a name is bound no more
pub unbound_true : (m : Nodes) (d : Fid) (n : Name) (b b' : Binders) → AreBinders (child m) b → Notes b b' (after_leave (child m d n)) → AreBinders (child (unbound m d n)) b'
unbound_true m d n b b' h notes q =
    true_less_known (child (unbound m d n)) q _ _ (notes q) (true_leave (child m) (child (unbound m d n)) d n (child m d n) q (bound_at b q) (record { was = refl; is = unbound_here m d n; others = λ e k off. unbound_else m d n e k off }) (h q))

-- a node is changed, and binds what it did
pub changed_true : (m : Nodes) (f : Fid) (change : Node → Node) (b : Binders) → ((node : Node) → bindings (change node).kind ≡ bindings node.kind) → AreBinders (child m) b → AreBinders (child (changed m f change)) b
changed_true m f change b binds h q = true_same (child m) (child (changed m f change)) (λ e n. elim (fid_cases e f) [
  | inl at ↦ ap (λ x. child (changed m f change) x n) at ∙ ap (λ o. child_of o n) (at_changed m f change) ∙ same (map.get m f) n ∙ sym (ap (λ x. child m x n) at)
  | inr other ↦ ap (λ o. child_of o n) (off_changed m f change e other)
]) q (bound_at b q) (h q)
  where
    same : (o : Option Node) (n : Name) → child_of (option_map change o) n ≡ child_of o n
    same None n = refl
    same (Some node) n = ap (λ (x : map.FinMap name_cmp Fid). map.get x n) (binds node)

-- what is written to a node leaves what it binds
pub written_binds : (content : List ℕ) (kind : NodeKind) → bindings (with_content (Some content) kind) ≡ bindings kind
written_binds content (File old) = refl
written_binds content (Link target) = refl
written_binds content (Dir entries) = refl

-- a fid is bound at a free name, and its old name is bound no more
pub moved_true : (m : Nodes) (from : Fid) (name : Name) (to : Fid) (new : Name) (f : Fid) (b b' : Binders) → IsDirAt m to → child m to new ≡ None → AreBinders (child m) b → Notes b b' (after_move (child m from name) f to)
    → AreBinders (child (moved m from name to new f)) b'
unfolding moved
moved_true m from name to new f b b' dir free h notes q =
    let mid = unbound m from name in
    let still : child mid to new ≡ None = elim (edge_cases to from new name) [
      | inl same ↦ at_place (child mid) to from new name same ∙ unbound_here m from name
      | inr other ↦ unbound_else m from name to new other ∙ free
    ] in
    let there : IsDirAt mid to = dir_changed m from (λ node. unbind_in node name) (λ _ _. tt) to dir in
    true_less_known (child (bound mid to new f)) q _ _ (notes q)
    (true_more (child mid) (child (bound mid to new f)) to new f q (after_leave (child m from name) q (bound_at b q)) (record { was = still; is = bound_there mid to new f there; others = λ e k off. bound_else mid to new f e k off })
    (true_leave (child m) (child mid) from name (child m from name) q (bound_at b q) (record { was = refl; is = unbound_here m from name; others = λ e k off. unbound_else m from name e k off }) (h q)))

-- and what was bound there before makes no difference
moved_over_same : (m : Nodes) (from : Fid) (name : Name) (to : Fid) (new : Name) (f : Fid) → IsDirAt m to → (e : Fid) (k : Name) → child (moved m from name to new f) e k ≡ child (moved (unbound m to new) from name to new f) e k
unfolding moved
moved_over_same m from name to new f dir e k =
    let bare = unbound m to new in
    let dir_mid : IsDirAt (unbound m from name) to = dir_changed m from (λ node. unbind_in node name) (λ _ _. tt) to dir in
    let dir_bare : IsDirAt bare to = dir_changed m to (λ node. unbind_in node new) (λ _ _. tt) to dir in
    let dir_both : IsDirAt (unbound bare from name) to = dir_changed bare from (λ node. unbind_in node name) (λ _ _. tt) to dir_bare in
    elim (edge_cases e to k new) [
      | inl same ↦
          at_place (child (bound (unbound m from name) to new f)) e to k new same ∙ bound_there (unbound m from name) to new f dir_mid
          ∙ sym (at_place (child (bound (unbound bare from name) to new f)) e to k new same ∙ bound_there (unbound bare from name) to new f dir_both)
      | inr other ↦ bound_else (unbound m from name) to new f e k other ∙ elim (edge_cases e from k name) [
        | inl same ↦ at_place (child (unbound m from name)) e from k name same ∙ unbound_here m from name ∙ sym (at_place (child (unbound bare from name)) e from k name same ∙ unbound_here bare from name)
        | inr apart ↦ unbound_else m from name e k apart ∙ sym (unbound_else bare from name e k apart ∙ unbound_else m to new e k other)
      ] ∙ sym (bound_else (unbound bare from name) to new f e k other)
    ]

-- a fid is bound at a bound name, and its old name is bound no more
pub moved_over_true : (m : Nodes) (from : Fid) (name : Name) (to : Fid) (new : Name) (f : Fid) (b b' b'' : Binders) → IsDirAt m to → AreBinders (child m) b → Notes b b' (after_leave (child m to new))
    → Notes b' b'' (after_move (child (unbound m to new) from name) f to) → AreBinders (child (moved m from name to new f)) b''
moved_over_true m from name to new f b b' b'' dir h first next q =
    let bare = unbound m to new in
    let there : IsDirAt bare to = dir_changed m to (λ node. unbind_in node new) (λ _ _. tt) to dir in
    true_same (child (moved bare from name to new f)) (child (moved m from name to new f)) (moved_over_same m from name to new f dir) q (bound_at b'' q)
    (moved_true bare from name to new f b' b'' there (unbound_here m to new) (unbound_true m to new b b' h first) next q)

-- ---- what is asked

-- what is bound nowhere has no parent
pub nowhere_none : (m : Nodes) (f : Fid) → IsTrueOf (child m) f Nowhere → None ≡ parent_of m f
nowhere_none m f h = sym (parent_none m f h)

-- and what is bound once has that directory
pub once_first : (m : Nodes) (f d : Fid) → IsTrueOf (child m) f (Once d) → Some d ≡ parent_of m f
once_first m f d h = sym (parent_first m f d h.0 h.1.bound (λ e k at less.
    let same : fid_cmp e d ≡ order.Equal = ap (λ x. fid_cmp x d) (h.1.only e k at).0 ∙ tied_itself fids_total d in
    let lower : fid_cmp e d ≡ order.Less = less in
    cc))
