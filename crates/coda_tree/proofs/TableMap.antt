-- What a table keeps as a finite map of nodes.
use Rattle.std.proofs.Common.{◌≡◌, suc, ◌+◌, cond, List, [], ◌∷◌, length, Option, None, IfSome, IsSome, option_map, is_some, add-one, sym, ap, ◌∙◌, subst, inl, inr}
use Rattle.std.specs.Map.{keys_of}
use Rattle.std.specs.List.{IsDistinct}
use Rattle.std.specs.FinMap as map
use Rattle.coda_fid.specs.Fid.{fid_cmp, same_fid}
use Rattle.coda_fid.specs.declared.fid.Fid.{Fid}
use Rattle.coda_fid.proofs.Fids.{fids_total, exact_fids}
use Rattle.coda_tree.specs.declared.node.Node.{Node}
use Rattle.coda_tree.specs.Bindings.{Name}
use Rattle.coda_tree.specs.Volume.{changed, IsDir, IsDirAt, bindings, child, child_of}
use Rattle.coda_tree.specs.Table.{nodes_of}
use Rattle.coda_tree.proofs.Order.{fid_cases}
use Rattle.coda_tree.proofs.Changes.{dir_node, at_changed, off_changed}
use Rattle.coda_tree.proofs.Keyed.{kept_at, changed_here, changed_else, get_keyed, absent_none}

-- a node changed, where there is one
pub nodes_changed : (old new : List (Fid × Node)) (f : Fid) (change : Node → Node) → ((q : Fid) → kept_at new q ≡ cond (same_fid f q) (option_map change (kept_at old f)) (kept_at old q)) → nodes_of new ≡ changed (nodes_of old) f change
nodes_changed old new f change changes = map.same_map fids_total exact_fids _ _ (λ q. get_keyed new q ∙ changes q ∙ elim (fid_cases q f) [
  | inl at ↦
      ap (λ e. cond (same_fid f e) (option_map change (kept_at old f)) (kept_at old q)) at ∙ changed_here f _ (kept_at old q) ∙ ap (option_map change) (sym (get_keyed old f))
      ∙ sym (ap (map.get (changed (nodes_of old) f change)) at ∙ at_changed (nodes_of old) f change)
  | inr away ↦ changed_else f q _ (kept_at old q) away ∙ sym (get_keyed old q) ∙ sym (off_changed (nodes_of old) f change q away)
])

-- a directory is kept where one stands
pub kept_dir : (entries : List (Fid × Node)) (dir : Fid) → IsDirAt (nodes_of entries) dir → IfSome (kept_at entries dir) (λ node. IsDir node.kind)
kept_dir entries dir is =
    let there = dir_node (nodes_of entries) dir is in
    subst (λ o. IfSome o (λ (node : Node). IsDir node.kind)) (sym (sym (get_keyed entries dir) ∙ there.1)) there.2

-- the name may be bound in the directory that is kept
pub may_bind : (entries : List (Fid × Node)) (dir : Fid) (name : Name) → IsDirAt (nodes_of entries) dir → child (nodes_of entries) dir name ≡ None → IfSome (kept_at entries dir) (λ node. IsDir node.kind × (map.get (bindings node.kind) name ≡ None))
may_bind entries dir name is free =
    let there = dir_node (nodes_of entries) dir is in
    subst (λ o. IfSome o (λ (node : Node). IsDir node.kind × (map.get (bindings node.kind) name ≡ None))) (sym (sym (get_keyed entries dir) ∙ there.1))
    (there.2, ap (λ o. child_of o name) (sym there.1) ∙ free)

-- the name may be bound anew in the directory that is kept
pub may_rebind : (entries : List (Fid × Node)) (dir : Fid) (name : Name) → IsDirAt (nodes_of entries) dir → IsSome (child (nodes_of entries) dir name) → IfSome (kept_at entries dir) (λ node. IsDir node.kind × IsSome (map.get (bindings node.kind) name))
may_rebind entries dir name is bound =
    let there = dir_node (nodes_of entries) dir is in
    subst (λ o. IfSome o (λ (node : Node). IsDir node.kind × IsSome (map.get (bindings node.kind) name))) (sym (sym (get_keyed entries dir) ∙ there.1))
    (there.2, subst (λ o. IsSome (child_of o name)) there.1 bound)

-- ---- how many there are

pub len_nodes : (entries : List (Fid × Node)) → IsDistinct same_fid (keys_of entries) → map.len (nodes_of entries) ≡ length entries
unfolding IsDistinct
len_nodes [] s = map.len-empty fid_cmp Node
len_nodes (e ∷ entries) s =
    map.len-insert fids_total (nodes_of entries) e.0 e.1
    ∙ ap (λ (o : Option Node). cond (is_some o) (map.len (nodes_of entries)) (map.len (nodes_of entries) + 1)) (get_keyed entries e.0 ∙ absent_none e.0 entries s.0)
    ∙ add-one (map.len (nodes_of entries)) ∙ ap suc (len_nodes entries s.1)
