-- What each change of the nodes leaves at each fid, and of the tree.
use Rattle.std.proofs.Common.{◌≡◌, ◌≢◌, ◌+◌, cond, Option, Some, None, option_map, is_some, IsSome, refl, sym, ap, ◌∙◌, subst, inl, inr}
use Rattle.std.specs.FinMap as map
use Rattle.std.proofs.lemmas.Cmp.{nat_list_cmp_total}
use Rattle.std.proofs.lemmas.Map.Lookups.{exact_bytes}
use Rattle.std.proofs.lemmas.Option.{none-some}
use Rattle.coda_fid.specs.Name.{name_cmp}
use Rattle.coda_fid.specs.declared.fid.Fid.{Fid}
use Rattle.coda_fid.proofs.Fids.{fids_total, exact_fids}
use Rattle.coda_tree.specs.declared.node.Node.{Node}
use Rattle.coda_tree.specs.declared.node.NodeKind.{NodeKind}
use Rattle.coda_tree.specs.declared.node.NodeKind.TheVariants.{File, Link, Dir}
use Rattle.coda_tree.specs.Bindings.{Name}
use Rattle.coda_tree.specs.Volume.{Nodes, bindings, child, child_of, has, IsVolume, IsDir, IsDirNode, IsDirAt, changed, changed_at, with_kind, bind_in, unbind_in, bound, unbound, additions, edited_all, added, detached}
use Rattle.coda_tree.proofs.Order.{fid_cases, get_here, get_else, gone_here, gone_else, insert_removed}
use Rattle.coda_tree.proofs.Trees.{IsAddition, tree_added, IsRemoval, tree_removed, root_differs}

-- ---- a node changed

pub changed_is : (m : Nodes) (d : Fid) (change : Node → Node) (node : Node) → map.get m d ≡ Some node → changed m d change ≡ map.insert m d (change node)
changed_is m d change node is = ap (λ o. changed_at o m d change) is

-- another node is put in the place of one
pub changed_to : (m : Nodes) (d : Fid) (node : Node) → IsSome (map.get m d) → changed m d (λ _. node) ≡ map.insert m d node
changed_to m d node = elim (map.get m d) as (λ o. IsSome o → changed_at o m d (λ _. node) ≡ map.insert m d node) [
  | None ↦ λ there. cc
  | Some was ↦ λ _. refl
]

pub get_changed : (m : Nodes) (d : Fid) (change : Node → Node) (node : Node) → map.get m d ≡ Some node → map.get (changed m d change) d ≡ Some (change node)
get_changed m d change node is = ap (λ n. map.get n d) (changed_is m d change node is) ∙ get_here fids_total m d (change node)

pub get_unchanged : (m : Nodes) (d : Fid) (change : Node → Node) (node : Node) → map.get m d ≡ Some node → (q : Fid) → q ≢ d → map.get (changed m d change) q ≡ map.get m q
get_unchanged m d change node is q ne = ap (λ n. map.get n q) (changed_is m d change node is) ∙ get_else fids_total exact_fids m d (change node) q ne

-- what a change leaves at the fid, whether or not a node is there
pub at_changed : (m : Nodes) (d : Fid) (change : Node → Node) → map.get (changed m d change) d ≡ option_map change (map.get m d)
at_changed m d change = elim (map.get m d) as (λ o. map.get m d ≡ o → map.get (changed m d change) d ≡ option_map change o) [
  | None ↦ λ none. ap (λ o. map.get (changed_at o m d change) d) none ∙ none
  | Some node ↦ λ is. get_changed m d change node is
] refl

-- and elsewhere
pub off_changed : (m : Nodes) (d : Fid) (change : Node → Node) (q : Fid) → q ≢ d → map.get (changed m d change) q ≡ map.get m q
off_changed m d change q other = elim (map.get m d) as (λ o. map.get m d ≡ o → map.get (changed m d change) q ≡ map.get m q) [
  | None ↦ λ none. ap (λ o. map.get (changed_at o m d change) q) none
  | Some node ↦ λ is. get_unchanged m d change node is q other
] refl

-- what the changed directory binds
pub bind_here : (node : Node) (name : Name) (f : Fid) → child_of (Some (bind_in node name f)) name ≡ Some f
bind_here node name f = get_here nat_list_cmp_total (bindings node.kind) name f

pub bind_else : (node : Node) (name : Name) (f : Fid) (n : Name) → n ≢ name → child_of (Some (bind_in node name f)) n ≡ child_of (Some node) n
bind_else node name f n ne = get_else nat_list_cmp_total exact_bytes (bindings node.kind) name f n ne

pub unbind_here : (node : Node) (name : Name) → child_of (Some (unbind_in node name)) name ≡ None
unbind_here node name = gone_here nat_list_cmp_total (bindings node.kind) name

pub unbind_else : (node : Node) (name n : Name) → n ≢ name → child_of (Some (unbind_in node name)) n ≡ child_of (Some node) n
unbind_else node name n ne = gone_else nat_list_cmp_total exact_bytes (bindings node.kind) name n ne

same_kind : (kind : NodeKind) (name : Name) (f : Fid) → IsDir kind → map.get (bindings kind) name ≡ None → Dir (map.remove (map.insert (bindings kind) name f) name) ≡ kind
same_kind (File content) name f is free = absurd is
same_kind (Link target) name f is free = absurd is
same_kind (Dir entries) name f is free = ap Dir (insert_removed nat_list_cmp_total exact_bytes entries name f free)

-- a directory in which a free name was bound and unbound again
pub bind_undone : (node : Node) (name : Name) (f : Fid) → IsDir node.kind → map.get (bindings node.kind) name ≡ None → unbind_in (bind_in node name f) name ≡ node
bind_undone node name f is free = ap (λ kind. with_kind node kind) (same_kind node.kind name f is free)

has_as_many : (change : Node → Node) (o : Option Node) → is_some (option_map change o) ≡ is_some o
has_as_many change None = refl
has_as_many change (Some node) = refl

-- a change leaves where nodes are
pub has_changed : (m : Nodes) (d : Fid) (change : Node → Node) (q : Fid) → has (changed m d change) q ≡ has m q
has_changed m d change q = elim (fid_cases q d) [
  | inl at ↦ ap (has (changed m d change)) at ∙ ap is_some (at_changed m d change) ∙ has_as_many change (map.get m d) ∙ ap (has m) (sym at)
  | inr off ↦ ap is_some (off_changed m d change q off)
]

binds_no_less : (o : Option Node) (name : Name) (f : Fid) (n : Name) → n ≢ name → child_of (option_map (λ node. bind_in node name f) o) n ≡ child_of o n
binds_no_less None name f n other = refl
binds_no_less (Some node) name f n other = bind_else node name f n other

-- what is bound at the other names stays
pub bound_else : (m : Nodes) (d : Fid) (name : Name) (f : Fid) (e : Fid) (n : Name) → (((e ≡ d) × (n ≡ name)) → ⊥) → child (bound m d name f) e n ≡ child m e n
bound_else m d name f e n other = elim (fid_cases e d) [
  | inl at ↦
      ap (λ x. child (bound m d name f) x n) at ∙ ap (λ o. child_of o n) (at_changed m d (λ node. bind_in node name f))
      ∙ binds_no_less (map.get m d) name f n (λ same. other (at, same)) ∙ ap (λ x. child m x n) (sym at)
  | inr off ↦ ap (λ o. child_of o n) (off_changed m d (λ node. bind_in node name f) e off)
]

unbinds_one : (o : Option Node) (name : Name) → child_of (option_map (λ node. unbind_in node name) o) name ≡ None
unbinds_one None name = refl
unbinds_one (Some node) name = unbind_here node name

-- nothing is bound at an unbound name
pub unbound_here : (m : Nodes) (d : Fid) (name : Name) → child (unbound m d name) d name ≡ None
unbound_here m d name = ap (λ o. child_of o name) (at_changed m d (λ node. unbind_in node name)) ∙ unbinds_one (map.get m d) name

unbinds_no_more : (o : Option Node) (name n : Name) → n ≢ name → child_of (option_map (λ node. unbind_in node name) o) n ≡ child_of o n
unbinds_no_more None name n other = refl
unbinds_no_more (Some node) name n other = unbind_else node name n other

-- and what is bound at the others stays
pub unbound_else : (m : Nodes) (d : Fid) (name : Name) (e : Fid) (n : Name) → (((e ≡ d) × (n ≡ name)) → ⊥) → child (unbound m d name) e n ≡ child m e n
unbound_else m d name e n other = elim (fid_cases e d) [
  | inl at ↦
      ap (λ x. child (unbound m d name) x n) at ∙ ap (λ o. child_of o n) (at_changed m d (λ node. unbind_in node name))
      ∙ unbinds_no_more (map.get m d) name n (λ same. other (at, same)) ∙ ap (λ x. child m x n) (sym at)
  | inr off ↦ ap (λ o. child_of o n) (off_changed m d (λ node. unbind_in node name) e off)
]

-- ---- a directory that is there

dir_of : (o : Option Node) → IsDirNode o → (node : Node) × (o ≡ Some node) × IsDir node.kind
dir_of None d = absurd d
dir_of (Some node) d = (node, refl, d)

-- the node that a directory is
pub dir_node : (m : Nodes) (d : Fid) → IsDirAt m d → (node : Node) × (map.get m d ≡ Some node) × IsDir node.kind
dir_node m d is = dir_of (map.get m d) is

-- a directory stays one where the change keeps directories
pub dir_changed : (m : Nodes) (d : Fid) (change : Node → Node) → ((node : Node) → IsDir node.kind → IsDir (change node).kind) → (q : Fid) → IsDirAt m q → IsDirAt (changed m d change) q
dir_changed m d change keeps q is =
    let there = dir_node m q is in
    elim (fid_cases q d) [
      | inl at ↦ subst IsDirNode (sym (ap (map.get (changed m d change)) at ∙ at_changed m d change ∙ ap (option_map change) (ap (map.get m) (sym at) ∙ there.1))) (keeps there.0 there.2)
      | inr off ↦ subst IsDirNode (sym (off_changed m d change q off)) is
    ]

kind_binds : (kind : NodeKind) (name : Name) (f : Fid) → map.get (bindings kind) name ≡ Some f → IsDir kind
kind_binds (File content) name f is = absurd (none-some f (sym (map.get-empty name_cmp name) ∙ is))
kind_binds (Link target) name f is = absurd (none-some f (sym (map.get-empty name_cmp name) ∙ is))
kind_binds (Dir entries) name f is = tt

node_binds : (o : Option Node) (name : Name) (f : Fid) → child_of o name ≡ Some f → IsDirNode o
node_binds None name f is = absurd (none-some f is)
node_binds (Some node) name f is = kind_binds node.kind name f is

-- what binds something is a directory
pub binder_is_dir : (m : Nodes) (d : Fid) (name : Name) (f : Fid) → child m d name ≡ Some f → IsDirAt m d
binder_is_dir m d name f is = node_binds (map.get m d) name f is

-- a name that is bound in a directory is bound there
pub bound_there : (m : Nodes) (d : Fid) (name : Name) (f : Fid) → IsDirAt m d → child (bound m d name f) d name ≡ Some f
bound_there m d name f is =
    let there = dir_node m d is in
    ap (λ o. child_of o name) (get_changed m d (λ node. bind_in node name f) there.0 there.1) ∙ bind_here there.0 name f

-- a directory does not stand at a free fid
pub dir_not_free : (m : Nodes) (d f : Fid) → IsDirAt m d → map.get m f ≡ None → d ≢ f
dir_not_free m d f is free same = subst IsDirNode (ap (map.get m) same ∙ free) is

-- ---- a node put at a free fid and taken out again

pub put_taken_out : (m : Nodes) (f : Fid) (node : Node) → map.get m f ≡ None → map.remove (map.insert m f node) f ≡ m
put_taken_out m f node free = insert_removed fids_total exact_fids m f node free

-- a directory stays when a node is put at a free fid
pub get_dir_put : (m : Nodes) (d f : Fid) (node : Node) → IsDirAt m d → map.get m f ≡ None → map.get (map.insert m f node) d ≡ map.get m d
get_dir_put m d f node is free = get_else fids_total exact_fids m f node d (dir_not_free m d f is free)

-- ---- a node added

-- an addition is its edits in order
pub added_is : (m : Nodes) (d : Fid) (name : Name) (f : Fid) (node : Node) → added m d name f node ≡ edited_all m (additions d name f node)
unfolding added
added_is m d name f node = refl

module _ (m : Nodes) (dir : Fid) (name : Name) (f : Fid) (node dnode : Node) (dir_is : map.get m dir ≡ Some dnode) (free : map.get m f ≡ None) where
  dir_other : dir ≢ f
  dir_other same = none-some dnode (sym free ∙ sym (ap (map.get m) same) ∙ dir_is)

  pub get_added_new : map.get (added m dir name f node) f ≡ Some node
  unfolding added
  get_added_new = get_here fids_total (bound m dir name f) f node

  pub get_added_dir : map.get (added m dir name f node) dir ≡ Some (bind_in dnode name f)
  unfolding added
  get_added_dir = get_else fids_total exact_fids (bound m dir name f) f node dir dir_other ∙ get_changed m dir (λ n. bind_in n name f) dnode dir_is

  pub get_added_else : (q : Fid) → q ≢ f → q ≢ dir → map.get (added m dir name f node) q ≡ map.get m q
  unfolding added
  get_added_else q a b = get_else fids_total exact_fids (bound m dir name f) f node q a ∙ get_unchanged m dir (λ n. bind_in n name f) dnode dir_is q b

  -- the two edits may be made in either order
  pub added_put_first : bound (map.insert m f node) dir name f ≡ added m dir name f node
  added_put_first =
      let at_dir : map.get (map.insert m f node) dir ≡ Some dnode = get_else fids_total exact_fids m f node dir dir_other ∙ dir_is in
      map.same_map fids_total exact_fids _ _ (λ q. elim (fid_cases q dir) [
        | inl at ↦ ap (map.get (bound (map.insert m f node) dir name f)) at ∙ get_changed (map.insert m f node) dir (λ n. bind_in n name f) dnode at_dir ∙ sym (ap (map.get (added m dir name f node)) at ∙ get_added_dir)
        | inr away ↦ get_unchanged (map.insert m f node) dir (λ n. bind_in n name f) dnode at_dir q away ∙ elim (fid_cases q f) [
          | inl same ↦ ap (map.get (map.insert m f node)) same ∙ get_here fids_total m f node ∙ sym (ap (map.get (added m dir name f node)) same ∙ get_added_new)
          | inr other ↦ get_else fids_total exact_fids m f node q other ∙ sym (get_added_else q other away)
        ]
      ])

  -- what was a directory is one
  pub dir_added : (q : Fid) → IsDirAt m q → IsDirAt (added m dir name f node) q
  dir_added q is = elim (fid_cases q dir) [
    | inl at ↦ subst IsDirNode (sym (ap (map.get (added m dir name f node)) at ∙ get_added_dir)) tt
    | inr away ↦ subst IsDirNode (sym (get_added_else q (dir_not_free m q f is free) away)) is
  ]

  -- one node more
  pub len_added : map.len (added m dir name f node) ≡ map.len m + 1
  unfolding added
  len_added =
      let at : map.get (bound m dir name f) f ≡ None = get_unchanged m dir (λ n. bind_in n name f) dnode dir_is f (λ same. dir_other (sym same)) ∙ free in
      let as_many : map.len (bound m dir name f) ≡ map.len m =
      ap (λ (n : Nodes). map.len n) (changed_is m dir (λ n. bind_in n name f) dnode dir_is) ∙ map.len-insert fids_total m dir (bind_in dnode name f)
      ∙ ap (λ (o : Option Node). cond (is_some o) (map.len m) (map.len m + 1)) dir_is in
      map.len-insert fids_total (bound m dir name f) f node ∙ ap (λ (o : Option Node). cond (is_some o) (map.len (bound m dir name f)) (map.len (bound m dir name f) + 1)) at ∙ ap (λ k. k + 1) as_many

  pub addition : child m dir name ≡ None → ((n : Name) → child_of (Some node) n ≡ None) → IsAddition (has m) (has (added m dir name f node)) (child m) (child (added m dir name f node)) dir name f
  addition name_free leaf = record {
    dir_there = ap is_some dir_is;
    new_free = ap is_some free;
    name_free = name_free;
    here = ap (λ o. child_of o name) get_added_dir ∙ bind_here dnode name f;
    elsewhere = λ d n not_edge. elim (fid_cases d f) [
      | inl same ↦ ap (λ e. child (added m dir name f node) e n) same ∙ ap (λ o. child_of o n) get_added_new ∙ leaf n ∙ sym (ap (λ e. child m e n) same ∙ ap (λ o. child_of o n) free)
      | inr other ↦ elim (fid_cases d dir) [
        | inl at ↦ ap (λ e. child (added m dir name f node) e n) at ∙ ap (λ o. child_of o n) get_added_dir ∙ bind_else dnode name f n (λ alike. not_edge (at, alike)) ∙ sym (ap (λ e. child m e n) at ∙ ap (λ o. child_of o n) dir_is)
        | inr away ↦ ap (λ o. child_of o n) (get_added_else d other away)
      ]
    ];
    new_there = ap is_some get_added_new;
    others = λ q other. elim (fid_cases q dir) [
      | inl at ↦ ap (λ e. has (added m dir name f node) e) at ∙ ap is_some get_added_dir ∙ sym (ap (λ e. has m e) at ∙ ap is_some dir_is)
      | inr away ↦ ap is_some (get_added_else q other away)
    ];
  }

  -- a volume stays one where the new node binds nothing
  pub volume_added : {root : Fid} → IsVolume root m → child m dir name ≡ None → ((n : Name) → child_of (Some node) n ≡ None) → IsVolume root (added m dir name f node)
  volume_added {root} v name_free leaf = record {
    tree = tree_added v.tree (addition name_free leaf);
    top = dir_added root v.top;
  }

-- ---- a node taken out

module _ (m : Nodes) (dir : Fid) (name : Name) (f : Fid) (dnode : Node) (dir_is : map.get m dir ≡ Some dnode) where
  pub get_detached_old : map.get (detached m dir name f) f ≡ None
  unfolding detached
  get_detached_old = gone_here fids_total (unbound m dir name) f

  pub get_detached_dir : dir ≢ f → map.get (detached m dir name f) dir ≡ Some (unbind_in dnode name)
  unfolding detached
  get_detached_dir differs = gone_else fids_total exact_fids (unbound m dir name) f dir differs ∙ get_changed m dir (λ n. unbind_in n name) dnode dir_is

  pub get_detached_else : (q : Fid) → q ≢ f → q ≢ dir → map.get (detached m dir name f) q ≡ map.get m q
  unfolding detached
  get_detached_else q a b = gone_else fids_total exact_fids (unbound m dir name) f q a ∙ get_unchanged m dir (λ n. unbind_in n name) dnode dir_is q b

  pub binder_differs : child m dir name ≡ Some f → ((n : Name) → child m f n ≡ None) → dir ≢ f
  binder_differs was leaf same = none-some f (sym (leaf name) ∙ ap (λ e. child m e name) (sym same) ∙ was)

  pub removal : child m dir name ≡ Some f → ((n : Name) → child m f n ≡ None) → IsRemoval (has m) (has (detached m dir name f)) (child m) (child (detached m dir name f)) dir name f
  removal was leaf =
      let dir_other = binder_differs was leaf in
      record {
        was = was;
        leaf = leaf;
        here = ap (λ o. child_of o name) (get_detached_dir dir_other) ∙ unbind_here dnode name;
        elsewhere = λ d n not_edge. elim (fid_cases d f) [
          | inl same ↦ ap (λ e. child (detached m dir name f) e n) same ∙ ap (λ o. child_of o n) get_detached_old ∙ sym (ap (λ e. child m e n) same ∙ leaf n)
          | inr other ↦ elim (fid_cases d dir) [
            | inl at ↦
                ap (λ e. child (detached m dir name f) e n) at ∙ ap (λ o. child_of o n) (get_detached_dir dir_other) ∙ unbind_else dnode name n (λ alike. not_edge (at, alike))
                ∙ sym (ap (λ e. child m e n) at ∙ ap (λ o. child_of o n) dir_is)
            | inr away ↦ ap (λ o. child_of o n) (get_detached_else d other away)
          ]
        ];
        old_gone = ap is_some get_detached_old;
        others = λ q other. elim (fid_cases q dir) [
          | inl at ↦ ap (λ e. has (detached m dir name f) e) at ∙ ap is_some (get_detached_dir dir_other) ∙ sym (ap (λ e. has m e) at ∙ ap is_some dir_is)
          | inr away ↦ ap is_some (get_detached_else q other away)
        ];
      }

  -- what was a directory is one, where it stays
  pub dir_left : dir ≢ f → (q : Fid) → q ≢ f → IsDirAt m q → IsDirAt (detached m dir name f) q
  dir_left dir_other q other is = elim (fid_cases q dir) [
    | inl at ↦ subst IsDirNode (sym (ap (map.get (detached m dir name f)) at ∙ get_detached_dir dir_other)) tt
    | inr away ↦ subst IsDirNode (sym (get_detached_else q other away)) is
  ]

  -- a volume stays one where the node bound nothing
  pub volume_detached : {root : Fid} → IsVolume root m → child m dir name ≡ Some f → ((n : Name) → child m f n ≡ None) → IsVolume root (detached m dir name f)
  volume_detached {root} v was leaf =
      let facts = removal was leaf in
      record {
        tree = tree_removed v.tree facts;
        top = dir_left (binder_differs was leaf) root (root_differs v.tree facts) v.top;
      }

-- ---- a node added and taken out again

module _ (m : Nodes) (dir : Fid) (name : Name) (f : Fid) (node : Node) (is : IsDirAt m dir) (name_free : child m dir name ≡ None) (free : map.get m f ≡ None) where
  -- the new name is bound to the new node
  pub added_child : child (added m dir name f node) dir name ≡ Some f
  added_child =
      let there = dir_node m dir is in
      ap (λ o. child_of o name) (get_added_dir m dir name f node there.0 there.1 free) ∙ bind_here there.0 name f

  -- the new node binds what it did
  pub added_binds : (n : Name) → child (added m dir name f node) f n ≡ map.get (bindings node.kind) n
  added_binds n =
      let there = dir_node m dir is in
      ap (λ o. child_of o n) (get_added_new m dir name f node there.0 there.1 free)

  -- nothing else is left of it
  pub detached_added : detached (added m dir name f node) dir name f ≡ m
  detached_added =
      let there = dir_node m dir is in
      let more = added m dir name f node in
      let at_dir = get_added_dir m dir name f node there.0 there.1 free in
      let name_free' : map.get (bindings there.0.kind) name ≡ None = ap (λ o. child_of o name) (sym there.1) ∙ name_free in
      map.same_map fids_total exact_fids _ _ (λ q. elim (fid_cases q f) [
        | inl same ↦ ap (map.get (detached more dir name f)) same ∙ get_detached_old more dir name f (bind_in there.0 name f) at_dir ∙ sym (ap (map.get m) same ∙ free)
        | inr other ↦ elim (fid_cases q dir) [
          | inl at ↦
              ap (map.get (detached more dir name f)) at ∙ get_detached_dir more dir name f (bind_in there.0 name f) at_dir (dir_not_free m dir f is free)
              ∙ ap Some (bind_undone there.0 name f there.2 name_free') ∙ sym (ap (map.get m) at ∙ there.1)
          | inr away ↦ get_detached_else more dir name f (bind_in there.0 name f) at_dir q other away ∙ get_added_else m dir name f node there.0 there.1 free q other away
        ]
      ])
