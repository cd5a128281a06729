-- The replicas of a group are volumes, any of them trees of one kind, and a resolution keeps them one group.
use Rattle.std.proofs.Common.{◌≡◌, ◌≢◌, ℕ, true, List, [], ◌∷◌, ◌++◌, Option, Some, None, is_some, map, refl, sym, ap}
use Rattle.std.proofs.Common.{◌∙◌, subst, inl, inr, ◌⊎◌}
use Rattle.std.specs.FinMap as finmap
use Rattle.std.proofs.lemmas.Bool.{false≢true}
use Rattle.coda_fid.specs.Fid.{root_of}
use Rattle.coda_fid.specs.declared.fid.Fid.{Fid}
use Rattle.coda_tree.specs.declared.node.NodeKind.{NodeKind}
use Rattle.coda_tree.specs.declared.node.NodeKind.TheVariants.{File, Link, Dir}
use Rattle.coda_tree.specs.Bindings.{Name}
use Rattle.coda_tree.specs.Tree.{IsTree}
use Rattle.coda_tree.specs.Volume.{IsVolume, IsDir, IsDirNode, has, child, child_of}
use Rattle.coda_reslog.specs.declared.change.Held.{Held}
use Rattle.coda_resolve.specs.Copies.{bindings_of}
use Rattle.coda_resolve.specs.Settled.{is_dir, HasKind}
use Rattle.coda_resolve.specs.Resolution.{IsTreeView, has_in, child_in}
use Rattle.coda_resolve.specs.Placement.{IsIn, AreTreesOfOneKind}
use Rattle.coda_resolve.specs.Trees.{IsInstalled}
use Rattle.coda_resolve.specs.Changes.{node_of}
use Rattle.coda_lineage.specs.Lineage.{Group, IsResolved, AreAmong}
use Rattle.coda_lineage.proofs.Staying.{trees_of_one_kind}
use Rattle.coda_plain.specs.Histories.{In}
use Rattle.coda_plain.specs.Objects.{Objects, nodes_in}
use Rattle.coda_plain.specs.Decisions.{Resolved, Last, Decision, decision_at, decisions_of}
use Rattle.coda_plain.specs.Cell.{Histories}
use Rattle.coda_plain.specs.Promises.{Decides}
use Rattle.coda_plain.proofs.Lists.{told_more}
use Rattle.coda_group.specs.Holdings.{replica_objects}
use Rattle.coda_group.specs.Groups.{holdings, IsOneGroup}
use Rattle.coda_plain.proofs.Objects.{get_nodes}
use Rattle.coda_group.proofs.Mapping.{objects_push}
use Rattle.coda_group.proofs.OneGroup.{IsStanding, resolved_stands, made_in, group_of, stands, known, one_group}
use Rattle.coda_group.proofs.Deciding.{created_stays}

-- ---- views as volumes

has_node : (o : Option Held) → is_some (node_of o) ≡ is_some o
has_node None = refl
has_node (Some held) = refl

binds_node : (o : Option Held) (n : Name) → child_of (node_of o) n ≡ finmap.get (bindings_of o) n
binds_node None n = sym (finmap.get-empty _ n)
binds_node (Some held) n = refl

pub has_same : (objects : Objects) (f : Fid) → has (nodes_in objects) f ≡ has_in objects f
has_same objects f = ap is_some (get_nodes objects f) ∙ has_node (finmap.get objects f)

child_same : (objects : Objects) (d : Fid) (n : Name) → child (nodes_in objects) d n ≡ child_in objects d n
child_same objects d n = ap (λ o. child_of o n) (get_nodes objects d) ∙ binds_node (finmap.get objects d) n

dir_kind : (kind : NodeKind) → is_dir kind ≡ true → IsDir kind
dir_kind (File content) e = absurd (false≢true e)
dir_kind (Link target) e = absurd (false≢true e)
dir_kind (Dir entries) e = tt

dir_node : (o : Option Held) → is_some o ≡ true → HasKind true o → IsDirNode (node_of o)
dir_node None e k = absurd (false≢true e)
dir_node (Some held) e k = dir_kind held.node.kind k

pub volume_of_view : (root : Fid) (objects : Objects) → IsTreeView root objects
    → HasKind true (finmap.get objects root) → IsVolume root (nodes_in objects)
volume_of_view root objects tree kind =
    let hs : has_in objects ≡ has (nodes_in objects) = λ i. λ f. sym (has_same objects f) i in
    let cs : child_in objects ≡ child (nodes_in objects) = λ i. λ d n. sym (child_same objects d n) i in
    record {
      tree =
          subst (λ c. IsTree root (has (nodes_in objects)) c) cs
          (subst (λ h. IsTree root h (child_in objects)) hs tree);
      top = subst IsDirNode (sym (get_nodes objects root)) (dir_node (finmap.get objects root) tree.rooted kind);
    }

-- ---- a group

pub standing_volume : (servers : List ℕ) (volume : ℕ) (group : Group) → IsStanding (root_of volume) servers group
    → (s : ℕ) → IsIn s servers → IsVolume (root_of volume) (nodes_in (group.holds s))
standing_volume servers volume group st s i =
    let at = st.sound.each s i in
    volume_of_view (root_of volume) (group.holds s) at.tree
    (subst (λ b. HasKind b (finmap.get (group.holds s) (root_of volume))) st.sound.top (at.kinds (root_of volume)))

pub group_volume : (servers : List ℕ) (h : Histories) (volume : ℕ) → IsOneGroup h servers volume → (s : ℕ)
    → IsIn s servers → IsVolume (root_of volume) (nodes_in (holdings h volume s))
group_volume servers h volume g s i =
    standing_volume servers volume (group_of h servers volume) (stands h servers volume g) s i

-- any of the replicas are trees of one kind
pub group_trees : (servers : List ℕ) (h : Histories) (volume : ℕ) → IsOneGroup h servers volume → (some : List ℕ)
    → AreAmong some servers → some ≢ [] → AreTreesOfOneKind (map (holdings h volume) some) (root_of volume)
group_trees servers h volume g some among ne =
    trees_of_one_kind (root_of volume) servers (group_of h servers volume) (stands h servers volume g).sound some
    among ne

-- ---- a resolution

-- what a resolution left is what the replica took over next
pub record IsLeftAt (h h' : Histories) (volume : ℕ) (some : List ℕ) (s : ℕ) : Type 0 where
  pub objects : Objects
  pub lasts : ℕ → Last
  pub among : IsIn s some
  pub grown : h'.replicas s volume ≡ h.replicas s volume ++ Resolved objects lasts ∷ []
  pub left : IsInstalled (map (holdings h volume) some) (root_of volume) (holdings h volume s) objects

module _ (servers : List ℕ) (h h' : Histories) (volume : ℕ) (some : List ℕ) (g : IsOneGroup h servers volume) (among : AreAmong some servers)
    (each : (s : ℕ) → (h'.replicas s volume ≡ h.replicas s volume) ⊎ IsLeftAt h h' volume some s) where
  decides_more : (s : ℕ) (d : Decision) → Decides h s volume d → Decides h' s volume d
  decides_more s d i = elim (each s) [
    | inl same ↦ subst (λ es. In d (decisions_of volume es)) (sym same) i
    | inr left ↦ subst (λ es. In d (decisions_of volume es)) (sym left.grown) (told_more (decision_at volume) (h.replicas s volume) (Resolved left.objects left.lasts) d i)
  ]

  holds_or : (s : ℕ) → (holdings h' volume s ≡ holdings h volume s) ⊎ (IsIn s some × IsInstalled (map (holdings h volume) some) (root_of volume) (holdings h volume s) (holdings h' volume s))
  holds_or s = elim (each s) [
    | inl same ↦ inl (ap (replica_objects s volume) same)
    | inr left ↦ inr (
      left.among,
      subst (IsInstalled (map (holdings h volume) some) (root_of volume) (holdings h volume s))
          (sym (ap (replica_objects s volume) left.grown ∙ objects_push s volume (h.replicas s volume)
          (Resolved left.objects left.lasts))) left.left,
    )
  ]

  -- the replicas are one group behind a resolution, installed at all of them or at some
  pub resolved_group : IsOneGroup h' servers volume
  resolved_group =
      let made = made_in h servers volume in
      let before : Group = group_of h servers volume in
      let after : Group = record { holds = holdings h' volume; made = made } in
      let step : IsResolved (root_of volume) some before after = record { each = holds_or; made = refl } in
      one_group h' servers volume made (resolved_stands (root_of volume) servers before (stands h servers volume g)
      some among after step)
      (λ f m. elim (known h servers volume g f m) [ inl root ↦ inl root | inr created ↦ inr (created_stays h h' volume f decides_more created) ])
