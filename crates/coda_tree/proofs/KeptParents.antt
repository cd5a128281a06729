-- How the parents that a volume keeps follow its nodes.
use Rattle.std.proofs.Common.{◌≡◌, ◌≢◌, ℕ, true, false, List, Option, Some, None, option_map, is_some, refl, sym, ap, ◌∙◌, subst, inl, inr}
use Rattle.std.specs.FinMap as map
use Rattle.std.proofs.lemmas.Option.{none-some, same_Some}
use Rattle.coda_fid.specs.Fid.{fid_cmp}
use Rattle.coda_fid.specs.declared.fid.Fid.{Fid}
use Rattle.coda_fid.specs.declared.fid.Sid.{Sid}
use Rattle.coda_fid.proofs.Fids.{fids_total, exact_fids}
use Rattle.coda_tree.specs.declared.node.Node.{Node}
use Rattle.coda_tree.specs.declared.node.NodeKind.{NodeKind}
use Rattle.coda_tree.specs.declared.node.NodeKind.TheVariants.{File, Link, Dir}
use Rattle.coda_tree.specs.Bindings.{Name, Bindings}
use Rattle.coda_tree.specs.Tree.{itself}
use Rattle.coda_tree.specs.Volume.{Nodes, child, child_of, has, IsDirAt, IsDirNode, IsDir, IsLeaf, BindsAsMuch, Patch, bindings, with_content, written, changed, added, detached, parent_of}
use Rattle.coda_tree.specs.Keeping.{AreParents, IsKept}
use Rattle.coda_tree.proofs.Order.{fid_cases, get_here, get_else}
use Rattle.coda_tree.proofs.Changes.{dir_node, at_changed, off_changed, has_changed, binder_is_dir, addition, volume_added, removal, volume_detached}
use Rattle.coda_tree.proofs.Trees.{added_edge, more, not_new, left_edge, kept_edge, tree_same}
use Rattle.coda_tree.proofs.Parents.{parent_is, parent_sound}

-- the kept parent is the directory that binds the fid
pub kept_is_parent : {root : Fid} (m : Nodes) (parents : Fid → Option Fid) → IsKept root m parents → (f : Fid) → parents f ≡ parent_of m f
kept_is_parent m parents k f =
    elim (parents f) as (λ o. parents f ≡ o → o ≡ parent_of m f) [
      | Some p ↦ λ e. let bound = k.kept.parent f p e in sym (parent_is m k.volume p bound.0 f bound.1)
      | None ↦ λ e. elim (parent_of m f) as (λ o. parent_of m f ≡ o → None ≡ o) [
        | None ↦ λ _. refl
        | Some p ↦ λ is. let bound = parent_sound m f p is in absurd (none-some p (sym e ∙ k.kept.binds p bound.0 f bound.1))
      ] refl
    ] refl

-- nothing is kept beside a free fid
pub no_parent : {root : Fid} (m : Nodes) (parents : Fid → Option Fid) → IsKept root m parents → (f : Fid) → map.get m f ≡ None → parents f ≡ None
no_parent m parents k f free =
    elim (parents f) as (λ o. parents f ≡ o → o ≡ None) [
      | None ↦ λ _. refl
      | Some p ↦ λ e.
          let bound = k.kept.parent f p e in
          let there : is_some (map.get m f) ≡ true = k.volume.tree.there p bound.0 f bound.1 in
          let free' : is_some (map.get m f) ≡ false = ap is_some free in
          cc
    ] refl

-- parents that are the same at each fid serve as well
pub parents_same : (m : Nodes) (old new : Fid → Option Fid) → ((q : Fid) → new q ≡ old q) → AreParents m old → AreParents m new
parents_same m old new same k = record {
  parent = λ f p is. k.parent f p (sym (same f) ∙ is);
  binds = λ p n f is. same f ∙ k.binds p n f is;
}

-- ---- a node added

module _ {root : Fid} (m : Nodes) (old new : Fid → Option Fid) (dir : Fid) (name : Name) (f : Fid) (node : Node) (here : new f ≡ Some dir) (other : (q : Fid) → q ≢ f → new q ≡ old q) where
  pub kept_added : IsKept root m old → IsDirAt m dir → child m dir name ≡ None → map.get m f ≡ None → IsLeaf node → IsKept root (added m dir name f node) new
  kept_added k dir_there name_free free leaf =
      let there = dir_node m dir dir_there in
      let facts = addition m dir name f node there.0 there.1 free name_free leaf in
      record {
        volume = volume_added m dir name f node there.0 there.1 free k.volume name_free leaf;
        kept = record {
          parent = λ q p is. elim (fid_cases q f) [
            | inl same ↦
                let p_is : dir ≡ p = same_Some dir p (sym here ∙ ap new (sym same) ∙ is) in
                (name, ap (λ e. child (added m dir name f node) e name) (sym p_is) ∙ facts.here ∙ ap Some (sym same))
            | inr differs ↦
                let was = k.kept.parent q p (sym (other q differs) ∙ is) in
                (was.0, more k.volume.tree facts p was.0 q was.1)
          ];
          binds = λ p n q is. elim (added_edge k.volume.tree facts p n q is) [
            | inl at ↦ ap new at.2 ∙ here ∙ ap Some (sym at.0)
            | inr was ↦ other q (not_new k.volume.tree facts q (k.volume.tree.there p n q was)) ∙ k.kept.binds p n q was
          ];
        };
      }

-- nodes with the same parents
pub kept_same : {root : Fid} (m n : Nodes) (old new : Fid → Option Fid) → n ≡ m → ((q : Fid) → new q ≡ old q) → IsKept root m old → IsKept root n new
kept_same {root} m n old new is same k = subst (λ (x : Nodes). IsKept root x new) (sym is) (record { volume = k.volume; kept = parents_same m old new same k.kept })

-- ---- a node taken out

module _ {root : Fid} (m : Nodes) (old new : Fid → Option Fid) (dir : Fid) (name : Name) (f : Fid) (here : new f ≡ None) (other : (q : Fid) → q ≢ f → new q ≡ old q) where
  pub kept_detached : IsKept root m old → child m dir name ≡ Some f → ((n : Name) → child m f n ≡ None) → IsKept root (detached m dir name f) new
  kept_detached k was leaf =
      let there = dir_node m dir (binder_is_dir m dir name f was) in
      let facts = removal m dir name f there.0 there.1 was leaf in
      record {
        volume = volume_detached m dir name f there.0 there.1 k.volume was leaf;
        kept = record {
          parent = λ q p is. elim (fid_cases q f) [
            | inl same ↦ absurd (none-some p (sym here ∙ ap new (sym same) ∙ is))
            | inr differs ↦
                let bound = k.kept.parent q p (sym (other q differs) ∙ is) in
                (bound.0, kept_edge k.volume.tree facts p bound.0 q differs bound.1)
          ];
          binds = λ p n q is.
              let left = left_edge k.volume.tree facts p n q is in
              other q left.1 ∙ k.kept.binds p n q left.0;
        };
      }

-- ---- a root alone

pub kept_root : (root : Fid) (node : Node) (parents : Fid → Option Fid) → ((q : Fid) → parents q ≡ None) → IsDir node.kind → IsLeaf node → IsKept root (map.insert map.empty root node) parents
kept_root root node parents none dir leaf =
    let m : Nodes = map.insert map.empty root node in
    let here : map.get m root ≡ Some node = get_here fids_total map.empty root node in
    let else : (q : Fid) → q ≢ root → map.get m q ≡ None = λ q other. get_else fids_total exact_fids map.empty root node q other ∙ map.get-empty fid_cmp q in
    let no_child : (d : Fid) (n : Name) → child m d n ≡ None = λ d n. elim (fid_cases d root) [
      | inl same ↦ ap (λ e. child m e n) same ∙ ap (λ o. child_of o n) here ∙ leaf n
      | inr other ↦ ap (λ o. child_of o n) (else d other)
    ] in
    let never : (d : Fid) (n : Name) (f : Fid) → child m d n ≡ Some f → ⊥ = λ d n f is. none-some f (sym (no_child d n) ∙ is) in
    record {
      volume = record {
        tree = record {
          rooted = ap is_some here;
          unbound = λ d n is. never d n root is;
          from = λ d n f is. absurd (never d n f is);
          there = λ d n f is. absurd (never d n f is);
          once = λ d n e k f is _. absurd (never d n f is);
          reached = λ f is. elim (fid_cases f root) [
            | inl same ↦ itself f same
            | inr other ↦ let gone : has m f ≡ false = ap is_some (else f other) in cc
          ];
        };
        top = subst IsDirNode (sym here) dir;
      };
      kept = record {
        parent = λ f p is. absurd (none-some p (sym (none f) ∙ is));
        binds = λ p n f is. absurd (never p n f is);
      };
    }

-- ---- a node changed

-- nodes that bind the same, with directories where they were, are those of a volume with the same parents
module _ {root : Fid} (m n : Nodes) (parents : Fid → Option Fid) (there : (q : Fid) → has n q ≡ has m q) (same : (d : Fid) (k : Name) → child n d k ≡ child m d k) (dirs : (q : Fid) → IsDirAt m q → IsDirAt n q) where
  kept_alike : IsKept root m parents → IsKept root n parents
  kept_alike k = record {
    volume = record { tree = tree_same there same k.volume.tree; top = dirs root k.volume.top };
    kept = record {
      parent = λ f p is. let bound = k.kept.parent f p is in (bound.0, same p bound.0 ∙ bound.1);
      binds = λ p name f is. k.kept.binds p name f (sym (same p name) ∙ is);
    };
  }

binds_as_much : (a : Node → Node) (o : Option Node) → ((node : Node) → o ≡ Some node → BindsAsMuch node (a node)) → (name : Name) → child_of (option_map a o) name ≡ child_of o name
binds_as_much a None much name = refl
binds_as_much a (Some node) much name = ap (λ (b : Bindings). map.get b name) (sym (much node refl).same)

dir_as_much : (a : Node → Node) (o : Option Node) → ((node : Node) → o ≡ Some node → BindsAsMuch node (a node)) → IsDirNode o → IsDirNode (option_map a o)
dir_as_much a None much is = is
dir_as_much a (Some node) much is = (much node refl).dir is

-- a node may change where it binds the same, and stays a directory where it is one
pub kept_changed : {root : Fid} (m : Nodes) (parents : Fid → Option Fid) (d : Fid) (change : Node → Node) → ((node : Node) → map.get m d ≡ Some node → BindsAsMuch node (change node)) → IsKept root m parents → IsKept root (changed m d change) parents
kept_changed m parents d change much = kept_alike m (changed m d change) parents
    (has_changed m d change)
    (λ q name. elim (fid_cases q d) [
      | inl at ↦ ap (λ e. child (changed m d change) e name) at ∙ ap (λ o. child_of o name) (at_changed m d change) ∙ binds_as_much change (map.get m d) much name ∙ ap (λ e. child m e name) (sym at)
      | inr off ↦ ap (λ o. child_of o name) (off_changed m d change q off)
    ])
    (λ q is. elim (fid_cases q d) [
      | inl at ↦ subst IsDirNode (sym (ap (map.get (changed m d change)) at ∙ at_changed m d change)) (dir_as_much change (map.get m d) much (subst (λ e. IsDirAt m e) at is))
      | inr off ↦ subst IsDirNode (sym (off_changed m d change q off)) is
    ])

-- a write leaves what a node binds
kind_written : (content : Option (List ℕ)) (kind : NodeKind) → bindings kind ≡ bindings (with_content content kind)
kind_written None kind = refl
kind_written (Some new) (File content) = refl
kind_written (Some new) (Link target) = refl
kind_written (Some new) (Dir entries) = refl

dir_written : (content : Option (List ℕ)) (kind : NodeKind) → IsDir kind → IsDir (with_content content kind)
dir_written None kind is = is
dir_written (Some new) (File content) is = is
dir_written (Some new) (Link target) is = is
dir_written (Some new) (Dir entries) is = is

pub kept_written : {root : Fid} (m : Nodes) (parents : Fid → Option Fid) (d : Fid) (patch : Patch) (sid : Sid) → IsKept root m parents → IsKept root (changed m d (written patch sid)) parents
kept_written m parents d patch sid = kept_changed m parents d (written patch sid) (λ node _. record {
  same = kind_written patch.content node.kind;
  dir = dir_written patch.content node.kind;
})
