-- How the parents that a volume keeps follow a move.
use Rattle.std.proofs.Common.{◌≡◌, ◌≢◌, true, cond, Option, Some, None, is_some, refl, sym, ap, ◌∙◌, subst, inl, inr}
use Rattle.std.proofs.lemmas.Option.{none-some, same_Some}
use Rattle.coda_fid.specs.Fid.{same_fid}
use Rattle.coda_fid.specs.declared.fid.Fid.{Fid}
use Rattle.coda_tree.specs.Bindings.{Name}
use Rattle.coda_tree.specs.Tree.{IsBelow}
use Rattle.coda_tree.specs.Volume.{Nodes, child, has, IsDirAt, bind_in, unbind_in, bound, unbound, detached, moved, replaced}
use Rattle.coda_tree.specs.Keeping.{IsKept}
use Rattle.coda_tree.proofs.Order.{fid_cases}
use Rattle.coda_tree.proofs.Trees.{IsMove, IsRemoval, below_leaf, kept_edge, left_edge, moved_edge, old_edge, tree_moved}
use Rattle.coda_tree.proofs.Changes.{dir_node, dir_changed, binder_is_dir, binder_differs, bound_there, bound_else, dir_left, has_changed, removal, unbound_else, unbound_here}
use Rattle.coda_tree.proofs.Moved.{moved_apart, replaced_detached}
use Rattle.coda_tree.proofs.KeptParents.{kept_detached}
use Rattle.coda_tree.proofs.Keyed.{changed_here, changed_else}

module _ {root : Fid} (m : Nodes) (old new : Fid → Option Fid) (from : Fid) (name : Name) (to : Fid) (at : Name) (f : Fid) (here : new f ≡ Some to) (other : (q : Fid) → q ≢ f → new q ≡ old q)
    (k : IsKept root m old) (was : child m from name ≡ Some f) (to_dir : IsDirAt m to) (free : child m to at ≡ None) (apart : IsBelow (child m) f to → ⊥) where
  places : ((from ≡ to) × (name ≡ at)) → ⊥
  places both = none-some f (sym free ∙ sym (λ i. child m (both.0 i) (both.1 i)) ∙ was)

  -- the nodes with the binding made first
  abbrev left : Nodes
  left = unbound (bound m to at f) from name

  as_many : (q : Fid) → has left q ≡ has m q
  as_many q = has_changed (bound m to at f) from (λ node. unbind_in node name) q ∙ has_changed m to (λ node. bind_in node at f) q

  dirs : (q : Fid) → IsDirAt m q → IsDirAt left q
  dirs q is = dir_changed (bound m to at f) from (λ node. unbind_in node name) (λ _ _. tt) q (dir_changed m to (λ node. bind_in node at f) (λ _ _. tt) q is)

  facts : IsMove (child m) (child left) from name to at f
  facts = record {
    was = was;
    free = free;
    here = unbound_else (bound m to at f) from name to at (λ both. places (sym both.0, sym both.1)) ∙ bound_there m to at f to_dir;
    left = unbound_here (bound m to at f) from name;
    elsewhere = λ d n not_from not_to. unbound_else (bound m to at f) from name d n not_from ∙ bound_else m to at f d n not_to;
    not_below = apart;
  }

  to_there : has m to ≡ true
  to_there = let there = dir_node m to to_dir in ap is_some there.1

  kept_left : IsKept root left new
  kept_left = record {
    volume = record { tree = tree_moved k.volume.tree as_many to_there facts; top = dirs root k.volume.top };
    kept = record {
      parent = λ q p is. elim (fid_cases q f) [
        | inl same ↦
            let p_is : to ≡ p = same_Some to p (sym here ∙ ap new (sym same) ∙ is) in
            (at, ap (λ e. child left e at) (sym p_is) ∙ facts.here ∙ ap Some (sym same))
        | inr differs ↦
            let bound = k.kept.parent q p (sym (other q differs) ∙ is) in
            (bound.0, elim (old_edge k.volume.tree as_many to_there facts p bound.0 q bound.1) [ inl stays ↦ stays | inr same ↦ absurd (differs same) ])
      ];
      binds = λ p n q is. elim (moved_edge k.volume.tree as_many to_there facts p n q is) [
        | inl at ↦ ap new at.2 ∙ here ∙ ap Some (sym at.0)
        | inr stays ↦ other q stays.1 ∙ k.kept.binds p n q stays.0
      ];
    };
  }

  -- a move to a free name that is not below what is moved
  pub kept_moved : IsKept root (moved m from name to at f) new
  kept_moved = subst (λ (n : Nodes). IsKept root n new) (sym (moved_apart m from name to at f places)) kept_left

module _ {root : Fid} (m : Nodes) (old new : Fid → Option Fid) (gone from : Fid) (name : Name) (to : Fid) (at : Name) (f : Fid) (here : new f ≡ Some to) (out : new gone ≡ None) (others : (q : Fid) → q ≢ f → q ≢ gone → new q ≡ old q)
    (k : IsKept root m old) (was : child m from name ≡ Some f) (had : child m to at ≡ Some gone) (differ : gone ≢ f) (leaf : (n : Name) → child m f n ≡ None) (old_leaf : (n : Name) → child m gone n ≡ None) where
  -- the parents without that of what is taken out
  abbrev less : Fid → Option Fid
  less q = cond (same_fid gone q) None (old q)

  less_here : less gone ≡ None
  less_here = changed_here gone None (old gone)

  less_else : (q : Fid) → q ≢ gone → less q ≡ old q
  less_else q apart = changed_else gone q None (old q) apart

  there : IsDirAt m to
  there = binder_is_dir m to at gone had

  removed : IsRemoval (has m) (has (detached m to at gone)) (child m) (child (detached m to at gone)) to at gone
  removed = let node = dir_node m to there in removal m to at gone node.0 node.1 had old_leaf

  still_dir : IsDirAt (detached m to at gone) to
  still_dir =
      let node = dir_node m to there in
      let apart = binder_differs m to at gone node.0 node.1 had old_leaf in
      dir_left m to at gone node.0 node.1 apart to apart there

  still_leaf : (n : Name) → child (detached m to at gone) f n ≡ None
  still_leaf n = elim (child (detached m to at gone) f n) as (λ o. child (detached m to at gone) f n ≡ o → o ≡ None) [
    | None ↦ λ _. refl
    | Some x ↦ λ is. absurd (none-some x (sym (leaf n) ∙ (left_edge k.volume.tree removed f n x is).0))
  ] refl

  -- a move of what binds nothing to the name of what binds nothing
  pub kept_replaced : IsKept root (replaced m gone from name to at f) new
  kept_replaced =
      subst (λ (n : Nodes). IsKept root n new) (replaced_detached m gone from name to at f)
      (kept_moved (detached m to at gone) less new from name to at f here
      (λ q apart. elim (fid_cases q gone) [
        | inl same ↦ ap new same ∙ out ∙ sym (ap less same ∙ less_here)
        | inr stays ↦ others q apart stays ∙ sym (less_else q stays)
      ]) (kept_detached m old less to at gone less_here less_else k had old_leaf)
      (kept_edge k.volume.tree removed from name f (λ same. differ (sym same)) was) still_dir removed.here
      (λ below. none-some gone (sym (leaf at) ∙ ap (λ e. child m e at) (sym (below_leaf still_leaf to below)) ∙ had)))
