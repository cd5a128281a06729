-- Whatever happens to the replicas of a volume, they stay trees of one kind.
use Rattle.std.proofs.Common.{◌≡◌, ◌≢◌, ℕ, Bool, true, List, [], Some, None, is_some, refl, sym, ap, ◌∙◌, subst, inl}
use Rattle.std.proofs.Common.{inr}
use Rattle.std.specs.FinMap as finmap
use Rattle.std.proofs.lemmas.Bool.{true≢false}
use Rattle.coda_fid.specs.Fid.{same_fid}
use Rattle.coda_fid.specs.Name.{name_cmp}
use Rattle.coda_fid.specs.declared.fid.Fid.{Fid}
use Rattle.coda_fid.proofs.Fids.{fids_total, exact_fids, same_fid_refl}
use Rattle.coda_tree.specs.Bindings.{Name}
use Rattle.coda_tree.specs.Tree.{itself}
use Rattle.coda_tree.proofs.Order.{fid_cases, get_here, get_else}
use Rattle.coda_reslog.specs.declared.change.Held.{Held}
use Rattle.coda_resolve.specs.Copies.{bindings_of}
use Rattle.coda_resolve.specs.Settled.{HasKind}
use Rattle.coda_resolve.specs.Resolution.{Objects, IsTreeView, has_in, child_in}
use Rattle.coda_resolve.specs.Placement.{AreTreesOfOneKind}
use Rattle.coda_resolve.proofs.Lists.{some_none}
use Rattle.coda_lineage.specs.Lineage.{Group, held_at, new_root, AreAmong, IsReached, new_volume, decided, resolved}
use Rattle.coda_lineage.specs.Lineage.{repaired}
use Rattle.coda_lineage.proofs.Booleans.{the_some}
use Rattle.coda_lineage.proofs.Edits.{fid_same}
use Rattle.coda_lineage.proofs.Staying.{IsSoundAt, AreSound, trees_of_one_kind, decided_sound, resolved_sound}
use Rattle.coda_lineage.proofs.Staying.{repaired_sound}

-- ---- a new volume

module _ (root : Fid) where
  abbrev only : Objects
  only = finmap.insert finmap.empty root new_root

  at_root : (f : Fid) → f ≡ root → finmap.get only f ≡ Some new_root
  at_root f e = ap (finmap.get only) e ∙ get_here fids_total finmap.empty root new_root

  away : (f : Fid) → f ≢ root → finmap.get only f ≡ None
  away f e = get_else fids_total exact_fids finmap.empty root new_root f e ∙ finmap.get-empty _ f

  holds : (f : Fid) (held : Held) → finmap.get only f ≡ Some held → (f ≡ root) × (held ≡ new_root)
  holds f held e = elim (fid_cases f root) [
    | inl same ↦ (same, the_some held new_root (sym e ∙ at_root f same))
    | inr apart ↦ absurd (some_none held (sym e ∙ away f apart))
  ]

  has_root : (f : Fid) → has_in only f ≡ true → f ≡ root
  has_root f e = elim (fid_cases f root) [ inl same ↦ same | inr apart ↦ absurd (true≢false (sym e ∙ ap is_some (away f apart))) ]

  binds_none : (d : Fid) (n : Name) → child_in only d n ≡ None
  binds_none d n = elim (fid_cases d root) [
    | inl same ↦ ap (λ o. finmap.get (bindings_of o) n) (at_root d same) ∙ finmap.get-empty name_cmp n
    | inr apart ↦ ap (λ o. finmap.get (bindings_of o) n) (away d apart) ∙ finmap.get-empty name_cmp n
  ]

  new_tree : IsTreeView root only
  new_tree = record {
    rooted = ap is_some (at_root root refl);
    unbound = λ d n e. some_none root (sym e ∙ binds_none d n);
    from = λ d n f e. absurd (some_none f (sym e ∙ binds_none d n));
    there = λ d n f e. absurd (some_none f (sym e ∙ binds_none d n));
    once = λ d n e k f h i. absurd (some_none f (sym h ∙ binds_none d n));
    reached = λ f e. itself f (has_root f e);
  }

  pub new_sound : (made : Fid → Bool) → ((f : Fid) → made f ≡ same_fid f root) → IsSoundAt root (λ f. true) made only
  new_sound made is = record {
    tree = new_tree;
    kinds = λ f. elim (fid_cases f root) [ inl same ↦ subst (HasKind true) (sym (at_root f same)) refl | inr apart ↦ subst (HasKind true) (sym (away f apart)) tt ];
    was_made = λ f e. is f ∙ fid_same f root (has_root f e);
  }

-- ---- all that may happen

sound : (root : Fid) (servers : List ℕ) (group : Group) → IsReached root servers group → AreSound root servers group
sound root servers g (new_volume group new) = record {
  kind = λ f. true;
  top = refl;
  root_made = new.made root ∙ same_fid_refl root;
  each = λ s i. subst (IsSoundAt root (λ f. true) group.made) (sym (new.roots s)) (new_sound root group.made new.made);
}
sound root servers g (decided before after server client rec way i step) =
    decided_sound root servers before (sound root servers before way) server client rec i after step
sound root servers g (resolved before after some way among step) =
    resolved_sound root servers before (sound root servers before way) some among after step
sound root servers g (repaired before after some source names way among i step) =
    repaired_sound root servers before (sound root servers before way) some among source i names after step

pub stay_trees_of_one_kind : (root : Fid) (servers : List ℕ) (group : Group) (some : List ℕ)
    → IsReached root servers group → AreAmong some servers → some ≢ [] → AreTreesOfOneKind (held_at group some) root
stay_trees_of_one_kind root servers group some way among ne =
    trees_of_one_kind root servers group (sound root servers group way) some among ne
