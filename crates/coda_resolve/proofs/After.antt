-- What the replicas hold after their changes.
use Rattle.std.proofs.Common.{◌≡◌, ◌≢◌, ℕ, Bool, true, false, cond, not, List, [], ◌∷◌, Option, Some, None, is_some, length, refl, sym, ap, ◌∙◌, subst, ◌⊎◌, inl, inr, ⊎_elim, map}
use Rattle.std.specs.FinMap as finmap
use Rattle.std.specs.FinMap.Entries.{is_sorted, find}
use Rattle.std.specs.List.{AllByRecursion, AllZip, filter, filter_map, list_any, cons_option}
use Rattle.std.proofs.lemmas.Bool.{true≢false}
use Rattle.std.proofs.lemmas.Cmp.{eq_by_cmp_equiv}
use Rattle.coda_fid.specs.Fid.{fid_cmp}
use Rattle.coda_fid.specs.declared.fid.Fid.{Fid}
use Rattle.coda_fid.proofs.Fids.{fids_total}
use Rattle.coda_tree.proofs.Booleans.{to_T}
use Rattle.coda_tree.specs.Tree.{IsBelow, itself, under}
use Rattle.coda_tree.specs.declared.node.NodeKind.{NodeKind}
use Rattle.coda_tree.specs.declared.node.NodeKind.TheVariants.{File, Link, Dir}
use Rattle.coda_reslog.specs.declared.change.Held.{Held}
use Rattle.coda_reslog.specs.declared.change.Change.{Change}
use Rattle.coda_resolve.specs.declared.why.Mark.{Mark}
use Rattle.coda_resolve.specs.Copies.{Copies, bindings_of, is_marked, first_some}
use Rattle.coda_resolve.specs.Merged.{attributes_of, first_of_copies}
use Rattle.coda_resolve.specs.Causes.{cause}
use Rattle.coda_resolve.specs.Settling.{Fate, Same, Marked, Gone, dominating, leaf_fate, dir_fate, fate_by, fate_from, fate, settled_copy, stand_in_by, is_new}
use Rattle.coda_resolve.specs.Settled.{is_dir, HasKind, IsEverywhere}
use Rattle.coda_resolve.specs.Resolution.{Objects, Replicas, copies_at, fate_at, settled_at, IsTakenUp, at_root, below, IsResolved, has_in, child_in, IsTreeView, AreTrees}
use Rattle.coda_resolve.specs.Placement.{IsIn, AreTreesOfOneKind}
use Rattle.coda_resolve.specs.Trees.{KeepsOwn, marked_there, further, IsInstalled}
use Rattle.coda_resolve.specs.Outcome.{mark_by, taken_up, levels_of}
use Rattle.coda_resolve.specs.Views.{objects_in}
use Rattle.coda_resolve.specs.Changes.{changed, IsReplicaChange, AreChanges, afterwards, node_of, nodes_at, IsOutcome}
use Rattle.coda_resolve.specs.Outcomes.{AreAsFated, IsNoChange, IsNoOutcome}
use Rattle.coda_resolve.proofs.Lists.{some_none}
use Rattle.coda_resolve.proofs.Settled.{marked_everywhere}
use Rattle.coda_resolve.proofs.Twice.{is_same, picked, own_dominating, lowest_kind, leaf_same, dir_same}
use Rattle.coda_resolve.proofs.Whole.{gone_absent, second_changes_nothing}
use Rattle.coda_resolve.proofs.There.{taken_up_is_there, tree_of}
use Rattle.coda_resolve.proofs.Trees.{tree_after}
use Rattle.coda_resolve.proofs.Walked.{walk_is_taken_up}
use Rattle.coda_resolve.proofs.Changed.{in_among, keys_has}

-- ---- copies

after_at : (all : Replicas) (root : Fid) (views : Replicas) (changes : List Change) → AllZip (IsReplicaChange all root) views changes → (f : Fid) → IsTakenUp all root f → copies_at (afterwards views changes) f ≡ map (settled_copy (fate_at all f) (first_some (copies_at all f))) (copies_at views f)
after_at all root [] [] a f up = refl
after_at all root [] (change ∷ changes) a f up = absurd a
after_at all root (view ∷ views) [] a f up = absurd a
after_at all root (view ∷ views) (change ∷ changes) a f up = λ i. a.0.installed.taken f up i ∷ after_at all root views changes a.1 f up i

pub resolved_after : (views : Replicas) (root : Fid) (changes : List Change) → AreChanges views root changes → IsResolved views root (afterwards views changes)
resolved_after views root changes a f up = after_at views root views changes a f up

same_each : (held : Held) (lowest : Option Held) (copies : Copies) → IsEverywhere held (map (settled_copy (Same held) lowest) copies)
same_each held lowest [] = tt
same_each held lowest (copy ∷ copies) = (refl, same_each held lowest copies)

fated : (result : Fate) (lowest : Option Held) (copies : Copies) → (result ≡ Gone → ⊥) → (lowest ≡ None → ⊥) → AreAsFated result (map (settled_copy result lowest) copies)
fated (Same held) lowest copies there low = same_each held lowest copies
fated (Marked why) None copies there low = absurd (low refl)
fated (Marked why) (Some held) copies there low = marked_everywhere why held copies
fated Gone lowest copies there low = absurd (there refl)

there : (views : Replicas) (root : Fid) → AreTreesOfOneKind views root → (f : Fid) → IsTakenUp views root f → fate_at views f ≡ Gone → ⊥
there views root history f up e = taken_up_is_there views root history.trees f up (gone_absent (copies_at views f) (copies_at views) (first_some (copies_at views f)) e)

pub as_fated : (views : Replicas) (root f : Fid) (changes : List Change) → AreTreesOfOneKind views root → AreChanges views root changes → IsTakenUp views root f → AreAsFated (fate_at views f) (copies_at (afterwards views changes) f)
as_fated views root f changes history a up = subst (AreAsFated (fate_at views f)) (sym (resolved_after views root changes a f up)) (fated (fate_at views f) (first_some (copies_at views f)) (copies_at views f) (there views root history f up) (taken_up_is_there views root history.trees f up))

-- ---- one kind

pick_kind : (b : Bool) (copies : Copies) (look : Fid → Copies) (held : Held) → AllByRecursion (HasKind b) copies → fate copies look ≡ Same held → HasKind b (Some held)
pick_kind b copies look held kinds e = by_lowest (first_some copies) refl e
  where
    leaf : leaf_fate (list_any is_marked copies) (first_of_copies (dominating copies) copies) ≡ Same held → HasKind b (Some held)
    leaf e = picked (HasKind b) (dominating copies) (own_dominating copies) copies held kinds (leaf_same copies held e).1

    dir : true ≡ b → dir_fate copies (cause copies look) (attributes_of copies) ≡ Same held → HasKind b (Some held)
    dir is e = let k = dir_same copies (cause copies look) (attributes_of copies) held e in subst (λ (h : Held). is_dir h.node.kind ≡ b) k.1.1.1 is

    by_kind : (k : NodeKind) → is_dir k ≡ b → fate_by copies look k ≡ Same held → HasKind b (Some held)
    by_kind (File content) is e = leaf e
    by_kind (Link target) is e = leaf e
    by_kind (Dir entries) is e = dir is e

    by_lowest : (lowest : Option Held) → first_some copies ≡ lowest → fate_from copies look lowest ≡ Same held → HasKind b (Some held)
    by_lowest None at e = absurd (true≢false (sym (ap is_same e)))
    by_lowest (Some low) at e = by_kind low.node.kind (lowest_kind b copies low kinds at) e

stand_in_kind : (b : Bool) (low : Held) (k : NodeKind) → low.node.kind ≡ k → is_dir low.node.kind ≡ b → HasKind b (Some (stand_in_by low k))
stand_in_kind b low (File content) at is = is
stand_in_kind b low (Link target) at is = is
stand_in_kind b low (Dir entries) at is = sym (ap is_dir at) ∙ is

pub settled_kind : (b : Bool) (copies : Copies) (look : Fid → Copies) (copy : Option Held) → AllByRecursion (HasKind b) copies → HasKind b copy → HasKind b (settled_copy (fate copies look) (first_some copies) copy)
settled_kind b copies look copy kinds own = by (fate copies look) refl (first_some copies) refl copy own
  where
    by : (result : Fate) → fate copies look ≡ result → (lowest : Option Held) → first_some copies ≡ lowest → (c : Option Held) → HasKind b c → HasKind b (settled_copy result lowest c)
    by (Same held) e lowest at c own = pick_kind b copies look held kinds e
    by (Marked why) e None at None own = tt
    by (Marked why) e (Some low) at None own = stand_in_kind b low low.node.kind refl (lowest_kind b copies low kinds at)
    by (Marked why) e lowest at (Some held) own = own
    by Gone e lowest at c own = own

-- what a replica is left with has the kind that it had at the replicas
pub kind_after : (all : Replicas) (root f : Fid) (b : Bool) (view after : Objects) → AllByRecursion (HasKind b) (copies_at all f) → HasKind b (finmap.get view f) → IsInstalled all root view after → HasKind b (finmap.get after f)
kind_after all root f b view after kinds own installed = by (finmap.get after f) refl
  where
    taken : IsTakenUp all root f → HasKind b (finmap.get after f)
    taken up = subst (HasKind b) (sym (installed.taken f up)) (settled_kind b (copies_at all f) (copies_at all) (finmap.get view f) kinds own)

    kept : (g : Fid) → g ≡ f → KeepsOwn all root view g → HasKind b (finmap.get after f)
    kept g e (marked_there d why up at) = taken (subst (IsTakenUp all root) e up)
    kept g e (further d n h keeps bound) = subst (λ x. HasKind b (finmap.get after x)) e (subst (HasKind b) (sym (installed.kept d n h keeps bound)) (subst (λ x. HasKind b (finmap.get view x)) (sym e) own))

    by : (o : Option Held) → finmap.get after f ≡ o → HasKind b o
    by None e = tt
    by (Some held) e = subst (HasKind b) e (⊎_elim taken (kept f refl) (installed.only f (ap is_some e)))

kinds_after : (all : Replicas) (root f : Fid) (b : Bool) → AllByRecursion (HasKind b) (copies_at all f) → (views : Replicas) (changes : List Change) → AllByRecursion (HasKind b) (copies_at views f) → AllZip (IsReplicaChange all root) views changes → AllByRecursion (HasKind b) (copies_at (afterwards views changes) f)
kinds_after all root f b kinds [] [] own a = tt
kinds_after all root f b kinds [] (change ∷ changes) own a = absurd a
kinds_after all root f b kinds (view ∷ views) [] own a = absurd a
kinds_after all root f b kinds (view ∷ views) (change ∷ changes) own a = (kind_after all root f b view (changed view change) kinds own.0 a.0.installed, kinds_after all root f b kinds views changes own.1 a.1)

-- ---- trees

trees_after : (all : Replicas) (root : Fid) → AreTreesOfOneKind all root → (views : Replicas) (changes : List Change) → ((v : Objects) → IsIn v views → IsIn v all) → AllZip (IsReplicaChange all root) views changes → AllByRecursion (IsTreeView root) (afterwards views changes)
trees_after all root history [] [] within a = tt
trees_after all root history [] (change ∷ changes) within a = absurd a
trees_after all root history (view ∷ views) [] within a = absurd a
trees_after all root history (view ∷ views) (change ∷ changes) within a = (tree_after all root view (changed view change) history (within view (inl refl)) a.0.installed, trees_after all root history views changes (λ v s. within v (inr s)) a.1)

are_trees : (views : Replicas) (root : Fid) (changes : List Change) → AreTreesOfOneKind views root → AreChanges views root changes → AreTrees root (afterwards views changes)
are_trees [] root changes history a = absurd history.trees
are_trees (view ∷ views) root [] history a = absurd a
are_trees (view ∷ views) root (change ∷ changes) history a = trees_after (view ∷ views) root history (view ∷ views) (change ∷ changes) (λ v s. s) a

-- ---- trees of one kind

pub each_copy : (P : Option Held → Type 0) (views : Replicas) (f : Fid) (v : Objects) → AllByRecursion P (copies_at views f) → IsIn v views → P (finmap.get v f)
each_copy P [] f v a s = absurd s
each_copy P (view ∷ views) f v a (inl is) = subst (λ x. P (finmap.get x f)) is a.0
each_copy P (view ∷ views) f v a (inr s) = each_copy P views f v a.1 s

pub all_copies : (P : Option Held → Type 0) (views : Replicas) (f : Fid) → ((v : Objects) → IsIn v views → P (finmap.get v f)) → AllByRecursion P (copies_at views f)
all_copies P [] f h = tt
all_copies P (view ∷ views) f h = (h view (inl refl), all_copies P views f (λ v s. h v (inr s)))

all_views : (P : Objects → Type 0) (views : Replicas) → ((v : Objects) → IsIn v views → P v) → AllByRecursion P views
all_views P [] h = tt
all_views P (view ∷ views) h = (h view (inl refl), all_views P views (λ v s. h v (inr s)))

pub all_trees : (root : Fid) (views : Replicas) → views ≢ [] → ((v : Objects) → IsIn v views → IsTreeView root v) → AreTrees root views
all_trees root [] ne h = absurd (ne refl)
all_trees root (view ∷ views) ne h = all_views (IsTreeView root) (view ∷ views) h

-- whichever replicas the changes are installed at
pub trees_of_one_kind_after : (views later : Replicas) (root : Fid) (changes : List Change) → AreTreesOfOneKind views root → AreChanges views root changes → later ≢ [] → ((view : Objects) → IsIn view later → IsIn view views ⊎ IsIn view (afterwards views changes)) → AreTreesOfOneKind later root
trees_of_one_kind_after views later root changes history a ne each = record {
  trees = all_trees root later ne (λ v s. ⊎_elim (tree_of root v views history.trees) (tree_of root v (afterwards views changes) (are_trees views root changes history a)) (each v s));
  top = kept root true history.top;
  kinds = λ f. let k = history.kinds f in (k.0, kept f k.0 k.1);
}
  where
    kept : (f : Fid) (b : Bool) → AllByRecursion (HasKind b) (copies_at views f) → AllByRecursion (HasKind b) (copies_at later f)
    kept f b k = all_copies (HasKind b) later f (λ v s. ⊎_elim (each_copy (HasKind b) views f v k) (each_copy (HasKind b) (afterwards views changes) f v (kinds_after views root f b k views changes k a)) (each v s))

-- ---- a second resolution

module _ (views : Replicas) (root : Fid) (changes : List Change) (history : AreTreesOfOneKind views root) (a : AreChanges views root changes) where
  abbrev now : Replicas
  now = afterwards views changes

  still : AreTreesOfOneKind now root
  still = trees_of_one_kind_after views now root changes history a (λ none. subst (AreTrees root) none (are_trees views root changes history a)) (λ v s. inr s)

  settles_now : (f : Fid) → IsTakenUp now root f → IsTakenUp views root f × ((settled_at now f ≡ copies_at now f) × (is_new (copies_at now f) (fate_at now f) ≡ false))
  settles_now f up = second_changes_nothing views now root history.kinds (resolved_after views root changes a) f up

  fixed : (g : Option Held → Option Held) (f : Fid) (some : Replicas) (v : Objects) → map g (copies_at some f) ≡ copies_at some f → IsIn v some → g (finmap.get v f) ≡ finmap.get v f
  fixed g f [] v e s = absurd s
  fixed g f (view ∷ some) v e (inl is) = subst (λ x. g (finmap.get x f) ≡ finmap.get x f) is (head e)
    where
      head : g (finmap.get view f) ∷ map g (copies_at some f) ≡ finmap.get view f ∷ copies_at some f → g (finmap.get view f) ≡ finmap.get view f
      head e = cc
  fixed g f (view ∷ some) v e (inr s) = fixed g f some v (tail e) s
    where
      tail : g (finmap.get view f) ∷ map g (copies_at some f) ≡ finmap.get view f ∷ copies_at some f → map g (copies_at some f) ≡ copies_at some f
      tail e = cc

  settled_now : (view : Objects) (f : Fid) → IsIn view now → IsTakenUp now root f → settled_copy (fate_at now f) (first_some (copies_at now f)) (finmap.get view f) ≡ finmap.get view f
  settled_now view f inview up = fixed (settled_copy (fate_at now f) (first_some (copies_at now f))) f now view (settles_now f up).1.0 inview

  -- each object of a replica is taken up, or kept below what is marked
  placed_now : (view : Objects) → IsIn view now → (f : Fid) → IsBelow (child_in view) root f → IsTakenUp now root f ⊎ KeepsOwn now root view f
  placed_now view inview g (itself f is) = inl (at_root f is)
  placed_now view inview g (under d n f bound up) = ⊎_elim from_taken (λ keeps. inr (further d n f keeps bound)) (placed_now view inview d up)
    where
      from_taken : IsTakenUp now root d → IsTakenUp now root f ⊎ KeepsOwn now root view f
      from_taken up = by (fate_at now d) refl (settled_now view d inview up)
        where
          by : (result : Fate) → fate_at now d ≡ result → settled_copy result (first_some (copies_at now d)) (finmap.get view d) ≡ finmap.get view d → IsTakenUp now root f ⊎ KeepsOwn now root view f
          by (Same held) is e = inl (below d n f held is (ap (λ c. finmap.get (bindings_of c) n) e ∙ bound) up)
          by (Marked why) is e = inr (further d n f (marked_there d why up is) bound)
          by Gone is e = absurd (there now root still d up is)

  -- so a replica stays as it is
  same_now : (view : Objects) (change : Change) → IsIn view now → IsInstalled now root view (changed view change) → (f : Fid) → finmap.get (changed view change) f ≡ finmap.get view f
  same_now view change inview installed f = by (finmap.get view f) refl (finmap.get (changed view change) f) refl
    where
      taken : IsTakenUp now root f → finmap.get (changed view change) f ≡ finmap.get view f
      taken up = installed.taken f up ∙ settled_now view f inview up

      kept : (g : Fid) → g ≡ f → KeepsOwn now root view g → finmap.get (changed view change) f ≡ finmap.get view f
      kept g e (marked_there d why up at) = taken (subst (IsTakenUp now root) e up)
      kept g e (further d n h keeps bound) = subst (λ x. finmap.get (changed view change) x ≡ finmap.get view x) e (installed.kept d n h keeps bound)

      by : (o : Option Held) → finmap.get view f ≡ o → (p : Option Held) → finmap.get (changed view change) f ≡ p → finmap.get (changed view change) f ≡ finmap.get view f
      by (Some held) e p is = ⊎_elim taken (kept f refl) (placed_now view inview f ((tree_of root view now still.trees inview).reached f (ap is_some e)))
      by None e (Some held) is = ⊎_elim taken (kept f refl) (installed.only f (ap is_some is))
      by None e None is = is ∙ sym e

  no_pairs : (es : List (Fid × Held)) → is_sorted fid_cmp es ≡ true → ((f : Fid) → finmap.get (objects_in es) f ≡ None) → es ≡ []
  no_pairs [] up h = refl
  no_pairs (e ∷ es) up h = absurd (some_none e.1 (sym (finmap.get-from_sorted fid_cmp (e ∷ es) e.0 (to_T _ up) ∙ ap (λ b. cond b (Some e.1) (find fid_cmp e.0 es)) ((eq_by_cmp_equiv fids_total).refl e.0)) ∙ h e.0))

  nothing_passes : (t : Fid → Bool) (fids : List Fid) → ((f : Fid) → IsIn f fids → t f ≡ false) → filter t fids ≡ []
  nothing_passes t [] h = refl
  nothing_passes t (f ∷ fids) h = ap (λ b. cond b (f ∷ filter t fids) (filter t fids)) (h f (inl refl)) ∙ nothing_passes t fids (λ g s. h g (inr s))

  key_has : (view : Objects) (f : Fid) → IsIn f (finmap.keys view) → has_in view f ≡ true
  key_has view f s = sym (keys_has view f) ∙ in_among (finmap.keys view) f s

  no_change : (view : Objects) (change : Change) → IsIn view now → IsReplicaChange now root view change → IsNoChange change
  no_change view change inview is = record {
    nothing_held = no_pairs change.held is.exact.in_order (λ f. none f (finmap.get (objects_in change.held) f) refl);
    nothing_gone = is.exact.goes ∙ nothing_passes (λ f. not (has_in (changed view change) f)) (finmap.keys view) (λ f s. ap not (ap is_some (same_now view change inview is.installed f) ∙ key_has view f s));
  }
    where
      none : (f : Fid) (o : Option Held) → finmap.get (objects_in change.held) f ≡ o → finmap.get (objects_in change.held) f ≡ None
      none f None e = e
      none f (Some held) e = let k = (is.exact.differs f held).0 e in absurd (k.1 (sym (same_now view change inview is.installed f) ∙ k.0))

  no_changes : (some : Replicas) (again : List Change) → ((v : Objects) → IsIn v some → IsIn v now) → AllZip (IsReplicaChange now root) some again → AllByRecursion IsNoChange again
  no_changes [] [] within all = tt
  no_changes [] (change ∷ again) within all = absurd all
  no_changes (view ∷ some) [] within all = absurd all
  no_changes (view ∷ some) (change ∷ again) within all = (no_change view change (within view (inl refl)) all.0, no_changes some again (λ v s. within v (inr s)) all.1)

  copies_stay : (some : Replicas) (again : List Change) → ((v : Objects) → IsIn v some → IsIn v now) → AllZip (IsReplicaChange now root) some again → (f : Fid) → nodes_at (afterwards some again) f ≡ nodes_at some f
  copies_stay [] [] within all f = refl
  copies_stay [] (change ∷ again) within all f = absurd all
  copies_stay (view ∷ some) [] within all f = absurd all
  copies_stay (view ∷ some) (change ∷ again) within all f = λ i. node_of (same_now view change (within view (inl refl)) all.0.installed f i) ∷ copies_stay some again (λ v s. within v (inr s)) all.1 f i

  no_marks : (fids : List Fid) → ((f : Fid) → IsIn f fids → IsTakenUp now root f) → filter_map (λ f. mark_by (copies_at now f) f (fate_at now f)) fids ≡ []
  no_marks [] h = refl
  no_marks (f ∷ fids) h = ap (λ o. cons_option o (filter_map (λ f. mark_by (copies_at now f) f (fate_at now f)) fids)) (none (fate_at now f) (settles_now f (h f (inl refl))).1.1) ∙ no_marks fids (λ g s. h g (inr s))
    where
      none : (result : Fate) → is_new (copies_at now f) result ≡ false → mark_by (copies_at now f) f result ≡ None
      none (Same held) e = refl
      none (Marked why) e = ap (λ b. cond b (Some (record { fid = f; why = why })) None) e
      none Gone e = refl

  no_fids : (fids : List Fid) → ((f : Fid) → IsIn f fids → ⊥) → fids ≡ []
  no_fids [] h = refl
  no_fids (f ∷ fids) h = absurd (h f (inl refl))

  pub second_is_nothing : (again : List Change) (marks : List Mark) (touched : ℕ) → IsOutcome now root again marks touched → IsNoOutcome again marks touched
  second_is_nothing again marks touched out = record {
    same = no_changes now again (λ v s. s) out.all;
    unmarked = out.new ∙ no_marks (taken_up now root) (λ f s. walk_is_taken_up (levels_of now) now root root f (at_root root refl) s);
    untouched = sym out.many.many ∙ ap length (no_fids out.many.fids (λ f s. (out.many.each f).0 s (copies_stay now again (λ v i. i) out.all f)));
  }
