-- What holds behind a repair.
use Rattle.std.proofs.Common.{◌==◌, ◌≡◌, ◌≢◌, ◌↔◌, ℕ, ◌-◌, ◌≤◌, Bool, true, false, not, cond, ◌&&◌, List, [], ◌∷◌, Option, Some, None, map, length, refl, sym, ap, ◌∙◌, subst, ◌⊎◌, inl, inr, ⊎_elim, arith}
use Rattle.std.specs.FinMap as finmap
use Rattle.std.specs.List.{AllZip, AllByRecursion, fold, zip}
use Rattle.std.proofs.lemmas.Bool.{true≢false, cases_eq}
use Rattle.coda_fid.specs.Fid.{same_fid}
use Rattle.coda_fid.specs.declared.fid.Fid.{Fid}
use Rattle.coda_tree.specs.Bindings.{Name}
use Rattle.coda_tree.proofs.Trees.{below_below}
use Rattle.coda_tree.specs.Tree.{IsBelow, itself, under}
use Rattle.coda_tree.specs.Volume.{bindings}
use Rattle.coda_tree.specs.declared.node.NodeKind.{NodeKind}
use Rattle.coda_tree.specs.declared.node.NodeKind.TheVariants.{File, Link, Dir}
use Rattle.coda_vv.specs.Vector.{Counts, joined, no_updates}
use Rattle.coda_reslog.specs.declared.change.Held.{Held}
use Rattle.coda_reslog.specs.declared.change.Change.{Change}
use Rattle.coda_resolve.specs.Copies.{Copies, vector_of, bindings_of}
use Rattle.coda_resolve.specs.Merged.{updates_of}
use Rattle.coda_resolve.specs.Settled.{is_dir, IsEverywhere, HasKind}
use Rattle.coda_resolve.specs.Resolution.{Objects, Replicas, copies_at, child_in, IsTreeView}
use Rattle.coda_resolve.specs.Placement.{IsIn}
use Rattle.coda_record.specs.declared.view.View.{View}
use Rattle.coda_resolve.specs.Views.{objects_of, replicas_of}
use Rattle.coda_resolve.specs.Changes.{changed, afterwards}
use Rattle.coda_resolve.proofs.After.{all_trees, all_copies, each_copy}
use Rattle.coda_resolve.proofs.Lists.{some_none}
use Rattle.coda_resolve.proofs.Logged.{any_in}
use Rattle.coda_fid.proofs.Fids.{same_fid_refl}
use Rattle.coda_resolve.proofs.There.{tree_of}
use Rattle.coda_lineage.specs.Repairs.{LeadsAlike, repaired, is_taken, others_of, binds_one, spared_by, spared, IsRepairedAt}
use Rattle.coda_lineage.proofs.RepairedTrees.{RepairedAt, put, went, absent, kept, at, repaired_tree}
use Rattle.coda_lineage.specs.Lineage.{Group, held_at, IsChangedOrNot}
use Rattle.coda_repair.specs.Finding.{view_of, objects_from, held_by, IsWay}
use Rattle.coda_repair.specs.Repaired.{IsReplicaRepair}
use Rattle.coda_repair.specs.Laws.{HasMore, FoundLeadAlike, SourceKeepsTheRest, RepairedAreEqual, LosersAreMarked, RepairsKeepTreesOfOneKind, RepairsBelongToTheLineage}
use Rattle.coda_repair.proofs.Repairs.{in_copies}
use Rattle.coda_repair.proofs.Sparing.{get_others}
use Rattle.coda_repair.proofs.Vectors.{updates_has, bumped_more, bumped_here}
use Rattle.coda_repair.proofs.Ways.{some_same, none_found}

-- ---- the way

view_in : (views : List View) (from : ℕ) (right : View) → view_of views from ≡ Some right
    → IsIn (objects_of right) (replicas_of views)
view_in [] from right e = absurd (some_none right (sym e))
view_in (view ∷ views) from right e = by (view.server == from) e (view_in views from right)
  where
    by : (b : Bool) → cond b (Some view) (view_of views from) ≡ Some right
        → (view_of views from ≡ Some right → IsIn (objects_of right) (replicas_of views))
        → IsIn (objects_of right) (objects_of view ∷ replicas_of views)
    by true is rest = inl (ap objects_of (some_same view right is))
    by false is rest = inr (rest is)

ways_lead : (right : Objects) (from : ℕ) (root : Fid) (names : List Name) (top : Fid) (views : List View)
    → AllByRecursion (IsWay right from root names top) views → (view : Objects) → IsIn view (replicas_of views)
    → LeadsAlike right view root names top
ways_lead right from root names top [] a view s = absurd s
ways_lead right from root names top (v ∷ views) a view (inl is) =
    subst (λ x. LeadsAlike right x root names top) is a.0.leads
ways_lead right from root names top (v ∷ views) a view (inr s) = ways_lead right from root names top views a.1 view s

pub found_lead_alike : FoundLeadAlike
found_lead_alike views from root names top found =
    (by (view_of views from) refl, ways_lead (held_by views from) from root names top views found.ways)
  where
    by : (o : Option View) → view_of views from ≡ o → IsIn (held_by views from) (replicas_of views)
    by None e = absurd (none_found views from root names top e found)
    by (Some right) e = subst (λ x. IsIn x (replicas_of views)) (ap objects_from (sym e)) (view_in views from right e)

-- ---- the same everywhere

joined_long : (v w : Counts) → length v ≤ length (joined v w)
joined_long [] w = omega arith
joined_long (x ∷ v) [] = omega arith
joined_long (x ∷ v) (y ∷ w) = let k = joined_long v w in omega (arith, k)

fold_long : (vs : List Counts) (v : Counts) → length v ≤ length (fold joined v vs)
fold_long [] v = omega arith
fold_long (w ∷ vs) v = let a = joined_long v w in let b = fold_long vs (joined v w) in omega (arith, a, b)

first_long : (copies : Copies) → ((old : Held) → IsIn (Some old) copies → length old.vector.0 ≡ 8) → 8 ≤ length (updates_of copies)
first_long [] wide = omega arith
first_long (None ∷ copies) wide = let k = fold_long (map vector_of copies) no_updates in omega (arith, k)
first_long (Some old ∷ copies) wide = let k = fold_long (map vector_of copies) old.vector.0 in let e = wide old (inl refl) in omega (arith, k, e)

-- what a replica holds is one of the copies, and each copy is held by one
copy_from : (views : Replicas) (f : Fid) (old : Held) → IsIn (Some old) (copies_at views f) → (view : Objects) × (IsIn view views × (finmap.get view f ≡ Some old))
copy_from [] f old s = absurd s
copy_from (view ∷ views) f old (inl is) = (view, (inl refl, is))
copy_from (view ∷ views) f old (inr s) = let k = copy_from views f old s in (k.0, (inr k.1.0, k.1.1))

put_everywhere : (subtree : Fid → Bool) (top : Fid) (source : ℕ) (copies : Fid → Copies) (right : Objects) (f : Fid) (was : Held) → subtree f ≡ true → finmap.get right f ≡ Some was
    → (views : Replicas) (changes : List Change) → AllZip (IsReplicaRepair subtree top source copies right) views changes → IsEverywhere (repaired source (copies f) was) (copies_at (afterwards views changes) f)
put_everywhere subtree top source copies right f was s has [] [] a = tt
put_everywhere subtree top source copies right f was s has [] (change ∷ changes) a = absurd a
put_everywhere subtree top source copies right f was s has (view ∷ views) [] a = absurd a
put_everywhere subtree top source copies right f was s has (view ∷ views) (change ∷ changes) a = (a.0.repaired.put f was s has, put_everywhere subtree top source copies right f was s has views changes a.1)

pub repaired_are_equal : RepairedAreEqual
repaired_are_equal views source right top f was changes one eight wide repairs below has =
    let held : Held = repaired source (copies_at views f) was in (
      held,
      (
        put_everywhere repairs.subtree top source (copies_at views) right f was ((repairs.below f).1 below) has views changes repairs.each,
        (refl, (refl, λ view old s e. more view old (in_copies views view f old s e))),
      ),
    )
  where
    long : source ≤ length (updates_of (copies_at views f))
    long = let k = first_long (copies_at views f) (λ old s. let c = copy_from views f old s in wide c.0 old c.1.0 c.1.1) in omega (arith, k, eight)

    more : (view : Objects) (old : Held) → IsIn (Some old) (copies_at views f) → HasMore source (repaired source (copies_at views f) was) old
    more view old s = (
      λ server number i.
          let a = updates_has (copies_at views f) old (server - 1) s in
          let b = bumped_more (updates_of (copies_at views f)) (source - 1) (server - 1) in
          (i.0, let n = i.1 in omega (arith, a, b, n)),
      (
        omega arith,
        let a = updates_has (copies_at views f) old (source - 1) s in
            let b = bumped_here (updates_of (copies_at views f)) source one long in
            omega (arith, a, b),
      ),
    )

-- ---- one of the changes

zip_at : {A B : Type 0} (P : A → B → Type 0) (xs : List A) (ys : List B) (x : A) (y : B) → AllZip P xs ys → IsIn (x, y) (zip xs ys) → P x y
zip_at P [] ys x y a s = absurd s
zip_at P (z ∷ xs) [] x y a s = absurd a
zip_at P (z ∷ xs) (w ∷ ys) x y a (inl is) = subst (λ p. P p.0 p.1) is a.0
zip_at P (z ∷ xs) (w ∷ ys) x y a (inr s) = zip_at P xs ys x y a.1 s

-- ---- what loses is marked

module _ (subtree : Fid → Bool) (top : Fid) where
  and_first : (a b : Bool) → (a && b) ≡ true → a ≡ true
  and_first true b e = refl
  and_first false b e = absurd (true≢false (sym e))

  lost_marked : (was : Held) (k : NodeKind) (n : Name) (f : Fid) → was.node.kind ≡ k → finmap.get (bindings was.node.kind) n ≡ Some f → finmap.get (bindings (spared_by subtree top was k).node.kind) n ≢ Some f → ((spared_by subtree top was k).node.marked ≡ true) × (subtree f ≡ true)
  lost_marked was (File content) n f is had no_more = absurd (no_more had)
  lost_marked was (Link target) n f is had no_more = absurd (no_more had)
  lost_marked was (Dir entries) n f is had no_more = by (binds_one subtree top entries) no_more
    where
      at : finmap.get entries n ≡ Some f
      at = ap (λ x. finmap.get (bindings x) n) (sym is) ∙ had

      taken : (t : Bool) → is_taken subtree top (Some f) ≡ t → finmap.get (others_of subtree top entries) n ≢ Some f → subtree f ≡ true
      taken true e other = and_first (subtree f) (not (same_fid f top)) e
      taken false e other = absurd (other (get_others subtree top entries n ∙ ap (λ o. cond (not (is_taken subtree top o)) o None) at ∙ ap (λ b. cond (not b) (Some f) None) e))

      by : (b : Bool) → finmap.get (bindings (cond b (record was { node = record was.node { kind = Dir (others_of subtree top entries); marked = true } }) was).node.kind) n ≢ Some f → ((cond b (record was { node = record was.node { kind = Dir (others_of subtree top entries); marked = true } }) was).node.marked ≡ true) × (subtree f ≡ true)
      by true other = (refl, taken (is_taken subtree top (Some f)) refl other)
      by false other = absurd (other had)

pub losers_are_marked : LosersAreMarked
losers_are_marked views source right view top d f n held changes change repairs place out had has no_more = by_below (part.repaired.below d) refl
  where
    part : IsReplicaRepair repairs.subtree top source (copies_at views) right view change
    part = zip_at (IsReplicaRepair repairs.subtree top source (copies_at views) right) views changes view change repairs.each place

    subtree : Fid → Bool
    subtree = repairs.subtree

    outside : (b : Bool) → subtree d ≡ b → subtree d ≡ false
    outside true e = absurd (out ((repairs.below d).0 e))
    outside false e = e

    by_view : (o : Option Held) → finmap.get view d ≡ o → finmap.get (changed view change) d ≡ spared subtree top o → (held.node.marked ≡ true) × IsBelow (child_in right) top f
    by_view None e is = absurd (some_none held (sym has ∙ is))
    by_view (Some was) e is =
        let same : spared_by subtree top was was.node.kind ≡ held = some_same (spared_by subtree top was was.node.kind) held (sym is ∙ has) in
        let k = lost_marked subtree top was was.node.kind n f refl (ap (λ c. finmap.get (bindings_of c) n) (sym e) ∙ had) (λ h. no_more (ap (λ c. finmap.get (bindings_of c) n) is ∙ h)) in
        (ap (λ (h : Held). h.node.marked) (sym same) ∙ k.0, (repairs.below f).0 k.1)

    by_below : (b : Bool) → part.repaired.below d ≡ b → (held.node.marked ≡ true) × IsBelow (child_in right) top f
    by_below true b = absurd (some_none held (sym has ∙ part.repaired.goes d (outside (subtree d) refl) b))
    by_below false b = by_view (finmap.get view d) refl (part.repaired.stays d b)

-- ---- the source

module _ (root : Fid) (right : Objects) (top : Fid) (subtree : Fid → Bool) (tree : IsTreeView root right) (below : (f : Fid) → (subtree f ≡ true) ↔ IsBelow (child_in right) top f) where
  -- what binds one of the repaired objects, but for their top, is repaired
  binder : (f g : Fid) (n : Name) → child_in right f n ≡ Some g → is_taken subtree top (Some g) ≡ true → IsBelow (child_in right) top f
  binder f g n bound taken = by (parts (subtree g) (same_fid g top) taken)
    where
      parts : (a b : Bool) → (a && not b) ≡ true → (a ≡ true) × (b ≡ false)
      parts true true e = absurd (true≢false (sym e))
      parts true false e = (refl, refl)
      parts false b e = absurd (true≢false (sym e))

      up_from : (h : Fid) → h ≡ g → same_fid g top ≡ false → IsBelow (child_in right) top h → IsBelow (child_in right) top f
      up_from h same other (itself x is) = absurd (true≢false (sym (subst (λ y. same_fid g y ≡ true) (sym same ∙ is) (same_fid_refl g)) ∙ other))
      up_from h same other (under d m x b up) = subst (IsBelow (child_in right) top) (tree.once d m f n g (b ∙ ap Some same) bound).0 up

      by : (subtree g ≡ true) × (same_fid g top ≡ false) → IsBelow (child_in right) top f
      by p = up_from g refl p.1 ((below g).0 p.0)

  keeps : (f : Fid) (held : Held) (k : NodeKind) → finmap.get right f ≡ Some held → held.node.kind ≡ k → (IsBelow (child_in right) top f → ⊥) → spared_by subtree top held k ≡ held
  keeps f held (File content) at is out = refl
  keeps f held (Link target) at is out = refl
  keeps f held (Dir entries) at is out = by (binds_one subtree top entries) refl
    where
      found : (n : Name) (o : Option Fid) → finmap.get entries n ≡ o → is_taken subtree top o ≡ true → ⊥
      found n None e t = true≢false (sym t)
      found n (Some g) e t = out (binder f g n (ap (λ c. finmap.get (bindings_of c) n) at ∙ ap (λ x. finmap.get (bindings x) n) is ∙ e) t)

      by : (b : Bool) → binds_one subtree top entries ≡ b → cond b (record held { node = record held.node { kind = Dir (others_of subtree top entries); marked = true } }) held ≡ held
      by true e = let k = any_in (λ n. is_taken subtree top (finmap.get entries n)) (finmap.keys entries) e in absurd (found k.0 (finmap.get entries k.0) refl k.1.1)
      by false e = refl

pub source_keeps_the_rest : SourceKeepsTheRest
source_keeps_the_rest views root source right top f changes change tree repairs place out =
    part.repaired.stays f (by_below (part.repaired.below f) refl) ∙ same (finmap.get right f) refl
  where
    part : IsReplicaRepair repairs.subtree top source (copies_at views) right right change
    part = zip_at (IsReplicaRepair repairs.subtree top source (copies_at views) right) views changes right change repairs.each place

    by_below : (b : Bool) → part.repaired.below f ≡ b → part.repaired.below f ≡ false
    by_below true e = let k = (part.repaired.is_below f).0 e in absurd (out (below_below f ((repairs.below k.0).0 k.1.0) k.1.1))
    by_below false e = e

    same : (o : Option Held) → finmap.get right f ≡ o → spared repairs.subtree top o ≡ o
    same None e = refl
    same (Some held) e = ap Some (keeps root right top repairs.subtree tree repairs.below f held held.node.kind e refl out)

-- ---- trees of one kind

from_after : {P : Objects → Change → Type 0} (views : Replicas) (changes : List Change) (v : Objects) → AllZip P views changes → IsIn v (afterwards views changes) → (old : Objects) × (IsIn old views × ((change : Change) × ((changed old change ≡ v) × P old change)))
from_after [] [] v a s = absurd s
from_after [] (change ∷ changes) v a s = absurd a
from_after (view ∷ views) [] v a s = absurd a
from_after (view ∷ views) (change ∷ changes) v a (inl is) = (view, (inl refl, (change, (is, a.0))))
from_after (view ∷ views) (change ∷ changes) v a (inr s) = let k = from_after views changes v a.1 s in (k.0, (inr k.1.0, k.1.1))

spared_kind : (subtree : Fid → Bool) (top : Fid) (held : Held) (k : NodeKind) → held.node.kind ≡ k → is_dir (spared_by subtree top held k).node.kind ≡ is_dir held.node.kind
spared_kind subtree top held (File content) e = refl
spared_kind subtree top held (Link target) e = refl
spared_kind subtree top held (Dir entries) e = go (binds_one subtree top entries)
  where
    go : (b : Bool) → is_dir (cond b (record held { node = record held.node { kind = Dir (others_of subtree top entries); marked = true } }) held).node.kind ≡ is_dir held.node.kind
    go true = sym (ap is_dir e)
    go false = refl

pub repairs_keep_trees_of_one_kind : RepairsKeepTreesOfOneKind
repairs_keep_trees_of_one_kind views later root source right names top changes history right_in leads repairs ne each = record {
  trees = all_trees root later ne (λ v s. ⊎_elim (λ (i : IsIn v views). tree_of root v views history.trees i) (λ (i : IsIn v (afterwards views changes)). tree_after v i) (each v s));
  top = kept_all root true history.top;
  kinds = λ f. let k = history.kinds f in (k.0, kept_all f k.0 k.1);
}
  where
    tree_after : (v : Objects) → IsIn v (afterwards views changes) → IsTreeView root v
    tree_after v i =
        let k = from_after views changes v repairs.each i in
        subst (IsTreeView root) k.1.1.1.0
        (repaired_tree root right k.0 (changed k.0 k.1.1.0) repairs.subtree top source (copies_at views) names
        (tree_of root right views history.trees right_in) (tree_of root k.0 views history.trees k.1.0) (leads k.0 k.1.0) repairs.below k.1.1.1.1.repaired)

    kind_at : (f : Fid) (b : Bool) → AllByRecursion (HasKind b) (copies_at views f) → (old after : Objects) → IsIn old views
        → RepairedAt repairs.subtree top source (copies_at views) right old after f → HasKind b (finmap.get after f)
    kind_at f b k old after s (put held inside r is) = subst (HasKind b) (sym is) (subst (HasKind b) r (each_copy (HasKind b) views f right k right_in))
    kind_at f b k old after s (went g outside inside up is) = subst (HasKind b) (sym is) tt
    kind_at f b k old after s (absent outside e is) = subst (HasKind b) (sym is) tt
    kind_at f b k old after s (kept held outside e is) =
        subst (HasKind b) (sym is) (spared_kind repairs.subtree top held held.node.kind refl ∙ subst (HasKind b) e (each_copy (HasKind b) views f old k s))

    kind_after : (f : Fid) (b : Bool) → AllByRecursion (HasKind b) (copies_at views f) → (v : Objects) → IsIn v (afterwards views changes) → HasKind b (finmap.get v f)
    kind_after f b k v i =
        let m = from_after views changes v repairs.each i in
        subst (λ x. HasKind b (finmap.get x f)) m.1.1.1.0
        (kind_at f b k m.0 (changed m.0 m.1.1.0) m.1.0
        (at root right m.0 (changed m.0 m.1.1.0) repairs.subtree top source (copies_at views) names
        (tree_of root right views history.trees right_in) (tree_of root m.0 views history.trees m.1.0) (leads m.0 m.1.0) repairs.below m.1.1.1.1.repaired f))

    kept_all : (f : Fid) (b : Bool) → AllByRecursion (HasKind b) (copies_at views f) → AllByRecursion (HasKind b) (copies_at later f)
    kept_all f b k = all_copies (HasKind b) later f (λ v s. ⊎_elim (λ (i : IsIn v views). each_copy (HasKind b) views f v k i) (λ (i : IsIn v (afterwards views changes)). kind_after f b k v i) (each v s))

-- ---- repairs of the life of a volume

is_in_or_not : (s : ℕ) (some : List ℕ) → IsIn s some ⊎ (IsIn s some → ⊥)
is_in_or_not s [] = inr (λ i. i)
is_in_or_not s (t ∷ some) = go (cases_eq t s) (is_in_or_not s some)
  where
    go : (t ≡ s) ⊎ (t ≢ s) → IsIn s some ⊎ (IsIn s some → ⊥) → IsIn s (t ∷ some) ⊎ (IsIn s (t ∷ some) → ⊥)
    go (inl e) rest = inl (inl e)
    go (inr ne) (inl i) = inl (inr i)
    go (inr ne) (inr out) = inr (λ i. ⊎_elim ne out i)

module _ (before after : Group) (subtree : Fid → Bool) (top : Fid) (source : ℕ) (copies : Fid → Copies) (right : Objects) where
  repaired_at : (s : ℕ) (some : List ℕ) (changes : List Change) → IsIn s some
      → AllZip (IsReplicaRepair subtree top source copies right) (map before.holds some) changes
      → AllZip (IsChangedOrNot before after) some changes
      → (after.holds s ≡ before.holds s) ⊎ IsRepairedAt subtree top source copies right (before.holds s) (after.holds s)
  repaired_at s [] changes i a z = absurd i
  repaired_at s (t ∷ some) [] i a z = absurd z
  repaired_at s (t ∷ some) (change ∷ changes) (inr i) a z = repaired_at s some changes i a.1 z.1
  repaired_at s (t ∷ some) (change ∷ changes) (inl same) a z =
      subst (λ q. (after.holds q ≡ before.holds q) ⊎ IsRepairedAt subtree top source copies right (before.holds q) (after.holds q)) same
      (⊎_elim
      (λ (e : after.holds t ≡ before.holds t). inl e)
      (λ (e : after.holds t ≡ changed (before.holds t) change). inr
      (subst (IsRepairedAt subtree top source copies right (before.holds t)) (sym e) a.0.repaired))
      z.0)

pub repairs_belong_to_the_lineage : RepairsBelongToTheLineage
repairs_belong_to_the_lineage root before after some source names top changes leads answers installed others made = record {
  top = top;
  leads = leads;
  subtree = answers.subtree;
  below = answers.below;
  each = λ s. ⊎_elim
      (λ (i : IsIn s some). ⊎_elim
      (λ (e : after.holds s ≡ before.holds s). inl e)
      (λ (e : IsRepairedAt answers.subtree top source (copies_at (held_at before some)) (before.holds source) (before.holds s) (after.holds s)). inr (i, e))
      (repaired_at before after answers.subtree top source (copies_at (held_at before some)) (before.holds source) s some changes i answers.each installed))
      (λ (out : IsIn s some → ⊥). inl (others s out))
      (is_in_or_not s some);
  made = made;
}
