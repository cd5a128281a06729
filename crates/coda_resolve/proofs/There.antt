-- Each object that is taken up is one that some replica has.
use Rattle.std.proofs.Common.{◌≡◌, ◌≢◌, Bool, true, false, cond, List, [], ◌∷◌, Option, Some, None, is_some, refl, sym, ap, ◌∙◌, subst, inl, inr}
use Rattle.std.specs.FinMap as finmap
use Rattle.std.specs.List.{AllByRecursion, find, list_all}
use Rattle.std.proofs.lemmas.Bool.{true≢false}
use Rattle.coda_fid.specs.declared.fid.Fid.{Fid}
use Rattle.coda_tree.specs.declared.node.NodeKind.{NodeKind}
use Rattle.coda_tree.specs.declared.node.NodeKind.TheVariants.{File, Link, Dir}
use Rattle.coda_tree.specs.Bindings.{Name}
use Rattle.coda_tree.specs.Volume.{bindings}
use Rattle.coda_reslog.specs.declared.change.Held.{Held}
use Rattle.coda_resolve.specs.Copies.{Copies, bindings_of, first_some}
use Rattle.coda_resolve.specs.Missing.{leads, leader}
use Rattle.coda_resolve.specs.Merged.{same_binding, shared, agreed, is_on, binding, names, flat, merged_bindings, first_or, first_of_copies, attributes_of}
use Rattle.coda_resolve.specs.Causes.{cause}
use Rattle.coda_resolve.specs.Settling.{Same, dominating, fate_by, fate_from, fate}
use Rattle.coda_resolve.specs.Settled.{IsEqualOrMarked}
use Rattle.coda_resolve.specs.Resolution.{Objects, Replicas, copies_at, IsTakenUp, at_root, below, IsResolved, IsTreeView, AreTrees}
use Rattle.coda_resolve.specs.Placement.{IsIn, SomeOf}
use Rattle.coda_resolve.proofs.Lists.{some_none}
use Rattle.coda_resolve.proofs.MergedNames.{among, get_made}
use Rattle.coda_resolve.proofs.Settled.{equal_or_marked}
use Rattle.coda_resolve.proofs.Twice.{is_same, own_dominating, leaf_same, dir_same}
use Rattle.coda_resolve.proofs.Whole.{gone_absent}

pub some_map : {X : Type 0} (P Q : X → Type 0) → ((x : X) → P x → Q x) → (xs : List X) → SomeOf P xs → SomeOf Q xs
some_map P Q h [] s = absurd s
some_map P Q h (x ∷ xs) (inl p) = inl (h x p)
some_map P Q h (x ∷ xs) (inr s) = inr (some_map P Q h xs s)

pub found_some : {X : Type 0} (t : X → Bool) (xs : List X) (x : X) → find t xs ≡ Some x → SomeOf (λ y. y ≡ x) xs
found_some t [] x e = absurd (some_none x (sym e))
found_some {X} t (y ∷ ys) x e = go (t y) e (found_some t ys x)
  where
    same : Some y ≡ Some x → y ≡ x
    same e = ap (or_else y) e
      where
        or_else : X → Option X → X
        or_else d None = d
        or_else d (Some z) = z

    go : (b : Bool) → cond b (Some y) (find t ys) ≡ Some x → (find t ys ≡ Some x → SomeOf (λ z. z ≡ x) ys) → SomeOf (λ z. z ≡ x) (y ∷ ys)
    go true e more = inl (same e)
    go false e more = inr (more e)

pub picked_some : (pick : Option Held → Option Held) → ((copy : Option Held) (held : Held) → pick copy ≡ Some held → copy ≡ Some held) → (copies : Copies) (held : Held) → first_of_copies pick copies ≡ Some held → SomeOf (λ copy. copy ≡ Some held) copies
picked_some pick own [] held e = absurd (some_none held (sym e))
picked_some pick own (copy ∷ copies) held e = go (pick copy) refl e (picked_some pick own copies held)
  where
    go : (o : Option Held) → pick copy ≡ o → first_or o (first_of_copies pick copies) ≡ Some held → (first_of_copies pick copies ≡ Some held → SomeOf (λ c. c ≡ Some held) copies) → SomeOf (λ c. c ≡ Some held) (copy ∷ copies)
    go None is e more = inr (more e)
    go (Some other) is e more = inl (own copy other is ∙ e)

-- ---- what is bound then was bound by some copy

-- the copy binds f at the name
abbrev pub Binds : Name → Fid → Option Held → Type 0
Binds n f copy = finmap.get (bindings_of copy) n ≡ Some f

shared_bound : (n : Name) (f : Fid) (copies : Copies) → flat (shared n copies) ≡ Some f → SomeOf (Binds n f) copies
shared_bound n f [] e = absurd (some_none f (sym e))
shared_bound n f (copy ∷ copies) e = go (list_all (λ other. same_binding (finmap.get (bindings_of copy) n) (finmap.get (bindings_of other) n)) copies) e
  where
    go : (b : Bool) → flat (cond b (Some (finmap.get (bindings_of copy) n)) None) ≡ Some f → SomeOf (Binds n f) (copy ∷ copies)
    go true e = inl e
    go false e = absurd (some_none f (sym e))

agreed_bound : (n : Name) (f : Fid) (copies : Copies) (first : Option (Option Held)) → leader (is_on n) copies ≡ first → flat (agreed n copies first) ≡ Some f → SomeOf (Binds n f) copies
agreed_bound n f copies None at e = shared_bound n f copies e
agreed_bound n f copies (Some copy) at e = some_map (λ c. c ≡ copy) (Binds n f) (λ c is. ap (λ x. finmap.get (bindings_of x) n) is ∙ e) copies (found_some (leads (is_on n) copies) copies copy at)

pub merged_bound : (copies : Copies) (n : Name) (f : Fid) → finmap.get (merged_bindings copies) n ≡ Some f → SomeOf (Binds n f) copies
merged_bound copies n f e = go (among n (names copies)) (sym (get_made (binding copies) (names copies) n) ∙ e)
  where
    go : (b : Bool) → cond b (flat (binding copies n)) None ≡ Some f → SomeOf (Binds n f) copies
    go true e = agreed_bound n f copies (leader (is_on n) copies) refl e
    go false e = absurd (some_none f (sym e))

pub fate_bound : (copies : Copies) (look : Fid → Copies) (held : Held) (n : Name) (f : Fid) → fate copies look ≡ Same held → finmap.get (bindings held.node.kind) n ≡ Some f → SomeOf (Binds n f) copies
fate_bound copies look held n f e is = by_lowest (first_some copies) e
  where
    leaf : (list_any_marked : Bool) → (first_of_copies (dominating copies) copies ≡ Some held) → SomeOf (Binds n f) copies
    leaf b newest = some_map (λ c. c ≡ Some held) (Binds n f) (λ c at. ap (λ x. finmap.get (bindings_of x) n) at ∙ is) copies (picked_some (dominating copies) (own_dominating copies) copies held newest)

    by_kind : (k : NodeKind) → fate_by copies look k ≡ Same held → SomeOf (Binds n f) copies
    by_kind (File content) e = leaf true (leaf_same copies held e).1
    by_kind (Link target) e = leaf true (leaf_same copies held e).1
    by_kind (Dir entries) e =
        let k = dir_same copies (cause copies look) (attributes_of copies) held e in
        merged_bound copies n f (ap (λ (h : Held). finmap.get (bindings h.node.kind) n) k.1.1.1 ∙ is)

    by_lowest : (lowest : Option Held) → fate_from copies look lowest ≡ Same held → SomeOf (Binds n f) copies
    by_lowest None e = absurd (true≢false (sym (ap is_same e)))
    by_lowest (Some low) e = by_kind low.node.kind e

-- ---- and is there

pub none_first : (copy : Option Held) (copies : Copies) → first_some (copy ∷ copies) ≡ None → (copy ≡ None) × (first_some copies ≡ None)
none_first None copies e = (refl, e)
none_first (Some held) copies e = absurd (some_none held e)

there : (root d f : Fid) (n : Name) (views : Replicas) → AllByRecursion (IsTreeView root) views → SomeOf (Binds n f) (copies_at views d) → first_some (copies_at views f) ≢ None
there root d f n [] trees s e = s
there root d f n (view ∷ views) trees (inl bound) e = true≢false (sym (trees.0.there d n f bound) ∙ ap is_some (none_first (finmap.get view f) (copies_at views f) e).0)
there root d f n (view ∷ views) trees (inr more) e = there root d f n views trees.1 more (none_first (finmap.get view f) (copies_at views f) e).1

pub taken_up_is_there : (views : Replicas) (root : Fid) → AreTrees root views → (f : Fid) → IsTakenUp views root f → first_some (copies_at views f) ≢ None
taken_up_is_there [] root trees g up e = trees
taken_up_is_there (view ∷ views) root trees g (at_root f is) e = true≢false (sym (trees.0.rooted) ∙ ap is_some (ap (finmap.get view) (sym is) ∙ (none_first (finmap.get view f) (copies_at views f) e).0))
taken_up_is_there (view ∷ views) root trees g (below d n f held same is up) e = there root d f n (view ∷ views) trees (fate_bound (copies_at (view ∷ views) d) (copies_at (view ∷ views)) held n f same is) e

-- ---- replicas

tree_in : (root : Fid) (view : Objects) (views : Replicas) → AllByRecursion (IsTreeView root) views → IsIn view views → IsTreeView root view
tree_in root view [] trees s = absurd s
tree_in root view (v ∷ views) trees (inl is) = subst (IsTreeView root) is trees.0
tree_in root view (v ∷ views) trees (inr s) = tree_in root view views trees.1 s

pub tree_of : (root : Fid) (view : Objects) (views : Replicas) → AreTrees root views → IsIn view views → IsTreeView root view
tree_of root view [] trees s = absurd s
tree_of root view (v ∷ views) trees s = tree_in root view (v ∷ views) trees s

pub taken_up_equal_or_marked : (views later : Replicas) (root f : Fid) → AreTrees root views → IsResolved views root later → IsTakenUp views root f → IsEqualOrMarked (copies_at later f)
taken_up_equal_or_marked views later root f trees resolved up =
    subst IsEqualOrMarked (sym (resolved f up)) (equal_or_marked (copies_at views f) (copies_at views) (λ gone. taken_up_is_there views root trees f up (gone_absent (copies_at views f) (copies_at views) (first_some (copies_at views f)) gone)))
