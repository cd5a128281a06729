-- A replica is a tree again after a resolution.
use Rattle.std.proofs.Common.{◌≡◌, true, Option, Some, None, is_some, refl, sym, ap, ◌∙◌, subst, ◌⊎◌, inl, inr, ⊎_elim}
use Rattle.std.specs.FinMap as finmap
use Rattle.std.proofs.lemmas.Bool.{true≢false}
use Rattle.coda_fid.specs.Name.{name_cmp}
use Rattle.coda_fid.specs.declared.fid.Fid.{Fid}
use Rattle.coda_tree.specs.declared.node.NodeKind.{NodeKind}
use Rattle.coda_tree.specs.declared.node.NodeKind.TheVariants.{File, Link, Dir}
use Rattle.coda_tree.specs.Bindings.{Name}
use Rattle.coda_tree.specs.Tree.{IsBelow, itself, under}
use Rattle.coda_tree.specs.Volume.{bindings}
use Rattle.coda_reslog.specs.declared.change.Held.{Held}
use Rattle.coda_resolve.specs.declared.why.Why.{Why}
use Rattle.coda_resolve.specs.Copies.{bindings_of, first_some}
use Rattle.coda_resolve.specs.Settling.{Fate, Same, Marked, Gone, settled_copy, stand_in_by}
use Rattle.coda_resolve.specs.Resolution.{Objects, Replicas, copies_at, fate_at, IsTakenUp, at_root, below, IsTreeView, has_in, child_in}
use Rattle.coda_resolve.specs.Placement.{IsIn, AreTreesOfOneKind}
use Rattle.coda_resolve.specs.Trees.{KeepsOwn, marked_there, further, IsInstalled}
use Rattle.coda_resolve.proofs.Lists.{some_none}
use Rattle.coda_resolve.proofs.Whole.{gone_absent}
use Rattle.coda_resolve.proofs.Twice.{is_same}
use Rattle.coda_resolve.proofs.There.{Binds, fate_bound, taken_up_is_there, tree_of}
use Rattle.coda_resolve.proofs.Apart.{bind_alone, some_view, bind_once}

-- ---- views

pub held_where : (copy : Option Held) (n : Name) (f : Fid) → finmap.get (bindings_of copy) n ≡ Some f → (held : Held) × (copy ≡ Some held)
held_where None n f e = absurd (some_none f (sym e ∙ finmap.get-empty name_cmp n))
held_where (Some held) n f e = (held, refl)

-- what stands in binds nothing
pub stand_in_binds : (low : Held) (k : NodeKind) (n : Name) (f : Fid) → low.node.kind ≡ k → finmap.get (bindings_of (Some (stand_in_by low k))) n ≡ Some f → ⊥
stand_in_binds low (File content) n f is e = some_none f (sym e ∙ ap (λ x. finmap.get (bindings x) n) is ∙ finmap.get-empty name_cmp n)
stand_in_binds low (Link target) n f is e = some_none f (sym e ∙ ap (λ x. finmap.get (bindings x) n) is ∙ finmap.get-empty name_cmp n)
stand_in_binds low (Dir entries) n f is e = some_none f (sym e ∙ finmap.get-empty name_cmp n)

-- where an object is settled, some copy stands
pub settles : (result : Fate) (lowest copy : Option Held) → (result ≡ Gone → ⊥) → (lowest ≡ None → ⊥) → is_some (settled_copy result lowest copy) ≡ true
settles (Same held) lowest copy there low = refl
settles (Marked why) None None there low = absurd (low refl)
settles (Marked why) (Some held) None there low = refl
settles (Marked why) lowest (Some own) there low = refl
settles Gone lowest copy there low = absurd (there refl)

-- what a settled copy binds: what all hold, or what the replica itself held
pub settled_binds : (result : Fate) (lowest copy : Option Held) (n : Name) (f : Fid) → (result ≡ Gone → ⊥) → finmap.get (bindings_of (settled_copy result lowest copy)) n ≡ Some f → ((one : Held) × ((result ≡ Same one) × (finmap.get (bindings one.node.kind) n ≡ Some f))) ⊎ ((why : Why) × ((result ≡ Marked why) × (finmap.get (bindings_of copy) n ≡ Some f)))
settled_binds (Same one) lowest copy n f there e = inl (one, (refl, e))
settled_binds (Marked why) None None n f there e = absurd (some_none f (sym e ∙ finmap.get-empty name_cmp n))
settled_binds (Marked why) (Some low) None n f there e = absurd (stand_in_binds low low.node.kind n f refl e)
settled_binds (Marked why) lowest (Some own) n f there e = inr (why, (refl, e))
settled_binds Gone lowest copy n f there e = absurd (there refl)

module _ (views : Replicas) (root : Fid) (view : Objects) (history : AreTreesOfOneKind views root) (inview : IsIn view views) where
  -- nothing that is taken up and the same everywhere stands below a marked directory
  pub own_apart : (d : Fid) → KeepsOwn views root view d → (one : Held) → IsTakenUp views root d → fate_at views d ≡ Same one → ⊥
  own_apart e (marked_there d why up is) one up_too same = true≢false (ap is_same (sym same ∙ is))
  own_apart e (further d n f keeps bound) one (at_root g is) same = (tree_of root view views history.trees inview).unbound d n (bound ∙ ap Some is)
  own_apart e (further d n f keeps bound) one (below c k g held same_c is up) same =
      own_apart c (subst (KeepsOwn views root view) (sym (bind_alone views root c d f k n held view history same_c is inview bound)) keeps) held up same_c

  -- nothing that is taken up is bound in a directory that keeps what it binds
  pub kept_apart : (d : Fid) (n : Name) (f : Fid) → KeepsOwn views root view d → child_in view d n ≡ Some f → IsTakenUp views root f → ⊥
  kept_apart d n g keeps bound (at_root f is) = (tree_of root view views history.trees inview).unbound d n (bound ∙ ap Some is)
  kept_apart d n g keeps bound (below c k f held same is up) =
      own_apart c (subst (KeepsOwn views root view) (sym (bind_alone views root c d f k n held view history same is inview bound)) keeps) held up same

module _ (views : Replicas) (root : Fid) (view after : Objects) (history : AreTreesOfOneKind views root) (inview : IsIn view views) (installed : IsInstalled views root view after) where
  own : IsTreeView root view
  own = tree_of root view views history.trees inview

  pub low : (f : Fid) → IsTakenUp views root f → first_some (copies_at views f) ≡ None → ⊥
  low f up = taken_up_is_there views root history.trees f up

  pub there : (f : Fid) → IsTakenUp views root f → fate_at views f ≡ Gone → ⊥
  there f up e = low f up (gone_absent (copies_at views f) (copies_at views) (first_some (copies_at views f)) e)

  pub taken_has : (f : Fid) → IsTakenUp views root f → has_in after f ≡ true
  taken_has f up = ap is_some (installed.taken f up) ∙ settles (fate_at views f) (first_some (copies_at views f)) (finmap.get view f) (there f up) (low f up)

  -- what a directory binds after it
  pub child_cases : (d : Fid) (n : Name) (f : Fid) → child_in after d n ≡ Some f → ((one : Held) × (IsTakenUp views root d × ((fate_at views d ≡ Same one) × (finmap.get (bindings one.node.kind) n ≡ Some f)))) ⊎ (KeepsOwn views root view d × (child_in view d n ≡ Some f))
  child_cases d n f e = ⊎_elim from_taken from_kept (installed.only d (let h = held_where (finmap.get after d) n f e in ap is_some h.1))
    where
      from_taken : IsTakenUp views root d → ((one : Held) × (IsTakenUp views root d × ((fate_at views d ≡ Same one) × (finmap.get (bindings one.node.kind) n ≡ Some f)))) ⊎ (KeepsOwn views root view d × (child_in view d n ≡ Some f))
      from_taken up = ⊎_elim
          (λ (m : (one : Held) × ((fate_at views d ≡ Same one) × (finmap.get (bindings one.node.kind) n ≡ Some f))). inl (m.0, (up, m.1)))
          (λ (m : (why : Why) × ((fate_at views d ≡ Marked why) × (finmap.get (bindings_of (finmap.get view d)) n ≡ Some f))). inr (marked_there d m.0 up m.1.0, m.1.1))
          (settled_binds (fate_at views d) (first_some (copies_at views d)) (finmap.get view d) n f (there d up) (ap (λ c. finmap.get (bindings_of c) n) (sym (installed.taken d up)) ∙ e))

      from_kept : KeepsOwn views root view d → ((one : Held) × (IsTakenUp views root d × ((fate_at views d ≡ Same one) × (finmap.get (bindings one.node.kind) n ≡ Some f)))) ⊎ (KeepsOwn views root view d × (child_in view d n ≡ Some f))
      from_kept (marked_there d why up is) = from_taken up
      from_kept (further c k d keeps bound) = inr (further c k d keeps bound, ap (λ x. finmap.get (bindings_of x) n) (sym (installed.kept c k d keeps bound)) ∙ e)

  -- and what it kept of its own it binds still
  kept_child : (d : Fid) (n : Name) (f : Fid) → KeepsOwn views root view d → child_in view d n ≡ Some f → child_in after d n ≡ Some f
  kept_child g n f (marked_there d why up is) e =
      let h = held_where (finmap.get view d) n f e in
      ap (λ c. finmap.get (bindings_of c) n) (installed.taken d up ∙ (λ i. settled_copy (is i) (first_some (copies_at views d)) (h.1 i)))
      ∙ ap (λ c. finmap.get (bindings_of c) n) (sym h.1) ∙ e
  kept_child g n f (further c k d keeps bound) e = ap (λ x. finmap.get (bindings_of x) n) (installed.kept c k d keeps bound) ∙ e

  same_child : (d : Fid) (n : Name) (f : Fid) (one : Held) → IsTakenUp views root d → fate_at views d ≡ Same one → finmap.get (bindings one.node.kind) n ≡ Some f → child_in after d n ≡ Some f
  same_child d n f one up same is = ap (λ c. finmap.get (bindings_of c) n) (installed.taken d up ∙ ap (λ r. settled_copy r (first_some (copies_at views d)) (finmap.get view d)) same) ∙ is

  taken_below : (f : Fid) → IsTakenUp views root f → IsBelow (child_in after) root f
  taken_below g (at_root f is) = itself f is
  taken_below g (below d n f held same is up) = under d n f (same_child d n f held up same is) (taken_below d up)

  kept_below : (f : Fid) → KeepsOwn views root view f → IsBelow (child_in after) root f
  kept_below g (marked_there d why up is) = taken_below d up
  kept_below g (further d n f keeps bound) = under d n f (kept_child d n f keeps bound) (kept_below d keeps)

  pub tree_after : IsTreeView root after
  tree_after = record {
    rooted = taken_has root (at_root root refl);
    unbound = λ d n e. ⊎_elim
        (λ (m : (one : Held) × (IsTakenUp views root d × ((fate_at views d ≡ Same one) × (finmap.get (bindings one.node.kind) n ≡ Some root)))).
        let v = some_view (Binds n root) d views (fate_bound (copies_at views d) (copies_at views) m.0 n root m.1.1.0 m.1.1.1) in
        (tree_of root v.0 views history.trees v.1.0).unbound d n v.1.1)
        (λ (m : KeepsOwn views root view d × (child_in view d n ≡ Some root)). own.unbound d n m.1)
        (child_cases d n root e);
    from = λ d n f e. let h = held_where (finmap.get after d) n f e in ap is_some h.1;
    there = λ d n f e. ⊎_elim
        (λ (m : (one : Held) × (IsTakenUp views root d × ((fate_at views d ≡ Same one) × (finmap.get (bindings one.node.kind) n ≡ Some f)))). taken_has f (below d n f m.0 m.1.1.0 m.1.1.1 m.1.0))
        (λ (m : KeepsOwn views root view d × (child_in view d n ≡ Some f)). ap is_some (installed.kept d n f m.0 m.1) ∙ own.there d n f m.1)
        (child_cases d n f e);
    once = λ d n e k f is_d is_e. ⊎_elim
        (λ (m : (one : Held) × (IsTakenUp views root d × ((fate_at views d ≡ Same one) × (finmap.get (bindings one.node.kind) n ≡ Some f)))). ⊎_elim
        (λ (o : (one : Held) × (IsTakenUp views root e × ((fate_at views e ≡ Same one) × (finmap.get (bindings one.node.kind) k ≡ Some f)))).
        bind_once views root d e f n k m.0 o.0 history m.1.1.0 o.1.1.0 m.1.1.1 o.1.1.1)
        (λ (o : KeepsOwn views root view e × (child_in view e k ≡ Some f)).
        absurd (own_apart views root view history inview d (subst (KeepsOwn views root view) (sym (bind_alone views root d e f n k m.0 view history m.1.1.0 m.1.1.1 inview o.1)) o.0) m.0 m.1.0 m.1.1.0))
        (child_cases e k f is_e))
        (λ (m : KeepsOwn views root view d × (child_in view d n ≡ Some f)). ⊎_elim
        (λ (o : (one : Held) × (IsTakenUp views root e × ((fate_at views e ≡ Same one) × (finmap.get (bindings one.node.kind) k ≡ Some f)))).
        absurd (own_apart views root view history inview e (subst (KeepsOwn views root view) (sym (bind_alone views root e d f k n o.0 view history o.1.1.0 o.1.1.1 inview m.1)) m.0) o.0 o.1.0 o.1.1.0))
        (λ (o : KeepsOwn views root view e × (child_in view e k ≡ Some f)). own.once d n e k f m.1 o.1)
        (child_cases e k f is_e))
        (child_cases d n f is_d);
    reached = λ f e. ⊎_elim (taken_below f) (kept_below f) (installed.only f e);
  }
