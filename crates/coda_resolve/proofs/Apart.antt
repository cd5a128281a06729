-- No object is bound in two directories that a resolution makes the same everywhere.
use Rattle.std.proofs.Common.{◌≡◌, Bool, true, false, not, [], ◌∷◌, Option, Some, None, is_some, refl, sym, ap, ◌∙◌, subst, ◌||◌, inl, inr}
use Rattle.std.specs.FinMap as finmap
use Rattle.std.specs.List.{AllByRecursion, zip}
use Rattle.std.proofs.lemmas.Bool.{true≢false, and_from}
use Rattle.coda_fid.specs.Name.{name_cmp}
use Rattle.coda_fid.specs.declared.fid.Fid.{Fid}
use Rattle.coda_tree.specs.declared.node.NodeKind.{NodeKind}
use Rattle.coda_tree.specs.declared.node.NodeKind.TheVariants.{File, Link, Dir}
use Rattle.coda_tree.specs.Bindings.{Name}
use Rattle.coda_tree.specs.Volume.{bindings}
use Rattle.coda_reslog.specs.declared.change.Held.{Held}
use Rattle.coda_resolve.specs.Copies.{Copies, first_some}
use Rattle.coda_resolve.specs.Merged.{attributes_of, merged_bindings}
use Rattle.coda_resolve.specs.Causes.{binds_fid, is_elsewhere, is_double, cause}
use Rattle.coda_resolve.specs.Settling.{Same, dominating, fate_by, fate_from, fate}
use Rattle.coda_resolve.specs.Settled.{is_dir, HasKind, AreOneKind}
use Rattle.coda_resolve.specs.Resolution.{Objects, Replicas, copies_at, fate_at, has_in, child_in}
use Rattle.coda_resolve.specs.Placement.{SomeOf, IsIn, AreTreesOfOneKind}
use Rattle.coda_resolve.proofs.Lists.{some_none}
use Rattle.coda_resolve.proofs.Again.{single}
use Rattle.coda_resolve.proofs.Twice.{is_same, picked, own_dominating, leaf_same, dir_same, lowest_kind, one_same}
use Rattle.coda_resolve.proofs.There.{Binds, fate_bound, tree_of}
use Rattle.coda_resolve.proofs.Elsewhere.{by_name, in_zip}
use Rattle.coda_resolve.proofs.Once.{bound_once, value_in}
use Rattle.coda_resolve.proofs.Logged.{in_any, filter_passes}

-- ---- what binds something is a merged directory

pub binds_nothing : (k : NodeKind) (n : Name) (f : Fid) → is_dir k ≡ false → finmap.get (bindings k) n ≡ Some f → ⊥
binds_nothing (File content) n f e is = some_none f (sym is ∙ finmap.get-empty name_cmp n)
binds_nothing (Link target) n f e is = some_none f (sym is ∙ finmap.get-empty name_cmp n)
binds_nothing (Dir entries) n f e is = true≢false e

pub no_cause_of : (copies : Copies) (look : Fid → Copies) (held : Held) (n : Name) (f : Fid) → AreOneKind copies → fate copies look ≡ Same held → finmap.get (bindings held.node.kind) n ≡ Some f → cause copies look ≡ None
no_cause_of copies look held n f kinds e is = by_lowest (first_some copies) refl e
  where
    leaf : is_dir held.node.kind ≡ false → cause copies look ≡ None
    leaf k = absurd (binds_nothing held.node.kind n f k is)

    by_kind : (k : NodeKind) → is_dir k ≡ kinds.0 → fate_by copies look k ≡ Same held → cause copies look ≡ None
    by_kind (File content) at e = leaf (picked (HasKind false) (dominating copies) (own_dominating copies) copies held (subst (λ b. AllByRecursion (HasKind b) copies) (sym at) kinds.1) (leaf_same copies held e).1)
    by_kind (Link target) at e = leaf (picked (HasKind false) (dominating copies) (own_dominating copies) copies held (subst (λ b. AllByRecursion (HasKind b) copies) (sym at) kinds.1) (leaf_same copies held e).1)
    by_kind (Dir entries) at e = (dir_same copies (cause copies look) (attributes_of copies) held e).0

    by_lowest : (lowest : Option Held) → first_some copies ≡ lowest → fate_from copies look lowest ≡ Same held → cause copies look ≡ None
    by_lowest None at e = absurd (true≢false (sym (ap is_same e)))
    by_lowest (Some low) at e = by_kind low.node.kind (lowest_kind kinds.0 copies low kinds.1 at) e

-- and it binds what the copies merge to
pub merged_of : (copies : Copies) (look : Fid → Copies) (held : Held) (n : Name) (f : Fid) → AreOneKind copies → fate copies look ≡ Same held → finmap.get (bindings held.node.kind) n ≡ Some f → merged_bindings copies ≡ bindings held.node.kind
merged_of copies look held n f kinds e is = by_lowest (first_some copies) refl e
  where
    leaf : is_dir held.node.kind ≡ false → merged_bindings copies ≡ bindings held.node.kind
    leaf k = absurd (binds_nothing held.node.kind n f k is)

    by_kind : (k : NodeKind) → is_dir k ≡ kinds.0 → fate_by copies look k ≡ Same held → merged_bindings copies ≡ bindings held.node.kind
    by_kind (File content) at e = leaf (picked (HasKind false) (dominating copies) (own_dominating copies) copies held (subst (λ b. AllByRecursion (HasKind b) copies) (sym at) kinds.1) (leaf_same copies held e).1)
    by_kind (Link target) at e = leaf (picked (HasKind false) (dominating copies) (own_dominating copies) copies held (subst (λ b. AllByRecursion (HasKind b) copies) (sym at) kinds.1) (leaf_same copies held e).1)
    by_kind (Dir entries) at e = ap (λ (h : Held). bindings h.node.kind) (dir_same copies (cause copies look) (attributes_of copies) held e).1.1.1

    by_lowest : (lowest : Option Held) → first_some copies ≡ lowest → fate_from copies look lowest ≡ Same held → merged_bindings copies ≡ bindings held.node.kind
    by_lowest None at e = absurd (true≢false (sym (ap is_same e)))
    by_lowest (Some low) at e = by_kind low.node.kind (lowest_kind kinds.0 copies low kinds.1 at) e

-- ---- views

pub some_view : (P : Option Held → Type 0) (f : Fid) (views : Replicas) → SomeOf P (copies_at views f) → (view : Objects) × (IsIn view views × P (finmap.get view f))
some_view P f [] s = absurd s
some_view P f (view ∷ views) (inl p) = (view, (inl refl, p))
some_view P f (view ∷ views) (inr s) = let m = some_view P f views s in (m.0, (inr m.1.0, m.1.1))

-- a replica that has what a merged directory binds binds it there too
bound_here : (views : Replicas) (d f : Fid) (n : Name) (view : Objects) → cause (copies_at views d) (copies_at views) ≡ None → finmap.get (merged_bindings (copies_at views d)) n ≡ Some f → IsIn view views → has_in view f ≡ true → (m : Name) × (child_in view d m ≡ Some f)
bound_here views d f n view free is inview has = by_name f (finmap.get view d) (here (binds_fid f (finmap.get view d)) refl)
  where
    passes : is_double (copies_at views d) (copies_at views) f ≡ false
    passes = filter_passes (is_double (copies_at views d) (copies_at views)) (finmap.values (merged_bindings (copies_at views d))) f (single (copies_at views d) (copies_at views) free) (value_in (merged_bindings (copies_at views d)) n f is)

    last : (a b c : Bool) → (a || (b || c)) ≡ false → c ≡ false
    last true b c e = absurd (true≢false e)
    last false true c e = absurd (true≢false e)
    last false false c e = e

    here : (b : Bool) → binds_fid f (finmap.get view d) ≡ b → b ≡ true
    here true e = refl
    here false e = absurd (true≢false (
        sym (in_any (is_elsewhere f) (zip (copies_at views d) (copies_at views f)) (finmap.get view d, finmap.get view f) (in_zip d f views view inview) (and_from (is_some (finmap.get view f)) (not (binds_fid f (finmap.get view d))) has (ap not e)))
        ∙ last _ _ _ passes))

pub bind_alone : (views : Replicas) (root d e f : Fid) (n k : Name) (one : Held) (view : Objects) → AreTreesOfOneKind views root → fate_at views d ≡ Same one → finmap.get (bindings one.node.kind) n ≡ Some f → IsIn view views → child_in view e k ≡ Some f → d ≡ e
bind_alone views root d e f n k one view are same is inview bound =
    let tree = tree_of root view views are.trees inview in
    let free = no_cause_of (copies_at views d) (copies_at views) one n f (are.kinds d) same is in
    let merge = merged_of (copies_at views d) (copies_at views) one n f (are.kinds d) same is in
    let m = bound_here views d f n view free (ap (λ b. finmap.get b n) merge ∙ is) inview (tree.there e k f bound) in
    (tree.once d m.0 e k f m.1 bound).0

pub bind_apart : (views : Replicas) (root d e f : Fid) (n k : Name) (one other : Held) → AreTreesOfOneKind views root → fate_at views d ≡ Same one → fate_at views e ≡ Same other → finmap.get (bindings one.node.kind) n ≡ Some f → finmap.get (bindings other.node.kind) k ≡ Some f → d ≡ e
bind_apart views root d e f n k one other are same_d same_e is_d is_e =
    let m = some_view (Binds k f) e views (fate_bound (copies_at views e) (copies_at views) other k f same_e is_e) in
    bind_alone views root d e f n k one m.0 are same_d is_d m.1.0 m.1.1

-- and none binds it at two names
pub bind_once : (views : Replicas) (root d e f : Fid) (n k : Name) (one other : Held) → AreTreesOfOneKind views root → fate_at views d ≡ Same one → fate_at views e ≡ Same other → finmap.get (bindings one.node.kind) n ≡ Some f → finmap.get (bindings other.node.kind) k ≡ Some f → (d ≡ e) × (n ≡ k)
bind_once views root d e f n k one other are same_d same_e is_d is_e =
    let is = bind_apart views root d e f n k one other are same_d same_e is_d is_e in
    let free = no_cause_of (copies_at views d) (copies_at views) one n f (are.kinds d) same_d is_d in
    let m = merged_of (copies_at views d) (copies_at views) one n f (are.kinds d) same_d is_d in
    let o : finmap.get (bindings one.node.kind) k ≡ Some f = ap (λ h. finmap.get (bindings h.node.kind) k) (one_same one other (sym same_d ∙ ap (fate_at views) is ∙ same_e)) ∙ is_e in
    (is, bound_once (copies_at views d) (copies_at views) n k f free (ap (λ b. finmap.get b n) m ∙ is_d) (ap (λ b. finmap.get b k) m ∙ o))
