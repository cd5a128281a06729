-- Names that are bound, one after the other.
use Rattle.std.proofs.Common.{◌≡◌, ℕ, List, Bool, true, false, cond, Option, Some, None, is_some, refl, sym, ap, ◌∙◌, ◌||◌}
use Rattle.std.specs.FinMap as finmap
use Rattle.std.specs.Ordering.{eq_by_cmp}
use Rattle.std.specs.Cmp.{Equal-is}
use Rattle.std.proofs.lemmas.Cmp.{nat_list_cmp_total}
use Rattle.std.proofs.lemmas.Map.Lookups.{exact_bytes}
use Rattle.coda_fid.specs.Name.{name_cmp}
use Rattle.coda_fid.specs.declared.fid.Fid.{Fid}
use Rattle.coda_tree.specs.Bindings.{Name, Bindings}
use Rattle.coda_tree.specs.Volume.{bindings}
use Rattle.coda_tree.specs.declared.node.NodeKind.{NodeKind}
use Rattle.coda_tree.specs.declared.node.NodeKind.TheVariants.{File, Link}
use Rattle.coda_reslog.specs.declared.change.Held.{Held}
use Rattle.coda_resolve.specs.Copies.{bindings_of}
use Rattle.coda_resolve.specs.Claims.{has_name}

pub nothing_bound : (n : Name) → None ≡ finmap.get {X = Fid} (finmap.empty {R = name_cmp}) n
nothing_bound n = sym (finmap.get-empty name_cmp n)

pub no_name : (n : Name) → has_name finmap.empty n ≡ false
no_name n = ap is_some (finmap.get-empty name_cmp n)

pub named_already : (names : Bindings) (name : Name) → has_name names name ≡ true → (n : Name) → has_name names n ≡ (has_name names n || eq_by_cmp name_cmp n name)
named_already names name e n = by (eq_by_cmp name_cmp n name) refl
  where
    by : (b : Bool) → eq_by_cmp name_cmp n name ≡ b → has_name names n ≡ (has_name names n || b)
    by true is = let here : has_name names n ≡ true = ap (has_name names) (exact_bytes n name ((Equal-is (name_cmp n name)).0 is)) ∙ e in here ∙ ap (λ b. b || true) (sym here)
    by false is = or_none (has_name names n)
      where
        or_none : (b : Bool) → b ≡ (b || false)
        or_none true = refl
        or_none false = refl

pub name_added : (names : Bindings) (name : Name) (f : Fid) (n : Name) → has_name (finmap.insert names name f) n ≡ (has_name names n || eq_by_cmp name_cmp n name)
name_added names name f n = ap is_some (finmap.get-insert nat_list_cmp_total names name f n) ∙ by (eq_by_cmp name_cmp n name) (finmap.get names n)
  where
    by : (b : Bool) (o : Option Fid) → is_some (cond b (Some f) o) ≡ (is_some o || b)
    by true None = refl
    by true (Some g) = refl
    by false None = refl
    by false (Some g) = refl

pub name_added_as : (names added : Bindings) (copy name : Name) (f : Fid) (n : Name) → added ≡ finmap.insert names copy f → copy ≡ name → has_name added n ≡ (has_name names n || eq_by_cmp name_cmp n name)
name_added_as names added copy name f n is same = ap (λ m. has_name m n) is ∙ name_added names copy f n ∙ ap (λ k. has_name names n || eq_by_cmp name_cmp n k) same

bound_kind : (copy : Option Held) (held : Held) (kind : NodeKind) (n : Name) → copy ≡ Some held → held.node.kind ≡ kind → finmap.get (bindings_of copy) n ≡ finmap.get (bindings kind) n
bound_kind copy held kind n is at = ap (λ o. finmap.get (bindings_of o) n) is ∙ ap (λ k. finmap.get (bindings k) n) at

pub bound_file : (copy : Option Held) (held : Held) (content : List ℕ) (n : Name) → copy ≡ Some held → held.node.kind ≡ File content → None ≡ finmap.get (bindings_of copy) n
bound_file copy held content n is at = nothing_bound n ∙ sym (bound_kind copy held (File content) n is at)

pub bound_link : (copy : Option Held) (held : Held) (target : List ℕ) (n : Name) → copy ≡ Some held → held.node.kind ≡ Link target → None ≡ finmap.get (bindings_of copy) n
bound_link copy held target n is at = nothing_bound n ∙ sym (bound_kind copy held (Link target) n is at)
