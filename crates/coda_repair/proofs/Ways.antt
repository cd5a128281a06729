-- Where names lead.
use Rattle.std.proofs.Common.{◌≡◌, ℕ, ◌<◌, ◌+◌, suc, List, [], ◌∷◌, ◌++◌, Option, Some, None, is_some, Bor, option_copied, take, length, get_or, sym, ap, ◌∙◌, subst, arith}
use Rattle.std.specs.FinMap as finmap
use Rattle.std.specs.List.{AllByRecursion}
use Rattle.std.proofs.Math.Seq.{take-suc}
use Rattle.std.proofs.lemmas.Bool.{true≢false}
use Rattle.coda_fid.specs.Fid.{fid_cmp}
use Rattle.coda_fid.specs.Name.{name_cmp}
use Rattle.coda_fid.specs.declared.fid.Fid.{Fid}
use Rattle.coda_tree.specs.Bindings.{Name}
use Rattle.coda_tree.specs.Volume.{bindings}
use Rattle.coda_tree.specs.declared.node.NodeKind.TheVariants.{File, Link}
use Rattle.coda_reslog.specs.declared.change.Held.{Held}
use Rattle.coda_record.specs.declared.view.View.{View}
use Rattle.coda_resolve.specs.Copies.{bindings_of}
use Rattle.coda_resolve.specs.Resolution.{Objects, has_in, child_in}
use Rattle.coda_resolve.specs.Views.{objects_of}
use Rattle.coda_resolve.proofs.Lists.{some_none}
use Rattle.coda_lineage.specs.Repairs.{LeadsAlike}
use Rattle.coda_repair.specs.Finding.{view_of, objects_from, held_by, walked, IsFound}

pub some_same : {X : Type 0} (x y : X) → Some x ≡ Some y → x ≡ y
some_same x y e = cc

-- names that lead alike lead there at the first replica
pub walked_there : (a b : Objects) (d : Fid) (names : List Name) (f : Fid) → LeadsAlike a b d names f → walked a (Some d) names ≡ Some f
walked_there a b d [] f w = ap Some (sym w)
walked_there a b d (n ∷ names) f w = ap (λ o. walked a o names) w.1.0 ∙ walked_there a b w.0 names f w.1.1.1

-- ---- what is found

-- in a copy that isn't there nothing is bound
pub absent_none : (view : Objects) (d : Fid) (n : Name) (copy : Option (Bor Held)) → option_copied copy ≡ finmap.get view d → copy ≡ None → None ≡ child_in view d n
absent_none view d n copy at is = sym (ap (λ c. finmap.get (bindings_of c) n) (sym at ∙ ap option_copied is) ∙ finmap.get-empty name_cmp n)

-- nor in a file or link
pub file_none : (view : Objects) (d : Fid) (n : Name) (copy : Option (Bor Held)) (held : Bor Held) (content : List ℕ) → option_copied copy ≡ finmap.get view d → copy ≡ Some held → held.now.node.kind ≡ File content → None ≡ child_in view d n
file_none view d n copy held content at is kind = sym (ap (λ c. finmap.get (bindings_of c) n) (sym at ∙ ap option_copied is) ∙ ap (λ k. finmap.get (bindings k) n) kind ∙ finmap.get-empty name_cmp n)

pub link_none : (view : Objects) (d : Fid) (n : Name) (copy : Option (Bor Held)) (held : Bor Held) (target : List ℕ) → option_copied copy ≡ finmap.get view d → copy ≡ Some held → held.now.node.kind ≡ Link target → None ≡ child_in view d n
link_none view d n copy held target at is kind = sym (ap (λ c. finmap.get (bindings_of c) n) (sym at ∙ ap option_copied is) ∙ ap (λ k. finmap.get (bindings k) n) kind ∙ finmap.get-empty name_cmp n)

-- what is found is where the names lead at the source
pub found_walked : (views : List View) (from : ℕ) (root : Fid) (names : List Name) (top : Fid) (right : View) → view_of views from ≡ Some right → IsFound views from root names top → walked (objects_of right) (Some root) names ≡ Some top
found_walked [] from root names top right e found = absurd (some_none right (sym e))
found_walked (view ∷ views) from root names top right e found =
    subst (λ o. walked o (Some root) names ≡ Some top) (ap objects_from e)
    (walked_there (held_by (view ∷ views) from) (objects_of view) root names top found.ways.0.leads)

-- nothing is found where the server has no view
pub none_found : (views : List View) (from : ℕ) (root : Fid) (names : List Name) (top : Fid) → view_of views from ≡ None → IsFound views from root names top → ⊥
none_found views from root names top e found =
    true≢false (sym found.there ∙ ap (λ o. has_in (objects_from o) top) e ∙ ap is_some (finmap.get-empty fid_cmp top))

-- ---- room

all_both : {X : Type 0} (P : X → Type 0) (xs : List X) (x : X) → AllByRecursion P xs → P x → AllByRecursion P (xs ++ x ∷ [])
all_both P [] x a p = (p, tt)
all_both P (y ∷ xs) x a p = (a.0, all_both P xs x a.1 p)

pub take_more : {X : Type 0} (xs : List X) (i : ℕ) (d : X) → i < length xs → take (i + 1) xs ≡ take i xs ++ get_or xs i d ∷ []
take_more xs i d lt = let next : i + 1 ≡ suc i = omega arith in ap (λ n. take n xs) next ∙ take-suc xs i d lt

pub all_more : {X : Type 0} (P : X → Type 0) (xs : List X) (i : ℕ) (d : X) → i < length xs → AllByRecursion P (take i xs) → P (get_or xs i d) → AllByRecursion P (take (i + 1) xs)
all_more P xs i d lt a p = subst (AllByRecursion P) (sym (take_more xs i d lt)) (all_both P (take i xs) (get_or xs i d) a p)
