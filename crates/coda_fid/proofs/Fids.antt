-- The order and the test of fids tell fids apart, and a test finds what is among the fids of a list.
use Rattle.std.proofs.Common.{◌≡◌, ◌↔◌, ℕ, suc, true, false, ◌&&◌, ◌||◌, ◌==◌, List, [], ◌∷◌, refl, ap, ◌∙◌, arith}
use Rattle.std.specs.Prelude.{IsTrue}
use Rattle.std.specs.List.{list_any, Contains}
use Rattle.std.specs.Ordering.{nat_cmp, ordering_then}
use Rattle.std.specs.Cmp.{IsTotalOrder}
use Rattle.std.proofs.lemmas.Bool.{and_parts, and_from, eqb-true}
use Rattle.std.proofs.lemmas.Bool.Decides.{nat_tests}
use Rattle.std.proofs.lemmas.List.Folds.{list_any_at}
use Rattle.std.proofs.lemmas.Cmp.{then_total, on_total, nat_cmp_total}
use Rattle.std.proofs.lemmas.Map.Lookups.{CmpEqualImpliesEq, exact_pairs, exact_unsigned}
use Rattle.coda_fid.specs.Fid.{fid_cmp, same_fid}
use Rattle.coda_fid.specs.Op.{fids_of, mentions}
use Rattle.coda_fid.specs.declared.fid.Fid.{Fid}
use Rattle.coda_fid.specs.declared.op.Op.{Op}

-- fids that compare equal are one
pub exact_fids : CmpEqualImpliesEq fid_cmp
exact_fids a b h =
    ap (λ (p : ℕ × (ℕ × ℕ)). let f : Fid = record { volume = p.0; vnode = p.1.0; uniq = p.1.1 } in f)
    (exact_pairs nat_cmp (λ (x y : ℕ × ℕ). ordering_then (nat_cmp x.0 y.0) (nat_cmp x.1 y.1)) exact_unsigned (exact_pairs nat_cmp nat_cmp exact_unsigned exact_unsigned) (a.volume, (a.vnode, a.uniq)) (b.volume, (b.vnode, b.uniq)) h)

-- the order of fids is total
pub fids_total : IsTotalOrder fid_cmp
fids_total = then_total (on_total (λ (f : Fid). f.volume) nat_cmp_total) (then_total (on_total (λ (f : Fid). f.vnode) nat_cmp_total) (on_total (λ (f : Fid). f.uniq) nat_cmp_total))

-- fids that pass the test are one
pub same_fid_is : (a b : Fid) → same_fid a b ≡ true → a ≡ b
same_fid_is a b h =
    let p = and_parts (a.volume == b.volume) ((a.vnode == b.vnode) && (a.uniq == b.uniq)) h in
    let q = and_parts (a.vnode == b.vnode) (a.uniq == b.uniq) p.1 in
    let v = eqb-true a.volume b.volume p.0 in
    let n = eqb-true a.vnode b.vnode q.0 in
    let u = eqb-true a.uniq b.uniq q.1 in
    λ i. record { volume = v i; vnode = n i; uniq = u i }

same_number : (n : ℕ) → (n == n) ≡ true
same_number n = grind (arith, nat_tests)

-- a fid passes the test with itself
pub same_fid_refl : (a : Fid) → same_fid a a ≡ true
same_fid_refl a = and_from _ _ (same_number a.volume) (and_from _ _ (same_number a.vnode) (same_number a.uniq))

-- what a test finds is among the fids
among : (q : Fid) (fs : List Fid) → list_any (λ f. same_fid f q) fs ≡ true → Contains fs q
among q [] h = cc
among q (f ∷ fs) h =
    elim (same_fid f q) as (λ b. same_fid f q ≡ b → (b || list_any (λ f. same_fid f q) fs) ≡ true → Contains (f ∷ fs) q) [
      | true ↦ λ e _. (0, omega arith, same_fid_is f q e)
      | false ↦ λ e rest. let r = among q fs rest in (suc r.0, omega arith, r.2)
    ] refl h

-- whether an operation mentions a fid is whether the fid is among its fields
pub mentioned : (op : Op) (q : Fid) → IsTrue (mentions op q) ↔ Contains (fids_of op) q
mentioned op q = (
  λ h. among q (fids_of op) h,
  λ c. list_any_at (λ f. same_fid f q) (fids_of op) c.0 q c.1 (ap (λ f. same_fid f q) c.2 ∙ same_fid_refl q),
)
