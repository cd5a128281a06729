-- The orders of fids and names tell keys apart, and what a finite map has after a change.
use Rattle.std.proofs.Common.{◌≡◌, ◌≢◌, cond, Some, None, Ordering, refl, sym, ap, ◌∙◌, inl, inr, ◌⊎◌}
use Rattle.std.specs.declared.cmp.Ordering.TheVariants.{Less, Equal, Greater}
use Rattle.std.specs.Ordering.{is_eq}
use Rattle.std.specs.Cmp.{IsTotalOrder}
use Rattle.std.specs.FinMap as map
use Rattle.std.specs.FinMap.{FinMap}
use Rattle.std.proofs.lemmas.Cmp.{nat_list_cmp_total, tied_itself}
use Rattle.std.proofs.lemmas.Map.Lookups.{CmpEqualImpliesEq, exact_bytes}
use Rattle.coda_fid.specs.declared.fid.Fid.{Fid}
use Rattle.coda_fid.proofs.Fids.{exact_fids, fids_total}
use Rattle.coda_tree.specs.Bindings.{Name}

-- two keys are one, or differ
pub cases_by : {K : Type 0} {R : K → K → Ordering} → IsTotalOrder R → CmpEqualImpliesEq R → (a b : K) → (a ≡ b) ⊎ (a ≢ b)
cases_by {R = R} o exact a b =
    elim (R a b) as (λ r. R a b ≡ r → (a ≡ b) ⊎ (a ≢ b)) [
      | Less ↦ λ e. inr (λ same. let t : R a a ≡ Equal = tied_itself o a in cc)
      | Equal ↦ λ e. inl (exact a b e)
      | Greater ↦ λ e. inr (λ same. let t : R a a ≡ Equal = tied_itself o a in cc)
    ] refl

-- two fids are one, or differ
pub fid_cases : (a b : Fid) → (a ≡ b) ⊎ (a ≢ b)
fid_cases = cases_by fids_total exact_fids

-- two names are one, or differ
pub name_cases : (a b : Name) → (a ≡ b) ⊎ (a ≢ b)
name_cases = cases_by nat_list_cmp_total exact_bytes

-- a choice by a key that differs, and by the key itself
pub apart : {K A : Type 0} (R : K → K → Ordering) → CmpEqualImpliesEq R → (q k : K) (x y : A) → q ≢ k → cond (is_eq (R q k)) x y ≡ y
apart R exact q k x y ne = elim (R q k) as (λ r. R q k ≡ r → cond (is_eq r) x y ≡ y) [ Less ↦ λ _. refl | Equal ↦ λ e. absurd (ne (exact q k e)) | Greater ↦ λ _. refl ] refl

pub at_itself : {K A : Type 0} {R : K → K → Ordering} → IsTotalOrder R → (k : K) (x y : A) → cond (is_eq (R k k)) x y ≡ x
at_itself o k x y = ap (λ r. cond (is_eq r) x y) (tied_itself o k)

-- what a finite map has at a key after a change there, and at the others
module _ {K X : Type 0} {R : K → K → Ordering} (o : IsTotalOrder R) where
  pub get_here : (m : FinMap R X) (k : K) (v : X) → map.get (map.insert m k v) k ≡ Some v
  get_here m k v = map.get-insert o m k v k ∙ at_itself o k _ _

  pub gone_here : (m : FinMap R X) (k : K) → map.get (map.remove m k) k ≡ None
  gone_here m k = map.get-remove o m k k ∙ at_itself o k _ _

  pub get_else : CmpEqualImpliesEq R → (m : FinMap R X) (k : K) (v : X) (q : K) → q ≢ k → map.get (map.insert m k v) q ≡ map.get m q
  get_else exact m k v q ne = map.get-insert o m k v q ∙ apart R exact q k _ _ ne

  pub gone_else : CmpEqualImpliesEq R → (m : FinMap R X) (k q : K) → q ≢ k → map.get (map.remove m k) q ≡ map.get m q
  gone_else exact m k q ne = map.get-remove o m k q ∙ apart R exact q k _ _ ne

  -- what was put at a free key and taken out again
  pub insert_removed : CmpEqualImpliesEq R → (m : FinMap R X) (k : K) (v : X) → map.get m k ≡ None → map.remove (map.insert m k v) k ≡ m
  insert_removed exact m k v free = map.same_map o exact _ _ (λ q. elim (cases_by o exact q k) [
    | inl same ↦ ap (map.get (map.remove (map.insert m k v) k)) same ∙ gone_here (map.insert m k v) k ∙ sym (ap (map.get m) same ∙ free)
    | inr other ↦ gone_else exact (map.insert m k v) k q other ∙ get_else exact m k v q other
  ])

  -- what was taken out and put back with another value
  pub insert_over : CmpEqualImpliesEq R → (m : FinMap R X) (k : K) (v : X) → map.insert (map.remove m k) k v ≡ map.insert m k v
  insert_over exact m k v = map.same_map o exact _ _ (λ q. elim (cases_by o exact q k) [
    | inl same ↦ ap (map.get (map.insert (map.remove m k) k v)) same ∙ get_here (map.remove m k) k v ∙ sym (ap (map.get (map.insert m k v)) same ∙ get_here m k v)
    | inr other ↦ get_else exact (map.remove m k) k v q other ∙ gone_else exact m k q other ∙ sym (get_else exact m k v q other)
  ])

  -- what is put at one key and taken out at another, in either order
  pub insert_apart : CmpEqualImpliesEq R → (m : FinMap R X) (gone k : K) (v : X) → k ≢ gone → map.insert (map.remove m gone) k v ≡ map.remove (map.insert m k v) gone
  insert_apart exact m gone k v apart = map.same_map o exact _ _ (λ q. elim (cases_by o exact q k) [
    | inl same ↦
        ap (map.get (map.insert (map.remove m gone) k v)) same ∙ get_here (map.remove m gone) k v
        ∙ sym (ap (map.get (map.remove (map.insert m k v) gone)) same ∙ gone_else exact (map.insert m k v) gone k apart ∙ get_here m k v)
    | inr other ↦ get_else exact (map.remove m gone) k v q other ∙ elim (cases_by o exact q gone) [
      | inl same ↦ ap (map.get (map.remove m gone)) same ∙ gone_here m gone ∙ sym (ap (map.get (map.remove (map.insert m k v) gone)) same ∙ gone_here (map.insert m k v) gone)
      | inr differs ↦ gone_else exact m gone q differs ∙ sym (gone_else exact (map.insert m k v) gone q differs ∙ get_else exact m k v q other)
    ]
  ])

  -- two keys taken out, in either order
  pub remove_order : CmpEqualImpliesEq R → (m : FinMap R X) (a b : K) → map.remove (map.remove m a) b ≡ map.remove (map.remove m b) a
  remove_order exact m a b = map.same_map o exact _ _ (λ q. elim (cases_by o exact q a) [
    | inl at ↦ elim (cases_by o exact q b) [
      | inl same ↦ ap (map.get (map.remove (map.remove m a) b)) same ∙ gone_here (map.remove m a) b ∙ sym (ap (map.get (map.remove (map.remove m b) a)) at ∙ gone_here (map.remove m b) a)
      | inr other ↦ gone_else exact (map.remove m a) b q other ∙ ap (map.get (map.remove m a)) at ∙ gone_here m a ∙ sym (ap (map.get (map.remove (map.remove m b) a)) at ∙ gone_here (map.remove m b) a)
    ]
    | inr away ↦ elim (cases_by o exact q b) [
      | inl same ↦ ap (map.get (map.remove (map.remove m a) b)) same ∙ gone_here (map.remove m a) b ∙ sym (gone_else exact (map.remove m b) a q away ∙ ap (map.get (map.remove m b)) same ∙ gone_here m b)
      | inr other ↦ gone_else exact (map.remove m a) b q other ∙ gone_else exact m a q away ∙ sym (gone_else exact (map.remove m b) a q away ∙ gone_else exact m b q other)
    ]
  ])
