-- Tests of whether two things are the same.
use Rattle.std.proofs.Common.{◌≡◌, ◌≢◌, ℕ, ◌+◌, ◌≤◌, zero, suc, arith, true, List, [], ◌∷◌, slice_get, take, refl, sym, ap, ◌∙◌, subst}
use Rattle.std.specs.FinMap as finmap
use Rattle.std.specs.declared.cmp.Ordering.TheVariants.{Less, Equal, Greater}
use Rattle.std.specs.Ordering.{is_eq}
use Rattle.std.proofs.lemmas.Bool.{true≢false}
use Rattle.std.proofs.lemmas.Cmp.{eq_by_cmp_equiv, nat_list_cmp_total}
use Rattle.std.proofs.lemmas.Map.Lookups.{exact_bytes}
use Rattle.std.proofs.lemmas.List.{take_all}
use Rattle.coda_fid.specs.Name.{name_cmp}
use Rattle.coda_tree.specs.Bindings.{Name, Bindings}

pub name_same : (a b : Name) → Equal ≡ name_cmp a b → a ≡ b
name_same a b e = exact_bytes a b (sym e)

itself : (a : Name) → is_eq (name_cmp a a) ≡ true
itself a = (eq_by_cmp_equiv nat_list_cmp_total).refl a

equal_itself : (a b : Name) → a ≡ b → is_eq (name_cmp a b) ≡ true
equal_itself a b e = subst (λ x. is_eq (name_cmp a x) ≡ true) e (itself a)

pub name_less : (a b : Name) → Less ≡ name_cmp a b → a ≢ b
name_less a b less e = true≢false (sym (equal_itself a b e) ∙ ap is_eq (sym less))

pub name_greater : (a b : Name) → Greater ≡ name_cmp a b → a ≢ b
name_greater a b greater e = true≢false (sym (equal_itself a b e) ∙ ap is_eq (sym greater))

-- fronts that are alike with one item more that is alike
more_same : {X : Type 0} (xs ys : List X) (i : ℕ) → slice_get xs i ≡ slice_get ys i → take i xs ≡ take i ys → take (suc i) xs ≡ take (suc i) ys
more_same [] [] i e front = refl
more_same [] (y ∷ ys) zero e front = absurd cc
more_same [] (y ∷ ys) (suc i) e front = absurd cc
more_same (x ∷ xs) [] zero e front = absurd cc
more_same (x ∷ xs) [] (suc i) e front = absurd cc
more_same (x ∷ xs) (y ∷ ys) zero e front = let same : x ≡ y = cc in λ j. same j ∷ []
more_same (x ∷ xs) (y ∷ ys) (suc i) e front =
    let first : x ≡ y = cc in
    let rest : take i xs ≡ take i ys = cc in
    λ j. first j ∷ more_same xs ys i e rest j

pub front_same : {X : Type 0} (xs ys : List X) (i : ℕ) → slice_get xs i ≡ slice_get ys i → take i xs ≡ take i ys → take (i + 1) xs ≡ take (i + 1) ys
front_same xs ys i e front = let next : i + 1 ≡ suc i = omega arith in ap (λ n. take n xs) next ∙ more_same xs ys i e front ∙ ap (λ n. take n ys) (sym next)

pub entries_same : (one other : Bindings) (i : ℕ) → finmap.len one ≤ i → finmap.len one ≡ finmap.len other → take i (finmap.entries one) ≡ take i (finmap.entries other) → one ≡ other
entries_same one other i le long front =
    finmap.same_entries_map one other (sym (take_all i (finmap.entries one) (let n = finmap.len-entries one in omega arith)) ∙ front ∙ take_all i (finmap.entries other) (let n = finmap.len-entries other in omega arith))
