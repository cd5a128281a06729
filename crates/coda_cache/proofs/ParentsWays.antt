-- A way up by parents that meets a node meets it within as many steps as other nodes have a parent.
use Rattle.std.proofs.Common.{◌≡◌, ◌≢◌, ℕ, zero, suc, ◌+◌, ◌-◌, ◌≤◌, Bool, true, false, cond, ◌||◌, Option, Some, None, is_some, refl, sym, ap, ◌∙◌, inl, inr, ◌⊎◌, arith}
use Rattle.std.specs.Option.{option_map_or}
use Rattle.std.specs.FinMap as map
use Rattle.std.proofs.lemmas.Bool.{both_ways}
use Rattle.coda_fid.specs.declared.fid.Fid.{Fid}
use Rattle.coda_fid.specs.Fid.{fid_cmp, same_fid}
use Rattle.coda_fid.proofs.Fids.{fids_total, exact_fids, same_fid_refl}
use Rattle.coda_tree.proofs.Order.{fid_cases, gone_here, gone_else}
use Rattle.coda_cache.specs.Parents.{Parents, below_within}

or_true : (b : Bool) → (b || true) ≡ true
or_true true = refl
or_true false = refl

or_none : (b : Bool) → (b || false) ≡ b
or_none true = refl
or_none false = refl

alike : (a b : Bool) → (a ≡ true → b ≡ true) → (b ≡ true → a ≡ true) → a ≡ b
alike true b on back = sym (on refl)
alike false true on back = back refl
alike false false on back = refl

-- ---- more steps meet no less

one_more : (parents : Parents) (n : ℕ) (f g : Fid) → below_within parents n f g ≡ true → below_within parents (suc n) f g ≡ true
one_more parents zero f g h = ap (λ b. b || option_map_or (λ p. below_within parents zero p g) (map.get parents f) false) h
one_more parents (suc n) f g h = (elim (same_fid f g) as (λ b. (b || option_map_or (λ p. below_within parents n p g) (map.get parents f) false) ≡ true → (b || option_map_or (λ p. below_within parents (suc n) p g) (map.get parents f) false) ≡ true) [
  | true ↦ λ _. refl
  | false ↦ λ rest. (elim (map.get parents f) as (λ o. option_map_or (λ p. below_within parents n p g) o false ≡ true → option_map_or (λ p. below_within parents (suc n) p g) o false ≡ true) [
    | None ↦ λ no. no
    | Some p ↦ λ on. one_more parents n p g on
  ]) rest
]) h

some_more : (parents : Parents) (n more : ℕ) (f g : Fid) → below_within parents n f g ≡ true → below_within parents (n + more) f g ≡ true
some_more parents n zero f g h = let same : n + 0 ≡ n = omega arith in ap (λ m. below_within parents m f g) same ∙ h
some_more parents n (suc more) f g h =
    let same : n + suc more ≡ suc (n + more) = omega arith in
    ap (λ m. below_within parents m f g) same ∙ one_more parents (n + more) f g (some_more parents n more f g h)

within_more : (parents : Parents) (n m : ℕ) (f g : Fid) → n ≤ m → below_within parents n f g ≡ true → below_within parents m f g ≡ true
within_more parents n m f g few h = let same : n + (m - n) ≡ m = omega (arith, few) in sym (ap (λ k. below_within parents k f g) same) ∙ some_more parents n (m - n) f g h

-- ---- without the parent of one node

-- what is met without it is met
met_still : (parents : Parents) (k : Fid) (n : ℕ) (f g : Fid) → below_within (map.remove parents k) n f g ≡ true → below_within parents n f g ≡ true
met_still parents k zero f g h = h
met_still parents k (suc n) f g h = (elim (same_fid f g) as (λ b. (b || option_map_or (λ p. below_within (map.remove parents k) n p g) (map.get (map.remove parents k) f) false) ≡ true → (b || option_map_or (λ p. below_within parents n p g) (map.get parents f) false) ≡ true) [
  | true ↦ λ _. refl
  | false ↦ λ rest. elim (fid_cases f k) [
    | inl at ↦ absurd (both_ways _ (ap (λ o. option_map_or (λ p. below_within (map.remove parents k) n p g) o false) (ap (map.get (map.remove parents k)) at ∙ gone_here fids_total parents k)) rest)
    | inr apart ↦ (elim (map.get parents f) as (λ o. option_map_or (λ p. below_within (map.remove parents k) n p g) o false ≡ true → option_map_or (λ p. below_within parents n p g) o false ≡ true) [
      | None ↦ λ no. no
      | Some p ↦ λ on. met_still parents k n p g on
    ]) (ap (λ o. option_map_or (λ p. below_within (map.remove parents k) n p g) o false) (sym (gone_else fids_total exact_fids parents k f apart)) ∙ rest)
  ]
]) h

-- what is met on a way is met without the parent of a node, or from that node
met_from : (parents : Parents) (k : Fid) (n : ℕ) (f g : Fid) → below_within parents n f g ≡ true → (below_within (map.remove parents k) n f g ≡ true) ⊎ (below_within parents n k g ≡ true)
met_from parents k zero f g h = inl h
met_from parents k (suc n) f g h = elim (fid_cases f k) [
  | inl at ↦ inr (sym (ap (λ x. below_within parents (suc n) x g) at) ∙ h)
  | inr apart ↦ (elim (same_fid f g) as (λ b. (b || option_map_or (λ p. below_within parents n p g) (map.get parents f) false) ≡ true
      → ((b || option_map_or (λ p. below_within (map.remove parents k) n p g) (map.get (map.remove parents k) f) false) ≡ true) ⊎ (below_within parents (suc n) k g ≡ true)) [
        | true ↦ λ _. inl refl
        | false ↦ λ rest. (elim (map.get parents f) as (λ o. map.get parents f ≡ o → option_map_or (λ p. below_within parents n p g) o false ≡ true
            → (option_map_or (λ p. below_within (map.remove parents k) n p g) (map.get (map.remove parents k) f) false ≡ true) ⊎ (below_within parents (suc n) k g ≡ true)) [
              | None ↦ λ _ no. absurd (both_ways _ refl no)
              | Some p ↦ λ is on. elim (met_from parents k n p g on) [
                | inl b ↦ inl (ap (λ o. option_map_or (λ q. below_within (map.remove parents k) n q g) o false) (gone_else fids_total exact_fids parents k f apart ∙ is) ∙ b)
                | inr b ↦ inr (one_more parents n k g b)
              ]
            ]) refl rest
      ]) h
]

-- the parent of the node that is met doesn't count
met_alike : (parents : Parents) (n : ℕ) (f g : Fid) → below_within parents n f g ≡ below_within (map.remove parents g) n f g
met_alike parents zero f g = refl
met_alike parents (suc n) f g = (elim (same_fid f g) as (λ b. same_fid f g ≡ b → (b || option_map_or (λ p. below_within parents n p g) (map.get parents f) false) ≡ (b || option_map_or (λ p. below_within (map.remove parents g) n p g) (map.get (map.remove parents g) f) false)) [
  | true ↦ λ _. refl
  | false ↦ λ e.
      let apart : f ≢ g = λ at. both_ways _ e (ap (λ x. same_fid x g) at ∙ same_fid_refl g) in
      (elim (map.get parents f) as (λ o. option_map_or (λ p. below_within parents n p g) o false ≡ option_map_or (λ p. below_within (map.remove parents g) n p g) o false) [
        | None ↦ refl
        | Some p ↦ met_alike parents n p g
      ]) ∙ ap (λ o. option_map_or (λ p. below_within (map.remove parents g) n p g) o false) (sym (gone_else fids_total exact_fids parents g f apart))
]) refl

-- ---- as many steps as there are parents

no_parent : (parents : Parents) (f : Fid) → map.len parents ≤ 0 → map.get parents f ≡ None
no_parent parents f few = ap (λ (m : Parents). map.get m f) (map.empty_of_len parents (omega (arith, few))) ∙ map.get-empty fid_cmp f

one_less : (parents : Parents) (k : ℕ) (f p : Fid) → map.len parents ≤ suc k → map.get parents f ≡ Some p → map.len (map.remove parents f) ≤ k
one_less parents k f p few is =
    let less : map.len (map.remove parents f) ≡ map.len parents - 1 = map.len-remove fids_total parents f ∙ ap (λ (o : Option Fid). cond (is_some o) (map.len parents - 1) (map.len parents)) is in
    omega (arith, few, less)

-- a node that is met is met within as many steps as there are parents
met_within : (k : ℕ) (parents : Parents) → map.len parents ≤ k → (n : ℕ) (f g : Fid) → below_within parents n f g ≡ true → below_within parents k f g ≡ true
met_within zero parents few zero f g h = h
met_within zero parents few (suc n) f g h =
    sym (ap (λ o. same_fid f g || option_map_or (λ p. below_within parents n p g) o false) (no_parent parents f few) ∙ or_none (same_fid f g)) ∙ h
met_within (suc k) parents few zero f g h = within_more parents zero (suc k) f g (omega arith) h
met_within (suc k) parents few (suc n) f g h = (elim (same_fid f g) as (λ b. same_fid f g ≡ b → (b || option_map_or (λ p. below_within parents n p g) (map.get parents f) false) ≡ true → below_within parents (suc k) f g ≡ true) [
  | true ↦ λ e _. ap (λ b. b || option_map_or (λ p. below_within parents k p g) (map.get parents f) false) e
  | false ↦ λ e rest. (elim (map.get parents f) as (λ o. map.get parents f ≡ o → option_map_or (λ p. below_within parents n p g) o false ≡ true → below_within parents (suc k) f g ≡ true) [
    | None ↦ λ _ no. absurd (both_ways _ refl no)
    | Some p ↦ λ is on. elim (met_from parents f n p g on) [
      | inl b ↦
          let near = met_still parents f k p g (met_within k (map.remove parents f) (one_less parents k f p few is) n p g b) in
          ap (λ o. same_fid f g || option_map_or (λ q. below_within parents k q g) o false) is ∙ ap (λ b. same_fid f g || b) near ∙ or_true (same_fid f g)
      | inr b ↦ met_within (suc k) parents few n f g b
    ]
  ]) refl rest
]) refl h

-- ways of as many steps as other nodes have a parent, or of more, meet the same
pub within_alike : (parents : Parents) (g : Fid) (n m : ℕ) (f : Fid) → map.len (map.remove parents g) ≤ n → map.len (map.remove parents g) ≤ m → below_within parents n f g ≡ below_within parents m f g
within_alike parents g n m f few enough = alike (below_within parents n f g) (below_within parents m f g) (on n m enough) (on m n few)
  where
    on : (n m : ℕ) → map.len (map.remove parents g) ≤ m → below_within parents n f g ≡ true → below_within parents m f g ≡ true
    on n m few h = met_alike parents m f g ∙ met_within m (map.remove parents g) few n f g (sym (met_alike parents n f g) ∙ h)
