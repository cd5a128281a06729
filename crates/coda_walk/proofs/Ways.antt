-- Ways up, and the part of them that is new.
use Rattle.std.proofs.Common.{◌≡◌, ℕ, zero, suc, ◌<◌, ◌≤◌, ◌⊎◌, Bool, true, false, cond, ◌||◌, List, [], ◌∷◌, ◌++◌, Option, Some, None, refl, sym, ap, ◌∙◌, subst, inl, inr, arith}
use Rattle.std.specs.Prelude.{⊤}
use Rattle.std.specs.Option.{option_map_or}
use Rattle.std.proofs.lemmas.Bool.{both_ways, false_from_ne_true}
use Rattle.coda_fid.specs.declared.fid.Fid.{Fid}
use Rattle.coda_fid.specs.Fid.{same_fid}
use Rattle.coda_fid.proofs.Fids.{same_fid_is, same_fid_refl}
use Rattle.coda_walk.specs.declared.item.Item.{Item}
use Rattle.coda_walk.specs.Going.{is_listed}
use Rattle.coda_walk.specs.Planning.{parent_at, way_within}
use Rattle.coda_walk.specs.Climbing.{unless, new_on}

-- the way up from a fid, where there is one
abbrev pub way_on : List Item → ℕ → Option Fid → List Fid
way_on items steps None = []
way_on items steps (Some f) = way_within items steps f

-- with what is in a set its parent is
abbrev pub IsClosed : List Item → (Fid → Bool) → Type 0
IsClosed items test = (f p : Fid) → test f ≡ true → parent_at items f ≡ Some p → test p ≡ true

-- none of the fids passes the test, and none stands twice
abbrev pub AreNew : (Fid → Bool) → List Fid → Type 0
AreNew test [] = ⊤
AreNew test (f ∷ fids) = (test f ≡ false) × ((is_listed fids f ≡ false) × AreNew test fids)

-- a fid is the first of a list or among the others
pub first_or_later : (f : Fid) (fids : List Fid) (g : Fid) → is_listed (f ∷ fids) g ≡ true → (f ≡ g) ⊎ (is_listed fids g ≡ true)
first_or_later f fids g h = (elim (same_fid f g) as (λ b. same_fid f g ≡ b → (b || is_listed fids g) ≡ true → (f ≡ g) ⊎ (is_listed fids g ≡ true)) [
  | true ↦ λ t k. inl (same_fid_is f g t)
  | false ↦ λ t k. inr k
]) refl h

pub listed_both : (fids more : List Fid) (g : Fid) → is_listed (fids ++ more) g ≡ (is_listed fids g || is_listed more g)
listed_both [] more g = refl
listed_both (f ∷ fids) more g = ap (λ b. same_fid f g || b) (listed_both fids more g) ∙ elim (same_fid f g) as (λ b. (b || (is_listed fids g || is_listed more g)) ≡ ((b || is_listed fids g) || is_listed more g)) [ true ↦ refl | false ↦ refl ]

pub or_later : (a b : Bool) → b ≡ true → (a || b) ≡ true
or_later true b h = refl
or_later false b h = h

-- ---- of a closed set

pub closed_way : (items : List Item) (test : Fid → Bool) → IsClosed items test → (n : ℕ) (f : Fid) → test f ≡ true → (g : Fid) → is_listed (way_within items n f) g ≡ true → test g ≡ true
closed_way items test closed zero f k g h = cc
closed_way items test closed (suc n) f k g h = elim (first_or_later f _ g h) [
  | inl same ↦ subst (λ x. test x ≡ true) same k
  | inr later ↦ (elim (parent_at items f) as (λ o. parent_at items f ≡ o → is_listed (option_map_or (λ p. way_within items n p) o []) g ≡ true → test g ≡ true) [
    | None ↦ λ e l. cc
    | Some p ↦ λ e l. closed_way items test closed n p (closed f p k e) g l
  ]) refl later
]

pub new_none : (items : List Item) (test : Fid → Bool) (n : ℕ) → new_on items test n None ≡ []
new_none items test zero = refl
new_none items test (suc n) = refl

-- what is on the way up and not in the set is new
pub new_listed : (items : List Item) (test : Fid → Bool) → IsClosed items test → (g : Fid) → test g ≡ false → (n : ℕ) (f : Fid) → is_listed (way_within items n f) g ≡ is_listed (new_on items test n (unless test (Some f))) g
new_listed items test closed g out zero f = refl
new_listed items test closed g out (suc n) f = (elim (test f) as (λ b. test f ≡ b → is_listed (way_within items (suc n) f) g ≡ is_listed (new_on items test (suc n) (cond b None (Some f))) g) [
  | true ↦ λ t. false_from_ne_true _ (λ l. both_ways _ out (closed_way items test closed (suc n) f t g l))
  | false ↦ λ t. ap (λ b. same_fid f g || b) (elim (parent_at items f) as (λ o. is_listed (option_map_or (λ p. way_within items n p) o []) g ≡ is_listed (new_on items test n (unless test o)) g) [
    | None ↦ ap (λ l. is_listed l g) (sym (new_none items test n))
    | Some p ↦ new_listed items test closed g out n p
  ])
]) refl

pub kept_and_new : (items : List Item) (test : Fid → Bool) → IsClosed items test → (n : ℕ) (f g : Fid) → (test g || is_listed (way_within items n f) g) ≡ (test g || is_listed (new_on items test n (unless test (Some f))) g)
kept_and_new items test closed n f g = (elim (test g) as (λ b. test g ≡ b → (b || is_listed (way_within items n f) g) ≡ (b || is_listed (new_on items test n (unless test (Some f))) g)) [
  | true ↦ λ t. refl
  | false ↦ λ t. new_listed items test closed g t n f
]) refl

-- ---- by depth

module _ (items : List Item) (depth : Fid → ℕ) (deeper : (f p : Fid) → parent_at items f ≡ Some p → depth p < depth f) where
  -- what is new is no deeper
  pub new_fall : (test : Fid → Bool) (n : ℕ) (f g : Fid) → is_listed (new_on items test n (Some f)) g ≡ true → depth g ≤ depth f
  new_fall test zero f g h = cc
  new_fall test (suc n) f g h = elim (first_or_later f _ g h) [
    | inl same ↦ subst (λ x. depth x ≤ depth f) same (omega arith)
    | inr later ↦ (elim (parent_at items f) as (λ o. parent_at items f ≡ o → is_listed (new_on items test n (unless test o)) g ≡ true → depth g ≤ depth f) [
      | None ↦ λ e l. absurd (both_ways _ (ap (λ l. is_listed l g) (new_none items test n)) l)
      | Some p ↦ λ e. elim (test p) as (λ b. is_listed (new_on items test n (cond b None (Some p))) g ≡ true → depth g ≤ depth f) [
        | true ↦ λ l. absurd (both_ways _ (ap (λ l. is_listed l g) (new_none items test n)) l)
        | false ↦ λ l. let less = new_fall test n p g l in let up = deeper f p e in omega (arith, less, up)
      ]
    ]) refl later
  ]

  pub are_new : (test : Fid → Bool) (n : ℕ) (o : Option Fid) → AreNew test (new_on items test n (unless test o))
  are_new test zero o = tt
  are_new test (suc n) None = tt
  are_new test (suc n) (Some f) = (elim (test f) as (λ b. test f ≡ b → AreNew test (new_on items test (suc n) (cond b None (Some f)))) [
    | true ↦ λ t. tt
    | false ↦ λ t. (t, (false_from_ne_true _ (λ l. above (parent_at items f) refl l), are_new test n (parent_at items f)))
  ]) refl
    where
      above : (o : Option Fid) → parent_at items f ≡ o → is_listed (new_on items test n (unless test o)) f ≡ true → ⊥
      above None e l = both_ways _ (ap (λ l. is_listed l f) (new_none items test n)) l
      above (Some p) e l = (elim (test p) as (λ b. is_listed (new_on items test n (cond b None (Some p))) f ≡ true → ⊥) [
        | true ↦ λ l. both_ways _ (ap (λ l. is_listed l f) (new_none items test n)) l
        | false ↦ λ l. let less = new_fall test n p f l in let up = deeper f p e in omega (arith, less, up)
      ]) l

  -- a way up that is long enough has the parent of each that it has
  pub way_closed : (n : ℕ) (f : Fid) → ((p : Fid) → parent_at items f ≡ Some p → depth f < n) → (g p : Fid) → is_listed (way_within items n f) g ≡ true → parent_at items g ≡ Some p → is_listed (way_within items n f) p ≡ true
  way_closed zero f bounded g p h e = cc
  way_closed (suc n) f bounded g p h e = elim (first_or_later f _ g h) [
    | inl same ↦
        let up : parent_at items f ≡ Some p = ap (parent_at items) same ∙ e in
        let less = deeper f p up in
        let far = bounded p up in
        ap (λ o. is_listed (f ∷ option_map_or (λ q. way_within items n q) o []) p) up ∙ or_later (same_fid f p) _ (begins n p (omega (arith, less, far)))
    | inr later ↦ (elim (parent_at items f) as (λ o. parent_at items f ≡ o → is_listed (option_map_or (λ q. way_within items n q) o []) g ≡ true → is_listed (f ∷ option_map_or (λ q. way_within items n q) o []) p ≡ true) [
      | None ↦ λ u l. cc
      | Some q ↦ λ u l.
          let less = deeper f q u in
          let far = bounded q u in
          or_later (same_fid f p) _ (way_closed n q (λ r v. omega (arith, less, far)) g p l e)
    ]) refl later
  ]
    where
      begins : (m : ℕ) (q : Fid) → depth q < m → is_listed (way_within items m q) q ≡ true
      begins zero q l = absurd (omega (arith, l))
      begins (suc m) q l = ap (λ b. b || is_listed (option_map_or (λ r. way_within items m r) (parent_at items q) []) q) (same_fid_refl q)
