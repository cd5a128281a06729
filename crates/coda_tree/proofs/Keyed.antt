-- What a list of entries keeps as a finite map, and what a change of the entries makes of it.
use Rattle.std.proofs.Common.{◌≡◌, ◌≢◌, true, false, cond, List, [], ◌∷◌, Option, Some, None, option_map, refl, sym, ap, ◌∙◌, subst, inl, inr}
use Rattle.std.specs.Ordering.{is_eq}
use Rattle.std.specs.Map.{lookup, keys_of}
use Rattle.std.specs.List.{AllByRecursion, IsDistinct}
use Rattle.std.specs.declared.cmp.Ordering.TheVariants.{Less, Equal, Greater}
use Rattle.std.proofs.lemmas.Cmp.{tied_itself}
use Rattle.std.specs.FinMap as map
use Rattle.std.specs.FinMap.{FinMap, find}
use Rattle.coda_fid.specs.Fid.{fid_cmp, same_fid}
use Rattle.coda_fid.specs.declared.fid.Fid.{Fid}
use Rattle.coda_fid.proofs.Fids.{fids_total, exact_fids, same_fid_is, same_fid_refl}
use Rattle.coda_tree.specs.Table.{or_else}
use Rattle.coda_tree.specs.Slots.{keyed, altered, altered_at}
use Rattle.coda_tree.proofs.Order.{fid_cases, get_here, get_else, gone_here, gone_else}

-- what is kept at f
abbrev pub kept_at : {X : Type 0} → List (Fid × X) → Fid → Option X
kept_at entries f = lookup (same_fid f) entries

-- a fid does not pass the test with another
pub not_same : (a b : Fid) → a ≢ b → same_fid a b ≡ false
not_same a b other = elim (same_fid a b) as (λ t. same_fid a b ≡ t → t ≡ false) [ true ↦ λ e. absurd (other (same_fid_is a b e)) | false ↦ λ _. refl ] refl

-- the test and the order agree
is_same : (a b : Fid) → is_eq (fid_cmp a b) ≡ same_fid a b
is_same a b = elim (fid_cases a b) [
  | inl same ↦ ap (λ x. is_eq (fid_cmp x b)) same ∙ ap is_eq (tied_itself fids_total b) ∙ sym (ap (λ x. same_fid x b) same ∙ same_fid_refl b)
  | inr other ↦ elim (fid_cmp a b) as (λ r. fid_cmp a b ≡ r → is_eq r ≡ false) [ Less ↦ λ _. refl | Equal ↦ λ e. absurd (other (exact_fids a b e)) | Greater ↦ λ _. refl ] refl ∙ sym (not_same a b other)
]

-- a choice by a fid, at it and elsewhere
pub changed_here : {A : Type 0} (k : Fid) (x y : A) → cond (same_fid k k) x y ≡ x
changed_here k x y = ap (λ t. cond t x y) (same_fid_refl k)

pub changed_else : {A : Type 0} (k q : Fid) (x y : A) → q ≢ k → cond (same_fid k q) x y ≡ y
changed_else k q x y ne = ap (λ t. cond t x y) (not_same k q (λ same. ne (sym same)))

module _ {X : Type 0} where
  -- ---- a value changed

  altered_is : (s : FinMap fid_cmp X) (f : Fid) (change : X → X) (x : X) → map.get s f ≡ Some x → altered s f change ≡ map.insert s f (change x)
  altered_is s f change x is = ap (λ o. altered_at o s f change) is

  -- what a change leaves at the fid, whether or not a value is there
  pub at_altered : (s : FinMap fid_cmp X) (f : Fid) (change : X → X) → map.get (altered s f change) f ≡ option_map change (map.get s f)
  at_altered s f change = elim (map.get s f) as (λ o. map.get s f ≡ o → map.get (altered s f change) f ≡ option_map change o) [
    | None ↦ λ none. ap (λ o. map.get (altered_at o s f change) f) none ∙ none
    | Some x ↦ λ is. ap (λ n. map.get n f) (altered_is s f change x is) ∙ get_here fids_total s f (change x)
  ] refl

  -- and elsewhere
  pub off_altered : (s : FinMap fid_cmp X) (f : Fid) (change : X → X) (q : Fid) → q ≢ f → map.get (altered s f change) q ≡ map.get s q
  off_altered s f change q other = elim (map.get s f) as (λ o. map.get s f ≡ o → map.get (altered s f change) q ≡ map.get s q) [
    | None ↦ λ none. ap (λ o. map.get (altered_at o s f change) q) none
    | Some x ↦ λ is. ap (λ n. map.get n q) (altered_is s f change x is) ∙ get_else fids_total exact_fids s f (change x) q other
  ] refl

  -- ---- the map of a list of entries

  find_lookup : (entries : List (Fid × X)) (q : Fid) → find fid_cmp q entries ≡ kept_at entries q
  find_lookup [] q = refl
  find_lookup (e ∷ entries) q = ap (cond (is_eq (fid_cmp q e.0)) (Some e.1)) (find_lookup entries q) ∙ ap (λ t. cond t (Some e.1) (kept_at entries q)) (is_same q e.0)

  -- the finite map has what is kept
  pub get_keyed : (entries : List (Fid × X)) (q : Fid) → map.get (keyed entries) q ≡ kept_at entries q
  get_keyed entries q = map.get-from_entries fids_total entries q ∙ find_lookup entries q

  -- entries that keep the same
  pub keyed_same : (old new : List (Fid × X)) → ((q : Fid) → kept_at new q ≡ kept_at old q) → keyed new ≡ keyed old
  keyed_same old new same = map.same_map fids_total exact_fids _ _ (λ q. get_keyed new q ∙ same q ∙ sym (get_keyed old q))

  -- a value put
  pub keyed_put : (old new : List (Fid × X)) (f : Fid) (x : X) → ((q : Fid) → kept_at new q ≡ cond (same_fid f q) (Some x) (kept_at old q)) → keyed new ≡ map.insert (keyed old) f x
  keyed_put old new f x put = map.same_map fids_total exact_fids _ _ (λ q. get_keyed new q ∙ put q ∙ elim (fid_cases q f) [
    | inl same ↦ ap (λ e. cond (same_fid f e) (Some x) (kept_at old q)) same ∙ changed_here f (Some x) (kept_at old q) ∙ sym (ap (map.get (map.insert (keyed old) f x)) same ∙ get_here fids_total (keyed old) f x)
    | inr other ↦ changed_else f q (Some x) (kept_at old q) other ∙ sym (get_keyed old q) ∙ sym (get_else fids_total exact_fids (keyed old) f x q other)
  ])

  -- a value taken out
  pub keyed_taken_out : (old new : List (Fid × X)) (f : Fid) → ((q : Fid) → kept_at new q ≡ cond (same_fid f q) None (kept_at old q)) → keyed new ≡ map.remove (keyed old) f
  keyed_taken_out old new f out = map.same_map fids_total exact_fids _ _ (λ q. get_keyed new q ∙ out q ∙ elim (fid_cases q f) [
    | inl same ↦ ap (λ e. cond (same_fid f e) None (kept_at old q)) same ∙ changed_here f None (kept_at old q) ∙ sym (ap (map.get (map.remove (keyed old) f)) same ∙ gone_here fids_total (keyed old) f)
    | inr other ↦ changed_else f q None (kept_at old q) other ∙ sym (get_keyed old q) ∙ sym (gone_else fids_total exact_fids (keyed old) f q other)
  ])

  -- a value changed, where there is one
  pub keyed_altered : (old new : List (Fid × X)) (f : Fid) (change : X → X) → ((q : Fid) → kept_at new q ≡ cond (same_fid f q) (option_map change (kept_at old f)) (kept_at old q)) → keyed new ≡ altered (keyed old) f change
  keyed_altered old new f change changes = map.same_map fids_total exact_fids _ _ (λ q. get_keyed new q ∙ changes q ∙ elim (fid_cases q f) [
    | inl at ↦
        ap (λ e. cond (same_fid f e) (option_map change (kept_at old f)) (kept_at old q)) at ∙ changed_here f _ (kept_at old q) ∙ ap (option_map change) (sym (get_keyed old f))
        ∙ sym (ap (map.get (altered (keyed old) f change)) at ∙ at_altered (keyed old) f change)
    | inr away ↦ changed_else f q _ (kept_at old q) away ∙ sym (get_keyed old q) ∙ sym (off_altered (keyed old) f change q away)
  ])

  -- a fid that differs from each key has nothing
  pub absent_none : (k : Fid) (entries : List (Fid × X)) → AllByRecursion (λ y. same_fid k y ≡ false) (keys_of entries) → kept_at entries k ≡ None
  absent_none k [] h = refl
  absent_none k (e ∷ entries) h = ap (λ t. cond t (Some e.1) (kept_at entries k)) h.0 ∙ absent_none k entries h.1

  -- ---- a copy: o is copied, m is copied so far, and m' with one value more

  pub or_none : (o : Option X) → or_else o None ≡ o
  or_none None = refl
  or_none (Some x) = refl

  pub copy_step : (o : Fid → Option X) (m m' : FinMap fid_cmp X) (left rest : List (Fid × X)) (k : Fid) (x : X) → left ≡ (k, x) ∷ rest → m' ≡ map.insert m k x → IsDistinct same_fid (keys_of left)
      → ((q : Fid) → o q ≡ or_else (kept_at left q) (map.get m q)) → (IsDistinct same_fid (keys_of rest)) × ((q : Fid) → o q ≡ or_else (kept_at rest q) (map.get m' q))
  unfolding IsDistinct
  copy_step o m m' left rest k x is put distinct same =
      let up : IsDistinct same_fid (keys_of ((k, x) ∷ rest)) = subst (λ (l : List (Fid × X)). IsDistinct same_fid (keys_of l)) is distinct in
      let was : (q : Fid) → o q ≡ or_else (cond (same_fid q k) (Some x) (kept_at rest q)) (map.get m q) = λ q. same q ∙ ap (λ (l : List (Fid × X)). or_else (kept_at l q) (map.get m q)) is in (
        up.1,
        λ q. elim (fid_cases q k) [
          | inl at ↦
              was q ∙ ap (λ e. or_else (cond (same_fid e k) (Some x) (kept_at rest q)) (map.get m q)) at ∙ ap (λ y. or_else y (map.get m q)) (changed_here k (Some x) (kept_at rest q))
              ∙ sym (ap (λ e. or_else (kept_at rest e) (map.get m' e)) at ∙ ap (λ y. or_else y (map.get m' k)) (absent_none k rest up.0) ∙ ap (λ (n : FinMap fid_cmp X). map.get n k) put ∙ get_here fids_total m k x)
          | inr other ↦
              was q ∙ ap (λ y. or_else y (map.get m q)) (changed_else q k (Some x) (kept_at rest q) (λ same. other (sym same)))
              ∙ ap (λ y. or_else (kept_at rest q) y) (sym (ap (λ (n : FinMap fid_cmp X). map.get n q) put ∙ get_else fids_total exact_fids m k x q other))
        ],
      )

  -- and once nothing is left
  pub copied : (entries : List (Fid × X)) (m : FinMap fid_cmp X) → ((q : Fid) → kept_at entries q ≡ map.get m q) → m ≡ keyed entries
  copied entries m same = map.same_map fids_total exact_fids _ _ (λ q. sym (same q) ∙ sym (get_keyed entries q))
