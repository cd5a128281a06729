-- The order of use, as the entries of a map that has the most recently used first.
use Rattle.std.proofs.Common.{◌≡◌, ℕ, zero, suc, ◌≤◌, Bool, true, false, cond, not, ◌||◌, List, [], ◌∷◌, ◌++◌, length, take, Some, None, is_some, refl, sym, ap, ◌∙◌, subst, arith, append-nil}
use Rattle.std.specs.Prelude.{reverse}
use Rattle.std.specs.List.{filter, IsDistinct, AllByRecursion}
use Rattle.std.specs.Map.{keys_of, lookup, lookup_entry, remove_entry}
use Rattle.std.specs.Option.{option_map_or}
use Rattle.std.proofs.lemmas.Bool.{both_ways, false_from_ne_true}
use Rattle.std.proofs.lemmas.List.{reverse-append}
use Rattle.std.proofs.lemmas.List.Sorted.{list_any-IsPermutation, IsPermutation-reverse}
use Rattle.std.proofs.lemmas.Option.{none-some, same_Some}
use Rattle.coda_fid.specs.declared.fid.Fid.{Fid}
use Rattle.coda_fid.specs.Fid.{same_fid}
use Rattle.coda_fid.proofs.Fids.{same_fid_is, same_fid_refl}
use Rattle.lru.specs.LruCache.{promoted}
use Rattle.coda_cache.specs.Uses.{latest, except, in_order}
use Rattle.coda_walk.specs.Going.{is_listed}

-- the test of fids the other way round
pub same_turned : (a b : Fid) → same_fid a b ≡ same_fid b a
same_turned a b = (elim (same_fid b a) as (λ x. same_fid b a ≡ x → same_fid a b ≡ x) [
  | true ↦ λ h. subst (λ c. same_fid a c ≡ true) (sym (same_fid_is b a h)) (same_fid_refl a)
  | false ↦ λ h. false_from_ne_true _ (λ t. both_ways _ h (subst (λ c. same_fid b c ≡ true) (sym (same_fid_is a b t)) (same_fid_refl b)))
]) refl

-- ---- lists the other way round

pub filter_joined : {X : Type 0} (p : X → Bool) (xs ys : List X) → filter p (xs ++ ys) ≡ filter p xs ++ filter p ys
filter_joined p [] ys = refl
filter_joined p (x ∷ xs) ys = elim (p x) as (λ b. cond b (x ∷ filter p (xs ++ ys)) (filter p (xs ++ ys)) ≡ cond b (x ∷ filter p xs) (filter p xs) ++ filter p ys) [
  | true ↦ ap (λ l. x ∷ l) (filter_joined p xs ys)
  | false ↦ filter_joined p xs ys
]

pub filter_reversed : {X : Type 0} (p : X → Bool) (xs : List X) → filter p (reverse xs) ≡ reverse (filter p xs)
filter_reversed p [] = refl
filter_reversed p (x ∷ xs) =
    ap (filter p) (reverse-append (x ∷ []) xs) ∙ filter_joined p (reverse xs) (x ∷ []) ∙ ap (λ l. l ++ filter p (x ∷ [])) (filter_reversed p xs)
    ∙ elim (p x) as (λ b. reverse (filter p xs) ++ cond b (x ∷ []) [] ≡ reverse (cond b (x ∷ filter p xs) (filter p xs))) [
      | true ↦ sym (reverse-append (x ∷ []) (filter p xs))
      | false ↦ append-nil (reverse (filter p xs))
    ]

pub listed_reversed : (fids : List Fid) (f : Fid) → is_listed (reverse fids) f ≡ is_listed fids f
listed_reversed fids f = sym (list_any-IsPermutation (λ g. same_fid g f) fids (reverse fids) (IsPermutation-reverse fids))

-- ---- by a test that only f passes

module _ (test : Fid → Bool) (f : Fid) (only : (g : Fid) → test g ≡ same_fid g f) where
  pub found : (es : List (Fid × Unit {0})) → is_some (lookup test es) ≡ is_listed (keys_of es) f
  found [] = refl
  found (e ∷ es) = ap (λ b. is_some (cond b (Some e.1) (lookup test es))) (only e.0) ∙ elim (same_fid e.0 f) as (λ b. is_some (cond b (Some e.1) (lookup test es)) ≡ (b || is_listed (keys_of es) f)) [
    | true ↦ refl
    | false ↦ found es
  ]

  pub key_found : (es : List (Fid × Unit {0})) (e : Fid × Unit {0}) → lookup_entry test es ≡ Some e → e.0 ≡ f
  key_found [] e h = absurd (none-some e h)
  key_found (d ∷ es) e h = (elim (test d.0) as (λ b. test d.0 ≡ b → cond b (Some d) (lookup_entry test es) ≡ Some e → e.0 ≡ f) [
    | true ↦ λ t k. ap (λ (x : Fid × Unit {0}). x.0) (sym (same_Some d e k)) ∙ same_fid_is d.0 f (sym (only d.0) ∙ t)
    | false ↦ λ t k. key_found es e k
  ]) refl h

  pub none_found : (es : List (Fid × Unit {0})) → lookup_entry test es ≡ None → is_listed (keys_of es) f ≡ false
  none_found [] h = refl
  none_found (d ∷ es) h = (elim (test d.0) as (λ b. test d.0 ≡ b → cond b (Some d) (lookup_entry test es) ≡ None → (same_fid d.0 f || is_listed (keys_of es) f) ≡ false) [
    | true ↦ λ t k. absurd (none-some d (sym k))
    | false ↦ λ t k. ap (λ b. b || is_listed (keys_of es) f) (sym (only d.0) ∙ t) ∙ none_found es k
  ]) refl h

  -- without a fid that isn't there
  pub all_but_none : (fids : List Fid) → is_listed fids f ≡ false → except fids f ≡ fids
  all_but_none [] h = refl
  all_but_none (g ∷ fids) h = (elim (same_fid g f) as (λ b. (b || is_listed fids f) ≡ false → cond (not b) (g ∷ except fids f) (except fids f) ≡ g ∷ fids) [
    | true ↦ λ k. cc
    | false ↦ λ k. ap (λ l. g ∷ l) (all_but_none fids k)
  ]) h

  apart_from : (eq : Fid → Fid → Bool) → ((a b : Fid) → eq a b ≡ same_fid a b) → (fids : List Fid) → AllByRecursion (λ y. eq f y ≡ false) fids → is_listed fids f ≡ false
  apart_from eq is [] h = refl
  apart_from eq is (g ∷ fids) h = ap (λ b. b || is_listed fids f) (same_turned g f ∙ sym (is f g) ∙ h.0) ∙ apart_from eq is fids h.1

  pub taken : (eq : Fid → Fid → Bool) → ((a b : Fid) → eq a b ≡ same_fid a b) → (es : List (Fid × Unit {0})) → IsDistinct eq (keys_of es) → keys_of (remove_entry test es) ≡ except (keys_of es) f
  unfolding IsDistinct
  taken eq is [] h = refl
  taken eq is (e ∷ es) h =
      ap (λ b. keys_of (cond b es (e ∷ remove_entry test es))) (only e.0)
      ∙ (elim (same_fid e.0 f) as (λ b. same_fid e.0 f ≡ b → keys_of (cond b es (e ∷ remove_entry test es)) ≡ cond (not b) (e.0 ∷ except (keys_of es) f) (except (keys_of es) f)) [
        | true ↦ λ t. sym (all_but_none (keys_of es) (apart_from eq is (keys_of es) (subst (λ k. AllByRecursion (λ y. eq k y ≡ false) (keys_of es)) (same_fid_is e.0 f t) h.0)))
        | false ↦ λ t. ap (λ l. e.0 ∷ l) (taken eq is es h.1)
      ]) refl

  -- ---- what the changes of the map make of the order

  module _ (eq : Fid → Fid → Bool) (is : (a b : Fid) → eq a b ≡ same_fid a b) (es : List (Fid × Unit {0})) (distinct : IsDistinct eq (keys_of es)) where
    pub order_taken : in_order (remove_entry test es) ≡ except (in_order es) f
    order_taken = ap reverse (taken eq is es distinct) ∙ sym (filter_reversed (λ g. not (same_fid g f)) (keys_of es))

    pub order_promoted : is_listed (in_order es) f ≡ true → in_order (promoted test es) ≡ latest (in_order es) f
    order_promoted listed = (elim (lookup_entry test es) as (λ o. lookup_entry test es ≡ o → in_order (option_map_or (λ e. e ∷ remove_entry test es) o es) ≡ latest (in_order es) f) [
      | None ↦ λ h. absurd (both_ways _ (none_found es h) (sym (listed_reversed (keys_of es) f) ∙ listed))
      | Some e ↦ λ h. reverse-append (e.0 ∷ []) (keys_of (remove_entry test es)) ∙ ap (λ g. in_order (remove_entry test es) ++ g ∷ []) (key_found es e h) ∙ ap (λ l. l ++ f ∷ []) order_taken
    ]) refl

  pub order_begun : (es : List (Fid × Unit {0})) → is_listed (in_order es) f ≡ false → in_order ((f, tt) ∷ es) ≡ latest (in_order es) f
  order_begun es free = reverse-append (f ∷ []) (keys_of es) ∙ ap (λ l. l ++ f ∷ []) (sym (all_but_none (in_order es) free))

  pub not_found : (es : List (Fid × Unit {0})) → is_listed (in_order es) f ≡ false → lookup_entry test es ≡ None
  not_found es free = go es (sym (listed_reversed (keys_of es) f) ∙ free)
    where
      go : (es : List (Fid × Unit {0})) → is_listed (keys_of es) f ≡ false → lookup_entry test es ≡ None
      go [] h = refl
      go (e ∷ es) h = (elim (same_fid e.0 f) as (λ b. same_fid e.0 f ≡ b → (b || is_listed (keys_of es) f) ≡ false → cond (test e.0) (Some e) (lookup_entry test es) ≡ None) [
        | true ↦ λ t k. cc
        | false ↦ λ t k. ap (λ b. cond b (Some e) (lookup_entry test es)) (only e.0 ∙ t) ∙ go es k
      ]) refl h

  -- and whether or not the fid is there
  pub order_touched : (eq : Fid → Fid → Bool) → ((a b : Fid) → eq a b ≡ same_fid a b) → (es : List (Fid × Unit {0})) → IsDistinct eq (keys_of es) → in_order (promoted test es) ≡ cond (is_listed (in_order es) f) (latest (in_order es) f) (in_order es)
  order_touched eq is es distinct = (elim (is_listed (in_order es) f) as (λ b. is_listed (in_order es) f ≡ b → in_order (promoted test es) ≡ cond b (latest (in_order es) f) (in_order es)) [
    | true ↦ λ h. order_promoted eq is es distinct h
    | false ↦ λ h. ap (λ o. in_order (option_map_or (λ e. e ∷ remove_entry test es) o es)) (not_found es h)
  ]) refl

pub take_enough : {X : Type 0} (xs : List X) (n : ℕ) → length xs ≤ n → take n xs ≡ xs
take_enough [] zero h = refl
take_enough [] (suc n) h = refl
take_enough (x ∷ xs) zero h = absurd (omega (arith, h))
take_enough (x ∷ xs) (suc n) h = ap (λ l. x ∷ l) (take_enough xs n (omega (arith, h)))
