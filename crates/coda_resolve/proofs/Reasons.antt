-- Lists, missing updates and the least, for the causes of a mark in words.
use Rattle.std.proofs.Common.{◌≡◌, ◌≢◌, Bool, true, false, cond, not, List, [], ◌∷◌, Option, Some, refl, sym, ap, ◌∙◌, subst, ◌&&◌, ◌||◌, inl, inr}
use Rattle.std.specs.List.{list_any, list_all, find, filter, flat_map, fold}
use Rattle.std.specs.declared.cmp.Ordering.{Ordering}
use Rattle.std.specs.declared.cmp.Ordering.TheVariants.{Less, Equal, Greater}
use Rattle.std.specs.Ordering.{is_lt, ordering_reverse}
use Rattle.std.specs.Cmp.{IsTotalOrder}
use Rattle.std.proofs.lemmas.Bool.{true≢false, and_parts, and_from}
use Rattle.std.proofs.lemmas.Map.Lookups.{CmpEqualImpliesEq}
use Rattle.coda_reslog.specs.declared.entry.ResEntry.{ResEntry}
use Rattle.coda_reslog.specs.declared.change.Held.{Held}
use Rattle.coda_resolve.specs.Copies.{Copies, log_of}
use Rattle.coda_resolve.specs.Missing.{has_update, is_missing, missing, leads}
use Rattle.coda_resolve.specs.Causes.{lesser_by, least_with, least}
use Rattle.coda_resolve.specs.Placement.{SomeOf, IsIn}
use Rattle.coda_resolve.specs.FirstCause.{IsMissing}
use Rattle.coda_resolve.proofs.Lists.{some_none}
use Rattle.coda_resolve.proofs.Logged.{any_in, in_any, in_filter, in_flat}
use Rattle.coda_resolve.proofs.Leaders.{filtered, leaders_have_all, leads_all}
use Rattle.coda_resolve.proofs.Single.{in_flat_from}
use Rattle.coda_resolve.proofs.There.{some_map}

-- ---- lists

pub not_true : (b : Bool) → not b ≡ true → b ≡ false
not_true true e = absurd (true≢false (sym e))
not_true false e = refl

pub some_is : {X : Type 0} (x y : X) → Some x ≡ Some y → x ≡ y
some_is x y e = cc

module _ {X : Type 0} where
  pub some_in : (P : X → Type 0) (xs : List X) → SomeOf P xs → (x : X) × (IsIn x xs × P x)
  some_in P [] s = absurd s
  some_in P (y ∷ ys) (inl p) = (y, (inl refl, p))
  some_in P (y ∷ ys) (inr s) = let m = some_in P ys s in (m.0, (inr m.1.0, m.1.1))

  pub in_some : (P : X → Type 0) (xs : List X) (x : X) → IsIn x xs → P x → SomeOf P xs
  in_some P [] x s p = absurd s
  in_some P (y ∷ ys) x (inl is) p = inl (subst P (sym is) p)
  in_some P (y ∷ ys) x (inr s) p = inr (in_some P ys x s p)

  pub any_some : (t : X → Bool) (xs : List X) → list_any t xs ≡ true → SomeOf (λ x. t x ≡ true) xs
  any_some t xs e = let m = any_in t xs e in in_some (λ x. t x ≡ true) xs m.0 m.1.0 m.1.1

  pub some_any : (t : X → Bool) (xs : List X) → SomeOf (λ x. t x ≡ true) xs → list_any t xs ≡ true
  some_any t xs s = let m = some_in (λ x. t x ≡ true) xs s in in_any t xs m.0 m.1.0 m.1.1

  pub unfiltered : (t : X → Bool) (xs : List X) (x : X) → IsIn x (filter t xs) → IsIn x xs
  unfiltered t [] x s = absurd s
  unfiltered t (y ∷ ys) x s = by (t y) s (unfiltered t ys x)
    where
      by : (b : Bool) → IsIn x (cond b (y ∷ filter t ys) (filter t ys)) → (IsIn x (filter t ys) → IsIn x ys) → IsIn x (y ∷ ys)
      by true (inl is) more = inl is
      by true (inr s) more = inr (more s)
      by false s more = inr (more s)

  pub not_all : (t : X → Bool) (xs : List X) → list_all t xs ≡ false → (x : X) × (IsIn x xs × (t x ≡ false))
  not_all t [] e = absurd (true≢false e)
  not_all t (y ∷ ys) e = by (t y) refl e (not_all t ys)
    where
      by : (b : Bool) → t y ≡ b → (b && list_all t ys) ≡ false → (list_all t ys ≡ false → (x : X) × (IsIn x ys × (t x ≡ false))) → (x : X) × (IsIn x (y ∷ ys) × (t x ≡ false))
      by true a e more = let m = more e in (m.0, (inr m.1.0, m.1.1))
      by false a e more = (y, (inl refl, a))

  pub found_in : (t : X → Bool) (xs : List X) (x : X) → find t xs ≡ Some x → IsIn x xs × (t x ≡ true)
  found_in t [] x e = absurd (some_none x (sym e))
  found_in t (y ∷ ys) x e = by (t y) refl e (found_in t ys x)
    where
      by : (b : Bool) → t y ≡ b → cond b (Some y) (find t ys) ≡ Some x → (find t ys ≡ Some x → IsIn x ys × (t x ≡ true)) → IsIn x (y ∷ ys) × (t x ≡ true)
      by true a e more = let is = some_is y x e in (inl is, subst (λ z. t z ≡ true) is a)
      by false a e more = let m = more e in (inr m.0, m.1)

  -- each item stands so to all behind it
  abbrev pub IsOrderedBy : (X → X → Type 0) → List X → Type 0
  IsOrderedBy R [] = Unit {0}
  IsOrderedBy R (x ∷ xs) = ((y : X) → IsIn y xs → R x y) × IsOrderedBy R xs

-- ---- missing updates

module _ (copies : Copies) where
  pub missing_is : (u : ResEntry) → IsIn u (missing copies) → IsMissing copies u
  missing_is u s =
      let is = and_parts (list_any (has_update u) copies) (list_any (λ c. not (has_update u c)) copies) (filtered (is_missing copies) (flat_map log_of copies) u s) in
      let at = in_flat_from log_of copies u (unfiltered (is_missing copies) (flat_map log_of copies) u s) in
      record {
        lacked = record {
          here = any_some (has_update u) copies is.0;
          lacked = some_map (λ c. not (has_update u c) ≡ true) (λ c. has_update u c ≡ false) (λ c e. not_true (has_update u c) e) copies (any_some (λ c. not (has_update u c)) copies is.1);
        };
        logged = in_some (λ copy. IsIn u (log_of copy)) copies at.0 at.1.0 at.1.1;
      }

  pub is_missing_in : (u : ResEntry) → IsMissing copies u → IsIn u (missing copies)
  is_missing_in u m =
      let at = some_in (λ copy. IsIn u (log_of copy)) copies m.logged in
      in_filter (is_missing copies) (flat_map log_of copies) u (in_flat log_of copies at.0 u at.1.0 at.1.1)
      (and_from _ _ (some_any (has_update u) copies m.lacked.here) (some_any (λ c. not (has_update u c)) copies (some_map (λ c. has_update u c ≡ false) (λ c. not (has_update u c) ≡ true) (λ c e. ap not e) copies m.lacked.lacked)))

  -- a copy that doesn't lead lacks a missing update of the kind, and the other way round
  pub unled : (kind : ResEntry → Bool) (copy : Option Held) → leads kind copies copy ≡ false → (u : ResEntry) × (IsMissing copies u × ((kind u ≡ true) × (has_update u copy ≡ false)))
  unled kind copy e =
      let m = not_all (λ u. not (kind u) || has_update u copy) (missing copies) (sym (leads_all kind copies copy) ∙ e) in
      (m.0, (missing_is m.0 m.1.0, both (kind m.0) (has_update m.0 copy) m.1.1))
    where
      both : (a b : Bool) → (not a || b) ≡ false → (a ≡ true) × (b ≡ false)
      both true b e = (refl, e)
      both false b e = absurd (true≢false e)

  pub unled_by : (kind : ResEntry → Bool) (copy : Option Held) (u : ResEntry) → IsMissing copies u → kind u ≡ true → has_update u copy ≡ false → leads kind copies copy ≡ false
  unled_by kind copy u m is lacks = by (leads kind copies copy) refl
    where
      by : (b : Bool) → leads kind copies copy ≡ b → b ≡ false
      by true e = absurd (true≢false (sym ((leaders_have_all kind copies copy).0 e u (is_missing_in u m) is) ∙ lacks))
      by false e = refl

-- ---- the least

-- an order in which each key ties with itself alone
module _ {X : Type 0} (cmp : X → X → Ordering) (total : IsTotalOrder cmp) (exact : CmpEqualImpliesEq cmp) where
  pub not_itself : (x : X) → cmp x x ≢ Less
  not_itself x e = true≢false (ap is_lt (sym e ∙ total.antisymm x x ∙ ap ordering_reverse e))

  pub neither : (x y : X) → cmp x y ≢ Less → cmp y x ≢ Less → x ≡ y
  neither x y a b = by (cmp x y) refl
    where
      by : (o : Ordering) → cmp x y ≡ o → x ≡ y
      by Less e = absurd (a e)
      by Equal e = exact x y e
      by Greater e = absurd (b (total.antisymm y x ∙ ap ordering_reverse e))

  abbrev IsLeastOf : X → List X → Type 0
  IsLeastOf m xs = IsIn m xs × ((y : X) → IsIn y xs → cmp y m ≢ Less)

  -- the least of the first and the others is that of the lesser of the first two and the others
  first_two : (x y m : X) (xs : List X) → IsLeastOf m (lesser_by (cmp x y) x y ∷ xs) → IsLeastOf m (x ∷ y ∷ xs)
  first_two x y m xs = by (cmp x y) refl
    where
      kept : (z : X) → cmp x m ≢ Less → cmp y m ≢ Less → ((w : X) → IsIn w xs → cmp w m ≢ Less) → IsIn z (x ∷ y ∷ xs) → cmp z m ≢ Less
      kept z a b c (inl is) = subst (λ w. cmp w m ≢ Less) is a
      kept z a b c (inr (inl is)) = subst (λ w. cmp w m ≢ Less) is b
      kept z a b c (inr (inr s)) = c z s

      from_left : IsIn m (x ∷ xs) → IsIn m (x ∷ y ∷ xs)
      from_left (inl is) = inl is
      from_left (inr s) = inr (inr s)

      by : (o : Ordering) → cmp x y ≡ o → IsLeastOf m (lesser_by o x y ∷ xs) → IsLeastOf m (x ∷ y ∷ xs)
      by Less e l = (from_left l.0, λ z s. kept z (l.1 x (inl refl)) (λ less. l.1 x (inl refl) (total.trans x y m e less)) (λ w t. l.1 w (inr t)) s)
      by Equal e l = (from_left l.0, λ z s. kept z (l.1 x (inl refl)) (λ less. l.1 x (inl refl) (total.congr x y m e ∙ less)) (λ w t. l.1 w (inr t)) s)
      by Greater e l = (inr l.0, λ z s. kept z (λ less. l.1 y (inl refl) (total.trans y x m (total.antisymm y x ∙ ap ordering_reverse e) less)) (l.1 y (inl refl)) (λ w t. l.1 w (inr t)) s)

  folded : (xs : List X) (start m : X) → fold (least_with cmp) (Some start) xs ≡ Some m → IsLeastOf m (start ∷ xs)
  folded [] start m e = let is = some_is start m e in (inl is, λ y s. only y is s)
    where
      only : (y : X) → start ≡ m → IsIn y (start ∷ []) → cmp y m ≢ Less
      only y is (inl same) = subst (λ z. cmp z m ≢ Less) (sym is ∙ same) (not_itself m)
      only y is (inr s) = absurd s
  folded (x ∷ xs) start m e = first_two start x m xs (folded xs (lesser_by (cmp start x) start x) m e)

  pub least_is : (xs : List X) (m : X) → least cmp xs ≡ Some m → IsIn m xs × ((y : X) → IsIn y xs → cmp y m ≢ Less)
  least_is [] m e = absurd (some_none m (sym e))
  least_is (x ∷ xs) m e = folded xs x m e
