-- What a replica holds after a change.
use Rattle.std.proofs.Common.{◌≡◌, Bool, true, false, cond, not, List, [], ◌∷◌, ◌++◌, Some, None, refl, sym, ap, ◌∙◌, subst, inl, inr, ◌&&◌, ◌||◌}
use Rattle.std.specs.FinMap as finmap
use Rattle.std.specs.FinMap.Entries.{find, is_sorted}
use Rattle.std.specs.List.{filter, list_any}
use Rattle.std.specs.BTreeSet.{BTreeSet}
use Rattle.std.specs.Ordering.{eq_by_cmp}
use Rattle.std.specs.Cmp.{Equal-is}
use Rattle.std.proofs.lemmas.Cmp.{eq_by_cmp_equiv}
use Rattle.coda_fid.specs.Fid.{fid_cmp, same_fid}
use Rattle.coda_fid.specs.declared.fid.Fid.{Fid}
use Rattle.coda_fid.proofs.Fids.{exact_fids, fids_total, same_fid_is, same_fid_refl}
use Rattle.coda_tree.proofs.Booleans.{to_T}
use Rattle.coda_reslog.specs.declared.change.Change.{Change}
use Rattle.coda_resolve.specs.Resolution.{Objects, has_in}
use Rattle.coda_resolve.specs.Placement.{IsIn}
use Rattle.coda_resolve.specs.Changes.{is_among, changed}
use Rattle.coda_resolve.specs.Views.{HeldPairs, objects_in}
use Rattle.coda_repair.specs.Making.{AreSame, or_else}
use Rattle.coda_resolve.proofs.Lists.{both_ways}

-- ---- fids among fids

-- the order and the test of fids agree
pub one_test : (f g : Fid) → eq_by_cmp fid_cmp f g ≡ same_fid f g
one_test f g = both_ways (eq_by_cmp fid_cmp f g) (same_fid f g)
    (λ e. subst (λ x. same_fid f x ≡ true) (exact_fids f g ((Equal-is (fid_cmp f g)).0 e)) (same_fid_refl f))
    (λ e. subst (λ x. eq_by_cmp fid_cmp f x ≡ true) (same_fid_is f g e) ((eq_by_cmp_equiv fids_total).refl f))

any_alike : {X : Type 0} (t u : X → Bool) (xs : List X) → ((x : X) → t x ≡ u x) → list_any t xs ≡ list_any u xs
any_alike t u [] h = refl
any_alike t u (x ∷ xs) h = λ i. h x i || any_alike t u xs h i

-- a list of what a set keeps has the fids of the set
pub listed_same : (set : BTreeSet Fid) (fids : List Fid) → fids ≡ set.keys → AreSame set fids
listed_same set fids is f = ap (λ fs. is_among fs f) is ∙ sym (any_alike (eq_by_cmp fid_cmp f) (same_fid f) set.keys (one_test f))

or_right : (b c : Bool) → c ≡ true → (b || c) ≡ true
or_right true c e = refl
or_right false c e = e

-- one of the fids is among them
pub in_among : (fids : List Fid) (f : Fid) → IsIn f fids → is_among fids f ≡ true
in_among [] f s = absurd s
in_among (g ∷ fids) f (inl is) = ap (λ b. b || is_among fids f) (ap (same_fid f) is ∙ same_fid_refl f)
in_among (g ∷ fids) f (inr s) = or_right (same_fid f g) (is_among fids f) (in_among fids f s)

-- among those that pass
pub among_filter : (t : Fid → Bool) (fids : List Fid) (f : Fid) → is_among (filter t fids) f ≡ (t f && is_among fids f)
among_filter t [] f = none (t f)
  where
    none : (b : Bool) → false ≡ (b && false)
    none true = refl
    none false = refl
among_filter t (g ∷ fids) f = go (t g) (same_fid f g) refl refl (among_filter t fids f)
  where
    both : (b c : Bool) → b ≡ true → true ≡ (b && (true || c))
    both true c e = refl
    both false c e = sym e

    neither : (b c d : Bool) → b ≡ false → c ≡ (b && d) → c ≡ (b && (true || d))
    neither true c d e h = absurd cc
    neither false c d e h = h

    go : (b same : Bool) → t g ≡ b → same_fid f g ≡ same → is_among (filter t fids) f ≡ (t f && is_among fids f) → is_among (cond b (g ∷ filter t fids) (filter t fids)) f ≡ (t f && (same || is_among fids f))
    go true true passes is more = ap (λ s. s || is_among (filter t fids) f) is ∙ both (t f) (is_among fids f) (ap t (same_fid_is f g is) ∙ passes)
    go true false passes is more = ap (λ s. s || is_among (filter t fids) f) is ∙ more
    go false true passes is more = neither (t f) (is_among (filter t fids) f) (is_among fids f) (ap t (same_fid_is f g is) ∙ passes) more
    go false false passes is more = more

-- tests that pass alike on a list filter it alike
pub filter_alike_in : {X : Type 0} (t u : X → Bool) (xs : List X) → ((x : X) → IsIn x xs → t x ≡ u x) → filter t xs ≡ filter u xs
filter_alike_in t u [] h = refl
filter_alike_in t u (x ∷ xs) h = λ i. cond (h x (inl refl) i) (x ∷ filter_alike_in t u xs (λ y s. h y (inr s)) i) (filter_alike_in t u xs (λ y s. h y (inr s)) i)

-- a view has the fids of its keys
pub keys_has : (view : Objects) (f : Fid) → is_among (finmap.keys view) f ≡ has_in view f
keys_has view f = sym (finmap.contains_key-keys view f ∙ any_alike (eq_by_cmp fid_cmp f) (same_fid f) (finmap.keys view) (one_test f))

-- ---- what is held after a change

find_both : (f : Fid) (es more : HeldPairs) → find fid_cmp f (es ++ more) ≡ or_else (find fid_cmp f es) (find fid_cmp f more)
find_both f [] more = refl
find_both f (e ∷ es) more = go (eq_by_cmp fid_cmp f e.0) (find_both f es more)
  where
    go : (b : Bool) → find fid_cmp f (es ++ more) ≡ or_else (find fid_cmp f es) (find fid_cmp f more) → cond b (Some e.1) (find fid_cmp f (es ++ more)) ≡ or_else (cond b (Some e.1) (find fid_cmp f es)) (find fid_cmp f more)
    go true rest = refl
    go false rest = rest

pub get_changed : (view : Objects) (change : Change) (f : Fid) → is_sorted fid_cmp change.held ≡ true → finmap.get (changed view change) f ≡ or_else (finmap.get (objects_in change.held) f) (cond (not (is_among change.gone f)) (finmap.get view f) None)
get_changed view change f up =
    finmap.get-from_entries fids_total (change.held ++ finmap.entries kept) f
    ∙ find_both f change.held (finmap.entries kept)
    ∙ (λ i. or_else (sym (finmap.get-from_sorted fid_cmp change.held f (to_T _ up)) i) ((sym (finmap.get-entries kept f) ∙ finmap.get-retain_keys view (λ g. not (is_among change.gone g)) f (λ x e. ap (λ g. not (is_among change.gone g)) (sym (exact_fids f x e)))) i))
  where
    kept : Objects
    kept = finmap.retain_keys view (λ g. not (is_among change.gone g))
