-- What is put and what comes in place of what loses, object by object.
use Rattle.std.proofs.Common.{◌≡◌, ◌<◌, ℕ, suc, ◌+◌, Bool, true, false, cond, not, List, [], ◌∷◌, ◌++◌, Option, Some, None, take, length, get_or, map, refl, sym, ap, ◌∙◌, subst, ◌||◌, ◌&&◌, ◌⊎◌, inl, inr, ⊎_elim, arith}
use Rattle.std.specs.Option.{option_map}
use Rattle.std.specs.FinMap as finmap
use Rattle.std.specs.BTreeMap.{BTreeMap, Updates}
use Rattle.std.proofs.Math.Seq.{take-suc}
use Rattle.std.proofs.lemmas.Bool.{true≢false}
use Rattle.std.proofs.lemmas.List.{map-append}
use Rattle.coda_fid.specs.Fid.{fid_cmp, same_fid}
use Rattle.coda_fid.specs.declared.fid.Fid.{Fid}
use Rattle.coda_fid.proofs.Fids.{same_fid_is, same_fid_refl}
use Rattle.coda_reslog.specs.declared.change.Held.{Held}
use Rattle.coda_resolve.specs.Copies.{Copies}
use Rattle.coda_resolve.specs.Resolution.{Objects}
use Rattle.coda_resolve.specs.Changes.{is_among}
use Rattle.coda_resolve.specs.Views.{HeldPairs}
use Rattle.coda_resolve.proofs.MergedNames.{any_append}
use Rattle.coda_lineage.specs.Repairs.{repaired}
use Rattle.coda_repair.specs.Making.{IsWide, put_at, ArePut, loser, spare_of, spare_at, or_else}
use Rattle.coda_repair.proofs.Changed.{one_test}

-- ---- one fid more

or_false : (b : Bool) → (b || false) ≡ b
or_false true = refl
or_false false = refl

pub among_last : (fids : List Fid) (f g : Fid) → is_among (fids ++ f ∷ []) g ≡ (is_among fids g || same_fid g f)
among_last fids f g = any_append (same_fid g) fids (f ∷ []) ∙ ap (λ b. is_among fids g || b) (or_false (same_fid g f))

or_cases : (a b : Bool) → (a || b) ≡ true → (a ≡ true) ⊎ (b ≡ true)
or_cases true b e = inl refl
or_cases false b e = inr e

-- ---- what is put

module _ (source : ℕ) (copies : Fid → Copies) (right : Objects) (fids : List Fid) (held : BTreeMap Fid Held) (f : Fid) (are : ArePut source copies right fids held) where
  wide_more : ((was : Held) → finmap.get right f ≡ Some was → IsWide (copies f)) → (g : Fid) (was : Held) → is_among (fids ++ f ∷ []) g ≡ true → finmap.get right g ≡ Some was → IsWide (copies g)
  wide_more here g was e is = ⊎_elim
      (λ (h : is_among fids g ≡ true). are.wide g was h is)
      (λ (h : same_fid g f ≡ true). let same : g ≡ f = same_fid_is g f h in subst (λ x. IsWide (copies x)) (sym same) (here was (ap (finmap.get right) (sym same) ∙ is)))
      (or_cases (is_among fids g) (same_fid g f) (sym (among_last fids f g) ∙ e))

  -- the source lacks it
  pub nothing_put : finmap.get right f ≡ None → ArePut source copies right (fids ++ f ∷ []) held
  nothing_put none = record {
    put = λ g. are.put g ∙ by g (same_fid g f) refl (is_among fids g) ∙ ap (λ b. cond b (put_at source copies right g) None) (sym (among_last fids f g));
    wide = wide_more (λ was e. absurd (let no_one : None ≡ Some was = sym none ∙ e in cc));
  }
    where
      by : (g : Fid) (s : Bool) → same_fid g f ≡ s → (a : Bool) → cond a (put_at source copies right g) None ≡ cond (a || same_fid g f) (put_at source copies right g) None
      by g s e true = refl
      by g false e false = ap (λ b. cond b (put_at source copies right g) None) (sym e)
      by g true e false = ap (λ o. option_map (repaired source (copies g)) o) (sym (ap (finmap.get right) (same_fid_is g f e) ∙ none)) ∙ ap (λ b. cond b (put_at source copies right g) None) (sym e)

  -- the source has it
  pub one_put : (new : BTreeMap Fid Held) (was put : Held) → finmap.get right f ≡ Some was → put ≡ repaired source (copies f) was → IsWide (copies f) → Updates fid_cmp held new f (Some put) → ArePut source copies right (fids ++ f ∷ []) new
  one_put new was put has is wide updates = record {
    put = λ g.
        updates.0 g
        ∙ (λ i. cond (one_test f g i) (Some put) (are.put g i))
        ∙ by g (same_fid f g) refl (same_fid g f) refl (is_among fids g)
        ∙ ap (λ b. cond b (put_at source copies right g) None) (sym (among_last fids f g));
    wide = wide_more (λ w e. wide);
  }
    where
      at : put_at source copies right f ≡ Some put
      at = ap (option_map (repaired source (copies f))) has ∙ ap Some (sym is)

      by : (g : Fid) (s : Bool) → same_fid f g ≡ s → (t : Bool) → same_fid g f ≡ t → (a : Bool) → cond (same_fid f g) (Some put) (cond a (put_at source copies right g) None) ≡ cond (a || same_fid g f) (put_at source copies right g) None
      by g true e t h true = ap (λ b. cond b (Some put) (put_at source copies right g)) e ∙ sym (subst (λ x. put_at source copies right x ≡ Some put) (same_fid_is f g e) at)
      by g true e true h false = ap (λ b. cond b (Some put) None) e ∙ sym (subst (λ x. put_at source copies right x ≡ Some put) (same_fid_is f g e) at) ∙ ap (λ b. cond b (put_at source copies right g) None) (sym h)
      by g true e false h false = absurd (true≢false (sym (subst (λ x. same_fid g x ≡ true) (sym (same_fid_is f g e)) (same_fid_refl g)) ∙ h))
      by g false e t h true = ap (λ b. cond b (Some put) (put_at source copies right g)) e
      by g false e false h false = ap (λ b. cond b (Some put) None) e ∙ ap (λ b. cond b (put_at source copies right g) None) (sym h)
      by g false e true h false = absurd (true≢false (sym (subst (λ x. same_fid f x ≡ true) (sym (same_fid_is g f h)) (same_fid_refl f)) ∙ e))

-- ---- what loses

module _ (subtree below : Fid → Bool) (top : Fid) (view : Objects) where
  or_twice : {X : Type 0} (a b : Option X) → or_else a (or_else a b) ≡ or_else a b
  or_twice None b = refl
  or_twice (Some x) b = refl

  pub one_spared : (fids : List Fid) (f g : Fid) (own : Held) (before now first : Option Held) → finmap.get view f ≡ Some own
      → before ≡ or_else (spare_at subtree below top view fids g) first
      → now ≡ or_else (cond (same_fid f g && not (below f)) (loser subtree top own) None) before
      → now ≡ or_else (spare_at subtree below top view (fids ++ f ∷ []) g) first
  one_spared fids f g own before now first has sofar is =
      is
      ∙ ap (or_else (cond (same_fid f g && not (below f)) (loser subtree top own) None)) sofar
      ∙ by (same_fid f g) refl (same_fid g f) refl (is_among fids g)
      ∙ ap (λ b. or_else (cond (b && not (below g)) (spare_of subtree top (finmap.get view g)) None) first) (sym (among_last fids f g))
    where
      at : (h : Fid) → f ≡ h → cond (not (below f)) (loser subtree top own) None ≡ cond (not (below h)) (spare_of subtree top (finmap.get view h)) None
      at h same = subst (λ x. cond (not (below f)) (loser subtree top own) None ≡ cond (not (below x)) (spare_of subtree top (finmap.get view x)) None) same (ap (λ o. cond (not (below f)) (spare_of subtree top o) None) (sym has))

      by : (s : Bool) → same_fid f g ≡ s → (t : Bool) → same_fid g f ≡ t → (a : Bool)
          → or_else (cond (same_fid f g && not (below f)) (loser subtree top own) None) (or_else (cond (a && not (below g)) (spare_of subtree top (finmap.get view g)) None) first)
          ≡ or_else (cond ((a || same_fid g f) && not (below g)) (spare_of subtree top (finmap.get view g)) None) first
      by true e t h true =
          ap (λ b. or_else (cond (b && not (below f)) (loser subtree top own) None) (or_else (cond (not (below g)) (spare_of subtree top (finmap.get view g)) None) first)) e
          ∙ ap (λ o. or_else o (or_else (cond (not (below g)) (spare_of subtree top (finmap.get view g)) None) first)) (at g (same_fid_is f g e))
          ∙ or_twice (cond (not (below g)) (spare_of subtree top (finmap.get view g)) None) first
      by true e true h false =
          ap (λ b. or_else (cond (b && not (below f)) (loser subtree top own) None) first) e
          ∙ ap (λ o. or_else o first) (at g (same_fid_is f g e))
          ∙ ap (λ b. or_else (cond (b && not (below g)) (spare_of subtree top (finmap.get view g)) None) first) (sym h)
      by true e false h false = absurd (true≢false (sym (subst (λ x. same_fid g x ≡ true) (sym (same_fid_is f g e)) (same_fid_refl g)) ∙ h))
      by false e t h true = ap (λ b. or_else (cond (b && not (below f)) (loser subtree top own) None) (or_else (cond (not (below g)) (spare_of subtree top (finmap.get view g)) None) first)) e
      by false e false h false =
          ap (λ b. or_else (cond (b && not (below f)) (loser subtree top own) None) first) e
          ∙ ap (λ b. or_else (cond (b && not (below g)) (spare_of subtree top (finmap.get view g)) None) first) (sym h)
      by false e true h false = absurd (true≢false (sym (subst (λ x. same_fid f x ≡ true) (sym (same_fid_is g f h)) (same_fid_refl f)) ∙ e))

-- the fids of a front with one object more
pub fids_more : (items : HeldPairs) (i : ℕ) (d : Fid × Held) → i < length items → map (λ (o : Fid × Held). o.0) (take (i + 1) items) ≡ map (λ (o : Fid × Held). o.0) (take i items) ++ (get_or items i d).0 ∷ []
fids_more items i d lt = let next : i + 1 ≡ suc i = omega arith in ap (λ n. map (λ (o : Fid × Held). o.0) (take n items)) next ∙ ap (map (λ (o : Fid × Held). o.0)) (take-suc items i d lt) ∙ map-append (λ (o : Fid × Held). o.0) (take i items) (get_or items i d ∷ [])
