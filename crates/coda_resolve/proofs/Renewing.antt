-- What is held anew, object by object.
use Rattle.std.proofs.Common.{◌≡◌, ◌≢◌, ◌<◌, ℕ, ◌+◌, zero, suc, arith, Bool, true, false, cond, not, List, [], ◌∷◌, ◌++◌, Some, None, length, get_or, take, refl, sym, ap, ◌∙◌, subst, ◌⊎◌, inl, inr, ⊎_elim, ◌||◌, map}
use Rattle.std.specs.FinMap as finmap
use Rattle.std.specs.List.{filter}
use Rattle.std.specs.BTreeMap.{BTreeMap, get, Updates, is_at}
use Rattle.std.specs.Map.{lookup}
use Rattle.std.specs.BTreeSet as set
use Rattle.std.specs.BTreeSet.{BTreeSet}
use Rattle.std.proofs.Math.Seq.{take-suc}
use Rattle.std.proofs.lemmas.Bool.{true≢false}
use Rattle.std.proofs.lemmas.List.{map-append}
use Rattle.std.proofs.lemmas.List.Elements.{filter-append}
use Rattle.coda_fid.specs.Fid.{fid_cmp, same_fid}
use Rattle.coda_fid.specs.declared.fid.Fid.{Fid}
use Rattle.coda_fid.proofs.Fids.{same_fid_is, same_fid_refl}
use Rattle.coda_reslog.specs.declared.change.Held.{Held}
use Rattle.coda_resolve.specs.declared.renewal.Renewal.{Renewal}
use Rattle.coda_resolve.specs.declared.walking.Taken.{Taken}
use Rattle.coda_resolve.specs.Resolution.{Objects, Replicas, fate_at}
use Rattle.coda_resolve.specs.Counted.{has_fid}
use Rattle.coda_resolve.specs.Changes.{is_among, node_of}
use Rattle.coda_resolve.specs.Renewals.{Tells, IsRenewal, left_at, AreRenewed, is_mark, marked_among}
use Rattle.coda_resolve.specs.Taken.{fids_of, AreFates}
use Rattle.coda_resolve.proofs.Lists.{some_none}
use Rattle.coda_resolve.proofs.MergedNames.{any_append}
use Rattle.coda_resolve.proofs.Changed.{one_test}

-- ---- one fid more

pub or_cases : (a b : Bool) → (a || b) ≡ true → (a ≡ true) ⊎ (b ≡ true)
or_cases true b e = inl refl
or_cases false b e = inr e

or_none : (a b : Bool) → (a || b) ≡ false → (a ≡ false) × (b ≡ false)
or_none true b e = absurd (true≢false e)
or_none false b e = (refl, e)

pub or_left : (a b : Bool) → a ≡ true → (a || b) ≡ true
or_left true b e = refl
or_left false b e = absurd (true≢false (sym e))

pub or_right : (a b : Bool) → b ≡ true → (a || b) ≡ true
or_right true b e = refl
or_right false b e = e

or_false : (b : Bool) → (b || false) ≡ b
or_false true = refl
or_false false = refl

pub among_last : (fids : List Fid) (f g : Fid) → is_among (fids ++ f ∷ []) g ≡ (is_among fids g || same_fid g f)
among_last fids f g = any_append (same_fid g) fids (f ∷ []) ∙ ap (λ b. is_among fids g || b) (or_false (same_fid g f))

pub among_cases : (fids : List Fid) (f g : Fid) → is_among (fids ++ f ∷ []) g ≡ true → (is_among fids g ≡ true) ⊎ (g ≡ f)
among_cases fids f g e = ⊎_elim (λ h. inl h) (λ h. inr (same_fid_is g f h)) (or_cases (is_among fids g) (same_fid g f) (sym (among_last fids f g) ∙ e))

pub among_before : (fids : List Fid) (f g : Fid) → is_among fids g ≡ true → is_among (fids ++ f ∷ []) g ≡ true
among_before fids f g e = among_last fids f g ∙ or_left (is_among fids g) (same_fid g f) e

pub among_here : (fids : List Fid) (f g : Fid) → g ≡ f → is_among (fids ++ f ∷ []) g ≡ true
among_here fids f g e = among_last fids f g ∙ or_right (is_among fids g) (same_fid g f) (subst (λ x. same_fid g x ≡ true) e (same_fid_refl g))

-- ---- one object more

module _ (views : Replicas) (view : Objects) (objects : List Fid) (held : BTreeMap Fid Held) (touched : List Fid) (f : Fid) (are : AreRenewed views view objects held touched) where
  pub stays : IsRenewal (finmap.get view f) (left_at views view f) None → AreRenewed views view (objects ++ f ∷ []) held touched
  stays same = record {
    from = λ g new e. let k = are.from g new e in (among_before objects f g k.0, k.1);
    all = λ g is none. ⊎_elim (λ h. are.all g h none) (λ h. here g h) (among_cases objects f g is);
    differ = λ g is. let k = are.differ g is in (among_before objects f g k.0, k.1);
    alike = λ g is none. ⊎_elim (λ h. are.alike g h none) (λ h. ap node_of (here g h)) (among_cases objects f g is);
  }
    where
      here : (g : Fid) → g ≡ f → left_at views view g ≡ finmap.get view g
      here g e = subst (λ x. left_at views view x ≡ finmap.get view x) (sym e) same

  pub comes : (held' : BTreeMap Fid Held) (touched' : List Fid) (renewal : Renewal) → IsRenewal (finmap.get view f) (left_at views view f) (Some renewal) → Updates fid_cmp held held' f (Some renewal.held) → touched' ≡ touched ++ cond renewal.touched (f ∷ []) [] → AreRenewed views view (objects ++ f ∷ []) held' touched'
  comes held' touched' renewal is updates added = record {
    from = λ g new e. from_by g new (same_fid f g) refl (sym (at g) ∙ e);
    all = λ g among none. ⊎_elim (λ h. all_by g h (same_fid f g) refl (sym (at g) ∙ none)) (λ h. absurd (some_none renewal.held (sym (here g h) ∙ none))) (among_cases objects f g among);
    differ = λ g t. ⊎_elim
        (λ h. let k = are.differ g h in (among_before objects f g k.0, k.1))
        (λ h. let k = new_touched g renewal.touched refl h in (among_here objects f g k.0, k.1))
        (or_cases (is_among touched g) (is_among (cond renewal.touched (f ∷ []) []) g) (sym (told g) ∙ t));
    alike = λ g among none.
        let k = or_none (is_among touched g) (is_among (cond renewal.touched (f ∷ []) []) g) (sym (told g) ∙ none) in
        ⊎_elim (λ h. are.alike g h k.0) (λ h. new_alike g h renewal.touched refl k.1) (among_cases objects f g among);
  }
    where
      at : (g : Fid) → get fid_cmp held' g ≡ cond (same_fid f g) (Some renewal.held) (get fid_cmp held g)
      at g = updates.0 g ∙ ap (λ b. cond b (Some renewal.held) (get fid_cmp held g)) (one_test f g)

      told : (g : Fid) → is_among touched' g ≡ (is_among touched g || is_among (cond renewal.touched (f ∷ []) []) g)
      told g = ap (λ fids. is_among fids g) added ∙ any_append (same_fid g) touched (cond renewal.touched (f ∷ []) [])

      here : (g : Fid) → g ≡ f → get fid_cmp held' g ≡ Some renewal.held
      here g e = at g ∙ ap (λ b. cond b (Some renewal.held) (get fid_cmp held g)) (subst (λ x. same_fid f x ≡ true) (sym e) (same_fid_refl f))

      from_by : (g : Fid) (new : Held) (b : Bool) → same_fid f g ≡ b → cond b (Some renewal.held) (get fid_cmp held g) ≡ Some new → (is_among (objects ++ f ∷ []) g ≡ true) × ((left_at views view g ≡ Some new) × (left_at views view g ≢ finmap.get view g))
      from_by g new true e h =
          let same : f ≡ g = same_fid_is f g e in
          subst (λ x. (is_among (objects ++ f ∷ []) x ≡ true) × ((left_at views view x ≡ Some new) × (left_at views view x ≢ finmap.get view x))) same (among_here objects f f refl, (is.0 ∙ h, is.1.0))
      from_by g new false e h = let k = are.from g new h in (among_before objects f g k.0, k.1)

      all_by : (g : Fid) → is_among objects g ≡ true → (b : Bool) → same_fid f g ≡ b → cond b (Some renewal.held) (get fid_cmp held g) ≡ None → left_at views view g ≡ finmap.get view g
      all_by g among true e h = absurd (some_none renewal.held h)
      all_by g among false e h = are.all g among h

      new_touched : (g : Fid) (b : Bool) → renewal.touched ≡ b → is_among (cond b (f ∷ []) []) g ≡ true → (g ≡ f) × (node_of (left_at views view g) ≢ node_of (finmap.get view g))
      new_touched g true e h =
          let same : g ≡ f = same_fid_is g f (sym (or_false (same_fid g f)) ∙ h) in
          (same, subst (λ x. node_of (left_at views view x) ≢ node_of (finmap.get view x)) (sym same) (subst (λ t. Tells (not t) (node_of (left_at views view f)) (node_of (finmap.get view f))) e is.1.1))
      new_touched g false e h = absurd (true≢false (sym h))

      new_alike : (g : Fid) → g ≡ f → (b : Bool) → renewal.touched ≡ b → is_among (cond b (f ∷ []) []) g ≡ false → node_of (left_at views view g) ≡ node_of (finmap.get view g)
      new_alike g same true e h = absurd (true≢false (sym (or_false (same_fid g f) ∙ subst (λ x. same_fid g x ≡ true) same (same_fid_refl g)) ∙ h))
      new_alike g same false e h = subst (λ x. node_of (left_at views view x) ≡ node_of (finmap.get view x)) (sym same) (subst (λ t. Tells (not t) (node_of (left_at views view f)) (node_of (finmap.get view f))) e is.1.1)

pub none_renewed : (views : Replicas) (view : Objects) (held : BTreeMap Fid Held) (touched : List Fid) → held.entries ≡ [] → touched ≡ [] → AreRenewed views view [] held touched
none_renewed views view held touched e t = record {
  from = λ g new is. absurd (some_none new (sym is ∙ nothing g));
  all = λ g is none. absurd (true≢false (sym is));
  differ = λ g is. absurd (true≢false (sym is ∙ ap (λ fids. is_among fids g) t));
  alike = λ g is none. absurd (true≢false (sym is));
}
  where
    nothing : (g : Fid) → get fid_cmp held g ≡ None
    nothing g = ap (λ es. lookup (is_at (fid_cmp g)) es) e

-- ---- lists of objects

pub fate_of : (views : Replicas) (objects : List Taken) (i : ℕ) (t : Taken) → AreFates views objects → i < length objects → t ≡ get_or objects i t → t.fate ≡ fate_at views t.fid
fate_of views [] i t are lt is = absurd (omega arith)
fate_of views (o ∷ objects) zero t are lt is = subst (λ (x : Taken). x.fate ≡ fate_at views x.fid) (sym is) are.0
fate_of views (o ∷ objects) (suc i) t are lt is = fate_of views objects i t are.1 (omega arith) is

pub front_of : {X : Type 0} (xs : List X) (i : ℕ) (x : X) → i < length xs → x ≡ get_or xs i x → take (i + 1) xs ≡ take i xs ++ x ∷ []
front_of xs i x lt is =
    let next : i + 1 ≡ suc i = omega arith in
    ap (λ n. take n xs) next ∙ take-suc xs i x lt ∙ ap (λ y. take i xs ++ y ∷ []) (sym is)

pub fids_more : (objects : List Taken) (i : ℕ) (t : Taken) → i < length objects → t ≡ get_or objects i t → fids_of (take (i + 1) objects) ≡ fids_of (take i objects) ++ t.fid ∷ []
fids_more objects i t lt is = ap fids_of (front_of objects i t lt is) ∙ map-append (λ (o : Taken). o.fid) (take i objects) (t ∷ [])

one_mark : (t : Taken) → marked_among (t ∷ []) ≡ cond (is_mark t.fate) (t.fid ∷ []) []
one_mark t = by (is_mark t.fate)
  where
    by : (b : Bool) → map (λ (o : Taken). o.fid) (cond b (t ∷ []) []) ≡ cond b (t.fid ∷ []) []
    by true = refl
    by false = refl

pub marked_more : (objects : List Taken) (i : ℕ) (t : Taken) (old new : List Fid) → i < length objects → t ≡ get_or objects i t → old ≡ marked_among (take i objects) → new ≡ old ++ cond (is_mark t.fate) (t.fid ∷ []) [] → new ≡ marked_among (take (i + 1) objects)
marked_more objects i t old new lt is sofar added =
    added
    ∙ (λ j. sofar j ++ sym (one_mark t) j)
    ∙ sym (ap (map (λ (o : Taken). o.fid)) (filter-append (λ (o : Taken). is_mark o.fate) (take i objects) (t ∷ [])) ∙ map-append (λ (o : Taken). o.fid) (filter (λ (o : Taken). is_mark o.fate) (take i objects)) (filter (λ (o : Taken). is_mark o.fate) (t ∷ [])))
    ∙ sym (ap marked_among (front_of objects i t lt is))

pub gone_more : (left : Fid → Bool) (pairs : List (Fid × Held)) (i : ℕ) (p : Fid × Held) (old new : List Fid) → i < length pairs → p ≡ get_or pairs i p → old ≡ filter (λ f. not (left f)) (map (λ o. o.0) (take i pairs)) → new ≡ old ++ cond (not (left p.0)) (p.0 ∷ []) [] → new ≡ filter (λ f. not (left f)) (map (λ o. o.0) (take (i + 1) pairs))
gone_more left pairs i p old new lt is sofar added =
    added
    ∙ ap (λ front. front ++ cond (not (left p.0)) (p.0 ∷ []) []) sofar
    ∙ sym (filter-append (λ f. not (left f)) (map (λ (o : Fid × Held). o.0) (take i pairs)) (p.0 ∷ []))
    ∙ ap (filter (λ f. not (left f))) (sym (map-append (λ (o : Fid × Held). o.0) (take i pairs) (p ∷ [])) ∙ ap (map (λ (o : Fid × Held). o.0)) (sym (front_of pairs i p lt is)))

-- ---- sets

pub set_more : (old now new : BTreeSet Fid) (fids : List Fid) (f : Fid) → ((g : Fid) → has_fid now g ≡ (has_fid old g || is_among fids g)) → set.Updates fid_cmp now new f true → (g : Fid) → has_fid new g ≡ (has_fid old g || is_among (fids ++ f ∷ []) g)
set_more old now new fids f sofar updates g =
    updates.0 g
    ∙ (λ i. cond (one_test f g i) true (sofar g i))
    ∙ by (same_fid f g) (same_fid g f) (turned (same_fid f g) refl) (has_fid old g) (is_among fids g)
    ∙ ap (λ b. has_fid old g || b) (sym (among_last fids f g))
  where
    turned : (b : Bool) → same_fid f g ≡ b → b ≡ same_fid g f
    turned true e = sym (subst (λ x. same_fid x f ≡ true) (same_fid_is f g e) (same_fid_refl f))
    turned false e = back (same_fid g f) refl
      where
        back : (c : Bool) → same_fid g f ≡ c → false ≡ c
        back true h = absurd (true≢false (sym (subst (λ x. same_fid x g ≡ true) (same_fid_is g f h) (same_fid_refl g)) ∙ e))
        back false h = refl

    by : (b c : Bool) → b ≡ c → (o a : Bool) → cond b true (o || a) ≡ (o || (a || c))
    by b true e true a = ap (λ x. cond x true true) e
    by b true e false true = ap (λ x. cond x true true) e
    by b true e false false = ap (λ x. cond x true false) e
    by b false e true a = ap (λ x. cond x true true) e
    by b false e false true = ap (λ x. cond x true true) e
    by b false e false false = ap (λ x. cond x true false) e
