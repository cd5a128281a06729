-- What a resolution takes up, of what is known and of the others.
use Rattle.std.proofs.Common.{◌≡◌, ◌≢◌, ◌<◌, ◌+◌, ℕ, suc, arith, Option, length, get_or, take, Bool, true, false, cond, not, List, [], ◌∷◌, ◌++◌, Some, None, refl, sym, ap, ◌∙◌, subst, inl, inr, ⊎_elim, ◌&&◌, ◌||◌, map}
use Rattle.std.specs.FinMap as finmap
use Rattle.std.specs.List.{filter, cons_option}
use Rattle.std.specs.BTreeMap.{BTreeMap, get, Updates}
use Rattle.std.proofs.Math.Seq.{take-suc}
use Rattle.std.proofs.lemmas.Bool.{true≢false, or_parts}
use Rattle.std.proofs.lemmas.List.{map-append}
use Rattle.coda_fid.specs.Fid.{fid_cmp, same_fid}
use Rattle.coda_fid.specs.declared.fid.Fid.{Fid}
use Rattle.coda_fid.proofs.Fids.{same_fid_is, same_fid_refl}
use Rattle.coda_reslog.specs.declared.change.Held.{Held}
use Rattle.coda_resolve.specs.declared.walking.Taken.{Taken}
use Rattle.coda_resolve.specs.Settling.{Fate, Same, Marked, Gone}
use Rattle.coda_resolve.specs.Resolution.{Objects, Replicas, copies_at, fate_at, has_in}
use Rattle.coda_resolve.specs.Placement.{IsIn}
use Rattle.coda_resolve.specs.Changes.{is_among}
use Rattle.coda_resolve.specs.Renewals.{left_at, AreRenewed, is_mark, marked_among}
use Rattle.coda_resolve.specs.Survey.{marks_among, AreThere, is_plain, ArePlain, AreOthers, AreOthersBut}
use Rattle.coda_resolve.specs.Taken.{fids_of, AreFates}
use Rattle.coda_resolve.proofs.Changed.{one_test, in_among, among_filter, filter_alike_in, keys_has}
use Rattle.coda_resolve.proofs.Lists.{some_none}
use Rattle.coda_resolve.proofs.Known.{plain_mark}
use Rattle.coda_resolve.proofs.MergedNames.{any_append}
use Rattle.coda_resolve.proofs.Renewing.{or_cases, or_left, or_right, among_last}

and_parts : (a b : Bool) → (a && b) ≡ true → (a ≡ true) × (b ≡ true)
and_parts true b e = (refl, e)
and_parts false b e = absurd (true≢false (sym e))

-- ---- those that are taken up

-- these, each with what becomes of it
abbrev pub fated : Replicas → List Fid → List Taken
fated views fids = map (λ f. record { fid = f; fate = fate_at views f }) fids

-- what is known to change and is taken up, and the others
abbrev pub all_others : Replicas → List Fid → List Fid → List Taken → List Taken
all_others views changed fids others = fated views (filter (is_among fids) changed) ++ others

fated_fids : (views : Replicas) (fids : List Fid) → fids_of (fated views fids) ≡ fids
fated_fids views [] = refl
fated_fids views (f ∷ fids) = ap (λ rest. f ∷ rest) (fated_fids views fids)

fated_fates : (views : Replicas) (fids : List Fid) (others : List Taken) → AreFates views others → AreFates views (fated views fids ++ others)
fated_fates views [] others are = are
fated_fates views (f ∷ fids) others are = (refl, fated_fates views fids others are)

module _ (views : Replicas) where
  abbrev Plain : List Fid → Type 0
  Plain fids = (f : Fid) → is_among fids f ≡ true → is_plain (fate_at views f) ≡ true

  first_plain : (f : Fid) (fids : List Fid) → Plain (f ∷ fids) → is_plain (fate_at views f) ≡ true
  first_plain f fids p = p f (or_left (same_fid f f) (is_among fids f) (same_fid_refl f))

  rest_plain : (f : Fid) (fids : List Fid) → Plain (f ∷ fids) → Plain fids
  rest_plain f fids p = λ g e. p g (or_right (same_fid g f) (is_among fids g) e)

  no_marks : (fids : List Fid) (others : List Taken) → Plain fids → marks_among views (fated views fids ++ others) ≡ marks_among views others
  no_marks [] others p = refl
  no_marks (f ∷ fids) others p = λ i. cons_option (plain_mark (copies_at views f) f (fate_at views f) (first_plain f fids p) i) (no_marks fids others (rest_plain f fids p) i)

  plain_unmarked : (fate : Fate) → is_plain fate ≡ true → is_mark fate ≡ false
  plain_unmarked (Same held) e = refl
  plain_unmarked (Marked why) e = absurd (true≢false (sym e))
  plain_unmarked Gone e = refl

  none_marked : (fids : List Fid) (others : List Taken) → Plain fids → filter (λ o. is_mark o.fate) (fated views fids ++ others) ≡ filter (λ o. is_mark o.fate) others
  none_marked [] others p = refl
  none_marked (f ∷ fids) others p =
      ap (λ b. cond b (record { fid = f; fate = fate_at views f } ∷ filter (λ (o : Taken). is_mark o.fate) (fated views fids ++ others)) (filter (λ (o : Taken). is_mark o.fate) (fated views fids ++ others))) (plain_unmarked (fate_at views f) (first_plain f fids p))
      ∙ none_marked fids others (rest_plain f fids p)

module _ (views : Replicas) (changed fids : List Fid) (others : List Taken) (plain : ArePlain views changed) where
  abbrev met : List Fid
  met = filter (is_among fids) changed

  met_is : (f : Fid) → is_among met f ≡ (is_among fids f && is_among changed f)
  met_is f = among_filter (is_among fids) changed f

  met_plain : (f : Fid) → is_among met f ≡ true → is_plain (fate_at views f) ≡ true
  met_plain f e = (plain f (and_parts (is_among fids f) (is_among changed f) (sym (met_is f) ∙ e)).1).plain

  pub all_fids : fids_of (all_others views changed fids others) ≡ met ++ fids_of others
  all_fids = map-append (λ (o : Taken). o.fid) (fated views met) others ∙ ap (λ front. front ++ fids_of others) (fated_fids views met)

  all_is : (f : Fid) → is_among (fids_of (all_others views changed fids others)) f ≡ (is_among met f || is_among (fids_of others) f)
  all_is f = ap (λ gs. is_among gs f) all_fids ∙ any_append (same_fid f) met (fids_of others)

  pub all_marked : marked_among (all_others views changed fids others) ≡ marked_among others
  all_marked = ap (map (λ (o : Taken). o.fid)) (none_marked views met others met_plain)

  pub all_are : AreOthersBut views changed fids others → AreOthers views fids (all_others views changed fids others)
  all_are are = record {
    fates = fated_fates views met others are.fates;
    among = λ f e. ⊎_elim (λ m. (and_parts (is_among fids f) (is_among changed f) (sym (met_is f) ∙ m)).0) (λ o. are.among f o) (or_cases (is_among met f) (is_among (fids_of others) f) (sym (all_is f) ∙ e));
    alike = λ f a n. let k = or_parts (is_among met f) (is_among (fids_of others) f) (sym (all_is f) ∙ n) in are.alike f a k.1 (ap (λ b. b && is_among changed f) (sym a) ∙ sym (met_is f) ∙ k.0);
    marks = no_marks views met others met_plain ∙ are.marks;
  }

  -- ---- those of a replica that aren't taken up

  module _ (view : Objects) (inview : IsIn view views) (strays : List Fid) (are_strays : strays ≡ filter (λ f. not (is_among fids f)) (finmap.keys view)) where
    there_in : (f : Fid) (some : Replicas) → AreThere (copies_at some f) → IsIn view some → has_in view f ≡ true
    there_in f [] t s = absurd s
    there_in f (v ∷ some) t (inl is) = ap (λ w. has_in w f) (sym is) ∙ t.0
    there_in f (v ∷ some) t (inr s) = there_in f some t.1 s

    pub met_left : filter (λ f. not (is_among strays f)) changed ≡ met
    met_left = filter_alike_in (λ f. not (is_among strays f)) (is_among fids) changed (λ f s. here f (there_in f views (plain f (in_among changed f s)).there inview))
      where
        by : (a b : Bool) → b ≡ true → not (not a && b) ≡ a
        by true b e = refl
        by false true e = refl
        by false false e = absurd (true≢false (sym e))

        here : (f : Fid) → has_in view f ≡ true → not (is_among strays f) ≡ is_among fids f
        here f has = ap not (ap (λ gs. is_among gs f) are_strays ∙ among_filter (λ g. not (is_among fids g)) (finmap.keys view) f ∙ ap (λ b. not (is_among fids f) && b) (keys_has view f)) ∙ by (is_among fids f) (has_in view f) has

pub twice_filtered : (p q : Fid → Bool) (fids : List Fid) → filter (λ f. not (p f)) (filter (λ f. not (q f)) fids) ≡ filter (λ f. not (p f || q f)) fids
twice_filtered p q [] = refl
twice_filtered p q (f ∷ fids) = first (q f) (p f) (filter (λ g. not (q g)) fids) (filter (λ g. not (p g || q g)) fids) refl (twice_filtered p q fids)
  where
    out : (a b : Bool) → b ≡ true → not (a || b) ≡ false
    out true b e = refl
    out false b e = ap not e

    first : (b a : Bool) (rest both : List Fid) → p f ≡ a → filter (λ g. not (p g)) rest ≡ both → filter (λ g. not (p g)) (cond (not b) (f ∷ rest) rest) ≡ cond (not (p f || b)) (f ∷ both) both
    first true a rest both is e = e ∙ ap (λ c. cond c (f ∷ both) both) (sym (out (p f) true refl))
    first false true rest both is e = (λ i. cond (not (is i)) (f ∷ filter (λ g. not (p g)) rest) (filter (λ g. not (p g)) rest)) ∙ e ∙ sym (λ i. cond (not (is i || false)) (f ∷ both) both)
    first false false rest both is e = (λ i. cond (not (is i)) (f ∷ filter (λ g. not (p g)) rest) (filter (λ g. not (p g)) rest)) ∙ ap (λ r. f ∷ r) e ∙ sym (λ i. cond (not (is i || false)) (f ∷ both) both)

-- ---- what is held anew of those alone that aren't among some

pub left_renewed : (views : Replicas) (view : Objects) (objects others : List Fid) (held left : BTreeMap Fid Held) (touched fewer : List Fid) → ((f : Fid) → get fid_cmp left f ≡ cond (is_among others f) None (get fid_cmp held f)) → fewer ≡ filter (λ f. not (is_among others f)) touched → AreRenewed views view objects held touched → AreRenewed views view (filter (λ f. not (is_among others f)) objects) left fewer
left_renewed views view objects others held left touched fewer at is are = record {
  from = λ f new e. from_by f new (is_among others f) refl (sym (at f) ∙ e);
  all = λ f a n. let k = both f a in are.all f k.1 (sym (ap (λ b. cond b None (get fid_cmp held f)) (apart f k.0)) ∙ sym (at f) ∙ n);
  differ = λ f e. let k = both_of touched f (sym (told f) ∙ e) in let d = are.differ f k.1 in (objects_is f ∙ joined (is_among others f) (is_among objects f) k.0 d.0, d.1);
  alike = λ f a n. let k = both f a in are.alike f k.1 (ap (λ b. b && is_among touched f) (sym k.0) ∙ sym (among_filter (λ g. not (is_among others g)) touched f) ∙ sym (ap (λ gs. is_among gs f) is) ∙ n);
}
  where
    objects_is : (f : Fid) → is_among (filter (λ g. not (is_among others g)) objects) f ≡ (not (is_among others f) && is_among objects f)
    objects_is f = among_filter (λ g. not (is_among others g)) objects f

    told : (f : Fid) → is_among fewer f ≡ (not (is_among others f) && is_among touched f)
    told f = ap (λ gs. is_among gs f) is ∙ among_filter (λ g. not (is_among others g)) touched f

    both : (f : Fid) → is_among (filter (λ g. not (is_among others g)) objects) f ≡ true → (not (is_among others f) ≡ true) × (is_among objects f ≡ true)
    both f e = and_parts (not (is_among others f)) (is_among objects f) (sym (objects_is f) ∙ e)

    both_of : (fids : List Fid) (f : Fid) → (not (is_among others f) && is_among fids f) ≡ true → (not (is_among others f) ≡ true) × (is_among fids f ≡ true)
    both_of fids f e = and_parts (not (is_among others f)) (is_among fids f) e

    joined : (a b : Bool) → not a ≡ true → b ≡ true → (not a && b) ≡ true
    joined true b n e = absurd (true≢false (sym n))
    joined false b n e = e

    apart : (f : Fid) → not (is_among others f) ≡ true → is_among others f ≡ false
    apart f n = by (is_among others f) n
      where
        by : (b : Bool) → not b ≡ true → b ≡ false
        by true e = absurd (true≢false (sym e))
        by false e = refl

    from_by : (f : Fid) (new : Held) (b : Bool) → is_among others f ≡ b → cond (is_among others f) None (get fid_cmp held f) ≡ Some new → (is_among (filter (λ g. not (is_among others g)) objects) f ≡ true) × ((left_at views view f ≡ Some new) × (left_at views view f ≢ finmap.get view f))
    from_by f new true e h = absurd (some_none new (sym h ∙ ap (λ b. cond b None (get fid_cmp held f)) e))
    from_by f new false e h =
        let k = are.from f new (sym (ap (λ b. cond b None (get fid_cmp held f)) e) ∙ h) in
        (objects_is f ∙ joined (is_among others f) (is_among objects f) (ap not e) k.0, k.1)

turned : (f g : Fid) (b : Bool) → same_fid f g ≡ b → b ≡ same_fid g f
turned f g true e = sym (subst (λ x. same_fid x f ≡ true) (same_fid_is f g e) (same_fid_refl f))
turned f g false e = back (same_fid g f) refl
  where
    back : (c : Bool) → same_fid g f ≡ c → false ≡ c
    back true h = absurd (true≢false (sym (subst (λ x. same_fid x g ≡ true) (same_fid_is g f h) (same_fid_refl g)) ∙ e))
    back false h = refl

-- one object more is forgotten
pub forgotten_more : (was now new : BTreeMap Fid Held) (fids : List Fid) (i : ℕ) (d : Fid) → i < length fids → ((g : Fid) → get fid_cmp now g ≡ cond (is_among (take i fids) g) None (get fid_cmp was g)) → Updates fid_cmp now new (get_or fids i d) None → (g : Fid) → get fid_cmp new g ≡ cond (is_among (take (i + 1) fids) g) None (get fid_cmp was g)
forgotten_more was now new fids i d lt sofar updates g =
    updates.0 g
    ∙ (λ j. cond (one_test f g j) None (sofar g j))
    ∙ by (same_fid f g) (same_fid g f) (turned f g (same_fid f g) refl) (is_among (take i fids) g) (get fid_cmp was g)
    ∙ ap (λ b. cond b None (get fid_cmp was g)) (sym (among_last (take i fids) f g))
    ∙ ap (λ l. cond (is_among l g) None (get fid_cmp was g)) (sym (let next : i + 1 ≡ suc i = omega arith in ap (λ n. take n fids) next ∙ take-suc fids i d lt))
  where
    f : Fid
    f = get_or fids i d

    by : (b c : Bool) → b ≡ c → (a : Bool) (o : Option Held) → cond b None (cond a None o) ≡ cond (a || c) None o
    by true true e true o = refl
    by true true e false o = refl
    by true false e a o = absurd (true≢false e)
    by false true e a o = absurd (true≢false (sym e))
    by false false e true o = refl
    by false false e false o = refl
