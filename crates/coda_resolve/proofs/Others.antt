-- Objects that may change, and the others, which stay as all replicas hold them.
use Rattle.std.proofs.Common.{◌≡◌, ◌<◌, ◌+◌, ℕ, suc, arith, Bool, true, false, cond, not, List, [], ◌∷◌, ◌++◌, Option, Some, None, length, get_or, take, refl, sym, ap, ◌∙◌, subst, ◌⊎◌, inl, inr, ⊎_elim, map}
use Rattle.std.specs.FinMap as finmap
use Rattle.std.specs.List.{AllByRecursion, filter, filter_map, cons_option}
use Rattle.std.specs.BTreeMap.{BTreeMap}
use Rattle.std.proofs.Math.Seq.{take-suc}
use Rattle.std.proofs.lemmas.Bool.{true≢false, or_parts}
use Rattle.std.proofs.lemmas.List.{map-append, append-nil}
use Rattle.std.proofs.lemmas.List.Elements.{filter-append, filter_map-append}
use Rattle.coda_fid.specs.Fid.{same_fid}
use Rattle.coda_fid.specs.declared.fid.Fid.{Fid}
use Rattle.coda_fid.proofs.Fids.{same_fid_refl}
use Rattle.coda_reslog.specs.declared.change.Held.{Held}
use Rattle.coda_resolve.specs.declared.why.Mark.{Mark}
use Rattle.coda_resolve.specs.declared.walking.Taken.{Taken}
use Rattle.coda_resolve.specs.Copies.{Copies, first_some}
use Rattle.coda_resolve.specs.Settling.{Fate, Same, Marked, Gone, fate, settled_copy}
use Rattle.coda_resolve.specs.Settled.{IsEverywhere, is_dir}
use Rattle.coda_resolve.specs.Resolution.{Objects, Replicas, copies_at, fate_at}
use Rattle.coda_resolve.specs.Placement.{IsIn}
use Rattle.coda_resolve.specs.Outcome.{mark_by}
use Rattle.coda_resolve.specs.Changes.{is_among, node_of}
use Rattle.coda_resolve.specs.Renewals.{left_at, AreRenewed}
use Rattle.coda_resolve.specs.Survey.{HasUpdatesOf, HasNodeOf, AreAlike, StaysAlike, IsFateOf, mark_at, AreOthers, AreOthersBut}
use Rattle.coda_resolve.specs.Taken.{fids_of, AreFates}
use Rattle.coda_resolve.proofs.Alike.{alike}
use Rattle.coda_resolve.proofs.Renewing.{among_last, among_cases, among_before, among_here}
use Rattle.coda_resolve.proofs.Stack.{one_more_taken}
use Rattle.coda_resolve.proofs.Twice.{leaf_again}

-- ---- what all replicas hold alike

everywhere_alike : (held : Held) (copies : Copies) → IsEverywhere held copies → copies ≡ alike held copies
everywhere_alike held [] e = refl
everywhere_alike held (copy ∷ copies) e = λ i. e.0 i ∷ everywhere_alike held copies e.1 i

pub same_everywhere : (held : Held) (copies : Copies) → AllByRecursion (HasUpdatesOf held) copies → AllByRecursion (HasNodeOf held) copies → IsEverywhere held copies
same_everywhere held [] u n = tt
same_everywhere held (None ∷ copies) u n = absurd u.0
same_everywhere held (Some own ∷ copies) u n = ((λ i. Some (record { node = n.0 i; vector = u.0.0 i; ring = u.0.1 i })), same_everywhere held copies u.1 n.1)

-- a file or link that all hold alike stays so
pub stays_alike : (views : Replicas) (f : Fid) (copies : Copies) → copies ≡ copies_at views f → AreAlike copies → (s : StaysAlike views f) × (is_dir s.held.node.kind ≡ false)
stays_alike views f [] is a = absurd a
stays_alike views f (copy ∷ others) is a =
    let held = a.0 in
    let all : IsEverywhere held (copy ∷ others) = (a.1.0, a.1.1.everywhere) in
    let s : StaysAlike views f = record {
      held = held;
      everywhere = subst (IsEverywhere held) is all;
      fate = ap (λ cs. fate cs (copies_at views)) (sym is ∙ everywhere_alike held (copy ∷ others) all) ∙ leaf_again held copy others (copies_at views) a.1.1.plain a.1.1.leaf;
    } in
    (s, a.1.1.leaf)

-- what becomes of an object stays where each copy is that
pub stays_as : (views : Replicas) (f : Fid) (copies : Copies) (result : Fate) → copies ≡ copies_at views f → result ≡ fate_at views f → IsFateOf result copies → StaysAlike views f
stays_as views f copies (Same held) is e all = record { held = held; everywhere = subst (IsEverywhere held) is all; fate = sym e }
stays_as views f copies (Marked why) is e all = absurd all
stays_as views f copies Gone is e all = absurd all

-- ---- one object more

-- the mark of what becomes of an object at the replicas
abbrev pub mark : Replicas → Fid → Option Mark
mark views f = mark_by (copies_at views f) f (fate_at views f)

pub none_others : (views : Replicas) (changed : List Fid) → AreOthersBut views changed [] []
none_others views changed = record {
  fates = tt;
  among = λ f e. e;
  alike = λ f e n c. absurd (true≢false (sym e));
  marks = refl;
}

-- one that is known
pub known_more : (views : Replicas) (changed fids : List Fid) (others : List Taken) (f : Fid) → mark views f ≡ None → (is_among changed f ≡ false → StaysAlike views f) → AreOthersBut views changed fids others → AreOthersBut views changed (fids ++ f ∷ []) others
known_more views changed fids others f none s are = record {
  fates = are.fates;
  among = λ g e. among_before fids f g (are.among g e);
  alike = λ g e n c. ⊎_elim (λ a. are.alike g a n c) (λ is. subst (StaysAlike views) (sym is) (s (subst (λ h. is_among changed h ≡ false) is c))) (among_cases fids f g e);
  marks = are.marks ∙ sym (filter_map-append (mark views) fids (f ∷ []) ∙ ap (λ more. filter_map (mark views) fids ++ cons_option more []) none ∙ append-nil (filter_map (mark views) fids));
}

-- one that stays as all replicas hold it
pub alike_more : (views : Replicas) (changed fids : List Fid) (others : List Taken) (f : Fid) → StaysAlike views f → AreOthersBut views changed fids others → AreOthersBut views changed (fids ++ f ∷ []) others
alike_more views changed fids others f s are = known_more views changed fids others f (ap (mark_by (copies_at views f) f) s.fate) (λ c. s) are

pub other_more : (views : Replicas) (changed fids : List Fid) (others : List Taken) (f : Fid) (result : Fate) → result ≡ fate_at views f → AreOthersBut views changed fids others → AreOthersBut views changed (fids ++ f ∷ []) (others ++ record { fid = f; fate = result } ∷ [])
other_more views changed fids others f result is are = record {
  fates = more.0;
  among = λ g e. ⊎_elim (λ a. among_before fids f g (are.among g a)) (λ same. among_here fids f g same) (among_cases (fids_of others) f g (ap (λ l. is_among l g) (sym more.1) ∙ e));
  alike = λ g e n c. by g c (or_parts (is_among (fids_of others) g) (same_fid g f) (sym (among_last (fids_of others) f g) ∙ ap (λ l. is_among l g) (sym more.1) ∙ n)) (among_cases fids f g e);
  marks =
      filter_map-append (mark_at views) others (record { fid = f; fate = result } ∷ [])
      ∙ (λ i. are.marks i ++ cons_option (mark_by (copies_at views f) f (is i)) [])
      ∙ sym (filter_map-append (mark views) fids (f ∷ []));
}
  where
    more : AreFates views (others ++ record { fid = f; fate = result } ∷ []) × (fids_of (others ++ record { fid = f; fate = result } ∷ []) ≡ fids_of others ++ f ∷ [])
    more = one_more_taken views others (others ++ record { fid = f; fate = result } ∷ []) f result refl are.fates is

    by : (g : Fid) → is_among changed g ≡ false → (is_among (fids_of others) g ≡ false) × (same_fid g f ≡ false) → (is_among fids g ≡ true) ⊎ (g ≡ f) → StaysAlike views g
    by g c n (inl a) = are.alike g a n.0 c
    by g c n (inr same) = absurd (true≢false (sym (ap (same_fid g) (sym same) ∙ same_fid_refl g) ∙ n.1))

-- ---- what is held anew

everywhere_at : (held : Held) (f : Fid) (views : Replicas) (view : Objects) → IsEverywhere held (copies_at views f) → IsIn view views → finmap.get view f ≡ Some held
everywhere_at held f [] view e s = absurd s
everywhere_at held f (v ∷ views) view e (inl is) = ap (λ w. finmap.get w f) (sym is) ∙ e.0
everywhere_at held f (v ∷ views) view e (inr s) = everywhere_at held f views view e.1 s

-- what is held anew of the objects that may change is all that is
pub renewed_all : (views : Replicas) (view : Objects) (fids : List Fid) (others : List Taken) (held : BTreeMap Fid Held) (touched : List Fid) → IsIn view views → AreOthers views fids others → AreRenewed views view (fids_of others) held touched → AreRenewed views view fids held touched
renewed_all views view fids others held touched inview are r = record {
  from = λ f new e. let k = r.from f new e in (are.among f k.0, k.1);
  all = λ f a n. here f a (is_among (fids_of others) f) refl (λ e. r.all f e n);
  differ = λ f e. let k = r.differ f e in (are.among f k.0, k.1);
  alike = λ f a n. node f a (is_among (fids_of others) f) refl (λ e. r.alike f e n);
}
  where
    stays : (f : Fid) → is_among fids f ≡ true → is_among (fids_of others) f ≡ false → left_at views view f ≡ finmap.get view f
    stays f a n = let s = are.alike f a n in ap (λ result. settled_copy result (first_some (copies_at views f)) (finmap.get view f)) s.fate ∙ sym (everywhere_at s.held f views view s.everywhere inview)

    here : (f : Fid) → is_among fids f ≡ true → (b : Bool) → is_among (fids_of others) f ≡ b → (is_among (fids_of others) f ≡ true → left_at views view f ≡ finmap.get view f) → left_at views view f ≡ finmap.get view f
    here f a true e more = more e
    here f a false e more = stays f a e

    node : (f : Fid) → is_among fids f ≡ true → (b : Bool) → is_among (fids_of others) f ≡ b → (is_among (fids_of others) f ≡ true → node_of (left_at views view f) ≡ node_of (finmap.get view f)) → node_of (left_at views view f) ≡ node_of (finmap.get view f)
    node f a true e more = more e
    node f a false e more = ap node_of (stays f a e)

-- ---- what wasn't met

-- one object of the replica more, which is left out where the test doesn't pass it
pub unmet_more : (t : Fid → Bool) (pairs : List (Fid × Held)) (i : ℕ) (p : Fid × Held) (old new : List Fid) (b : Bool) → i < length pairs → p ≡ get_or pairs i p → filter t old ≡ filter t (map (λ o. o.0) (take i pairs)) → (b ≡ true → t p.0 ≡ false) → new ≡ old ++ cond (not b) (p.0 ∷ []) [] → filter t new ≡ filter t (map (λ o. o.0) (take (i + 1) pairs))
unmet_more t pairs i p old new b lt is sofar out added =
    ap (filter t) added
    ∙ filter-append t old (cond (not b) (p.0 ∷ []) [])
    ∙ (λ j. sofar j ++ last b out j)
    ∙ sym (filter-append t (map (λ (o : Fid × Held). o.0) (take i pairs)) (p.0 ∷ []))
    ∙ ap (filter t) (sym (map-append (λ (o : Fid × Held). o.0) (take i pairs) (p ∷ [])) ∙ ap (map (λ (o : Fid × Held). o.0)) (sym next))
  where
    one : i + 1 ≡ suc i
    one = omega arith

    next : take (i + 1) pairs ≡ take i pairs ++ p ∷ []
    next = ap (λ n. take n pairs) one ∙ take-suc pairs i p lt ∙ ap (λ o. take i pairs ++ o ∷ []) (sym is)

    last : (c : Bool) → (c ≡ true → t p.0 ≡ false) → filter t (cond (not c) (p.0 ∷ []) []) ≡ filter t (p.0 ∷ [])
    last true h = sym (ap (λ d. cond d (p.0 ∷ []) []) (h refl))
    last false h = refl
