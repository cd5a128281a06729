-- What a resolution makes of one replica.
use Rattle.std.proofs.Common.{◌≡◌, ◌≢◌, Bool, true, false, cond, not, List, [], ◌∷◌, ◌++◌, Option, Some, None, is_some, refl, sym, ap, ◌∙◌, subst, ◌⊎◌, inl, inr, ⊎_elim, ◌&&◌, ◌||◌, map}
use Rattle.std.specs.FinMap as finmap
use Rattle.std.specs.FinMap.Entries.{is_sorted}
use Rattle.std.specs.List.{filter}
use Rattle.std.specs.BTreeMap.{BTreeMap, get}
use Rattle.std.specs.BTreeSet.{BTreeSet}
use Rattle.std.proofs.lemmas.Bool.{true≢false}
use Rattle.coda_fid.specs.Fid.{fid_cmp, same_fid}
use Rattle.coda_fid.specs.declared.fid.Fid.{Fid}
use Rattle.coda_fid.proofs.Fids.{same_fid_is}
use Rattle.coda_reslog.specs.declared.change.Held.{Held}
use Rattle.coda_reslog.specs.declared.change.Change.{Change}
use Rattle.coda_resolve.specs.declared.walking.Taken.{Taken}
use Rattle.coda_resolve.specs.declared.why.Why.{Why}
use Rattle.coda_resolve.specs.Settling.{Fate, Same, Marked, Gone}
use Rattle.coda_resolve.specs.Counted.{has_fid}
use Rattle.coda_resolve.specs.Survey.{AreOthers}
use Rattle.coda_resolve.specs.Taken.{fids_of, AreFates}
use Rattle.coda_resolve.specs.Reached.{IsReached, start, onward, AreReached}
use Rattle.coda_resolve.specs.Resolution.{Objects, Replicas, fate_at, IsTakenUp, at_root, has_in}
use Rattle.coda_resolve.specs.Placement.{IsIn, AreTreesOfOneKind}
use Rattle.coda_resolve.specs.Outcome.{taken_up, levels_of}
use Rattle.coda_resolve.specs.Trees.{KeepsOwn, marked_there, further, IsInstalled}
use Rattle.coda_resolve.specs.Changes.{is_among, changed, node_of, IsChange}
use Rattle.coda_resolve.specs.Renewals.{Tells, left_at, AreRenewed, is_mark, marked_among, IsPart}
use Rattle.coda_resolve.specs.Views.{objects_in}
use Rattle.coda_resolve.proofs.Lists.{some_none}
use Rattle.coda_resolve.proofs.Others.{renewed_all}
use Rattle.coda_resolve.proofs.Twice.{is_same}
use Rattle.coda_resolve.proofs.MergedNames.{any_append}
use Rattle.coda_resolve.proofs.Walked.{walk_is_taken_up}
use Rattle.coda_resolve.proofs.Complete.{taken_up_is_met}
use Rattle.coda_resolve.proofs.Trees.{kept_apart}
use Rattle.coda_resolve.proofs.Renewing.{or_cases, or_left, or_right}
use Rattle.coda_resolve.proofs.Changed.{among_in, in_among, among_filter, filter_alike_in, keys_has, or_else, get_changed}

none_of : {X : Type 0} (o : Option X) → is_some o ≡ false → o ≡ None
none_of None e = refl
none_of (Some x) e = absurd (true≢false e)

module _ (views : Replicas) (root : Fid) (view : Objects) (history : AreTreesOfOneKind views root) (inview : IsIn view views) (objects : List Fid) (all : objects ≡ taken_up views root) where
  -- the objects are those that are taken up
  pub taken_among : (f : Fid) → IsTakenUp views root f → is_among objects f ≡ true
  taken_among f up = ap (λ fids. is_among fids f) all ∙ in_among (taken_up views root) f (taken_up_is_met views root f history up)

  pub among_taken : (f : Fid) → is_among objects f ≡ true → IsTakenUp views root f
  among_taken f e = walk_is_taken_up (levels_of views) views root root f (at_root root refl) (among_in (taken_up views root) f (ap (λ fids. is_among fids f) (sym all) ∙ e))

  module _ (change : Change) (held : BTreeMap Fid Held) (touched : List Fid) (left : Fid → Bool) (renewed : AreRenewed views view objects held touched) (up : is_sorted fid_cmp change.held ≡ true) (same : (f : Fid) → finmap.get (objects_in change.held) f ≡ get fid_cmp held f) (gone : change.gone ≡ filter (λ f. not (left f)) (finmap.keys view)) (left_is : (f : Fid) → left f ≡ true → IsTakenUp views root f ⊎ KeepsOwn views root view f) (left_taken : (f : Fid) → is_among objects f ≡ true → left f ≡ true) (left_kept : (f : Fid) → KeepsOwn views root view f → left f ≡ true) where
    abbrev after : Objects
    after = changed view change

    goes : (f : Fid) → is_among change.gone f ≡ (not (left f) && has_in view f)
    goes f = ap (λ fids. is_among fids f) gone ∙ among_filter (λ g. not (left g)) (finmap.keys view) f ∙ ap (λ b. not (left f) && b) (keys_has view f)

    after_is : (f : Fid) → finmap.get after f ≡ or_else (get fid_cmp held f) (cond (not (not (left f) && has_in view f)) (finmap.get view f) None)
    after_is f = get_changed view change f up ∙ (λ i. or_else (same f i) (cond (not (goes f i)) (finmap.get view f) None))

    after_left : (f : Fid) → left f ≡ true → finmap.get after f ≡ or_else (get fid_cmp held f) (finmap.get view f)
    after_left f e = after_is f ∙ ap (λ b. or_else (get fid_cmp held f) (cond (not (not b && has_in view f)) (finmap.get view f) None)) e

    not_held : (f : Fid) → (is_among objects f ≡ true → ⊥) → get fid_cmp held f ≡ None
    not_held f apart = by (get fid_cmp held f) refl
      where
        by : (o : Option Held) → get fid_cmp held f ≡ o → o ≡ None
        by None e = refl
        by (Some new) e = absurd (apart (renewed.from f new e).0)

    after_not : (f : Fid) → left f ≡ false → finmap.get after f ≡ None
    after_not f e =
        after_is f
        ∙ (λ i. or_else (not_held f (λ is. true≢false (sym (left_taken f is) ∙ e)) i) (cond (not (not (e i) && has_in view f)) (finmap.get view f) None))
        ∙ by (has_in view f) refl
      where
        by : (b : Bool) → has_in view f ≡ b → cond (not b) (finmap.get view f) None ≡ None
        by true h = refl
        by false h = none_of (finmap.get view f) h

    after_taken : (f : Fid) → is_among objects f ≡ true → finmap.get after f ≡ left_at views view f
    after_taken f is = after_left f (left_taken f is) ∙ by (get fid_cmp held f) refl
      where
        by : (o : Option Held) → get fid_cmp held f ≡ o → or_else o (finmap.get view f) ≡ left_at views view f
        by None e = sym (renewed.all f is e)
        by (Some new) e = sym (renewed.from f new e).1.0

    after_kept : (f : Fid) → left f ≡ true → (is_among objects f ≡ true → ⊥) → finmap.get after f ≡ finmap.get view f
    after_kept f e apart = after_left f e ∙ ap (λ o. or_else o (finmap.get view f)) (not_held f apart)

    installed : IsInstalled views root view after
    installed = record {
      taken = λ f up. after_taken f (taken_among f up);
      kept = λ d n f keeps bound. after_kept f (left_kept f (further d n f keeps bound)) (λ is. kept_apart views root view history inview d n f keeps bound (among_taken f is));
      only = λ f has. left_is f (by f (left f) refl has);
    }
      where
        by : (f : Fid) (b : Bool) → left f ≡ b → has_in after f ≡ true → left f ≡ true
        by f true e has = e
        by f false e has = absurd (true≢false (sym has ∙ ap is_some (after_not f e)))

    -- it is held anew just where it is held otherwise than before
    anew : (f : Fid) (h : Held) → finmap.get after f ≡ Some h → finmap.get view f ≢ Some h → get fid_cmp held f ≡ Some h
    anew f h is other = by (left f) refl
      where
        here : (o : Option Held) → get fid_cmp held f ≡ o → or_else o (finmap.get view f) ≡ Some h → get fid_cmp held f ≡ Some h
        here None at e = absurd (other e)
        here (Some new) at e = at ∙ e

        by : (b : Bool) → left f ≡ b → get fid_cmp held f ≡ Some h
        by true e = here (get fid_cmp held f) refl (sym (after_left f e) ∙ is)
        by false e = absurd (some_none h (sym is ∙ after_not f e))

    has_left : (f : Fid) → has_in view f ≡ true → has_in after f ≡ left f
    has_left f has = by (left f) refl
      where
        here : (o : Option Held) → is_some (or_else o (finmap.get view f)) ≡ true
        here None = has
        here (Some new) = refl

        by : (b : Bool) → left f ≡ b → has_in after f ≡ b
        by true e = ap is_some (after_left f e) ∙ here (get fid_cmp held f)
        by false e = ap is_some (after_not f e)

    exact : IsChange view after change
    exact = record {
      in_order = up;
      differs = λ f h. (
        (λ e. let k = renewed.from f h (sym (same f) ∙ e) in (after_taken f k.0 ∙ k.1.0, λ was. k.1.1 (k.1.0 ∙ sym was))),
        (λ e. same f ∙ anew f h e.0 e.1),
      );
      goes = gone ∙ filter_alike_in (λ f. not (left f)) (λ f. not (has_in after f)) (finmap.keys view) (λ f s. ap not (sym (has_left f (sym (keys_has view f) ∙ in_among (finmap.keys view) f s))));
    }

    pub part_made : IsPart views root view change (touched ++ change.gone)
    part_made = record {
      replica = record { installed = installed; exact = exact };
      tells = λ f. subst (λ b. Tells (not b) (node_of (finmap.get after f)) (node_of (finmap.get view f))) (sym (any_append (same_fid f) touched change.gone)) (by f (is_among touched f) (is_among change.gone f) refl refl);
    }
      where
        none_differs : (f : Fid) (o : Option Held) → is_some o ≡ true → node_of None ≢ node_of o
        none_differs f None h e = true≢false (sym h)
        none_differs f (Some own) h e = some_none own.node (sym e)

        is_gone : (f : Fid) → is_among change.gone f ≡ true → (left f ≡ false) × (has_in view f ≡ true)
        is_gone f e = parts (left f) (has_in view f) (sym (goes f) ∙ e)
          where
            parts : (b c : Bool) → (not b && c) ≡ true → (b ≡ false) × (c ≡ true)
            parts true c e = absurd (true≢false (sym e))
            parts false c e = (refl, e)

        stays : (f : Fid) (b among : Bool) → left f ≡ b → is_among objects f ≡ among → is_among touched f ≡ false → is_among change.gone f ≡ false → node_of (finmap.get after f) ≡ node_of (finmap.get view f)
        stays f true true e is t g = ap node_of (after_taken f is) ∙ renewed.alike f is t
        stays f true false e is t g = ap node_of (after_kept f e (λ i. true≢false (sym i ∙ is)))
        stays f false among e is t g = ap node_of (after_not f e ∙ sym (none_of (finmap.get view f) (sym (goes f ∙ ap (λ b. not b && has_in view f) e) ∙ g)))

        by : (f : Fid) (t g : Bool) → is_among touched f ≡ t → is_among change.gone f ≡ g → Tells (not (t || g)) (node_of (finmap.get after f)) (node_of (finmap.get view f))
        by f true g is at = λ e. let k = renewed.differ f is in k.1 (ap node_of (sym (after_taken f k.0)) ∙ e)
        by f false true is at = λ e. let k = is_gone f at in none_differs f (finmap.get view f) k.1 (ap node_of (sym (after_not f k.0)) ∙ e)
        by f false false is at = stays f (left f) (is_among objects f) refl refl is at

-- ---- from the sets that are made

is_marked_there : (views : Replicas) (objects : List Taken) (f : Fid) → AreFates views objects → is_among (marked_among objects) f ≡ true → (is_among (fids_of objects) f ≡ true) × ((why : Why) × (fate_at views f ≡ Marked why))
is_marked_there views [] f are e = absurd (true≢false (sym e))
is_marked_there views (t ∷ objects) f are e = by t.fate refl e (is_marked_there views objects f are.1)
  where
    later : (is_among (fids_of objects) f ≡ true) × ((why : Why) × (fate_at views f ≡ Marked why)) → (is_among (fids_of (t ∷ objects)) f ≡ true) × ((why : Why) × (fate_at views f ≡ Marked why))
    later m = (or_right (same_fid f t.fid) (is_among (fids_of objects) f) m.0, m.1)

    here : (why : Why) → t.fate ≡ Marked why → same_fid f t.fid ≡ true → (is_among (fids_of (t ∷ objects)) f ≡ true) × ((why : Why) × (fate_at views f ≡ Marked why))
    here why is same = (ap (λ b. b || is_among (fids_of objects) f) same, (why, ap (fate_at views) (same_fid_is f t.fid same) ∙ sym are.0 ∙ is))

    by : (result : Fate) → t.fate ≡ result → is_among (map (λ (o : Taken). o.fid) (cond (is_mark result) (t ∷ filter (λ (o : Taken). is_mark o.fate) objects) (filter (λ (o : Taken). is_mark o.fate) objects))) f ≡ true → (is_among (marked_among objects) f ≡ true → (is_among (fids_of objects) f ≡ true) × ((why : Why) × (fate_at views f ≡ Marked why))) → (is_among (fids_of (t ∷ objects)) f ≡ true) × ((why : Why) × (fate_at views f ≡ Marked why))
    by (Same held) is e more = later (more e)
    by (Marked why) is e more = ⊎_elim (λ same. here why is same) (λ rest. later (more rest)) (or_cases (same_fid f t.fid) (is_among (marked_among objects) f) e)
    by Gone is e more = later (more e)

is_marked_among : (views : Replicas) (objects : List Taken) (f : Fid) (why : Why) → AreFates views objects → is_among (fids_of objects) f ≡ true → fate_at views f ≡ Marked why → is_among (marked_among objects) f ≡ true
is_marked_among views [] f why are e is = absurd (true≢false (sym e))
is_marked_among views (t ∷ objects) f why are e is = by (is_mark t.fate) refl (is_marked_among views objects f why are.1)
  where
    mark_here : same_fid f t.fid ≡ true → is_mark t.fate ≡ true
    mark_here same = ap is_mark (are.0 ∙ ap (fate_at views) (sym (same_fid_is f t.fid same)) ∙ is)

    by : (b : Bool) → is_mark t.fate ≡ b → (is_among (fids_of objects) f ≡ true → fate_at views f ≡ Marked why → is_among (marked_among objects) f ≡ true) → is_among (map (λ (o : Taken). o.fid) (cond b (t ∷ filter (λ (o : Taken). is_mark o.fate) objects) (filter (λ (o : Taken). is_mark o.fate) objects))) f ≡ true
    by true at more = ⊎_elim (λ same. ap (λ b. b || is_among (marked_among objects) f) same) (λ rest. or_right (same_fid f t.fid) (is_among (marked_among objects) f) (more rest is)) (or_cases (same_fid f t.fid) (is_among (fids_of objects) f) e)
    by false at more = ⊎_elim (λ same. absurd (true≢false (sym (mark_here same) ∙ at))) (λ rest. more rest is) (or_cases (same_fid f t.fid) (is_among (fids_of objects) f) e)

pub part_from : (views : Replicas) (root : Fid) (view : Objects) → AreTreesOfOneKind views root → IsIn view views → (fids : List Fid) (others : List Taken) → fids ≡ taken_up views root → AreOthers views fids others → (change : Change) (held : BTreeMap Fid Held) (touched : List Fid) (seen : BTreeSet Fid) (left : Fid → Bool) (marks : List Fid) → marks ≡ marked_among others → AreReached view marks seen → ((f : Fid) → left f ≡ (has_fid seen f || is_among fids f)) → AreRenewed views view (fids_of others) held touched → is_sorted fid_cmp change.held ≡ true → ((f : Fid) → finmap.get (objects_in change.held) f ≡ get fid_cmp held f) → change.gone ≡ filter (λ f. not (left f)) (finmap.keys view) → IsPart views root view change (touched ++ change.gone)
part_from views root view history inview fids others all are change held touched seen left marks marks_are reached left_are renewed up same gone =
    part_made views root view history inview fids all change held touched left (renewed_all views view fids others held touched inview are renewed) up same gone
    (λ f e. ⊎_elim (λ s. from_reached f (reached.only f s)) (λ a. inl (taken f a)) (or_cases (has_fid seen f) (is_among fids f) (sym (left_are f) ∙ e)))
    (λ f a. left_are f ∙ or_right (has_fid seen f) (is_among fids f) a)
    (λ f keeps. left_are f ∙ or_left (has_fid seen f) (is_among fids f) (reached.all f (to_reached f keeps)))
  where
    taken : (f : Fid) → is_among fids f ≡ true → IsTakenUp views root f
    taken f a = among_taken views root view history inview fids all f a

    marked_is : (f : Fid) → is_among marks f ≡ true → KeepsOwn views root view f
    marked_is f e = let m = is_marked_there views others f are.fates (ap (λ gs. is_among gs f) (sym marks_are) ∙ e) in marked_there f m.1.0 (taken f (are.among f m.0)) m.1.1

    -- what is marked may change
    marked_may : (d : Fid) (why : Why) → is_among fids d ≡ true → fate_at views d ≡ Marked why → is_among (fids_of others) d ≡ true
    marked_may d why a is = by (is_among (fids_of others) d) refl
      where
        by : (b : Bool) → is_among (fids_of others) d ≡ b → b ≡ true
        by true e = refl
        by false e = absurd (true≢false (ap is_same (sym (are.alike d a e).fate ∙ is)))

    from_reached : (f : Fid) → IsReached view marks f → IsTakenUp views root f ⊎ KeepsOwn views root view f
    from_reached g r = inr (keeps g r)
      where
        keeps : (f : Fid) → IsReached view marks f → KeepsOwn views root view f
        keeps g (start f e) = marked_is f e
        keeps g (onward d n f r bound) = further d n f (keeps d r) bound

    to_reached : (f : Fid) → KeepsOwn views root view f → IsReached view marks f
    to_reached g (marked_there d why up is) = start d (ap (λ gs. is_among gs d) marks_are ∙ is_marked_among views others d why are.fates (marked_may d why (taken_among views root view history inview fids all d up) is) is)
    to_reached g (further d n f keeps bound) = onward d n f (to_reached d keeps) bound
