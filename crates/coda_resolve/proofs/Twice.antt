-- A second resolution changes nothing.
use Rattle.std.proofs.Common.{◌≡◌, Bool, true, false, cond, not, List, [], ◌∷◌, Option, Some, None, refl, sym, ap, ◌∙◌, subst, map, ◌||◌}
use Rattle.std.specs.List.{list_any, list_all, AllByRecursion}
use Rattle.std.proofs.lemmas.Bool.{true≢false}
use Rattle.coda_fid.specs.declared.fid.Fid.{Fid}
use Rattle.coda_tree.specs.declared.node.NodeKind.{NodeKind}
use Rattle.coda_tree.specs.declared.node.NodeKind.TheVariants.{File, Link, Dir}
use Rattle.coda_vv.specs.Vector.{includes}
use Rattle.coda_reslog.specs.declared.change.Held.{Held}
use Rattle.coda_resolve.specs.declared.why.Why.{Why}
use Rattle.coda_resolve.specs.declared.why.Why.TheVariants.{Kept}
use Rattle.coda_resolve.specs.Copies.{Copies, vector_of, is_marked, first_some}
use Rattle.coda_resolve.specs.Missing.{leads}
use Rattle.coda_resolve.specs.Merged.{is_attr, leading, first_or, first_of_copies, attributes_of, merged}
use Rattle.coda_resolve.specs.Causes.{where_so, kept, cause}
use Rattle.coda_resolve.specs.Settling.{Fate, Same, Marked, Gone, dir_fate, leaf_fate, dominating, fate_by, fate_from, fate, settled_copy, settled, is_new}
use Rattle.coda_resolve.specs.Settled.{is_dir, HasKind, AreOneKind, IsMarkedEverywhere}
use Rattle.coda_resolve.proofs.Lists.{some_none, includes_itself}
use Rattle.coda_resolve.proofs.Alike.{alike, any_alike, all_alike}
use Rattle.coda_resolve.proofs.Again.{unmarked, no_cause_again, merged_again, attributes_again}
use Rattle.coda_resolve.proofs.Settled.{marked_everywhere}

-- ---- fates

abbrev pub is_same : Fate → Bool
is_same (Same held) = true
is_same (Marked why) = false
is_same Gone = false

abbrev is_marked_fate : Fate → Bool
is_marked_fate (Same held) = false
is_marked_fate (Marked why) = true
is_marked_fate Gone = false

abbrev pub is_gone : Fate → Bool
is_gone (Same held) = false
is_gone (Marked why) = false
is_gone Gone = true

abbrev held_or : Held → Fate → Held
held_or other (Same held) = held
held_or other (Marked why) = other
held_or other Gone = other

pub one_same : (a b : Held) → Same a ≡ Same b → a ≡ b
one_same a b e = ap (held_or a) e

abbrev the_held : Held → Option Held → Held
the_held other None = other
the_held other (Some held) = held

one_some : (a b : Held) → Some a ≡ Some b → a ≡ b
one_some a b e = ap (the_held a) e

-- ---- what is picked from the copies

module _ (P : Option Held → Type 0) (pick : Option Held → Option Held) (own : (copy : Option Held) (held : Held) → pick copy ≡ Some held → copy ≡ Some held) where
  pub picked : (copies : Copies) (held : Held) → AllByRecursion P copies → first_of_copies pick copies ≡ Some held → P (Some held)
  picked [] held a e = absurd (some_none held (sym e))
  picked (copy ∷ copies) held a e = go (pick copy) refl e (picked copies held a.1)
    where
      go : (o : Option Held) → pick copy ≡ o → first_or o (first_of_copies pick copies) ≡ Some held → (first_of_copies pick copies ≡ Some held → P (Some held)) → P (Some held)
      go None is e more = more e
      go (Some other) is e more = subst P (own copy other is ∙ e) a.0

pub own_dominating : (copies : Copies) (copy : Option Held) (held : Held) → dominating copies copy ≡ Some held → copy ≡ Some held
own_dominating copies None held e = absurd (some_none held (sym e))
own_dominating copies (Some other) held e = go (list_all (λ o. includes other.vector.0 (vector_of o)) copies) e
  where
    go : (b : Bool) → cond b (Some other) None ≡ Some held → Some other ≡ Some held
    go true e = e
    go false e = absurd (some_none held (sym e))

own_leading : (copies : Copies) (copy : Option Held) (held : Held) → leading copies copy ≡ Some held → copy ≡ Some held
own_leading copies None held e = absurd (some_none held (sym e))
own_leading copies (Some other) held e = go (leads is_attr copies (Some other)) e
  where
    go : (b : Bool) → cond b (Some other) None ≡ Some held → Some other ≡ Some held
    go true e = e
    go false e = absurd (some_none held (sym e))

none_marked : (copies : Copies) → list_any is_marked copies ≡ false → AllByRecursion (λ copy. is_marked copy ≡ false) copies
none_marked [] e = tt
none_marked (copy ∷ copies) e = (left (is_marked copy) (list_any is_marked copies) e, none_marked copies (right (is_marked copy) (list_any is_marked copies) e))
  where
    left : (a b : Bool) → (a || b) ≡ false → a ≡ false
    left true b e = e
    left false b e = refl

    right : (a b : Bool) → (a || b) ≡ false → b ≡ false
    right true b e = absurd (true≢false e)
    right false b e = e

pub lowest_kind : (b : Bool) (copies : Copies) (held : Held) → AllByRecursion (HasKind b) copies → first_some copies ≡ Some held → is_dir held.node.kind ≡ b
lowest_kind b [] held a e = absurd (some_none held (sym e))
lowest_kind b (None ∷ copies) held a e = lowest_kind b copies held a.1 e
lowest_kind b (Some other ∷ copies) held a e = subst (λ h. is_dir h.node.kind ≡ b) (one_some other held e) a.0

-- ---- files and links

-- the file or link that all replicas hold, unmarked, stays
pub leaf_again : (held : Held) (copy : Option Held) (others : Copies) (later : Fid → Copies) → held.node.marked ≡ false → is_dir held.node.kind ≡ false → fate (alike held (copy ∷ others)) later ≡ Same held
leaf_again held copy others later plain kind = by_kind held.node.kind kind
  where
    newest : first_of_copies (dominating (alike held (copy ∷ others))) (alike held (copy ∷ others)) ≡ Some held
    newest = ap (λ b. first_or (cond b (Some held) None) (first_of_copies (dominating (alike held (copy ∷ others))) (alike held others))) (all_alike held (λ o. includes held.vector.0 (vector_of o)) (copy ∷ others) (includes_itself held.vector.0))

    leaf : leaf_fate (list_any is_marked (alike held (copy ∷ others))) (first_of_copies (dominating (alike held (copy ∷ others))) (alike held (copy ∷ others))) ≡ Same held
    leaf = ap (λ b. leaf_fate b (first_of_copies (dominating (alike held (copy ∷ others))) (alike held (copy ∷ others)))) (any_alike held is_marked (copy ∷ others) plain) ∙ ap (leaf_fate false) newest

    by_kind : (k : NodeKind) → is_dir k ≡ false → fate_by (alike held (copy ∷ others)) later k ≡ Same held
    by_kind (File content) e = leaf
    by_kind (Link target) e = leaf
    by_kind (Dir entries) e = absurd (true≢false e)

pub leaf_same : (copies : Copies) (held : Held) → leaf_fate (list_any is_marked copies) (first_of_copies (dominating copies) copies) ≡ Same held → (list_any is_marked copies ≡ false) × (first_of_copies (dominating copies) copies ≡ Some held)
leaf_same copies held e = go (list_any is_marked copies) (first_of_copies (dominating copies) copies) e
  where
    go : (b : Bool) (o : Option Held) → leaf_fate b o ≡ Same held → (b ≡ false) × (o ≡ Some held)
    go true o e = absurd (true≢false (sym (ap is_same e)))
    go false None e = absurd (true≢false (sym (ap is_same e)))
    go false (Some other) e = (refl, ap Some (one_same other held e))

leaf_stays : (copies : Copies) (held : Held) (copy : Option Held) (others : Copies) (later : Fid → Copies) → AllByRecursion (HasKind false) copies → leaf_fate (list_any is_marked copies) (first_of_copies (dominating copies) copies) ≡ Same held → fate (alike held (copy ∷ others)) later ≡ Same held
leaf_stays copies held copy others later kinds e =
    let k = leaf_same copies held e in
    leaf_again held copy others later
    (picked (λ c. is_marked c ≡ false) (dominating copies) (own_dominating copies) copies held (none_marked copies k.0) k.1)
    (picked (HasKind false) (dominating copies) (own_dominating copies) copies held kinds k.1)

-- ---- directories

pub dir_same : (copies : Copies) (why : Option Why) (from : Option Held) (held : Held) → dir_fate copies why from ≡ Same held → (why ≡ None) × ((of : Held) × ((from ≡ Some of) × (merged copies of ≡ held)))
dir_same copies (Some why) from held e = absurd (true≢false (sym (ap is_same e)))
dir_same copies None None held e = absurd (true≢false (sym (ap is_same e)))
dir_same copies None (Some of) held e = (refl, (of, (refl, one_same (merged copies of) held e)))

dir_stays : (copies : Copies) (look later : Fid → Copies) (held : Held) (copy : Option Held) (others : Copies) → dir_fate copies (cause copies look) (attributes_of copies) ≡ Same held → fate (alike held (copy ∷ others)) later ≡ Same held
dir_stays copies look later held copy others e =
    let k = dir_same copies (cause copies look) (attributes_of copies) held e in
    let of = k.1.0 in
    let plain : of.node.marked ≡ false = picked (λ c. is_marked c ≡ false) (leading copies) (own_leading copies) copies of (none_marked copies (unmarked copies look k.0)) k.1.1.0 in
    let all = alike (merged copies of) (copy ∷ others) in
    let again : fate (alike (merged copies of) (copy ∷ others)) later ≡ Same (merged copies of) =
    ap (λ w. dir_fate (alike (merged copies of) (copy ∷ others)) w (attributes_of (alike (merged copies of) (copy ∷ others)))) (no_cause_again copies look of k.0 plain copy others later)
    ∙ ap (dir_fate (alike (merged copies of) (copy ∷ others)) None) (attributes_again copies look of k.0 plain copy others later)
    ∙ ap Same (merged_again copies look of k.0 plain copy others later) in
    subst (λ h. fate (alike h (copy ∷ others)) later ≡ Same h) k.1.1.1 again

-- ---- both

resolved_from : (copies : Copies) (look later : Fid → Copies) (held : Held) (copy : Option Held) (others : Copies) (lowest : Option Held) → AreOneKind copies → first_some copies ≡ lowest → fate_from copies look lowest ≡ Same held → fate (alike held (copy ∷ others)) later ≡ Same held
resolved_from copies look later held copy others None kinds at e = absurd (true≢false (sym (ap is_same e)))
resolved_from copies look later held copy others (Some low) kinds at e = by_kind low.node.kind (lowest_kind kinds.0 copies low kinds.1 at) e
  where
    by_kind : (k : NodeKind) → is_dir k ≡ kinds.0 → fate_by copies look k ≡ Same held → fate (alike held (copy ∷ others)) later ≡ Same held
    by_kind (File content) is e = leaf_stays copies held copy others later (subst (λ b. AllByRecursion (HasKind b) copies) (sym is) kinds.1) e
    by_kind (Link target) is e = leaf_stays copies held copy others later (subst (λ b. AllByRecursion (HasKind b) copies) (sym is) kinds.1) e
    by_kind (Dir entries) is e = dir_stays copies look later held copy others e

pub resolved_stay : (copies : Copies) (look later : Fid → Copies) (held : Held) → AreOneKind copies → fate copies look ≡ Same held → fate (settled copies look) later ≡ Same held
resolved_stay [] look later held kinds e = absurd (true≢false (sym (ap is_same e)))
resolved_stay (copy ∷ others) look later held kinds e =
    ap (λ result. fate (map (settled_copy result (first_some (copy ∷ others))) (copy ∷ others)) later) e
    ∙ resolved_from (copy ∷ others) look later held copy others (first_some (copy ∷ others)) kinds refl e

-- ---- what is marked everywhere

keeps_mark : (lowest : Option Held) (copy : Option Held) → is_marked copy ≡ true → settled_copy (Marked Kept) lowest copy ≡ copy
keeps_mark lowest None e = absurd (true≢false (sym e))
keeps_mark lowest (Some own) e = λ i. Some (record own { node = record own.node { marked = sym e i } })

keep_marks : (lowest : Option Held) (copies : Copies) → IsMarkedEverywhere copies → map (settled_copy (Marked Kept) lowest) copies ≡ copies
keep_marks lowest [] a = refl
keep_marks lowest (copy ∷ copies) a = λ i. keeps_mark lowest copy a.0 i ∷ keep_marks lowest copies a.1 i

none_new : (copies : Copies) → IsMarkedEverywhere copies → list_any (λ copy. not (is_marked copy)) copies ≡ false
none_new [] a = refl
none_new (copy ∷ copies) a = ap (λ b. not b || list_any (λ c. not (is_marked c)) copies) a.0 ∙ none_new copies a.1

with_first : (o : Option Why) (os : List (Option Why)) (why : Why) → o ≡ Some why → first_some (o ∷ os) ≡ Some why
with_first o os why e = ap (λ x. first_some (x ∷ os)) e

kept_first : (copies : Copies) (look : Fid → Copies) → list_any is_marked copies ≡ true → cause copies look ≡ Some Kept
kept_first copies look e = with_first (kept copies) _ Kept (ap (λ b. where_so b Kept) e)

marked_fate : (own : Held) (others : Copies) (later : Fid → Copies) → own.node.marked ≡ true → fate (Some own ∷ others) later ≡ Marked Kept
marked_fate own others later e = by_kind own.node.kind
  where
    some_marked : list_any is_marked (Some own ∷ others) ≡ true
    some_marked = ap (λ b. b || list_any is_marked others) e

    by_kind : (k : NodeKind) → fate_by (Some own ∷ others) later k ≡ Marked Kept
    by_kind (File content) = ap (λ b. leaf_fate b (first_of_copies (dominating (Some own ∷ others)) (Some own ∷ others))) some_marked
    by_kind (Link target) = ap (λ b. leaf_fate b (first_of_copies (dominating (Some own ∷ others)) (Some own ∷ others))) some_marked
    by_kind (Dir entries) = ap (λ w. dir_fate (Some own ∷ others) w (attributes_of (Some own ∷ others))) (kept_first (Some own ∷ others) later some_marked)

pub marked_again : (copy : Option Held) (others : Copies) (later : Fid → Copies) → IsMarkedEverywhere (copy ∷ others) → (fate (copy ∷ others) later ≡ Marked Kept) × ((settled (copy ∷ others) later ≡ copy ∷ others) × (is_new (copy ∷ others) (Marked Kept) ≡ false))
marked_again None others later a = absurd (true≢false (sym a.0))
marked_again (Some own) others later a =
    let is = marked_fate own others later a.0 in
    (is, (ap (λ result. map (settled_copy result (Some own)) (Some own ∷ others)) is ∙ keep_marks (Some own) (Some own ∷ others) a, none_new (Some own ∷ others) a))

pub marked_stay : (copies : Copies) (look later : Fid → Copies) (why : Why) → fate copies look ≡ Marked why → (fate (settled copies look) later ≡ Marked Kept) × ((settled (settled copies look) later ≡ settled copies look) × (is_new (settled copies look) (Marked Kept) ≡ false))
marked_stay [] look later why e = absurd (true≢false (sym (ap is_marked_fate e)))
marked_stay (copy ∷ others) look later why e = by_lowest (first_some (copy ∷ others)) refl e
  where
    by_lowest : (lowest : Option Held) → first_some (copy ∷ others) ≡ lowest → fate_from (copy ∷ others) look lowest ≡ Marked why → (fate (settled (copy ∷ others) look) later ≡ Marked Kept) × ((settled (settled (copy ∷ others) look) later ≡ settled (copy ∷ others) look) × (is_new (settled (copy ∷ others) look) (Marked Kept) ≡ false))
    by_lowest None at f = absurd (true≢false (sym (ap is_marked_fate f)))
    by_lowest (Some low) at f =
        let all : settled (copy ∷ others) look ≡ map (settled_copy (Marked why) (Some low)) (copy ∷ others) = (λ i. map (settled_copy (e i) (at i)) (copy ∷ others)) in
        subst (λ c. (fate c later ≡ Marked Kept) × ((settled c later ≡ c) × (is_new c (Marked Kept) ≡ false))) (sym all) (marked_again (settled_copy (Marked why) (Some low) copy) (map (settled_copy (Marked why) (Some low)) others) later (marked_everywhere why low (copy ∷ others)))
