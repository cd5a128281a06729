-- A second resolution of what is the same everywhere.
use Rattle.std.proofs.Common.{◌≡◌, ℕ, Bool, true, false, cond, not, List, [], ◌∷◌, ◌++◌, Option, Some, None, is_some, refl, ap, ◌∙◌, map, ◌&&◌, ◌||◌, inl, inr}
use Rattle.std.specs.Prelude.{nat_le, option_map}
use Rattle.std.specs.List.{list_any, filter, flat_map, fold, zip}
use Rattle.std.specs.FinMap as finmap
use Rattle.std.proofs.Math.Dec.{eqb}
use Rattle.std.proofs.lemmas.Bool.{eq-eqb}
use Rattle.std.proofs.lemmas.List.{append-nil}
use Rattle.coda_fid.specs.Fid.{same_fid, fid_cmp}
use Rattle.coda_fid.specs.Name.{name_cmp}
use Rattle.coda_fid.specs.declared.fid.Fid.{Fid}
use Rattle.coda_fid.proofs.Fids.{same_fid_refl}
use Rattle.coda_tree.specs.declared.node.NodeKind.TheVariants.{Dir}
use Rattle.coda_tree.specs.Volume.{with_kind}
use Rattle.coda_vv.specs.Vector.{joined}
use Rattle.coda_reslog.specs.declared.entry.ResEntry.{ResEntry}
use Rattle.coda_reslog.specs.Rings.{last_entries}
use Rattle.coda_reslog.specs.declared.change.Held.{Held}
use Rattle.coda_resolve.specs.declared.why.Why.{Why}
use Rattle.coda_resolve.specs.declared.why.Why.TheVariants.{Kept, Wrapped, CrossRename, NameName, DoubleName, RemoveUpdate, AttrAttr}
use Rattle.coda_resolve.specs.Copies.{Copies, vector_of, log_of, is_marked, first_some}
use Rattle.coda_resolve.specs.Missing.{wrapped}
use Rattle.coda_resolve.specs.Merged.{merged_bindings, is_attr, leading, first_or, first_of_copies, attributes_of, updates_of, stands_in, followed_by, log_of_copies, merged}
use Rattle.coda_resolve.specs.Causes.{where_so, kept, is_cross_kind, cross_rename, name_name, fids_lost, all_lost, times, is_elsewhere, is_double, double_name, least, conflicts_of, updated_of, remove_update, attr_attr, cause}
use Rattle.coda_resolve.specs.Placement.{IsIn}
use Rattle.coda_resolve.proofs.Lists.{some_none, filter_less, least_none, joined_itself, last_again}
use Rattle.coda_resolve.proofs.Alike.{alike, any_alike, none_missing, not_wrapped, leads_alike}
use Rattle.coda_resolve.proofs.MergedNames.{merged_alike}

-- ---- causes

pub no_cause : (b : Bool) (why : Why) → where_so b why ≡ None → b ≡ false
no_cause true why e = absurd (some_none why e)
no_cause false why e = refl

pub nothing_mapped : {A : Type 0} (h : A → Why) (o : Option A) → option_map h o ≡ None → o ≡ None
nothing_mapped h None e = refl
nothing_mapped h (Some a) e = absurd (some_none (h a) e)

pub first_none : {X : Type 0} (o : Option X) (os : List (Option X)) → first_some (o ∷ os) ≡ None → (o ≡ None) × (first_some os ≡ None)
first_none None os e = (refl, e)
first_none (Some x) os e = absurd (some_none x e)

then_none : {X : Type 0} (o : Option X) (os : List (Option X)) → o ≡ None → first_some os ≡ None → first_some (o ∷ os) ≡ None
then_none o os e h = ap (λ x. first_some (x ∷ os)) e ∙ h

-- without a cause nothing is marked, and nothing is bound twice or lost
pub unmarked : (copies : Copies) (look : Fid → Copies) → cause copies look ≡ None → list_any is_marked copies ≡ false
unmarked copies look e = no_cause (list_any is_marked copies) Kept ((first_none (kept copies) _ e).0)

pub single : (copies : Copies) (look : Fid → Copies) → cause copies look ≡ None → filter (is_double copies look) (finmap.values (merged_bindings copies)) ≡ []
single copies look e =
    let a = (first_none (kept copies) _ e).1 in
    let b = (first_none (option_map (λ (gap : ℕ × ℕ). Wrapped gap.0 gap.1) (wrapped copies)) _ a).1 in
    let c = (first_none (cross_rename copies) _ b).1 in
    let d = (first_none (name_name copies) _ c).1 in
    least_none fid_cmp (filter (is_double copies look) (finmap.values (merged_bindings copies))) (nothing_mapped DoubleName _ ((first_none (double_name copies look) _ d).0))

-- and some replica has the directory with attributes to take
pub attributes_cause : (copies : Copies) (look : Fid → Copies) → cause copies look ≡ None → (held : Held) × (attributes_of copies ≡ Some held)
attributes_cause copies look e =
    let a = (first_none (kept copies) _ e).1 in
    let b = (first_none (option_map (λ (gap : ℕ × ℕ). Wrapped gap.0 gap.1) (wrapped copies)) _ a).1 in
    let c = (first_none (cross_rename copies) _ b).1 in
    let d = (first_none (name_name copies) _ c).1 in
    let f = (first_none (double_name copies look) _ d).1 in
    let g = (first_none (remove_update copies look) _ f).1 in
    found (attributes_of copies) refl ((first_none (attr_attr copies) _ g).0)
  where
    found : (o : Option Held) → attributes_of copies ≡ o → where_so (not (is_some o)) AttrAttr ≡ None → (held : Held) × (attributes_of copies ≡ Some held)
    found None is e = absurd (some_none AttrAttr e)
    found (Some held) is e = (held, is)

-- ---- logs and updates

itself : (u : ResEntry) → ((eqb u.origin u.origin) && (eqb u.seq u.seq)) ≡ true
itself u = ap (λ b. b && eqb u.seq u.seq) (eq-eqb u.origin u.origin refl) ∙ eq-eqb u.seq u.seq refl

-- updates that all stand in the log add nothing to it
none_new : (log more : List ResEntry) → ((u : ResEntry) → stands_in more u ≡ true → stands_in log u ≡ true) → filter (λ u. not (stands_in log u)) more ≡ []
none_new log [] h = refl
none_new log (x ∷ more) h =
    ap (λ b. cond (not b) (x ∷ filter (λ u. not (stands_in log u)) more) (filter (λ u. not (stands_in log u)) more)) (h x (ap (λ b. b || stands_in more x) (itself x)))
    ∙ none_new log more (λ u e. h u (or_more (eqb x.origin u.origin && eqb x.seq u.seq) (stands_in more u) e))
  where
    or_more : (a b : Bool) → b ≡ true → (a || b) ≡ true
    or_more true b e = refl
    or_more false b e = e

followed_by_itself : (log : List ResEntry) → followed_by log log ≡ log
followed_by_itself log = ap (λ more. log ++ more) (none_new log log (λ u e. e)) ∙ append-nil log

fold_same : {A : Type 0} (f : A → A → A) (a : A) (xs : Copies) (g : Option Held → A) (held : Held) → g (Some held) ≡ a → f a a ≡ a → fold f a (map g (alike held xs)) ≡ a
fold_same f a [] g held e h = refl
fold_same f a (x ∷ xs) g held e h = ap (λ b. fold f b (map g (alike held xs))) (ap (f a) e ∙ h) ∙ fold_same f a xs g held e h

last_logs : (copies : Copies) → last_entries (log_of_copies copies) ≡ log_of_copies copies
last_logs [] = refl
last_logs (copy ∷ copies) = last_again 256 (fold followed_by (log_of copy) (map log_of copies))

-- ---- a merged directory

-- a fid of a list is found there
among : (f : Fid) (fids : List Fid) → IsIn f fids → list_any (same_fid f) fids ≡ true
among f [] s = absurd s
among f (g ∷ fids) (inl is) = ap (λ b. b || list_any (same_fid f) fids) (ap (same_fid f) is ∙ same_fid_refl f)
among f (g ∷ fids) (inr s) = by (same_fid f g) (among f fids s)
  where
    by : (b : Bool) → list_any (same_fid f) fids ≡ true → (b || list_any (same_fid f) fids) ≡ true
    by true e = refl
    by false e = e

module _ (copies : Copies) (look : Fid → Copies) (held : Held) (free : cause copies look ≡ None) (plain : held.node.marked ≡ false) where
  module _ (copy : Option Held) (others : Copies) (later : Fid → Copies) where
    abbrev pub all : Copies
    all = alike (merged copies held) (copy ∷ others)

    same_merged : merged_bindings all ≡ merged_bindings copies
    same_merged = merged_alike (merged copies held) copy others

    attributes : attributes_of all ≡ Some (merged copies held)
    attributes = ap (λ b. first_or (cond b (Some (merged copies held)) None) (first_of_copies (leading all) (alike (merged copies held) others))) (leads_alike (merged copies held) is_attr (copy ∷ others) (Some (merged copies held)))

    -- each copy binds what is bound
    none_elsewhere : (f : Fid) → IsIn f (finmap.values (merged_bindings copies)) → (some objects : Copies) → list_any (is_elsewhere f) (zip (alike (merged copies held) some) objects) ≡ false
    none_elsewhere f s [] objects = refl
    none_elsewhere f s (c ∷ some) [] = refl
    none_elsewhere f s (c ∷ some) (object ∷ objects) = (λ i. (is_some object && not (among f (finmap.values (merged_bindings copies)) s i)) || none_elsewhere f s some objects i) ∙ nowhere (is_some object)
      where
        nowhere : (b : Bool) → ((b && false) || false) ≡ false
        nowhere true = refl
        nowhere false = refl

    not_double : (f : Fid) → IsIn f (finmap.values (merged_bindings copies)) → is_double copies look f ≡ false → is_double all later f ≡ false
    not_double f s e =
        ap (λ m. nat_le 2 (times f (finmap.values m)) || (list_any (same_fid f) (all_lost all) || list_any (is_elsewhere f) (zip all (later f)))) same_merged
        ∙ ap (λ us. nat_le 2 (times f (finmap.values (merged_bindings copies))) || (list_any (same_fid f) (flat_map (λ u. fids_lost u.lost) us) || list_any (is_elsewhere f) (zip all (later f)))) (none_missing (merged copies held) (copy ∷ others))
        ∙ ap (λ b. nat_le 2 (times f (finmap.values (merged_bindings copies))) || (false || b)) (none_elsewhere f s (copy ∷ others) (later f))
        ∙ left (nat_le 2 (times f (finmap.values (merged_bindings copies)))) (list_any (same_fid f) (all_lost copies) || list_any (is_elsewhere f) (zip copies (look f))) e
      where
        left : (a b : Bool) → (a || b) ≡ false → (a || (false || false)) ≡ false
        left true b e = e
        left false b e = refl

    pub no_cause_again : cause all later ≡ None
    no_cause_again =
        then_none (kept all) _ (ap (λ b. where_so b Kept) (any_alike (merged copies held) is_marked (copy ∷ others) plain))
        (then_none (option_map (λ (gap : ℕ × ℕ). Wrapped gap.0 gap.1) (wrapped all)) _ (ap (option_map (λ (gap : ℕ × ℕ). Wrapped gap.0 gap.1)) (not_wrapped (merged copies held) copy others))
        (then_none (cross_rename all) _ (ap (λ us. where_so (list_any (λ (u : ResEntry). is_cross_kind u.kind) us) CrossRename) (none_missing (merged copies held) (copy ∷ others)))
        (then_none (name_name all) _ (ap (λ us. option_map NameName (least name_cmp (flat_map (conflicts_of all) us))) (none_missing (merged copies held) (copy ∷ others)))
        (then_none (double_name all later) _ (ap (λ fs. option_map DoubleName (least fid_cmp fs)) (ap (λ m. filter (is_double all later) (finmap.values m)) same_merged ∙ filter_less (is_double copies look) (is_double all later) (finmap.values (merged_bindings copies)) not_double (single copies look free)))
        (then_none (remove_update all later) _ (ap (λ us. option_map RemoveUpdate (least fid_cmp (flat_map (λ u. updated_of all later u u.lost) us))) (none_missing (merged copies held) (copy ∷ others)))
        (then_none (attr_attr all) _ (ap (λ o. where_so (not (is_some o)) AttrAttr) attributes) refl))))))

    same_updates : updates_of all ≡ updates_of copies
    same_updates = fold_same joined (updates_of copies) others vector_of (merged copies held) refl (joined_itself (updates_of copies))

    same_log : log_of_copies all ≡ log_of_copies copies
    same_log = ap last_entries (fold_same followed_by (log_of_copies copies) others log_of (merged copies held) refl (followed_by_itself (log_of_copies copies))) ∙ last_logs copies

    pub merged_again : merged all (merged copies held) ≡ merged copies held
    merged_again = λ i. record {
      node = with_kind held.node (Dir (same_merged i));
      vector = record { 0 = same_updates i };
      ring = Some (same_log i);
    }

    pub attributes_again : attributes_of all ≡ Some (merged copies held)
    attributes_again = attributes
