-- A directory is marked for the first cause that holds, in words.
use Rattle.std.proofs.Common.{◌≡◌, ◌≢◌, ◌<◌, ◌≤◌, ◌+◌, ℕ, zero, suc, arith, Bool, true, false, cond, not, List, [], ◌∷◌, Option, Some, None, is_some, refl, sym, ap, ◌∙◌, subst, ◌⊎◌, inl, inr}
use Rattle.std.specs.Prelude.{option_map}
use Rattle.std.specs.List.{list_any, filter, flat_map}
use Rattle.std.specs.FinMap as finmap
use Rattle.std.specs.declared.cmp.Ordering.{Ordering}
use Rattle.std.specs.declared.cmp.Ordering.TheVariants.{Less}
use Rattle.std.specs.Cmp.{IsTotalOrder}
use Rattle.std.proofs.lemmas.Bool.{true≢false}
use Rattle.std.proofs.lemmas.Cmp.{nat_list_cmp_total}
use Rattle.std.proofs.lemmas.Map.Lookups.{CmpEqualImpliesEq, exact_bytes}
use Rattle.coda_fid.specs.Fid.{fid_cmp}
use Rattle.coda_fid.specs.Name.{name_cmp}
use Rattle.coda_fid.specs.declared.fid.Fid.{Fid}
use Rattle.coda_fid.proofs.Fids.{exact_fids, fids_total}
use Rattle.coda_tree.specs.Bindings.{Name}
use Rattle.coda_tree.specs.declared.node.NodeKind.{NodeKind}
use Rattle.coda_tree.specs.declared.node.NodeKind.TheVariants.{File, Link, Dir}
use Rattle.coda_reslog.specs.declared.entry.ResEntry.{ResEntry}
use Rattle.coda_reslog.specs.declared.entry.ResKind.{ResKind}
use Rattle.coda_reslog.specs.declared.entry.ResKind.TheVariants.{Add, Drop, Rename, Cross, Attr}
use Rattle.coda_reslog.specs.declared.change.Held.{Held}
use Rattle.coda_resolve.specs.declared.why.Mark.{Mark}
use Rattle.coda_resolve.specs.declared.why.Why.{Why}
use Rattle.coda_resolve.specs.declared.why.Why.TheVariants.{Kept, Wrapped, CrossRename, NameName, DoubleName, RemoveUpdate, AttrAttr, FileFile}
use Rattle.coda_resolve.specs.Copies.{Copies, is_marked, first_some}
use Rattle.coda_resolve.specs.Missing.{missing, wrapped}
use Rattle.coda_resolve.specs.Merged.{merged_bindings, attributes_of}
use Rattle.coda_resolve.specs.Causes.{where_so, kept, is_cross_kind, cross_rename, least, conflicts_of, name_name, is_double, double_name, remove_update, attr_attr, cause}
use Rattle.coda_resolve.specs.Settling.{Fate, Same, Marked, Gone, dir_fate, fate_by, fate_from, is_new}
use Rattle.coda_resolve.specs.Settled.{is_dir}
use Rattle.coda_resolve.specs.Resolution.{Replicas, copies_at, fate_at}
use Rattle.coda_resolve.specs.Placement.{IsIn}
use Rattle.coda_resolve.specs.Outcome.{mark_by, marks_of, taken_up}
use Rattle.coda_resolve.specs.FirstCause.{IsForgotten, Holds, row, IsLeast, IsFirstCause, IsDirectory, MarksNameTheFirstCause}
use Rattle.coda_resolve.proofs.Contested.{contested_in, in_contested, attributes_none, attributes_some}
use Rattle.coda_resolve.proofs.Doubled.{doubled_in, in_doubled, updated, updated_in, in_updated}
use Rattle.coda_resolve.proofs.Forgotten.{forgotten_is, forgotten_first, forgotten_none}
use Rattle.coda_resolve.proofs.Lists.{some_none, least_none}
use Rattle.coda_resolve.proofs.Logged.{any_in, in_any}
use Rattle.coda_resolve.proofs.Reasons.{some_is, any_some, some_any, missing_is, is_missing_in, neither, least_is}
use Rattle.coda_resolve.proofs.Twice.{lowest_kind}
use Rattle.coda_resolve.proofs.Told.{made_of}

-- ---- the first of some options

-- what stands at a place
abbrev option_at : ℕ → List (Option Why) → Option Why
option_at n [] = None
option_at zero (o ∷ os) = o
option_at (suc n) (o ∷ os) = option_at n os

-- options are said in order of rows, from a row on
abbrev AreRows : (ℕ → Why → Type 0) → ℕ → List (Option Why) → Type 0
AreRows P k [] = Unit {0}
AreRows P k (o ∷ os) = ((why : Why) → o ≡ Some why → P k why) × AreRows P (suc k) os

-- the first that is there stands at a place, and before it there is none
first_place : (os : List (Option Why)) (why : Why) → first_some os ≡ Some why → (n : ℕ) × ((option_at n os ≡ Some why) × ((m : ℕ) → m < n → option_at m os ≡ None))
first_place [] why e = absurd (some_none why (sym e))
first_place (Some x ∷ os) why e = (zero, (e, λ m lt. absurd (omega (arith, lt))))
first_place (None ∷ os) why e = let at = first_place os why e in (suc at.0, (at.1.0, before at.0 at.1.1))
  where
    before : (n : ℕ) → ((m : ℕ) → m < n → option_at m os ≡ None) → (m : ℕ) → m < suc n → option_at m (None ∷ os) ≡ None
    before n h zero lt = refl
    before n h (suc m) lt = h m (omega (arith, lt))

-- and what stands at a place before which there is none is the first
first_from : (os : List (Option Why)) (n : ℕ) (why : Why) → option_at n os ≡ Some why → ((m : ℕ) → m < n → option_at m os ≡ None) → first_some os ≡ Some why
first_from [] n why e h = absurd (some_none why (sym e))
first_from (o ∷ os) zero why e h = ap (λ p. first_some (p ∷ os)) e
first_from (o ∷ os) (suc n) why e h = ap (λ p. first_some (p ∷ os)) (h zero (omega arith)) ∙ first_from os n why e (λ m lt. h (suc m) (omega (arith, lt)))

row_at : (P : ℕ → Why → Type 0) (k : ℕ) (os : List (Option Why)) (n : ℕ) (why : Why) → AreRows P k os → option_at n os ≡ Some why → P (k + n) why
row_at P k [] n why rows e = absurd (some_none why (sym e))
row_at P k (o ∷ os) zero why rows e = let same : k ≡ k + 0 = omega arith in subst (λ j. P j why) same (rows.0 why e)
row_at P k (o ∷ os) (suc n) why rows e = let same : suc k + n ≡ k + suc n = omega arith in subst (λ j. P j why) same (row_at P (suc k) os n why rows.1 e)

-- ---- options that are said by a test, or by the least of a list

cross_is : (k : ResKind) → is_cross_kind k ≡ true → k ≡ Cross
cross_is Add e = absurd (true≢false (sym e))
cross_is Drop e = absurd (true≢false (sym e))
cross_is Rename e = absurd (true≢false (sym e))
cross_is Cross e = refl
cross_is Attr e = absurd (true≢false (sym e))

-- the cause of a test holds where it is said, and else not
module _ (views : Replicas) (d : Fid) where
  abbrev c : Copies
  c = copies_at views d

  -- said in that row: it holds, and is the least there
  abbrev IsSaid : ℕ → Why → Type 0
  IsSaid k why = (row why ≡ k) × (Holds views d why × IsLeast views d why)

  tested : (b : Bool) (one : Why) (k : ℕ) → (b ≡ true → IsSaid k one) → (why : Why) → where_so b one ≡ Some why → IsSaid k why
  tested true one k h why e = subst (IsSaid k) (some_is one why e) (h refl)
  tested false one k h why e = absurd (some_none why (sym e))

  mapped : {X : Type 0} (to : X → Why) (o : Option X) (k : ℕ) → ((x : X) → o ≡ Some x → IsSaid k (to x)) → (why : Why) → option_map to o ≡ Some why → IsSaid k why
  mapped to None k h why e = absurd (some_none why (sym e))
  mapped to (Some x) k h why e = subst (IsSaid k) (some_is (to x) why e) (h x refl)

  -- ---- the rows

  crossed : list_any (λ (u : ResEntry). is_cross_kind u.kind) (missing c) ≡ true → Holds views d CrossRename
  crossed e = let m = any_in (λ (u : ResEntry). is_cross_kind u.kind) (missing c) e in (m.0, (missing_is c m.0 m.1.0, cross_is m.0.kind m.1.1))

  is_crossed : Holds views d CrossRename → list_any (λ (u : ResEntry). is_cross_kind u.kind) (missing c) ≡ true
  is_crossed h = in_any (λ (u : ResEntry). is_cross_kind u.kind) (missing c) h.0 (is_missing_in c h.0 h.1.0) (ap is_cross_kind h.1.1)

  abbrev conflicts : List Name
  conflicts = flat_map (conflicts_of c) (missing c)

  abbrev doubles : List Fid
  doubles = filter (is_double c (copies_at views)) (finmap.values (merged_bindings c))

  abbrev updates : List Fid
  updates = updated views d

  names_said : (n : Name) → least name_cmp conflicts ≡ Some n → IsSaid 3 (NameName n)
  names_said n e = let m = least_is name_cmp nat_list_cmp_total exact_bytes conflicts n e in (refl, (in_contested c n m.0, λ k h. m.1 k (contested_in c k h)))

  doubles_said : (f : Fid) → least fid_cmp doubles ≡ Some f → IsSaid 4 (DoubleName f)
  doubles_said f e = let m = least_is fid_cmp fids_total exact_fids doubles f e in (refl, (in_doubled views d f m.0, λ g h. m.1 g (doubled_in views d g h)))

  updates_said : (f : Fid) → least fid_cmp updates ≡ Some f → IsSaid 5 (RemoveUpdate f)
  updates_said f e = let m = least_is fid_cmp fids_total exact_fids updates f e in (refl, (in_updated views d f m.0, λ g h. m.1 g (updated_in views d g h)))

  attributes_said : not (is_some (attributes_of c)) ≡ true → Holds views d AttrAttr
  attributes_said e = attributes_none c (nothing (attributes_of c) e)
    where
      nothing : (o : Option Held) → not (is_some o) ≡ true → o ≡ None
      nothing None f = refl
      nothing (Some held) f = absurd (true≢false (sym f))

  -- the table, as it is asked
  abbrev table : List (Option Why)
  table = kept c ∷ option_map (λ (gap : ℕ × ℕ). Wrapped gap.0 gap.1) (wrapped c) ∷ cross_rename c ∷ name_name c ∷ double_name c (copies_at views) ∷ remove_update c (copies_at views) ∷ attr_attr c ∷ []

  said : AreRows IsSaid 0 table
  said = (
    tested (list_any is_marked c) Kept 0 (λ e. (refl, (any_some is_marked c e, tt))),
    (
      mapped (λ (gap : ℕ × ℕ). Wrapped gap.0 gap.1) (wrapped c) 1 (λ g e. (refl, (forgotten_is c g e, forgotten_first c g e))),
      (
        tested (list_any (λ (u : ResEntry). is_cross_kind u.kind) (missing c)) CrossRename 2 (λ e. (refl, (crossed e, tt))),
        (
          mapped NameName (least name_cmp conflicts) 3 names_said,
          (
            mapped DoubleName (least fid_cmp doubles) 4 doubles_said,
            (
              mapped RemoveUpdate (least fid_cmp updates) 5 updates_said,
              (tested (not (is_some (attributes_of c))) AttrAttr 6 (λ e. (refl, (attributes_said e, tt))), tt),
            ),
          ),
        ),
      ),
    ),
  )

  -- ---- what holds is said in its row

  untested : (b : Bool) (one : Why) → where_so b one ≡ None → b ≡ true → ⊥
  untested true one e is = some_none one e
  untested false one e is = true≢false (sym is)

  unmapped : {X : Type 0} (to : X → Why) (o : Option X) → option_map to o ≡ None → o ≡ None
  unmapped to None e = refl
  unmapped to (Some x) e = absurd (some_none (to x) e)

  not_in : {X : Type 0} (x : X) (xs : List X) → IsIn x xs → xs ≡ [] → ⊥
  not_in x xs s e = absurd (subst (IsIn x) e s)

  unsaid : (why : Why) → option_at (row why) table ≡ None → Holds views d why → ⊥
  unsaid Kept e h = untested (list_any is_marked c) Kept e (some_any is_marked c h)
  unsaid (Wrapped origin seq) e h = forgotten_none c (unmapped (λ (gap : ℕ × ℕ). Wrapped gap.0 gap.1) (wrapped c) e) origin seq h
  unsaid CrossRename e h = untested (list_any (λ (u : ResEntry). is_cross_kind u.kind) (missing c)) CrossRename e (is_crossed h)
  unsaid (NameName n) e h = not_in n conflicts (contested_in c n h) (least_none name_cmp conflicts (unmapped NameName (least name_cmp conflicts) e))
  unsaid (DoubleName f) e h = not_in f doubles (doubled_in views d f h) (least_none fid_cmp doubles (unmapped DoubleName (least fid_cmp doubles) e))
  unsaid (RemoveUpdate f) e h = not_in f updates (updated_in views d f h) (least_none fid_cmp updates (unmapped RemoveUpdate (least fid_cmp updates) e))
  unsaid AttrAttr e h = by (attributes_of c) refl e
    where
      by : (o : Option Held) → attributes_of c ≡ o → where_so (not (is_some o)) AttrAttr ≡ None → ⊥
      by None is f = some_none AttrAttr f
      by (Some held) is f = attributes_some c held is h
  unsaid FileFile e h = h

  -- of two that are the least of a row, each is the other
  same_gap : (o : Option (ℕ × ℕ)) (origin seq : ℕ) → wrapped c ≡ o → IsForgotten c origin seq → IsLeast views d (Wrapped origin seq) → option_map (λ (gap : ℕ × ℕ). Wrapped gap.0 gap.1) o ≡ Some (Wrapped origin seq)
  same_gap None origin seq e h l = absurd (forgotten_none c e origin seq h)
  same_gap (Some g) origin seq e h l = by (forgotten_first c g e origin seq h) (l g.0 g.1 (forgotten_is c g e))
    where
      by : (g.0 < origin) ⊎ ((g.0 ≡ origin) × (g.1 ≤ seq)) → (origin < g.0) ⊎ ((origin ≡ g.0) × (seq ≤ g.1)) → Some (Wrapped g.0 g.1) ≡ Some (Wrapped origin seq)
      by (inl a) (inl b) = absurd (omega (arith, a, b))
      by (inl a) (inr b) = let is = b.0 in absurd (omega (arith, a, is))
      by (inr a) (inl b) = let is = a.0 in absurd (omega (arith, is, b))
      by (inr a) (inr b) =
          let low = a.1 in
          let high = b.1 in
          let server : g.0 ≡ origin = a.0 in
          let number : g.1 ≡ seq = omega (arith, low, high) in
          λ i. Some (Wrapped (server i) (number i))

  same_least : {X : Type 0} (cmp : X → X → Ordering) (total : IsTotalOrder cmp) (exact : CmpEqualImpliesEq cmp) (xs : List X) (x : X) (o : Option X) → least cmp xs ≡ o → IsIn x xs → ((y : X) → IsIn y xs → cmp y x ≢ Less) → o ≡ Some x
  same_least cmp total exact xs x None e s l = absurd (not_in x xs s (least_none cmp xs e))
  same_least cmp total exact xs x (Some m) e s l = let is = least_is cmp total exact xs m e in ap Some (neither cmp total exact m x (l m is.0) (is.1 x s))

  -- what holds, and is the least, is said in its row
  first_said : (why : Why) → Holds views d why → IsLeast views d why → option_at (row why) table ≡ Some why
  first_said Kept h l = ap (λ b. where_so b Kept) (some_any is_marked c h)
  first_said (Wrapped origin seq) h l = same_gap (wrapped c) origin seq refl h l
  first_said CrossRename h l = ap (λ b. where_so b CrossRename) (is_crossed h)
  first_said (NameName n) h l = ap (option_map NameName) (same_least name_cmp nat_list_cmp_total exact_bytes conflicts n (least name_cmp conflicts) refl (contested_in c n h) (λ k s. l k (in_contested c k s)))
  first_said (DoubleName f) h l = ap (option_map DoubleName) (same_least fid_cmp fids_total exact_fids doubles f (least fid_cmp doubles) refl (doubled_in views d f h) (λ g s. l g (in_doubled views d g s)))
  first_said (RemoveUpdate f) h l = ap (option_map RemoveUpdate) (same_least fid_cmp fids_total exact_fids updates f (least fid_cmp updates) refl (updated_in views d f h) (λ g s. l g (in_updated views d g s)))
  first_said AttrAttr h l = by (attributes_of c) refl
    where
      by : (o : Option Held) → attributes_of c ≡ o → where_so (not (is_some o)) AttrAttr ≡ Some AttrAttr
      by None is = refl
      by (Some held) is = absurd (attributes_some c held is h)
  first_said FileFile h l = absurd h

  -- ---- the first cause

  cause_first : (why : Why) → cause c (copies_at views) ≡ Some why → IsFirstCause views d why
  cause_first why e =
      let at = first_place table why e in
      let is = row_at IsSaid 0 table at.0 why said at.1.0 in
      let same : row why ≡ at.0 = let r = is.0 in omega (arith, r) in
      record { holds = is.1.0; least = is.1.1; above = λ other less h. unsaid other (at.1.1 (row other) (subst (λ n. row other < n) same less)) h }

  first_cause : (why : Why) → IsFirstCause views d why → cause c (copies_at views) ≡ Some why
  first_cause why first = first_from table (row why) why (first_said why first.holds first.least) (λ m less. before m less (option_at m table) refl)
    where
      before : (m : ℕ) → m < row why → (o : Option Why) → option_at m table ≡ o → option_at m table ≡ None
      before m less None e = e
      before m less (Some w) e =
          let is = row_at IsSaid 0 table m w said e in
          let r = is.0 in
          let lower : row w < row why = omega (arith, r, less) in
          absurd (first.above w lower is.1.0)

  -- ---- the fate

  marked_is : (o : Option Why) (from : Option Held) (why : Why) → dir_fate c o from ≡ Marked why → o ≡ Some why
  marked_is (Some w) from why e = cc
  marked_is None None why e = absurd cc
  marked_is None (Some held) why e = absurd cc

  some_lowest : (copies : Copies) (held : Held) → IsIn (Some held) copies → first_some copies ≡ None → ⊥
  some_lowest [] held s e = absurd s
  some_lowest (None ∷ copies) held (inl is) e = some_none held (sym is)
  some_lowest (None ∷ copies) held (inr s) e = some_lowest copies held s e
  some_lowest (Some x ∷ copies) held s e = some_none x e

  fate_is : IsDirectory views d → fate_at views d ≡ dir_fate c (cause c (copies_at views)) (attributes_of c)
  fate_is dir = by (first_some c) refl
    where
      by_kind : (k : NodeKind) → is_dir k ≡ true → fate_by c (copies_at views) k ≡ dir_fate c (cause c (copies_at views)) (attributes_of c)
      by_kind (File content) e = absurd (true≢false (sym e))
      by_kind (Link target) e = absurd (true≢false (sym e))
      by_kind (Dir entries) e = refl

      by : (o : Option Held) → first_some c ≡ o → fate_from c (copies_at views) o ≡ dir_fate c (cause c (copies_at views)) (attributes_of c)
      by None e = absurd (some_lowest c dir.held dir.here e)
      by (Some low) e = by_kind low.node.kind (lowest_kind true c low dir.kind e)

  marked_first : (why : Why) → IsDirectory views d → fate_at views d ≡ Marked why → IsFirstCause views d why
  marked_first why dir e = cause_first why (marked_is (cause c (copies_at views)) (attributes_of c) why (sym (fate_is dir) ∙ e))

  first_marked : (why : Why) → IsDirectory views d → IsFirstCause views d why → fate_at views d ≡ Marked why
  first_marked why dir first = fate_is dir ∙ ap (λ o. dir_fate c o (attributes_of c)) (first_cause why first)

-- a mark that is told has the cause
mark_is : (views : Replicas) (f : Fid) (fate : Fate) (mark : Mark) → mark_by (copies_at views f) f fate ≡ Some mark → (f ≡ mark.fid) × (fate ≡ Marked mark.why)
mark_is views f (Same held) mark e = absurd (some_none mark (sym e))
mark_is views f Gone mark e = absurd (some_none mark (sym e))
mark_is views f (Marked why) mark e = by (is_new (copies_at views f) (Marked why)) e
  where
    by : (b : Bool) → cond b (Some (record { fid = f; why = why })) None ≡ Some mark → (f ≡ mark.fid) × (Marked why ≡ Marked mark.why)
    by false g = absurd (some_none mark (sym g))
    by true g = let m : Mark = record { fid = f; why = why } in let is = some_is m mark g in (ap (λ (n : Mark). n.fid) is, ap (λ (n : Mark). Marked n.why) is)

pub marks_name_the_first_cause : MarksNameTheFirstCause
marks_name_the_first_cause = record {
  each = λ views d why dir. (marked_first views d why dir, first_marked views d why dir);
  told = told;
}
  where
    told : (views : Replicas) (root : Fid) (mark : Mark) → IsIn mark (marks_of views root) → IsDirectory views mark.fid → IsFirstCause views mark.fid mark.why
    told views root mark s dir =
        let m = made_of (λ g. mark_by (copies_at views g) g (fate_at views g)) (taken_up views root) mark s in
        let is = mark_is views m.0 (fate_at views m.0) mark m.1.1 in
        marked_first views mark.fid mark.why dir (sym (ap (fate_at views) is.0) ∙ is.1)
