-- What is shown of a volume stands in path order, each object once.
use Rattle.std.proofs.Common.{◌≡◌, ◌≢◌, ℕ, zero, suc, ◌+◌, ◌<◌, true, false, cond, ◌⊎◌, inl, inr, List, [], ◌∷◌, ◌++◌, length, Option, Some, None, Ok, refl, sym, ap, ◌∙◌, subst, append_assoc, arith}
use Rattle.std.specs.Prelude.{slice_get, count_by, is_some}
use Rattle.std.specs.declared.cmp.Ordering.TheVariants.{Less, Equal}
use Rattle.std.specs.Ordering.{ordering_then}
use Rattle.std.specs.List.{flat_map, AllByRecursion}
use Rattle.std.specs.FinMap as map
use Rattle.std.specs.FinMap.Entries.{is_sorted, below_all}
use Rattle.std.proofs.lemmas.Cmp.{nat_list_cmp_total, tied_itself}
use Rattle.std.proofs.lemmas.List.Recursion.{is_count_by}
use Rattle.std.proofs.lemmas.Map.Lookups.{exact_bytes}
use Rattle.std.proofs.lemmas.Option.{same_Some, none-some}
use Rattle.std.proofs.lemmas.List.{append-nil as append_nil}
use Rattle.coda_fid.specs.Fid.{same_fid}
use Rattle.coda_fid.specs.Name.{name_cmp}
use Rattle.coda_fid.specs.declared.fid.Fid.{Fid}
use Rattle.coda_fid.proofs.Fids.{same_fid_is, same_fid_refl}
use Rattle.coda_tree.specs.declared.node.Node.{Node}
use Rattle.coda_tree.specs.declared.node.NodeKind.{NodeKind}
use Rattle.coda_tree.specs.declared.node.NodeKind.TheVariants.{File, Link, Dir}
use Rattle.coda_tree.specs.Bindings.{Name}
use Rattle.coda_tree.specs.Tree.{Child, IsBelow, itself, under, AtDepth, at_top, one_deeper}
use Rattle.coda_tree.specs.Volume.{Nodes, bindings, child, child_of, has, IsVolume}
use Rattle.coda_tree.specs.Lookup.{found_at, step_in, step_from, then_from, lookup_of}
use Rattle.coda_tree.proofs.Below.{depth_lt}
use Rattle.coda_tree.proofs.Booleans.{and_true, lt_less, from_T}
use Rattle.coda_tree.proofs.MapEntries.{get_entry, entry_index}
use Rattle.coda_report.specs.Volumes.{Shown, shown_from, shown_below, path_order}
use Rattle.coda_report.specs.PathOrder.{names_cmp, IsInPathOrder}

-- ---- all of a list

all_map : {X : Type 0} (P Q : X → Type 0) (xs : List X) → ((x : X) → P x → Q x) → AllByRecursion P xs → AllByRecursion Q xs
all_map P Q [] f all = tt
all_map P Q (x ∷ xs) f all = (f x all.0, all_map P Q xs f all.1)

all_append : {X : Type 0} (P : X → Type 0) (xs ys : List X) → AllByRecursion P xs → AllByRecursion P ys → AllByRecursion P (xs ++ ys)
all_append P [] ys a b = b
all_append P (x ∷ xs) ys a b = (a.0, all_append P xs ys a.1 b)

all_flat : {X Y : Type 0} (P : Y → Type 0) (Q : X → Type 0) (f : X → List Y) (xs : List X) → AllByRecursion Q xs → ((x : X) → Q x → AllByRecursion P (f x)) → AllByRecursion P (flat_map f xs)
all_flat P Q f [] all each = tt
all_flat P Q f (x ∷ xs) all each = all_append P (f x) (flat_map f xs) (each x all.0) (all_flat P Q f xs all.1 each)

all_from : {X : Type 0} (P : X → Type 0) (xs : List X) → ((i : ℕ) (x : X) → slice_get xs i ≡ Some x → P x) → AllByRecursion P xs
all_from P [] each = tt
all_from P (x ∷ xs) each = (each 0 x refl, all_from P xs (λ i y is. each (suc i) y is))

all_at : {X : Type 0} (P : X → Type 0) (xs : List X) (i : ℕ) (x : X) → AllByRecursion P xs → slice_get xs i ≡ Some x → P x
all_at P [] i x all is = absurd (none-some x is)
all_at P (first ∷ xs) zero x all is = subst P (same_Some first x is) all.0
all_at P (first ∷ xs) (suc i) x all is = all_at P xs i x all.1 is

-- ---- names that lead down

-- the names lead from d to f
abbrev Leads : Nodes → Fid → List Name → Fid → Type 0
Leads m d [] f = d ≡ f
Leads m d (n ∷ names) f = (e : Fid) × (child m d n ≡ Some e) × Leads m e names f

-- one name more
leads_push : (m : Nodes) (d : Fid) (names : List Name) (e : Fid) (n : Name) (f : Fid) → Leads m d names e → child m e n ≡ Some f → Leads m d (names ++ n ∷ []) f
leads_push m d [] e n f led bound = (f, ap (λ (g : Fid). child m g n) led ∙ bound, refl)
leads_push m d (first ∷ names) e n f led bound = (led.0, led.1, leads_push m led.0 names e n f led.2 bound)

-- what stands below is led to
leads_below : (m : Nodes) (root f : Fid) → IsBelow (child m) root f → (names : List Name) × Leads m root names f
leads_below m root f (itself f' same) = ([], sym same)
leads_below m root f (under d n f' bound up) =
    let above = leads_below m root d up in
    (above.0 ++ n ∷ [], leads_push m root above.0 d n f above.1 bound)

-- by as many bindings as there are names
leads_depth : {root : Fid} (m : Nodes) (depth : ℕ) (d : Fid) (names : List Name) (f : Fid) → AtDepth (child m) root depth d → Leads m d names f → AtDepth (child m) root (depth + length names) f
leads_depth {root} m depth d [] f at led = subst (λ (k : ℕ). AtDepth (child m) root k f) (omega arith) (subst (AtDepth (child m) root depth) led at)
leads_depth {root} m depth d (n ∷ names) f at led =
    let next : AtDepth (child m) root (depth + 1) led.0 = one_deeper depth (depth + 1) d n led.0 refl led.1 at in
    subst (λ (k : ℕ). AtDepth (child m) root k f) (omega arith) (leads_depth m (depth + 1) led.0 names f next led.2)

-- the names on the way down
abbrev names_of : {c : Child} {g f : Fid} → IsBelow c g f → List Name
names_of (itself f same) = []
names_of (under d n f bound up) = names_of up ++ n ∷ []

-- names that lead on from what is below
below_leads : (m : Nodes) (root d : Fid) (r : IsBelow (child m) root d) (names : List Name) (f : Fid) → Leads m d names f → (s : IsBelow (child m) root f) × (names_of s ≡ names_of r ++ names)
below_leads m root d r [] f led = elim_end m root d f r led
  where
    elim_end : (m : Nodes) (root d f : Fid) (r : IsBelow (child m) root d) → d ≡ f → (s : IsBelow (child m) root f) × (names_of s ≡ names_of r ++ [])
    elim_end m root d f r same = subst (λ (g : Fid). (s : IsBelow (child m) root g) × (names_of s ≡ names_of r ++ [])) same (r, sym (append_nil (names_of r)))
below_leads m root d r (n ∷ names) f led =
    let next = below_leads m root led.0 (under d n led.0 led.1 r) names f led.2 in
    (next.0, next.1 ∙ append_assoc (names_of r) (n ∷ []) names)

module _ {root : Fid} (m : Nodes) (v : IsVolume root m) where
  -- one object has one way down to it
  one_way : (f e : Fid) (r : IsBelow (child m) root f) (s : IsBelow (child m) root e) → f ≡ e → names_of r ≡ names_of s
  one_way f e (itself f' a) (itself e' b) same = refl
  one_way f e (itself f' a) (under d n e' h up) same = absurd (v.tree.unbound d n (h ∙ ap Some (sym same ∙ a)))
  one_way f e (under d n f' h up) (itself e' b) same = absurd (v.tree.unbound d n (h ∙ ap Some (same ∙ b)))
  one_way f e (under d n f' h up) (under k j e' i up') same =
      let one = v.tree.once d n k j e (h ∙ ap Some same) i in
      λ t. one_way d k up up' one.0 t ++ one.1 t ∷ []

  -- so one object has one path
  one_path : (p q : List Name) (f e : Fid) → Leads m root p f → Leads m root q e → f ≡ e → p ≡ q
  one_path p q f e first second same =
      let a = below_leads m root root (itself root refl) p f first in
      let b = below_leads m root root (itself root refl) q e second in
      sym a.1 ∙ one_way f e a.0 b.0 same ∙ b.1

  -- and a path has fewer names than there are objects
  few_names : (p : List Name) (f : Fid) → Leads m root p f → length p < map.len m
  few_names p f led = subst (λ (k : ℕ). k < map.len m) (omega arith) (depth_lt m v (0 + length p) f (leads_depth m 0 root p f (at_top 0 root refl refl) led))

-- ---- where what is shown stands

-- what is shown stands below a directory whose path has those names
record Below (m : Nodes) (names : List Name) (d : Fid) (s : Shown) : Type 0 where
  pub rest : List Name
  pub path : s.path ≡ names ++ rest
  pub leads : Leads m d rest s.fid
  pub stands : map.get m s.fid ≡ Some s.node

-- what stands below an entry stands below its directory, behind the name
deeper : (m : Nodes) (names : List Name) (d : Fid) (n : Name) (f : Fid) (s : Shown) → child m d n ≡ Some f → Below m (names ++ n ∷ []) f s → Below m names d s
deeper m names d n f s bound below = record {
  rest = n ∷ below.rest;
  path = below.path ∙ append_assoc names (n ∷ []) below.rest;
  leads = (f, bound, below.leads);
  stands = below.stands;
}

-- an entry of the directory at a fid is bound there
bound_at : (m : Nodes) (d : Fid) (node : Node) (i : ℕ) (e : Name × Fid) → map.get m d ≡ Some node → slice_get (map.entries (bindings node.kind)) i ≡ Some e → child m d e.0 ≡ Some e.1
bound_at m d node i e there is = ap (λ o. child_of o e.0) there ∙ get_entry nat_list_cmp_total (bindings node.kind) i e is

-- each entry is bound in the directory
abbrev IsBoundIn : Nodes → Fid → Name × Fid → Type 0
IsBoundIn m d e = child m d e.0 ≡ Some e.1

entries_bound : (m : Nodes) (d : Fid) (node : Node) → map.get m d ≡ Some node → AllByRecursion (IsBoundIn m d) (map.entries (bindings node.kind))
entries_bound m d node there = all_from (IsBoundIn m d) (map.entries (bindings node.kind)) (λ i e is. bound_at m d node i e there is)

from_below : (m : Nodes) (o : Option Node) (names : List Name) (d : Fid) (below : Name × Fid → List Shown) → map.get m d ≡ o
    → ((e : Name × Fid) → AllByRecursion (Below m (names ++ e.0 ∷ []) e.1) (below e)) → AllByRecursion (Below m names d) (shown_from o names d below)
from_below m None names d below there each = tt
from_below m (Some node) names d below there each = (
  record { rest = []; path = sym (append_nil names); leads = refl; stands = there },
  all_flat (Below m names d) (IsBoundIn m d) below (map.entries (bindings node.kind)) (entries_bound m d node there)
      (λ e bound. all_map (Below m (names ++ e.0 ∷ []) e.1) (Below m names d) (below e) (λ s under_e. deeper m names d e.0 e.1 s bound under_e) (each e)),
)

-- what is shown below a directory stands below it
all_below : (m : Nodes) (levels : ℕ) (names : List Name) (d : Fid) → AllByRecursion (Below m names d) (shown_below m levels names d)
unfolding shown_below
all_below m zero names d = tt
all_below m (suc levels) names d = from_below m (map.get m d) names d (λ e. shown_below m levels (names ++ e.0 ∷ []) e.1) refl (λ e. all_below m levels (names ++ e.0 ∷ []) e.1)

-- ---- the order of paths

-- a path comes before those that it is a front of
front_less : (p : List Name) (n : Name) (q : List Name) → names_cmp p (p ++ n ∷ q) ≡ Less
front_less [] n q = refl
front_less (x ∷ p) n q = ap (λ r. ordering_then r (names_cmp p (p ++ n ∷ q))) (tied_itself nat_list_cmp_total x) ∙ front_less p n q

-- the first names that differ decide
branch_less : (p : List Name) (a b : Name) (q r : List Name) → name_cmp a b ≡ Less → names_cmp (p ++ a ∷ q) (p ++ b ∷ r) ≡ Less
branch_less [] a b q r less = ap (λ o. ordering_then o (names_cmp q r)) less
branch_less (x ∷ p) a b q r less = ap (λ o. ordering_then o (names_cmp (p ++ a ∷ q) (p ++ b ∷ r))) (tied_itself nat_list_cmp_total x) ∙ branch_less p a b q r less

-- a path ties with itself
names_tied : (p : List Name) → names_cmp p p ≡ Equal
names_tied [] = refl
names_tied (x ∷ p) = ap (λ o. ordering_then o (names_cmp p p)) (tied_itself nat_list_cmp_total x) ∙ names_tied p

-- the first comes before the second
abbrev Before : Shown → Shown → Type 0
Before s t = names_cmp s.path t.path ≡ Less

-- each comes before all behind it
abbrev Rising : List Shown → Type 0
Rising [] = Unit {0}
Rising (s ∷ rest) = AllByRecursion (Before s) rest × Rising rest

rising_append : (xs ys : List Shown) → Rising xs → Rising ys → AllByRecursion (λ s. AllByRecursion (Before s) ys) xs → Rising (xs ++ ys)
rising_append [] ys a b cross = b
rising_append (s ∷ xs) ys a b cross = (all_append (Before s) xs ys a.0 cross.0, rising_append xs ys a.1 b cross.1)

rising_at : (xs : List Shown) (i j : ℕ) (s t : Shown) → Rising xs → i < j → slice_get xs i ≡ Some s → slice_get xs j ≡ Some t → Before s t
rising_at [] i j s t up lt at_i at_j = absurd (none-some s at_i)
rising_at (first ∷ xs) i zero s t up lt at_i at_j = absurd (omega arith)
rising_at (first ∷ xs) zero (suc j) s t up lt at_i at_j = subst (λ (x : Shown). Before x t) (same_Some first s at_i) (all_at (Before first) xs j t up.0 at_j)
rising_at (first ∷ xs) (suc i) (suc j) s t up lt at_i at_j = rising_at xs i j s t up.1 (omega arith) at_i at_j

-- the path goes through that name
record Through (names : List Name) (n : Name) (s : Shown) : Type 0 where
  pub rest : List Name
  pub path : s.path ≡ names ++ n ∷ rest

-- or through one above that name
record Past (names : List Name) (n : Name) (s : Shown) : Type 0 where
  pub name : Name
  pub above : name_cmp n name ≡ Less
  pub rest : List Name
  pub path : s.path ≡ names ++ name ∷ rest

through_below : (m : Nodes) (names : List Name) (n : Name) (d : Fid) (s : Shown) → Below m (names ++ n ∷ []) d s → Through names n s
through_below m names n d s below = record { rest = below.rest; path = below.path ∙ append_assoc names (n ∷ []) below.rest }

past_through : (names : List Name) (n other : Name) (s : Shown) → name_cmp n other ≡ Less → Through names other s → Past names n s
past_through names n other s less through = record { name = other; above = less; rest = through.rest; path = through.path }

before_past : (names : List Name) (n : Name) (s t : Shown) → Through names n s → Past names n t → Before s t
before_past names n s t through past = (λ i. names_cmp (through.path i) (past.path i)) ∙ branch_less names n past.name through.rest past.rest past.above

before_through : (names : List Name) (s t : Shown) (n : Name) → s.path ≡ names → Through names n t → Before s t
before_through names s t n here through = (λ i. names_cmp (here i) (through.path i)) ∙ front_less names n through.rest

-- entries above a name
names_above : (n : Name) (es : List (Name × Fid)) → below_all name_cmp n es ≡ true → AllByRecursion (λ (e : Name × Fid). name_cmp n e.0 ≡ Less) es
names_above n [] h = tt
names_above n (e ∷ es) h = let both = and_true _ _ h in (lt_less (name_cmp n e.0) both.0, names_above n es both.1)

-- what the entries of a directory give, in their order
rising_entries : (names : List Name) (below : Name × Fid → List Shown) (es : List (Name × Fid)) → is_sorted name_cmp es ≡ true → ((e : Name × Fid) → AllByRecursion (Through names e.0) (below e)) → ((e : Name × Fid) → Rising (below e)) → Rising (flat_map below es)
rising_entries names below [] up through each = tt
rising_entries names below (e ∷ es) up through each =
    let both = and_true _ _ up in
    let rest = flat_map below es in
    let past : AllByRecursion (Past names e.0) rest = all_flat (Past names e.0) (λ (o : Name × Fid). name_cmp e.0 o.0 ≡ Less) below es (names_above e.0 es both.0)
    (λ o less. all_map (Through names o.0) (Past names e.0) (below o) (λ s t. past_through names e.0 o.0 s less t) (through o)) in
    rising_append (below e) rest (each e) (rising_entries names below es both.1 through each)
    (all_map (Through names e.0) (λ s. AllByRecursion (Before s) rest) (below e) (λ s t. all_map (Past names e.0) (Before s) rest (λ u p. before_past names e.0 s u t p) past) (through e))

rising_from : (o : Option Node) (names : List Name) (d : Fid) (below : Name × Fid → List Shown) → ((e : Name × Fid) → AllByRecursion (Through names e.0) (below e)) → ((e : Name × Fid) → Rising (below e)) → Rising (shown_from o names d below)
rising_from None names d below through each = tt
rising_from (Some node) names d below through each =
    let es = map.entries (bindings node.kind) in
    let first : Shown = record { path = names; fid = d; node = node } in (
      all_flat (Before first) (λ e. Unit {0}) below es (all_from (λ e. Unit {0}) es (λ i e is. tt)) (λ e u. all_map (Through names e.0) (Before first) (below e) (λ s t. before_through names first s e.0 refl t) (through e)),
      rising_entries names below es (from_T _ (map.entries_sorted (bindings node.kind))) through each,
    )

-- the paths of what is shown rise
rising_below : (m : Nodes) (levels : ℕ) (names : List Name) (d : Fid) → Rising (shown_below m levels names d)
unfolding shown_below
rising_below m zero names d = tt
rising_below m (suc levels) names d =
    rising_from (map.get m d) names d (λ e. shown_below m levels (names ++ e.0 ∷ []) e.1)
    (λ e. all_map (Below m (names ++ e.0 ∷ []) e.1) (Through names e.0) (shown_below m levels (names ++ e.0 ∷ []) e.1) (λ s b. through_below m names e.0 e.1 s b) (all_below m levels (names ++ e.0 ∷ []) e.1))
    (λ e. rising_below m levels (names ++ e.0 ∷ []) e.1)

-- ---- all that is led to is shown

-- an object is among those shown
abbrev Found : Fid → List Shown → Type 0
Found f [] = ⊥
Found f (s ∷ rest) = (s.fid ≡ f) ⊎ Found f rest

found_left : (f : Fid) (xs ys : List Shown) → Found f xs → Found f (xs ++ ys)
found_left f [] ys none = absurd none
found_left f (s ∷ xs) ys (inl here) = inl here
found_left f (s ∷ xs) ys (inr there) = inr (found_left f xs ys there)

found_right : (f : Fid) (xs ys : List Shown) → Found f ys → Found f (xs ++ ys)
found_right f [] ys found = found
found_right f (s ∷ xs) ys found = inr (found_right f xs ys found)

found_flat : (f : Fid) (below : Name × Fid → List Shown) (es : List (Name × Fid)) (i : ℕ) (e : Name × Fid) → slice_get es i ≡ Some e → Found f (below e) → Found f (flat_map below es)
found_flat f below [] i e is found = absurd (none-some e is)
found_flat f below (first ∷ es) zero e is found = found_left f (below first) (flat_map below es) (subst (λ (x : Name × Fid). Found f (below x)) (sym (same_Some first e is)) found)
found_flat f below (first ∷ es) (suc i) e is found = found_right f (below first) (flat_map below es) (found_flat f below es i e is found)

-- the first of what is shown where a node stands
found_here : (d : Fid) (o : Option Node) (names : List Name) (below : Name × Fid → List Shown) (node : Node) → o ≡ Some node → Found d (shown_from o names d below)
found_here d None names below node is = absurd (none-some node is)
found_here d (Some other) names below node is = inl refl

-- and what one of its entries gives
found_deeper : (d f e : Fid) (n : Name) (o : Option Node) (names : List Name) (below : Name × Fid → List Shown) → child_of o n ≡ Some e → Found f (below (n, e)) → Found f (shown_from o names d below)
found_deeper d f e n None names below bound found = absurd (none-some e bound)
found_deeper d f e n (Some node) names below bound found =
    let at = entry_index nat_list_cmp_total exact_bytes (bindings node.kind) n e bound in
    inr (found_flat f below (map.entries (bindings node.kind)) at.0 (n, e) at.1 found)

-- what names lead to is shown, where there are levels enough
found_below : (m : Nodes) (levels : ℕ) (names : List Name) (d : Fid) (way : List Name) (f : Fid) (node : Node) → Leads m d way f → map.get m f ≡ Some node → length way < levels → Found f (shown_below m levels names d)
unfolding shown_below
found_below m zero names d way f node led there lt = absurd (omega arith)
found_below m (suc levels) names d [] f node led there lt =
    subst (λ (g : Fid). Found g (shown_from (map.get m d) names d (λ e. shown_below m levels (names ++ e.0 ∷ []) e.1))) led
    (found_here d (map.get m d) names (λ e. shown_below m levels (names ++ e.0 ∷ []) e.1) node (ap (map.get m) led ∙ there))
found_below m (suc levels) names d (n ∷ way) f node led there lt =
    found_deeper d f led.0 n (map.get m d) names (λ e. shown_below m levels (names ++ e.0 ∷ []) e.1) led.1
    (found_below m levels (names ++ n ∷ []) led.0 way f node led.2 there (omega arith))

-- ---- and shown once

-- how often an object is shown
abbrev tally : Fid → List Shown → ℕ
tally f [] = 0
tally f (s ∷ rest) = cond (same_fid s.fid f) (1 + tally f rest) (tally f rest)

tally_is : (f : Fid) (xs : List Shown) → tally f xs ≡ count_by (λ s. same_fid s.fid f) xs
tally_is f xs = is_count_by (tally f) (λ s. same_fid s.fid f) refl (λ s rest. refl) xs

apart_fids : (a b : Fid) → a ≢ b → same_fid a b ≡ false
apart_fids a b ne = elim (same_fid a b) as (λ t. same_fid a b ≡ t → t ≡ false) [ true ↦ λ e. absurd (ne (same_fid_is a b e)) | false ↦ λ e. refl ] refl

tally_none : (f : Fid) (xs : List Shown) → AllByRecursion (λ s. s.fid ≢ f) xs → tally f xs ≡ 0
tally_none f [] all = refl
tally_none f (s ∷ xs) all = ap (λ b. cond b (1 + tally f xs) (tally f xs)) (apart_fids s.fid f all.0) ∙ tally_none f xs all.1

-- no object is shown twice
abbrev Distinct : List Shown → Type 0
Distinct [] = Unit {0}
Distinct (s ∷ rest) = AllByRecursion (λ t. s.fid ≢ t.fid) rest × Distinct rest

not_first : (f : Fid) (s : Shown) (xs : List Shown) → AllByRecursion (λ t. s.fid ≢ t.fid) xs → Found f xs → s.fid ≢ f
not_first f s [] apart found = absurd found
not_first f s (t ∷ xs) apart (inl here) = λ same. apart.0 (same ∙ sym here)
not_first f s (t ∷ xs) apart (inr there) = not_first f s xs apart.1 there

tally_one : (f : Fid) (xs : List Shown) → Distinct xs → Found f xs → tally f xs ≡ 1
tally_one f [] apart found = absurd found
tally_one f (s ∷ xs) apart (inl here) =
    let none = tally_none f xs (all_map (λ t. s.fid ≢ t.fid) (λ t. t.fid ≢ f) xs (λ t ne same. ne (here ∙ sym same)) apart.0) in
    ap (λ b. cond b (1 + tally f xs) (tally f xs)) (ap (λ (g : Fid). same_fid g f) here ∙ same_fid_refl f) ∙ ap (λ (k : ℕ). 1 + k) none
tally_one f (s ∷ xs) apart (inr there) =
    ap (λ b. cond b (1 + tally f xs) (tally f xs)) (apart_fids s.fid f (not_first f s xs apart.0 there)) ∙ tally_one f xs apart.1 there

-- ---- the law

-- names that lead there are a path that is looked up
leads_found : (m : Nodes) (d : Fid) (i : ℕ) (names : List Name) (f : Fid) → Leads m d names f → lookup_of m d i names ≡ Ok f
leads_found m d i [] f led = ap Ok led
leads_found m d i (n ∷ names) f led =
    ap (λ r. then_from r (λ g. lookup_of m g (i + 1) names)) (step_found (map.get m d) n i led.0 led.1) ∙ leads_found m led.0 (i + 1) names f led.2
  where
    step_in_found : (kind : NodeKind) (n : Name) (i : ℕ) (e : Fid) → map.get (bindings kind) n ≡ Some e → step_in kind n i ≡ Ok e
    step_in_found (File content) n i e bound = absurd (none-some e (sym (map.get-empty name_cmp n) ∙ bound))
    step_in_found (Link target) n i e bound = absurd (none-some e (sym (map.get-empty name_cmp n) ∙ bound))
    step_in_found (Dir entries) n i e bound = ap (λ o. found_at o i) bound

    step_found : (o : Option Node) (n : Name) (i : ℕ) (e : Fid) → child_of o n ≡ Some e → step_from o n i ≡ Ok e
    step_found None n i e bound = absurd (none-some e bound)
    step_found (Some node) n i e bound = step_in_found node.kind n i e bound

-- where something is shown, it begins with that object
begins : (m : Nodes) (levels : ℕ) (names : List Name) (d : Fid) (node : Node) → map.get m d ≡ Some node → 0 < levels
    → (first : Shown) × (rest : List Shown) × (shown_below m levels names d ≡ first ∷ rest) × (first.path ≡ names) × (first.fid ≡ d)
unfolding shown_below
begins m zero names d node there some = absurd (omega arith)
begins m (suc levels) names d node there some = (
  record { path = names; fid = d; node = node },
  flat_map (λ e. shown_below m levels (names ++ e.0 ∷ []) e.1) (map.entries (bindings node.kind)),
  ap (λ o. shown_from o names d (λ e. shown_below m levels (names ++ e.0 ∷ []) e.1)) there,
  refl,
  refl,
)

has_node : (o : Option Node) → is_some o ≡ true → (node : Node) × (o ≡ Some node)
has_node None h = absurd cc
has_node (Some node) h = (node, refl)

module _ {root : Fid} (m : Nodes) (v : IsVolume root m) where
  -- what the list shows stands below the root
  rooted : AllByRecursion (Below m [] root) (shown_below m (map.len m) [] root)
  rooted = all_below m (map.len m) [] root

  -- two objects whose paths differ in order are not one
  apart_paths : (s t : Shown) → Below m [] root s → Below m [] root t → Before s t → s.fid ≢ t.fid
  apart_paths s t a b before = λ same.
      let path : s.path ≡ t.path = a.path ∙ one_path m v a.rest b.rest s.fid t.fid a.leads b.leads same ∙ sym b.path in
      let tied : names_cmp s.path t.path ≡ Equal = ap (names_cmp s.path) (sym path) ∙ names_tied s.path in
      let two : Less ≡ Equal = sym before ∙ tied in
      cc

  distinct_of : (xs : List Shown) → AllByRecursion (Below m [] root) xs → Rising xs → Distinct xs
  distinct_of [] all up = tt
  distinct_of (s ∷ xs) all up = (differ s xs all.0 all.1 up.0, distinct_of xs all.1 up.1)
    where
      differ : (s : Shown) (xs : List Shown) → Below m [] root s → AllByRecursion (Below m [] root) xs → AllByRecursion (Before s) xs → AllByRecursion (λ t. s.fid ≢ t.fid) xs
      differ s [] a all before = tt
      differ s (t ∷ xs) a all before = (apart_paths s t a all.0 before.0, differ s xs a all.1 before.1)

  absent : (f : Fid) (xs : List Shown) → has m f ≡ false → AllByRecursion (Below m [] root) xs → AllByRecursion (λ s. s.fid ≢ f) xs
  absent f xs none all = all_map (Below m [] root) (λ s. s.fid ≢ f) xs (λ s below same. let here : is_some (map.get m f) ≡ true = ap (λ (g : Fid). is_some (map.get m g)) (sym same) ∙ ap is_some below.stands in cc) all

  times : (f : Fid) → tally f (shown_below m (map.len m) [] root) ≡ cond (has m f) 1 0
  times f =
      let shown = shown_below m (map.len m) [] root in
      elim (has m f) as (λ b. has m f ≡ b → tally f shown ≡ cond b 1 0) [
        | true ↦ λ there.
            let node = has_node (map.get m f) there in
            let led = leads_below m root f (v.tree.reached f there) in
            tally_one f shown (distinct_of shown rooted (rising_below m (map.len m) [] root)) (found_below m (map.len m) [] root led.0 f node.0 led.1 node.1 (few_names m v led.0 f led.1))
        | false ↦ λ none. tally_none f shown (absent f shown none rooted)
      ] refl

  in_order : IsInPathOrder root m (path_order root m)
  unfolding path_order
  in_order =
      let top = has_node (map.get m root) v.tree.rooted in
      record {
        first = begins m (map.len m) [] root top.0 top.1 (few_names m v [] root refl);
        lead = λ i s is.
            let below = all_at (Below m [] root) (shown_below m (map.len m) [] root) i s rooted is in
            (ap (lookup_of m root 0) below.path ∙ leads_found m root 0 below.rest s.fid below.leads, below.stands);
        rise = λ i j s t lt at_i at_j. rising_at (shown_below m (map.len m) [] root) i j s t (rising_below m (map.len m) [] root) lt at_i at_j;
        once = λ f. sym (tally_is f (shown_below m (map.len m) [] root)) ∙ times f;
      }

pub volumes_in_path_order : (root : Fid) (m : Nodes) → IsVolume root m → IsInPathOrder root m (path_order root m)
volumes_in_path_order root m v = in_order m v
