-- The directory that binds a fid is the first, in the order of fids, of those that do.
use Rattle.std.proofs.Common.{◌≡◌, ◌≢◌, Bool, true, false, cond, List, [], ◌∷◌, Option, Some, None, IfSome, IsSomeAnd, map, refl, sym, ap, ◌∙◌, subst, inl, inr, ◌⊎◌}
use Rattle.std.specs.List.{find, IsDistinct}
use Rattle.std.specs.Map.{keys_of}
use Rattle.std.specs.FinMap as finite
use Rattle.std.specs.FinMap.Entries.{is_sorted, below_all}
use Rattle.std.specs.declared.cmp.Ordering.TheVariants.{Less, Equal, Greater}
use Rattle.std.specs.Ordering.{is_eq, ordering_reverse}
use Rattle.std.proofs.lemmas.Option.{none-some, same_Some}
use Rattle.std.proofs.lemmas.Cmp.{tied_itself}
use Rattle.coda_fid.specs.Fid.{fid_cmp, same_fid}
use Rattle.coda_fid.specs.declared.fid.Fid.{Fid}
use Rattle.coda_fid.proofs.Fids.{fids_total, exact_fids}
use Rattle.coda_tree.specs.declared.node.Node.{Node}
use Rattle.coda_tree.specs.Bindings.{Name}
use Rattle.coda_tree.specs.Volume.{Nodes, child, child_of, binds_fid, parent_of}
use Rattle.coda_tree.proofs.Booleans.{and_true, lt_less, from_T}
use Rattle.coda_tree.proofs.Parents.{parent_sound, parent_complete, binds_sound, binds_complete, there_node}
use Rattle.coda_tree.specs.Table.{nodes_of, earlier, earliest}
use Rattle.coda_tree.proofs.Keyed.{kept_at, get_keyed, absent_none, changed_here, changed_else}
use Rattle.coda_tree.proofs.Order.{fid_cases}

-- what a test finds among keys that are all above another
found_above : (p : Fid → Bool) (k : Fid) (es : List (Fid × Node)) (x : Fid) → below_all fid_cmp k es ≡ true → find p (map (λ e. e.0) es) ≡ Some x → fid_cmp k x ≡ Less
found_above p k [] x below is = absurd (none-some x is)
found_above p k (e ∷ es) x below is =
    elim (p e.0) as (λ b. cond b (Some e.0) (find p (map (λ e. e.0) es)) ≡ Some x → fid_cmp k x ≡ Less) [
      | true ↦ λ here. subst (λ y. fid_cmp k y ≡ Less) (same_Some e.0 x here) (lt_less _ (and_true _ _ below).0)
      | false ↦ λ later. found_above p k es x (and_true _ _ below).1 later
    ] is

-- a key that has a value is above one that is below all keys
value_above : (k : Fid) (es : List (Fid × Node)) (y : Fid) (v : Node) → below_all fid_cmp k es ≡ true → finite.find fid_cmp y es ≡ Some v → fid_cmp k y ≡ Less
value_above k [] y v below is = absurd (none-some v is)
value_above k (e ∷ es) y v below is =
    elim (fid_cmp y e.0) as (λ r. fid_cmp y e.0 ≡ r → cond (is_eq r) (Some e.1) (finite.find fid_cmp y es) ≡ Some v → fid_cmp k y ≡ Less) [
      | Less ↦ λ _ later. value_above k es y v (and_true _ _ below).1 later
      | Equal ↦ λ tied _. subst (λ z. fid_cmp k z ≡ Less) (sym (exact_fids y e.0 tied)) (lt_less _ (and_true _ _ below).0)
      | Greater ↦ λ _ later. value_above k es y v (and_true _ _ below).1 later
    ] refl is

not_both : (a b : Fid) → fid_cmp a b ≡ Less → fid_cmp b a ≢ Less
not_both a b less h = let back : fid_cmp b a ≡ Greater = fids_total.antisymm b a ∙ ap ordering_reverse less in cc

-- no key that passes the test comes before the one that is found
found_first : (p : Fid → Bool) (es : List (Fid × Node)) (x y : Fid) (v : Node) → is_sorted fid_cmp es ≡ true → find p (map (λ e. e.0) es) ≡ Some x → finite.find fid_cmp y es ≡ Some v → p y ≡ true → fid_cmp y x ≢ Less
found_first p [] x y v up is among passes = absurd (none-some x is)
found_first p (e ∷ es) x y v up is among passes =
    elim (p e.0) as (λ b. p e.0 ≡ b → cond b (Some e.0) (find p (map (λ e. e.0) es)) ≡ Some x → fid_cmp y x ≢ Less) [
      | true ↦ λ _ here. elim (fid_cmp y e.0) as (λ r. fid_cmp y e.0 ≡ r → cond (is_eq r) (Some e.1) (finite.find fid_cmp y es) ≡ Some v → fid_cmp y x ≢ Less) [
        | Less ↦ λ less later. absurd (not_both y e.0 less (value_above e.0 es y v (and_true _ _ up).0 later))
        | Equal ↦ λ tied _ less. let same : fid_cmp y x ≡ Equal = subst (λ z. fid_cmp y z ≡ Equal) (same_Some e.0 x here) tied in cc
        | Greater ↦ λ over _ less. let same : fid_cmp y x ≡ Greater = subst (λ z. fid_cmp y z ≡ Greater) (same_Some e.0 x here) over in cc
      ] refl among
      | false ↦ λ not later. elim (fid_cmp y e.0) as (λ r. fid_cmp y e.0 ≡ r → cond (is_eq r) (Some e.1) (finite.find fid_cmp y es) ≡ Some v → fid_cmp y x ≢ Less) [
        | Less ↦ λ _ further. found_first p es x y v (and_true _ _ up).1 later further passes
        | Equal ↦ λ tied _. let same : p e.0 ≡ true = subst (λ z. p z ≡ true) (exact_fids y e.0 tied) passes in cc
        | Greater ↦ λ _ further. found_first p es x y v (and_true _ _ up).1 later further passes
      ] refl among
    ] refl is

-- no directory that binds the fid comes before the parent
first_of_all : (m : Nodes) (f d e : Fid) (n : Name) → parent_of m f ≡ Some d → child m e n ≡ Some f → fid_cmp e d ≢ Less
unfolding parent_of
first_of_all m f d e n is binds =
    let there = there_node (finite.get m e) f n binds in
    found_first (λ k. binds_fid (finite.get m k) f) (finite.entries m) d e there.0 (from_T _ (finite.entries_sorted m)) is (sym (finite.get-entries m e) ∙ there.1) (binds_complete (finite.get m e) f n binds)

-- the first directory that binds the fid is its parent
pub parent_first : (m : Nodes) (f d : Fid) (n : Name) → child m d n ≡ Some f → ((e : Fid) (k : Name) → child m e k ≡ Some f → fid_cmp e d ≢ Less) → parent_of m f ≡ Some d
parent_first m f d n binds none =
    let found = parent_complete m d n f binds in
    let sound = parent_sound m f found.0 found.1 in
    let early : fid_cmp d found.0 ≢ Less = first_of_all m f found.0 d n found.1 binds in
    let late : fid_cmp found.0 d ≢ Less = none found.0 sound.0 sound.1 in
    elim (fid_cmp d found.0) as (λ r. fid_cmp d found.0 ≡ r → parent_of m f ≡ Some d) [
      | Less ↦ λ less. absurd (early less)
      | Equal ↦ λ tied. found.1 ∙ ap Some (sym (exact_fids d found.0 tied))
      | Greater ↦ λ over. absurd (late (fids_total.antisymm found.0 d ∙ ap ordering_reverse over))
    ] refl

-- what no directory binds has none
pub parent_none : (m : Nodes) (f : Fid) → ((d : Fid) (n : Name) → child m d n ≢ Some f) → parent_of m f ≡ None
parent_none m f none =
    elim (parent_of m f) as (λ o. parent_of m f ≡ o → o ≡ None) [
      | None ↦ λ _. refl
      | Some d ↦ λ is. let sound = parent_sound m f d is in absurd (none d sound.0 sound.1)
    ] refl

-- ---- nodes that are gone through in any order

-- of two fids one comes first, and it is one of them
earliest_not_after : (first : Option Fid) (k : Fid) → fid_cmp k (earliest first k) ≢ Less
earliest_not_after None k = λ less. let same : fid_cmp k k ≡ Equal = tied_itself fids_total k in cc
earliest_not_after (Some a) k = elim (fid_cmp a k) as (λ r. fid_cmp a k ≡ r → fid_cmp k (earlier r a k) ≢ Less) [
  | Less ↦ λ e less. not_both a k e less
  | Equal ↦ λ _ less. let same : fid_cmp k k ≡ Equal = tied_itself fids_total k in cc
  | Greater ↦ λ _ less. let same : fid_cmp k k ≡ Equal = tied_itself fids_total k in cc
] refl

earliest_not_later : (a k q : Fid) → fid_cmp q a ≢ Less → fid_cmp q (earliest (Some a) k) ≢ Less
earliest_not_later a k q h = elim (fid_cmp a k) as (λ r. fid_cmp a k ≡ r → fid_cmp q (earlier r a k) ≢ Less) [
  | Less ↦ λ _. h
  | Equal ↦ λ e. subst (λ x. fid_cmp q x ≢ Less) (exact_fids a k e) h
  | Greater ↦ λ e less. h (fids_total.trans q k a less (fids_total.antisymm k a ∙ ap ordering_reverse e))
] refl

earliest_has : (P : Fid → Type 0) (first : Option Fid) (k : Fid) → P k → IfSome first P → P (earliest first k)
earliest_has P None k here before = here
earliest_has P (Some a) k here before = elim (fid_cmp a k) as (λ r. P (earlier r a k)) [ Less ↦ before | Equal ↦ here | Greater ↦ here ]

-- a directory that binds the fid is not before this one
abbrev pub IsNotBefore : Option Fid → Fid → Type 0
IsNotBefore first q = IsSomeAnd first (λ d. fid_cmp q d ≢ Less)

-- each node is still among those that are left, or else does not bind the fid, or not before the first so far
abbrev pub IsPassed : List (Fid × Node) → List (Fid × Node) → Fid → Option Fid → Type 0
IsPassed all left f first = (q : Fid) → (kept_at left q ≡ kept_at all q) ⊎ ((kept_at left q ≡ None) × (binds_fid (kept_at all q) f ≡ true → IsNotBefore first q))

-- the first so far binds the fid
abbrev pub IsBinder : List (Fid × Node) → Fid → Option Fid → Type 0
IsBinder all f first = IfSome first (λ d. binds_fid (kept_at all d) f ≡ true)

pub none_passed : (all : List (Fid × Node)) (f : Fid) → IsPassed all all f None
none_passed all f q = inl refl

module _ (all left rest : List (Fid × Node)) (k : Fid) (node : Node) (f : Fid) (is : left ≡ (k, node) ∷ rest) (distinct : IsDistinct same_fid (keys_of left)) where
  kept_first : kept_at left k ≡ Some node
  kept_first = ap (λ (l : List (Fid × Node)). kept_at l k) is ∙ changed_here k (Some node) (kept_at rest k)

  pub rest_distinct : IsDistinct same_fid (keys_of rest)
  unfolding IsDistinct
  rest_distinct = let up : IsDistinct same_fid (keys_of ((k, node) ∷ rest)) = subst (λ (l : List (Fid × Node)). IsDistinct same_fid (keys_of l)) is distinct in up.1

  none_left : kept_at rest k ≡ None
  unfolding IsDistinct
  none_left = let up : IsDistinct same_fid (keys_of ((k, node) ∷ rest)) = subst (λ (l : List (Fid × Node)). IsDistinct same_fid (keys_of l)) is distinct in absent_none k rest up.0

  kept_later : (q : Fid) → q ≢ k → kept_at left q ≡ kept_at rest q
  kept_later q other = ap (λ (l : List (Fid × Node)). kept_at l q) is ∙ changed_else q k (Some node) (kept_at rest q) (λ same. other (sym same))

  -- the node is the one that is kept
  kept_in_all : (first : Option Fid) → IsPassed all left f first → kept_at all k ≡ Some node
  kept_in_all first passed = elim (passed k) [
    | inl here ↦ sym here ∙ kept_first
    | inr gone ↦ absurd (none-some node (sym gone.0 ∙ kept_first))
  ]

  -- one node is passed, and a later first, where what it says of the others holds still
  step : (first first' : Option Fid) → (binds_fid (kept_at all k) f ≡ true → IsNotBefore first' k) → ((q : Fid) → IsNotBefore first q → IsNotBefore first' q) → IsPassed all left f first → IsPassed all rest f first'
  step first first' here later passed q = elim (fid_cases q k) [
    | inl at ↦ inr (ap (kept_at rest) at ∙ none_left, λ binds. subst (IsNotBefore first') (sym at) (here (subst (λ x. binds_fid (kept_at all x) f ≡ true) at binds)))
    | inr other ↦ elim (passed q) [
      | inl same ↦ inl (sym (kept_later q other) ∙ same)
      | inr gone ↦ inr (sym (kept_later q other) ∙ gone.0, λ binds. later q (gone.1 binds))
    ]
  ]

  -- a node that does not bind the fid
  pub passed_over : (first : Option Fid) → IsPassed all left f first → binds_fid (Some node) f ≡ false → IsPassed all rest f first
  passed_over first passed not = step first first (λ binds. let free : binds_fid (kept_at all k) f ≡ false = ap (λ o. binds_fid o f) (kept_in_all first passed) ∙ not in cc) (λ q h. h) passed

  -- a node that does
  pub passed_binder : (first : Option Fid) → IsPassed all left f first → IsPassed all rest f (Some (earliest first k))
  passed_binder first passed = step first (Some (earliest first k)) (λ _. earliest_not_after first k) (λ q. later first q) passed
    where
      later : (o : Option Fid) (q : Fid) → IsNotBefore o q → fid_cmp q (earliest o k) ≢ Less
      later None q h = absurd h
      later (Some a) q h = earliest_not_later a k q h

  pub binder_still : (first : Option Fid) → IsPassed all left f first → binds_fid (Some node) f ≡ true → IsBinder all f first → IsBinder all f (Some (earliest first k))
  binder_still first passed binds before = earliest_has (λ d. binds_fid (kept_at all d) f ≡ true) first k (ap (λ o. binds_fid o f) (kept_in_all first passed) ∙ binds) before

-- and where none is left
pub passed_all : (all left : List (Fid × Node)) (f : Fid) (first : Option Fid) → left ≡ [] → IsPassed all left f first → IsBinder all f first → first ≡ parent_of (nodes_of all) f
passed_all all left f first is passed binder = elim first as (λ o. IsPassed all [] f o → IsBinder all f o → o ≡ parent_of (nodes_of all) f) [
  | None ↦ λ was _. sym (parent_none (nodes_of all) f (λ d n h. not_before None was d n h))
  | Some k ↦ λ was binds.
      let bound = binds_sound (kept_at all k) f binds in
      sym (parent_first (nodes_of all) f k bound.0 (ap (λ o. child_of o bound.0) (get_keyed all k) ∙ bound.1) (λ e n h. not_before (Some k) was e n h))
] (subst (λ (l : List (Fid × Node)). IsPassed all l f first) is passed) binder
  where
    not_before : (o : Option Fid) → IsPassed all [] f o → (d : Fid) (n : Name) → child (nodes_of all) d n ≡ Some f → IsNotBefore o d
    not_before o was d n h =
        let kept : child_of (kept_at all d) n ≡ Some f = ap (λ o. child_of o n) (sym (get_keyed all d)) ∙ h in
        let node = there_node (kept_at all d) f n kept in
        elim (was d) [
          | inl here ↦ absurd (none-some node.0 (here ∙ node.1))
          | inr gone ↦ gone.1 (binds_complete (kept_at all d) f n kept)
        ]
