-- Sorted pairs of a directory: what a search finds, and what an insertion or a removal makes of the finite map.
use Rattle.std.proofs.Common.{◌≡◌, ◌≢◌, ℕ, zero, suc, ◌<◌, ◌≤◌, true, cond, [], ◌∷◌, length, get_or, set, Some, None, Ordering, refl, sym, ap, ◌∙◌, subst, inl, inr, arith}
use Rattle.std.specs.Prelude.{slice_get}
use Rattle.std.specs.declared.cmp.Ordering.TheVariants.{Less, Equal, Greater}
use Rattle.std.specs.List.{insert, remove}
use Rattle.std.specs.Ordering.{ordering_reverse, is_eq}
use Rattle.std.specs.FinMap as map
use Rattle.std.specs.FinMap.Entries.{is_sorted, find, put, below_all, by_order, is_sorted-put}
use Rattle.std.proofs.lemmas.Cmp.{nat_list_cmp_total, tied_itself}
use Rattle.std.proofs.lemmas.Bool.{cases_lt}
use Rattle.std.proofs.lemmas.Map.Lookups.{exact_bytes}
use Rattle.coda_fid.specs.Name.{name_cmp}
use Rattle.coda_fid.specs.declared.fid.Fid.{Fid}
use Rattle.coda_tree.specs.Bindings.{Name, Pairs, Bindings, IsIndexOf, IsGapFor}
use Rattle.coda_tree.proofs.Booleans.{and_true, and_both, lt_less, to_T, from_T}
use Rattle.coda_tree.proofs.Order.{apart, at_itself, name_cases}

pub turn : (a b : Name) (o : Ordering) → name_cmp a b ≡ o → name_cmp b a ≡ ordering_reverse o
turn a b o h = nat_list_cmp_total.antisymm b a ∙ ap ordering_reverse h

below_at : (x : Name) (es : Pairs) (i : ℕ) (d : Name × Fid) → below_all name_cmp x es ≡ true → i < length es → name_cmp x (get_or es i d).0 ≡ Less
below_at x [] i d h lt = absurd (omega arith)
below_at x (e ∷ es) zero d h lt = lt_less _ (and_true _ _ h).0
below_at x (e ∷ es) (suc i) d h lt = below_at x es i d (and_true _ _ h).1 (omega arith)

-- a name below all is not found
pub none_below : (x : Name) (es : Pairs) → below_all name_cmp x es ≡ true → find name_cmp x es ≡ None
none_below x [] h = refl
none_below x (e ∷ es) h = ap (λ o. cond (is_eq o) (Some e.1) (find name_cmp x es)) (lt_less _ (and_true _ _ h).0) ∙ none_below x es (and_true _ _ h).1

pub put_gap : (es : Pairs) (name : Name) (fid : Fid) (i : ℕ) → IsGapFor es name i → put name_cmp name fid es ≡ insert es i (name, fid)
put_gap [] name fid zero gap = refl
put_gap [] name fid (suc i) gap = absurd (omega (arith, gap.in_range))
put_gap (e ∷ es) name fid zero gap =
    ap (λ o. by_order o ((name, fid) ∷ e ∷ es) ((e.0, fid) ∷ es) (e ∷ put name_cmp name fid es)) (turn e.0 name Greater (gap.greater_after 0 e (omega arith) (omega arith)))
put_gap (e ∷ es) name fid (suc i) gap =
    ap (λ o. by_order o ((name, fid) ∷ e ∷ es) ((e.0, fid) ∷ es) (e ∷ put name_cmp name fid es)) (turn e.0 name Less (gap.smaller_before 0 e (omega arith)))
    ∙ ap (λ (l : Pairs). e ∷ l) (put_gap es name fid i (record {
      in_range = omega (arith, gap.in_range);
      smaller_before = λ j d lt. gap.smaller_before (suc j) d (omega arith);
      greater_after = λ j d le lt. gap.greater_after (suc j) d (omega arith) (omega arith);
    }))

pub find_gap : (es : Pairs) (name : Name) (i : ℕ) → IsGapFor es name i → find name_cmp name es ≡ None
find_gap [] name i gap = refl
find_gap (e ∷ es) name zero gap =
    ap (λ o. cond (is_eq o) (Some e.1) (find name_cmp name es)) (turn e.0 name Greater (gap.greater_after 0 e (omega arith) (omega arith)))
    ∙ find_gap es name 0 (record {
      in_range = omega arith;
      smaller_before = λ j d lt. absurd (omega arith);
      greater_after = λ j d le lt. gap.greater_after (suc j) d (omega arith) (omega arith);
    })
find_gap (e ∷ es) name (suc i) gap =
    ap (λ o. cond (is_eq o) (Some e.1) (find name_cmp name es)) (turn e.0 name Less (gap.smaller_before 0 e (omega arith)))
    ∙ find_gap es name i (record {
      in_range = omega (arith, gap.in_range);
      smaller_before = λ j d lt. gap.smaller_before (suc j) d (omega arith);
      greater_after = λ j d le lt. gap.greater_after (suc j) d (omega arith) (omega arith);
    })

-- the names before a place are smaller
pub before : (e : Name × Fid) (es : Pairs) (name : Name) (i : ℕ) → is_sorted name_cmp (e ∷ es) ≡ true → IsIndexOf (e ∷ es) name (suc i) → name_cmp name e.0 ≡ Greater
before e es name i up at =
    let is : (get_or es i e).0 ≡ name = exact_bytes _ _ (at.has_name e) in
    turn e.0 name Less (ap (name_cmp e.0) (sym is) ∙ below_at e.0 es i e (and_true _ _ up).0 (omega (arith, at.in_range)))

pub tail_at : (e : Name × Fid) (es : Pairs) (name : Name) (i : ℕ) → IsIndexOf (e ∷ es) name (suc i) → IsIndexOf es name i
tail_at e es name i at = record { in_range = omega (arith, at.in_range); has_name = λ d. at.has_name d }

pub find_at : (es : Pairs) (name : Name) (i : ℕ) (d : Name × Fid) → is_sorted name_cmp es ≡ true → IsIndexOf es name i → find name_cmp name es ≡ Some (get_or es i d).1
find_at [] name i d up at = absurd (omega (arith, at.in_range))
find_at (e ∷ es) name zero d up at = ap (λ o. cond (is_eq o) (Some e.1) (find name_cmp name es)) (turn e.0 name Equal (at.has_name e))
find_at (e ∷ es) name (suc i) d up at =
    ap (λ o. cond (is_eq o) (Some e.1) (find name_cmp name es)) (before e es name i up at) ∙ find_at es name i d (and_true _ _ up).1 (tail_at e es name i at)

-- a pair put at the name is that pair in the place of the one there
pub put_at : (es : Pairs) (name : Name) (fid : Fid) (i : ℕ) (key : Name) → is_sorted name_cmp es ≡ true → IsIndexOf es name i → ((d : Name × Fid) → (get_or es i d).0 ≡ key) → put name_cmp name fid es ≡ set es i (key, fid)
put_at [] name fid i key up at is = absurd (omega (arith, at.in_range))
put_at (e ∷ es) name fid zero key up at is =
    ap (λ o. by_order o ((name, fid) ∷ e ∷ es) ((e.0, fid) ∷ es) (e ∷ put name_cmp name fid es)) (turn e.0 name Equal (at.has_name e)) ∙ ap (λ k. (k, fid) ∷ es) (is e)
put_at (e ∷ es) name fid (suc i) key up at is =
    ap (λ o. by_order o ((name, fid) ∷ e ∷ es) ((e.0, fid) ∷ es) (e ∷ put name_cmp name fid es)) (before e es name i up at)
    ∙ ap (λ (l : Pairs). e ∷ l) (put_at es name fid i key (and_true _ _ up).1 (tail_at e es name i at) is)

-- ---- a pair removed
below_removed : (x : Name) (es : Pairs) (i : ℕ) → below_all name_cmp x es ≡ true → below_all name_cmp x (remove es i) ≡ true
below_removed x [] zero h = refl
below_removed x [] (suc i) h = refl
below_removed x (e ∷ es) zero h = (and_true _ _ h).1
below_removed x (e ∷ es) (suc i) h = and_both _ _ (and_true _ _ h).0 (below_removed x es i (and_true _ _ h).1)

pub sorted_removed : (es : Pairs) (i : ℕ) → is_sorted name_cmp es ≡ true → is_sorted name_cmp (remove es i) ≡ true
sorted_removed [] zero h = refl
sorted_removed [] (suc i) h = refl
sorted_removed (e ∷ es) zero h = (and_true _ _ h).1
sorted_removed (e ∷ es) (suc i) h = and_both _ _ (below_removed e.0 es i (and_true _ _ h).0) (sorted_removed es i (and_true _ _ h).1)

greater_differs : (a b : Name) → name_cmp a b ≡ Greater → b ≢ a
greater_differs a b h same =
    let tied : name_cmp b b ≡ Equal = tied_itself nat_list_cmp_total b in
    let greater : name_cmp b b ≡ Greater = ap (λ x. name_cmp x b) same ∙ h in
    cc

-- what is found once the pair of a name is removed
find_removed : (es : Pairs) (name : Name) (i : ℕ) (q : Name) → is_sorted name_cmp es ≡ true → IsIndexOf es name i → find name_cmp q (remove es i) ≡ cond (is_eq (name_cmp q name)) None (find name_cmp q es)
find_removed [] name i q up at = absurd (omega (arith, at.in_range))
find_removed (e ∷ es) name zero q up at =
    let is : e.0 ≡ name = exact_bytes _ _ (at.has_name e) in
    elim (name_cases q name) [
      | inl same ↦ ap (λ x. find name_cmp x es) (same ∙ sym is) ∙ none_below e.0 es (and_true _ _ up).0 ∙ sym (ap (λ x. cond (is_eq (name_cmp x name)) None (find name_cmp q (e ∷ es))) same ∙ at_itself nat_list_cmp_total name _ _)
      | inr differs ↦ sym (apart name_cmp exact_bytes q name None (find name_cmp q (e ∷ es)) differs ∙ apart name_cmp exact_bytes q e.0 (Some e.1) (find name_cmp q es) (λ same. differs (same ∙ is)))
    ]
find_removed (e ∷ es) name (suc i) q up at =
    let rest = find_removed es name i q (and_true _ _ up).1 (tail_at e es name i at) in
    elim (name_cases q e.0) [
      | inl same ↦
          ap (λ x. cond (is_eq (name_cmp x e.0)) (Some e.1) (find name_cmp q (remove es i))) same ∙ at_itself nat_list_cmp_total e.0 _ _
          ∙ sym (ap (λ x. cond (is_eq (name_cmp x name)) None (find name_cmp q (e ∷ es))) same ∙ apart name_cmp exact_bytes e.0 name None (find name_cmp q (e ∷ es)) (greater_differs name e.0 (before e es name i up at))
          ∙ ap (λ x. cond (is_eq (name_cmp x e.0)) (Some e.1) (find name_cmp q es)) same ∙ at_itself nat_list_cmp_total e.0 _ _)
      | inr differs ↦
          apart name_cmp exact_bytes q e.0 (Some e.1) (find name_cmp q (remove es i)) differs ∙ rest
          ∙ ap (λ o. cond (is_eq (name_cmp q name)) None o) (sym (apart name_cmp exact_bytes q e.0 (Some e.1) (find name_cmp q es) differs))
    ]

-- ---- as finite maps
pub get_pairs : (es : Pairs) (q : Name) → is_sorted name_cmp es ≡ true → map.get (map.from_sorted {R = name_cmp} es) q ≡ find name_cmp q es
get_pairs es q up = map.get-from_sorted name_cmp es q (to_T _ up)

pub sorted_inserted : (es : Pairs) (name : Name) (fid : Fid) (i : ℕ) → is_sorted name_cmp es ≡ true → IsGapFor es name i → is_sorted name_cmp (insert es i (name, fid)) ≡ true
sorted_inserted es name fid i up gap = ap (is_sorted name_cmp) (sym (put_gap es name fid i gap)) ∙ from_T _ (is_sorted-put name_cmp nat_list_cmp_total name fid es (to_T _ up))

pub inserted : (es : Pairs) (name : Name) (fid : Fid) (i : ℕ) → is_sorted name_cmp es ≡ true → IsGapFor es name i → map.from_sorted {R = name_cmp} (insert es i (name, fid)) ≡ map.insert (map.from_sorted es) name fid
inserted es name fid i up gap =
    map.same_entries_map _ _ (
    map.entries-from_sorted name_cmp _ (to_T _ (sorted_inserted es name fid i up gap)) ∙ sym (put_gap es name fid i gap)
    ∙ ap (put name_cmp name fid) (sym (map.entries-from_sorted name_cmp es (to_T _ up)))
    ∙ sym (map.entries-insert nat_list_cmp_total (map.from_sorted {R = name_cmp} es) name fid))

pub removed : (es : Pairs) (name : Name) (i : ℕ) → is_sorted name_cmp es ≡ true → IsIndexOf es name i → map.from_sorted {R = name_cmp} (remove es i) ≡ map.remove (map.from_sorted es) name
removed es name i up at = map.same_map nat_list_cmp_total exact_bytes _ _ (λ q.
    get_pairs (remove es i) q (sorted_removed es i up) ∙ find_removed es name i q up at
    ∙ ap (λ o. cond (is_eq (name_cmp q name)) None o) (sym (get_pairs es q up))
    ∙ sym (map.get-remove nat_list_cmp_total (map.from_sorted {R = name_cmp} es) name q))

pub sorted_rebound : (es : Pairs) (name : Name) (fid : Fid) (i : ℕ) (key : Name) → is_sorted name_cmp es ≡ true → IsIndexOf es name i → ((d : Name × Fid) → (get_or es i d).0 ≡ key) → is_sorted name_cmp (set es i (key, fid)) ≡ true
sorted_rebound es name fid i key up at is = ap (is_sorted name_cmp) (sym (put_at es name fid i key up at is)) ∙ from_T _ (is_sorted-put name_cmp nat_list_cmp_total name fid es (to_T _ up))

pub rebound : (es : Pairs) (name : Name) (fid : Fid) (i : ℕ) (key : Name) → is_sorted name_cmp es ≡ true → IsIndexOf es name i → ((d : Name × Fid) → (get_or es i d).0 ≡ key)
    → map.from_sorted {R = name_cmp} (set es i (key, fid)) ≡ map.insert (map.from_sorted es) name fid
rebound es name fid i key up at is =
    map.same_entries_map _ _ (
    map.entries-from_sorted name_cmp _ (to_T _ (sorted_rebound es name fid i key up at is)) ∙ sym (put_at es name fid i key up at is)
    ∙ ap (put name_cmp name fid) (sym (map.entries-from_sorted name_cmp es (to_T _ up)))
    ∙ sym (map.entries-insert nat_list_cmp_total (map.from_sorted {R = name_cmp} es) name fid))

-- a name that is not there
pub not_removed : (es : Pairs) (name : Name) (i : ℕ) → is_sorted name_cmp es ≡ true → IsGapFor es name i → map.from_sorted {R = name_cmp} es ≡ map.remove (map.from_sorted es) name
not_removed es name i up gap = map.same_map nat_list_cmp_total exact_bytes _ _ (λ q.
    elim (name_cases q name) [
      | inl same ↦ ap (map.get (map.from_sorted {R = name_cmp} es)) same ∙ get_pairs es name up ∙ find_gap es name i gap
          ∙ sym (map.get-remove nat_list_cmp_total (map.from_sorted {R = name_cmp} es) name q ∙ ap (λ x. cond (is_eq (name_cmp x name)) None (map.get (map.from_sorted {R = name_cmp} es) q)) same ∙ at_itself nat_list_cmp_total name _ _)
      | inr differs ↦ sym (map.get-remove nat_list_cmp_total (map.from_sorted {R = name_cmp} es) name q ∙ apart name_cmp exact_bytes q name None _ differs)
    ])

-- the entries of what is seen of sorted pairs
pub entries_seen : (es : Pairs) (seen : Bindings) → is_sorted name_cmp es ≡ true → map.from_sorted {R = name_cmp} es ≡ seen → map.entries seen ≡ es
entries_seen es seen up is = ap (λ (b : Bindings). map.entries b) (sym is) ∙ map.entries-from_sorted name_cmp es (to_T _ up)

-- nothing is at an index from the length on
pub none_from : (es : Pairs) (i : ℕ) → length es ≤ i → slice_get es i ≡ None
none_from [] i le = refl
none_from (e ∷ es) zero le = absurd (omega (arith, le))
none_from (e ∷ es) (suc i) le = none_from es i (omega (arith, le))

-- ---- the search
sorted_step : (es : Pairs) → is_sorted name_cmp es ≡ true → (k : ℕ) (d : Name × Fid) → suc k < length es → name_cmp (get_or es k d).0 (get_or es (suc k) d).0 ≡ Less
sorted_step [] up k d lt = absurd (omega arith)
sorted_step (e ∷ es) up zero d lt = below_at e.0 es 0 d (and_true _ _ up).0 (omega arith)
sorted_step (e ∷ es) up (suc k) d lt = sorted_step es (and_true _ _ up).1 k d (omega arith)

sorted_at : (es : Pairs) → is_sorted name_cmp es ≡ true → (i j : ℕ) (d : Name × Fid) → i < j → j < length es → name_cmp (get_or es i d).0 (get_or es j d).0 ≡ Less
sorted_at [] up i j d lt in_range = absurd (omega arith)
sorted_at (e ∷ es) up zero zero d lt in_range = absurd (omega arith)
sorted_at (e ∷ es) up zero (suc j) d lt in_range = below_at e.0 es j d (and_true _ _ up).0 (omega arith)
sorted_at (e ∷ es) up (suc i) zero d lt in_range = absurd (omega arith)
sorted_at (e ∷ es) up (suc i) (suc j) d lt in_range = sorted_at es (and_true _ _ up).1 i j d (omega arith) (omega arith)

-- a pair before a smaller one is smaller, and one after a greater one greater
pub less_up_to : (es : Pairs) (name : Name) → is_sorted name_cmp es ≡ true → (i j : ℕ) (d : Name × Fid) → i < length es → name_cmp (get_or es i d).0 name ≡ Less → j ≤ i → name_cmp (get_or es j d).0 name ≡ Less
less_up_to es name up i j d in_range less le = elim (cases_lt j i) [
  | inl lt ↦ nat_list_cmp_total.trans _ (get_or es i d).0 _ (sorted_at es up j i d lt in_range) less
  | inr ge ↦ let same : j ≡ i = omega arith in subst (λ k. name_cmp (get_or es k d).0 name ≡ Less) (sym same) less
]

pub greater_from : (es : Pairs) (name : Name) → is_sorted name_cmp es ≡ true → (i j : ℕ) (d : Name × Fid) → name_cmp (get_or es i d).0 name ≡ Greater → i ≤ j → j < length es → name_cmp (get_or es j d).0 name ≡ Greater
greater_from es name up i j d greater le in_range = elim (cases_lt i j) [
  | inl lt ↦ turn name (get_or es j d).0 Less (nat_list_cmp_total.trans name (get_or es i d).0 _ (turn (get_or es i d).0 name Greater greater) (sorted_at es up i j d lt in_range))
  | inr ge ↦ let same : j ≡ i = omega arith in subst (λ k. name_cmp (get_or es k d).0 name ≡ Greater) (sym same) greater
]
