-- What a search through pages and a change of one of them make of all pairs.
use Rattle.std.proofs.Common.{◌≡◌, ◌≢◌, ◌==◌, ℕ, zero, suc, ◌+◌, ◌-◌, ◌<◌, ◌≤◌, Bool, true, false, cond, not, [], ◌∷◌, ◌++◌, length, get_or, set, take, drop, Option, Some, None, is_some, IsSome, Ok, Err, Result, OnOk, OnErr, refl, sym, ap, ◌∙◌, subst, inl, inr, arith}
use Rattle.std.specs.declared.cmp.Ordering.TheVariants.{Less, Equal, Greater}
use Rattle.std.specs.Global.{Vec}
use Rattle.std.specs.List.{AllByRecursion, remove, insert}
use Rattle.std.specs.Ordering.{is_lt, is_eq, eq_by_cmp}
use Rattle.std.specs.FinMap as map
use Rattle.std.specs.Prelude.{slice_get}
use Rattle.std.specs.FinMap.Entries.{is_sorted, find, put, below_all, by_order, is_sorted-put, is_sorted-where_key, find-where_key, length-put, length_without}
use Rattle.std.proofs.lemmas.Cmp.{nat_list_cmp_total, tied_itself}
use Rattle.std.proofs.lemmas.List.{take-append-drop, drop_more, length-append}
use Rattle.std.proofs.lemmas.Option.{slice_get-get_or}
use Rattle.std.proofs.lemmas.Map.Lookups.{exact_bytes}
use Rattle.coda_fid.specs.Name.{name_cmp}
use Rattle.coda_fid.specs.declared.fid.Fid.{Fid}
use Rattle.coda_tree.specs.Bindings.{Name, Pairs, Bindings, IsIndexOf, IsGapFor}
use Rattle.coda_tree.specs.Pages.{Pages, all_pairs, AreFilled, pairs_at, with_pairs, first_cmp, IsPageFor, without, ChangesPage, IsPaged}
use Rattle.coda_tree.proofs.Booleans.{and_true, and_both, lt_less, to_T, from_T}
use Rattle.coda_tree.proofs.Order.{apart, name_cases}
use Rattle.coda_tree.proofs.Pairs.{turn, none_below, before, tail_at, get_pairs, entries_seen}

-- ---- pairs before, in and after a page

-- all names are smaller
abbrev pub AreLess : Pairs → Name → Type 0
AreLess pairs name = AllByRecursion (λ (pair : Name × Fid). name_cmp pair.0 name ≡ Less) pairs

put_skips : (b es : Pairs) (name : Name) (fid : Fid) → AreLess b name → put name_cmp name fid (b ++ es) ≡ b ++ put name_cmp name fid es
put_skips [] es name fid less = refl
put_skips (e ∷ b) es name fid less =
    ap (λ o. by_order o ((name, fid) ∷ e ∷ (b ++ es)) ((e.0, fid) ∷ (b ++ es)) (e ∷ put name_cmp name fid (b ++ es))) (turn e.0 name Less less.0)
    ∙ ap (λ (l : Pairs). e ∷ l) (put_skips b es name fid less.1)

put_first : (a : Pairs) (name : Name) (fid : Fid) → below_all name_cmp name a ≡ true → put name_cmp name fid a ≡ (name, fid) ∷ a
put_first [] name fid below = refl
put_first (e ∷ a) name fid below = ap (λ o. by_order o ((name, fid) ∷ e ∷ a) ((e.0, fid) ∷ a) (e ∷ put name_cmp name fid a)) (lt_less _ (and_true _ _ below).0)

put_stops : (es a : Pairs) (name : Name) (fid : Fid) → below_all name_cmp name a ≡ true → put name_cmp name fid (es ++ a) ≡ put name_cmp name fid es ++ a
put_stops [] a name fid below = put_first a name fid below
put_stops (e ∷ es) a name fid below =
    elim (name_cmp name e.0) as (λ o. by_order o ((name, fid) ∷ e ∷ (es ++ a)) ((e.0, fid) ∷ (es ++ a)) (e ∷ put name_cmp name fid (es ++ a)) ≡ by_order o ((name, fid) ∷ e ∷ es) ((e.0, fid) ∷ es) (e ∷ put name_cmp name fid es) ++ a) [
      | Less ↦ refl
      | Equal ↦ refl
      | Greater ↦ ap (λ (l : Pairs). e ∷ l) (put_stops es a name fid below)
    ]

find_skips : (b es : Pairs) (name : Name) → AreLess b name → find name_cmp name (b ++ es) ≡ find name_cmp name es
find_skips [] es name less = refl
find_skips (e ∷ b) es name less = ap (λ o. cond (is_eq o) (Some e.1) (find name_cmp name (b ++ es))) (turn e.0 name Less less.0) ∙ find_skips b es name less.1

find_stops : (es a : Pairs) (name : Name) → below_all name_cmp name a ≡ true → find name_cmp name (es ++ a) ≡ find name_cmp name es
find_stops [] a name below = none_below name a below
find_stops (e ∷ es) a name below = ap (λ o. cond (is_eq (name_cmp name e.0)) (Some e.1) o) (find_stops es a name below)

without_less : (b es : Pairs) (name : Name) → AreLess b name → without name (b ++ es) ≡ b ++ without name es
without_less [] es name less = refl
without_less (e ∷ b) es name less =
    ap (λ o. cond (not (is_eq o)) (e ∷ without name (b ++ es)) (without name (b ++ es))) (turn e.0 name Less less.0) ∙ ap (λ (l : Pairs). e ∷ l) (without_less b es name less.1)

without_below : (a : Pairs) (name : Name) → below_all name_cmp name a ≡ true → without name a ≡ a
without_below [] name below = refl
without_below (e ∷ a) name below =
    ap (λ o. cond (not (is_eq o)) (e ∷ without name a) (without name a)) (lt_less _ (and_true _ _ below).0) ∙ ap (λ (l : Pairs). e ∷ l) (without_below a name (and_true _ _ below).1)

without_stops : (es a : Pairs) (name : Name) → below_all name_cmp name a ≡ true → without name (es ++ a) ≡ without name es ++ a
without_stops [] a name below = without_below a name below
without_stops (e ∷ es) a name below =
    elim (is_eq (name_cmp name e.0)) as (λ t. cond (not t) (e ∷ without name (es ++ a)) (without name (es ++ a)) ≡ cond (not t) (e ∷ without name es) (without name es) ++ a) [
      | true ↦ without_stops es a name below
      | false ↦ ap (λ (l : Pairs). e ∷ l) (without_stops es a name below)
    ]

-- ---- order

sorted_tail : (b es : Pairs) → is_sorted name_cmp (b ++ es) ≡ true → is_sorted name_cmp es ≡ true
sorted_tail [] es up = up
sorted_tail (e ∷ b) es up = sorted_tail b es (and_true _ _ up).1

below_front : (x : Name) (es a : Pairs) → below_all name_cmp x (es ++ a) ≡ true → below_all name_cmp x es ≡ true
below_front x [] a h = refl
below_front x (e ∷ es) a h = and_both _ _ (and_true _ _ h).0 (below_front x es a (and_true _ _ h).1)

below_back : (x : Name) (es a : Pairs) → below_all name_cmp x (es ++ a) ≡ true → below_all name_cmp x a ≡ true
below_back x [] a h = h
below_back x (e ∷ es) a h = below_back x es a (and_true _ _ h).1

sorted_front : (es a : Pairs) → is_sorted name_cmp (es ++ a) ≡ true → is_sorted name_cmp es ≡ true
sorted_front [] a up = refl
sorted_front (e ∷ es) a up = and_both _ _ (below_front e.0 es a (and_true _ _ up).0) (sorted_front es a (and_true _ _ up).1)

-- a name that is smaller than a name below all is itself below all
below_lower : (x y : Name) (es : Pairs) → name_cmp x y ≡ Less → below_all name_cmp y es ≡ true → below_all name_cmp x es ≡ true
below_lower x y [] less h = refl
below_lower x y (e ∷ es) less h =
    and_both _ _ (ap (λ o. is_lt o) (nat_list_cmp_total.trans x y e.0 less (lt_less _ (and_true _ _ h).0))) (below_lower x y es less (and_true _ _ h).1)

-- the first name of sorted pairs is greater, so all are
all_greater : (es : Pairs) (name : Name) → is_sorted name_cmp es ≡ true → first_cmp es name ≡ Greater → below_all name_cmp name es ≡ true
all_greater [] name up first = refl
all_greater (e ∷ es) name up first =
    let less = turn e.0 name Greater first in
    and_both _ _ (ap (λ o. is_lt o) less) (below_lower name e.0 es less (and_true _ _ up).0)

-- what is below all pairs is below the first of a page
below_first : (x : Name) (pages : Pages) (i : ℕ) → AreFilled pages → i < length pages → below_all name_cmp x (all_pairs pages) ≡ true → (e : Name × Fid) × ((name : Name) → first_cmp (pairs_at pages i) name ≡ name_cmp e.0 name) × (name_cmp x e.0 ≡ Less)
below_first x [] i filled lt h = absurd (omega arith)
below_first x (page ∷ pages) zero filled lt h = first_below x page.items (all_pairs pages) filled.0 h
  where
    first_below : (x : Name) (es a : Pairs) → 0 < length es → below_all name_cmp x (es ++ a) ≡ true → (e : Name × Fid) × ((name : Name) → first_cmp es name ≡ name_cmp e.0 name) × (name_cmp x e.0 ≡ Less)
    first_below x [] a lt h = absurd (omega (arith, lt))
    first_below x (e ∷ es) a lt h = (e, λ name. refl, lt_less _ (and_true _ _ h).0)
below_first x (page ∷ pages) (suc i) filled lt h = below_first x pages i filled.1 (omega (arith, lt)) (below_back x page.items (all_pairs pages) h)

less_than : (x y name : Name) → name_cmp x y ≡ Less → name_cmp y name ≢ Greater → name_cmp x name ≡ Less
less_than x y name less most =
    elim (name_cmp y name) as (λ o. name_cmp y name ≡ o → name_cmp x name ≡ Less) [
      | Less ↦ λ lower. nat_list_cmp_total.trans x y name less lower
      | Equal ↦ λ tied. subst (λ z. name_cmp x z ≡ Less) (exact_bytes y name tied) less
      | Greater ↦ λ over. absurd (most over)
    ] refl

-- pairs before a page that begins at or before a name
all_less : (b : Pairs) (pages : Pages) (i : ℕ) (name : Name) → AreFilled pages → i < length pages → is_sorted name_cmp (b ++ all_pairs pages) ≡ true → first_cmp (pairs_at pages i) name ≢ Greater → AreLess b name
all_less [] pages i name filled lt up most = tt
all_less (e ∷ b) pages i name filled lt up most =
    let first = below_first e.0 pages i filled lt (below_back e.0 b (all_pairs pages) (and_true _ _ up).0) in (
      less_than e.0 first.0.0 name first.2 (λ over. most (first.1 name ∙ over)),
      all_less b pages i name filled lt (and_true _ _ up).1 most,
    )

-- ---- all pairs, around a page for a name

pub record Around (pages : Pages) (name : Name) (i : ℕ) : Type 0 where
  pub before : Pairs
  pub after : Pairs
  pub all : all_pairs pages ≡ before ++ (pairs_at pages i ++ after)
  pub others : (es : Pairs) → with_pairs pages i es ≡ before ++ (es ++ after)
  pub less : AreLess before name
  pub greater : below_all name_cmp name after ≡ true

greater_after : (page : Pairs) (pages : Pages) (name : Name) → AreFilled pages → is_sorted name_cmp (page ++ all_pairs pages) ≡ true → (1 < suc (length pages) → first_cmp (pairs_at pages 0) name ≡ Greater) → below_all name_cmp name (all_pairs pages) ≡ true
greater_after page [] name filled up to = refl
greater_after page (next ∷ pages) name filled up to = all_greater (all_pairs (next ∷ pages)) name (sorted_tail page (all_pairs (next ∷ pages)) up) (first_is next.items (all_pairs pages) filled.0 ∙ to (omega arith))
  where
    first_is : (es a : Pairs) → 0 < length es → first_cmp (es ++ a) name ≡ first_cmp es name
    first_is [] a lt = absurd (omega (arith, lt))
    first_is (e ∷ es) a lt = refl

append_more : (a b c : Pairs) → a ++ (b ++ c) ≡ (a ++ b) ++ c
append_more [] b c = refl
append_more (x ∷ a) b c = ap (λ (l : Pairs). x ∷ l) (append_more a b c)

less_both : (a b : Pairs) (name : Name) → AreLess a name → AreLess b name → AreLess (a ++ b) name
less_both [] b name f g = g
less_both (e ∷ a) b name f g = (f.0, less_both a b name f.1 g)

around : (pages : Pages) (name : Name) (i : ℕ) → AreFilled pages → is_sorted name_cmp (all_pairs pages) ≡ true → IsPageFor pages name i → Around pages name i
around [] name i filled up at = absurd (omega (arith, at.in_range))
around (page ∷ pages) name zero filled up at = record {
  before = [];
  after = all_pairs pages;
  all = refl;
  others = λ es. refl;
  less = tt;
  greater = greater_after page.items pages name filled.1 up (λ lt. at.to lt);
}
around (page ∷ pages) name (suc i) filled up at =
    let within : i < length pages = omega (arith, at.in_range) in
    let rest = around pages name i filled.1 (sorted_tail page.items (all_pairs pages) up) (record {
      in_range = within;
      from = λ _. at.from (omega arith);
      to = λ lt. let next : suc i + 1 ≡ suc (i + 1) = omega arith in subst (λ k. first_cmp (pairs_at (page ∷ pages) k) name ≡ Greater) next (at.to (omega (arith, lt)));
    }) in
    record {
      before = page.items ++ rest.before;
      after = rest.after;
      all = ap (λ (l : Pairs). page.items ++ l) rest.all ∙ append_more page.items rest.before (pairs_at pages i ++ rest.after);
      others = λ es. ap (λ (l : Pairs). page.items ++ l) (rest.others es) ∙ append_more page.items rest.before (es ++ rest.after);
      less = less_both page.items rest.before name (all_less page.items pages i name filled.1 within up (at.from (omega arith))) rest.less;
      greater = rest.greater;
    }

-- ---- what a page for a name has and makes of all

module _ (pages : Pages) (name : Name) (i : ℕ) (filled : AreFilled pages) (up : is_sorted name_cmp (all_pairs pages) ≡ true) (at : IsPageFor pages name i) where
  pub page_sorted : is_sorted name_cmp (pairs_at pages i) ≡ true
  page_sorted =
      let a = around pages name i filled up at in
      sorted_front (pairs_at pages i) a.after (sorted_tail a.before (pairs_at pages i ++ a.after) (ap (is_sorted name_cmp) (sym a.all) ∙ up))

  pub page_find : find name_cmp name (all_pairs pages) ≡ find name_cmp name (pairs_at pages i)
  page_find =
      let a = around pages name i filled up at in
      ap (find name_cmp name) a.all ∙ find_skips a.before (pairs_at pages i ++ a.after) name a.less ∙ find_stops (pairs_at pages i) a.after name a.greater

  pub page_put : (fid : Fid) → with_pairs pages i (put name_cmp name fid (pairs_at pages i)) ≡ put name_cmp name fid (all_pairs pages)
  page_put fid =
      let a = around pages name i filled up at in
      a.others (put name_cmp name fid (pairs_at pages i))
      ∙ sym (ap (put name_cmp name fid) a.all ∙ put_skips a.before (pairs_at pages i ++ a.after) name fid a.less ∙ ap (λ (l : Pairs). a.before ++ l) (put_stops (pairs_at pages i) a.after name fid a.greater))

  pub page_without : with_pairs pages i (without name (pairs_at pages i)) ≡ without name (all_pairs pages)
  page_without =
      let a = around pages name i filled up at in
      a.others (without name (pairs_at pages i))
      ∙ sym (ap (without name) a.all ∙ without_less a.before (pairs_at pages i ++ a.after) name a.less ∙ ap (λ (l : Pairs). a.before ++ l) (without_stops (pairs_at pages i) a.after name a.greater))

-- ---- one page changed

pub pairs_here : (pages : Pages) (i : ℕ) (d : Vec (Name × Fid)) → i < length pages → (get_or pages i d).items ≡ pairs_at pages i
pairs_here [] i d lt = absurd (omega (arith, lt))
pairs_here (page ∷ pages) zero d lt = refl
pairs_here (page ∷ pages) (suc i) d lt = pairs_here pages i d (omega (arith, lt))

set_pairs : (pages : Pages) (i : ℕ) (page : Vec (Name × Fid)) → all_pairs (set pages i page) ≡ with_pairs pages i page.items
set_pairs [] zero page = refl
set_pairs [] (suc i) page = refl
set_pairs (first ∷ pages) zero page = refl
set_pairs (first ∷ pages) (suc i) page = ap (λ (l : Pairs). first.items ++ l) (set_pairs pages i page)

set_filled : (pages : Pages) (i : ℕ) (page : Vec (Name × Fid)) → AreFilled pages → 0 < length page.items → AreFilled (set pages i page)
set_filled [] zero page filled lt = tt
set_filled [] (suc i) page filled lt = tt
set_filled (first ∷ pages) zero page filled lt = (lt, filled.1)
set_filled (first ∷ pages) (suc i) page filled lt = (filled.0, set_filled pages i page filled.1 lt)

pub page_changed : (pages : Pages) (i : ℕ) (page : Vec (Name × Fid)) (es : Pairs) → page.items ≡ es → ChangesPage pages (set pages i page) i es
page_changed pages i page es is = record {
  changed = set_pairs pages i page ∙ ap (with_pairs pages i) is;
  filled = λ filled lt. set_filled pages i page filled (subst (λ (l : Pairs). 0 < length l) (sym is) lt);
}

pub pairs_kept : (pages : Pages) (i : ℕ) → with_pairs pages i (pairs_at pages i) ≡ all_pairs pages
pairs_kept [] i = refl
pairs_kept (page ∷ pages) zero = refl
pairs_kept (page ∷ pages) (suc i) = ap (λ (l : Pairs). page.items ++ l) (pairs_kept pages i)

-- ---- a name taken out of sorted pairs

pub without_at : (es : Pairs) (name : Name) (i : ℕ) → is_sorted name_cmp es ≡ true → IsIndexOf es name i → without name es ≡ remove es i
without_at [] name i up at = absurd (omega (arith, at.in_range))
without_at (e ∷ es) name zero up at =
    let is : e.0 ≡ name = exact_bytes _ _ (at.has_name e) in
    ap (λ o. cond (not (is_eq o)) (e ∷ without name es) (without name es)) (turn e.0 name Equal (at.has_name e)) ∙ without_below es name (ap (λ x. below_all name_cmp x es) (sym is) ∙ (and_true _ _ up).0)
without_at (e ∷ es) name (suc i) up at =
    ap (λ o. cond (not (is_eq o)) (e ∷ without name es) (without name es)) (before e es name i up at) ∙ ap (λ (l : Pairs). e ∷ l) (without_at es name i (and_true _ _ up).1 (tail_at e es name i at))

pub without_gap : (es : Pairs) (name : Name) (i : ℕ) → IsGapFor es name i → without name es ≡ es
without_gap [] name i gap = refl
without_gap (e ∷ es) name zero gap =
    ap (λ o. cond (not (is_eq o)) (e ∷ without name es) (without name es)) (turn e.0 name Greater (gap.greater_after 0 e (omega arith) (omega arith)))
    ∙ ap (λ (l : Pairs). e ∷ l) (without_gap es name 0 (record {
      in_range = omega arith;
      smaller_before = λ j d lt. absurd (omega arith);
      greater_after = λ j d le lt. gap.greater_after (suc j) d (omega arith) (omega arith);
    }))
without_gap (e ∷ es) name (suc i) gap =
    ap (λ o. cond (not (is_eq o)) (e ∷ without name es) (without name es)) (turn e.0 name Less (gap.smaller_before 0 e (omega arith)))
    ∙ ap (λ (l : Pairs). e ∷ l) (without_gap es name i (record {
      in_range = omega (arith, gap.in_range);
      smaller_before = λ j d lt. gap.smaller_before (suc j) d (omega arith);
      greater_after = λ j d le lt. gap.greater_after (suc j) d (omega arith) (omega arith);
    }))

-- ---- pages read, and taken away

-- a page that is lent
pub page_lent : (pages : Pages) (i : ℕ) (page d : Vec (Name × Fid)) → i < length pages → page ≡ get_or pages i d → page.items ≡ pairs_at pages i
page_lent pages i page d lt is = ap (λ (p : Vec (Name × Fid)). p.items) is ∙ pairs_here pages i d lt

pub set_here : (pages : Pages) (i : ℕ) (page : Vec (Name × Fid)) → i < length pages → pairs_at (set pages i page) i ≡ page.items
set_here [] i page lt = absurd (omega (arith, lt))
set_here (first ∷ pages) zero page lt = refl
set_here (first ∷ pages) (suc i) page lt = set_here pages i page (omega (arith, lt))

pub set_length : (pages : Pages) (i : ℕ) (page : Vec (Name × Fid)) → length (set pages i page) ≡ length pages
set_length [] zero page = refl
set_length [] (suc i) page = refl
set_length (first ∷ pages) zero page = refl
set_length (first ∷ pages) (suc i) page = ap suc (set_length pages i page)

removed_pairs : (pages : Pages) (i : ℕ) (page : Vec (Name × Fid)) → all_pairs (remove (set pages i page) i) ≡ with_pairs pages i []
removed_pairs [] zero page = refl
removed_pairs [] (suc i) page = refl
removed_pairs (first ∷ pages) zero page = refl
removed_pairs (first ∷ pages) (suc i) page = ap (λ (l : Pairs). first.items ++ l) (removed_pairs pages i page)

removed_filled : (pages : Pages) (i : ℕ) (page : Vec (Name × Fid)) → AreFilled pages → AreFilled (remove (set pages i page) i)
removed_filled [] zero page filled = tt
removed_filled [] (suc i) page filled = tt
removed_filled (first ∷ pages) zero page filled = filled.1
removed_filled (first ∷ pages) (suc i) page filled = (filled.0, removed_filled pages i page filled.1)

no_pairs : (es : Pairs) → length es ≡ 0 → es ≡ []
no_pairs [] h = refl
no_pairs (e ∷ es) h = absurd (omega (arith, h))

-- a page that was emptied is taken away
pub page_gone : (pages new : Pages) (i : ℕ) (page : Vec (Name × Fid)) (es : Pairs) → new ≡ remove (set pages i page) i → page.items ≡ es → length page.items ≡ 0 → (all_pairs new ≡ with_pairs pages i es) × (AreFilled pages → AreFilled new)
page_gone pages new i page es is left empty = (
  ap (λ (p : Pages). all_pairs p) is ∙ removed_pairs pages i page ∙ ap (with_pairs pages i) (sym (no_pairs page.items empty) ∙ left),
  λ filled. subst (λ (p : Pages). AreFilled p) (sym is) (removed_filled pages i page filled),
)

-- and one that was not stays
pub page_left : (pages : Pages) (i : ℕ) (page : Vec (Name × Fid)) (es : Pairs) → page.items ≡ es → (length page.items ≡ 0 → ⊥) → (all_pairs (set pages i page) ≡ with_pairs pages i es) × (AreFilled pages → AreFilled (set pages i page))
page_left pages i page es is some =
    let change = page_changed pages i page es is in (
      change.changed,
      λ filled. change.filled filled (subst (λ (l : Pairs). 0 < length l) is (positive (length page.items) some)),
    )
  where
    positive : (n : ℕ) → (n ≡ 0 → ⊥) → 0 < n
    positive zero h = absurd (h refl)
    positive (suc n) h = omega arith

pub is_zero : (n : ℕ) → (n == 0) ≡ true → n ≡ 0
is_zero n h = grind (arith, h)

pub not_zero : (n : ℕ) → (n == 0) ≡ false → n ≡ 0 → ⊥
not_zero n h is = grind (arith, h, is)

-- ---- either way

pub either_way : {A E P Q R : Type 0} (r : Result A E) → OnOk r P → OnErr r Q → (P → R) → (Q → R) → R
either_way (Ok x) ok err f g = f ok
either_way (Err e) ok err f g = g err

pub put_some : (es : Pairs) (name : Name) (fid : Fid) → 0 < length (put name_cmp name fid es)
put_some [] name fid = omega arith
put_some (e ∷ es) name fid =
    elim (name_cmp name e.0) as (λ o. 0 < length (by_order o ((name, fid) ∷ e ∷ es) ((e.0, fid) ∷ es) (e ∷ put name_cmp name fid es))) [
      | Less ↦ omega arith
      | Equal ↦ omega arith
      | Greater ↦ omega arith
    ]

pub filled_at : (pages : Pages) (i : ℕ) → AreFilled pages → i < length pages → 0 < length (pairs_at pages i)
filled_at [] i filled lt = absurd (omega (arith, lt))
filled_at (page ∷ pages) zero filled lt = filled.0
filled_at (page ∷ pages) (suc i) filled lt = filled_at pages i filled.1 (omega (arith, lt))

-- ---- a page split in two

insert_front : (pages : Pages) (page : Vec (Name × Fid)) → insert pages 0 page ≡ page ∷ pages
insert_front [] page = refl
insert_front (first ∷ pages) page = refl

split_at : (pages : Pages) (i : ℕ) (front back : Vec (Name × Fid)) → front.items ++ back.items ≡ pairs_at pages i → i < length pages → all_pairs (insert (set pages i front) (suc i) back) ≡ all_pairs pages
split_at [] i front back whole lt = absurd (omega (arith, lt))
split_at (page ∷ pages) zero front back whole lt =
    ap (λ (p : Pages). front.items ++ all_pairs p) (insert_front pages back) ∙ append_more front.items back.items (all_pairs pages) ∙ ap (λ (l : Pairs). l ++ all_pairs pages) whole
split_at (page ∷ pages) (suc i) front back whole lt = ap (λ (l : Pairs). page.items ++ l) (split_at pages i front back whole (omega (arith, lt)))

pub page_split : (pages new : Pages) (i n : ℕ) (front back page : Vec (Name × Fid)) → new ≡ insert (set pages i front) (i + 1) back → front.items ≡ take n page.items → back.items ≡ drop n page.items → page.items ≡ pairs_at pages i → i < length pages → all_pairs new ≡ all_pairs pages
page_split pages new i n front back page is first last lent lt =
    let next : i + 1 ≡ suc i = omega arith in
    ap (λ (p : Pages). all_pairs p) (is ∙ ap (λ k. insert (set pages i front) k back) next)
    ∙ split_at pages i front back (ap (λ (l : Pairs). l ++ back.items) first ∙ ap (λ (l : Pairs). take n page.items ++ l) last ∙ take-append-drop n page.items ∙ lent) lt

-- ---- the pair at an index

get_front : (es rest : Pairs) (i : ℕ) → i < length es → slice_get (es ++ rest) i ≡ slice_get es i
get_front [] rest i lt = absurd (omega (arith, lt))
get_front (e ∷ es) rest zero lt = refl
get_front (e ∷ es) rest (suc i) lt = get_front es rest i (omega (arith, lt))

get_back : (es rest : Pairs) (i : ℕ) → slice_get (es ++ rest) (length es + i) ≡ slice_get rest i
get_back [] rest i = ap (slice_get rest) (omega arith)
get_back (e ∷ es) rest i = let next : suc (length es) + i ≡ suc (length es + i) = omega arith in ap (slice_get (e ∷ (es ++ rest))) next ∙ get_back es rest i

-- the pair is in this page
pub pair_here : (pages : Pages) (i left : ℕ) (page : Vec (Name × Fid)) (d : Name × Fid) → i < length pages → page ≡ get_or pages i page → left < length page.items → slice_get (all_pairs (drop i pages)) left ≡ Some (get_or page.items left d)
pair_here pages i left page d lt is within =
    ap (λ (p : Pages). slice_get (all_pairs p) left) (drop_more pages i page lt ∙ ap (λ (p : Vec (Name × Fid)). p ∷ drop (i + 1) pages) (sym is))
    ∙ get_front page.items (all_pairs (drop (i + 1) pages)) left within ∙ slice_get-get_or page.items left d within

-- or in a later one
pub pair_later : (pages : Pages) (i left n : ℕ) (page : Vec (Name × Fid)) → i < length pages → page ≡ get_or pages i page → n ≡ length page.items → n ≤ left → slice_get (all_pairs (drop (i + 1) pages)) (left - n) ≡ slice_get (all_pairs (drop i pages)) left
pair_later pages i left n page lt is len past =
    let whole : length page.items + (left - n) ≡ left = omega (arith, len, past) in
    sym (get_back page.items (all_pairs (drop (i + 1) pages)) (left - n)) ∙ ap (slice_get (page.items ++ all_pairs (drop (i + 1) pages))) whole
    ∙ sym (ap (λ (p : Pages). slice_get (all_pairs p) left) (drop_more pages i page lt ∙ ap (λ (p : Vec (Name × Fid)). p ∷ drop (i + 1) pages) (sym is)))

-- ---- as finite maps

pub sorted_put : (es : Pairs) (name : Name) (fid : Fid) → is_sorted name_cmp es ≡ true → is_sorted name_cmp (put name_cmp name fid es) ≡ true
sorted_put es name fid up = from_T _ (is_sorted-put name_cmp nat_list_cmp_total name fid es (to_T _ up))

pub seen_put : (es : Pairs) (name : Name) (fid : Fid) → is_sorted name_cmp es ≡ true → map.from_sorted {R = name_cmp} (put name_cmp name fid es) ≡ map.insert (map.from_sorted es) name fid
seen_put es name fid up =
    map.same_entries_map _ _ (
    map.entries-from_sorted name_cmp _ (to_T _ (sorted_put es name fid up)) ∙ ap (put name_cmp name fid) (sym (map.entries-from_sorted name_cmp es (to_T _ up)))
    ∙ sym (map.entries-insert nat_list_cmp_total (map.from_sorted {R = name_cmp} es) name fid))

pub sorted_without : (es : Pairs) (name : Name) → is_sorted name_cmp es ≡ true → is_sorted name_cmp (without name es) ≡ true
sorted_without es name up = from_T _ (is_sorted-where_key name_cmp (λ other. not (eq_by_cmp name_cmp name other)) es (to_T _ up))

others_found : (q name : Name) (o : Option Fid) → cond (not (eq_by_cmp name_cmp name q)) o None ≡ cond (eq_by_cmp name_cmp q name) None o
others_found q name o =
    elim (name_cases q name) [
      | inl same ↦ subst (λ x. cond (not (eq_by_cmp name_cmp name x)) o None ≡ cond (eq_by_cmp name_cmp x name) None o) (sym same) (let tied : name_cmp name name ≡ Equal = tied_itself nat_list_cmp_total name in ap (λ r. cond (not (is_eq r)) o None) tied ∙ sym (ap (λ r. cond (is_eq r) None o) tied))
      | inr differs ↦ negated (is_eq (name_cmp name q)) o ∙ apart name_cmp exact_bytes name q None o (λ same. differs (sym same)) ∙ sym (apart name_cmp exact_bytes q name None o differs)
    ]
  where
    negated : (b : Bool) (o : Option Fid) → cond (not b) o None ≡ cond b None o
    negated true o = refl
    negated false o = refl

pub seen_without : (es : Pairs) (name : Name) → is_sorted name_cmp es ≡ true → map.from_sorted {R = name_cmp} (without name es) ≡ map.remove (map.from_sorted es) name
seen_without es name up = map.same_map nat_list_cmp_total exact_bytes _ _ (λ q.
    get_pairs (without name es) q (sorted_without es name up)
    ∙ find-where_key name_cmp (λ other. not (eq_by_cmp name_cmp name other)) q (λ x tied. ap (λ k. not (eq_by_cmp name_cmp name k)) (sym (exact_bytes q x tied))) es
    ∙ others_found q name (find name_cmp q es) ∙ ap (λ o. cond (eq_by_cmp name_cmp q name) None o) (sym (get_pairs es q up))
    ∙ sym (map.get-remove nat_list_cmp_total (map.from_sorted {R = name_cmp} es) name q))

-- ---- what always holds of a directory, after a change

pub paged_more : (pages new : Pages) (count : ℕ) (name : Name) (fid : Fid) → IsPaged pages count → all_pairs new ≡ put name_cmp name fid (all_pairs pages) → AreFilled new → find name_cmp name (all_pairs pages) ≡ None → IsPaged new (count + 1)
paged_more pages new count name fid p is filled free = record {
  sorted = ap (is_sorted name_cmp) is ∙ sorted_put (all_pairs pages) name fid p.sorted;
  filled = filled;
  counted = ap (λ n. n + 1) p.counted ∙ sym (ap (λ (l : Pairs). length l) is ∙ length-put name_cmp nat_list_cmp_total name fid (all_pairs pages) (to_T _ p.sorted) ∙ ap (λ o. cond (is_some o) (length (all_pairs pages)) (length (all_pairs pages) + 1)) free);
}

pub paged_same : (pages new : Pages) (count : ℕ) (name : Name) (fid : Fid) → IsPaged pages count → all_pairs new ≡ put name_cmp name fid (all_pairs pages) → AreFilled new → IsSome (find name_cmp name (all_pairs pages)) → IsPaged new count
paged_same pages new count name fid p is filled bound = record {
  sorted = ap (is_sorted name_cmp) is ∙ sorted_put (all_pairs pages) name fid p.sorted;
  filled = filled;
  counted = p.counted ∙ sym (ap (λ (l : Pairs). length l) is ∙ length-put name_cmp nat_list_cmp_total name fid (all_pairs pages) (to_T _ p.sorted) ∙ chosen (find name_cmp name (all_pairs pages)) bound);
}
  where
    chosen : (o : Option Fid) → IsSome o → cond (is_some o) (length (all_pairs pages)) (length (all_pairs pages) + 1) ≡ length (all_pairs pages)
    chosen None h = cc
    chosen (Some x) h = refl

pub paged_kept : (pages new : Pages) (count : ℕ) → IsPaged pages count → all_pairs new ≡ all_pairs pages → AreFilled new → IsPaged new count
paged_kept pages new count p is filled = record {
  sorted = ap (is_sorted name_cmp) is ∙ p.sorted;
  filled = filled;
  counted = p.counted ∙ sym (ap (λ (l : Pairs). length l) is);
}

pub length_left : (pages new : Pages) (name : Name) → is_sorted name_cmp (all_pairs pages) ≡ true → all_pairs new ≡ without name (all_pairs pages) → cond (is_some (find name_cmp name (all_pairs pages))) 1 0 + length (all_pairs new) ≡ length (all_pairs pages)
length_left pages new name up is = ap (λ (l : Pairs). cond (is_some (find name_cmp name (all_pairs pages))) 1 0 + length l) is ∙ length_without name_cmp nat_list_cmp_total name (all_pairs pages) (to_T _ up)

-- a page has no more pairs than all
pub page_small : (pages : Pages) (i : ℕ) → length (pairs_at pages i) ≤ length (all_pairs pages)
page_small [] i = omega arith
page_small (page ∷ pages) zero = let all = length-append page.items (all_pairs pages) in omega (arith, all)
page_small (page ∷ pages) (suc i) = let all = length-append page.items (all_pairs pages) in let rest = page_small pages i in omega (arith, all, rest)

-- what contracts see of pages
pub paged_get : (pages : Pages) (count : ℕ) (seen : Bindings) (name : Name) → IsPaged pages count → map.from_sorted {R = name_cmp} (all_pairs pages) ≡ seen → find name_cmp name (all_pairs pages) ≡ map.get seen name
paged_get pages count seen name p is = sym (get_pairs (all_pairs pages) name p.sorted) ∙ ap (λ (m : Bindings). map.get m name) is

pub paged_len : (pages : Pages) (count : ℕ) (seen : Bindings) → IsPaged pages count → map.from_sorted {R = name_cmp} (all_pairs pages) ≡ seen → count ≡ map.len seen
paged_len pages count seen p is = p.counted ∙ sym (map.len-entries seen ∙ ap (λ (l : Pairs). length l) (entries_seen (all_pairs pages) seen p.sorted is))

pub paged_taken : (pages new : Pages) (count : ℕ) (name : Name) → IsPaged pages count → all_pairs new ≡ without name (all_pairs pages) → AreFilled new → is_some (find name_cmp name (all_pairs pages)) ≡ true → IsPaged new (count - 1)
paged_taken pages new count name p is filled was =
    let all = ap (λ b. cond b 1 0 + length (all_pairs new)) (sym was) ∙ length_left pages new name p.sorted is in
    let counted = p.counted in
    record {
      sorted = ap (is_sorted name_cmp) is ∙ sorted_without (all_pairs pages) name p.sorted;
      filled = filled;
      counted = omega (arith, all, counted);
    }

pub paged_missed : (pages new : Pages) (count : ℕ) (name : Name) → IsPaged pages count → all_pairs new ≡ without name (all_pairs pages) → AreFilled new → is_some (find name_cmp name (all_pairs pages)) ≡ false → IsPaged new count
paged_missed pages new count name p is filled was =
    let all = ap (λ b. cond b 1 0 + length (all_pairs new)) (sym was) ∙ length_left pages new name p.sorted is in
    let counted = p.counted in
    record {
      sorted = ap (is_sorted name_cmp) is ∙ sorted_without (all_pairs pages) name p.sorted;
      filled = filled;
      counted = omega (arith, all, counted);
    }
