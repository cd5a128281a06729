-- What is known of how fids are bound stays true, where the directories change and it is noted.
use Rattle.std.proofs.Common.{◌≡◌, ◌≢◌, ℕ, ◌+◌, ◌<◌, Bool, true, false, cond, List, [], ◌∷◌, ◌++◌, length, get_or, drop, Option, Some, None, refl, sym, ap, ◌∙◌, subst, inl, inr}
use Rattle.std.specs.Ordering.{is_eq}
use Rattle.std.specs.FinMap.Entries.{is_sorted, find}
use Rattle.std.specs.Global.{Vec}
use Rattle.std.proofs.lemmas.List.{drop_more}
use Rattle.std.proofs.lemmas.Option.{none-some, same_Some}
use Rattle.std.proofs.lemmas.Cmp.{nat_list_cmp_total}
use Rattle.std.proofs.lemmas.Map.Lookups.{exact_bytes}
use Rattle.coda_fid.specs.Fid.{fid_cmp, same_fid}
use Rattle.coda_fid.specs.Name.{name_cmp}
use Rattle.coda_fid.specs.declared.fid.Fid.{Fid}
use Rattle.coda_fid.proofs.Fids.{fids_total, exact_fids}
use Rattle.coda_tree.specs.declared.binders.Bound.{Bound}
use Rattle.coda_tree.specs.declared.binders.Bound.TheVariants.{Nowhere, Once, Unsure}
use Rattle.coda_tree.specs.declared.binders.Change.{Change}
use Rattle.coda_tree.specs.declared.binders.Change.TheVariants.{More, Less, Moved}
use Rattle.coda_tree.specs.declared.binders.Binders.{Binders}
use Rattle.coda_tree.specs.Bindings.{Name, Pairs}
use Rattle.coda_tree.specs.Pages.{Pages, all_pairs}
use Rattle.coda_tree.specs.Tree.{Child}
use Rattle.coda_tree.specs.Table.{or_else}
use Rattle.coda_tree.specs.Binders.{bound_in, bound_at, bound_after, known_at, after_at, after_leave, after_all, SaysNoMore, Notes, IsTrueOf}
use Rattle.coda_tree.proofs.Booleans.{and_true}
use Rattle.coda_tree.proofs.Order.{fid_cases, name_cases, apart, at_itself}
use Rattle.coda_tree.proofs.Keyed.{kept_at, changed_here, changed_else}
use Rattle.coda_tree.proofs.Pairs.{none_below}
use Rattle.coda_tree.proofs.Trees.{edge_cases}

-- ---- what is noted

-- an entry that found no memory
pub refused_at : (kept : List (Fid × Bound)) (whole : Bool) (f : Fid) (known : Bound) → kept_at kept f ≡ None → (q : Fid) → SaysNoMore (known_at f known q (bound_in whole (kept_at kept q))) (bound_in false (kept_at kept q))
refused_at kept whole f known free q = elim (fid_cases q f) [
  | inl at ↦ inr (ap (λ x. bound_in false (kept_at kept x)) at ∙ ap (bound_in false) free)
  | inr other ↦ subst (λ b. SaysNoMore b (bound_in false (kept_at kept q))) (sym (changed_else f q known (bound_in whole (kept_at kept q)) other)) (less_known (kept_at kept q))
]
  where
    less_known : (o : Option Bound) → SaysNoMore (bound_in whole o) (bound_in false o)
    less_known None = inr refl
    less_known (Some bound) = inl refl

-- what one step leaves open, the next one does too
pub after_unsure : (f : Fid) (change : Change) (q : Fid) → after_at f change q Unsure ≡ Unsure
after_unsure f change q = elim (same_fid f q) as (λ b. cond b Unsure Unsure ≡ Unsure) [ true ↦ refl | false ↦ refl ]

pub after_all_unsure : (change : Change) (pairs : Pairs) (q : Fid) → after_all change pairs q Unsure ≡ Unsure
after_all_unsure change [] q = refl
after_all_unsure change (pair ∷ pairs) q = ap (after_all change pairs q) (after_unsure pair.1 change q) ∙ after_all_unsure change pairs q

-- what says no more than what says no more
pub says_trans : (a b c : Bound) → SaysNoMore a b → SaysNoMore b c → SaysNoMore a c
says_trans a b c first next = elim next [
  | inr unsure ↦ inr unsure
  | inl is ↦ elim first [
    | inl same ↦ inl (is ∙ same)
    | inr unsure ↦ inr (is ∙ unsure)
  ]
]

-- a step keeps the order, where it leaves open what is open
pub says_step : (step : Bound → Bound) (a b : Bound) → step Unsure ≡ Unsure → SaysNoMore a b → SaysNoMore (step a) (step b)
says_step step a b stays says = elim says [
  | inl same ↦ inl (ap step same)
  | inr unsure ↦ inr (ap step unsure ∙ stays)
]

-- a change that is looked up, made and kept
pub kept_after : (binders new : Binders) (f : Fid) (change : Change) (known : Bound) → known ≡ bound_after change (bound_at binders f) → Notes binders new (known_at f known) → Notes binders new (after_at f change)
kept_after binders new f change known is notes q = elim (fid_cases q f) [
  | inl at ↦ subst (λ b. SaysNoMore b (bound_at new q)) (ap (λ b. known_at f b q (bound_at binders q)) (is ∙ ap (λ x. bound_after change (bound_at binders x)) (sym at))) (notes q)
  | inr other ↦
      subst (λ b. SaysNoMore b (bound_at new q)) (changed_else f q known (bound_at binders q) other ∙ sym (changed_else f q (bound_after change (bound_at binders q)) (bound_at binders q) other)) (notes q)
]

-- changes one after the other
pub after_append : (change : Change) (front back : Pairs) (q : Fid) (bound : Bound) → after_all change (front ++ back) q bound ≡ after_all change back q (after_all change front q bound)
after_append change [] back q bound = refl
after_append change (pair ∷ front) back q bound = after_append change front back q (after_at pair.1 change q bound)

-- the next of some pairs is noted
pub page_step : (change : Change) (pairs : Pairs) (i : ℕ) (pair : Name × Fid) (old new : Binders) → i < length pairs → pair ≡ get_or pairs i pair → Notes old new (after_at pair.1 change)
    → (q : Fid) → SaysNoMore (after_all change (drop i pairs) q (bound_at old q)) (after_all change (drop (i + 1) pairs) q (bound_at new q))
page_step change pairs i pair old new lt is notes q =
    subst (λ l. SaysNoMore (after_all change l q (bound_at old q)) (after_all change (drop (i + 1) pairs) q (bound_at new q))) (sym (drop_more pairs i pair lt ∙ ap (λ (p : Name × Fid). p ∷ drop (i + 1) pairs) (sym is)))
    (says_step (after_all change (drop (i + 1) pairs) q) (after_at pair.1 change q (bound_at old q)) (bound_at new q) (after_all_unsure change (drop (i + 1) pairs) q) (notes q))

-- the next of some pages is noted
pub pages_step : (change : Change) (pages : Pages) (i : ℕ) (page : Vec (Name × Fid)) (old new : Binders) → i < length pages → page ≡ get_or pages i page → Notes old new (after_all change page.items)
    → (q : Fid) → SaysNoMore (after_all change (all_pairs (drop i pages)) q (bound_at old q)) (after_all change (all_pairs (drop (i + 1) pages)) q (bound_at new q))
pages_step change pages i page old new lt is notes q =
    let rest = all_pairs (drop (i + 1) pages) in
    subst (λ b. SaysNoMore b (after_all change rest q (bound_at new q)))
    (sym (ap (λ (p : Pages). after_all change (all_pairs p) q (bound_at old q)) (drop_more pages i page lt ∙ ap (λ (p : Vec (Name × Fid)). p ∷ drop (i + 1) pages) (sym is)) ∙ after_append change page.items rest q (bound_at old q)))
    (says_step (after_all change rest q) (after_all change page.items q (bound_at old q)) (bound_at new q) (after_all_unsure change rest q) (notes q))

-- ---- what is true

-- new directories bind what the old ones do but at one place
pub record Differs (c c' : Child) (d : Fid) (n : Name) (o o' : Option Fid) : Type 0 where
  pub was : c d n ≡ o
  pub is : c' d n ≡ o'
  pub others : (e : Fid) (k : Name) → ((e ≡ d) × (k ≡ n) → ⊥) → c' e k ≡ c e k

pub at_place : (c : Child) (e d : Fid) (k n : Name) → (e ≡ d) × (k ≡ n) → c e k ≡ c d n
at_place c e d k n same = ap (λ x. c x k) same.0 ∙ ap (c d) same.1

-- less is true where more is
pub true_less_known : (c : Child) (f : Fid) (known now : Bound) → SaysNoMore known now → IsTrueOf c f known → IsTrueOf c f now
true_less_known c f known now says h = elim says [
  | inl same ↦ subst (IsTrueOf c f) (sym same) h
  | inr unsure ↦ subst (IsTrueOf c f) (sym unsure) tt
]

-- directories that bind the same
pub true_same : (c c' : Child) → ((d : Fid) (n : Name) → c' d n ≡ c d n) → (q : Fid) (bound : Bound) → IsTrueOf c q bound → IsTrueOf c' q bound
true_same c c' same q Nowhere h = λ d n is. h d n (sym (same d n) ∙ is)
true_same c c' same q (Once dir) h = (h.0, record { bound = same dir h.0 ∙ h.1.bound; only = λ d n is. h.1.only d n (sym (same d n) ∙ is) })
true_same c c' same q Unsure h = tt

-- a place that has nothing to do with q
true_kept : (c c' : Child) (d : Fid) (n : Name) (was is : Option Fid) (q : Fid) (bound : Bound) → Differs c c' d n was is → was ≢ Some q → is ≢ Some q → IsTrueOf c q bound → IsTrueOf c' q bound
true_kept c c' d n was is q Nowhere diff was_not is_not h = λ e k at. elim (edge_cases e d k n) [
  | inl same ↦ is_not (sym diff.is ∙ sym (at_place c' e d k n same) ∙ at)
  | inr other ↦ h e k (sym (diff.others e k other) ∙ at)
]
true_kept c c' d n was is q (Once dir) diff was_not is_not h = (
  h.0,
  record {
    bound = elim (edge_cases dir d h.0 n) [
      | inl same ↦ absurd (was_not (sym diff.was ∙ sym (at_place c dir d h.0 n same) ∙ h.1.bound))
      | inr other ↦ diff.others dir h.0 other ∙ h.1.bound
    ];
    only = λ e k at. elim (edge_cases e d k n) [
      | inl same ↦ absurd (is_not (sym diff.is ∙ sym (at_place c' e d k n same) ∙ at))
      | inr other ↦ h.1.only e k (sym (diff.others e k other) ∙ at)
    ];
  },
)
true_kept c c' d n was is q Unsure diff was_not is_not h = tt

-- one name more for f
more_here : (c c' : Child) (d : Fid) (n : Name) (f : Fid) (bound : Bound) → Differs c c' d n None (Some f) → IsTrueOf c f bound → IsTrueOf c' f (bound_after (More d) bound)
more_here c c' d n f Nowhere diff h = (
  n,
  record {
    bound = diff.is;
    only = λ e k at. elim (edge_cases e d k n) [
      | inl same ↦ same
      | inr other ↦ absurd (h e k (sym (diff.others e k other) ∙ at))
    ];
  },
)
more_here c c' d n f (Once dir) diff h = tt
more_here c c' d n f Unsure diff h = tt

-- one name less for f
less_here : (c c' : Child) (d : Fid) (n : Name) (f : Fid) (bound : Bound) → Differs c c' d n (Some f) None → IsTrueOf c f bound → IsTrueOf c' f (bound_after Less bound)
less_here c c' d n f Nowhere diff h = absurd (h d n diff.was)
less_here c c' d n f (Once dir) diff h = λ e k at. elim (edge_cases e d k n) [
  | inl same ↦ none-some f (sym diff.is ∙ sym (at_place c' e d k n same) ∙ at)
  | inr other ↦
      let this = h.1.only e k (sym (diff.others e k other) ∙ at) in
      let that = h.1.only d n diff.was in
      other (this.0 ∙ sym that.0, this.1 ∙ sym that.1)
]
less_here c c' d n f Unsure diff h = tt

some_apart : (f q : Fid) → q ≢ f → Some f ≢ Some q
some_apart f q other h = other (sym (same_Some f q h))

-- one name more
pub true_more : (c c' : Child) (d : Fid) (n : Name) (f q : Fid) (bound : Bound) → Differs c c' d n None (Some f) → IsTrueOf c q bound → IsTrueOf c' q (after_at f (More d) q bound)
true_more c c' d n f q bound diff h = elim (fid_cases q f) [
  | inl at ↦
      subst (λ x. IsTrueOf c' x (after_at f (More d) x bound)) (sym at)
      (subst (IsTrueOf c' f) (sym (changed_here f (bound_after (More d) bound) bound)) (more_here c c' d n f bound diff (subst (λ x. IsTrueOf c x bound) at h)))
  | inr other ↦ subst (IsTrueOf c' q) (sym (changed_else f q (bound_after (More d) bound) bound other)) (true_kept c c' d n None (Some f) q bound diff (none-some q) (some_apart f q other) h)
]

-- one name less
pub true_less : (c c' : Child) (d : Fid) (n : Name) (f q : Fid) (bound : Bound) → Differs c c' d n (Some f) None → IsTrueOf c q bound → IsTrueOf c' q (after_at f Less q bound)
true_less c c' d n f q bound diff h = elim (fid_cases q f) [
  | inl at ↦
      subst (λ x. IsTrueOf c' x (after_at f Less x bound)) (sym at)
      (subst (IsTrueOf c' f) (sym (changed_here f (bound_after Less bound) bound)) (less_here c c' d n f bound diff (subst (λ x. IsTrueOf c x bound) at h)))
  | inr other ↦ subst (IsTrueOf c' q) (sym (changed_else f q (bound_after Less bound) bound other)) (true_kept c c' d n (Some f) None q bound diff (some_apart f q other) (none-some q) h)
]

-- a move is one name less and then one more
pub moved_after : (f dir q : Fid) (bound : Bound) → after_at f (Moved dir) q bound ≡ after_at f (More dir) q (after_at f Less q bound)
moved_after f dir q bound = elim (same_fid f q) as (λ b. cond b (bound_after (Moved dir) bound) bound ≡ cond b (bound_after (More dir) (cond b (bound_after Less bound) bound)) (cond b (bound_after Less bound) bound)) [
  | true ↦ both bound
  | false ↦ refl
]
  where
    both : (b : Bound) → bound_after (Moved dir) b ≡ bound_after (More dir) (bound_after Less b)
    both Nowhere = refl
    both (Once d) = refl
    both Unsure = refl

-- a name less or none
pub true_leave : (c c' : Child) (d : Fid) (n : Name) (was : Option Fid) (q : Fid) (bound : Bound) → Differs c c' d n was None → IsTrueOf c q bound → IsTrueOf c' q (after_leave was q bound)
true_leave c c' d n None q bound diff h = true_same c c' (λ e k. elim (edge_cases e d k n) [
  | inl same ↦ at_place c' e d k n same ∙ diff.is ∙ sym (at_place c e d k n same ∙ diff.was)
  | inr other ↦ diff.others e k other
]) q bound h
true_leave c c' d n (Some f) q bound diff h = true_less c c' d n f q bound diff h

-- ---- all names of a directory

-- the directory d binds the pairs no more
pub true_all_less : (pairs : Pairs) (c c' : Child) (d q : Fid) (bound : Bound) → is_sorted name_cmp pairs ≡ true → ((n : Name) → c d n ≡ find name_cmp n pairs) → ((n : Name) → c' d n ≡ None)
    → ((e : Fid) (n : Name) → e ≢ d → c' e n ≡ c e n) → IsTrueOf c q bound → IsTrueOf c' q (after_all Less pairs q bound)
true_all_less [] c c' d q bound up was is others h = true_same c c' (λ e n. elim (fid_cases e d) [
  | inl at ↦ ap (λ x. c' x n) at ∙ is n ∙ sym (ap (λ x. c x n) at ∙ was n)
  | inr other ↦ others e n other
]) q bound h
true_all_less (pair ∷ pairs) c c' d q bound up was is others h =
    let sorted = and_true _ _ up in
    let mid : Child = λ e n. cond (is_eq (fid_cmp e d)) (find name_cmp n pairs) (c e n) in
    let at_d : (n : Name) → mid d n ≡ find name_cmp n pairs = λ n. at_itself fids_total d (find name_cmp n pairs) (c d n) in
    true_all_less pairs mid c' d q (after_at pair.1 Less q bound) sorted.1 at_d is
    (λ e n other. others e n other ∙ sym (apart fid_cmp exact_fids e d (find name_cmp n pairs) (c e n) other))
    (true_less c mid d pair.0 pair.1 q bound (record {
      was = was pair.0 ∙ at_itself nat_list_cmp_total pair.0 (Some pair.1) (find name_cmp pair.0 pairs);
      is = at_d pair.0 ∙ none_below pair.0 pairs sorted.0;
      others = λ e k off. elim (fid_cases e d) [
        | inl at ↦
            ap (λ x. mid x k) at ∙ at_d k
            ∙ sym (ap (λ x. c x k) at ∙ was k ∙ apart name_cmp exact_bytes k pair.0 (Some pair.1) (find name_cmp k pairs) (λ same. off (at, same)))
        | inr other ↦ apart fid_cmp exact_fids e d (find name_cmp k pairs) (c e k) other
      ];
    }) h)

-- the directory d binds the pairs too
pub true_all_more : (pairs : Pairs) (c c' : Child) (d q : Fid) (bound : Bound) → is_sorted name_cmp pairs ≡ true → ((n : Name) (f : Fid) → find name_cmp n pairs ≡ Some f → c d n ≡ None)
    → ((n : Name) → c' d n ≡ or_else (find name_cmp n pairs) (c d n)) → ((e : Fid) (n : Name) → e ≢ d → c' e n ≡ c e n) → IsTrueOf c q bound → IsTrueOf c' q (after_all (More d) pairs q bound)
true_all_more [] c c' d q bound up free is others h = true_same c c' (λ e n. elim (fid_cases e d) [
  | inl at ↦ ap (λ x. c' x n) at ∙ is n ∙ sym (ap (λ x. c x n) at)
  | inr other ↦ others e n other
]) q bound h
true_all_more (pair ∷ pairs) c c' d q bound up free is others h =
    let sorted = and_true _ _ up in
    let mid : Child = λ e n. cond (is_eq (fid_cmp e d)) (cond (is_eq (name_cmp n pair.0)) (Some pair.1) (c d n)) (c e n) in
    let at_d : (n : Name) → mid d n ≡ cond (is_eq (name_cmp n pair.0)) (Some pair.1) (c d n) = λ n. at_itself fids_total d _ (c d n) in
    let here : mid d pair.0 ≡ Some pair.1 = at_d pair.0 ∙ at_itself nat_list_cmp_total pair.0 (Some pair.1) (c d pair.0) in
    let there : (n : Name) → n ≢ pair.0 → mid d n ≡ c d n = λ n other. at_d n ∙ apart name_cmp exact_bytes n pair.0 (Some pair.1) (c d n) other in
    let none : find name_cmp pair.0 pairs ≡ None = none_below pair.0 pairs sorted.0 in
    let first : find name_cmp pair.0 (pair ∷ pairs) ≡ Some pair.1 = at_itself nat_list_cmp_total pair.0 (Some pair.1) (find name_cmp pair.0 pairs) in
    let later : (n : Name) → n ≢ pair.0 → find name_cmp n (pair ∷ pairs) ≡ find name_cmp n pairs = λ n other. apart name_cmp exact_bytes n pair.0 (Some pair.1) (find name_cmp n pairs) other in
    true_all_more pairs mid c' d q (after_at pair.1 (More d) q bound) sorted.1
    (λ n f found. elim (name_cases n pair.0) [
      | inl same ↦ absurd (none-some f (sym none ∙ sym (ap (λ k. find name_cmp k pairs) same) ∙ found))
      | inr other ↦ there n other ∙ free n f (later n other ∙ found)
    ])
    (λ n. elim (name_cases n pair.0) [
      | inl same ↦
          ap (c' d) same ∙ is pair.0 ∙ ap (λ o. or_else o (c d pair.0)) first
          ∙ sym (ap (λ k. or_else (find name_cmp k pairs) (mid d k)) same ∙ ap (λ o. or_else o (mid d pair.0)) none ∙ here)
      | inr other ↦ is n ∙ ap (λ o. or_else o (c d n)) (later n other) ∙ ap (or_else (find name_cmp n pairs)) (sym (there n other))
    ])
    (λ e n other. others e n other ∙ sym (apart fid_cmp exact_fids e d _ (c e n) other))
    (true_more c mid d pair.0 pair.1 q bound (record {
      was = free pair.0 pair.1 first;
      is = here;
      others = λ e k off. elim (fid_cases e d) [
        | inl at ↦ ap (λ x. mid x k) at ∙ there k (λ same. off (at, same)) ∙ sym (ap (λ x. c x k) at)
        | inr other ↦ apart fid_cmp exact_fids e d _ (c e k) other
      ];
    }) h)
