-- How often fids stand in a list.
use Rattle.std.proofs.Common.{◌≡◌, ℕ, ◌+◌, ◌≤◌, ◌<◌, zero, suc, Bool, true, false, cond, not, List, [], ◌∷◌, ◌++◌, Some, None, Option, slice_get, get_or, length, take, refl, sym, ap, ◌∙◌, subst, map, arith, ◌||◌, ◌&&◌, inl, inr}
use Rattle.std.specs.Prelude.{nat_le}
use Rattle.std.specs.FinMap as finmap
use Rattle.std.specs.List.{filter, fold, flat_map, list_any, zip}
use Rattle.std.specs.Ordering.{is_eq}
use Rattle.std.specs.Cmp.{Equal-is}
use Rattle.std.specs.BTreeSet.{BTreeSet, Updates}
use Rattle.std.proofs.lemmas.Bool.{true≢false, leb-true, leb-false, le-leb, lt-leb}
use Rattle.std.proofs.lemmas.Cmp.{eq_by_cmp_equiv}
use Rattle.std.proofs.lemmas.List.{length-map, take_all}
use Rattle.coda_fid.specs.Fid.{fid_cmp, same_fid}
use Rattle.coda_fid.specs.declared.fid.Fid.{Fid}
use Rattle.coda_fid.proofs.Fids.{exact_fids, same_fid_is, same_fid_refl, fids_total}
use Rattle.coda_tree.specs.Bindings.{Name, Bindings}
use Rattle.coda_reslog.specs.declared.entry.ResEntry.{ResEntry}
use Rattle.coda_resolve.specs.Copies.{Copies}
use Rattle.coda_resolve.specs.Missing.{missing}
use Rattle.coda_resolve.specs.Merged.{merged_bindings}
use Rattle.coda_resolve.specs.Causes.{times, fids_lost, is_elsewhere, is_double, least, least_with}
use Rattle.coda_resolve.specs.Counted.{has_fid, AreFids, AreTwice, AreLeftOf, is_in_one}
use Rattle.coda_resolve.specs.Placement.{IsIn}
use Rattle.coda_resolve.proofs.Changed.{among_filter, filter_alike_in}
use Rattle.coda_resolve.proofs.Collected.{one_more}
use Rattle.coda_resolve.proofs.Lists.{both_ways}
use Rattle.coda_resolve.proofs.Logged.{in_any}
use Rattle.coda_resolve.proofs.LeastNames.{least_of_two}

-- ---- the fids that a directory binds

value_at : (es : List (Name × Fid)) (i : ℕ) (n : Name) (f : Fid) → Some (n, f) ≡ slice_get es i → Some f ≡ slice_get (map (λ e. e.1) es) i
value_at [] i n f e = absurd cc
value_at (x ∷ es) zero n f e = let same : (n, f) ≡ x = cc in ap (λ (p : Name × Fid). Some p.1) same
value_at (x ∷ es) (suc i) n f e = value_at es i n f e

pub value_more : (m : Bindings) (i : ℕ) (n : Name) (f : Fid) (old new : List Fid) → Some (n, f) ≡ slice_get (finmap.entries m) i → old ≡ take i (finmap.values m) → new ≡ old ++ f ∷ [] → new ≡ take (i + 1) (finmap.values m)
value_more m i n f old new at sofar is = is ∙ ap (λ front. front ++ f ∷ []) sofar ∙ sym (one_more (finmap.values m) i f (value_at (finmap.entries m) i n f at))

pub all_values : (m : Bindings) (i : ℕ) → finmap.len m ≤ i → take i (finmap.values m) ≡ finmap.values m
all_values m i le = take_all i (finmap.values m) (let count : length (finmap.values m) ≡ finmap.len m = length-map (finmap.entries m) _ ∙ sym (finmap.len-entries m) in omega arith)

-- ---- once and twice

same_order : (g f : Fid) → is_eq (fid_cmp g f) ≡ same_fid f g
same_order g f = both_ways (is_eq (fid_cmp g f)) (same_fid f g)
    (λ e. subst (λ x. same_fid f x ≡ true) (sym (exact_fids g f ((Equal-is (fid_cmp g f)).0 e))) (same_fid_refl f))
    (λ e. subst (λ x. is_eq (fid_cmp g x) ≡ true) (sym (same_fid_is f g e)) ((eq_by_cmp_equiv fids_total).refl g))

times_more : (f g : Fid) (fids : List Fid) → times f (fids ++ g ∷ []) ≡ times f fids + cond (same_fid f g) 1 0
times_more f g [] = omega arith
times_more f g (x ∷ fids) = let more = times_more f g fids in omega arith

count_more : (limit n c : ℕ) (old : Bool) → old ≡ nat_le limit n → c ≡ 0 → old ≡ nat_le limit (n + c)
count_more limit n c old is none = is ∙ ap (nat_le limit) (omega arith)

module _ (once once' : BTreeSet Fid) (g : Fid) (fids : List Fid) (added : Updates fid_cmp once once' g true) where
  one_met : ((f : Fid) → has_fid once f ≡ nat_le 1 (times f fids)) → (f : Fid) → has_fid once' f ≡ nat_le 1 (times f (fids ++ g ∷ []))
  one_met are f = added.0 f ∙ ap (λ b. cond b true (has_fid once f)) (same_order g f) ∙ by (same_fid f g) refl ∙ ap (nat_le 1) (sym (times_more f g fids))
    where
      by : (b : Bool) → same_fid f g ≡ b → cond b true (has_fid once f) ≡ nat_le 1 (times f fids + cond (same_fid f g) 1 0)
      by true e = sym (le-leb 1 (times f fids + cond (same_fid f g) 1 0) (subst (λ b. 1 ≤ times f fids + cond b 1 0) (sym e) (omega arith)))
      by false e = count_more 1 (times f fids) (cond (same_fid f g) 1 0) (has_fid once f) (are f) (ap (λ b. cond b 1 0) e)

-- a fid that was not there
pub met_first : (once once' twice : BTreeSet Fid) (g : Fid) (fids : List Fid) → Updates fid_cmp once once' g true → not (has_fid once g) ≡ true → AreTwice once twice fids → AreTwice once' twice (fids ++ g ∷ [])
met_first once once' twice g fids added fresh are = record {
  one = one_met once once' g fids added are.one;
  two = λ f. by f (same_fid f g) refl ∙ ap (nat_le 2) (sym (times_more f g fids));
}
  where
    absent : nat_le 1 (times g fids) ≡ false
    absent = sym (are.one g) ∙ flip (has_fid once g) fresh
      where
        flip : (b : Bool) → not b ≡ true → b ≡ false
        flip true e = absurd (true≢false (sym e))
        flip false e = refl

    by : (f : Fid) (b : Bool) → same_fid f g ≡ b → has_fid twice f ≡ nat_le 2 (times f fids + cond (same_fid f g) 1 0)
    by f true e =
        let none = leb-false 1 (times f fids) (subst (λ x. nat_le 1 (times x fids) ≡ false) (sym (same_fid_is f g e)) absent) in
        are.two f ∙ no_two (times f fids) none ∙ sym (ap (λ b. nat_le 2 (times f fids + cond b 1 0)) e ∙ no_two_more (times f fids) none)
      where
        no_two : (n : ℕ) → n < 1 → nat_le 2 n ≡ false
        no_two n lt = lt-leb 2 n (omega arith)

        no_two_more : (n : ℕ) → n < 1 → nat_le 2 (n + 1) ≡ false
        no_two_more n lt = lt-leb 2 (n + 1) (omega arith)
    by f false e = count_more 2 (times f fids) (cond (same_fid f g) 1 0) (has_fid twice f) (are.two f) (ap (λ b. cond b 1 0) e)

-- a fid that was there
pub met_again : (once once' twice twice' : BTreeSet Fid) (g : Fid) (fids : List Fid) → Updates fid_cmp once once' g true → Updates fid_cmp twice twice' g true → not (has_fid once g) ≡ false → AreTwice once twice fids → AreTwice once' twice' (fids ++ g ∷ [])
met_again once once' twice twice' g fids added more known are = record {
  one = one_met once once' g fids added are.one;
  two = λ f. more.0 f ∙ ap (λ b. cond b true (has_fid twice f)) (same_order g f) ∙ by f (same_fid f g) refl ∙ ap (nat_le 2) (sym (times_more f g fids));
}
  where
    there : nat_le 1 (times g fids) ≡ true
    there = sym (are.one g) ∙ flip (has_fid once g) known
      where
        flip : (b : Bool) → not b ≡ false → b ≡ true
        flip true e = refl
        flip false e = absurd (true≢false e)

    by : (f : Fid) (b : Bool) → same_fid f g ≡ b → cond b true (has_fid twice f) ≡ nat_le 2 (times f fids + cond (same_fid f g) 1 0)
    by f true e =
        let some = leb-true 1 (times f fids) (subst (λ x. nat_le 1 (times x fids) ≡ true) (sym (same_fid_is f g e)) there) in
        sym (le-leb 2 (times f fids + cond (same_fid f g) 1 0) (subst (λ b. 2 ≤ times f fids + cond b 1 0) (sym e) (omega arith)))
    by f false e = count_more 2 (times f fids) (cond (same_fid f g) 1 0) (has_fid twice f) (are.two f) (ap (λ b. cond b 1 0) e)

at_index : (fids : List Fid) (i : ℕ) (d : Fid) → i < length fids → slice_get fids i ≡ Some (get_or fids i d)
at_index [] i d lt = absurd (omega arith)
at_index (y ∷ fids) zero d lt = refl
at_index (y ∷ fids) (suc i) d lt = at_index fids i d (omega arith)

-- one fid more of a list
pub one_fid_more : (set : BTreeSet Fid) (fids : List Fid) (i : ℕ) (d : Fid) → i < length fids → AreFids set (take i fids ++ get_or fids i d ∷ []) → AreFids set (take (i + 1) fids)
one_fid_more set fids i d lt are = subst (λ l. AreFids set l) (sym (one_more fids i (get_or fids i d) (sym (at_index fids i d lt)))) are

-- ---- fids that are left

slice_in : (fids : List Fid) (i : ℕ) (f : Fid) → Some f ≡ slice_get fids i → IsIn f fids
slice_in [] i f e = absurd cc
slice_in (g ∷ fids) zero f e = let same : f ≡ g = cc in inl (sym same)
slice_in (g ∷ fids) (suc i) f e = inr (slice_in fids i f e)

pub value_found : (m : Bindings) (i : ℕ) (n : Name) (f g : Fid) → Some (n, f) ≡ slice_get (finmap.entries m) i → same_fid f g ≡ true → list_any (same_fid g) (finmap.values m) ≡ true
value_found m i n f g at same = in_any (same_fid g) (finmap.values m) f (slice_in (finmap.values m) i f (value_at (finmap.entries m) i n f at)) (subst (λ x. same_fid g x ≡ true) (sym (same_fid_is f g same)) (same_fid_refl g))

-- of the fids that are left those that are there and not bound are those of all that are
pub left_entries : (own : Bindings) (fids left : List Fid) (has : Fid → Bool) → AreLeftOf own fids left → (f : Fid) → (list_any (same_fid f) (filter has left) && not (list_any (same_fid f) (finmap.values own))) ≡ (list_any (same_fid f) fids && (has f && not (list_any (same_fid f) (finmap.values own))))
left_entries own fids left has are f = ap (λ b. b && not (list_any (same_fid f) (finmap.values own))) (among_filter has left f) ∙ by (list_any (same_fid f) left) refl (list_any (same_fid f) fids) refl (has f) (list_any (same_fid f) (finmap.values own)) refl
  where
    by : (a : Bool) → list_any (same_fid f) left ≡ a → (b : Bool) → list_any (same_fid f) fids ≡ b → (h o : Bool) → list_any (same_fid f) (finmap.values own) ≡ o → ((h && a) && not o) ≡ (b && (h && not o))
    by true e false k h o l = absurd (true≢false (sym (are.among f e) ∙ k))
    by true e true k true o l = refl
    by true e true k false o l = refl
    by false e true k h false l = absurd (true≢false (sym (are.bound f k e) ∙ l))
    by false e true k true true l = refl
    by false e true k false true l = refl
    by false e false k true o l = refl
    by false e false k false o l = refl

-- ---- fids that a replica has elsewhere

pub doubles_found : (copies : Copies) (look : Fid → Copies) (entries : Bindings) (updates : List ResEntry) (twice lost elsewhere : BTreeSet Fid) (counted fids : List Fid) (found : Option Fid) → entries ≡ merged_bindings copies → updates ≡ missing copies → counted ≡ finmap.values entries → fids ≡ finmap.values entries → ((f : Fid) → has_fid twice f ≡ nat_le 2 (times f counted)) → AreFids lost (flat_map (λ u. fids_lost u.lost) updates) → ((f : Fid) → has_fid elsewhere f ≡ (list_any (same_fid f) counted && list_any (is_elsewhere f) (zip copies (look f)))) → found ≡ least fid_cmp (filter (is_in_one twice lost elsewhere) fids) → found ≡ least fid_cmp (filter (is_double copies look) (finmap.values (merged_bindings copies)))
doubles_found copies look entries updates twice lost elsewhere counted fids found is us at_counted at_fids are_twice are_lost are_elsewhere e =
    e
    ∙ ap (λ l. least fid_cmp (filter (is_in_one twice lost elsewhere) l)) (at_fids ∙ ap finmap.values is)
    ∙ ap (least fid_cmp) (filter_alike_in (is_in_one twice lost elsewhere) (is_double copies look) (finmap.values (merged_bindings copies)) (λ f s.
    (λ i. are_twice f i || (are_lost f i || (are_elsewhere f ∙ here f s) i)) ∙ (λ i. nat_le 2 (times f ((at_counted ∙ ap finmap.values is) i)) || (list_any (same_fid f) (flat_map (λ u. fids_lost u.lost) (us i)) || list_any (is_elsewhere f) (zip copies (look f))))))
  where
    here : (f : Fid) → IsIn f (finmap.values (merged_bindings copies)) → (list_any (same_fid f) counted && list_any (is_elsewhere f) (zip copies (look f))) ≡ list_any (is_elsewhere f) (zip copies (look f))
    here f s = ap (λ b. b && list_any (is_elsewhere f) (zip copies (look f))) (in_any (same_fid f) counted f (subst (IsIn f) (sym (at_counted ∙ ap finmap.values is)) s) (same_fid_refl f))

-- the next of the fids
pub least_item : (t : Fid → Bool) (fids : List Fid) (i : ℕ) (d : Fid) (mid end : Option Fid) → i < length fids → mid ≡ fold (least_with fid_cmp) None (filter t (take i fids)) → end ≡ fold (least_with fid_cmp) mid (filter t (get_or fids i d ∷ [])) → end ≡ fold (least_with fid_cmp) None (filter t (take (i + 1) fids))
least_item t fids i d mid end lt first then =
    least_of_two fid_cmp t None mid end (take i fids) (get_or fids i d ∷ []) first then
    ∙ ap (λ l. fold (least_with fid_cmp) None (filter t l)) (sym (one_more fids i (get_or fids i d) (sym (at_index fids i d lt))))
