-- Sets of updates by server and number.
use Rattle.std.proofs.Common.{◌≡◌, ℕ, ◌+◌, Bool, true, false, cond, Some, slice_get, List, [], ◌∷◌, ◌++◌, take, Option, refl, sym, ap, ◌∙◌, append_assoc, ◌&&◌, ◌||◌}
use Rattle.std.specs.Prelude.{◌==◌}
use Rattle.std.specs.List.{list_any, flat_map}
use Rattle.std.specs.Ordering.{nat_cmp, ordering_then, is_eq}
use Rattle.std.specs.Cmp.{Equal-is}
use Rattle.std.specs.declared.cmp.Ordering.{Ordering}
use Rattle.std.specs.declared.cmp.Ordering.TheVariants.{Less, Equal, Greater}
use Rattle.std.specs.BTreeSet.{BTreeSet, Updates}
use Rattle.std.proofs.lemmas.Bool.{eqb-true, eq-eqb}
use Rattle.std.proofs.lemmas.Cmp.{nat_cmp_total, eq_by_cmp_equiv}
use Rattle.std.proofs.lemmas.Map.Lookups.{exact_unsigned}
use Rattle.coda_reslog.specs.declared.entry.ResEntry.{ResEntry}
use Rattle.coda_reslog.specs.declared.change.Held.{Held}
use Rattle.coda_resolve.specs.Copies.{Copies, log_of}
use Rattle.coda_resolve.specs.declared.stamps.Stamp.{Stamp}
use Rattle.coda_resolve.specs.Stamps.{stamp_cmp, is_stamped, has_stamp, AreStamps}
use Rattle.coda_resolve.proofs.Lists.{both_ways}
use Rattle.coda_resolve.proofs.MergedNames.{any_append}
use Rattle.coda_resolve.proofs.Collected.{one_more}

eq_then : (r s : Ordering) → is_eq (ordering_then r s) ≡ (is_eq r && is_eq s)
eq_then Less s = refl
eq_then Equal s = refl
eq_then Greater s = refl

eq_nat : (x y : ℕ) → is_eq (nat_cmp x y) ≡ (x == y)
eq_nat x y = both_ways (is_eq (nat_cmp x y)) (x == y)
    (λ e. eq-eqb x y (exact_unsigned x y ((Equal-is (nat_cmp x y)).0 e)))
    (λ e. ap (λ z. is_eq (nat_cmp x z)) (sym (eqb-true x y e)) ∙ (eq_by_cmp_equiv nat_cmp_total).refl x)

same_stamp : (a b : Stamp) → is_eq (stamp_cmp a b) ≡ ((a.origin == b.origin) && (a.seq == b.seq))
same_stamp a b = eq_then (nat_cmp a.origin b.origin) (nat_cmp a.seq b.seq) ∙ ap (λ t. t && is_eq (nat_cmp a.seq b.seq)) (eq_nat a.origin b.origin) ∙ ap (λ t. (a.origin == b.origin) && t) (eq_nat a.seq b.seq)

or_false : (b : Bool) → (b || false) ≡ b
or_false true = refl
or_false false = refl

cond_or : (b c : Bool) → cond b true c ≡ (c || b)
cond_or true true = refl
cond_or true false = refl
cond_or false true = refl
cond_or false false = refl

-- one update more
pub stamp_added : (old new : BTreeSet Stamp) (u : ResEntry) (stamp : Stamp) → stamp.origin ≡ u.origin → stamp.seq ≡ u.seq → Updates stamp_cmp old new stamp true → (updates : List ResEntry) → AreStamps old updates → AreStamps new (updates ++ u ∷ [])
stamp_added old new u stamp at_origin at_seq added updates are origin seq =
    added.0 (record { origin = origin; seq = seq })
    ∙ ap (λ b. cond b true (has_stamp old origin seq)) (same_stamp stamp (record { origin = origin; seq = seq }) ∙ (λ i. (at_origin i == origin) && (at_seq i == seq)))
    ∙ cond_or (is_stamped origin seq u) (has_stamp old origin seq)
    ∙ ap (λ b. b || is_stamped origin seq u) (are origin seq)
    ∙ ap (λ b. list_any (is_stamped origin seq) updates || b) (sym (or_false (is_stamped origin seq u)))
    ∙ sym (any_append (is_stamped origin seq) updates (u ∷ []))

-- one entry of a log more
pub one_more_stamped : (old now new : BTreeSet Stamp) (log : List ResEntry) (index : ℕ) (u : ResEntry) → Some u ≡ slice_get log index → ((updates : List ResEntry) → AreStamps old updates → AreStamps now (updates ++ take index log)) → ((updates : List ResEntry) → AreStamps now updates → AreStamps new (updates ++ u ∷ [])) → (updates : List ResEntry) → AreStamps old updates → AreStamps new (updates ++ take (index + 1) log)
one_more_stamped old now new log index u at sofar adds updates are origin seq =
    adds (updates ++ take index log) (sofar updates are) origin seq
    ∙ ap (list_any (is_stamped origin seq)) (append_assoc updates (take index log) (u ∷ []) ∙ ap (λ more. updates ++ more) (sym (one_more log index u at)))

-- a new set is that of no updates
pub none_stamped : (stamps : BTreeSet Stamp) → stamps.keys ≡ [] → AreStamps stamps []
none_stamped stamps e origin seq = ap (λ keys. list_any (λ k. is_eq (stamp_cmp (record { origin = origin; seq = seq }) k)) keys) e

-- the first copy's log, and then the others'
pub copies_stamped : (old mid new : BTreeSet Stamp) (copies : Copies) (first : Option Held) (rest : Copies) → copies ≡ first ∷ rest → ((updates : List ResEntry) → AreStamps old updates → AreStamps mid (updates ++ log_of first)) → ((updates : List ResEntry) → AreStamps mid updates → AreStamps new (updates ++ flat_map log_of rest)) → (updates : List ResEntry) → AreStamps old updates → AreStamps new (updates ++ flat_map log_of copies)
copies_stamped old mid new copies first rest is one more updates are origin seq =
    more (updates ++ log_of first) (one updates are) origin seq
    ∙ ap (list_any (is_stamped origin seq)) (append_assoc updates (log_of first) (flat_map log_of rest) ∙ ap (λ cs. updates ++ flat_map log_of cs) (sym is))
