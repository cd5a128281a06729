-- The last decisions of clients, one decision more.
use Rattle.std.proofs.Common.{◌≡◌, ◌<◌, ℕ, ◌+◌, zero, suc, arith, Bool, true, false, cond, List, [], ◌∷◌, ◌++◌, Option, Some, None, refl, sym, ap, ◌∙◌, subst, append_assoc, length, get_or, take}
use Rattle.std.specs.Prelude.{◌==◌, option_to_list}
use Rattle.std.specs.List.{filter, filter_map, fold, range_with_len, cons_option}
use Rattle.std.specs.Ordering.{nat_cmp, is_eq}
use Rattle.std.specs.Cmp.{Equal-is}
use Rattle.std.specs.Map.{lookup}
use Rattle.std.specs.BTreeMap.{BTreeMap, get, Updates, is_at}
use Rattle.std.proofs.Math.Seq.{take-suc}
use Rattle.std.proofs.lemmas.Bool.{eqb-true}
use Rattle.std.proofs.lemmas.Cmp.{eq_by_cmp_equiv, nat_cmp_total}
use Rattle.std.proofs.lemmas.List.Elements.{filter-append, filter_map-append}
use Rattle.std.proofs.lemmas.List.Sums.{fold-append}
use Rattle.std.proofs.lemmas.Map.Lookups.{exact_unsigned}
use Rattle.coda_record.specs.declared.last.Last.{Last}
use Rattle.coda_resolve.specs.Lasts.{is_later, later, is_of, latest, clients, AreLatest}
use Rattle.coda_resolve.proofs.Lists.{both_ways}

latest_more : (lasts : List Last) (last : Last) (c : ℕ) → latest (lasts ++ last ∷ []) c ≡ cond (is_of c last) (later (latest lasts c) last) (latest lasts c)
latest_more lasts last c = ap (fold later None) (filter-append (is_of c) lasts (last ∷ [])) ∙ fold-append later None (filter (is_of c) lasts) (filter (is_of c) (last ∷ [])) ∙ by (is_of c last)
  where
    by : (b : Bool) → fold later (latest lasts c) (cond b (last ∷ []) []) ≡ cond b (later (latest lasts c) last) (latest lasts c)
    by true = refl
    by false = refl

pub same_number : (n : ℕ) → (n == n) ≡ true
same_number n = by (n == n) refl
  where
    by : (b : Bool) → (n == n) ≡ b → (n == n) ≡ true
    by true e = e
    by false e = absurd (grind arith)

same_client : (last : Last) (c : ℕ) → is_eq (nat_cmp last.client c) ≡ is_of c last
same_client last c = both_ways (is_eq (nat_cmp last.client c)) (is_of c last)
    (λ e. subst (λ x. (last.client == x) ≡ true) (exact_unsigned last.client c ((Equal-is (nat_cmp last.client c)).0 e)) (same_number last.client))
    (λ e. subst (λ x. is_eq (nat_cmp last.client x) ≡ true) (eqb-true last.client c e) ((eq_by_cmp_equiv nat_cmp_total).refl last.client))

-- a decision that isn't later
pub known_stays : (table : BTreeMap ℕ Last) (lasts : List Last) (last : Last) → is_later (get nat_cmp table last.client) last ≡ false → AreLatest table lasts → AreLatest table (lasts ++ last ∷ [])
known_stays table lasts last e are c = are c ∙ sym (latest_more lasts last c ∙ by (is_of c last) refl)
  where
    by : (b : Bool) → is_of c last ≡ b → cond b (later (latest lasts c) last) (latest lasts c) ≡ latest lasts c
    by true is = ap (λ b. cond b (Some last) (latest lasts c)) (ap (λ o. is_later o last) (sym (ap (get nat_cmp table) (eqb-true last.client c is) ∙ are c)) ∙ e)
    by false is = refl

-- one that is
pub later_comes : (table new : BTreeMap ℕ Last) (lasts : List Last) (last : Last) → is_later (get nat_cmp table last.client) last ≡ true → Updates nat_cmp table new last.client (Some last) → AreLatest table lasts → AreLatest new (lasts ++ last ∷ [])
later_comes table new lasts last e updates are c = updates.0 c ∙ (λ i. cond (same_client last c i) (Some last) (are c i)) ∙ sym (latest_more lasts last c ∙ by (is_of c last) refl)
  where
    by : (b : Bool) → is_of c last ≡ b → cond b (later (latest lasts c) last) (latest lasts c) ≡ cond b (Some last) (latest lasts c)
    by true is = ap (λ b. cond b (Some last) (latest lasts c)) (ap (λ o. is_later o last) (sym (ap (get nat_cmp table) (eqb-true last.client c is) ∙ are c)) ∙ e)
    by false is = refl

pub none_known : (table : BTreeMap ℕ Last) → table.entries ≡ [] → AreLatest table []
none_known table e c = ap (λ es. lookup (is_at (nat_cmp c)) es) e

range_last : (a b n : ℕ) → a + n ≡ b → range_with_len a (suc n) ≡ range_with_len a n ++ b ∷ []
range_last a b zero is = let e : a ≡ b = omega arith in λ i. e i ∷ []
range_last a b (suc n) is = let e : a + 1 + n ≡ b = omega arith in λ i. a ∷ range_last (a + 1) b n e i

one_item : (o : Option Last) → cons_option o [] ≡ option_to_list o
one_item None = refl
one_item (Some last) = refl

pub client_more : (pick : ℕ → Option Last) (n : ℕ) (old new : List Last) (o : Option Last) → o ≡ pick n → old ≡ filter_map pick (range_with_len 0 n) → new ≡ old ++ option_to_list o → new ≡ filter_map pick (range_with_len 0 (n + 1))
client_more pick n old new o is sofar added =
    added
    ∙ (λ i. sofar i ++ (ap option_to_list is ∙ sym (one_item (pick n))) i)
    ∙ sym (filter_map-append pick (range_with_len 0 n) (n ∷ []))
    ∙ ap (filter_map pick) (sym (range_last 0 n n (omega arith)) ∙ (let e : suc n ≡ n + 1 = omega arith in ap (range_with_len 0) e))

pub all_clients : (pick : ℕ → Option Last) (n : ℕ) → n ≡ 256 → filter_map pick (range_with_len 0 n) ≡ filter_map pick clients
unfolding clients
all_clients pick n e = ap (λ m. filter_map pick (range_with_len 0 m)) e

-- ---- lists of decisions

front_at : {X : Type 0} (xs : List X) (i : ℕ) (d : X) → i < length xs → take (i + 1) xs ≡ take i xs ++ get_or xs i d ∷ []
front_at xs i d lt = let next : i + 1 ≡ suc i = omega arith in ap (λ n. take n xs) next ∙ take-suc xs i d lt

pub lasts_more : (more : List Last) (i : ℕ) (d : Last) (now new : BTreeMap ℕ Last) → i < length more → ((lasts : List Last) → AreLatest now lasts → AreLatest new (lasts ++ get_or more i d ∷ [])) → (lasts : List Last) → AreLatest now (lasts ++ take i more) → AreLatest new (lasts ++ take (i + 1) more)
lasts_more more i d now new lt step lasts are = subst (AreLatest new) (append_assoc lasts (take i more) (get_or more i d ∷ []) ∙ ap (λ l. lasts ++ l) (sym (front_at more i d lt))) (step (lasts ++ take i more) are)
