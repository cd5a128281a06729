-- What lies between two ends: the interests of a client, and those in an object.
use Rattle.std.proofs.Common.{◌≡◌, ℕ, ◌<◌, ◌≤◌, ◌+◌, Bool, true, false, not, cond, ◌&&◌, ◌||◌, ◌==◌, List, [], ◌∷◌, map, ◌++◌, length, take, get_or, inl, inr, ◌⊎◌, arith, refl, ap, sym, ◌∙◌}
use Rattle.std.specs.List.{list_any, filter, AllByRecursion}
use Rattle.std.specs.List.Sorted.{IsStrictlySortedBy}
use Rattle.std.specs.BTreeMap.Range.{IsLtBy, range_contains}
use Rattle.std.specs.BTreeSet.{BTreeSet}
use Rattle.std.specs.declared.ops.Bound.TheVariants.{Included}
use Rattle.std.specs.Ordering.{is_le, is_lt, nat_cmp, ordering_then, eq_by_cmp}
use Rattle.std.specs.declared.cmp.Ordering.{Ordering}
use Rattle.std.specs.declared.cmp.Ordering.TheVariants.{Less, Equal, Greater}
use Rattle.std.specs.Cmp.{tied_itself}
use Rattle.std.proofs.lemmas.Cmp.{nat_cmp_total}
use Rattle.std.proofs.lemmas.Map.Lookups.{exact_unsigned}
use Rattle.std.proofs.lemmas.Bool.{and_from, and_right, or_right, eqb-true, eq-eqb}
use Rattle.std.proofs.lemmas.Bool.Decides.{nat_tests}
use Rattle.std.proofs.lemmas.List.Folds.{list_any-append, list_any_more}
use Rattle.coda_fid.specs.Fid.{fid_cmp, same_fid}
use Rattle.coda_fid.specs.declared.fid.Fid.{Fid}
use Rattle.coda_fid.proofs.Fids.{same_fid_is, same_fid_refl, fids_total, exact_fids}
use Rattle.coda_callback.specs.declared.interest.Interest.{Interest}
use Rattle.coda_callback.specs.declared.interest.Watch.{Watch}
use Rattle.coda_callback.specs.Callbacks.{interest_cmp, interest, names}
use Rattle.coda_callback.specs.Kept.{watch_cmp, watch_of, interest_of, least_of, greatest_of, has, is_watched, IsBounded, AreBounded, is_among, watches_on, fids_among, AreThoseOn}
use Rattle.coda_callback.proofs.Interests.{same_interest, same_interest_is, same_interest_refl, same_either, agree}

-- ---- the ends

at_least : (n : ℕ) → is_le (nat_cmp 0 n) ≡ true
at_least n = grind (arith, nat_tests)

at_most : (m n : ℕ) → n ≤ m → is_lt (nat_cmp m n) ≡ false
at_most m n h = grind (arith, nat_tests)

le_then : (r x : Ordering) → is_le r ≡ true → is_le x ≡ true → is_le (ordering_then r x) ≡ true
le_then Less x h k = refl
le_then Equal x h k = k
le_then Greater x h k = absurd cc

not_lt_then : (r x : Ordering) → is_lt r ≡ false → is_lt x ≡ false → is_lt (ordering_then r x) ≡ false
not_lt_then Less x h k = absurd cc
not_lt_then Equal x h k = k
not_lt_then Greater x h k = refl

abbrev least : Fid
least = record { volume = 0; vnode = 0; uniq = 0 }

abbrev greatest : Fid
greatest = record { volume = 4294967295; vnode = 4294967295; uniq = 4294967295 }

from_least : (f : Fid) → is_le (fid_cmp least f) ≡ true
from_least f = le_then (nat_cmp 0 f.volume) _ (at_least f.volume) (le_then (nat_cmp 0 f.vnode) _ (at_least f.vnode) (at_least f.uniq))

to_greatest : (q : Interest) → IsBounded q → is_lt (fid_cmp greatest q.fid) ≡ false
to_greatest q b = not_lt_then (nat_cmp 4294967295 q.fid.volume) _ (at_most 4294967295 q.fid.volume (omega (arith, b.volume)))
    (not_lt_then (nat_cmp 4294967295 q.fid.vnode) _ (at_most 4294967295 q.fid.vnode (omega (arith, b.vnode))) (at_most 4294967295 q.fid.uniq (omega (arith, b.uniq))))

other : (m n : ℕ) → (nat_cmp m n ≡ Less) ⊎ (nat_cmp m n ≡ Greater) → (n == m) ≡ false
other m n (inl e) = agree (n == m) false (λ s. let tied : nat_cmp m n ≡ Equal = ap (nat_cmp m) (eqb-true n m s) ∙ tied_itself nat_cmp_total m in absurd cc) (λ s. absurd cc)
other m n (inr e) = agree (n == m) false (λ s. let tied : nat_cmp m n ≡ Equal = ap (nat_cmp m) (eqb-true n m s) ∙ tied_itself nat_cmp_total m in absurd cc) (λ s. absurd cc)

-- the range of a client's interests has those of the client
pub in_client : (client : ℕ) (q : Interest) → IsBounded q → range_contains interest_cmp (Included (least_of client)) (Included (greatest_of client)) q ≡ (q.client == client)
in_client client q b =
    elim (nat_cmp client q.client) as (λ r. nat_cmp client q.client ≡ r → (is_le (ordering_then r (fid_cmp least q.fid)) && not (is_lt (ordering_then r (fid_cmp greatest q.fid)))) ≡ (q.client == client)) [
      | Less ↦ λ e. sym (other client q.client (inl e))
      | Equal ↦ λ e. and_from (is_le (fid_cmp least q.fid)) (not (is_lt (fid_cmp greatest q.fid))) (from_least q.fid) (ap not (to_greatest q b)) ∙ sym (eq-eqb q.client client (sym (exact_unsigned client q.client e)))
      | Greater ↦ λ e. sym (other client q.client (inr e))
    ] refl

-- ---- the interests of a client

-- tests that agree on what is there leave the same
filter_agrees : (t u : Interest → Bool) (keys : List Interest) → ((q : Interest) → is_among keys q ≡ true → t q ≡ u q) → filter t keys ≡ filter u keys
filter_agrees t u [] h = refl
filter_agrees t u (x ∷ xs) h =
    let rest = filter_agrees t u xs (λ q is. h q (or_right (same_interest q x) (is_among xs q) is)) in
    let here = h x (ap (λ b. b || is_among xs x) (same_interest_refl x)) in
    (λ i. cond (here i) (x ∷ rest i) (rest i))

pub of_client : (s : BTreeSet Interest) (client : ℕ) → AreBounded (has s) → filter (range_contains interest_cmp (Included (least_of client)) (Included (greatest_of client))) s.keys ≡ filter (λ (i : Interest). i.client == client) s.keys
of_client s client bounded = filter_agrees _ (λ (i : Interest). i.client == client) s.keys (λ q is. in_client client q (bounded q is))

-- interests of one client are one where their fids are
one_test : (client : ℕ) (fid : Fid) (i : Interest) → i.client ≡ client → same_fid i.fid fid ≡ same_interest (interest client fid) i
one_test client fid i mine = agree (same_fid i.fid fid) (same_interest (interest client fid) i)
    (λ e. let same = same_fid_is i.fid fid e in ap (λ (j : Interest). same_interest j i) (λ k. interest (sym mine k) (sym same k)) ∙ same_interest_refl i)
    (λ e. ap (λ (j : Interest). same_fid j.fid fid) (sym (same_interest_is (interest client fid) i e)) ∙ same_fid_refl fid)

-- and those of different clients aren't
other_client : (client : ℕ) (fid : Fid) (i : Interest) → (i.client == client) ≡ false → same_interest (interest client fid) i ≡ false
other_client client fid i e = agree (same_interest (interest client fid) i) false
    (λ f. sym e ∙ eq-eqb i.client client (ap (λ (j : Interest). j.client) (sym (same_interest_is (interest client fid) i f)))) (λ f. absurd cc)

-- a client's objects are those it has an interest in
pub mine_named : (client : ℕ) (fid : Fid) (is : List Interest) → names (fids_among is client) fid ≡ is_among is (interest client fid)
mine_named client fid [] = refl
mine_named client fid (i ∷ is) =
    elim (i.client == client) as (λ b. (i.client == client) ≡ b → names (map (λ (j : Interest). j.fid) (cond b (i ∷ filter (λ j. j.client == client) is) (filter (λ j. j.client == client) is))) fid ≡ (same_interest (interest client fid) i || is_among is (interest client fid))) [
      | true ↦ λ e. ap (λ b. same_fid i.fid fid || b) (mine_named client fid is) ∙ ap (λ b. b || is_among is (interest client fid)) (one_test client fid i (eqb-true i.client client e))
      | false ↦ λ e. mine_named client fid is ∙ ap (λ b. b || is_among is (interest client fid)) (sym (other_client client fid i e))
    ] refl

-- of one client's interests the one that comes first has the lesser fid
fid_before : (i j : Interest) → i.client ≡ j.client → interest_cmp i j ≡ Less → fid_cmp i.fid j.fid ≡ Less
fid_before i j same before = sym (ap (λ r. ordering_then r (fid_cmp i.fid j.fid)) (ap (nat_cmp i.client) (sym same) ∙ tied_itself nat_cmp_total i.client)) ∙ before

-- the fids of one client's interests ascend
below_mine : (client : ℕ) (i : Interest) (is : List Interest) → i.client ≡ client → AllByRecursion (IsLtBy interest_cmp i) is → AllByRecursion (IsLtBy fid_cmp i.fid) (fids_among is client)
below_mine client i [] same below = below
below_mine client i (j ∷ is) same below =
    elim (j.client == client) as (λ b. (j.client == client) ≡ b → AllByRecursion (IsLtBy fid_cmp i.fid) (map (λ (j : Interest). j.fid) (cond b (j ∷ filter (λ j. j.client == client) is) (filter (λ j. j.client == client) is)))) [
      | true ↦ λ e. (fid_before i j (same ∙ sym (eqb-true j.client client e)) below.0, below_mine client i is same below.1)
      | false ↦ λ _. below_mine client i is same below.1
    ] refl

pub mine_ascend : (client : ℕ) (is : List Interest) → IsStrictlySortedBy interest_cmp is → IsStrictlySortedBy fid_cmp (fids_among is client)
unfolding IsStrictlySortedBy
mine_ascend client [] s = s
mine_ascend client (i ∷ is) s =
    elim (i.client == client) as (λ b. (i.client == client) ≡ b → IsStrictlySortedBy fid_cmp (map (λ (j : Interest). j.fid) (cond b (i ∷ filter (λ j. j.client == client) is) (filter (λ j. j.client == client) is)))) [
      | true ↦ λ e. (below_mine client i is (eqb-true i.client client e) s.0, mine_ascend client is s.1)
      | false ↦ λ _. mine_ascend client is s.1
    ] refl

-- ---- the interests in an object

apart_fids : (f g : Fid) → (fid_cmp f g ≡ Less) ⊎ (fid_cmp f g ≡ Greater) → same_fid f g ≡ false
apart_fids f g (inl e) = agree (same_fid f g) false (λ s. let tied : fid_cmp f g ≡ Equal = ap (fid_cmp f) (sym (same_fid_is f g s)) ∙ tied_itself fids_total f in absurd cc) (λ s. absurd cc)
apart_fids f g (inr e) = agree (same_fid f g) false (λ s. let tied : fid_cmp f g ≡ Equal = ap (fid_cmp f) (sym (same_fid_is f g s)) ∙ tied_itself fids_total f in absurd cc) (λ s. absurd cc)

abbrev object_range : Fid → Watch → Bool
object_range fid w = range_contains watch_cmp (Included (watch_of (interest 0 fid))) (Included (watch_of (interest 255 fid))) w

in_object : (fid : Fid) (w : Watch) → w.client < 256 → object_range fid w ≡ same_fid fid w.fid
in_object fid w small =
    elim (fid_cmp fid w.fid) as (λ r. fid_cmp fid w.fid ≡ r → (is_le (ordering_then r (nat_cmp 0 w.client)) && not (is_lt (ordering_then r (nat_cmp 255 w.client)))) ≡ same_fid fid w.fid) [
      | Less ↦ λ e. sym (apart_fids fid w.fid (inl e))
      | Equal ↦ λ e. and_from (is_le (nat_cmp 0 w.client)) (not (is_lt (nat_cmp 255 w.client))) (at_least w.client) (ap not (at_most 255 w.client (omega arith))) ∙ sym (ap (same_fid fid) (sym (exact_fids fid w.fid e)) ∙ same_fid_refl fid)
      | Greater ↦ λ e. sym (apart_fids fid w.fid (inr e))
    ] refl

-- an interest is among those that pass, as they are kept by object, where it is there and passes
passing : (t : Watch → Bool) (ws : List Watch) (q : Interest) → is_among (map interest_of (filter t ws)) q ≡ (list_any (λ w. same_interest q (interest_of w)) ws && t (watch_of q))
passing t [] q = refl
passing t (w ∷ ws) q =
    elim (t w) as (λ b. t w ≡ b → is_among (map interest_of (cond b (w ∷ filter t ws) (filter t ws))) q ≡ ((same_interest q (interest_of w) || list_any (λ w. same_interest q (interest_of w)) ws) && t (watch_of q))) [
      | true ↦ λ e. elim (same_interest q (interest_of w)) as (λ b. same_interest q (interest_of w) ≡ b → (b || is_among (map interest_of (filter t ws)) q) ≡ ((b || list_any (λ w. same_interest q (interest_of w)) ws) && t (watch_of q))) [
        | true ↦ λ s. sym (at s ∙ e)
        | false ↦ λ _. passing t ws q
      ] refl
      | false ↦ λ e. elim (same_interest q (interest_of w)) as (λ b. same_interest q (interest_of w) ≡ b → is_among (map interest_of (filter t ws)) q ≡ ((b || list_any (λ w. same_interest q (interest_of w)) ws) && t (watch_of q))) [
        | true ↦ λ s. passing t ws q ∙ and_right _ (t (watch_of q)) (at s ∙ e) ∙ sym (at s ∙ e)
        | false ↦ λ _. passing t ws q
      ] refl
    ] refl
  where
    at : same_interest q (interest_of w) ≡ true → t (watch_of q) ≡ t w
    at s = ap (λ (x : Interest). t (watch_of x)) (same_interest_is q (interest_of w) s)

watched_is : (ws : List Watch) (q : Interest) → list_any (λ w. same_interest q (interest_of w)) ws ≡ list_any (eq_by_cmp watch_cmp (watch_of q)) ws
watched_is [] q = refl
watched_is (w ∷ ws) q = (λ i. sym (same_either q (interest_of w)) i || watched_is ws q i)

among_on : (s : BTreeSet Watch) (fid : Fid) (q : Interest) → AreBounded (is_watched s) → is_among (map interest_of (watches_on s fid)) q ≡ (is_watched s q && same_fid fid q.fid)
among_on s fid q bounded =
    passing (object_range fid) s.keys q ∙ ap (λ b. b && object_range fid (watch_of q)) (watched_is s.keys q)
    ∙ elim (is_watched s q) as (λ b. is_watched s q ≡ b → (b && object_range fid (watch_of q)) ≡ (b && same_fid fid q.fid)) [
      | true ↦ λ is. in_object fid (watch_of q) (bounded q is).client
      | false ↦ λ _. refl
    ] refl

bool_more : (c n s : Bool) → ((c && n) || (c && s)) ≡ (c && (n || s))
bool_more true n s = refl
bool_more false n s = refl

-- the interests in one more object
pub on_more : (s : BTreeSet Watch) (fids : List Fid) (at : ℕ) (d : Fid) (found more : List Interest) → AreBounded (is_watched s) → at < length fids → AreThoseOn (is_watched s) (take at fids) found
    → more ≡ found ++ map interest_of (watches_on s (get_or fids at d)) → AreThoseOn (is_watched s) (take (at + 1) fids) more
on_more s fids at d found more bounded lt those is q =
    let x = get_or fids at d in
    let c = is_watched s q in
    ap (λ (l : List Interest). is_among l q) is ∙ list_any-append (same_interest q) found (map interest_of (watches_on s x)) ∙ ap (λ b. b || is_among (map interest_of (watches_on s x)) q) (those q)
    ∙ ap (λ b. (c && names (take at fids) q.fid) || b) (among_on s x q bounded) ∙ bool_more c (names (take at fids) q.fid) (same_fid x q.fid)
    ∙ ap (λ b. c && b) (sym (list_any_more (λ f. same_fid f q.fid) fids at d lt))

-- ---- the range of a client, as it was asked for
abbrev from_to : BTreeSet Interest → Interest → Interest → List Interest
from_to s start end = filter (range_contains interest_cmp (Included start) (Included end)) s.keys

pub range_is : (s : BTreeSet Interest) (client : ℕ) (start end : Interest) (found : List Interest) → start ≡ least_of client → end ≡ greatest_of client → found ≡ from_to s start end → AreBounded (has s) → found ≡ filter (λ (i : Interest). i.client == client) s.keys
range_is s client start end found low high is bounded = is ∙ (λ i. from_to s (low i) (high i)) ∙ of_client s client bounded

pub none_of : (s : BTreeSet Interest) (client : ℕ) (found : List Interest) → found ≡ filter (λ (i : Interest). i.client == client) s.keys → found ≡ [] → (fid : Fid) → has s (interest client fid) ≡ false
none_of s client found is none fid = sym (mine_named client fid s.keys) ∙ ap (λ (l : List Interest). names (map (λ (i : Interest). i.fid) l) fid) (sym is ∙ none)
