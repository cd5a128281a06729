-- The sets that contracts see, from who is in them.
use Rattle.std.proofs.Common.{◌≡◌, ℕ, Bool, true, false, not, cond, ◌&&◌, ◌||◌, ◌==◌, List, Option, Some, None, is_some, IfSome, IfNone, IsTrue, ◌↔◌, refl, ap, sym, subst, ◌∙◌}
use Rattle.std.specs.List.Sorted.{IsStrictlySortedBy}
use Rattle.std.specs.FinSet as set
use Rattle.std.specs.BTreeSet.{BTreeSet}
use Rattle.std.proofs.lemmas.Bool.{and_parts, and_left, not-true, both_ways}
use Rattle.coda_fid.specs.Fid.{fid_cmp}
use Rattle.coda_fid.specs.declared.fid.Fid.{Fid}
use Rattle.coda_callback.specs.declared.interest.Interest.{Interest}
use Rattle.coda_callback.specs.declared.interest.Watch.{Watch}
use Rattle.coda_callback.specs.Callbacks.{interest_cmp, Interests, interest, names, IsOutbox}
use Rattle.coda_callback.specs.Kept.{has, is_watched, IsBounded, AreBounded, AreKept, is_among, IsAmong, AreThoseOn, fids_among, GainsOne, LosesOne, LosesClient, Gains, Loses, IsSame}
use Rattle.coda_callback.proofs.Interests.{interests_total, exact_interests, alike, same_interest, same_interest_is, same_swap}
use Rattle.coda_callback.proofs.Ranges.{mine_named, mine_ascend}

-- the set of the keys
abbrev pub set_of : List Interest → Interests
set_of keys = set.from_list keys

pub there : (keys : List Interest) (q : Interest) → set.contains (set_of keys) q ≡ is_among keys q
there keys q = set.contains-from_list interests_total keys q

either : (b c : Bool) → cond b true c ≡ (b || c)
either true c = refl
either false c = refl

neither : (b c : Bool) → cond b false c ≡ (not b && c)
neither true c = refl
neither false c = refl

pub put_in : (s n : BTreeSet Interest) (k : Interest) → GainsOne (has s) (has n) k → set_of n.keys ≡ set.insert (set_of s.keys) k
put_in s n k gains = set.same_set interests_total exact_interests _ _ (λ q.
    there n.keys q ∙ gains q ∙ either (same_interest k q) (has s q) ∙ ap (λ b. b || has s q) (same_swap k q)
    ∙ ap (λ b. same_interest q k || b) (sym (there s.keys q)) ∙ sym (set.contains-insert interests_total (set_of s.keys) k q))

pub took_out : (s n : BTreeSet Interest) (k : Interest) → LosesOne (has s) (has n) k → set_of n.keys ≡ set.remove (set_of s.keys) k
took_out s n k loses = set.same_set interests_total exact_interests _ _ (λ q.
    there n.keys q ∙ loses q ∙ neither (same_interest k q) (has s q) ∙ ap (λ b. not b && has s q) (same_swap k q)
    ∙ ap (λ b. not (same_interest q k) && b) (sym (there s.keys q)) ∙ sym (set.contains-remove interests_total (set_of s.keys) k q))

pub forgot : (s n : BTreeSet Interest) (client : ℕ) → LosesClient (has s) (has n) client → set_of n.keys ≡ set.retain (set_of s.keys) (λ i. not (i.client == client))
forgot s n client loses = set.same_set interests_total exact_interests _ _ (λ q.
    there n.keys q ∙ loses q ∙ ap (λ b. b && not (q.client == client)) (sym (there s.keys q)) ∙ sym (set.contains-retain (set_of s.keys) (λ i. not (i.client == client)) q (alike (λ i. not (i.client == client)) q)))

pub same_keys : (s n : BTreeSet Interest) → IsSame (has n) (has s) → set_of n.keys ≡ set_of s.keys
same_keys s n same = set.same_set interests_total exact_interests _ _ (λ q. there n.keys q ∙ same q ∙ sym (there s.keys q))

-- what a client has in a sorted list of interests is its outbox
pub outbox_kept : (promises : Interests) (keys : List Interest) (client : ℕ) (fids : List Fid) → IsStrictlySortedBy interest_cmp keys → fids ≡ fids_among keys client → IsOutbox (record { promises = promises; outboxes = set_of keys }) client fids
outbox_kept promises keys client fids ordered are = record {
  increasing = subst (IsStrictlySortedBy fid_cmp) (sym are) (mine_ascend client keys ordered);
  exact = λ fid. ap (λ (l : List Fid). names l fid) are ∙ mine_named client fid keys ∙ sym (there keys (interest client fid));
}

-- ---- promises that are broken

bool_unbroken : (c n : Bool) → (c && not (c && n)) ≡ (c && not n)
bool_unbroken true n = refl
bool_unbroken false n = refl

module _ (p w p' w' : BTreeSet Interest) (fids : List Fid) (moved : List Interest) (those : AreThoseOn (has p) fids moved) where
  pub broken_promises : Loses (has p) (has p') moved → set_of p'.keys ≡ set.retain (set_of p.keys) (λ i. not (names fids i.fid))
  broken_promises loses = set.same_set interests_total exact_interests _ _ (λ q.
      there p'.keys q ∙ loses q ∙ ap (λ b. has p q && not b) (those q) ∙ bool_unbroken (has p q) (names fids q.fid)
      ∙ ap (λ b. b && not (names fids q.fid)) (sym (there p.keys q)) ∙ sym (set.contains-retain (set_of p.keys) (λ i. not (names fids i.fid)) q (alike (λ i. not (names fids i.fid)) q)))

  pub broken_outboxes : Gains (has w) (has w') moved → set_of w'.keys ≡ set.union (set_of w.keys) (set.retain (set_of p.keys) (λ i. names fids i.fid))
  broken_outboxes gains = set.same_set interests_total exact_interests _ _ (λ q.
      there w'.keys q ∙ gains q ∙ ap (λ b. has w q || b) (those q) ∙ (λ i. sym (there w.keys q) i || (sym (there p.keys q) i && names fids q.fid))
      ∙ ap (λ b. set.contains (set_of w.keys) q || b) (sym (set.contains-retain (set_of p.keys) (λ i. names fids i.fid) q (alike (λ i. names fids i.fid) q)))
      ∙ sym (set.contains-union interests_total (set_of w.keys) (set.retain (set_of p.keys) (λ i. names fids i.fid)) q))

-- ---- how the sets are kept

module _ (p : BTreeSet Interest) (o : BTreeSet Watch) (w : BTreeSet Interest) (kept : AreKept p o w) where
  -- what is watched is those in the objects that are promised
  pub promised_on : (fids : List Fid) (moved : List Interest) → AreThoseOn (is_watched o) fids moved → AreThoseOn (has p) fids moved
  promised_on fids moved those q = those q ∙ ap (λ b. b && names fids q.fid) (kept.mirrored q)

  pub watches_bounded : AreBounded (is_watched o)
  watches_bounded q is = kept.bounded q (sym (kept.mirrored q) ∙ is)

  -- what moves doesn't wait yet
  pub fresh_word : (fids : List Fid) (moved : List Interest) → AreThoseOn (is_watched o) fids moved → (q : Interest) → IsAmong moved q → has w q ≡ false
  fresh_word fids moved those q is = kept.apart q (and_parts _ (names fids q.fid) (sym (promised_on fids moved those q) ∙ is)).0

  pub kept_broken : (p' : BTreeSet Interest) (o' : BTreeSet Watch) (w' : BTreeSet Interest) (fids : List Fid) (moved : List Interest) → AreThoseOn (is_watched o) fids moved → Loses (has p) (has p') moved → Loses (is_watched o) (is_watched o') moved → Gains (has w) (has w') moved → AreKept p' o' w'
  kept_broken p' o' w' fids moved those loses watches gains = record {
    bounded = λ q is. kept.bounded q (and_parts (has p q) _ (sym (loses q) ∙ is)).0;
    bounded_words = λ q is. elim (has w q) as (λ b. has w q ≡ b → (b || is_among moved q) ≡ true → IsBounded q) [
      | true ↦ λ e _. kept.bounded_words q e
      | false ↦ λ _ h. kept.bounded q (and_parts _ (names fids q.fid) (sym (promised_on fids moved those q) ∙ h)).0
    ] refl (sym (gains q) ∙ is);
    mirrored = λ q. watches q ∙ ap (λ b. b && not (is_among moved q)) (kept.mirrored q) ∙ sym (loses q);
    apart = λ q is.
        let parts = and_parts (has p q) (not (is_among moved q)) (sym (loses q) ∙ is) in
        gains q ∙ (λ i. kept.apart q parts.0 i || not-true (is_among moved q) parts.1 i);
  }

  pub kept_promise : (p' : BTreeSet Interest) (o' : BTreeSet Watch) (w' : BTreeSet Interest) (k : Interest) → IsBounded k → GainsOne (has p) (has p') k → IsSame (is_watched o') (has p') → LosesOne (has w) (has w') k → AreKept p' o' w'
  kept_promise p' o' w' k small gains same loses = record {
    bounded = λ q is. elim (same_interest k q) as (λ b. same_interest k q ≡ b → cond b true (has p q) ≡ true → IsBounded q) [
      | true ↦ λ e _. subst IsBounded (same_interest_is k q e) small
      | false ↦ λ _ was. kept.bounded q was
    ] refl (sym (gains q) ∙ is);
    bounded_words = λ q is. elim (same_interest k q) as (λ b. cond b false (has w q) ≡ true → IsBounded q) [
      | true ↦ λ h. absurd cc
      | false ↦ λ was. kept.bounded_words q was
    ] (sym (loses q) ∙ is);
    mirrored = same;
    apart = λ q is. loses q ∙ elim (same_interest k q) as (λ b. cond b true (has p q) ≡ true → cond b false (has w q) ≡ false) [
      | true ↦ λ _. refl
      | false ↦ λ was. kept.apart q was
    ] (sym (gains q) ∙ is);
  }

  -- memory was wanted: the promises are as they were, and so is what waits
  pub kept_same : (p' : BTreeSet Interest) (o' : BTreeSet Watch) (w' : BTreeSet Interest) → IsSame (has p') (has p) → IsSame (is_watched o') (has p') → IsSame (has w') (has w) → AreKept p' o' w'
  kept_same p' o' w' same watched words = record {
    bounded = λ q is. kept.bounded q (sym (same q) ∙ is);
    bounded_words = λ q is. kept.bounded_words q (sym (words q) ∙ is);
    mirrored = watched;
    apart = λ q is. words q ∙ kept.apart q (sym (same q) ∙ is);
  }

  -- all of a client were taken out of what waits
  pub kept_collected : (w' : BTreeSet Interest) (client : ℕ) → LosesClient (has w) (has w') client → AreKept p o w'
  kept_collected w' client loses = record {
    bounded = kept.bounded;
    bounded_words = λ q is. kept.bounded_words q (and_parts (has w q) _ (sym (loses q) ∙ is)).0;
    mirrored = kept.mirrored;
    apart = λ q is. loses q ∙ and_left (has w q) (not (q.client == client)) (kept.apart q is);
  }

  -- and out of the promises too
  pub kept_dropped : (p' : BTreeSet Interest) (o' : BTreeSet Watch) (w' : BTreeSet Interest) (client : ℕ) → LosesClient (has p) (has p') client → IsSame (is_watched o') (has p') → LosesClient (has w) (has w') client → AreKept p' o' w'
  kept_dropped p' o' w' client fewer watched loses = record {
    bounded = λ q is. kept.bounded q (and_parts (has p q) _ (sym (fewer q) ∙ is)).0;
    bounded_words = λ q is. kept.bounded_words q (and_parts (has w q) _ (sym (loses q) ∙ is)).0;
    mirrored = watched;
    apart = λ q is. loses q ∙ and_left (has w q) (not (q.client == client)) (kept.apart q (and_parts (has p q) _ (sym (fewer q) ∙ is)).0);
  }

-- whether a client has a first interest says whether it has any
pub tells : (s : BTreeSet Interest) (client : ℕ) (first : Option Interest) (answer : Bool) → answer ≡ is_some first → IfSome first (λ i. (i.client ≡ client) × (has s i ≡ true)) → IfNone first ((fid : Fid) → has s (interest client fid) ≡ false)
    → IsTrue answer ↔ ((fid : Fid) × IsTrue (set.contains (set_of s.keys) (interest client fid)))
tells s client (Some i) answer is some none =
    (λ _. (i.fid, there s.keys (interest client i.fid) ∙ ap (has s) (λ j. interest (sym some.0 j) i.fid) ∙ some.1), λ _. is)
tells s client None answer is some none =
    (λ h. let no : true ≡ false = sym h ∙ is in absurd cc, λ f. absurd (both_ways (has s (interest client f.0)) (none f.0) (sym (there s.keys (interest client f.0)) ∙ f.1)))
