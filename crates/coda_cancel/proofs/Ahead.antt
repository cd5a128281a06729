-- What stands in the index from an object's numbers above one on.
use Rattle.std.proofs.Common.{◌≡◌, ℕ, ◌+◌, ◌<◌, ◌≤◌, Bool, true, false, cond, ◌||◌, ◌&&◌, List, [], ◌∷◌, Option, Some, None, refl, ap, sym, ◌∙◌, subst, arith}
use Rattle.std.specs.List.{list_any, filter, AllByRecursion}
use Rattle.std.specs.List.Sorted.{IsStrictlySortedBy}
use Rattle.std.specs.Ordering.{nat_cmp, is_gt, is_le, is_eq, ordering_then}
use Rattle.std.specs.declared.cmp.Ordering.{Ordering}
use Rattle.std.specs.declared.cmp.Ordering.TheVariants.{Less, Equal, Greater}
use Rattle.std.specs.declared.ops.Bound.TheVariants.{Included, Unbounded}
use Rattle.std.specs.BTreeMap.Range.{IsLeBy, range_contains}
use Rattle.std.specs.BTreeSet.{IsOrdered, keys_between}
use Rattle.std.specs.Cmp.{Equal-is}
use Rattle.std.proofs.lemmas.Cmp.{tied_itself}
use Rattle.std.proofs.lemmas.List.Kept.{IsStrictlySortedBy-filter}
use Rattle.std.proofs.lemmas.Bool.{true≢false, false≢true, false_from_ne_true, lt-leb, leb-false, leb-true, le-leb, ltb-true}
use Rattle.std.proofs.lemmas.Bool.Decides.{nat_tests}
use Rattle.coda_fid.specs.Fid.{fid_cmp}
use Rattle.coda_fid.specs.declared.fid.Fid.{Fid}
use Rattle.coda_cancel.specs.declared.mentions.Mention.{Mention}
use Rattle.coda_cancel.specs.Mentions.{mention, mention_cmp, has, is_upto, Index, among, number_after, AreAhead, IsNext, NoneNext}
use Rattle.coda_cancel.proofs.Between.{own_le, le_own, same_object}
use Rattle.coda_cancel.proofs.Mentioned.{mentions_total, exact_mentions}

-- ---- an order of mentions

-- equal mentions are one
exact_mention : (a b : Mention) → is_eq (mention_cmp a b) ≡ true → a ≡ b
exact_mention a b h = exact_mentions a b ((Equal-is (mention_cmp a b)).0 h)

next_le : (m n : ℕ) → nat_cmp m n ≡ Less → is_gt (nat_cmp (m + 1) n) ≡ false
next_le m n h = grind (arith, nat_tests, h)

-- what is above a mention is at least the next of its object
above_next : (f : Fid) (n : ℕ) (b : Mention) → mention_cmp (mention f n) b ≡ Less → IsLeBy mention_cmp (mention f (n + 1)) b
above_next f n b = elim (fid_cmp f b.fid) as (λ r. ordering_then r (nat_cmp n b.number) ≡ Less → is_gt (ordering_then r (nat_cmp (n + 1) b.number)) ≡ false) [
  | Less ↦ λ h. refl
  | Equal ↦ λ h. next_le n b.number h
  | Greater ↦ λ h. absurd cc
]

-- ---- where a walk begins

kept_any : (t p : Mention → Bool) (ms : List Mention) → ((m : Mention) → t m ≡ true → p m ≡ true) → list_any t (filter p ms) ≡ list_any t ms
kept_any t p [] h = refl
kept_any t p (m ∷ ms) h = go (p m) refl (kept_any t p ms h)
  where
    go : (b : Bool) → p m ≡ b → list_any t (filter p ms) ≡ list_any t ms → list_any t (cond b (m ∷ filter p ms) (filter p ms)) ≡ (t m || list_any t ms)
    go true e rest = ap (λ x. t m || x) rest
    go false e rest = rest ∙ sym (ap (λ x. x || list_any t ms) (false_from_ne_true (t m) (λ y. true≢false (sym (h m y) ∙ e))))

all_kept : (p : Mention → Bool) (such : Mention → Type 0) → ((m : Mention) → p m ≡ true → such m) → (ms : List Mention) → AllByRecursion such (filter p ms)
all_kept p such h [] = tt
all_kept p such h (m ∷ ms) = go (p m) refl (all_kept p such h ms)
  where
    go : (b : Bool) → p m ≡ b → AllByRecursion such (filter p ms) → AllByRecursion such (cond b (m ∷ filter p ms) (filter p ms))
    go true e rest = (h m e, rest)
    go false e rest = rest

from_le : (r : Ordering) → (is_le r && true) ≡ true → is_gt r ≡ false
from_le Less h = refl
from_le Equal h = refl
from_le Greater h = absurd (false≢true h)

le_from : (r : Ordering) → is_gt r ≡ false → (is_le r && true) ≡ true
le_from Less h = refl
le_from Equal h = refl
le_from Greater h = absurd (true≢false h)

module _ (s : Index) (f : Fid) where
  abbrev in_range : Mention → Bool
  in_range = range_contains mention_cmp (Included (mention f 0)) Unbounded

  in_range_at : (n : ℕ) (m : Mention) → is_eq (mention_cmp (mention f n) m) ≡ true → in_range m ≡ true
  in_range_at n m e = subst (λ z. in_range z ≡ true) (exact_mention (mention f n) m e) (le_from (mention_cmp (mention f 0) (mention f n)) (own_le f 0 n (omega arith)))

  pub begins_ahead : (found : List Mention) → found ≡ keys_between mention_cmp (Included (mention f 0)) Unbounded s → IsOrdered mention_cmp s → AreAhead s f None found
  begins_ahead found is ordered = subst (AreAhead s f None) (sym is) (
    IsStrictlySortedBy-filter mention_cmp in_range s.keys ordered,
    all_kept in_range (λ m. IsLeBy mention_cmp (mention f 0) m) (λ m h. from_le (mention_cmp (mention f 0) m) h) s.keys,
    λ n after. kept_any (λ m. is_eq (mention_cmp (mention f n) m)) in_range s.keys (in_range_at n),
  )

-- ---- a step of it

sorted_parts : (m : Mention) (ms : List Mention) → IsStrictlySortedBy mention_cmp (m ∷ ms) → AllByRecursion (λ y. mention_cmp m y ≡ Less) ms × IsStrictlySortedBy mention_cmp ms
unfolding IsStrictlySortedBy
sorted_parts m ms h = h

-- a mention among those above one is above it
among_above : (m : Mention) (f : Fid) (ms : List Mention) → AllByRecursion (λ y. mention_cmp m y ≡ Less) ms → (n : ℕ) → among ms f n ≡ true → mention_cmp m (mention f n) ≡ Less
among_above m f [] h n e = absurd (false≢true e)
among_above m f (y ∷ ms) h n e = go (is_eq (mention_cmp (mention f n) y)) refl e (λ e. among_above m f ms h.1 n e)
  where
    go : (b : Bool) → is_eq (mention_cmp (mention f n) y) ≡ b → (b || among ms f n) ≡ true → (among ms f n ≡ true → mention_cmp m (mention f n) ≡ Less) → mention_cmp m (mention f n) ≡ Less
    go true i e rest = subst (λ z. mention_cmp m z ≡ Less) (sym (exact_mention (mention f n) y i)) h.0
    go false i e rest = rest e

-- what is at a number that is above one or not
after_number : (a : Option ℕ) (n : ℕ) → number_after a ≤ n → is_upto a n ≡ false
after_number None n h = refl
after_number (Some k) n h = lt-leb n k (omega (arith, h))

later : (a : Option ℕ) (m n : ℕ) → m < n → is_upto a m ≡ false → is_upto a n ≡ false
later None m n l h = refl
later (Some k) m n l h = lt-leb n k (omega (arith, leb-false m k h, l))

pub none_left : (s : Index) (f : Fid) (a last : Option ℕ) → AreAhead s f a [] → NoneNext s f a last
none_left s f a last ahead n after within = sym (ahead.2 n after)

pub none_asked : (s : Index) (f : Fid) (a : Option ℕ) → NoneNext s f a None
none_asked s f a n after within = absurd (false≢true within)

module _ (s : Index) (f : Fid) (a : Option ℕ) (m : Mention) (ms : List Mention) (ahead : AreAhead s f a (m ∷ ms)) (last : ℕ) where
  parts : AllByRecursion (λ y. mention_cmp m y ≡ Less) ms × IsStrictlySortedBy mention_cmp ms
  parts = sorted_parts m ms ahead.0

  -- it is no later than what is there
  least : (n : ℕ) → is_upto a n ≡ false → has s f n ≡ true → IsLeBy mention_cmp m (mention f n)
  least n after there = go (is_eq (mention_cmp (mention f n) m)) refl (ahead.2 n after ∙ there)
    where
      go : (b : Bool) → is_eq (mention_cmp (mention f n) m) ≡ b → (b || among ms f n) ≡ true → IsLeBy mention_cmp m (mention f n)
      go true i e = subst (λ z. IsLeBy mention_cmp m z) (sym (exact_mention (mention f n) m i)) (ap is_gt (tied_itself mentions_total m))
      go false i e = ap is_gt (among_above m f ms parts.0 n e)

  own : m.fid ≡ f → m ≡ mention f m.number
  own same = λ i. mention (same i) m.number

  number_below : (n : ℕ) → m.fid ≡ f → IsLeBy mention_cmp m (mention f n) → m.number ≤ n
  number_below n same le = le_own f m.number n (subst (λ (z : Mention). IsLeBy mention_cmp z (mention f n)) (own same) le)

  module _ (same : m.fid ≡ f) where
    is_after : is_upto a m.number ≡ false
    is_after = after_number a m.number (le_own f (number_after a) m.number (subst (λ (z : Mention). IsLeBy mention_cmp (mention f (number_after a)) z) (own same) ahead.1.0))

    is_here : is_eq (mention_cmp (mention f m.number) m) ≡ true
    is_here = subst (λ (z : Mention). is_eq (mention_cmp z m) ≡ true) (own same) (ap is_eq (tied_itself mentions_total m))

    pub next_found : m.number ≤ last → IsNext s f a (Some last) m.number
    next_found below = (
      is_after,
      le-leb m.number last below,
      sym (ahead.2 m.number is_after) ∙ ap (λ b. b || among ms f m.number) is_here,
      λ k after less. false_from_ne_true (has s f k) (λ there. absurd (omega (arith, number_below k same (least k after there), ltb-true k m.number less))),
    )

    all_next : (ys : List Mention) → AllByRecursion (λ y. mention_cmp m y ≡ Less) ys → AllByRecursion (λ y. IsLeBy mention_cmp (mention f (m.number + 1)) y) ys
    all_next [] h = tt
    all_next (y ∷ ys) h = (above_next f m.number y (subst (λ (z : Mention). mention_cmp z y ≡ Less) (own same) h.0), all_next ys h.1)

    not_here : (n : ℕ) → m.number < n → is_eq (mention_cmp (mention f n) m) ≡ false
    not_here n l = false_from_ne_true (is_eq (mention_cmp (mention f n) m)) (λ e. let one : n ≡ m.number = ap (λ (z : Mention). z.number) (exact_mention (mention f n) m e) in absurd (omega (arith, l, one)))

    pub rest_ahead : AreAhead s f (Some m.number) ms
    rest_ahead = (
      parts.1,
      all_next ms parts.0,
      λ n past. let l = leb-false n m.number past in sym (ap (λ b. b || among ms f n) (not_here n l)) ∙ ahead.2 n (later a m.number n l is_after),
    )

  -- of the object there is none up to the last number, where the first is of another, or later
  pub none_ahead : (m.fid ≡ f → m.number ≤ last → ⊥) → NoneNext s f a (Some last)
  none_ahead other n after within = false_from_ne_true (has s f n) (λ there.
      let le = least n after there in
      let same : f ≡ m.fid = same_object f (number_after a) n m ahead.1.0 le in
      let below : m.number ≤ n = number_below n (sym same) le in
      absurd (other (sym same) (omega (arith, below, leb-true n last within))))
