-- The ranks that are still to be looked at, as the first of them is taken.
use Rattle.std.proofs.Common.{◌≡◌, Bool, true, false, not, ◌&&◌, ◌||◌, Option, Some, None, refl, sym, ap, ◌∙◌, subst, inl, inr}
use Rattle.std.specs.Ordering.{is_gt, is_lt, is_eq, ordering_reverse}
use Rattle.std.specs.declared.cmp.Ordering.{Ordering}
use Rattle.std.specs.declared.cmp.Ordering.TheVariants.{Less, Equal, Greater}
use Rattle.std.proofs.lemmas.Bool.{both_ways, and_from, and_parts, or_cases, false_from_ne_true, or_left, or_right}
use Rattle.coda_walk.specs.declared.rank.Rank.{Rank}
use Rattle.coda_walk.specs.Queue.{rank_cmp, same_rank}
use Rattle.coda_walk.specs.Leaving.{is_after, is_pooled, IsFirstOf, Takes}
use Rattle.coda_walk.proofs.Ranks.{ranks_total, same_rank_is, not_above, below_or_same, below_not_above}

pub is_less : (o : Ordering) → is_lt o ≡ true → o ≡ Less
is_less Less h = refl
is_less Equal h = absurd (both_ways _ refl h)
is_less Greater h = absurd (both_ways _ refl h)

pub not_greater : (o : Ordering) → is_lt o ≡ true → is_gt o ≡ false
not_greater o h = ap is_gt (is_less o h)

pub not_less : (o : Ordering) → is_lt o ≡ false → is_gt o ≡ false → (o ≡ Equal)
not_less Less h k = absurd (both_ways _ h refl)
not_less Equal h k = refl
not_less Greater h k = absurd (both_ways _ k refl)

-- a rank that comes before another isn't it
apart_of : (a b : Rank) → is_lt (rank_cmp a b) ≡ true → same_rank a b ≡ false
apart_of a b less = false_from_ne_true _ (λ t. both_ways _ (irreflexive a) (subst (λ x. is_lt (rank_cmp a x) ≡ true) (sym (same_rank_is a b t)) less))
  where
    irreflexive : (r : Rank) → is_lt (rank_cmp r r) ≡ false
    irreflexive r = false_from_ne_true _ (λ t. both_ways _ (not_greater (rank_cmp r r) t) (below_not_above r r t))

after_trans : (after : Option Rank) (r q : Rank) → is_after after r ≡ true → is_lt (rank_cmp r q) ≡ true → is_after after q ≡ true
after_trans None r q h less = refl
after_trans (Some a) r q h less = ap is_lt (ranks_total.trans a r q (is_less _ h) (is_less _ less))

none_or : (x : Bool) → x ≡ false → (x || false) ≡ false
none_or true h = h
none_or false h = refl

module _ (free : Rank → Bool) (after : Option Rank) (more more' : Rank → Bool) where
  -- the first of the queue's ranks comes first
  pub takes_first : (r : Rank) → IsFirstOf (λ q. free q && is_after after q) r → ((q : Rank) → more q ≡ true → is_gt (rank_cmp r q) ≡ false) → ((q : Rank) → more' q ≡ (not (same_rank r q) && more q)) →
      Takes (is_pooled free after more) (is_pooled free (Some r) more') r
  takes_first r is least rest = record {
    first = record {
      there = or_left _ _ is.there;
      first = λ q h. elim (or_cases (free q && is_after after q) (more q) h) [ inl a ↦ is.first q a | inr b ↦ least q b ];
    };
    rest = λ q. ap (λ b. (free q && is_lt (rank_cmp r q)) || b) (rest q) ∙ all q;
  }
    where
      later : (q : Rank) → same_rank r q ≡ false → (free q && is_lt (rank_cmp r q)) ≡ (free q && is_after after q)
      later q apart = (elim (free q && is_after after q) as (λ b. (free q && is_after after q) ≡ b → (free q && is_lt (rank_cmp r q)) ≡ b) [
        | true ↦ λ t. and_from _ _ (and_parts _ _ t).0 (below_or_same r q (is.first q t) apart)
        | false ↦ λ t. false_from_ne_true _ (λ h. both_ways _ t (and_from _ _ (and_parts _ _ h).0 (after_trans after r q (and_parts _ _ is.there).1 (and_parts _ _ h).1)))
      ]) refl

      all : (q : Rank) → ((free q && is_lt (rank_cmp r q)) || (not (same_rank r q) && more q)) ≡ (not (same_rank r q) && ((free q && is_after after q) || more q))
      all q = (elim (same_rank r q) as (λ b. same_rank r q ≡ b → ((free q && is_lt (rank_cmp r q)) || (not b && more q)) ≡ (not b && ((free q && is_after after q) || more q))) [
        | true ↦ λ t. none_or _ (false_from_ne_true _ (λ h. both_ways _ (apart_of r q (and_parts _ _ h).1) t))
        | false ↦ λ t. ap (λ b. b || more q) (later q t)
      ]) refl

  -- another comes before all of them
  pub takes_other : (r : Rank) → ((q : Rank) → (free q && is_after after q) ≡ true → is_lt (rank_cmp r q) ≡ true) → more r ≡ true → ((q : Rank) → more q ≡ true → is_gt (rank_cmp r q) ≡ false) → ((q : Rank) → more' q ≡ (not (same_rank r q) && more q)) →
      Takes (is_pooled free after more) (is_pooled free after more') r
  takes_other r before there least rest = record {
    first = record {
      there = or_right _ _ there;
      first = λ q h. elim (or_cases (free q && is_after after q) (more q) h) [ inl a ↦ not_greater _ (before q a) | inr b ↦ least q b ];
    };
    rest = λ q. ap (λ b. (free q && is_after after q) || b) (rest q) ∙ all q;
  }
    where
      all : (q : Rank) → ((free q && is_after after q) || (not (same_rank r q) && more q)) ≡ (not (same_rank r q) && ((free q && is_after after q) || more q))
      all q = (elim (same_rank r q) as (λ b. same_rank r q ≡ b → ((free q && is_after after q) || (not b && more q)) ≡ (not b && ((free q && is_after after q) || more q))) [
        | true ↦ λ t. none_or _ (false_from_ne_true _ (λ h. both_ways _ (apart_of r q (before q h)) t))
        | false ↦ λ t. refl
      ]) refl

-- one that comes before the first of some comes before all of them
pub before_first : (ranks : Rank → Bool) (r other q : Rank) → IsFirstOf ranks r → is_lt (rank_cmp other r) ≡ true → ranks q ≡ true → is_lt (rank_cmp other q) ≡ true
before_first ranks r other q is less h = (elim (rank_cmp r q) as (λ o. rank_cmp r q ≡ o → is_gt o ≡ false → is_lt (rank_cmp other q) ≡ true) [
  | Less ↦ λ e _. ap is_lt (ranks_total.trans other r q (is_less _ less) e)
  | Equal ↦ λ e _. subst (λ x. is_lt (rank_cmp other x) ≡ true) (same_rank_is r q (ap is_eq e)) less
  | Greater ↦ λ e k. absurd (both_ways _ k refl)
]) refl (is.first q h)

-- one that doesn't come after another comes not after what that doesn't come after
pub through : (r other q : Rank) → is_lt (rank_cmp other r) ≡ false → is_gt (rank_cmp other q) ≡ false → is_gt (rank_cmp r q) ≡ false
through r other q late least = not_above r other q (turned_le other r late) least
  where
    is_greater : (o : Ordering) → is_gt o ≡ true → o ≡ Greater
    is_greater Less h = absurd (both_ways _ refl h)
    is_greater Equal h = absurd (both_ways _ refl h)
    is_greater Greater h = refl

    turned_le : (a b : Rank) → is_lt (rank_cmp a b) ≡ false → is_gt (rank_cmp b a) ≡ false
    turned_le a b h = false_from_ne_true _ (λ t. both_ways _ h (ap is_lt (ranks_total.antisymm a b ∙ ap ordering_reverse (is_greater _ t))))
