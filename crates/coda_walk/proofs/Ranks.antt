-- The order of ranks.
use Rattle.std.proofs.Common.{◌≡◌, ℕ, true, false, refl, sym, ap, ◌∙◌, subst}
use Rattle.std.specs.Ordering.{nat_cmp, ordering_then, ordering_reverse, is_lt, is_gt, is_eq}
use Rattle.std.specs.declared.cmp.Ordering.{Ordering}
use Rattle.std.specs.declared.cmp.Ordering.TheVariants.{Less, Equal, Greater}
use Rattle.std.specs.Cmp.{IsTotalOrder}
use Rattle.std.proofs.lemmas.Bool.{both_ways}
use Rattle.std.proofs.lemmas.Cmp.{then_total, on_total, back_total, nat_cmp_total}
use Rattle.std.proofs.lemmas.Map.Lookups.{exact_pairs, exact_unsigned}
use Rattle.coda_fid.specs.declared.fid.Fid.{Fid}
use Rattle.coda_fid.specs.Fid.{fid_cmp}
use Rattle.coda_fid.proofs.Fids.{fids_total, exact_fids}
use Rattle.coda_walk.specs.declared.rank.Rank.{Rank}
use Rattle.coda_walk.specs.Queue.{rank_cmp, same_rank}

pub ranks_total : IsTotalOrder rank_cmp
ranks_total = then_total (on_total (λ (r : Rank). r.priority) nat_cmp_total) (then_total (on_total (λ (r : Rank). r.used) nat_cmp_total) (on_total (λ (r : Rank). r.fid.0) (back_total fids_total)))

pub exact_ranks : (a b : Rank) → rank_cmp a b ≡ Equal → a ≡ b
exact_ranks a b h =
    ap (λ (p : ℕ × (ℕ × Fid)). let r : Rank = record { priority = p.0; used = p.1.0; fid = record { 0 = p.1.1 } } in r)
    (exact_pairs nat_cmp (λ (x y : ℕ × Fid). ordering_then (nat_cmp x.0 y.0) (fid_cmp y.1 x.1)) exact_unsigned (exact_pairs nat_cmp (λ x y. fid_cmp y x) exact_unsigned (λ x y e. sym (exact_fids y x e))) (a.priority, (a.used, a.fid.0)) (b.priority, (b.used, b.fid.0)) h)

is_equal : (r : Ordering) → is_eq r ≡ true → r ≡ Equal
is_equal Less h = absurd (both_ways _ refl h)
is_equal Equal h = refl
is_equal Greater h = absurd (both_ways _ refl h)

pub same_rank_is : (a b : Rank) → same_rank a b ≡ true → a ≡ b
same_rank_is a b h = exact_ranks a b (is_equal _ h)

own : (r : Ordering) → r ≡ ordering_reverse r → r ≡ Equal
own Less h = cc
own Equal h = refl
own Greater h = cc

pub same_rank_refl : (a : Rank) → same_rank a a ≡ true
same_rank_refl a = ap is_eq (own (rank_cmp a a) (ranks_total.antisymm a a))

-- ranks that come before others, or are they
pub not_above : (a b c : Rank) → is_gt (rank_cmp a b) ≡ false → is_gt (rank_cmp b c) ≡ false → is_gt (rank_cmp a c) ≡ false
not_above a b c one two = (elim (rank_cmp a b) as (λ r. rank_cmp a b ≡ r → is_gt r ≡ false → is_gt (rank_cmp a c) ≡ false) [
  | Less ↦ λ e _. (elim (rank_cmp b c) as (λ r. rank_cmp b c ≡ r → is_gt r ≡ false → is_gt (rank_cmp a c) ≡ false) [
    | Less ↦ λ d _. ap is_gt (ranks_total.trans a b c e d)
    | Equal ↦ λ d _. ap is_gt (subst (λ x. rank_cmp a x ≡ Less) (exact_ranks b c d) e)
    | Greater ↦ λ d k. absurd (both_ways _ k refl)
  ]) refl two
  | Equal ↦ λ e _. subst (λ x. is_gt (rank_cmp x c) ≡ false) (sym (exact_ranks a b e)) two
  | Greater ↦ λ e k. absurd (both_ways _ k refl)
]) refl one

pub not_above_both : (a b : Rank) → is_gt (rank_cmp a b) ≡ false → is_gt (rank_cmp b a) ≡ false → a ≡ b
not_above_both a b one two = (elim (rank_cmp a b) as (λ r. rank_cmp a b ≡ r → is_gt r ≡ false → a ≡ b) [
  | Less ↦ λ e _. absurd (both_ways _ two (ap is_gt (ranks_total.antisymm b a ∙ ap ordering_reverse e)))
  | Equal ↦ λ e _. exact_ranks a b e
  | Greater ↦ λ e k. absurd (both_ways _ k refl)
]) refl one

-- one that doesn't come after another, and isn't it, comes before it
pub below_or_same : (a b : Rank) → is_gt (rank_cmp a b) ≡ false → same_rank a b ≡ false → is_lt (rank_cmp a b) ≡ true
below_or_same a b one two = (elim (rank_cmp a b) as (λ r. is_gt r ≡ false → is_eq r ≡ false → is_lt r ≡ true) [
  | Less ↦ λ _ _. refl
  | Equal ↦ λ _ k. absurd (both_ways _ k refl)
  | Greater ↦ λ k _. absurd (both_ways _ k refl)
]) one two

-- one that comes before another comes not after it
pub below_not_above : (a b : Rank) → is_lt (rank_cmp a b) ≡ true → is_gt (rank_cmp b a) ≡ true
below_not_above a b h = (elim (rank_cmp a b) as (λ r. rank_cmp a b ≡ r → is_lt r ≡ true → is_gt (rank_cmp b a) ≡ true) [
  | Less ↦ λ e _. ap is_gt (ranks_total.antisymm b a ∙ ap ordering_reverse e)
  | Equal ↦ λ _ k. absurd (both_ways _ refl k)
  | Greater ↦ λ _ k. absurd (both_ways _ refl k)
]) refl h
