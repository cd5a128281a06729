use Rattle.std.proofs.Common.{◌≡◌, ◌&&◌, not, true, false, refl, ap, sym, ◌∙◌}
use Rattle.std.proofs.lemmas.Bool.{both_ways}
use Rattle.std.specs.Ordering.{is_lt}
use Rattle.coda_walk.specs.Queue.{rank_cmp, is_in, same_rank}
use Rattle.coda_walk.specs.Leaving.{is_after}
use Rattle.coda_walk.proofs.Pooled.{takes_first, takes_other, before_first, through}
use Rattle.coda_walk.proofs.leaving.pop_either.Goals as goal

pub returns-then-is_lt : goal.returns-then-is_lt
returns-then-is_lt c free is =
    let less : is_lt (rank_cmp c.in-Some.other c.args.rank) ≡ true = ap is_lt (sym c.cmp.ensures) ∙ sym c.is_lt.ensures ∙ c.if-is_lt.true in
    takes_other free c.args.pool.now.after (is_in c.args.pool.now.more) (is_in c.take_rank.new.free) c.in-Some.other (λ q h. before_first (λ k. free k && is_after c.args.pool.now.after k) c.args.rank c.in-Some.other q is less h) c.in-Some.ensures.some.0 c.in-Some.ensures.some.1 c.take_rank.ensures

pub returns-else-is_lt : goal.returns-else-is_lt
returns-else-is_lt c free is =
    let late : is_lt (rank_cmp c.in-Some.other c.args.rank) ≡ false = ap is_lt (sym c.cmp.ensures) ∙ sym c.is_lt.ensures ∙ c.if-is_lt.false in
    takes_first free c.args.pool.now.after (is_in c.args.pool.now.more) (is_in c.take_rank-else-is_lt.new.free) c.args.rank is (λ q h. through c.args.rank c.in-Some.other q late (c.in-Some.ensures.some.1 q h)) c.take_rank-else-is_lt.ensures

pub returns-in-None : goal.returns-in-None
returns-in-None c free is =
    let none = c.in-None.ensures.none in
    takes_first free c.args.pool.now.after (is_in c.args.pool.now.more) (is_in c.args.pool.now.more) c.args.rank is (λ q h. absurd (both_ways _ (none q) h)) (λ q. none q ∙ sym (ap (λ b. not (same_rank c.args.rank q) && b) (none q) ∙ nothing (not (same_rank c.args.rank q))))
  where
    nothing : (b : _) → (b && false) ≡ false
    nothing true = refl
    nothing false = refl
