use Rattle.std.proofs.Common.{ap, subst}
use Rattle.std.specs.Ordering.{is_lt}
use Rattle.std.specs.Option.{IfSome}
use Rattle.std.specs.List.{slice_get}
use Rattle.std.specs.BTreeSet.{IsKeyInRange}
use Rattle.std.specs.BTreeMap.Range.{IsLeBy}
use Rattle.std.specs.declared.ops.Bound.TheVariants.{Excluded, Unbounded}
use Rattle.coda_walk.specs.Queue.{rank_cmp}
use Rattle.coda_walk.proofs.Pooled.{is_less}
use Rattle.coda_walk.proofs.leaving.first_after.Goals as goal

pub returns-in-Some-clause-some : goal.returns-in-Some-clause-some
returns-in-Some-clause-some c =
    let h = c.range.ensures.in_range tt in
    let head : IsKeyInRange rank_cmp (Excluded c.args.after) Unbounded c.args.free.now c.in-Some.rank.now = subst (λ l. IfSome (slice_get l 0) (IsKeyInRange rank_cmp (Excluded c.args.after) Unbounded c.args.free.now)) c.in-Some.ensures.steps h.1 in
    (head.1, ap is_lt head.0.0, λ q there late. subst (λ l. IfSome (slice_get l 0) (λ k. IsLeBy rank_cmp k q)) c.in-Some.ensures.steps (h.2 q (is_less _ late, tt) there))
