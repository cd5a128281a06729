use Rattle.std.proofs.Common.{◌≡◌, [], drop, ◌∙◌, arith}
use Rattle.std.proofs.lemmas.List.{drop_all}
use Rattle.coda_cml.specs.Regrouping.{is_inside, rejoined}
use Rattle.coda_cml.proofs.segments.WhereJoiningEnds.{joined_to_last}
use Rattle.coda_cml.proofs.regrouping.rejoin.Goals as goal

pub returns : goal.returns
returns c =
    let over : drop c.loop-next.next c.args.segments.now.items ≡ [] = drop_all c.loop-next.next c.args.segments.now.items (omega arith) in
    c.truncate.ensures.items ∙ joined_to_last (is_inside c.args.joins.now) c.loop-next.kept c.loop-next.segments.items (drop c.loop-next.next c.args.segments.now.items) (rejoined (is_inside c.args.joins.now) c.args.segments.now.items) c.loop-next.invariant.within over c.loop-next.invariant.done
