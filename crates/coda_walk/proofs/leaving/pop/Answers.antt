use Rattle.std.proofs.lemmas.Bool.{both_ways, and_from, and_parts}
use Rattle.coda_walk.specs.Queue.{is_in}
use Rattle.coda_walk.proofs.Pooled.{takes_other}
use Rattle.coda_walk.proofs.leaving.pop.Goals as goal

pub returns-in-Some-clause-some : goal.returns-in-Some-clause-some
returns-in-Some-clause-some c =
    let some = c.in-Some.ensures.some in
    c.pop_either.ensures (is_in c.args.free.now) (record { there = and_from _ _ some.0 some.1; first = λ q h. some.2 q (and_parts _ _ h).0 (and_parts _ _ h).1 })

pub returns-in-Some-first-clause-some : goal.returns-in-Some-first-clause-some
returns-in-Some-first-clause-some c =
    takes_other (is_in c.args.free.now) c.args.pool.now.after (is_in c.args.pool.now.more) (is_in c.take_rank.new.free) c.in-Some-first.other
    (λ q h. absurd (both_ways _ (c.in-None.ensures.none q (and_parts _ _ h).0) (and_parts _ _ h).1)) c.in-Some-first.ensures.some.0 c.in-Some-first.ensures.some.1 c.take_rank.ensures
