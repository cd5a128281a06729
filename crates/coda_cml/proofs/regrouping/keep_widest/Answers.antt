use Rattle.std.proofs.Common.{◌+◌, ◌||◌, get_or, sym, ap, ◌∙◌, arith}
use Rattle.coda_cml.specs.Regrouping.{is_within}
use Rattle.coda_cml.proofs.segments.WidestJoins.{inside_more, next_above}
use Rattle.coda_cml.proofs.regrouping.keep_widest.Goals as goal

pub loop-join-preserved : goal.loop-join-preserved
loop-join-preserved c =
    let inv = c.loop-join.invariant in
    let joins = c.args.joins.now in
    let i = c.loop-join.join-index in
    record {
      inside = λ n. c.put_join.ensures.inside n ∙ ap (λ b. b || is_within n (get_or joins i record { least = 0; number = 0 })) (inv.inside n) ∙ sym (inside_more joins i record { least = 0; number = 0 } n c.loop-join-test.true);
      rise = c.put_join.ensures.rise;
      below = λ d l. c.put_join.ensures.reached (get_or joins (i + 1) d).number (next_above joins i record { least = 0; number = 0 } d c.requires.rise l);
      len = omega (arith, c.put_join.ensures.len, inv.len);
      capacity = c.put_join.ensures.capacity ∙ inv.capacity;
    }
