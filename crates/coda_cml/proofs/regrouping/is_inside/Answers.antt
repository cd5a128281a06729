use Rattle.std.proofs.Common.{◌≡◌, ◌+◌, ◌-◌, ◌/◌, ◌<◌, length, get_or, sym, ◌∙◌, subst, arith}
use Rattle.std.proofs.lemmas.Bool.{ltb-true}
use Rattle.std.proofs.lemmas.List.{get_or_default}
use Rattle.coda_cancel.specs.declared.join.Join.{Join}
use Rattle.coda_cml.proofs.segments.WidestJoins.{searched, found_tells}
use Rattle.coda_cml.proofs.regrouping.is_inside.Goals as goal

no_join : Join
no_join = record { least = 0; number = 0 }

pub loop-low-preserved-then-joins-middle : goal.loop-low-preserved-then-joins-middle
unfolding no_join
loop-low-preserved-then-joins-middle c =
    let mid = c.loop-low.low + (c.loop-low.high - c.loop-low.low) / 2 in
    let within : mid < length c.args.joins.now = omega (arith, c.loop-low.invariant.in_range, c.loop-low.invariant.ordered, c.loop-low-test.true) in
    record {
      ordered = omega (arith, c.loop-low-test.true);
      in_range = c.loop-low.invariant.in_range;
      passed = searched c.args.number c.args.joins.now mid no_join c.requires within c.if-joins-middle.true;
      above = c.loop-low.invariant.above;
    }

pub returns-in-Some : goal.returns-in-Some
returns-in-Some c =
    let joins = c.args.joins.now in
    let join = c.in-Some.join.now in
    let within : c.loop-low.low < length joins = ltb-true c.loop-low.low (length joins) (sym c.in-Some.ensures.lookup.0) in
    let same : c.loop-low.low ≡ c.loop-low.high = omega (arith, c.loop-low.invariant.ordered, c.loop-low-test.false) in
    let got : join ≡ get_or joins c.loop-low.low join = c.in-Some.ensures.lookup.1 ∙ get_or_default joins c.loop-low.low _ join within in
    let past : c.args.number < (get_or joins c.loop-low.low join).number = subst (λ k. c.args.number < (get_or joins k join).number) (sym same) (c.loop-low.invariant.above join (omega (arith, same, within))) in
    let high : c.args.number < join.number = subst (λ (j : Join). c.args.number < j.number) (sym got) past in
    found_tells c.args.number joins c.loop-low.low join c.requires within got high ∙ c.loop-low.invariant.passed
