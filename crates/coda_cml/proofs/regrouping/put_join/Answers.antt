use Rattle.std.proofs.Common.{◌≡◌, ◌-◌, ◌||◌, take, length, sym, ap, ◌∙◌, subst, arith}
use Rattle.coda_cml.specs.Regrouping.{is_inside, is_within, ends_from, AreJoinsBelow, DoJoinsRise}
use Rattle.coda_cml.proofs.segments.WidestJoins.{cut_last, rise_cut, below_cut, rise_pushed, below_pushed, inside_pushed}
use Rattle.coda_cml.proofs.regrouping.put_join.Goals as goal

pub loop-joins-preserved : goal.loop-joins-preserved
loop-joins-preserved c =
    let js = c.loop-joins.joins.items in
    let inv = c.loop-joins.invariant in
    let covered = ap (ends_from c.args.join.least) (sym c.deref.ensures.value) ∙ sym c.ends_from.ensures ∙ c.loop-joins-test.true in
    let cut : c.truncate.new.self.items ≡ take (length js - 1) js = c.truncate.ensures.items ∙ (let own : c.len.result - 1 ≡ length js - 1 = omega (arith, c.len.ensures) in ap (λ k. take k js) own) in
    record {
      inside = λ n. ap (λ l. is_inside l n || is_within n c.args.join) cut ∙ cut_last n js c.args.join covered inv.below ∙ inv.inside n;
      rise = subst DoJoinsRise (sym cut) (rise_cut js inv.rise);
      below = subst (AreJoinsBelow c.args.join.number) (sym cut) (below_cut c.args.join.number js inv.below);
      len = omega (arith, c.truncate.ensures.len, inv.len);
      capacity = c.truncate.ensures.capacity ∙ inv.capacity;
    }

pub returns-clause-inside : goal.returns-clause-inside
returns-clause-inside c n = ap (λ l. is_inside l n) c.push_reserved.ensures.items ∙ inside_pushed c.loop-joins.joins.items c.args.join n ∙ c.loop-joins.invariant.inside n

pub returns-clause-rise : goal.returns-clause-rise
returns-clause-rise c =
    let last = ap (ends_from c.args.join.least) (sym c.deref.ensures.value) ∙ sym c.ends_from.ensures ∙ c.loop-joins-test.false in
    subst DoJoinsRise (sym c.push_reserved.ensures.items) (rise_pushed c.loop-joins.joins.items c.args.join c.loop-joins.invariant.rise last c.loop-joins.invariant.below)

pub returns-clause-reached : goal.returns-clause-reached
returns-clause-reached c n l = subst (AreJoinsBelow n) (sym c.push_reserved.ensures.items) (below_pushed c.loop-joins.joins.items c.args.join n c.loop-joins.invariant.below l)
