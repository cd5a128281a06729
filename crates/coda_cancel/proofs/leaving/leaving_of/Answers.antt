use Rattle.std.proofs.Common.{◌≡◌, ◌+◌, ◌++◌, true, false, Some, length, sym, ap, ◌∙◌, arith}
use Rattle.coda_fid.specs.Op.{weight_of}
use Rattle.coda_cancel.specs.Numbers.{numbers, least}
use Rattle.coda_cancel.specs.Passing.{goes, undropped}
use Rattle.coda_cancel.specs.Weights.{total_weight}
use Rattle.coda_cancel.proofs.Walks.{upto, beyond, none_passed, fewer_left}
use Rattle.coda_cancel.proofs.Indexed.{read_next, read_none, read_split, read_numbered, none_beyond}
use Rattle.coda_cancel.proofs.Leaves.{least_gone, count_gone, weight_gone, least_kept, count_kept, weight_kept, few_so_far, light_so_far, least_end, count_end, weight_end, or_same, or_number}
use Rattle.coda_cancel.proofs.leaving.leaving_of.Goals as goal

pub loop-number-init : goal.loop-number-init
loop-number-init c =
    let rs = c.args.shelf.now.records in
    let t = goes c.cancels-cancelled.result c.args.op.now in
    record {
      ahead = c.mentions_of-mentions.ensures;
      least = ap (λ l. least (numbers t l)) (sym (none_passed rs));
      count = let same = ap (λ l. length (undropped t l)) (none_passed rs) ∙ ap length (sym (none_passed rs)) in omega (arith, same);
      weight = let same = ap (λ l. total_weight (undropped t l)) (none_passed rs) ∙ ap total_weight (sym (none_passed rs)) in omega (arith, same);
    }

pub at-record-requires : goal.at-record-requires
at-record-requires c =
    let rs = c.args.shelf.now.records in
    let f = c.args.fid in
    let a = c.loop-number.after in
    let n = c.in-Some.number in
    let s = read_next rs c.args.index.now f a c.last-last.result c.last-last.ensures.rising c.requires.indexed c.last-last.ensures.last n (c.in-Some.ensures.some c.args.index.now a c.loop-number.invariant.ahead).0 in
    read_numbered f a n rs s

pub overflow_add-count : goal.overflow_add-count
overflow_add-count c =
    let rs = c.args.shelf.now.records in
    let f = c.args.fid in
    let a = c.loop-number.after in
    let n = c.in-Some.number in
    let s = read_next rs c.args.index.now f a c.last-last.result c.last-last.ensures.rising c.requires.indexed c.last-last.ensures.last n (c.in-Some.ensures.some c.args.index.now a c.loop-number.invariant.ahead).0 in
    let few = few_so_far c.args.op.now f c.requires.own c.cancels-cancelled.result rs a n s c.loop-number.count c.loop-number.invariant.count in
    omega (arith, few, c.at-record.ensures.few)

pub overflow_add-weight : goal.overflow_add-weight
overflow_add-weight c =
    let rs = c.args.shelf.now.records in
    let f = c.args.fid in
    let a = c.loop-number.after in
    let n = c.in-Some.number in
    let s = read_next rs c.args.index.now f a c.last-last.result c.last-last.ensures.rising c.requires.indexed c.last-last.ensures.last n (c.in-Some.ensures.some c.args.index.now a c.loop-number.invariant.ahead).0 in
    let found = c.at-record.ensures.«record» (upto a rs ++ s.between) s.found (beyond (Some n) rs) (read_split f a n rs s) s.is in
    let light = light_so_far c.args.op.now f c.requires.own c.cancels-cancelled.result rs a n s c.loop-number.weight c.loop-number.invariant.weight in
    let own = c.weight-weight.ensures ∙ ap (λ r. weight_of r.op) found in
    omega (arith, light, own, c.requires.light)

pub loop-number-smaller-then-goes : goal.loop-number-smaller-then-goes
loop-number-smaller-then-goes c =
    let rs = c.args.shelf.now.records in
    let f = c.args.fid in
    let a = c.loop-number.after in
    let n = c.in-Some.number in
    let s = read_next rs c.args.index.now f a c.last-last.result c.last-last.ensures.rising c.requires.indexed c.last-last.ensures.last n (c.in-Some.ensures.some c.args.index.now a c.loop-number.invariant.ahead).0 in
    fewer_left f a n rs s

pub loop-number-smaller : goal.loop-number-smaller
loop-number-smaller c =
    let rs = c.args.shelf.now.records in
    let f = c.args.fid in
    let a = c.loop-number.after in
    let n = c.in-Some.number in
    let s = read_next rs c.args.index.now f a c.last-last.result c.last-last.ensures.rising c.requires.indexed c.last-last.ensures.last n (c.in-Some.ensures.some c.args.index.now a c.loop-number.invariant.ahead).0 in
    fewer_left f a n rs s

pub loop-number-preserved-then-goes : goal.loop-number-preserved-then-goes
loop-number-preserved-then-goes c =
    let rs = c.args.shelf.now.records in
    let f = c.args.fid in
    let a = c.loop-number.after in
    let n = c.in-Some.number in
    let s = read_next rs c.args.index.now f a c.last-last.result c.last-last.ensures.rising c.requires.indexed c.last-last.ensures.last n (c.in-Some.ensures.some c.args.index.now a c.loop-number.invariant.ahead).0 in
    let found = c.at-record.ensures.«record» (upto a rs ++ s.between) s.found (beyond (Some n) rs) (read_split f a n rs s) s.is in
    let t = goes c.cancels-cancelled.result c.args.op.now in
    let gone : t s.found.op ≡ true = ap (λ r. t r.op) (sym found) ∙ sym c.goes.ensures ∙ c.if-goes.true in
    let own = c.weight-weight.ensures ∙ ap (λ r. weight_of r.op) found in
    record {
      ahead = (c.in-Some.ensures.some c.args.index.now a c.loop-number.invariant.ahead).1;
      least = c.or-least.ensures ∙ or_same c.loop-number.least n ∙ ap (λ o. or_number o n) c.loop-number.invariant.least ∙ sym (least_gone c.args.op.now f c.requires.own c.cancels-cancelled.result rs a n s (c.in-Some.ensures.some c.args.index.now a c.loop-number.invariant.ahead).0.0 gone);
      count = count_gone c.args.op.now f c.requires.own c.cancels-cancelled.result rs a n s c.loop-number.count gone c.loop-number.invariant.count;
      weight = ap (λ w. c.loop-number.weight + w + total_weight (undropped t (upto (Some n) rs))) own ∙ weight_gone c.args.op.now f c.requires.own c.cancels-cancelled.result rs a n s c.loop-number.weight gone c.loop-number.invariant.weight;
    }

pub loop-number-preserved : goal.loop-number-preserved
loop-number-preserved c =
    let rs = c.args.shelf.now.records in
    let f = c.args.fid in
    let a = c.loop-number.after in
    let n = c.in-Some.number in
    let s = read_next rs c.args.index.now f a c.last-last.result c.last-last.ensures.rising c.requires.indexed c.last-last.ensures.last n (c.in-Some.ensures.some c.args.index.now a c.loop-number.invariant.ahead).0 in
    let found = c.at-record.ensures.«record» (upto a rs ++ s.between) s.found (beyond (Some n) rs) (read_split f a n rs s) s.is in
    let t = goes c.cancels-cancelled.result c.args.op.now in
    let stays : t s.found.op ≡ false = ap (λ r. t r.op) (sym found) ∙ sym c.goes.ensures ∙ c.if-goes.false in
    record {
      ahead = (c.in-Some.ensures.some c.args.index.now a c.loop-number.invariant.ahead).1;
      least = c.loop-number.invariant.least ∙ sym (least_kept c.args.op.now f c.requires.own c.cancels-cancelled.result rs a n s stays);
      count = count_kept c.args.op.now f c.requires.own c.cancels-cancelled.result rs a n s c.loop-number.count stays c.loop-number.invariant.count;
      weight = weight_kept c.args.op.now f c.requires.own c.cancels-cancelled.result rs a n s c.loop-number.weight stays c.loop-number.invariant.weight;
    }

pub returns-clause-least : goal.returns-clause-least
returns-clause-least c =
    let rs = c.args.shelf.now.records in
    let f = c.args.fid in
    let a = c.loop-number.after in
    let quiet = read_none rs c.args.index.now f a c.last-last.result c.last-last.ensures.rising c.requires.indexed c.last-last.ensures.last (c.in_default.ensures.none c.args.index.now a c.loop-number.invariant.ahead) in
    c.loop-number.invariant.least ∙ least_end c.args.op.now f c.requires.own c.cancels-cancelled.result rs a quiet

pub returns-clause-count : goal.returns-clause-count
returns-clause-count c =
    let rs = c.args.shelf.now.records in
    let f = c.args.fid in
    let a = c.loop-number.after in
    let quiet = read_none rs c.args.index.now f a c.last-last.result c.last-last.ensures.rising c.requires.indexed c.last-last.ensures.last (c.in_default.ensures.none c.args.index.now a c.loop-number.invariant.ahead) in
    count_end c.args.op.now f c.requires.own c.cancels-cancelled.result rs a quiet c.loop-number.count c.loop-number.invariant.count

pub returns-clause-weight : goal.returns-clause-weight
returns-clause-weight c =
    let rs = c.args.shelf.now.records in
    let f = c.args.fid in
    let a = c.loop-number.after in
    let quiet = read_none rs c.args.index.now f a c.last-last.result c.last-last.ensures.rising c.requires.indexed c.last-last.ensures.last (c.in_default.ensures.none c.args.index.now a c.loop-number.invariant.ahead) in
    weight_end c.args.op.now f c.requires.own c.cancels-cancelled.result rs a quiet c.loop-number.weight c.loop-number.invariant.weight

pub returns-clause-end : goal.returns-clause-end
returns-clause-end c =
    let rs = c.args.shelf.now.records in
    let a = c.loop-number.after in
    none_beyond rs c.args.index.now c.args.fid a c.last-last.result c.last-last.ensures.rising c.requires.indexed c.last-last.ensures.last (c.in_default.ensures.none c.args.index.now a c.loop-number.invariant.ahead)
