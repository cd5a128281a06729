use Rattle.std.proofs.Common.{◌≡◌, ◌++◌, [], Some, true, sym, ap, ◌∙◌, subst, arith, refl}
use Rattle.coda_cancel.specs.Cancel.{without}
use Rattle.coda_cancel.specs.Mentions.{CoversUpTo, is_upto, last_number}
use Rattle.coda_cancel.specs.Numbers.{IsRising}
use Rattle.coda_cancel.specs.Shelved.{is_numbered}
use Rattle.coda_cancel.proofs.Walks.{upto, beyond, both_parts, none_passed, all_left, upto_passed, fewer_left}
use Rattle.coda_cancel.proofs.Indexed.{without_upto, next_of, none_of, split_here, numbered_at, lose_step, lose_beyond, beyond_twice}
use Rattle.coda_cancel.proofs.Quiet.{without-append, without_quiet, without_step}
use Rattle.coda_cancel.proofs.undoing.take_out.Goals as goal

pub loop-number-init : goal.loop-number-init
loop-number-init c =
    let rs = c.args.shelf.now.records in
    record {
      records = sym ((λ i. without c.args.fid (none_passed rs i) ++ all_left rs i));
      indexed = c.requires;
      past = λ f n h. refl;
      rising = c.last-last.ensures.rising;
      room = omega arith;
    }

pub take_one-requires : goal.take_one-requires
take_one-requires c =
    let rs = c.args.shelf.now.records in
    let a = c.loop-number.after in
    let done = without c.args.fid (upto a rs) in
    let passed = without_upto a c.args.fid (upto a rs) (upto_passed a rs) in
    let inv = c.loop-number.invariant in
    let s = next_of rs done c.loop-number.shelf.records c.loop-number.index c.args.fid a c.last-last.ensures.rising passed inv.records inv.indexed c.last-last.result c.last-last.ensures.last c.in-Some.number c.in-Some.ensures.some in
    ap (is_numbered c.in-Some.number) (split_here rs done c.loop-number.shelf.records c.loop-number.index c.args.fid a c.last-last.ensures.rising passed inv.records inv.indexed c.in-Some.number s)
    ∙ numbered_at (done ++ s.between) s.found (beyond (Some c.in-Some.number) rs) c.in-Some.number s.is

pub loop-number-smaller : goal.loop-number-smaller
loop-number-smaller c =
    let rs = c.args.shelf.now.records in
    let a = c.loop-number.after in
    let passed = without_upto a c.args.fid (upto a rs) (upto_passed a rs) in
    let inv = c.loop-number.invariant in
    fewer_left c.args.fid a c.in-Some.number rs (next_of rs (without c.args.fid (upto a rs)) c.loop-number.shelf.records c.loop-number.index c.args.fid a c.last-last.ensures.rising passed inv.records inv.indexed c.last-last.result c.last-last.ensures.last c.in-Some.number c.in-Some.ensures.some)

pub loop-number-preserved : goal.loop-number-preserved
loop-number-preserved c =
    let rs = c.args.shelf.now.records in
    let a = c.loop-number.after in
    let n = c.in-Some.number in
    let f = c.args.fid in
    let done = without f (upto a rs) in
    let passed = without_upto a f (upto a rs) (upto_passed a rs) in
    let inv = c.loop-number.invariant in
    let s = next_of rs done c.loop-number.shelf.records c.loop-number.index f a c.last-last.ensures.rising passed inv.records inv.indexed c.last-last.result c.last-last.ensures.last n c.in-Some.ensures.some in
    let here = split_here rs done c.loop-number.shelf.records c.loop-number.index f a c.last-last.ensures.rising passed inv.records inv.indexed n s in
    let back = beyond (Some n) rs in
    let now : c.take_one.new.shelf.records ≡ (done ++ s.between) ++ back = c.take_one.ensures.records (done ++ s.between) s.found back here s.is in
    let loses = c.take_one.ensures.index (done ++ s.between) s.found back here s.is in
    record {
      records = now ∙ ap (λ l. l ++ back) (sym (ap (without f) s.front ∙ without_step f (upto a rs) s.between s.found s.quiet s.told));
      indexed = subst (CoversUpTo (last_number rs) c.take_one.new.index) (sym now)
          (lose_step (last_number rs) c.loop-number.index c.take_one.new.index (done ++ s.between) s.found back [] true (subst IsRising here inv.rising) (subst (CoversUpTo (last_number rs) c.loop-number.index) here inv.indexed) loses (λ g k. refl));
      past = beyond_twice (last_number rs) c.args.index.now c.loop-number.index c.take_one.new.index inv.past (lose_beyond (last_number rs) c.loop-number.index c.take_one.new.index s.found true (ap (is_upto (last_number rs)) s.is ∙ ap (λ l. is_upto l n) (sym c.last-last.ensures.last) ∙ c.in-Some.ensures.some.1) loses);
      rising = c.take_one.ensures.rising;
      room = omega (arith, inv.room, c.take_one.ensures.room);
    }

pub returns-clause-records : goal.returns-clause-records
returns-clause-records c =
    let rs = c.args.shelf.now.records in
    let a = c.loop-number.after in
    let f = c.args.fid in
    let passed = without_upto a f (upto a rs) (upto_passed a rs) in
    let inv = c.loop-number.invariant in
    let quiet = none_of rs (without f (upto a rs)) c.loop-number.shelf.records c.loop-number.index f a c.last-last.ensures.rising passed inv.records inv.indexed c.last-last.result c.last-last.ensures.last c.in_default.ensures.none in
    inv.records ∙ ap (λ l. without f (upto a rs) ++ l) (sym (without_quiet f (beyond a rs) quiet)) ∙ sym (without-append f (upto a rs) (beyond a rs)) ∙ ap (without f) (both_parts a rs)
