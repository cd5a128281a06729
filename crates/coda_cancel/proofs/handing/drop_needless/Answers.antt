use Rattle.std.proofs.Common.{◌≡◌, ◌++◌, ◌∷◌, [], Some, sym, ap, ◌∙◌, subst, arith, refl}
use Rattle.std.proofs.lemmas.List.{append_assoc}
use Rattle.coda_cancel.specs.Cancel.{kept, debt}
use Rattle.coda_cancel.specs.Dropping.{drops}
use Rattle.coda_cancel.specs.Handing.{nothing}
use Rattle.coda_cancel.specs.Mentions.{CoversUpTo, is_upto, last_number}
use Rattle.coda_cancel.specs.Numbers.{IsRising}
use Rattle.coda_cancel.specs.Passing.{owed_to}
use Rattle.coda_cancel.specs.Shelved.{is_numbered}
use Rattle.coda_cancel.proofs.Passing.{owed_to-none}
use Rattle.coda_cancel.proofs.Staying.{front_stays, none_go, kept_stay, debt_stay, left_quiet}
use Rattle.coda_cancel.proofs.Walks.{upto, beyond, both_parts, upto_passed, fewer_left}
use Rattle.coda_cancel.proofs.Indexed.{kept_upto, next_of, none_of, split_here, numbered_at, lose_step, lose_beyond, beyond_twice, kept_replaces, list_step}
use Rattle.coda_cancel.proofs.Quiet.{kept_step, debt_step, kept_end, debt_end}
use Rattle.coda_cancel.proofs.handing.drop_needless.Goals as goal

pub loop-number-init : goal.loop-number-init
loop-number-init c =
    let rs = c.args.shelf.now.records in
    let t = drops c.args.op.now in
    let a = c.number_before-after.result in
    let stays = front_stays t rs c.in-Some.least a (sym c.requires.least ∙ c.in-Some.is) c.number_before-after.ensures in
    record {
      records = sym (both_parts a rs) ∙ ap (λ l. l ++ beyond a rs) (sym (kept_stay t (upto a rs) stays));
      owed = owed_to-none c.args.fid ∙ sym (debt_stay t (upto a rs) stays);
      indexed = c.requires.indexed;
      past = λ f n h. refl;
      rising = c.last-last.ensures.rising;
      room = omega arith;
    }

pub returns-in_default-clause-records : goal.returns-in_default-clause-records
returns-in_default-clause-records c =
    let rs = c.args.shelf.now.records in
    let t = drops c.args.op.now in
    sym (kept_stay t rs (none_go t rs (sym c.requires.least ∙ c.in_default.is)))

pub returns-in_default-clause-owed : goal.returns-in_default-clause-owed
returns-in_default-clause-owed c =
    let rs = c.args.shelf.now.records in
    let t = drops c.args.op.now in
    owed_to-none c.args.fid ∙ sym (debt_stay t rs (none_go t rs (sym c.requires.least ∙ c.in_default.is)))

pub pass-owed-requires-clause-there : goal.pass-owed-requires-clause-there
pass-owed-requires-clause-there c =
    let rs = c.args.shelf.now.records in
    let a = c.loop-number.after in
    let done = kept (drops c.args.op.now) nothing (upto a rs) in
    let passed = kept_upto a (drops c.args.op.now) nothing (upto a rs) (upto_passed a rs) in
    let inv = c.loop-number.invariant in
    let s = next_of rs done c.loop-number.shelf.records c.loop-number.index c.args.fid a c.last-last.ensures.rising passed inv.records inv.indexed c.last-last.result c.last-last.ensures.last c.in-Some-next_until.number c.in-Some-next_until.ensures.some in
    ap (is_numbered c.in-Some-next_until.number) (split_here rs done c.loop-number.shelf.records c.loop-number.index c.args.fid a c.last-last.ensures.rising passed inv.records inv.indexed c.in-Some-next_until.number s)
    ∙ numbered_at (done ++ s.between) s.found (beyond (Some c.in-Some-next_until.number) rs) c.in-Some-next_until.number s.is

pub loop-number-smaller : goal.loop-number-smaller
loop-number-smaller c =
    let rs = c.args.shelf.now.records in
    let a = c.loop-number.after in
    let done = kept (drops c.args.op.now) nothing (upto a rs) in
    let passed = kept_upto a (drops c.args.op.now) nothing (upto a rs) (upto_passed a rs) in
    let inv = c.loop-number.invariant in
    fewer_left c.args.fid a c.in-Some-next_until.number rs (next_of rs done c.loop-number.shelf.records c.loop-number.index c.args.fid a c.last-last.ensures.rising passed inv.records inv.indexed c.last-last.result c.last-last.ensures.last c.in-Some-next_until.number c.in-Some-next_until.ensures.some)

pub loop-number-preserved : goal.loop-number-preserved
loop-number-preserved c =
    let rs = c.args.shelf.now.records in
    let a = c.loop-number.after in
    let n = c.in-Some-next_until.number in
    let t = drops c.args.op.now in
    let front = upto a rs in
    let done = kept t nothing front in
    let passed = kept_upto a t nothing front (upto_passed a rs) in
    let inv = c.loop-number.invariant in
    let s = next_of rs done c.loop-number.shelf.records c.loop-number.index c.args.fid a c.last-last.ensures.rising passed inv.records inv.indexed c.last-last.result c.last-last.ensures.last n c.in-Some-next_until.ensures.some in
    let here = split_here rs done c.loop-number.shelf.records c.loop-number.index c.args.fid a c.last-last.ensures.rising passed inv.records inv.indexed n s in
    let back = beyond (Some n) rs in
    let d = owed_to c.args.fid c.loop-number.owed in
    let new = kept t d (s.found ∷ []) in
    let now : c.pass-owed.new.shelf.records ≡ ((done ++ s.between) ++ new) ++ back = c.pass-owed.ensures.records (done ++ s.between) s.found back here s.is in
    let loses = c.pass-owed.ensures.index (done ++ s.between) s.found back here s.is in
    record {
      records = now ∙ list_step done s.between new back ∙ ap (λ l. l ++ back) (sym (ap (kept t nothing) s.front ∙ kept_step c.args.op.now c.args.fid c.requires.own front s.between s.found c.loop-number.owed s.quiet inv.owed));
      owed = c.pass-owed.ensures.owed (done ++ s.between) s.found back here s.is ∙ sym (ap (debt t nothing) s.front ∙ debt_step c.args.op.now c.args.fid c.requires.own front s.between s.found c.loop-number.owed s.quiet inv.owed);
      indexed = subst (CoversUpTo (last_number rs) c.pass-owed.new.index) (sym (now ∙ append_assoc (done ++ s.between) new back))
          (lose_step (last_number rs) c.loop-number.index c.pass-owed.new.index (done ++ s.between) s.found back new (t s.found.op) (subst IsRising here inv.rising) (subst (CoversUpTo (last_number rs) c.loop-number.index) here inv.indexed) loses (kept_replaces t d s.found));
      past = beyond_twice (last_number rs) c.args.index.now c.loop-number.index c.pass-owed.new.index inv.past (lose_beyond (last_number rs) c.loop-number.index c.pass-owed.new.index s.found (t s.found.op) (ap (is_upto (last_number rs)) s.is ∙ ap (λ l. is_upto l n) (sym c.last-last.ensures.last) ∙ c.in-Some-next_until.ensures.some.1) loses);
      rising = c.pass-owed.ensures.rising;
      room = omega (arith, inv.room, c.pass-owed.ensures.room);
    }

pub returns-clause-records : goal.returns-clause-records
returns-clause-records c =
    let rs = c.args.shelf.now.records in
    let a = c.loop-number.after in
    let t = drops c.args.op.now in
    let passed = kept_upto a t nothing (upto a rs) (upto_passed a rs) in
    let inv = c.loop-number.invariant in
    let quiet = left_quiet rs a c.args.gone.end c.args.fid c.last-last.ensures.rising c.requires.end _ (none_of rs (kept t nothing (upto a rs)) c.loop-number.shelf.records c.loop-number.index c.args.fid a c.last-last.ensures.rising passed inv.records inv.indexed c.last-last.result c.last-last.ensures.last) c.in_default-next_until.ensures.none in
    inv.records ∙ kept_end c.args.op.now c.args.fid c.requires.own (upto a rs) (beyond a rs) c.loop-number.owed quiet inv.owed ∙ ap (kept t nothing) (both_parts a rs)

pub returns-clause-owed : goal.returns-clause-owed
returns-clause-owed c =
    let rs = c.args.shelf.now.records in
    let a = c.loop-number.after in
    let t = drops c.args.op.now in
    let passed = kept_upto a t nothing (upto a rs) (upto_passed a rs) in
    let inv = c.loop-number.invariant in
    let quiet = left_quiet rs a c.args.gone.end c.args.fid c.last-last.ensures.rising c.requires.end _ (none_of rs (kept t nothing (upto a rs)) c.loop-number.shelf.records c.loop-number.index c.args.fid a c.last-last.ensures.rising passed inv.records inv.indexed c.last-last.result c.last-last.ensures.last) c.in_default-next_until.ensures.none in
    debt_end c.args.op.now c.args.fid c.requires.own (upto a rs) (beyond a rs) c.loop-number.owed quiet inv.owed ∙ ap (debt t nothing) (both_parts a rs)
