use Rattle.std.proofs.Common.{◌≡◌, ◌+◌, [], ◌∷◌, List, Option, Some, None, drop, length, cond, sym, ap, ◌∙◌, arith}
use Rattle.std.specs.Option.{IfSome, IfNone}
use Rattle.std.proofs.lemmas.Bool.{le-leb}
use Rattle.std.proofs.lemmas.List.{drop-drop}
use Rattle.coda_fid.specs.declared.op.Record.{Record}
use Rattle.coda_cml.specs.Regrouping.{leading}
use Rattle.coda_cml.proofs.regrouping.take_upto.Goals as goal

-- where there is a first record, taking it leaves the others
left_first : {A : Type 0} (now : A → Record) (o : Option A) (old new : List Record) (rec : Record) → old ≡ rec ∷ drop 1 old → IfSome o (λ x. old ≡ now x ∷ new) → IfNone o (old ≡ []) → new ≡ drop 1 old
left_first now (Some x) old new rec here some none = ap (drop 1) (sym some)
left_first now None old new rec here some none = absurd cc

pub overflow_add-count : goal.overflow_add-count
overflow_add-count c =
    let some = ap length c.in-Some.ensures.some in
    omega (arith, some, c.loop-record.invariant.within, c.len-all.ensures)

pub loop-record-preserved : goal.loop-record-preserved
loop-record-preserved c =
    let here = c.in-Some.ensures.some in
    let left = left_first (λ x. x.now) c.take_first.result c.loop-record.records c.take_first.new.self c.in-Some.record.now here c.take_first.ensures.some c.take_first.ensures.none in
    let one : leading c.args.number c.loop-record.records ≡ 1 + leading c.args.number (drop 1 c.loop-record.records) =
    ap (leading c.args.number) here ∙ ap (λ b. cond b (1 + leading c.args.number (drop 1 c.loop-record.records)) 0) (le-leb c.in-Some.record.now.number c.args.number (omega (arith, c.if-record-number.false))) in
    let less = ap length here in
    let same = ap (leading c.args.number) left in
    let short = ap length left in
    record {
      same = omega (arith, one, same, c.loop-record.invariant.same);
      left = left ∙ ap (drop 1) c.loop-record.invariant.left ∙ drop-drop 1 c.loop-record.count c.args.records.now;
      within = omega (arith, less, short, c.loop-record.invariant.within);
    }
