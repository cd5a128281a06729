use Rattle.std.proofs.Common.{◌≡◌, ◌+◌, ◌∷◌, ◌++◌, [], Some, sym, ap, ◌∙◌, subst, arith}
use Rattle.std.proofs.lemmas.List.{append-nil}
use Rattle.coda_cancel.specs.Cancel.{add}
use Rattle.coda_cancel.specs.Numbers.{numbers, least}
use Rattle.coda_cancel.specs.Mentions.{is_mentioned, CoversUpTo, IsIndexOf}
use Rattle.coda_cancel.specs.Passing.{goes, new_last, undropped}
use Rattle.coda_cancel.specs.Weights.{total_weight}
use Rattle.coda_cancel.proofs.Rising.{rising_push}
use Rattle.coda_cancel.proofs.Mentioned.{ok_at}
use Rattle.coda_cancel.proofs.Entered.{below_silent, pushed_indexed, added_indexed, dropped_goes, weight_added}
use Rattle.coda_cancel.proofs.entering.add_indexed.Goals as goal

pub note-requires : goal.note-requires
note-requires c f = c.requires.indexed f c.args.rec.number ∙ below_silent c.args.rec.number c.args.shelf.now.records f c.requires.later

pub add_reserved-requires-clause-indexed : goal.add_reserved-requires-clause-indexed
add_reserved-requires-clause-indexed c f n h =
    let gains = ok_at c.note.result (sym c.is_err-else-is_err.ensures.value ∙ c.if-is_err-2.false) c.note.ensures.ok in
    pushed_indexed c.args.index.now c.note.new.index c.args.shelf.now.records c.args.rec c.requires.indexed gains f n
    ∙ ap (λ l. is_mentioned (l ++ c.args.rec ∷ []) f n) (sym c.reserve.ensures.records)

pub returns-clause-indexed : goal.returns-clause-indexed
returns-clause-indexed c =
    let rs = c.args.shelf.now.records in
    let rec = c.args.rec in
    let step : c.add_reserved.new.shelf.records ≡ add rs rec = c.add_reserved.ensures.records ∙ ap (λ l. add l rec) c.reserve.ensures.records in
    let gains = ok_at c.note.result (sym c.is_err-else-is_err.ensures.value ∙ c.if-is_err-2.false) c.note.ensures.ok in
    subst (IsIndexOf c.add_reserved.new.index) (append-nil (add rs rec) ∙ sym step)
    (added_indexed c.note.new.index rs rec [] (rising_push rs rec c.requires.rising c.requires.later) (pushed_indexed c.args.index.now c.note.new.index rs rec c.requires.indexed gains) c.add_reserved.new.index (subst (CoversUpTo (Some rec.number) c.add_reserved.new.index) step c.add_reserved.ensures.indexed) c.add_reserved.ensures.beyond)

pub returns-clause-weighed : goal.returns-clause-weighed
returns-clause-weighed c =
    let rs = c.args.shelf.now.records in
    let rec = c.args.rec in
    let step : c.add_reserved.new.shelf.records ≡ add rs rec = c.add_reserved.ensures.records ∙ ap (λ l. add l rec) c.reserve.ensures.records in
    let gone = c.leaving_with-gone.ensures in
    let goneweight = subst (λ b. c.leaving_with-gone.result.weight + total_weight (undropped (goes b rec.op) rs) ≡ total_weight rs) gone.cancelled gone.weight in
    let own = c.added.ensures ∙ ap (λ b. total_weight (new_last b rec)) gone.cancelled in
    let sum = weight_added rs rec c.leaving_with-gone.result.weight goneweight in
    let same = ap total_weight step in
    let weight = c.in-Some.ensures in
    omega (arith, own, sum, same, weight, c.requires.weighed)

pub returns-clause-least : goal.returns-clause-least
returns-clause-least c =
    let rs = c.args.shelf.now.records in
    let gone = c.leaving_with-gone.ensures in
    gone.least ∙ ap (λ b. least (numbers (goes b c.args.rec.op) rs)) gone.cancelled ∙ ap least (dropped_goes rs c.args.rec)
