use Rattle.std.proofs.Common.{◌∙◌, sym}
use Rattle.coda_text.proofs.Digits.{number_goes, number_stops, number_ends}
use Rattle.coda_text.proofs.numbers.number_from_digits.Goals as goal

pub returns-in_err-number : goal.returns-in_err-number
returns-in_err-number c = c.from_residual.ensures ∙ sym (c.loop-digit.invariant ∙ number_stops c.args.word.now c.loop-digit.digit-index c.loop-digit.number c.loop-digit-test.true (sym c.in_err-number.ensures))

pub loop-digit-preserved : goal.loop-digit-preserved
loop-digit-preserved c = c.loop-digit.invariant ∙ number_goes c.args.word.now c.loop-digit.digit-index c.loop-digit.number c.in_ok-number.number c.loop-digit-test.true (sym c.in_ok-number.ensures)

pub returns : goal.returns
returns c = sym (c.loop-digit.invariant ∙ number_ends c.args.word.now c.loop-digit.digit-index c.loop-digit.number c.loop-digit-test.false)
