use Rattle.std.proofs.Common.{◌&&◌, sym, ap, ◌∙◌}
use Rattle.coda_sending.specs.Spelling.{reason_fits, answer_fits}
use Rattle.coda_sending.proofs.Spelled.{applied_fits, conflict_fits, counts_fit}
use Rattle.coda_sending.proofs.spelling.answer_fits.Goals as goal

pub returns-in-Applied : goal.returns-in-Applied
returns-in-Applied c = sym (ap answer_fits c.in-Applied.is ∙ applied_fits)

pub returns-then-number_fits : goal.returns-then-number_fits
returns-then-number_fits c =
    c.reason_fits.ensures
    ∙ sym (ap answer_fits c.in-Conflict.is ∙ conflict_fits c.in-Conflict.number c.in-Conflict.why ∙ ap (λ b. b && reason_fits c.in-Conflict.why) (sym c.number_fits.ensures ∙ c.if-number_fits.true))

pub returns-else-number_fits : goal.returns-else-number_fits
returns-else-number_fits c =
    c.if-number_fits.false
    ∙ sym (ap answer_fits c.in-Conflict.is ∙ conflict_fits c.in-Conflict.number c.in-Conflict.why ∙ ap (λ b. b && reason_fits c.in-Conflict.why) (sym c.number_fits.ensures ∙ c.if-number_fits.false))

pub returns-in-Behind : goal.returns-in-Behind
returns-in-Behind c = c.last_fits.ensures ∙ sym (ap answer_fits c.in-Behind.is ∙ (counts_fit c.in-Behind.last).0)

pub returns-in-Old : goal.returns-in-Old
returns-in-Old c = c.last_fits-in-Old.ensures ∙ sym (ap answer_fits c.in-Old.is ∙ (counts_fit c.in-Old.last).1)
