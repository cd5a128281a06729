use Rattle.std.proofs.Common.{sym, ◌∙◌}
use Rattle.coda_sending.proofs.Spelled.{answer_message, verdict_spelled}
use Rattle.coda_sending.proofs.spelling.can_be_posted.Goals as goal

pub returns-clause-posts : goal.returns-clause-posts
returns-clause-posts c = λ fits server client volume number s k v n. answer_message server client volume number c.args.answer.now s k v n (sym c.answer_fits.ensures ∙ fits)

pub returns-clause-takes : goal.returns-clause-takes
returns-clause-takes c = λ fits. verdict_spelled c.args.answer.now (sym c.answer_fits.ensures ∙ fits)
