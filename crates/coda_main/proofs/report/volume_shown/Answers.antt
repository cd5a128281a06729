use Rattle.std.proofs.Common.{inr}
use Rattle.std.proofs.lemmas.Result.{IfOk-weaker}
use Rattle.coda_main.proofs.report.volume_shown.Goals as goal

pub returns-in-Some-clause-said : goal.returns-in-Some-clause-said
returns-in-Some-clause-said g c = IfOk-weaker c.volume_text.result _ _ (λ text is. inr (c.in-Some.tree.now, is)) c.volume_text.ensures.text
