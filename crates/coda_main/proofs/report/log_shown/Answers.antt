use Rattle.std.proofs.Common.{◌≡◌, sym, ◌∙◌, ap, subst, rules}
use Rattle.std.specs.Prelude.{MatchOption, Some, None}
use Rattle.std.proofs.lemmas.Result.{IfOk-weaker}
use Rattle.coda_cell.specs.State.{log_of, new_volume}
use Rattle.coda_report.specs.LogTexts.{log_text}
use Rattle.coda_main.proofs.report.log_shown.Goals as goal

pub returns-in-Some-clause-said : goal.returns-in-Some-clause-said
returns-in-Some-clause-said g c = IfOk-weaker c.log_text.result _ _ (λ text is. (c.in-Some.log.now, is)) c.log_text.ensures.text

pub returns-in-Some-clause-shown : goal.returns-in-Some-clause-shown
returns-in-Some-clause-shown g c =
    let found : c.log.result ≡ Some c.in-Some.log = search rules in
    IfOk-weaker c.log_text.result _ _ (λ text is plain shows up client known.
    is ∙ ap log_text (subst (λ o. MatchOption o (log_of (client.volumes c.args.volume) ≡ log_of new_volume) (λ log. log.now ≡ log_of (client.volumes c.args.volume)))
    found (c.log.ensures.shown plain shows up client known))) c.log_text.ensures.text

pub returns-in-None-clause-shown : goal.returns-in-None-clause-shown
returns-in-None-clause-shown g c =
    let found : c.log.result ≡ None = search rules in
    IfOk-weaker c.log_text-in-None-2.result (λ text. text ≡ log_text c.new.result) _ (λ text is plain shows up client known.
    is ∙ ap log_text (c.new.ensures.log ∙ sym (subst (λ o. MatchOption o (log_of (client.volumes c.args.volume) ≡ log_of new_volume) (λ log. log.now ≡ log_of (client.volumes c.args.volume)))
    found (c.log.ensures.shown plain shows up client known)))) c.log_text-in-None-2.ensures.text
