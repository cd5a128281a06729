use Rattle.std.proofs.Common.{◌≡◌, refl, sym, ◌∙◌, subst, rules}
use Rattle.std.specs.Prelude.{Some}
use Rattle.std.proofs.lemmas.Result.{IfOk-weaker}
use Rattle.coda_script.specs.declared.reply.Reply.{Reply}
use Rattle.coda_script.specs.declared.reply.Reply.TheVariants.{ShowLog}
use Rattle.coda_shelves.specs.Cells.{state_of}
use Rattle.coda_runs.specs.Shown.{CanShow}
use Rattle.coda_runs.specs.Texts.{shown_log, text_of}
use Rattle.coda_main.proofs.report.text_of.Goals as goal

pub returns-in-ShowLog-clause-printed : goal.returns-in-ShowLog-clause-printed
returns-in-ShowLog-clause-printed g c =
    let is : c.args.reply.now ≡ ShowLog c.in-ShowLog.client c.in-ShowLog.volume = search rules in
    IfOk-weaker c.log_shown.result _ _ (λ text said plain shows can.
    let Fits = λ (reply : Reply). CanShow plain reply → text ≡ text_of (state_of plain) reply in
    subst Fits (sym is) (λ able. said plain shows able.0 able.1.0 able.1.1 ∙ subst (λ o. shown_log (Some able.1.0) c.in-ShowLog.volume ≡ shown_log o c.in-ShowLog.volume) (sym able.1.1) refl) can) c.log_shown.ensures.shown
