use Rattle.std.proofs.Common.{◌≡◌, ◌+◌, ℕ, Ok, refl, sym, ap, ◌∙◌, subst}
use Rattle.std.specs.Prelude.{IfOk}
use Rattle.coda_cml.specs.State.{LogState}
use Rattle.coda_venus.specs.Keeping.{freeze_of, next_chunk, DoesKeep}
use Rattle.coda_venus.specs.History.{state_of}
use Rattle.coda_matching.specs.Clients.{journal_by}
use Rattle.coda_sending.proofs.Endings.{volume_by, frozen_by, log_by, sent_again, froze_now}
use Rattle.coda_sending.proofs.freezing.freeze_for.Goals as goal

pub returns-in-Some-clause-ends : goal.returns-in-Some-clause-ends
returns-in-Some-clause-ends g c = λ header history up is.
    let told = g.D.Disk.told in
    let frozen = sym (frozen_by told header history c.args.venus.now c.args.volume c.frozen.result up is c.frozen.ensures) ∙ c.in-Some.is in
    sent_again told header history c.args.venus.now c.args.venus.now c.args.volume up c.args.now c.args.window c.args.server c.in-Some.chunk c.number_for.result frozen c.number_for.ensures refl

pub returns-in-None-clause-ends : goal.returns-in-None-clause-ends
returns-in-None-clause-ends g c = λ header history up is.
    let told = g.D.Disk.told in
    let volume = c.args.volume in
    let frozen = sym (frozen_by told header history c.args.venus.now volume c.frozen.result up is c.frozen.ensures) ∙ c.in-None.is in
    let number : (b : ℕ) → c.freeze.result ≡ Ok b → b ≡ (volume_by header history volume).chunks + 1 = λ b ok.
    let are = c.freeze.ensures.number (state_of header (journal_by history)) up.state in
    subst (λ r. IfOk r (λ n. n ≡ ((state_of header (journal_by history)).volumes volume).log.chunks + 1)) ok are ∙ ap (λ (l : LogState). l.chunks + 1) (log_by header history volume is) in
    froze_now told header history c.args.venus.now c.freeze.new.self volume up c.args.now c.args.window c.args.server c.freeze.result number frozen
    (subst (λ (l : LogState). DoesKeep told header c.args.venus.now (journal_by history) (freeze_of volume c.args.server (next_chunk l c.args.now c.args.window)) c.freeze.new.self c.freeze.result) (log_by header history volume is)
    (c.freeze.ensures.keeps header (journal_by history) up))
