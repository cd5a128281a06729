use Rattle.std.proofs.Common.{subst}
use Rattle.coda_spelling.specs.Spelled.{AreSpelled}
use Rattle.coda_venus.specs.Held.{Held}
use Rattle.coda_venus.proofs.SpelledStates.{state_spelled}
use Rattle.coda_venus.proofs.SendableLogs.{history_sendable}
use Rattle.coda_venus.proofs.recovering.client_of.Goals as goal

pub returns-clause-spelled : goal.returns-clause-spelled
returns-clause-spelled c =
    let header = c.args.header.now in
    let are = c.in_ok-enter_payloads.ensures.ok header c.in_ok-client.ensures.new in
    subst (λ (h : Held). AreSpelled h.nodes) are.leaves.held (state_spelled header are.history c.requires.numbered are.lawful)

pub returns-clause-sendable : goal.returns-clause-sendable
returns-clause-sendable c =
    let header = c.args.header.now in
    let are = c.in_ok-enter_payloads.ensures.ok header c.in_ok-client.ensures.new in
    history_sendable header are.history c.enter_payloads.new.self are.lawful are.leaves
