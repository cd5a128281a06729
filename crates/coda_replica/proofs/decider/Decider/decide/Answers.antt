use Rattle.std.proofs.Common.{◌≡◌, true, sym, ap, ◌∙◌}
use Rattle.coda_certify.specs.declared.verdict.Verdict.{Verdict}
use Rattle.coda_plain.specs.Decisions.{Last}
use Rattle.coda_replica.specs.State.{ReplicaState, last_for}
use Rattle.coda_replica.specs.Answers.{is_next, answer_of}
use Rattle.coda_replica.specs.Comes.{Chunk}
use Rattle.coda_replica.proofs.Coming.{decided_comes}
use Rattle.coda_replica.proofs.decider.Decider.decide.Goals as goal

pub returns-clause-history : goal.returns-clause-history
returns-clause-history c past span is sent =
    let inside : ReplicaState = record { server = c.self.inside.server; tree = c.self.inside.volume; lasts = c.self.inside.lasts } in
    let r : ReplicaState = c.args.self.now in
    let chunk : Chunk = record { client = c.args.client; number = c.args.number; span = span } in
    let follows_inside : is_next (last_for inside c.args.client) c.args.number ≡ true = ap (λ (l : Last). is_next l c.args.number) (sym c.last-last.ensures) ∙ sym c.is_next.ensures ∙ c.if-not-is_next.false in
    let follows : is_next (last_for r c.args.client) c.args.number ≡ true = sym (ap (λ (s : ReplicaState). is_next (last_for s c.args.client) c.args.number) c.self.view_is) ∙ follows_inside in
    decided_comes r past chunk c.args.recs.now c.answer_of.result c.decide_next.new.self c.decide_next.ensures.volume is sent follows c.in_ok-verdict.ensures.ok
    (c.answer_of.ensures ∙ ap (λ (v : Verdict). answer_of v) c.in_ok-verdict.ensures.verdict)
