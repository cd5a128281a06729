use Rattle.std.proofs.Common.{◌≡◌, true, ap, ◌∙◌, sym}
use Rattle.coda_plain.specs.Decisions.{Last}
use Rattle.coda_replica.specs.Answers.{is_next}
use Rattle.coda_replica.specs.State.{last_for}
use Rattle.coda_replica.proofs.Decides.{next_decided}
use Rattle.coda_replica.proofs.replica.Replica.decide.Goals as goal

pub returns-clause-decides : goal.returns-clause-decides
returns-clause-decides g c = λ header history up.
    let old = c.args.self.now in
    let next : is_next (last_for old.decider c.args.client) c.args.number ≡ true = ap (λ (l : Last). is_next l c.args.number) (sym c.last_decision-last.ensures) ∙ sym c.is_next.ensures ∙ c.if-not-is_next.false in
    next_decided g.D.Disk.told header old history c.args.client c.args.number c.args.recs.now up next c.decide_next.new.self c.in_ok-verdict.verdict c.answer_of.result c.answer_of.ensures (c.in_ok-verdict.ensures.decides header history up next)
