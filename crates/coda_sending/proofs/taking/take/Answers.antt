use Rattle.std.proofs.Common.{refl, sym, ◌∙◌}
use Rattle.coda_matching.specs.Clients.{journal_by}
use Rattle.coda_sending.proofs.Endings.{frozen_by, settled_ends, left_ends}
use Rattle.coda_sending.proofs.taking.take.Goals as goal

pub returns-in-Some-clause-ends : goal.returns-in-Some-clause-ends
returns-in-Some-clause-ends g c = λ header history up is.
    settled_ends g.D.Disk.told header history c.args.venus.now c.settle.new.self c.args.volume c.args.number c.args.answer.now c.settle.result up c.in-Some.verdict (sym c.verdict_in.ensures ∙ c.in-Some.is) is
    (c.settle.ensures.keeps header (journal_by history) up)

pub returns-in-None-clause-ends : goal.returns-in-None-clause-ends
returns-in-None-clause-ends g c = λ header history up is.
    left_ends g.D.Disk.told header history c.args.venus.now c.args.venus.now c.args.volume c.args.number c.args.answer.now c.found_frozen.result up c.frozen.result (sym c.verdict_in.ensures ∙ c.in-None.is)
    (frozen_by g.D.Disk.told header history c.args.venus.now c.args.volume c.frozen.result up is c.frozen.ensures) c.found_frozen.ensures refl
