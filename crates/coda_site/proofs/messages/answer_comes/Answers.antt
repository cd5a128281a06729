use Rattle.std.proofs.Common.{sym, ap, ◌∙◌}
use Rattle.coda_actors.specs.Clients.{client_form}
use Rattle.coda_actors.specs.Slots.{is_up}
use Rattle.coda_crew.specs.Crews.{slot_at}
use Rattle.coda_site.proofs.Stages.{if_ok, said_ok}
use Rattle.coda_site.proofs.Holders.{none_named}
use Rattle.coda_site.proofs.Delivered.{answer_missing, answer_down, answer_came}
use Rattle.coda_site.proofs.messages.answer_comes.Goals as goal

pub returns-in-Some-clause-does : goal.returns-in-Some-clause-does
returns-in-Some-clause-does g c = λ cell shows.
    answer_missing g.B.D.Disk.told (g.B.Bay.out c.args._bay.now) (g.B.Bay.has c.args._bay.now) cell c.args.site.now shows c.args.client c.args.volume c.args.server c.missing_holder.ensures.disk (g.B.Bay.answered c.args._bay.now) c.args.number c.args.answer
    c.missing_holder.result c.in-Some.number c.in-Some.is c.missing_holder.ensures.missing c.in_ok-no_such_actor.field-0 c.in_ok-no_such_actor.ensures

pub returns-then-not-is_up-clause-does : goal.returns-then-not-is_up-clause-does
returns-then-not-is_up-clause-does g c = λ cell shows.
    answer_down g.B.D.Disk.told (g.B.Bay.out c.args._bay.now) (g.B.Bay.has c.args._bay.now) cell c.args.site.now shows c.args.client c.args.volume c.args.server c.missing_holder.ensures.disk (g.B.Bay.answered c.args._bay.now) c.args.number c.args.answer
    (none_named g.B.D.Disk.told (g.B.Bay.out c.args._bay.now) (g.B.Bay.has c.args._bay.now) cell c.args.site.now shows c.args.client c.args.volume c.args.server c.missing_holder.ensures.disk c.missing_holder.result c.in_default.is c.missing_holder.ensures.missing)
    c.refuse.result c.refuse.ensures (ap (λ n. is_up (client_form g.B.D.Disk.told) (slot_at c.args.site.now.clients n)) (sym c.from.ensures) ∙ sym c.is_up.ensures ∙ c.if-not-is_up.true)

pub returns-clause-does : goal.returns-clause-does
returns-clause-does g c = λ cell shows.
    let none = none_named g.B.D.Disk.told (g.B.Bay.out c.args._bay.now) (g.B.Bay.has c.args._bay.now) cell c.args.site.now shows c.args.client c.args.volume c.args.server c.missing_holder.ensures.disk c.missing_holder.result c.in_default.is c.missing_holder.ensures.missing in
    if_ok _ c.take_up.result (λ reply e.
    answer_came g.B.D.Disk.told (g.B.Bay.out c.args._bay.now) (g.B.Bay.has c.args._bay.now) cell c.args.site.now shows c.args.client c.args.volume c.args.server c.missing_holder.ensures.disk (g.B.Bay.answered c.args._bay.now) c.args.number c.args.answer
    none (ap (λ n. is_up (client_form g.B.D.Disk.told) (slot_at c.args.site.now.clients n)) (sym c.from.ensures) ∙ sym c.is_up.ensures ∙ c.if-not-is_up.false) reply c.take_up.new.site
    (said_ok _ c.take_up.result reply e (c.take_up.ensures.does cell shows none)))
