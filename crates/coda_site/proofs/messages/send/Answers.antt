use Rattle.std.proofs.Common.{sym, ap, ◌∙◌}
use Rattle.coda_actors.specs.Clients.{client_form}
use Rattle.coda_actors.specs.Slots.{is_up}
use Rattle.coda_crew.specs.Crews.{slot_at}
use Rattle.coda_site.proofs.Becomings.{missing_none}
use Rattle.coda_site.proofs.Stages.{if_ok, said_ok}
use Rattle.coda_site.proofs.Holders.{names_in, none_named, a_place, server_at_place}
use Rattle.coda_site.proofs.SentChunks.{send_missing, send_down, send_cut, send_happens}
use Rattle.coda_site.proofs.messages.send.Goals as goal

pub returns-in-Some-clause-does : goal.returns-in-Some-clause-does
returns-in-Some-clause-does g c = λ cell shows.
    send_missing g.B.D.Disk.told (g.B.Bay.out c.args._bay.now) (g.B.Bay.has c.args._bay.now) cell c.args.site.now shows c.args.client c.args.volume c.args.server c.args.window c.missing_holder.ensures.disk (g.B.Bay.answered c.args._bay.now)
    c.missing_holder.result c.in-Some.number c.in-Some.is c.missing_holder.ensures.missing c.in_ok-no_such_actor.field-0 c.in_ok-no_such_actor.ensures

pub returns-then-not-is_up-clause-does : goal.returns-then-not-is_up-clause-does
returns-then-not-is_up-clause-does g c = λ cell shows.
    send_down g.B.D.Disk.told (g.B.Bay.out c.args._bay.now) (g.B.Bay.has c.args._bay.now) cell c.args.site.now shows c.args.client c.args.volume c.args.server c.args.window c.missing_holder.ensures.disk (g.B.Bay.answered c.args._bay.now)
    (none_named g.B.D.Disk.told (g.B.Bay.out c.args._bay.now) (g.B.Bay.has c.args._bay.now) cell c.args.site.now shows c.args.client c.args.volume c.args.server c.missing_holder.ensures.disk c.missing_holder.result c.in_default.is c.missing_holder.ensures.missing)
    c.refuse.result c.refuse.ensures (ap (λ n. is_up (client_form g.B.D.Disk.told) (slot_at c.args.site.now.clients n)) (sym c.from.ensures) ∙ sym c.is_up.ensures ∙ c.if-not-is_up.true)

pub returns-then-not-is_linked-clause-does : goal.returns-then-not-is_linked-clause-does
returns-then-not-is_linked-clause-does g c = λ cell shows.
    let none = none_named g.B.D.Disk.told (g.B.Bay.out c.args._bay.now) (g.B.Bay.has c.args._bay.now) cell c.args.site.now shows c.args.client c.args.volume c.args.server c.missing_holder.ensures.disk c.missing_holder.result c.in_default.is c.missing_holder.ensures.missing in
    let place = a_place c.args.site.now c.args.client c.args.volume c.args.server (missing_none c.missing_holder.result (names_in c.args.site.now c.args.client c.args.volume c.args.server) c.in_default.is c.missing_holder.ensures.missing) in
    let home = server_at_place g.B.D.Disk.told (g.B.Bay.out c.args._bay.now) (g.B.Bay.has c.args._bay.now) cell c.args.site.now shows c.args.client c.args.volume c.args.server c.missing_holder.ensures.disk none place.0 place.1 in
    let on = ap (λ n. is_up (client_form g.B.D.Disk.told) (slot_at c.args.site.now.clients n)) (sym c.from.ensures) ∙ sym c.is_up.ensures ∙ c.if-not-is_up.false in
    send_happens g.B.D.Disk.told (g.B.Bay.out c.args._bay.now) (g.B.Bay.has c.args._bay.now) cell c.args.site.now shows c.args.client c.args.volume c.args.server c.args.window c.missing_holder.ensures.disk (g.B.Bay.answered c.args._bay.now) none on
    c.refuse-then-not-is_linked.result c.args.site.now
    (send_cut g.B.D.Disk.told (g.B.Bay.out c.args._bay.now) (g.B.Bay.has c.args._bay.now) cell c.args.site.now shows c.args.client c.args.volume c.args.server c.args.window c.missing_holder.ensures.disk on place.0 place.1 home
    (sym c.is_linked.ensures ∙ c.if-not-is_linked.true) c.refuse-then-not-is_linked.result c.refuse-then-not-is_linked.ensures)

pub returns-clause-does : goal.returns-clause-does
returns-clause-does g c = λ cell shows.
    let none = none_named g.B.D.Disk.told (g.B.Bay.out c.args._bay.now) (g.B.Bay.has c.args._bay.now) cell c.args.site.now shows c.args.client c.args.volume c.args.server c.missing_holder.ensures.disk c.missing_holder.result c.in_default.is c.missing_holder.ensures.missing in
    let place = a_place c.args.site.now c.args.client c.args.volume c.args.server (missing_none c.missing_holder.result (names_in c.args.site.now c.args.client c.args.volume c.args.server) c.in_default.is c.missing_holder.ensures.missing) in
    let home = server_at_place g.B.D.Disk.told (g.B.Bay.out c.args._bay.now) (g.B.Bay.has c.args._bay.now) cell c.args.site.now shows c.args.client c.args.volume c.args.server c.missing_holder.ensures.disk none place.0 place.1 in
    let on = ap (λ n. is_up (client_form g.B.D.Disk.told) (slot_at c.args.site.now.clients n)) (sym c.from.ensures) ∙ sym c.is_up.ensures ∙ c.if-not-is_up.false in
    if_ok _ c.send_up.result (λ reply e.
    send_happens g.B.D.Disk.told (g.B.Bay.out c.args._bay.now) (g.B.Bay.has c.args._bay.now) cell c.args.site.now shows c.args.client c.args.volume c.args.server c.args.window c.missing_holder.ensures.disk (g.B.Bay.answered c.args._bay.now) none on
    reply c.send_up.new.site (said_ok _ c.send_up.result reply e (c.send_up.ensures.does cell place.0 shows place.1 home (sym c.is_linked.ensures ∙ c.if-not-is_linked.false))))
