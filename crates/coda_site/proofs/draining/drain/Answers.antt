use Rattle.std.proofs.Common.{sym, ◌∙◌, refl}
use Rattle.coda_site.proofs.Stages.{if_ok, said_ok}
use Rattle.coda_site.proofs.Holders.{none_named, server_at_place}
use Rattle.coda_site.proofs.Drainings.{drain_missing, drain_down, drain_cut, drain_happens}
use Rattle.coda_site.proofs.draining.drain.Goals as goal

pub returns-in-Some-clause-does : goal.returns-in-Some-clause-does
returns-in-Some-clause-does g c = λ cell shows.
    drain_missing g.B.D.Disk.told (g.B.Bay.out c.args._bay.now) (g.B.Bay.has c.args._bay.now) cell c.args.site.now shows c.args.client c.args.volume c.args.server c.args.window c.missing_holder.ensures.disk (g.B.Bay.answered c.args._bay.now)
    c.missing_holder.result c.in-Some.number c.in-Some.is c.missing_holder.ensures.missing c.in_ok-no_such_actor.field-0 c.in_ok-no_such_actor.ensures

pub returns-then-not-are_up-clause-does : goal.returns-then-not-are_up-clause-does
returns-then-not-are_up-clause-does g c = λ cell shows.
    drain_down g.B.D.Disk.told (g.B.Bay.out c.args._bay.now) (g.B.Bay.has c.args._bay.now) cell c.args.site.now shows c.args.client c.args.volume c.args.server c.args.window c.missing_holder.ensures.disk (g.B.Bay.answered c.args._bay.now)
    (none_named g.B.D.Disk.told (g.B.Bay.out c.args._bay.now) (g.B.Bay.has c.args._bay.now) cell c.args.site.now shows c.args.client c.args.volume c.args.server c.missing_holder.ensures.disk c.missing_holder.result c.in_default.is c.missing_holder.ensures.missing)
    c.in-Some-place.place (sym c.place.ensures ∙ c.in-Some-place.is) c.refuse.result c.refuse.ensures (sym c.are_up.ensures ∙ c.if-not-are_up.true)

pub returns-then-not-is_linked-clause-does : goal.returns-then-not-is_linked-clause-does
returns-then-not-is_linked-clause-does g c = λ cell shows.
    drain_cut g.B.D.Disk.told (g.B.Bay.out c.args._bay.now) (g.B.Bay.has c.args._bay.now) cell c.args.site.now shows c.args.client c.args.volume c.args.server c.args.window c.missing_holder.ensures.disk (g.B.Bay.answered c.args._bay.now)
    (none_named g.B.D.Disk.told (g.B.Bay.out c.args._bay.now) (g.B.Bay.has c.args._bay.now) cell c.args.site.now shows c.args.client c.args.volume c.args.server c.missing_holder.ensures.disk c.missing_holder.result c.in_default.is c.missing_holder.ensures.missing)
    c.in-Some-place.place (sym c.place.ensures ∙ c.in-Some-place.is) (sym c.are_up.ensures ∙ c.if-not-are_up.false) c.refuse-then-not-is_linked.result c.refuse-then-not-is_linked.ensures (sym c.is_linked.ensures ∙ c.if-not-is_linked.true)

pub returns-clause-does : goal.returns-clause-does
returns-clause-does g c = λ cell shows.
    let none = none_named g.B.D.Disk.told (g.B.Bay.out c.args._bay.now) (g.B.Bay.has c.args._bay.now) cell c.args.site.now shows c.args.client c.args.volume c.args.server c.missing_holder.ensures.disk c.missing_holder.result c.in_default.is c.missing_holder.ensures.missing in
    let at = sym c.place.ensures ∙ c.in-Some-place.is in
    let home = server_at_place g.B.D.Disk.told (g.B.Bay.out c.args._bay.now) (g.B.Bay.has c.args._bay.now) cell c.args.site.now shows c.args.client c.args.volume c.args.server c.missing_holder.ensures.disk none c.in-Some-place.place at in
    if_ok _ c.drain_up.result (λ reply e.
    drain_happens g.B.D.Disk.told (g.B.Bay.out c.args._bay.now) (g.B.Bay.has c.args._bay.now) cell c.args.site.now shows c.args.client c.args.volume c.args.server c.args.window c.missing_holder.ensures.disk (g.B.Bay.answered c.args._bay.now)
    none c.in-Some-place.place at (sym c.are_up.ensures ∙ c.if-not-are_up.false) reply c.drain_up.new.site
    (said_ok _ c.drain_up.result reply e (c.drain_up.ensures.does cell c.in-Some-place.place shows at refl home (sym c.is_linked.ensures ∙ c.if-not-is_linked.false))))
