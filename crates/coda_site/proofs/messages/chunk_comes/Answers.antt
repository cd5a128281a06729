use Rattle.std.proofs.Common.{sym, refl, ◌∙◌}
use Rattle.coda_site.proofs.Stages.{if_ok, said_ok}
use Rattle.coda_site.proofs.Holders.{none_named, server_at_place}
use Rattle.coda_site.proofs.Delivered.{chunk_missing, chunk_down, chunk_came}
use Rattle.coda_site.proofs.messages.chunk_comes.Goals as goal

pub returns-in-Some-clause-does : goal.returns-in-Some-clause-does
returns-in-Some-clause-does g c = λ cell span shows sent.
    chunk_missing g.B.D.Disk.told (g.B.Bay.out c.args._bay.now) (g.B.Bay.has c.args._bay.now) cell c.args.site.now shows c.args.client c.args.volume c.args.server c.missing_holder.ensures.disk (g.B.Bay.answered c.args._bay.now) c.args.number span
    c.missing_holder.result c.in-Some.number c.in-Some.is c.missing_holder.ensures.missing c.in_ok-no_such_actor.field-0 c.in_ok-no_such_actor.ensures

pub returns-then-not-is_up-clause-does : goal.returns-then-not-is_up-clause-does
returns-then-not-is_up-clause-does g c = λ cell span shows sent.
    chunk_down g.B.D.Disk.told (g.B.Bay.out c.args._bay.now) (g.B.Bay.has c.args._bay.now) cell c.args.site.now shows c.args.client c.args.volume c.args.server c.missing_holder.ensures.disk (g.B.Bay.answered c.args._bay.now) c.args.number span
    (none_named g.B.D.Disk.told (g.B.Bay.out c.args._bay.now) (g.B.Bay.has c.args._bay.now) cell c.args.site.now shows c.args.client c.args.volume c.args.server c.missing_holder.ensures.disk c.missing_holder.result c.in_default.is c.missing_holder.ensures.missing)
    c.in-Some-place.place (sym c.place.ensures ∙ c.in-Some-place.is) c.refuse.result c.refuse.ensures (sym c.is_up.ensures ∙ c.if-not-is_up.true)

pub returns-clause-does : goal.returns-clause-does
returns-clause-does g c = λ cell span shows sent.
    let none = none_named g.B.D.Disk.told (g.B.Bay.out c.args._bay.now) (g.B.Bay.has c.args._bay.now) cell c.args.site.now shows c.args.client c.args.volume c.args.server c.missing_holder.ensures.disk c.missing_holder.result c.in_default.is c.missing_holder.ensures.missing in
    let at = sym c.place.ensures ∙ c.in-Some-place.is in
    let home = server_at_place g.B.D.Disk.told (g.B.Bay.out c.args._bay.now) (g.B.Bay.has c.args._bay.now) cell c.args.site.now shows c.args.client c.args.volume c.args.server c.missing_holder.ensures.disk none c.in-Some-place.place at in
    if_ok _ c.rule_up.result (λ reply e.
    chunk_came g.B.D.Disk.told (g.B.Bay.out c.args._bay.now) (g.B.Bay.has c.args._bay.now) cell c.args.site.now shows c.args.client c.args.volume c.args.server c.missing_holder.ensures.disk (g.B.Bay.answered c.args._bay.now) c.args.number span
    none c.in-Some-place.place at (sym c.is_up.ensures ∙ c.if-not-is_up.false) reply c.rule_up.new.site
    (said_ok _ c.rule_up.result reply e (c.rule_up.ensures.does cell c.in-Some-place.place span shows at refl home none sent)))
