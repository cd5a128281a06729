use Rattle.std.specs.Prelude.{⊤}
use Rattle.coda_shelves.specs.Lines.{refused_full}
use Rattle.coda_site.proofs.Theres.{client_disk}
use Rattle.coda_site.proofs.Stages.{client_ready, if_ok, refused_reply}
use Rattle.coda_site.proofs.Delivered.{verdict_volume, untaken_came, taken_came}
use Rattle.std.proofs.Common.{ap, ◌∙◌, Err}
use Rattle.coda_site.proofs.Counting.{clients_counted, counted_as, taken_fine}
use Rattle.coda_site.proofs.messages.take_up.Goals as goal

pub take_at-requires-clause-volume : goal.take_at-requires-clause-volume
take_at-requires-clause-volume g c = verdict_volume c.args.server c.args.client c.args.volume c.args.number c.args.answer c.requires.spelled

pub returns-in-Ok-clause-ready : goal.returns-in-Ok-clause-ready
returns-in-Ok-clause-ready g c =
    client_ready g.B.D.Disk.told (g.B.Bay.out c.args._bay.now) c.args.site.now c.requires.ready c.take_at.new.clients c.args.client c.requires.up c.take_at.ensures.ends c.take_at.ensures.others

pub returns-in-Ok-clause-does : goal.returns-in-Ok-clause-does
returns-in-Ok-clause-does g c = λ cell shows named.
    taken_came g.B.D.Disk.told (g.B.Bay.out c.args._bay.now) (g.B.Bay.has c.args._bay.now) c.take_at.ensures.seen cell c.args.site.now shows c.args.client c.args.server c.args.volume c.args.number (client_disk c.args.client c.ranges.client.fits)
    c.requires.up c.args.answer named c.take_at.new.clients c.take_at.ensures.others c.in-Ok.field-0 c.in-Ok.ensures.ends c.reply_taken.result c.reply_taken.ensures

pub returns-in-Err-clause-ready : goal.returns-in-Err-clause-ready
returns-in-Err-clause-ready g c =
    client_ready g.B.D.Disk.told (g.B.Bay.out c.args._bay.now) c.args.site.now c.requires.ready c.take_at.new.clients c.args.client c.requires.up c.take_at.ensures.ends c.take_at.ensures.others

pub returns-in-Err-clause-does : goal.returns-in-Err-clause-does
returns-in-Err-clause-does g c = λ cell shows named. if_ok _ c.refused.result (λ reply e.
    untaken_came g.B.D.Disk.told (g.B.Bay.out c.args._bay.now) (g.B.Bay.has c.args._bay.now) c.take_at.ensures.seen cell c.args.site.now shows c.args.client c.args.server c.args.volume c.args.number (client_disk c.args.client c.ranges.client.fits)
    c.requires.up c.args.answer named c.take_at.new.clients c.take_at.ensures.others c.in-Err.why c.in-Err.ensures.ends reply
    (refused_reply {B = ⊤} (λ u. refused_full) c.refused.result c.in-Err.why reply e c.refused.ensures.own c.refused.ensures.fault c.refused.ensures.memory))

pub returns-in-Ok-clause-counts : goal.returns-in-Ok-clause-counts
returns-in-Ok-clause-counts g c =
    let told = g.B.D.Disk.told in
    let f = g.B.D.Disk.faults in
    let a = g.B.D.Disk.arms in
    let df = g.B.Bay.disk_faults c.args._bay.now in
    let da = g.B.Bay.disk_arms c.args._bay.now in
    let site = c.args.site.now in
    clients_counted told f a df da _ site c.take_at.new.clients (counted_as _ _ _ _ _ (λ e. absurd (taken_fine c.args.number c.args.answer c.reply_taken.result c.reply_taken.ensures e)) c.take_at.ensures.counts)

pub returns-in-Err-clause-counts : goal.returns-in-Err-clause-counts
returns-in-Err-clause-counts g c =
    let told = g.B.D.Disk.told in
    let f = g.B.D.Disk.faults in
    let a = g.B.D.Disk.arms in
    let df = g.B.Bay.disk_faults c.args._bay.now in
    let da = g.B.Bay.disk_arms c.args._bay.now in
    let site = c.args.site.now in
    clients_counted told f a df da _ site c.take_at.new.clients (counted_as _ _ _ _ _ (λ e. c.in-Err.is ∙ ap Err (c.refused.ensures.cause e)) c.take_at.ensures.counts)
