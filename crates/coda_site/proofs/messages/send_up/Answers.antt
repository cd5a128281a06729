use Rattle.std.specs.Prelude.{ℕ}
use Rattle.coda_shelves.specs.Lines.{refused_full}
use Rattle.coda_site.proofs.ClientSites.{with_clients}
use Rattle.coda_site.proofs.Theres.{client_disk}
use Rattle.coda_site.proofs.Stages.{client_ready, if_ok, refused_reply}
use Rattle.coda_site.proofs.Posted.{net_ready}
use Rattle.coda_site.proofs.SentChunks.{send_unfrozen, send_done}
use Rattle.std.proofs.Common.{ap, ◌∙◌, Err}
use Rattle.coda_site.proofs.Counting.{clients_counted, counted_as, err_fine}
use Rattle.coda_site.proofs.messages.send_up.Goals as goal

pub returns-in_err-message-in-Ok-clause-ready : goal.returns-in_err-message-in-Ok-clause-ready
returns-in_err-message-in-Ok-clause-ready g c =
    net_ready g.B.D.Disk.told (g.B.Bay.out c.args._bay.now) (with_clients c.args.site.now c.freeze_at.new.clients) c.post_chunk.new.net
    (client_ready g.B.D.Disk.told (g.B.Bay.out c.args._bay.now) c.args.site.now c.requires.ready c.freeze_at.new.clients c.args.client c.requires.up c.freeze_at.ensures.ends c.freeze_at.ensures.others)

pub returns-in_ok-message-in-Ok-clause-ready : goal.returns-in_ok-message-in-Ok-clause-ready
returns-in_ok-message-in-Ok-clause-ready g c =
    net_ready g.B.D.Disk.told (g.B.Bay.out c.args._bay.now) (with_clients c.args.site.now c.freeze_at.new.clients) c.post_chunk.new.net
    (client_ready g.B.D.Disk.told (g.B.Bay.out c.args._bay.now) c.args.site.now c.requires.ready c.freeze_at.new.clients c.args.client c.requires.up c.freeze_at.ensures.ends c.freeze_at.ensures.others)

pub returns-in_ok-message-in-Ok-clause-does : goal.returns-in_ok-message-in-Ok-clause-does
returns-in_ok-message-in-Ok-clause-does g c = λ cell place shows at home link.
    send_done g.B.D.Disk.told (g.B.Bay.out c.args._bay.now) (g.B.Bay.has c.args._bay.now) cell c.args.site.now shows c.args.client c.args.volume c.args.server c.args.window (client_disk c.args.client c.ranges.client.fits) c.requires.up
    place at home link c.freeze_at.new.clients c.freeze_at.ensures.others c.in-Ok.chunk c.in-Ok.ensures.ends c.post_chunk.new.net c.post_chunk.ensures.links c.in_ok-message-in-Ok.message c.in_ok-message-in-Ok.ensures.posts

pub returns-in-Err-clause-ready : goal.returns-in-Err-clause-ready
returns-in-Err-clause-ready g c =
    client_ready g.B.D.Disk.told (g.B.Bay.out c.args._bay.now) c.args.site.now c.requires.ready c.freeze_at.new.clients c.args.client c.requires.up c.freeze_at.ensures.ends c.freeze_at.ensures.others

pub returns-in-Err-clause-does : goal.returns-in-Err-clause-does
returns-in-Err-clause-does g c = λ cell place shows at home link. if_ok _ c.refused.result (λ reply e.
    send_unfrozen g.B.D.Disk.told (g.B.Bay.out c.args._bay.now) (g.B.Bay.has c.args._bay.now) cell c.args.site.now shows c.args.client c.args.volume c.args.server c.args.window (client_disk c.args.client c.ranges.client.fits) c.requires.up
    place at home link c.freeze_at.new.clients c.freeze_at.ensures.others c.freeze_at.ensures.seen c.in-Err.why c.in-Err.ensures.ends reply
    (refused_reply {B = ℕ} (λ n. refused_full) c.refused.result c.in-Err.why reply e c.refused.ensures.own c.refused.ensures.fault c.refused.ensures.memory))

pub returns-in_err-message-in-Ok-clause-counts : goal.returns-in_err-message-in-Ok-clause-counts
returns-in_err-message-in-Ok-clause-counts g c =
    let told = g.B.D.Disk.told in
    let f = g.B.D.Disk.faults in
    let a = g.B.D.Disk.arms in
    let df = g.B.Bay.disk_faults c.args._bay.now in
    let da = g.B.Bay.disk_arms c.args._bay.now in
    let site = c.args.site.now in
    clients_counted told f a df da _ site c.freeze_at.new.clients (counted_as _ _ _ _ _ (λ e. absurd (err_fine c.from_residual.result c.from_residual.ensures.0 e)) c.freeze_at.ensures.counts)

pub returns-in_ok-message-in-Ok-clause-counts : goal.returns-in_ok-message-in-Ok-clause-counts
returns-in_ok-message-in-Ok-clause-counts g c =
    let told = g.B.D.Disk.told in
    let f = g.B.D.Disk.faults in
    let a = g.B.D.Disk.arms in
    let df = g.B.Bay.disk_faults c.args._bay.now in
    let da = g.B.Bay.disk_arms c.args._bay.now in
    let site = c.args.site.now in
    clients_counted told f a df da _ site c.freeze_at.new.clients (counted_as _ _ _ _ _ (λ e. cc) c.freeze_at.ensures.counts)

pub returns-in-Err-clause-counts : goal.returns-in-Err-clause-counts
returns-in-Err-clause-counts g c =
    let told = g.B.D.Disk.told in
    let f = g.B.D.Disk.faults in
    let a = g.B.D.Disk.arms in
    let df = g.B.Bay.disk_faults c.args._bay.now in
    let da = g.B.Bay.disk_arms c.args._bay.now in
    let site = c.args.site.now in
    clients_counted told f a df da _ site c.freeze_at.new.clients (counted_as _ _ _ _ _ (λ e. c.in-Err.is ∙ ap Err (c.refused.ensures.cause e)) c.freeze_at.ensures.counts)
