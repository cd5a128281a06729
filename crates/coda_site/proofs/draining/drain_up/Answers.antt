use Rattle.std.specs.Prelude.{ℕ, ⊤}
use Rattle.coda_shelves.specs.Lines.{refused_full}
use Rattle.coda_site.proofs.ClientSites.{with_clients}
use Rattle.coda_site.proofs.ReplicaSites.{with_replicas}
use Rattle.coda_site.proofs.Theres.{client_disk}
use Rattle.coda_site.proofs.Stages.{client_ready, replica_ready, if_ok, refused_reply, unruled_reply}
use Rattle.coda_site.proofs.Drainings.{drain_unfrozen, drain_unruled, drain_untaken, drain_taken}
use Rattle.std.proofs.Common.{ap, ◌∙◌, inr, Err}
use Rattle.coda_site.proofs.Counting.{clients_counted, replicas_counted, counted_as, counted_then}
use Rattle.coda_site.proofs.draining.drain_up.Goals as goal

pub returns-in-Err-clause-ready : goal.returns-in-Err-clause-ready
returns-in-Err-clause-ready g c =
    client_ready g.B.D.Disk.told (g.B.Bay.out c.args._bay.now) c.args.site.now c.requires.ready c.freeze_at.new.clients c.args.client c.requires.client_up c.freeze_at.ensures.ends c.freeze_at.ensures.others

pub returns-in-Err-clause-does : goal.returns-in-Err-clause-does
returns-in-Err-clause-does g c = λ cell place shows at disk home link. if_ok _ c.refused.result (λ reply e.
    drain_unfrozen g.B.D.Disk.told (g.B.Bay.out c.args._bay.now) (g.B.Bay.has c.args._bay.now) c.freeze_at.ensures.seen cell c.args.site.now shows c.args.client c.args.volume c.args.server c.args.disk c.args.window
    (client_disk c.args.client c.ranges.client.fits) c.requires.client_up c.requires.replica_up place at disk home link c.freeze_at.new.clients c.freeze_at.ensures.others c.in-Err.why c.in-Err.ensures.ends reply
    (refused_reply {B = ℕ} (λ n. refused_full) c.refused.result c.in-Err.why reply e c.refused.ensures.own c.refused.ensures.fault c.refused.ensures.memory))

pub returns-in-Err-rule_at-clause-ready : goal.returns-in-Err-rule_at-clause-ready
returns-in-Err-rule_at-clause-ready g c =
    let told = g.B.D.Disk.told in
    let out = g.B.Bay.out c.args._bay.now in
    let site = c.args.site.now in
    let one = client_ready told out site c.requires.ready c.freeze_at.new.clients c.args.client c.requires.client_up c.freeze_at.ensures.ends c.freeze_at.ensures.others in
    let two = replica_ready told out (with_clients site c.freeze_at.new.clients) one c.rule_at.new.replicas c.args.disk c.requires.replica_up c.rule_at.ensures.ends c.rule_at.ensures.others in
    two

pub returns-in-Err-rule_at-clause-does : goal.returns-in-Err-rule_at-clause-does
returns-in-Err-rule_at-clause-does g c = λ cell place shows at disk home link. if_ok _ c.unruled.result (λ reply e.
    drain_unruled g.B.D.Disk.told (g.B.Bay.out c.args._bay.now) (g.B.Bay.has c.args._bay.now) c.freeze_at.ensures.seen cell c.args.site.now shows c.args.client c.args.volume c.args.server c.args.disk c.args.window
    (client_disk c.args.client c.ranges.client.fits) c.requires.client_up c.requires.replica_up place at disk home link c.freeze_at.new.clients c.freeze_at.ensures.others c.in-Ok.chunk c.in-Ok.ensures.ends
    c.chunk_at-recs.result.now c.chunk_at-recs.ensures.records c.rule_at.new.replicas c.rule_at.ensures.others c.in-Err-rule_at.why c.in-Err-rule_at.ensures.ends reply
    (unruled_reply c.unruled.result c.in-Err-rule_at.why reply e c.unruled.ensures.full c.unruled.ensures.fault c.unruled.ensures.memory))

pub returns-in-Ok-take_at-clause-ready : goal.returns-in-Ok-take_at-clause-ready
returns-in-Ok-take_at-clause-ready g c =
    let told = g.B.D.Disk.told in
    let out = g.B.Bay.out c.args._bay.now in
    let site = c.args.site.now in
    let one = client_ready told out site c.requires.ready c.freeze_at.new.clients c.args.client c.requires.client_up c.freeze_at.ensures.ends c.freeze_at.ensures.others in
    let two = replica_ready told out (with_clients site c.freeze_at.new.clients) one c.rule_at.new.replicas c.args.disk c.requires.replica_up c.rule_at.ensures.ends c.rule_at.ensures.others in
    client_ready told out (with_replicas (with_clients site c.freeze_at.new.clients) c.rule_at.new.replicas) two c.take_at.new.clients c.args.client c.in-Ok.ensures.up c.take_at.ensures.ends c.take_at.ensures.others

pub returns-in-Ok-take_at-clause-does : goal.returns-in-Ok-take_at-clause-does
returns-in-Ok-take_at-clause-does g c = λ cell place shows at disk home link.
    drain_taken g.B.D.Disk.told (g.B.Bay.out c.args._bay.now) (g.B.Bay.has c.args._bay.now) c.freeze_at.ensures.seen cell c.args.site.now shows c.args.client c.args.volume c.args.server c.args.disk c.args.window
    (client_disk c.args.client c.ranges.client.fits) c.requires.client_up c.requires.replica_up place at disk home link c.freeze_at.new.clients c.freeze_at.ensures.others c.in-Ok.chunk c.in-Ok.ensures.ends
    c.chunk_at-recs.result.now c.chunk_at-recs.ensures.records c.rule_at.new.replicas c.rule_at.ensures.others c.in-Ok-rule_at.answer c.in-Ok-rule_at.ensures.ends c.take_at.new.clients c.take_at.ensures.others
    c.in-Ok-take_at.field-0 c.in-Ok-take_at.ensures.ends c.reply_answer.result c.reply_answer.ensures

pub returns-in-Err-take_at-clause-ready : goal.returns-in-Err-take_at-clause-ready
returns-in-Err-take_at-clause-ready g c =
    let told = g.B.D.Disk.told in
    let out = g.B.Bay.out c.args._bay.now in
    let site = c.args.site.now in
    let one = client_ready told out site c.requires.ready c.freeze_at.new.clients c.args.client c.requires.client_up c.freeze_at.ensures.ends c.freeze_at.ensures.others in
    let two = replica_ready told out (with_clients site c.freeze_at.new.clients) one c.rule_at.new.replicas c.args.disk c.requires.replica_up c.rule_at.ensures.ends c.rule_at.ensures.others in
    client_ready told out (with_replicas (with_clients site c.freeze_at.new.clients) c.rule_at.new.replicas) two c.take_at.new.clients c.args.client c.in-Ok.ensures.up c.take_at.ensures.ends c.take_at.ensures.others

pub returns-in-Err-take_at-clause-does : goal.returns-in-Err-take_at-clause-does
returns-in-Err-take_at-clause-does g c = λ cell place shows at disk home link. if_ok _ c.refused-in-Err-take_at.result (λ reply e.
    drain_untaken g.B.D.Disk.told (g.B.Bay.out c.args._bay.now) (g.B.Bay.has c.args._bay.now) c.freeze_at.ensures.seen cell c.args.site.now shows c.args.client c.args.volume c.args.server c.args.disk c.args.window
    (client_disk c.args.client c.ranges.client.fits) c.requires.client_up c.requires.replica_up place at disk home link c.freeze_at.new.clients c.freeze_at.ensures.others c.in-Ok.chunk c.in-Ok.ensures.ends
    c.chunk_at-recs.result.now c.chunk_at-recs.ensures.records c.rule_at.new.replicas c.rule_at.ensures.others c.in-Ok-rule_at.answer c.in-Ok-rule_at.ensures.ends c.take_at.new.clients c.take_at.ensures.others
    c.in-Err-take_at.why c.in-Err-take_at.ensures.ends reply
    (refused_reply {B = ⊤} (λ u. refused_full) c.refused-in-Err-take_at.result c.in-Err-take_at.why reply e c.refused-in-Err-take_at.ensures.own c.refused-in-Err-take_at.ensures.fault c.refused-in-Err-take_at.ensures.memory))

pub returns-in-Err-clause-counts : goal.returns-in-Err-clause-counts
returns-in-Err-clause-counts g c =
    let told = g.B.D.Disk.told in
    let f = g.B.D.Disk.faults in
    let a = g.B.D.Disk.arms in
    let df = g.B.Bay.disk_faults c.args._bay.now in
    let da = g.B.Bay.disk_arms c.args._bay.now in
    let site = c.args.site.now in
    clients_counted told f a df da _ site c.freeze_at.new.clients (counted_as _ _ _ _ _ (λ e. c.in-Err.is ∙ ap Err (c.refused.ensures.cause e)) c.freeze_at.ensures.counts)

pub returns-in-Err-rule_at-clause-counts : goal.returns-in-Err-rule_at-clause-counts
returns-in-Err-rule_at-clause-counts g c =
    let told = g.B.D.Disk.told in
    let f = g.B.D.Disk.faults in
    let a = g.B.D.Disk.arms in
    let df = g.B.Bay.disk_faults c.args._bay.now in
    let da = g.B.Bay.disk_arms c.args._bay.now in
    let site = c.args.site.now in
    let one = clients_counted told f a df da _ site c.freeze_at.new.clients c.freeze_at.ensures.counts in
    let after = with_clients site c.freeze_at.new.clients in
    let two = replicas_counted told f a df da _ after c.rule_at.new.replicas c.rule_at.ensures.counts in
    counted_then _ _ _ _ _ _ (λ e. inr (c.in-Err-rule_at.is ∙ ap Err (c.unruled.ensures.cause e))) one two

pub returns-then-not-can_be_posted-clause-counts : goal.returns-then-not-can_be_posted-clause-counts
returns-then-not-can_be_posted-clause-counts g c =
    let told = g.B.D.Disk.told in
    let f = g.B.D.Disk.faults in
    let a = g.B.D.Disk.arms in
    let df = g.B.Bay.disk_faults c.args._bay.now in
    let da = g.B.Bay.disk_arms c.args._bay.now in
    let site = c.args.site.now in
    let one = clients_counted told f a df da _ site c.freeze_at.new.clients c.freeze_at.ensures.counts in
    let after = with_clients site c.freeze_at.new.clients in
    let two = replicas_counted told f a df da _ after c.rule_at.new.replicas c.rule_at.ensures.counts in
    counted_then _ _ _ _ _ _ (λ e. absurd cc) one two

pub returns-in-Ok-take_at-clause-counts : goal.returns-in-Ok-take_at-clause-counts
returns-in-Ok-take_at-clause-counts g c =
    let told = g.B.D.Disk.told in
    let f = g.B.D.Disk.faults in
    let a = g.B.D.Disk.arms in
    let df = g.B.Bay.disk_faults c.args._bay.now in
    let da = g.B.Bay.disk_arms c.args._bay.now in
    let site = c.args.site.now in
    let one = clients_counted told f a df da _ site c.freeze_at.new.clients c.freeze_at.ensures.counts in
    let after = with_clients site c.freeze_at.new.clients in
    let two = replicas_counted told f a df da _ after c.rule_at.new.replicas c.rule_at.ensures.counts in
    let ruled = with_replicas after c.rule_at.new.replicas in
    let three = clients_counted told f a df da _ ruled c.take_at.new.clients c.take_at.ensures.counts in
    counted_then _ _ _ _ _ _ (λ e. absurd cc) (counted_then _ _ _ _ _ _ (λ (e : ⊥). absurd e) one two) three

pub returns-in-Err-take_at-clause-counts : goal.returns-in-Err-take_at-clause-counts
returns-in-Err-take_at-clause-counts g c =
    let told = g.B.D.Disk.told in
    let f = g.B.D.Disk.faults in
    let a = g.B.D.Disk.arms in
    let df = g.B.Bay.disk_faults c.args._bay.now in
    let da = g.B.Bay.disk_arms c.args._bay.now in
    let site = c.args.site.now in
    let one = clients_counted told f a df da _ site c.freeze_at.new.clients c.freeze_at.ensures.counts in
    let after = with_clients site c.freeze_at.new.clients in
    let two = replicas_counted told f a df da _ after c.rule_at.new.replicas c.rule_at.ensures.counts in
    let ruled = with_replicas after c.rule_at.new.replicas in
    let three = clients_counted told f a df da _ ruled c.take_at.new.clients c.take_at.ensures.counts in
    counted_then _ _ _ _ _ _ (λ e. inr (c.in-Err-take_at.is ∙ ap Err (c.refused-in-Err-take_at.ensures.cause e))) (counted_then _ _ _ _ _ _ (λ (e : ⊥). absurd e) one two) three
