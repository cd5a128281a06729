use Rattle.coda_cell.proofs.SpelledLetters.{chunk_parts}
use Rattle.coda_site.proofs.Stages.{if_ok, unruled_reply}
use Rattle.coda_site.proofs.Delivered.{chunk_records, unruled_came, ruled_came}
use Rattle.std.proofs.Common.{ap, ◌∙◌, Err}
use Rattle.coda_site.proofs.Counting.{replicas_counted, counted_as}
use Rattle.coda_site.proofs.messages.rule_up.Goals as goal

pub rule_at-requires-clause-client : goal.rule_at-requires-clause-client
rule_at-requires-clause-client g c = (chunk_parts c.args.client c.args.server c.args.volume c.args.number c.args.recs.now c.requires.spelled).client_is

pub rule_at-requires-clause-records : goal.rule_at-requires-clause-records
rule_at-requires-clause-records g c = chunk_records c.args.client c.args.server c.args.volume c.args.number c.args.recs.now c.requires.spelled

pub returns-in-Err-clause-does : goal.returns-in-Err-clause-does
returns-in-Err-clause-does g c = λ cell place span shows at disk home named sent. if_ok _ c.unruled.result (λ reply e.
    unruled_came g.B.D.Disk.told (g.B.Bay.out c.args._bay.now) (g.B.Bay.has c.args._bay.now) cell c.args.site.now shows c.args.client c.args.server c.args.volume c.args.disk c.args.number c.requires.up place at disk home named
    c.args.recs.now span sent c.rule_at.new.replicas c.rule_at.ensures.others c.in-Err.why c.in-Err.ensures.ends reply
    (unruled_reply c.unruled.result c.in-Err.why reply e c.unruled.ensures.full c.unruled.ensures.fault c.unruled.ensures.memory))

pub post_answer-requires-clause-spelled : goal.post_answer-requires-clause-spelled
post_answer-requires-clause-spelled g c =
    let parts = chunk_parts c.args.client c.args.server c.args.volume c.args.number c.args.recs.now c.requires.spelled in
    c.can_be_posted.ensures.posts c.if-not-can_be_posted.false c.args.server c.args.client c.args.volume c.args.number parts.server_is parts.client_is parts.volume_is parts.number_is

pub returns-in-Ok-post_answer-clause-does : goal.returns-in-Ok-post_answer-clause-does
returns-in-Ok-post_answer-clause-does g c = λ cell place span shows at disk home named sent.
    ruled_came g.B.D.Disk.told (g.B.Bay.out c.args._bay.now) (g.B.Bay.has c.args._bay.now) cell c.args.site.now shows c.args.client c.args.server c.args.volume c.args.disk c.args.number c.requires.up place at disk home named
    c.args.recs.now span sent c.rule_at.new.replicas c.rule_at.ensures.others c.in-Ok.answer c.in-Ok.ensures.ends c.post_answer.new.net c.post_answer.ensures.links c.in-Ok-post_answer.message c.in-Ok-post_answer.ensures.posted
    c.reply_answer.result c.reply_answer.ensures

pub returns-in-Err-clause-counts : goal.returns-in-Err-clause-counts
returns-in-Err-clause-counts g c =
    let told = g.B.D.Disk.told in
    let f = g.B.D.Disk.faults in
    let a = g.B.D.Disk.arms in
    let df = g.B.Bay.disk_faults c.args._bay.now in
    let da = g.B.Bay.disk_arms c.args._bay.now in
    let site = c.args.site.now in
    replicas_counted told f a df da _ site c.rule_at.new.replicas (counted_as _ _ _ _ _ (λ e. c.in-Err.is ∙ ap Err (c.unruled.ensures.cause e)) c.rule_at.ensures.counts)

pub returns-then-not-can_be_posted-clause-counts : goal.returns-then-not-can_be_posted-clause-counts
returns-then-not-can_be_posted-clause-counts g c =
    let told = g.B.D.Disk.told in
    let f = g.B.D.Disk.faults in
    let a = g.B.D.Disk.arms in
    let df = g.B.Bay.disk_faults c.args._bay.now in
    let da = g.B.Bay.disk_arms c.args._bay.now in
    let site = c.args.site.now in
    replicas_counted told f a df da _ site c.rule_at.new.replicas (counted_as _ _ _ _ _ (λ e. cc) c.rule_at.ensures.counts)

pub returns-in-Ok-post_answer-clause-counts : goal.returns-in-Ok-post_answer-clause-counts
returns-in-Ok-post_answer-clause-counts g c =
    let told = g.B.D.Disk.told in
    let f = g.B.D.Disk.faults in
    let a = g.B.D.Disk.arms in
    let df = g.B.Bay.disk_faults c.args._bay.now in
    let da = g.B.Bay.disk_arms c.args._bay.now in
    let site = c.args.site.now in
    replicas_counted told f a df da _ site c.rule_at.new.replicas (counted_as _ _ _ _ _ (λ e. cc) c.rule_at.ensures.counts)

pub returns-in-Err-post_answer-clause-counts : goal.returns-in-Err-post_answer-clause-counts
returns-in-Err-post_answer-clause-counts g c =
    let told = g.B.D.Disk.told in
    let f = g.B.D.Disk.faults in
    let a = g.B.D.Disk.arms in
    let df = g.B.Bay.disk_faults c.args._bay.now in
    let da = g.B.Bay.disk_arms c.args._bay.now in
    let site = c.args.site.now in
    replicas_counted told f a df da _ site c.rule_at.new.replicas (counted_as _ _ _ _ _ (λ e. cc) c.rule_at.ensures.counts)
