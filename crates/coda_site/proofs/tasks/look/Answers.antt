use Rattle.std.proofs.Common.{◌≡◌, Ok, Err, sym, subst, ap, ◌∙◌}
use Rattle.std.specs.Prelude.{[], ◌∷◌}
use Rattle.std.proofs.lemmas.Result.{IfOk-weaker}
use Rattle.std.specs.Prelude.{Bool}
use Rattle.coda_venus.specs.declared.seen.Seen.{Seen}
use Rattle.coda_serving.specs.Serving.{show_answer, reply_of, IsShown}
use Rattle.coda_serving.specs.Fetching.{nodes_offered}
use Rattle.coda_site.specs.Sites.{client_at, volume_at}
use Rattle.coda_site.specs.Steps.{Becomes}
use Rattle.coda_site.specs.Tasks.{Asks}
use Rattle.coda_site.proofs.Becomings.{missing_none, RepliesTo}
use Rattle.coda_site.proofs.Calls.{found_up_at, call_ready, asked_becomes, refused_so, missing_asked, down_asked}
use Rattle.coda_site.proofs.ClientSites.{with_clients}
use Rattle.coda_site.proofs.Counting.{clients_counted, counted_as}
use Rattle.coda_tree.specs.declared.node.NodeKind.{NodeKind}
use Rattle.coda_tree.specs.declared.node.NodeKind.TheVariants.{File, Link, Dir}
use Rattle.coda_script.specs.declared.reply.Reply.{Reply}
use Rattle.coda_site.specs.Totals.{IsFault}
use Rattle.coda_site.proofs.tasks.look.Goals as goal

shown_fine : (fetched : Bool) (kind : NodeKind) (said : Reply) → said ≡ reply_of fetched kind → ¬ IsFault (Ok said)
shown_fine fetched (File content) said is e = cc
shown_fine fetched (Link target) said is e = cc
shown_fine fetched (Dir entries) said is e = cc

pub returns-in-Some-clause-does : goal.returns-in-Some-clause-does
returns-in-Some-clause-does g c = λ cell shows.
    let told = g.B.D.Disk.told in
    let out = g.B.Bay.out c.args._bay.now in
    let has = g.B.Bay.has c.args._bay.now in
    let site = c.args.site.now in
    missing_asked told out has cell site shows c.args.client c.args.volume c.missing.ensures.disk (λ o x. show_answer c.args.what o x c.args.volume c.args.path.now) (g.B.Bay.answered c.args._bay.now) c.in_ok-no_such_actor.field-0
    c.missing.result c.in-Some.number c.missing.ensures.missing c.in-Some.is c.in_ok-no_such_actor.ensures

pub returns-then-not-is_up-clause-does : goal.returns-then-not-is_up-clause-does
returns-then-not-is_up-clause-does g c = λ cell shows.
    let told = g.B.D.Disk.told in
    let out = g.B.Bay.out c.args._bay.now in
    let has = g.B.Bay.has c.args._bay.now in
    let site = c.args.site.now in
    let there = missing_none c.missing.result (client_at site c.args.client ∷ volume_at site c.args.volume ∷ []) c.in_default.is c.missing.ensures.missing in
    down_asked told out has cell site shows c.args.client c.args.volume c.missing.ensures.disk (λ o x. show_answer c.args.what o x c.args.volume c.args.path.now) (g.B.Bay.answered c.args._bay.now) c.refuse.result
    c.from.result c.is_up.result there c.from.ensures c.is_up.ensures c.if-not-is_up.true c.refuse.ensures

pub returns-in-Ok-clause-does : goal.returns-in-Ok-clause-does
returns-in-Ok-clause-does g c = λ cell shows.
    let told = g.B.D.Disk.told in
    let out = g.B.Bay.out c.args._bay.now in
    let has = g.B.Bay.has c.args._bay.now in
    let site = c.args.site.now in
    let there = missing_none c.missing.result (client_at site c.args.client ∷ volume_at site c.args.volume ∷ []) c.in_default.is c.missing.ensures.missing in
    let up = found_up_at told site.clients c.args.client c.from.result c.from-2.result c.is_up.result c.is_up.ensures c.from.ensures c.from-2.ensures c.if-not-is_up.false in
    asked_becomes told out has cell site shows c.args.client c.args.volume c.from-2.result c.missing.ensures.disk there c.from-2.ensures up c.show_at.new.clients c.show_at.ensures.slots
    (nodes_offered c.offers_of-offers.result) c.offers_of-offers.ensures (λ o x. show_answer c.args.what o x c.args.volume c.args.path.now) (λ (r : Seen × Bool). reply_of r.1 r.0.node.kind) c.show_at.result c.show_at.ensures.ends c.shown.result (g.B.Bay.answered c.args._bay.now)
    (subst (λ r. RepliesTo (λ (r : Seen × Bool). reply_of r.1 r.0.node.kind) r c.shown.result) (sym c.in-Ok.is) c.shown.ensures)

pub returns-in-Ok-clause-ready : goal.returns-in-Ok-clause-ready
returns-in-Ok-clause-ready g c =
    let told = g.B.D.Disk.told in
    let site = c.args.site.now in
    let up = found_up_at told site.clients c.args.client c.from.result c.from-2.result c.is_up.result c.is_up.ensures c.from.ensures c.from-2.ensures c.if-not-is_up.false in
    call_ready told (g.B.Bay.out c.args._bay.now) site c.show_at.new.clients c.from-2.result (nodes_offered c.offers_of-offers.result) (λ o x. show_answer c.args.what o x c.args.volume c.args.path.now) IsShown c.show_at.result up c.show_at.ensures.slots c.show_at.ensures.ends c.requires.ready

pub returns-in-Err-clause-ready : goal.returns-in-Err-clause-ready
returns-in-Err-clause-ready g c =
    let told = g.B.D.Disk.told in
    let site = c.args.site.now in
    let up = found_up_at told site.clients c.args.client c.from.result c.from-2.result c.is_up.result c.is_up.ensures c.from.ensures c.from-2.ensures c.if-not-is_up.false in
    call_ready told (g.B.Bay.out c.args._bay.now) site c.show_at.new.clients c.from-2.result (nodes_offered c.offers_of-offers.result) (λ o x. show_answer c.args.what o x c.args.volume c.args.path.now) IsShown c.show_at.result up c.show_at.ensures.slots c.show_at.ensures.ends c.requires.ready

pub returns-in-Err-clause-does : goal.returns-in-Err-clause-does
returns-in-Err-clause-does g c = λ cell shows.
    let told = g.B.D.Disk.told in
    let out = g.B.Bay.out c.args._bay.now in
    let has = g.B.Bay.has c.args._bay.now in
    let site = c.args.site.now in
    let there = missing_none c.missing.result (client_at site c.args.client ∷ volume_at site c.args.volume ∷ []) c.in_default.is c.missing.ensures.missing in
    let up = found_up_at told site.clients c.args.client c.from.result c.from-2.result c.is_up.result c.is_up.ensures c.from.ensures c.from-2.ensures c.if-not-is_up.false in
    let answered = g.B.Bay.answered c.args._bay.now in
    IfOk-weaker c.refused.result (λ said. RepliesTo (λ (r : Seen × Bool). reply_of r.1 r.0.node.kind) (Err c.in-Err.why) said) (λ said. Becomes told out has (Asks cell c.args.client c.args.volume (λ o x. show_answer c.args.what o x c.args.volume c.args.path.now)) said answered answered (with_clients site c.show_at.new.clients))
    (λ said replies. asked_becomes told out has cell site shows c.args.client c.args.volume c.from-2.result c.missing.ensures.disk there c.from-2.ensures up c.show_at.new.clients c.show_at.ensures.slots
    (nodes_offered c.offers_of-offers.result) c.offers_of-offers.ensures (λ o x. show_answer c.args.what o x c.args.volume c.args.path.now) (λ (r : Seen × Bool). reply_of r.1 r.0.node.kind) c.show_at.result c.show_at.ensures.ends said answered
    (subst (λ r. RepliesTo (λ (r : Seen × Bool). reply_of r.1 r.0.node.kind) r said) (sym c.in-Err.is) replies))
    (refused_so (λ (r : Seen × Bool). reply_of r.1 r.0.node.kind) c.in-Err.why c.refused.result c.refused.ensures.own c.refused.ensures.fault c.refused.ensures.memory)

pub returns-in-Ok-clause-counts : goal.returns-in-Ok-clause-counts
returns-in-Ok-clause-counts g c =
    let bay = c.args._bay.now in
    clients_counted g.B.D.Disk.told g.B.D.Disk.faults g.B.D.Disk.arms (g.B.Bay.disk_faults bay) (g.B.Bay.disk_arms bay) _ c.args.site.now c.show_at.new.clients (counted_as _ _ _ _ _ (λ e. absurd (shown_fine c.in-Ok.fetched c.in-Ok.seen.node.kind c.shown.result c.shown.ensures e)) c.show_at.ensures.counts)

pub returns-in-Err-clause-counts : goal.returns-in-Err-clause-counts
returns-in-Err-clause-counts g c =
    let bay = c.args._bay.now in
    clients_counted g.B.D.Disk.told g.B.D.Disk.faults g.B.D.Disk.arms (g.B.Bay.disk_faults bay) (g.B.Bay.disk_arms bay) _ c.args.site.now c.show_at.new.clients (counted_as _ _ _ _ _ (λ e. c.in-Err.is ∙ ap Err (c.refused.ensures.cause e)) c.show_at.ensures.counts)
