use Rattle.std.proofs.Common.{ℕ, Err, refl, sym, subst, ap, ◌∙◌}
use Rattle.std.specs.Prelude.{[], ◌∷◌}
use Rattle.std.proofs.lemmas.Result.{IfOk-weaker}
use Rattle.coda_venus.specs.Ask.{asked}
use Rattle.coda_venus.specs.declared.done.Done.{Done}
use Rattle.coda_script.specs.declared.reply.Reply.TheVariants as reply
use Rattle.coda_cell.specs.Asking.{operate}
use Rattle.coda_serving.specs.Serving.{IsDone}
use Rattle.coda_serving.specs.Fetching.{nodes_offered}
use Rattle.coda_site.specs.Sites.{client_at, volume_at}
use Rattle.coda_site.specs.Steps.{Becomes}
use Rattle.coda_site.specs.Tasks.{Asks, CallEnds}
use Rattle.coda_site.proofs.Becomings.{missing_none, RepliesTo}
use Rattle.coda_site.proofs.Calls.{found_up_at, call_ready, asked_becomes, refused_so, missing_asked, down_asked}
use Rattle.coda_site.proofs.ClientSites.{with_clients}
use Rattle.coda_site.proofs.Counting.{clients_counted, counted_as}
use Rattle.coda_site.proofs.tasks.perform.Goals as goal

pub returns-in-Some-clause-does : goal.returns-in-Some-clause-does
returns-in-Some-clause-does g c = λ cell shows.
    let told = g.B.D.Disk.told in
    let out = g.B.Bay.out c.args._bay.now in
    let has = g.B.Bay.has c.args._bay.now in
    let site = c.args.site.now in
    missing_asked told out has cell site shows c.args.client c.args.volume c.missing.ensures.disk (λ o x. operate o x cell.clock c.args.volume (asked c.args.ask)) (g.B.Bay.answered c.args._bay.now) c.in_ok-no_such_actor.field-0
    c.missing.result c.in-Some.number c.missing.ensures.missing c.in-Some.is c.in_ok-no_such_actor.ensures

pub returns-then-not-is_up-clause-does : goal.returns-then-not-is_up-clause-does
returns-then-not-is_up-clause-does g c = λ cell shows.
    let told = g.B.D.Disk.told in
    let out = g.B.Bay.out c.args._bay.now in
    let has = g.B.Bay.has c.args._bay.now in
    let site = c.args.site.now in
    let there = missing_none c.missing.result (client_at site c.args.client ∷ volume_at site c.args.volume ∷ []) c.in_default.is c.missing.ensures.missing in
    down_asked told out has cell site shows c.args.client c.args.volume c.missing.ensures.disk (λ o x. operate o x cell.clock c.args.volume (asked c.args.ask)) (g.B.Bay.answered c.args._bay.now) c.refuse.result
    c.from.result c.is_up.result there c.from.ensures c.is_up.ensures c.if-not-is_up.true c.refuse.ensures

pub returns-in-Ok-clause-does : goal.returns-in-Ok-clause-does
returns-in-Ok-clause-does g c = λ cell shows.
    let told = g.B.D.Disk.told in
    let out = g.B.Bay.out c.args._bay.now in
    let has = g.B.Bay.has c.args._bay.now in
    let site = c.args.site.now in
    let there = missing_none c.missing.result (client_at site c.args.client ∷ volume_at site c.args.volume ∷ []) c.in_default.is c.missing.ensures.missing in
    let up = found_up_at told site.clients c.args.client c.from.result c.from-2.result c.is_up.result c.is_up.ensures c.from.ensures c.from-2.ensures c.if-not-is_up.false in
    asked_becomes told out has cell site shows c.args.client c.args.volume c.from-2.result c.missing.ensures.disk there c.from-2.ensures up c.operate_at.new.clients c.operate_at.ensures.slots
    (nodes_offered c.offers_of-offers.result) c.offers_of-offers.ensures (λ o x. operate o x cell.clock c.args.volume (asked c.args.ask)) (λ (d : Done). reply.Done d.number d.fid) c.operate_at.result (subst (λ (t : ℕ). CallEnds told c.from-2.result (nodes_offered c.offers_of-offers.result) (λ o x. operate o x t c.args.volume (asked c.args.ask)) site.clients c.operate_at.new.clients IsDone c.operate_at.result) (sym shows.stands.clock) c.operate_at.ensures.ends) (reply.Done c.in-Ok.done.number c.in-Ok.done.fid) (g.B.Bay.answered c.args._bay.now)
    (subst (λ r. RepliesTo (λ (d : Done). reply.Done d.number d.fid) r (reply.Done c.in-Ok.done.number c.in-Ok.done.fid)) (sym c.in-Ok.is) refl)

pub returns-in-Ok-clause-ready : goal.returns-in-Ok-clause-ready
returns-in-Ok-clause-ready g c =
    let told = g.B.D.Disk.told in
    let site = c.args.site.now in
    let up = found_up_at told site.clients c.args.client c.from.result c.from-2.result c.is_up.result c.is_up.ensures c.from.ensures c.from-2.ensures c.if-not-is_up.false in
    call_ready told (g.B.Bay.out c.args._bay.now) site c.operate_at.new.clients c.from-2.result (nodes_offered c.offers_of-offers.result) (λ o x. operate o x site.clock c.args.volume (asked c.args.ask)) IsDone c.operate_at.result up c.operate_at.ensures.slots c.operate_at.ensures.ends c.requires.ready

pub returns-in-Err-clause-ready : goal.returns-in-Err-clause-ready
returns-in-Err-clause-ready g c =
    let told = g.B.D.Disk.told in
    let site = c.args.site.now in
    let up = found_up_at told site.clients c.args.client c.from.result c.from-2.result c.is_up.result c.is_up.ensures c.from.ensures c.from-2.ensures c.if-not-is_up.false in
    call_ready told (g.B.Bay.out c.args._bay.now) site c.operate_at.new.clients c.from-2.result (nodes_offered c.offers_of-offers.result) (λ o x. operate o x site.clock c.args.volume (asked c.args.ask)) IsDone c.operate_at.result up c.operate_at.ensures.slots c.operate_at.ensures.ends c.requires.ready

pub returns-in-Err-clause-does : goal.returns-in-Err-clause-does
returns-in-Err-clause-does g c = λ cell shows.
    let told = g.B.D.Disk.told in
    let out = g.B.Bay.out c.args._bay.now in
    let has = g.B.Bay.has c.args._bay.now in
    let site = c.args.site.now in
    let there = missing_none c.missing.result (client_at site c.args.client ∷ volume_at site c.args.volume ∷ []) c.in_default.is c.missing.ensures.missing in
    let up = found_up_at told site.clients c.args.client c.from.result c.from-2.result c.is_up.result c.is_up.ensures c.from.ensures c.from-2.ensures c.if-not-is_up.false in
    let answered = g.B.Bay.answered c.args._bay.now in
    IfOk-weaker c.refused.result (λ said. RepliesTo (λ (d : Done). reply.Done d.number d.fid) (Err c.in-Err.why) said) (λ said. Becomes told out has (Asks cell c.args.client c.args.volume (λ o x. operate o x cell.clock c.args.volume (asked c.args.ask))) said answered answered (with_clients site c.operate_at.new.clients))
    (λ said replies. asked_becomes told out has cell site shows c.args.client c.args.volume c.from-2.result c.missing.ensures.disk there c.from-2.ensures up c.operate_at.new.clients c.operate_at.ensures.slots
    (nodes_offered c.offers_of-offers.result) c.offers_of-offers.ensures (λ o x. operate o x cell.clock c.args.volume (asked c.args.ask)) (λ (d : Done). reply.Done d.number d.fid) c.operate_at.result (subst (λ (t : ℕ). CallEnds told c.from-2.result (nodes_offered c.offers_of-offers.result) (λ o x. operate o x t c.args.volume (asked c.args.ask)) site.clients c.operate_at.new.clients IsDone c.operate_at.result) (sym shows.stands.clock) c.operate_at.ensures.ends) said answered
    (subst (λ r. RepliesTo (λ (d : Done). reply.Done d.number d.fid) r said) (sym c.in-Err.is) replies))
    (refused_so (λ (d : Done). reply.Done d.number d.fid) c.in-Err.why c.refused.result c.refused.ensures.own c.refused.ensures.fault c.refused.ensures.memory)

pub returns-in-Ok-clause-counts : goal.returns-in-Ok-clause-counts
returns-in-Ok-clause-counts g c =
    let bay = c.args._bay.now in
    clients_counted g.B.D.Disk.told g.B.D.Disk.faults g.B.D.Disk.arms (g.B.Bay.disk_faults bay) (g.B.Bay.disk_arms bay) _ c.args.site.now c.operate_at.new.clients (counted_as _ _ _ _ _ (λ e. cc) c.operate_at.ensures.counts)

pub returns-in-Err-clause-counts : goal.returns-in-Err-clause-counts
returns-in-Err-clause-counts g c =
    let bay = c.args._bay.now in
    clients_counted g.B.D.Disk.told g.B.D.Disk.faults g.B.D.Disk.arms (g.B.Bay.disk_faults bay) (g.B.Bay.disk_arms bay) _ c.args.site.now c.operate_at.new.clients (counted_as _ _ _ _ _ (λ e. c.in-Err.is ∙ ap Err (c.refused.ensures.cause e)) c.operate_at.ensures.counts)
