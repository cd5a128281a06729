use Rattle.std.proofs.Common.{rules, ◌≡◌, ◌≤◌, None, Result, Err, sym, ap, ◌∙◌, subst}
use Rattle.coda_fid.specs.declared.op.Op.{Op}
use Rattle.coda_venus.specs.Accepting.{accept}
use Rattle.coda_venus.specs.Ask.{asked, too_big}
use Rattle.coda_venus.specs.Caching.{served_sight}
use Rattle.coda_venus.specs.Keeping.{record_of}
use Rattle.coda_venus.specs.State.{ClientVolume}
use Rattle.coda_venus.specs.declared.refused.Refused.{Refused}
use Rattle.coda_venus.proofs.OwnRefusals.{own_or_memory}
use Rattle.coda_venus.proofs.Performed.{surely_ok, volume_is}
use Rattle.coda_venus.proofs.Recorded.{recorded_ok, recorded_err, recorded_spelled, recorded_begins, recorded_performs}
use Rattle.coda_venus.proofs.client.Client.record_for.Goals as goal

pub returns-in-Ok-clause-record : goal.returns-in-Ok-clause-record
returns-in-Ok-clause-record c = λ s is few.
    let sight = served_sight c.args.emulating c.args.self.now c.args.volume in
    let ask = asked c.args.ask.now in
    let small : too_big ask ≡ None = search rules in
    let accepted = surely_ok c.in-Ok.op (accept sight c.args.volume ask) c.in-Ok.ensures in
    let log = volume_is (s.volumes c.args.volume) _ (is.logs c.args.volume) in
    let made = c.record_of.ensures.record (subst (λ (v : ClientVolume). v.log.last ≤ 4294967295) (sym log) few) in
    recorded_ok sight (s.volumes c.args.volume)
    c.args.time c.args.volume ask small c.in-Ok.op c.record_of.result accepted
    (made ∙ ap (λ (v : ClientVolume). record_of v c.args.time c.in-Ok.op) log)

pub returns-in-Ok-clause-begin : goal.returns-in-Ok-clause-begin
returns-in-Ok-clause-begin c =
    let code = c.args.self.now in
    let ask = asked c.args.ask.now in
    let accepted =
    surely_ok c.in-Ok.op (accept (served_sight c.args.emulating code c.args.volume) c.args.volume ask)
    c.in-Ok.ensures in
    recorded_begins c.args.emulating code c.args.volume c.args.time ask c.in-Ok.op c.record_of.result
    accepted c.record_of.ensures.parts.2

pub returns-in-Ok-clause-perform : goal.returns-in-Ok-clause-perform
returns-in-Ok-clause-perform c =
    let code = c.args.self.now in
    let ask = asked c.args.ask.now in
    let accepted =
    surely_ok c.in-Ok.op (accept (served_sight c.args.emulating code c.args.volume) c.args.volume ask)
    c.in-Ok.ensures in
    recorded_performs c.args.emulating code c.args.volume c.args.time ask c.in-Ok.op c.record_of.result
    accepted c.record_of.ensures.record

pub returns-in-Ok-clause-spelled : goal.returns-in-Ok-clause-spelled
returns-in-Ok-clause-spelled c = λ number nodes spelled most.
    let code = c.args.self.now in
    let ask = asked c.args.ask.now in
    let small : too_big ask ≡ None = search rules in
    let accepted =
    surely_ok c.in-Ok.op (accept (served_sight c.args.emulating code c.args.volume) c.args.volume ask)
    c.in-Ok.ensures in
    let parts = c.record_of.ensures.parts in
    recorded_spelled c.args.emulating code c.args.volume c.args.time ask c.in-Ok.op c.record_of.result
    c.ranges.volume.fits number c.ranges.time.fits nodes spelled small accepted parts.0 parts.1 parts.2 most

pub returns-in-Err-clause-record : goal.returns-in-Err-clause-record
returns-in-Err-clause-record c = λ s is few.
    let ask = asked c.args.ask.now in
    let small : too_big ask ≡ None = search rules in
    recorded_err (served_sight c.args.emulating c.args.self.now c.args.volume) (s.volumes c.args.volume)
    c.args.time c.args.volume ask small c.in-Err.refusal c.in-Err.ensures

pub returns-in-Err-clause-own : goal.returns-in-Err-clause-own
returns-in-Err-clause-own c =
    own_or_memory (served_sight c.args.emulating c.args.self.now c.args.volume) c.args.volume (asked c.args.ask.now)
    (let r : Result Op Refused = Err c.in-Err.refusal in r) c.in-Err.ensures
