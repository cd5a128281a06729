use Rattle.std.proofs.Common.{rules, ◌≡◌, true, None, Result, Ok, Err, sym, subst}
use Rattle.coda_venus.specs.declared.refused.Refused.{Refused}
use Rattle.std.specs.BTreeMap as tree
use Rattle.std.specs.Ordering.{nat_cmp}
use Rattle.coda_fid.specs.declared.op.Op.{Op}
use Rattle.coda_spelling.specs.Spelled.{IsSpelled}
use Rattle.coda_venus.specs.Accepting.{accept}
use Rattle.coda_venus.specs.Ask.{asked, too_big}
use Rattle.coda_venus.specs.Caching.{served_sight}
use Rattle.coda_venus.specs.Code.{MayPerform, IsNextOf, volume_in, sight}
use Rattle.coda_venus.specs.Operating.{MayBegin}
use Rattle.coda_venus.proofs.OwnRefusals.{own_or_memory}
use Rattle.coda_venus.proofs.Performed.{surely_ok, ok_map, may_begin, may_perform, operation_ok, operation_err, next_spelled}
use Rattle.coda_venus.proofs.Served.{accepted_whole}
use Rattle.coda_venus.proofs.client.Client.next_operation.Goals as goal

pub returns-in-Ok-clause-operation : goal.returns-in-Ok-clause-operation
returns-in-Ok-clause-operation c = λ s is few.
    let code = c.args.self.now in
    let ask = asked c.args.ask.now in
    let small : too_big ask ≡ None = search rules in
    operation_ok s code c.args.time c.args.volume ask is c.in-Ok.op c.next_record.result small (surely_ok c.in-Ok.op (accept (sight code c.args.volume) c.args.volume ask) (accepted_whole code c.args.volume ask (Ok c.in-Ok.op) c.in-Ok.ensures)) (c.next_record.ensures.next s is few)

pub returns-in-Ok-clause-begin : goal.returns-in-Ok-clause-begin
returns-in-Ok-clause-begin c =
    let code = c.args.self.now in
    let ask = asked c.args.ask.now in
    let accepted = surely_ok c.in-Ok.op (accept (sight code c.args.volume) c.args.volume ask) (accepted_whole code c.args.volume ask (Ok c.in-Ok.op) c.in-Ok.ensures) in
    ok_map c.next_record.result (IsNextOf (volume_in (tree.get nat_cmp code.logs c.args.volume)).log c.args.time c.in-Ok.op) (λ rec. MayBegin code.cache.nodes rec.op) c.next_record.ensures.may
    (λ rec next. subst (MayBegin code.cache.nodes) (sym next.what) (may_begin code c.args.volume ask c.in-Ok.op accepted))

pub returns-in-Ok-clause-perform : goal.returns-in-Ok-clause-perform
returns-in-Ok-clause-perform c =
    let code = c.args.self.now in
    let ask = asked c.args.ask.now in
    let accepted = surely_ok c.in-Ok.op (accept (sight code c.args.volume) c.args.volume ask) (accepted_whole code c.args.volume ask (Ok c.in-Ok.op) c.in-Ok.ensures) in
    ok_map c.next_record.result (IsNextOf (volume_in (tree.get nat_cmp code.logs c.args.volume)).log c.args.time c.in-Ok.op) (MayPerform (volume_in (tree.get nat_cmp code.logs c.args.volume))) c.next_record.ensures.may
    (λ rec next. may_perform code c.args.volume c.args.time ask c.in-Ok.op rec accepted next)

pub returns-in-Ok-clause-spelled : goal.returns-in-Ok-clause-spelled
returns-in-Ok-clause-spelled c = λ number nodes spelled.
    let code = c.args.self.now in
    let ask = asked c.args.ask.now in
    let small : too_big ask ≡ None = search rules in
    let accepted = surely_ok c.in-Ok.op (accept (sight code c.args.volume) c.args.volume ask) (accepted_whole code c.args.volume ask (Ok c.in-Ok.op) c.in-Ok.ensures) in
    ok_map c.next_record.result (IsNextOf (volume_in (tree.get nat_cmp code.logs c.args.volume)).log c.args.time c.in-Ok.op) IsSpelled c.next_record.ensures.may
    (λ rec next. next_spelled code c.args.volume c.args.time ask c.in-Ok.op rec c.ranges.volume.fits number c.ranges.time.fits nodes spelled small accepted next)

pub returns-in-Err-clause-operation : goal.returns-in-Err-clause-operation
returns-in-Err-clause-operation c = λ s is few.
    let ask = asked c.args.ask.now in
    let small : too_big ask ≡ None = search rules in
    operation_err s c.args.self.now c.args.time c.args.volume ask is c.in-Err.refusal small (accepted_whole c.args.self.now c.args.volume ask (Err c.in-Err.refusal) c.in-Err.ensures)

pub returns-in-Err-clause-own : goal.returns-in-Err-clause-own
returns-in-Err-clause-own c = own_or_memory (served_sight true c.args.self.now c.args.volume) c.args.volume (asked c.args.ask.now) (let r : Result Op Refused = Err c.in-Err.refusal in r) c.in-Err.ensures
