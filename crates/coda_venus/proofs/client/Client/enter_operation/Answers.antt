use Rattle.std.proofs.Common.{◌≡◌, ap, sym, subst, ◌∙◌}
use Rattle.coda_cache.specs.State.{CacheState}
use Rattle.coda_venus.specs.Code.{IsClient, held_in}
use Rattle.coda_venus.specs.Held.{held_after_operation}
use Rattle.coda_venus.specs.Operating.{MayBegin}
use Rattle.coda_cache.specs.Operating.{MayEnd, finished, undone}
use Rattle.coda_cache.specs.Steps.{mutated}
use Rattle.coda_venus.proofs.SendableLogs.{state_now, is_now}
use Rattle.coda_venus.proofs.Entered.{on_err, with_cache, between, is_between, entered, returned, nodes_entered}
use Rattle.coda_venus.proofs.client.Client.enter_operation.Goals as goal

pub begin-requires : goal.begin-requires
begin-requires c = (subst (λ (k : CacheState). MayBegin k.nodes c.args.rec.op) (sym c.make_log.ensures.kept.1) c.requires.begin).apply

pub finish-requires : goal.finish-requires
finish-requires c = subst (λ (k : CacheState). MayEnd k c.in_ok-begun.begun) (sym c.in-Ok.ensures.kept.1) c.in_ok-begun.ensures.begun.may

pub undo-requires : goal.undo-requires
undo-requires c = subst (λ (k : CacheState). MayEnd k c.in_ok-begun.begun) (sym c.in-Err.ensures.kept.1) c.in_ok-begun.ensures.begun.may

pub returns-in_err-make_log-clause-err : goal.returns-in_err-make_log-clause-err
returns-in_err-make_log-clause-err c = λ s is. on_err c.from_residual.result (IsClient s c.make_log.new.self) (c.in_err-make_log.ensures.client s is)

pub returns-in_err-begun-clause-err : goal.returns-in_err-begun-clause-err
returns-in_err-begun-clause-err c = λ s is.
    let made = c.make_log.new.self in
    let at = c.in_ok-make_log.ensures.client s is in
    let same = c.in_err-begun.ensures.err in
    on_err c.from_residual-in_err-begun.result (IsClient s (record made { cache = c.begin.new.self })) (with_cache s made c.begin.new.self s.held at (ap (λ (k : CacheState). k.size) same) (at.held ∙ ap held_in (sym same)))

pub returns-in-Ok-clause-entered : goal.returns-in-Ok-clause-entered
returns-in-Ok-clause-entered c = λ s is.
    let made = c.make_log.new.self in
    let began = c.begin.new.self in
    let pushed = c.push.new.self in
    let at = c.in_ok-make_log.ensures.client s is in
    let may = subst (λ (k : CacheState). MayBegin k.nodes c.args.rec.op) (sym c.make_log.ensures.kept.1) c.requires.begin in
    let has = c.in_ok-begun.ensures.begun in
    let same = c.in-Ok.ensures.kept.1 in
    entered s c.args.volume c.args.rec made pushed began c.finish.new.self c.in_ok-begun.begun at c.agree.ensures may has same
    (c.in-Ok.ensures.pushed (between s c.args.volume c.args.rec made pushed began c.finish.new.self c.in_ok-begun.begun at c.agree.ensures may has same) (is_between s c.args.volume c.args.rec made pushed began c.finish.new.self c.in_ok-begun.begun at c.agree.ensures may has same))
    c.finish.ensures

pub returns-in-Ok-clause-nodes : goal.returns-in-Ok-clause-nodes
returns-in-Ok-clause-nodes c =
    let made = c.make_log.new.self in
    let may = subst (λ (k : CacheState). MayBegin k.nodes c.args.rec.op) (sym c.make_log.ensures.kept.1) c.requires.begin in
    nodes_entered (state_now made) c.args.volume c.args.rec made c.push.new.self c.begin.new.self c.finish.new.self c.in_ok-begun.begun (is_now made) c.agree.ensures may c.in_ok-begun.ensures.begun c.in-Ok.ensures.kept.1 c.finish.ensures
    ∙ (λ i. (held_after_operation (held_in (c.make_log.ensures.kept.1 i)) (c.make_log.ensures.kept.0 i) c.args.rec).nodes)

pub returns-in-Err-clause-err : goal.returns-in-Err-clause-err
returns-in-Err-clause-err c = λ s is.
    let made = c.make_log.new.self in
    let began = c.begin.new.self in
    let pushed = c.push.new.self in
    let at = c.in_ok-make_log.ensures.client s is in
    let may = subst (λ (k : CacheState). MayBegin k.nodes c.args.rec.op) (sym c.make_log.ensures.kept.1) c.requires.begin in
    let has = c.in_ok-begun.ensures.begun in
    let same = c.in-Err.ensures.kept.1 in
    returned s c.args.volume c.args.rec made pushed began c.undo.new.self c.in_ok-begun.begun at c.agree.ensures may has same
    (c.in-Err.ensures.err (between s c.args.volume c.args.rec made pushed began c.undo.new.self c.in_ok-begun.begun at c.agree.ensures may has same) (is_between s c.args.volume c.args.rec made pushed began c.undo.new.self c.in_ok-begun.begun at c.agree.ensures may has same))
    c.undo.ensures

pub returns-in_err-begun-clause-cache_err : goal.returns-in_err-begun-clause-cache_err
returns-in_err-begun-clause-cache_err c = on_err c.from_residual-in_err-begun.result (c.begin.new.self ≡ c.args.self.now.cache) (c.in_err-begun.ensures.err ∙ c.make_log.ensures.kept.1)

pub returns-in-Ok-clause-cache : goal.returns-in-Ok-clause-cache
returns-in-Ok-clause-cache c =
    let kept = c.make_log.ensures.kept in
    c.finish.ensures ∙ ap (λ (k : CacheState). finished k c.in_ok-begun.begun) c.in-Ok.ensures.kept.1 ∙ c.in_ok-begun.ensures.begun.finishes ∙ (λ i. mutated (kept.1 i) (kept.0 i) c.args.rec)

pub returns-in-Err-clause-cache_err : goal.returns-in-Err-clause-cache_err
returns-in-Err-clause-cache_err c =
    c.undo.ensures ∙ ap (λ (k : CacheState). undone k c.in_ok-begun.begun) c.in-Err.ensures.kept.1 ∙ c.in_ok-begun.ensures.begun.undoes ∙ c.make_log.ensures.kept.1
