use Rattle.coda_venus.specs.Code.{IsClient}
use Rattle.coda_venus.proofs.Entered.{on_err}
use Rattle.coda_venus.proofs.Operations.{follows, is_accepted, is_next, begins, performs}
use Rattle.coda_venus.proofs.client.Client.enter_operated.Goals as goal

pub returns-then-not-is_next-clause-misfit : goal.returns-then-not-is_next-clause-misfit
returns-then-not-is_next-clause-misfit c = λ s is _ may.
    let yes_it_is = c.is_next.ensures.no (is_next s c.args.self.now c.args.volume c.args.rec is may) in
    let it_is_not = c.if-not-is_next.true in
    cc

pub returns-then-not-branch-clause-misfit : goal.returns-then-not-branch-clause-misfit
returns-then-not-branch-clause-misfit c = λ s is _ may.
    let yes_it_is = c.in_ok-accepts.ensures.no (is_accepted s c.args.self.now c.args.volume c.args.rec is may) in
    let it_is_not = c.if-not-branch.true in
    cc

pub enter_operation-requires-clause-begin : goal.enter_operation-requires-clause-begin
enter_operation-requires-clause-begin c = begins c.args.self.now c.args.volume c.args.rec (c.in_ok-accepts.ensures.yes c.if-not-branch.false)

pub enter_operation-requires-clause-perform : goal.enter_operation-requires-clause-perform
enter_operation-requires-clause-perform c = performs c.args.self.now c.args.volume c.args.rec (c.in_ok-accepts.ensures.yes c.if-not-branch.false) (c.is_next.ensures.yes c.if-not-is_next.false)

pub returns-in_err-enter_operation-clause-err : goal.returns-in_err-enter_operation-clause-err
returns-in_err-enter_operation-clause-err c = λ s is. on_err c.from_residual-in_err-enter_operation.result (IsClient s c.enter_operation.new.self) (c.in_err-enter_operation.ensures.err s is)

pub returns-clause-ok : goal.returns-clause-ok
returns-clause-ok c = λ s is. follows s c.args.self.now c.args.volume c.args.rec is (c.in_ok-accepts.ensures.yes c.if-not-branch.false) (c.is_next.ensures.yes c.if-not-is_next.false)
