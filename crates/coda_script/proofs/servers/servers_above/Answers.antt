use Rattle.std.proofs.Common.{sym, ◌∙◌, arith}
use Rattle.std.proofs.lemmas.Result.{err_from_is_err_and}
use Rattle.coda_script.proofs.ServerSteps.{goes_on, gives_up, is_done}
use Rattle.coda_script.proofs.servers.servers_above.Goals as goal

pub returns-in_err-last : goal.returns-in_err-last
returns-in_err-last c =
    let p = err_from_is_err_and c.from_residual.result c.from_residual.ensures.1 in
    rw (p.1, p.2) (gives_up c.in_err-last.field-0.0 c.loop-cursor.items.items c.args.all c.loop-cursor.cursor c.loop-cursor.last _ (sym c.is_server_next.ensures ∙ c.loop-cursor-test.true) c.in_err-last.ensures.gives c.loop-cursor.invariant.same)

pub loop-cursor-preserved : goal.loop-cursor-preserved
loop-cursor-preserved c = record {
  small = omega (arith, c.in_ok-last.ensures.bound);
  same = rw c.in_ok-push.ensures.items (goes_on c.loop-cursor.items.items c.args.all c.loop-cursor.cursor c.number.new.cursor c.loop-cursor.last c.in_ok-last.field-0 _ (sym c.is_server_next.ensures ∙ c.loop-cursor-test.true) c.in_ok-last.ensures.gives c.loop-cursor.invariant.same);
}

pub returns : goal.returns
returns c = is_done c.loop-cursor.items.items c.args.all c.loop-cursor.cursor c.loop-cursor.last _ (sym c.is_server_next.ensures ∙ c.loop-cursor-test.false) c.loop-cursor.invariant.same
