use Rattle.std.proofs.Common.{sym, ◌∙◌}
use Rattle.std.proofs.lemmas.Result.{err_from_is_err_and}
use Rattle.coda_script.proofs.TurnSteps.{turn_goes, turn_fails, turns_stop}
use Rattle.coda_script.proofs.turns.read_turns.Goals as goal

pub returns-in_err-thread : goal.returns-in_err-thread
returns-in_err-thread c =
    let p = err_from_is_err_and c.from_residual.result c.from_residual.ensures.1 in
    rw (p.1, p.2) (turn_fails c.in_err-thread.field-0.0 c.loop-cursor.cursor c.advance.new.self c.loop-cursor.seen _ (sym c.is_at_next.ensures ∙ c.loop-cursor-test.true) c.advance.ensures c.in_err-thread.ensures.gives c.loop-cursor.invariant)

pub loop-cursor-smaller : goal.loop-cursor-smaller
loop-cursor-smaller c = (turn_goes c.loop-cursor.cursor c.advance.new.self c.number.new.cursor c.loop-cursor.seen c.in_ok-thread.field-0 (sym c.is_at_next.ensures ∙ c.loop-cursor-test.true) c.advance.ensures c.in_ok-thread.ensures.gives).1

pub loop-cursor-preserved : goal.loop-cursor-preserved
loop-cursor-preserved c =
    rw c.with_thread-seen.ensures (c.loop-cursor.invariant ∙ (turn_goes c.loop-cursor.cursor c.advance.new.self c.number.new.cursor c.loop-cursor.seen c.in_ok-thread.field-0 (sym c.is_at_next.ensures ∙ c.loop-cursor-test.true) c.advance.ensures c.in_ok-thread.ensures.gives).0)

pub returns : goal.returns
returns c = c.loop-cursor.invariant ∙ turns_stop c.loop-cursor.cursor c.loop-cursor.seen (sym c.is_at_next.ensures ∙ c.loop-cursor-test.false)
