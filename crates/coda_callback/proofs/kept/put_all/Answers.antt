use Rattle.coda_callback.specs.Kept.{has}
use Rattle.coda_callback.proofs.Loops.{gained_more, gained_some, at_error}
use Rattle.coda_callback.proofs.kept.put_all.Goals as goal

pub returns-in_err-put_one-clause-some : goal.returns-in_err-put_one-clause-some
returns-in_err-put_one-clause-some c = at_error c.from_residual.result (gained_some (has c.args.kept.now) (has c.loop-interest.kept) (has c.put_one.new.kept) c.args.moved.now c.loop-interest.interest-index c.in_err-put_one.ensures.err c.loop-interest.invariant)

pub loop-interest-preserved : goal.loop-interest-preserved
loop-interest-preserved c = gained_more (has c.args.kept.now) (has c.loop-interest.kept) (has c.put_one.new.kept) c.args.moved.now c.loop-interest.interest-index _ c.loop-interest-test.true c.in_ok-put_one.ensures.ok c.loop-interest.invariant
