use Rattle.coda_cancel.specs.Mentions.{has}
use Rattle.coda_cancel.proofs.Mentioned.{at_error, gained_some, gained_more}
use Rattle.coda_cancel.proofs.mentions.put_all.Goals as goal

pub returns-in_err-put-clause-err : goal.returns-in_err-put-clause-err
returns-in_err-put-clause-err c = at_error c.from_residual.result (gained_some (has c.args.index.now) (has c.loop-fid.index) (has c.put.new.index) c.args.fids.now c.loop-fid.fid-index c.args.number c.loop-fid.invariant c.in_err-put.ensures.err)

pub loop-fid-preserved : goal.loop-fid-preserved
loop-fid-preserved c = gained_more (has c.args.index.now) (has c.loop-fid.index) (has c.put.new.index) c.args.fids.now c.loop-fid.fid-index _ c.args.number c.loop-fid-test.true c.loop-fid.invariant c.in_ok-put.ensures.ok
