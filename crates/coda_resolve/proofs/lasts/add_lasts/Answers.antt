use Rattle.coda_certify.specs.declared.verdict.Verdict.TheVariants.{Applied}
use Rattle.coda_resolve.proofs.Lasting.{lasts_more}
use Rattle.coda_resolve.proofs.lasts.add_lasts.Goals as goal

pub loop-last-preserved : goal.loop-last-preserved
loop-last-preserved c = λ lasts are. lasts_more c.args.more.now c.loop-last.last-index (record { client = 0; number = 0; verdict = Applied }) c.loop-last.table c.add_last.new.table c.loop-last-test.true c.in_ok-add_last.ensures lasts (c.loop-last.invariant lasts are)
