use Rattle.std.proofs.Common.{subst}
use Rattle.coda_cancel.specs.Mentions.{has, tells, Loses}
use Rattle.coda_cancel.proofs.Parts.{forgotten_more}
use Rattle.coda_cancel.proofs.tail.forget_all.Goals as goal

pub loop-record-preserved : goal.loop-record-preserved
loop-record-preserved c = forgotten_more (has c.args.index.now) (has c.loop-record.index) (has c.forget.new.index) c.args.records.now c.loop-record.record-index c.record-item.result c.loop-record-test.true c.loop-record.invariant
    (subst (λ r. Loses (has c.loop-record.index) (has c.forget.new.index) (tells r)) c.record-item.is c.forget.ensures)
