use Rattle.std.proofs.Common.{◌+◌, ap, arith}
use Rattle.coda_fid.specs.Op.{weight_of}
use Rattle.coda_cancel.proofs.Leaves.{total-more, total-front}
use Rattle.coda_cancel.proofs.leaving.weigh.Goals as goal

pub returns-in-None-clause-none : goal.returns-in-None-clause-none
returns-in-None-clause-none c =
    let more = total-more c.loop-record.record-index c.args.records.now c.record-item.result c.loop-record-test.true in
    let item = ap (λ r. weight_of r.op) c.record-item.is in
    let front = total-front (c.loop-record.record-index + 1) c.args.records.now in
    let over = c.in-None.ensures in
    omega (arith, more, item, front, over, c.weight.ensures, c.loop-record.invariant)

pub loop-record-preserved : goal.loop-record-preserved
loop-record-preserved c =
    let more = total-more c.loop-record.record-index c.args.records.now c.record-item.result c.loop-record-test.true in
    let item = ap (λ r. weight_of r.op) c.record-item.is in
    let sum = c.in-Some.ensures in
    omega (arith, more, item, sum, c.weight.ensures, c.loop-record.invariant)
