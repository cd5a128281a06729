use Rattle.std.proofs.lemmas.Result.{err_from_is_err_and}
use Rattle.coda_values.specs.Form.{four, gives}
use Rattle.coda_values.specs.Parts.{items}
use Rattle.coda_values.specs.Reading.{read}
use Rattle.coda_values.specs.Table.{record_above}
use Rattle.coda_values.proofs.Lists.{goes_on, fails}
use Rattle.coda_values.proofs.reading.some_records.Goals as goal

pub returns-in_err-record : goal.returns-in_err-record
returns-in_err-record c =
    let p = err_from_is_err_and c.from_residual.result c.from_residual.ensures.1 in
    rw (p.1, p.2) (fails (record_above four) (λ r. r.number) c.loop.before c.loop.records.items c.args.count c.loop.counter c.loop.cursor c.in_err-record.field-0.0 (read (items (record_above four) (λ r. r.number) 0 c.args.count (λ rs. gives rs)) c.args.cursor.now) c.loop-test.true c.in_err-record.ensures c.loop.invariant)

pub loop-preserved : goal.loop-preserved
loop-preserved c =
    rw c.in_ok-push.ensures.items (goes_on (record_above four) (λ r. r.number) c.loop.before c.loop.records.items c.args.count c.loop.counter c.loop.cursor c.in_ok-record.record c.record_above.new.cursor (read (items (record_above four) (λ r. r.number) 0 c.args.count (λ rs. gives rs)) c.args.cursor.now) c.loop-test.true c.in_ok-record.ensures c.loop.invariant)
