use Rattle.std.proofs.Common.{Some, None}
use Rattle.std.proofs.lemmas.Result.{err_from_is_err_and}
use Rattle.coda_values.specs.Form.{gives, four}
use Rattle.coda_values.specs.Parts.{items, each}
use Rattle.coda_values.specs.Reading.{read}
use Rattle.coda_record.specs.Table.{last_above}
use Rattle.coda_values.proofs.Lists.{goes_on, fails}
use Rattle.coda_record.proofs.decisions.lasts_of.Goals as goal

pub returns-in_err-last : goal.returns-in_err-last
returns-in_err-last c =
    let p = err_from_is_err_and c.from_residual.result c.from_residual.ensures.1 in
    rw (p.1, p.2) (fails last_above (λ l. l.client) c.loop.before c.loop.lasts.items c.args.count c.loop.counter c.loop.cursor c.in_err-last.field-0.0 (read (items last_above (λ l. l.client) 0 c.args.count (λ xs. gives xs)) c.args.cursor.now) c.loop-test.true c.in_err-last.ensures c.loop.invariant)

pub loop-preserved : goal.loop-preserved
loop-preserved c =
    rw c.in_ok-push.ensures.items (goes_on last_above (λ l. l.client) c.loop.before c.loop.lasts.items c.args.count c.loop.counter c.loop.cursor c.in_ok-last.last c.last_above.new.cursor (read (items last_above (λ l. l.client) 0 c.args.count (λ xs. gives xs)) c.args.cursor.now) c.loop-test.true c.in_ok-last.ensures c.loop.invariant)
