use Rattle.std.proofs.Common.{Some, None}
use Rattle.std.proofs.lemmas.Result.{err_from_is_err_and}
use Rattle.coda_values.specs.Form.{gives, four}
use Rattle.coda_values.specs.Parts.{items, each}
use Rattle.coda_values.specs.Reading.{read}
use Rattle.coda_record.specs.Entries.{segment, volume_log_above, cached_after, client_entry}
use Rattle.coda_values.proofs.Lists.{goes_on, fails}
use Rattle.coda_record.proofs.snapshots.volume_logs_of.Goals as goal

pub returns-in_err-log : goal.returns-in_err-log
returns-in_err-log c =
    let p = err_from_is_err_and c.from_residual.result c.from_residual.ensures.1 in
    rw (p.1, p.2) (fails (volume_log_above four) (λ l. l.volume) c.loop.before c.loop.logs.items c.args.count c.loop.counter c.loop.cursor c.in_err-log.field-0.0 (read (items (volume_log_above four) (λ l. l.volume) 0 c.args.count (λ xs. gives xs)) c.args.cursor.now) c.loop-test.true c.in_err-log.ensures c.loop.invariant)

pub loop-preserved : goal.loop-preserved
loop-preserved c =
    rw c.in_ok-push.ensures.items (goes_on (volume_log_above four) (λ l. l.volume) c.loop.before c.loop.logs.items c.args.count c.loop.counter c.loop.cursor c.in_ok-log.log c.volume_log_above.new.cursor (read (items (volume_log_above four) (λ l. l.volume) 0 c.args.count (λ xs. gives xs)) c.args.cursor.now) c.loop-test.true c.in_ok-log.ensures c.loop.invariant)
