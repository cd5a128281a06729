use Rattle.std.proofs.Common.{Some, None}
use Rattle.std.proofs.lemmas.Result.{err_from_is_err_and}
use Rattle.coda_values.specs.Form.{gives, four}
use Rattle.coda_values.specs.Parts.{items, each}
use Rattle.coda_values.specs.Reading.{read}
use Rattle.coda_record.specs.Entries.{segment, volume_log_above, cached_after, client_entry}
use Rattle.coda_values.proofs.Lists.{goes_on, fails}
use Rattle.coda_record.proofs.snapshots.cached_nodes_of.Goals as goal

pub returns-in_err-object : goal.returns-in_err-object
returns-in_err-object c =
    let p = err_from_is_err_and c.from_residual.result c.from_residual.ensures.1 in
    rw (p.1, p.2) (fails (cached_after four) (λ o. Some o.0) c.loop.before c.loop.objects.items c.args.count c.loop.counter c.loop.cursor c.in_err-object.field-0.0 (read (items (cached_after four) (λ o. Some o.0) None c.args.count (λ xs. gives xs)) c.args.cursor.now) c.loop-test.true c.in_err-object.ensures c.loop.invariant)

pub loop-preserved : goal.loop-preserved
loop-preserved c =
    rw c.in_ok-push.ensures.items (goes_on (cached_after four) (λ o. Some o.0) c.loop.before c.loop.objects.items c.args.count c.loop.counter c.loop.cursor c.in_ok-object.object c.cached_after.new.cursor (read (items (cached_after four) (λ o. Some o.0) None c.args.count (λ xs. gives xs)) c.args.cursor.now) c.loop-test.true c.in_ok-object.ensures c.loop.invariant)
