use Rattle.std.proofs.Common.{Some, None}
use Rattle.std.proofs.lemmas.Result.{err_from_is_err_and}
use Rattle.coda_values.specs.Form.{gives, four}
use Rattle.coda_values.specs.Parts.{items, each}
use Rattle.coda_values.specs.Reading.{read}
use Rattle.coda_record.specs.Entries.{segment, volume_log_above, cached_after, client_entry}
use Rattle.coda_values.proofs.Lists.{goes_on, fails}
use Rattle.coda_record.proofs.snapshots.segments_of.Goals as goal

pub returns-in_err-segment : goal.returns-in_err-segment
returns-in_err-segment c =
    let p = err_from_is_err_and c.from_residual.result c.from_residual.ensures.1 in
    rw (p.1, p.2) (fails (each (segment four)) (λ s. tt) tt c.loop.segments.items c.args.count c.loop.counter c.loop.cursor c.in_err-segment.field-0.0 (read (items (each (segment four)) (λ s. tt) tt c.args.count (λ xs. gives xs)) c.args.cursor.now) c.loop-test.true c.in_err-segment.ensures c.loop.invariant)

pub loop-preserved : goal.loop-preserved
loop-preserved c =
    rw c.in_ok-push.ensures.items (goes_on (each (segment four)) (λ s. tt) tt c.loop.segments.items c.args.count c.loop.counter c.loop.cursor c.in_ok-segment.segment c.segment.new.cursor (read (items (each (segment four)) (λ s. tt) tt c.args.count (λ xs. gives xs)) c.args.cursor.now) c.loop-test.true c.in_ok-segment.ensures c.loop.invariant)
