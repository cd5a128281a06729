use Rattle.std.proofs.Common.{Some, None}
use Rattle.std.proofs.lemmas.Result.{err_from_is_err_and}
use Rattle.coda_values.specs.Form.{gives, four}
use Rattle.coda_values.specs.Parts.{items, each}
use Rattle.coda_values.specs.Reading.{read}
use Rattle.coda_record.specs.Hoard.{hoard_entry}
use Rattle.coda_values.proofs.Lists.{goes_on, fails}
use Rattle.coda_record.proofs.hoard.hoard_entries_of.Goals as goal

pub returns-in_err-entry : goal.returns-in_err-entry
returns-in_err-entry c =
    let p = err_from_is_err_and c.from_residual.result c.from_residual.ensures.1 in
    rw (p.1, p.2) (fails (each (hoard_entry four)) (λ e. tt) tt c.loop.entries.items c.args.count c.loop.counter c.loop.cursor c.in_err-entry.field-0.0 (read (items (each (hoard_entry four)) (λ e. tt) tt c.args.count (λ xs. gives xs)) c.args.cursor.now) c.loop-test.true c.in_err-entry.ensures c.loop.invariant)

pub loop-preserved : goal.loop-preserved
loop-preserved c =
    rw c.in_ok-push.ensures.items (goes_on (each (hoard_entry four)) (λ e. tt) tt c.loop.entries.items c.args.count c.loop.counter c.loop.cursor c.in_ok-entry.entry c.hoard_entry.new.cursor (read (items (each (hoard_entry four)) (λ e. tt) tt c.args.count (λ xs. gives xs)) c.args.cursor.now) c.loop-test.true c.in_ok-entry.ensures c.loop.invariant)
