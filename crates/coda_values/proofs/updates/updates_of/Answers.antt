use Rattle.std.proofs.Common.{ap, ◌∙◌, ◌∷◌, [], length, arith}
use Rattle.std.proofs.lemmas.Result.{err_from_is_err_and}
use Rattle.std.proofs.lemmas.List.{length-append}
use Rattle.coda_values.specs.Form.{gives}
use Rattle.coda_values.specs.Parts.{items, each}
use Rattle.coda_values.specs.Reading.{read}
use Rattle.coda_values.specs.Held.{update}
use Rattle.coda_values.proofs.Lists.{goes_on, fails}
use Rattle.coda_values.proofs.Logs.{pushed}
use Rattle.coda_values.proofs.updates.updates_of.Goals as goal

pub returns-in_err-update : goal.returns-in_err-update
returns-in_err-update c =
    let p = err_from_is_err_and c.from_residual-in_err-update.result c.from_residual-in_err-update.ensures.1 in
    rw (p.1, p.2) (fails (each update) (λ u. tt) tt c.loop.log c.args.count c.loop.counter c.loop.cursor c.in_err-update.field-0.0 (read (items (each update) (λ u. tt) tt c.args.count (λ us. gives us)) c.args.cursor.now) c.loop-test.true c.in_err-update.ensures c.loop.invariant.read_on)

pub loop-preserved : goal.loop-preserved
loop-preserved c =
    let whole = c.push.ensures.kept ∙ pushed c.loop.log c.in_ok-update.update (omega (arith, c.loop.invariant.so_many, c.loop-test.true, c.requires)) in
    record {
      read_on = rw whole (goes_on (each update) (λ u. tt) tt c.loop.log c.args.count c.loop.counter c.loop.cursor c.in_ok-update.update c.update.new.cursor (read (items (each update) (λ u. tt) tt c.args.count (λ us. gives us)) c.args.cursor.now) c.loop-test.true c.in_ok-update.ensures c.loop.invariant.read_on);
      so_many = ap length whole ∙ length-append c.loop.log (c.in_ok-update.update ∷ []) ∙ omega (arith, c.loop.invariant.so_many);
    }
