use Rattle.coda_engine.specs.declared.status.Status.TheVariants.{Memory}
use Rattle.coda_engine.proofs.Forwarding.{leaves_same}
use Rattle.coda_engine.proofs.Going.{memory_at_start}
use Rattle.coda_engine.proofs.running.run.Goals as goal

pub returns-in-Err-clause-report : goal.returns-in-Err-clause-report
returns-in-Err-clause-report g c =
    let report = memory_at_start g.M.Machine.gives g.M.Machine.refuses c.args.machine.now _ _ in
    (report.0, c.args.machine.now, report.1, leaves_same c.args.machine.now Memory (λ e. cc))
