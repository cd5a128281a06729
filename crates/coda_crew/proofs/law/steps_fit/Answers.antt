use Rattle.std.proofs.Common.{refl}
use Rattle.coda_crew.specs.Crews.{slot_at}
use Rattle.coda_crew.proofs.Lifts.{lifted_here, out_here, out_more, own_more}
use Rattle.coda_crew.proofs.law.steps_fit.Goals as goal

pub returns-clause-step : goal.returns-clause-step
returns-clause-step g c = λ of plain n deed next fits there step here.
    lifted_here g.A.Actor.form g.B.D.Disk.told of (g.B.Bay.out c.args.bay.now) (g.B.Bay.has c.args.bay.now) c.args.before.now c.args.after.now plain n deed next fits there step here

pub returns-clause-out : goal.returns-clause-out
returns-clause-out g c = λ of n there is here fits.
    let out = g.B.Bay.out c.args.bay.now in
    let after = c.args.after.now in
    out_more of out out c.args.before.now after n (λ k other. refl) there (out_here (of n) (out n) (slot_at after n) is here) fits

pub returns-clause-own : goal.returns-clause-own
returns-clause-own g c = λ n there here own. own_more g.A.Actor.form c.args.before.now c.args.after.now n there here own
