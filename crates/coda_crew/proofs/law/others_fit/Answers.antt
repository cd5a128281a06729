use Rattle.coda_crew.proofs.Lifts.{others_left, left_fits, left_out}
use Rattle.coda_crew.proofs.law.others_fit.Goals as goal

pub returns-clause-call : goal.returns-clause-call
returns-clause-call g c = λ of n not others keeps.
    others_left of (g.B.Bay.out c.args.before.now) (g.B.Bay.out c.args.after.now) (g.B.Bay.has c.args.before.now) (g.B.Bay.has c.args.after.now) n not others keeps

pub returns-clause-fits : goal.returns-clause-fits
returns-clause-fits g c = λ of plain left fits.
    left_fits g.A.Actor.form g.B.D.Disk.told of (g.B.Bay.out c.args.before.now) (g.B.Bay.out c.args.after.now) (g.B.Bay.has c.args.before.now) (g.B.Bay.has c.args.after.now) c.args.slots.now plain left fits

pub returns-clause-out : goal.returns-clause-out
returns-clause-out g c = λ of left fits.
    left_out of (g.B.Bay.out c.args.before.now) (g.B.Bay.out c.args.after.now) (g.B.Bay.has c.args.before.now) (g.B.Bay.has c.args.after.now) c.args.slots.now left fits
