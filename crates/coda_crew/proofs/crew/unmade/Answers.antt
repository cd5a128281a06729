use Rattle.coda_crew.proofs.Lifts.{none_there, none_out, entered}
use Rattle.coda_crew.proofs.crew.unmade.Goals as goal

pub returns-clause-fits : goal.returns-clause-fits
returns-clause-fits g c = λ of plain none entry.
    entered g.A.Actor.form g.B.D.Disk.told of (g.B.Bay.out c.args._bay.now) (g.B.Bay.has c.args._bay.now) c.new.result plain (none_there c.new.result c.new.ensures.empty) none entry

pub returns-clause-out : goal.returns-clause-out
returns-clause-out g c = λ of none. none_out of (g.B.Bay.out c.args._bay.now) c.new.result (none_there c.new.result c.new.ensures.empty) none
