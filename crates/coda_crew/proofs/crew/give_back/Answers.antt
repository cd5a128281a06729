use Rattle.std.proofs.Common.{◌∙◌}
use Rattle.coda_crew.proofs.Giving.{ended, shut, given_more, sum_more}
use Rattle.coda_crew.proofs.crew.give_back.Goals as goal

pub loop-number-preserved : goal.loop-number-preserved
loop-number-preserved g c =
    let form = g.A.Actor.form in
    let told = g.B.D.Disk.told in
    let bay0 = c.args.bay.now in
    let bay1 = c.loop-number.bay in
    let bay2 = c.give_one.new.bay in
    let slots1 = c.loop-number.slots in
    let slots2 = c.pop.new.slots in
    let kept = c.loop-number.invariant in
    let gone = c.in-Some.ensures.slot in
    let given = c.give_one.ensures in record {
      giving = given_more form told (g.B.Bay.out bay0) (g.B.Bay.out bay1) (g.B.Bay.out bay2) (g.B.Bay.has bay0) (g.B.Bay.has bay1) (g.B.Bay.has bay2) c.args.slots slots1 slots2
          c.in-Some.number c.in-Some.slot gone.0 gone.1 gone.2 given.stands given.here given.others given.keeps given.vacant kept.giving;
      answered = given.answered ∙ kept.answered;
      disk_faults = sum_more form told g.B.D.Disk.faults slots1.entries slots2.entries c.in-Some.number c.in-Some.slot (g.B.Bay.disk_faults bay1) (g.B.Bay.disk_faults bay2) _ c.in-Some.ensures.entries given.disk_faults kept.disk_faults;
      disk_arms = sum_more form told g.B.D.Disk.arms slots1.entries slots2.entries c.in-Some.number c.in-Some.slot (g.B.Bay.disk_arms bay1) (g.B.Bay.disk_arms bay2) _ c.in-Some.ensures.entries given.disk_arms kept.disk_arms;
      faults = given.faults ∙ kept.faults;
      follows = g.met.B.Bay.then bay0 bay1 bay2 kept.follows given.follows;
    }

pub returns-clause-stands : goal.returns-clause-stands
returns-clause-stands g c = λ of plain fits.
    ended g.A.Actor.form g.B.D.Disk.told (g.B.Bay.out c.args.bay.now) (g.B.Bay.out c.loop-number.bay) (g.B.Bay.has c.args.bay.now) (g.B.Bay.has c.loop-number.bay) c.args.slots c.loop-number.slots of plain
    c.loop-number.invariant.giving c.in_default.ensures.slot fits

pub returns-clause-out : goal.returns-clause-out
returns-clause-out g c = λ of fits.
    shut g.A.Actor.form g.B.D.Disk.told (g.B.Bay.out c.args.bay.now) (g.B.Bay.out c.loop-number.bay) (g.B.Bay.has c.args.bay.now) (g.B.Bay.has c.loop-number.bay) c.args.slots c.loop-number.slots of
    c.loop-number.invariant.giving c.in_default.ensures.slot fits
