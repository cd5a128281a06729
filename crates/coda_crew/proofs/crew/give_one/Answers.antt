use Rattle.std.proofs.Common.{◌∙◌, sym}
use Rattle.coda_crew.proofs.Giving.{fits_held, after_given}
use Rattle.coda_crew.proofs.crew.give_one.Goals as goal

pub returns-in_default : goal.returns-in_default
returns-in_default g c =
    let n = c.args.number in
    let out = g.B.Bay.out c.args.bay.now n in
    let slot = c.args.slot in
    let not = c.in_default.not-Vacant in record {
      stands = λ plain f. c.give_back.ensures.stands plain (fits_held g.A.Actor.form g.B.D.Disk.told out (g.B.Bay.has c.args.bay.now n) slot plain not c.requires f);
      here = c.give_back.ensures.out.this ∙ sym (after_given out slot not);
      others = c.give_back.ensures.out.others;
      keeps = c.give_back.ensures.keeps;
      vacant = λ is. absurd (not is);
      answered = c.give_back.ensures.answered;
      disk_faults = c.give_back.ensures.disk_faults;
      disk_arms = c.give_back.ensures.disk_arms;
      faults = c.give_back.ensures.faults;
      follows = c.give_back.ensures.follows;
    }
