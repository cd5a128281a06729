use Rattle.std.proofs.Common.{arith, refl}
use Rattle.coda_journal.proofs.Headings.{short, shut, made, other, agrees, start}
use Rattle.coda_journal.proofs.heading.read_heading.Goals.{then-first-lt64-via-then-first-lt64, then-first-lt64-via-else-first-lt64+then-first-ne1}
use Rattle.coda_journal.proofs.heading.read_heading.Goals as goal

pub returns-then-first-lt64-clause-says : goal.returns-then-first-lt64-clause-says
returns-then-first-lt64-clause-says c = λ header image is same sized. elim c.then-first-lt64.branch [
  | then-first-lt64-via-then-first-lt64 w ↦ short header image c.args.first.now is (omega (arith, w.if-first-lt64))
  | then-first-lt64-via-else-first-lt64+then-first-ne1 w ↦ shut header image c.args.first.now is (omega (arith, w.if-first-ne1))
]

pub returns-in-Some-clause-says : goal.returns-in-Some-clause-says
returns-in-Some-clause-says c = λ header image is same sized. other header image c.args.first.now is (omega (arith, c.if-first-lt64.false)) (omega (arith, c.if-first-ne1.false)) c.args.asked.now same c.in-Some.place c.in-Some.ensures.other

pub returns-in-None-clause-says : goal.returns-in-None-clause-says
returns-in-None-clause-says c = λ header image is same sized. (made header image c.args.first.now is (omega (arith, c.if-first-lt64.false)) (omega (arith, c.if-first-ne1.false)), agrees header image c.args.first.now is c.args.asked.now same (c.in-None.ensures.same refl), start header image c.args.first.now is c.args.area sized)
