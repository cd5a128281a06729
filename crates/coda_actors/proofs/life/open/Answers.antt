use Rattle.std.proofs.Common.{◌≡◌, ap, ◌∙◌, true}
use Rattle.coda_actors.specs.Fits.{FitsUnmade}
use Rattle.coda_actors.proofs.Deeds.{taken, spared, spared_out, placed}
use Rattle.coda_actors.proofs.life.open.Goals as goal
use Rattle.coda_actors.proofs.life.open.Goals.{in-Vacant+in_ok-disk-in-Vacant, in-Spare}

pub returns-clause-step : goal.returns-clause-step
returns-clause-step g c = λ plain fits.
    let form = g.A.Actor.form in
    let told = g.B.D.Disk.told in
    let n = c.args.number in
    let out = g.B.Bay.out c.args.bay.now n in
    let has = g.B.Bay.has c.args.bay.now n in
    let out1 = g.B.Bay.out c.match-slot.bay n in
    let unmade : FitsUnmade form (told c.match-slot.disk) plain = elim c.match-slot.branch [
      | in-Vacant+in_ok-disk-in-Vacant w ↦ taken form told out has c.args.slot plain c.match-slot.disk w.in_ok-disk-in-Vacant.disk w.in-Vacant.is w.disk-is w.in_ok-disk-in-Vacant.ensures.taken fits
      | in-Spare w ↦ spared form told out has c.args.slot plain c.match-slot.disk w.in-Spare.disk w.in-Spare.is w.disk-is fits
    ] in
    let is : out1 ≡ true = elim c.match-slot.branch [
      | in-Vacant+in_ok-disk-in-Vacant w ↦ ap (λ b. g.B.Bay.out b n) w.bay-is ∙ w.in_ok-disk-in-Vacant.ensures.out.this
      | in-Spare w ↦ ap (λ b. g.B.Bay.out b n) w.bay-is ∙ spared_out form told out has c.args.slot plain w.in-Spare.disk w.in-Spare.is fits
    ] in
    let w = c.make.ensures.step plain unmade in
    (w.0, w.1, placed form told out1 (g.B.Bay.has c.match-slot.bay n) c.make.result.1 w.0 is w.2)
