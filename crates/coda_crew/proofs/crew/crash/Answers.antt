use Rattle.std.proofs.Common.{◌∙◌}
use Rattle.coda_actors.specs.Plain.{Crashes}
use Rattle.coda_crew.specs.Crews.{slot_at}
use Rattle.coda_crew.proofs.Lifts.{no_more, lifted, held_there, put_there}
use Rattle.coda_crew.proofs.crew.crash.Goals as goal

pub returns-in-Ok-clause-step : goal.returns-in-Ok-clause-step
returns-in-Ok-clause-step g c = λ of plain fits is.
    let form = g.A.Actor.form in
    let told = g.B.D.Disk.told in
    let n = c.args.number in
    let out0 = g.B.Bay.out c.args.bay.now in
    let has0 = g.B.Bay.has c.args.bay.now in
    let out1 = g.B.Bay.out c.crash.new.bay in
    let has1 = g.B.Bay.has c.crash.new.bay in
    let slots0 = c.args.slots.now in
    let slots1 = c.put.new.slots in
    let h = held_there form told (out0 n) (has0 n) (slot_at slots0 n) c.take-slot.result (plain n) c.take-slot.ensures.taken c.requires.made (fits n is) in
    let w = c.in-Ok.ensures.step (plain n) h.1 in (
      w.0,
      w.2,
      lifted form told of out0 out1 has0 has1 slots0 slots1 plain n (Crashes w.0) w.1 fits (λ k other. c.in-Ok.ensures.numbers k) (λ k other h. no_more (has0 k) (has1 k) (c.in-Ok.ensures.keeps k h))
          (λ k other. c.put.ensures.others k other ∙ c.take-slot.ensures.others k other) w.3 (put_there form told (out1 n) (has1 n) (slot_at slots1 n) c.in-Ok.slot w.1 c.put.ensures.here (c.in-Ok.ensures.numbers n ∙ h.0) w.4),
    )
