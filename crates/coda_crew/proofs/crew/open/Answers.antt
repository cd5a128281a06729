use Rattle.std.proofs.Common.{◌∙◌}
use Rattle.coda_actors.specs.Plain.{Opens}
use Rattle.coda_crew.specs.Crews.{slot_at}
use Rattle.coda_crew.proofs.Lifts.{no_more, lifted, fits_there}
use Rattle.coda_crew.proofs.crew.open.Goals as goal

pub returns-in-Ok-clause-step : goal.returns-in-Ok-clause-step
returns-in-Ok-clause-step g c = λ of plain fits is.
    let form = g.A.Actor.form in
    let told = g.B.D.Disk.told in
    let n = c.args.number in
    let out0 = g.B.Bay.out c.args.bay.now in
    let has0 = g.B.Bay.has c.args.bay.now in
    let out1 = g.B.Bay.out c.open.new.bay in
    let has1 = g.B.Bay.has c.open.new.bay in
    let slots0 = c.args.slots.now in
    let slots1 = c.put.new.slots in
    let took = c.take-slot.ensures.taken ∙ c.make_place.ensures.same n in
    let w = c.in-Ok.ensures.step (plain n) (fits_there form told (out0 n) (has0 n) (slot_at slots0 n) c.take-slot.result (plain n) took (fits n is)) in
    lifted form told of out0 out1 has0 has1 slots0 slots1 plain n (Opens c.args.header.now c.in-Ok.mounting) w.0 fits c.in-Ok.ensures.others (λ k other h. no_more (has0 k) (has1 k) (c.in-Ok.ensures.keeps k other h))
    (λ k other. c.put.ensures.others k other ∙ c.take-slot.ensures.others k other ∙ c.make_place.ensures.same k) w.1 (fits_there form told (out1 n) (has1 n) c.in-Ok.slot (slot_at slots1 n) w.0 c.put.ensures.here w.2)
