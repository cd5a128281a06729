use Rattle.std.proofs.Common.{◌∙◌}
use Rattle.coda_actors.specs.Plain.{Arms}
use Rattle.coda_crew.specs.Crews.{slot_at}
use Rattle.coda_crew.proofs.Lifts.{lifted_here, held_there, put_there, up_made}
use Rattle.coda_crew.proofs.crew.arm.Goals as goal

pub returns-clause-step : goal.returns-clause-step
returns-clause-step g c = λ of plain fits is.
    let form = g.A.Actor.form in
    let told = g.B.D.Disk.told in
    let n = c.args.number in
    let out = g.B.Bay.out c.args._bay.now in
    let has = g.B.Bay.has c.args._bay.now in
    let slots0 = c.args.slots.now in
    let slots1 = c.put.new.slots in
    let h = held_there form told (out n) (has n) (slot_at slots0 n) c.take-slot.result (plain n) c.take-slot.ensures.taken (up_made form (slot_at slots0 n) c.requires.up) (fits n is) in
    let w = c.arm-slot.ensures.step (plain n) h.1 in
    lifted_here form told of out has slots0 slots1 plain n Arms w.0 fits (λ k other. c.put.ensures.others k other ∙ c.take-slot.ensures.others k other) w.1
    (put_there form told (out n) (has n) (slot_at slots1 n) c.arm-slot.result w.0 c.put.ensures.here h.0 w.2)
