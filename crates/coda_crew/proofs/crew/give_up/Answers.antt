use Rattle.std.proofs.Common.{refl, ◌∙◌}
use Rattle.coda_actors.specs.Plain.{Leaves}
use Rattle.coda_crew.specs.Crews.{slot_at}
use Rattle.coda_crew.proofs.Lifts.{lifted_here, held_there, put_there, out_changed, out_more}
use Rattle.coda_crew.proofs.crew.give_up.Goals as goal

pub returns-clause-step : goal.returns-clause-step
returns-clause-step g c = λ of plain fits is.
    let form = g.A.Actor.form in
    let told = g.B.D.Disk.told in
    let n = c.args.number in
    let out = g.B.Bay.out c.args._bay.now in
    let has = g.B.Bay.has c.args._bay.now in
    let slots0 = c.args.slots.now in
    let slots1 = c.put.new.slots in
    let h = held_there form told (out n) (has n) (slot_at slots0 n) c.take-slot.result (plain n) c.take-slot.ensures.taken c.requires.made (fits n is) in
    let w = c.give_up-slot.ensures.step (plain n) h.1 in
    lifted_here form told of out has slots0 slots1 plain n Leaves w.0 fits (λ k other. c.put.ensures.others k other ∙ c.take-slot.ensures.others k other) w.1
    (put_there form told (out n) (has n) (slot_at slots1 n) c.give_up-slot.result w.0 c.put.ensures.here h.0 w.2)

pub returns-clause-out : goal.returns-clause-out
returns-clause-out g c = λ of fits.
    let n = c.args.number in
    let out = g.B.Bay.out c.args._bay.now in
    let slots0 = c.args.slots.now in
    let slots1 = c.put.new.slots in
    out_more of out out slots0 slots1 n (λ k other. refl) (λ k other. c.put.ensures.others k other ∙ c.take-slot.ensures.others k other)
    (out_changed (of n) (out n) (slot_at slots0 n) c.take-slot.result c.give_up-slot.result (slot_at slots1 n) c.take-slot.ensures.taken c.put.ensures.here c.requires.made (c.give_up-slot.ensures.out (out n)) (fits n)) fits
