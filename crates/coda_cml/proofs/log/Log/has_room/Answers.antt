use Rattle.std.proofs.Common.{◌≡◌, ◌++◌, [], ◌∷◌, sym, ap, ◌∙◌, subst}
use Rattle.coda_cancel.specs.Cancel.{add, fold}
use Rattle.coda_cancel.specs.Weights.{fits}
use Rattle.coda_cml.specs.State.{IsLogOf}
use Rattle.coda_cml.specs.Room.{room_fits}
use Rattle.coda_cml.specs.Inside.{state_of}
use Rattle.coda_cml.proofs.runs.ThawedFold.{added-append}
use Rattle.coda_cml.proofs.log.Log.has_room.Goals as goal

pub returns-in-Some-clause-run : goal.returns-in-Some-clause-run
returns-in-Some-clause-run c front back h =
    let log : IsLogOf (state_of c.self.inside) front back = subst (λ log. IsLogOf log front back) (sym c.self.view_is) h in
    let beside : fits 4096 16777216 (c.self.inside.chunk ++ add c.self.inside.tail c.args.rec.now) ≡ fits c.in-Some.count c.in-Some.weight (add c.self.inside.tail c.args.rec.now) =
    c.room_beside.ensures c.self.inside.chunk (add c.self.inside.tail c.args.rec.now) (sym c.len.ensures) (sym c.weight.ensures) ∙ ap (λ room. room_fits room (add c.self.inside.tail c.args.rec.now)) c.in-Some.is in
    c.fits_after.ensures ∙ sym beside
    ∙ (λ i. fits 4096 16777216 (log.chunk i ++ add (log.records i) c.args.rec.now))
    ∙ ap (λ l. fits 4096 16777216 (fold front ++ l)) (sym (added-append [] back (c.args.rec.now ∷ [])))
