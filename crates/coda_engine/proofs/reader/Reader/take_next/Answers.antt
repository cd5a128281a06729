use Rattle.std.proofs.Common.{◌≡◌, [], take, drop, sym, arith, subst}
use Rattle.std.proofs.lemmas.List.{length-take}
use Rattle.std.proofs.lemmas.Result.{err_from_is_err_and}
use Rattle.coda_engine.specs.Gathering.{Gathers}
use Rattle.coda_engine.specs.Place.{place}
use Rattle.coda_engine.specs.declared.status.Status.TheVariants.{Memory}
use Rattle.coda_engine.proofs.Forwarding.{gathers_none, gathers_stop, leaves_same, memory_halts}
use Rattle.coda_engine.proofs.Fronts.{behind, front_gathers, first_and_rest}
use Rattle.coda_engine.proofs.reader.Reader.take_next.Goals as goal

-- src/reader.rt:223:13
pub returns-in_err-take_byte-clause-stops : goal.returns-in_err-take_byte-clause-stops
returns-in_err-take_byte-clause-stops g c =
    let p = err_from_is_err_and c.from_residual.result c.from_residual.ensures.1 in
    let stops = c.in_err-take_byte.ensures.stops in
    rw (p.1, p.2) (
      stops.0,
      gathers_stop g.M.Machine.gives g.M.Machine.refuses _ _ _ _ _ _ (place c.args.machine.now c.args.self.now) (place c.args.machine.now c.args.self.now) _ [] _ (drop 1 c.args.piece.now) c.args.piece.now _
          (gathers_none _ _ (place c.args.machine.now c.args.self.now)) stops.1 (first_and_rest c.args.piece.now c.requires.some),
      stops.2,
    )

-- src/reader.rt:204:5
pub returns-in-Ok-clause-ok : goal.returns-in-Ok-clause-ok
returns-in-Ok-clause-ok g c =
    let p = place c.args.machine.now c.args.self.now in
    let front = take c.fitting-count.result c.args.piece.now in
    let same : behind p front ≡ place c.args.machine.now c.take_front.new.self = λ i. record { state = c.args.machine.now; pending = sym c.in-Ok.ensures.pending i; lines = sym c.in-Ok.ensures.lines i; bytes = sym c.in-Ok.ensures.bytes i } in
    subst (Gathers g.M.Machine.gives _ _ _ _ p front) same
    (front_gathers _ _ p front c.fitting-count.ensures.front (let room = c.fitting-count.ensures.room in let short = length-take c.fitting-count.result c.args.piece.now in omega (arith, room, short))
    (c.fitting-count.ensures.count (let some = c.if-count-eq0.false in omega (arith, some))))

-- src/reader.rt:204:5
pub returns-in-Err-clause-stops : goal.returns-in-Err-clause-stops
returns-in-Err-clause-stops g c =
    (c.args.machine.now, memory_halts g.M.Machine.gives g.M.Machine.refuses _ _ (place c.args.machine.now c.args.self.now) _, leaves_same c.args.machine.now Memory (λ e. cc))
