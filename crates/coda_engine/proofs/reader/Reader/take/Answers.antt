use Rattle.std.proofs.Common.{◌≡◌, [], take, arith}
use Rattle.std.proofs.lemmas.List.{take_all, take_rest, length-drop}
use Rattle.std.proofs.lemmas.Result.{err_from_is_err_and}
use Rattle.coda_engine.specs.Place.{place}
use Rattle.coda_engine.proofs.Forwarding.{gathers_none, gathers_more, gathers_stop}
use Rattle.coda_engine.proofs.Fronts.{take_both, all_parts}
use Rattle.coda_engine.proofs.reader.Reader.take.Goals as goal

pub loop-at-init : goal.loop-at-init
loop-at-init g c = (omega arith, gathers_none _ _ (place c.args.machine.now c.args.self.now), omega arith, omega arith, g.met.M.Machine.same c.args.machine.now, c.requires)

pub loop-at-preserved : goal.loop-at-preserved
loop-at-preserved g c =
    let piece = c.args.piece.now in
    let at = c.loop-at.at in (
      (let within = c.in_ok-at.ensures.within in let rest = length-drop at piece in let before = c.loop-at.invariant.0 in omega (arith, within, rest, before)),
      rw (take_both at c.in_ok-at.field-0 piece, ← take_rest piece at)
          (gathers_more _ _ _ _ _ _ (place c.args.machine.now c.args.self.now) (place c.loop-at.machine c.loop-at.self) (place c.take_next.new.machine c.take_next.new.self) (take at piece) _ c.loop-at.invariant.1 c.in_ok-at.ensures.ok),
      (let before = c.loop-at.invariant.2 in let later = c.take_next.ensures.later in omega (arith, before, later)),
      (let before = c.loop-at.invariant.3 in let later = c.take_next.ensures.bay_later in omega (arith, before, later)),
      g.met.M.Machine.then c.args.machine.now c.loop-at.machine c.take_next.new.machine c.loop-at.invariant.4 c.take_next.ensures.follows,
      c.in_ok-at.ensures.ready,
    )

pub returns-in_err-at-clause-stops : goal.returns-in_err-at-clause-stops
returns-in_err-at-clause-stops g c =
    let piece = c.args.piece.now in
    let at = c.loop-at.at in
    let p = err_from_is_err_and c.from_residual.result c.from_residual.ensures.1 in
    let stops = c.in_err-at.ensures.stops in
    rw (p.1, p.2) (
      stops.0,
      gathers_stop g.M.Machine.gives g.M.Machine.refuses _ _ _ _ _ _ (place c.args.machine.now c.args.self.now) (place c.loop-at.machine c.loop-at.self) _ (take at piece) _ [] piece _ c.loop-at.invariant.1 stops.1 (rw (take_rest piece at) (all_parts at piece)),
      stops.2,
    )

pub returns-clause-ok : goal.returns-clause-ok
returns-clause-ok g c =
    let piece = c.args.piece.now in
    let whole : take c.loop-at.at piece ≡ piece = take_all c.loop-at.at piece (let done = c.loop-at-test.false in omega (arith, done)) in
    rw whole at c.loop-at.invariant.1
