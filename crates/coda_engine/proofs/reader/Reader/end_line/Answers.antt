use Rattle.std.proofs.Common.{ℕ, List, refl, ap, subst, ◌∙◌}
use Rattle.std.specs.Str.Lines.{strip_carriage_return}
use Rattle.std.proofs.lemmas.Result.{err_from_is_err_and}
use Rattle.coda_engine.specs.Place.{place}
use Rattle.coda_engine.proofs.Forwarding.{line_gathers, line_halts}
use Rattle.coda_engine.proofs.reader.Reader.end_line.Goals as goal

pub returns-in_err-run_line-clause-stops : goal.returns-in_err-run_line-clause-stops
returns-in_err-run_line-clause-stops g c =
    let p = err_from_is_err_and c.from_residual.result c.from_residual.ensures.1 in
    let stops = c.in_err-run_line.ensures.stops in
    rw (p.1, p.2) (
      stops.0,
      line_halts g.M.Machine.gives g.M.Machine.refuses _ _ _ _ (place c.args.machine.now c.args.self.now) _ _ c.requires.room
          (rw (c.without_carriage_return-line.ensures, c.deref.ensures.value) at stops.1),
      stops.2,
    )

pub returns-clause-ok : goal.returns-clause-ok
returns-clause-ok g c =
    let ok = c.in_ok-run_line.ensures.ok in
    let Gives : List ℕ → Type 0 = λ line. g.M.Machine.gives c.args.machine.now line ok.0 ok.1 c.run_line.new.machine in
    let line = c.without_carriage_return-line.ensures ∙ ap strip_carriage_return c.deref.ensures.value in
    line_gathers _ _ _ _ (place c.args.machine.now c.args.self.now) _ ok.0 ok.1 c.requires.room ok.2 (subst Gives line ok.3) c.clear.ensures.items refl refl
