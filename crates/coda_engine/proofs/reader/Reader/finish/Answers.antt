use Rattle.std.proofs.Common.{◌≢◌, ℕ, List, [], sym, ◌∙◌, subst}
use Rattle.coda_engine.specs.Place.{place}
use Rattle.coda_engine.proofs.Feeding.{none_of, some_of, ends_empty}
use Rattle.coda_engine.specs.declared.status.Status.TheVariants.{Done}
use Rattle.coda_engine.proofs.Forwarding.{leaves_same, closed_leaves, halt_ends, line_ends}
use Rattle.coda_engine.proofs.reader.Reader.finish.Goals as goal

pub returns-then-is_empty-clause-ends : goal.returns-then-is_empty-clause-ends
returns-then-is_empty-clause-ends g c =
    let none = none_of c.as_slice-line.result.now c.if-is_empty.ensures in
    (c.args.machine.now, ends_empty g.M.Machine.gives g.M.Machine.refuses _ (place c.args.machine.now c.args.self) (sym c.as_slice-line.ensures.value ∙ none), leaves_same c.args.machine.now Done (λ e. cc))

pub returns-in-Ok-clause-ends : goal.returns-in-Ok-clause-ends
returns-in-Ok-clause-ends g c =
    let ok = c.in-Ok.ensures.ok in
    let Gives : List ℕ → Type 0 = λ line. g.M.Machine.gives c.args.machine.now line ok.0 ok.1 c.run_line.new.machine in
    let some : c.args.self.pending.items ≢ [] = λ none. some_of c.as_slice-line.result.now c.if-is_empty.ensures (c.as_slice-line.ensures.value ∙ none) in (
      c.run_line.new.machine,
      line_ends g.M.Machine.gives g.M.Machine.refuses _ _ _ _ _ _ (place c.args.machine.now c.args.self) ok.0 ok.1 _ _ some c.new-gathered.ensures ok.2 (subst Gives c.as_slice-line.ensures.value ok.3) c.close.ensures.sent c.close.ensures.closes,
      closed_leaves c.run_line.new.machine c.run_line.new.machine [] _ Done _ c.close.ensures.closes (leaves_same c.run_line.new.machine Done (λ e. cc)),
    )

pub returns-clause-ends : goal.returns-clause-ends
returns-clause-ends g c =
    let some : c.args.self.pending.items ≢ [] = λ none. some_of c.as_slice-line.result.now c.if-is_empty.ensures (c.as_slice-line.ensures.value ∙ none) in
    let stops = c.in-Err.ensures.stops in
    (stops.0, halt_ends g.M.Machine.gives g.M.Machine.refuses _ _ _ _ (place c.args.machine.now c.args.self) _ _ some c.new-gathered.ensures (rw c.as_slice-line.ensures.value at stops.1), stops.2)
