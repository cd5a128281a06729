use Rattle.std.proofs.Common.{inl, refl, rules, ◌≡◌, true, [], Result, Ok, Err}
use Rattle.std.specs.Prelude.{IfOk, OnOk, Some, None}
use Rattle.coda_script.specs.Lines.{line_of}
use Rattle.coda_shelves.specs.Lines.{is_built}
use Rattle.coda_main.specs.Shows.{moment, answered_since}
use Rattle.coda_site.specs.Totals.{totals}
use Rattle.coda_main.proofs.Answering.{line_ran}
use Rattle.coda_main.proofs.machine.CellMachineMachine.run.Goals as goal

-- what holds of a value where there is one, and what holds then
of_value : {A E : Type 0} (P Q : A → Type 0) (X : Type 0) (r : Result A E) → IfOk r P → OnOk r X → ((x : A) → P x → X → Q x) → IfOk r Q
of_value P Q X (Ok x) is on then_ = then_ x is on
of_value P Q X (Err e) is on then_ = tt

pub returns-else-waits-clause-ok : goal.returns-else-waits-clause-ok
returns-else-waits-clause-ok g c =
    let old = c.args.self.now.cell in
    let new = c.answer-text.new.cell in
    let before = moment (g.B.Bay.out old.bay) (g.B.Bay.has old.bay) (g.B.Bay.answered old.bay) old.site in
    let behind = moment (g.B.Bay.out new.bay) (g.B.Bay.has new.bay) (g.B.Bay.answered new.bay) new.site in
    let old_counts = totals g.B.D.Disk.told g.B.D.Disk.faults g.B.D.Disk.arms (g.B.Bay.disk_faults old.bay) (g.B.Bay.disk_arms old.bay) old.site in
    let new_counts = totals g.B.D.Disk.told g.B.D.Disk.faults g.B.D.Disk.arms (g.B.Bay.disk_faults new.bay) (g.B.Bay.disk_arms new.bay) new.site in
    let spelled : line_of c.args.line.now ≡ Ok (Some c.in-Ok-Some.said) = search rules in
    let built : is_built c.in-Ok-Some.said ≡ true = search rules in
    of_value _ _ _ c.answer-text.result c.answer-text.ensures.answered c.answer-text.ensures.goes_on (λ text answered goes_on. (
      answered_since before behind,
      (line_ran g.B.D.Disk.told before behind old_counts new_counts c.args.line.now text.items c.in-Ok-Some.said answered.0 spelled built answered.1 answered.2 answered.3, λ ready. goes_on),
    ))

pub returns-in-Ok-None-clause-ok : goal.returns-in-Ok-None-clause-ok
returns-in-Ok-None-clause-ok g c =
    let silent : line_of c.args.line.now ≡ Ok None = search rules in
    ([], (inl (silent, c.new.ensures.items, refl, refl, (λ plain images shows. shows)), λ ready. ready))
