use Rattle.std.proofs.Common.{sym, ap, ◌∙◌}
use Rattle.coda_cell.specs.Steps.{bytes_of}
use Rattle.coda_venus.specs.Ask.{Store}
use Rattle.coda_site.proofs.Carrying.{asked_same}
use Rattle.coda_site.proofs.tasks.store.Goals as goal

pub returns-in-Text-clause-does : goal.returns-in-Text-clause-does
returns-in-Text-clause-does g c = λ cell shows.
    let told = g.B.D.Disk.told in
    let out = g.B.Bay.out c.args.bay.now in
    let has = g.B.Bay.has c.args.bay.now in
    let answered = g.B.Bay.answered c.args.bay.now in
    asked_same told out has cell answered c.perform.new.site c.args.client c.args.volume (Store c.args.path.now (bytes_of c.args.content.now)) (Store c.args.path.now c.in-Text.content) c.perform.result
    (ap (λ b. Store c.args.path.now b) (sym (ap bytes_of c.in-Text.is))) (c.perform.ensures.does cell shows)

pub returns-in_ok-content-in-Fill-clause-does : goal.returns-in_ok-content-in-Fill-clause-does
returns-in_ok-content-in-Fill-clause-does g c = λ cell shows.
    let told = g.B.D.Disk.told in
    let out = g.B.Bay.out c.args.bay.now in
    let has = g.B.Bay.has c.args.bay.now in
    let answered = g.B.Bay.answered c.args.bay.now in
    asked_same told out has cell answered c.perform-in-Fill.new.site c.args.client c.args.volume (Store c.args.path.now (bytes_of c.args.content.now)) (Store c.args.path.now c.in_ok-content-in-Fill.field-0) c.perform-in-Fill.result
    (ap (λ b. Store c.args.path.now b) (c.in_ok-content-in-Fill.ensures ∙ sym (ap bytes_of c.in-Fill.is))) (c.perform-in-Fill.ensures.does cell shows)
