use Rattle.std.proofs.Common.{refl}
use Rattle.coda_serving.specs.declared.asking.Showing.TheVariants.{Content, Names}
use Rattle.coda_script.specs.declared.line.Task.TheVariants as task
use Rattle.coda_venus.specs.Ask.{Store}
use Rattle.coda_cell.specs.Steps.{bytes_of}
use Rattle.coda_serving.specs.Serving.{show_answer}
use Rattle.coda_site.proofs.Carrying.{operated_task, asked_task, drained_as}
use Rattle.coda_site.proofs.tasks.carry_out.Goals as goal

pub returns-in-Store-clause-does : goal.returns-in-Store-clause-does
returns-in-Store-clause-does g c = λ cell shows.
    let told = g.B.D.Disk.told in
    let out = g.B.Bay.out c.args.bay.now in
    let has = g.B.Bay.has c.args.bay.now in
    let answered = g.B.Bay.answered c.args.bay.now in
    operated_task told out has cell answered c.store.new.site c.in-Store.client c.in-Store.volume c.args.task.now (task.Store c.in-Store.client c.in-Store.volume c.in-Store.path c.in-Store.content)
    (Store c.in-Store.path (bytes_of c.in-Store.content)) (Store c.in-Store.path (bytes_of c.in-Store.content)) c.store.result c.in-Store.is (refl) refl (λ own events h. h) (c.store.ensures.does cell shows)

pub returns-in-Read-clause-does : goal.returns-in-Read-clause-does
returns-in-Read-clause-does g c = λ cell shows.
    let told = g.B.D.Disk.told in
    let out = g.B.Bay.out c.args.bay.now in
    let has = g.B.Bay.has c.args.bay.now in
    let answered = g.B.Bay.answered c.args.bay.now in
    asked_task told out has cell answered c.look.new.site c.in-Read.client c.in-Read.volume c.args.task.now (task.Read c.in-Read.client c.in-Read.volume c.in-Read.path) (λ o x. show_answer Content o x c.in-Read.volume c.in-Read.path) c.look.result
    c.in-Read.is refl (λ own events h. h) (c.look.ensures.does cell shows)

pub returns-in-List-clause-does : goal.returns-in-List-clause-does
returns-in-List-clause-does g c = λ cell shows.
    let told = g.B.D.Disk.told in
    let out = g.B.Bay.out c.args.bay.now in
    let has = g.B.Bay.has c.args.bay.now in
    let answered = g.B.Bay.answered c.args.bay.now in
    asked_task told out has cell answered c.look-in-List.new.site c.in-List.client c.in-List.volume c.args.task.now (task.List c.in-List.client c.in-List.volume c.in-List.path) (λ o x. show_answer Names o x c.in-List.volume c.in-List.path) c.look-in-List.result
    c.in-List.is refl (λ own events h. h) (c.look-in-List.ensures.does cell shows)

pub returns-in-Drain-clause-does : goal.returns-in-Drain-clause-does
returns-in-Drain-clause-does g c = λ cell shows.
    let told = g.B.D.Disk.told in
    let out = g.B.Bay.out c.args.bay.now in
    let has = g.B.Bay.has c.args.bay.now in
    let answered = g.B.Bay.answered c.args.bay.now in
    drained_as told out has cell answered c.drain.new.site c.in-Drain.client c.in-Drain.volume c.in-Drain.server c.in-Drain.window c.unwrap_or-window.result c.args.task.now c.drain.result c.in-Drain.is c.unwrap_or-window.ensures (c.drain.ensures.does cell shows)
