use Rattle.std.proofs.Common.{refl}
use Rattle.coda_script.specs.declared.line.Task.TheVariants as task
use Rattle.coda_venus.specs.Ask.{Setattr, Remove, Rmdir, Rename}
use Rattle.coda_site.proofs.Carrying.{attrs_so, operated_task}
use Rattle.coda_site.proofs.tasks.change.Goals as goal

pub perform-requires-clause-ask : goal.perform-requires-clause-ask
perform-requires-clause-ask g c = attrs_so c.args.task.now c.in-Setattr.client c.in-Setattr.volume c.in-Setattr.path c.in-Setattr.attrs c.in-Setattr.is c.requires.range

pub returns-in-Setattr-clause-does : goal.returns-in-Setattr-clause-does
returns-in-Setattr-clause-does g c = λ cell shows.
    let told = g.B.D.Disk.told in
    let out = g.B.Bay.out c.args.bay.now in
    let has = g.B.Bay.has c.args.bay.now in
    let answered = g.B.Bay.answered c.args.bay.now in
    operated_task told out has cell answered c.perform.new.site c.in-Setattr.client c.in-Setattr.volume c.args.task.now (task.Setattr c.in-Setattr.client c.in-Setattr.volume c.in-Setattr.path c.in-Setattr.attrs)
    (Setattr c.in-Setattr.path c.in-Setattr.attrs) (Setattr c.in-Setattr.path c.in-Setattr.attrs) c.perform.result c.in-Setattr.is (refl) refl (λ own events h. h) (c.perform.ensures.does cell shows)

pub returns-in-Remove-clause-does : goal.returns-in-Remove-clause-does
returns-in-Remove-clause-does g c = λ cell shows.
    let told = g.B.D.Disk.told in
    let out = g.B.Bay.out c.args.bay.now in
    let has = g.B.Bay.has c.args.bay.now in
    let answered = g.B.Bay.answered c.args.bay.now in
    operated_task told out has cell answered c.perform-in-Remove.new.site c.in-Remove.client c.in-Remove.volume c.args.task.now (task.Remove c.in-Remove.client c.in-Remove.volume c.in-Remove.path)
    (Remove c.in-Remove.path) (Remove c.in-Remove.path) c.perform-in-Remove.result c.in-Remove.is (refl) refl (λ own events h. h) (c.perform-in-Remove.ensures.does cell shows)

pub returns-in-Rmdir-clause-does : goal.returns-in-Rmdir-clause-does
returns-in-Rmdir-clause-does g c = λ cell shows.
    let told = g.B.D.Disk.told in
    let out = g.B.Bay.out c.args.bay.now in
    let has = g.B.Bay.has c.args.bay.now in
    let answered = g.B.Bay.answered c.args.bay.now in
    operated_task told out has cell answered c.perform-in-Rmdir.new.site c.in-Rmdir.client c.in-Rmdir.volume c.args.task.now (task.Rmdir c.in-Rmdir.client c.in-Rmdir.volume c.in-Rmdir.path)
    (Rmdir c.in-Rmdir.path) (Rmdir c.in-Rmdir.path) c.perform-in-Rmdir.result c.in-Rmdir.is (refl) refl (λ own events h. h) (c.perform-in-Rmdir.ensures.does cell shows)

pub returns-in-Rename-clause-does : goal.returns-in-Rename-clause-does
returns-in-Rename-clause-does g c = λ cell shows.
    let told = g.B.D.Disk.told in
    let out = g.B.Bay.out c.args.bay.now in
    let has = g.B.Bay.has c.args.bay.now in
    let answered = g.B.Bay.answered c.args.bay.now in
    operated_task told out has cell answered c.perform-in-Rename.new.site c.in-Rename.client c.in-Rename.volume c.args.task.now (task.Rename c.in-Rename.client c.in-Rename.volume c.in-Rename.from c.in-Rename.to)
    (Rename c.in-Rename.from c.in-Rename.to) (Rename c.in-Rename.from c.in-Rename.to) c.perform-in-Rename.result c.in-Rename.is (refl) refl (λ own events h. h) (c.perform-in-Rename.ensures.does cell shows)
