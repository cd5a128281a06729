use Rattle.std.proofs.Common.{refl}
use Rattle.std.specs.Option.{unwrap_or}
use Rattle.coda_script.specs.declared.line.Task.TheVariants as task
use Rattle.coda_venus.specs.Ask.{Create, Mkdir, Symlink}
use Rattle.coda_site.proofs.Carrying.{operated_task}
use Rattle.coda_site.proofs.tasks.make.Goals as goal

pub returns-in-Create-clause-does : goal.returns-in-Create-clause-does
returns-in-Create-clause-does g c = λ cell shows.
    let told = g.B.D.Disk.told in
    let out = g.B.Bay.out c.args.bay.now in
    let has = g.B.Bay.has c.args.bay.now in
    let answered = g.B.Bay.answered c.args.bay.now in
    operated_task told out has cell answered c.perform.new.site c.in-Create.client c.in-Create.volume c.args.task.now (task.Create c.in-Create.client c.in-Create.volume c.in-Create.path c.in-Create.mode c.in-Create.owner)
    (Create c.in-Create.path (unwrap_or c.in-Create.mode 420) (unwrap_or c.in-Create.owner 0)) (Create c.in-Create.path c.unwrap_or-mode.result c.unwrap_or-owner.result) c.perform.result c.in-Create.is (λ k. Create c.in-Create.path (c.unwrap_or-mode.ensures k) (c.unwrap_or-owner.ensures k)) refl (λ own events h. h) (c.perform.ensures.does cell shows)

pub returns-in-Mkdir-clause-does : goal.returns-in-Mkdir-clause-does
returns-in-Mkdir-clause-does g c = λ cell shows.
    let told = g.B.D.Disk.told in
    let out = g.B.Bay.out c.args.bay.now in
    let has = g.B.Bay.has c.args.bay.now in
    let answered = g.B.Bay.answered c.args.bay.now in
    operated_task told out has cell answered c.perform-in-Mkdir.new.site c.in-Mkdir.client c.in-Mkdir.volume c.args.task.now (task.Mkdir c.in-Mkdir.client c.in-Mkdir.volume c.in-Mkdir.path c.in-Mkdir.mode c.in-Mkdir.owner)
    (Mkdir c.in-Mkdir.path (unwrap_or c.in-Mkdir.mode 493) (unwrap_or c.in-Mkdir.owner 0)) (Mkdir c.in-Mkdir.path c.unwrap_or-mode-in-Mkdir.result c.unwrap_or-owner-in-Mkdir.result) c.perform-in-Mkdir.result c.in-Mkdir.is (λ k. Mkdir c.in-Mkdir.path (c.unwrap_or-mode-in-Mkdir.ensures k) (c.unwrap_or-owner-in-Mkdir.ensures k)) refl (λ own events h. h) (c.perform-in-Mkdir.ensures.does cell shows)

pub returns-in-Symlink-clause-does : goal.returns-in-Symlink-clause-does
returns-in-Symlink-clause-does g c = λ cell shows.
    let told = g.B.D.Disk.told in
    let out = g.B.Bay.out c.args.bay.now in
    let has = g.B.Bay.has c.args.bay.now in
    let answered = g.B.Bay.answered c.args.bay.now in
    operated_task told out has cell answered c.perform-in-Symlink.new.site c.in-Symlink.client c.in-Symlink.volume c.args.task.now (task.Symlink c.in-Symlink.client c.in-Symlink.volume c.in-Symlink.path c.in-Symlink.target)
    (Symlink c.in-Symlink.path c.in-Symlink.target) (Symlink c.in-Symlink.path c.in-Symlink.target) c.perform-in-Symlink.result c.in-Symlink.is (refl) refl (λ own events h. h) (c.perform-in-Symlink.ensures.does cell shows)
