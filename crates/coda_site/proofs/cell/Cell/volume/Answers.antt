use Rattle.std.proofs.Common.{rules, ◌≡◌, ◌≢◌, Some, sym, ap, ◌∙◌}
use Rattle.std.proofs.lemmas.Bool.{false≢true}
use Rattle.coda_site.specs.Sites.{place_in}
use Rattle.coda_site.proofs.Shown.{elsewhere_shown, up_shown, not_shown, replica_runs}
use Rattle.coda_site.proofs.cell.Cell.volume.Goals as goal

pub returns-then-place-server-clause-shown : goal.returns-then-place-server-clause-shown
returns-then-place-server-clause-shown g c = λ cell shows runs.
    let site = c.args.self.now.site in
    let at : place_in site c.args.volume ≡ Some c.in_ok-place.place = search rules in
    let other : c.in_ok-place.place.server ≢ c.args.server = search rules in
    elsewhere_shown g.B.D.Disk.told (g.B.Bay.out c.args.self.now.bay) (g.B.Bay.has c.args.self.now.bay) cell site shows c.args.volume c.in_ok-place.place at c.args.server other

pub returns-in-None-clause-shown : goal.returns-in-None-clause-shown
returns-in-None-clause-shown g c = λ cell shows runs.
    let site = c.args.self.now.site in
    let at : place_in site c.args.volume ≡ Some c.in_ok-place.place = search rules in
    let same : c.in_ok-place.place.server ≡ c.args.server = search rules in
    absurd (not_shown g.B.D.Disk.told (g.B.Bay.out c.args.self.now.bay) (g.B.Bay.has c.args.self.now.bay) cell site shows c.args.volume c.in_ok-place.place at c.args.server same runs c.in-None.ensures)

pub returns-in-Some-clause-shown : goal.returns-in-Some-clause-shown
returns-in-Some-clause-shown g c = λ cell shows runs.
    let site = c.args.self.now.site in
    let at : place_in site c.args.volume ≡ Some c.in_ok-place.place = search rules in
    let same : c.in_ok-place.place.server ≡ c.args.server = search rules in
    let up = c.in-Some.ensures in
    up_shown g.B.D.Disk.told (g.B.Bay.out c.args.self.now.bay) (g.B.Bay.has c.args.self.now.bay) cell site shows c.args.volume c.in_ok-place.place at c.args.server up.0 c.in-Some.replica.now same up.1 up.2
    ∙ ap Some (sym c.volume.ensures)

pub returns-in-Some-clause-down : goal.returns-in-Some-clause-down
returns-in-Some-clause-down g c = λ cell shows down.
    let site = c.args.self.now.site in
    let at : place_in site c.args.volume ≡ Some c.in_ok-place.place = search rules in
    let same : c.in_ok-place.place.server ≡ c.args.server = search rules in
    let up = c.in-Some.ensures in
    absurd (false≢true (sym (replica_runs g.B.D.Disk.told (g.B.Bay.out c.args.self.now.bay) (g.B.Bay.has c.args.self.now.bay) cell site shows c.args.volume c.in_ok-place.place at c.args.server up.0 c.in-Some.replica.now same up.1 up.2) ∙ down))
