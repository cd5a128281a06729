use Rattle.std.proofs.Common.{rules, ◌≡◌, true, sym, ap, ◌∙◌, arith}
use Rattle.std.proofs.lemmas.Bool.{false≢true}
use Rattle.std.proofs.lemmas.Bool.Decides.{nat_tests}
use Rattle.coda_crew.specs.Crews.{slot_at}
use Rattle.coda_site.specs.Sites.{is_client_disk}
use Rattle.coda_site.proofs.Shown.{log_shown, client_runs}
use Rattle.coda_site.proofs.states.log.Goals as goal

pub returns-in-Some-clause-shown : goal.returns-in-Some-clause-shown
returns-in-Some-clause-shown g c = λ cell shows runs state there.
    let fits = c.ranges.client.fits in
    let here : is_client_disk c.args.client ≡ true = grind (arith, nat_tests, fits) in
    let same : c.from.result ≡ c.args.client = search rules in
    let up = c.in-Some.ensures in
    log_shown g.B.D.Disk.told (g.B.Bay.out c.args._bay.now) (g.B.Bay.has c.args._bay.now) cell c.args.site.now shows c.args.client c.args.volume up.0 c.in-Some.venus.now state c.log.result here (ap (slot_at c.args.site.now.clients) (sym same) ∙ up.1) up.2 there c.log.ensures

pub returns-in-Some-clause-down : goal.returns-in-Some-clause-down
returns-in-Some-clause-down g c = λ cell shows down.
    let fits = c.ranges.client.fits in
    let here : is_client_disk c.args.client ≡ true = grind (arith, nat_tests, fits) in
    let same : c.from.result ≡ c.args.client = search rules in
    let up = c.in-Some.ensures in
    absurd (false≢true (sym (client_runs g.B.D.Disk.told (g.B.Bay.out c.args._bay.now) (g.B.Bay.has c.args._bay.now) cell c.args.site.now shows c.args.client up.0 c.in-Some.venus.now here
    (ap (slot_at c.args.site.now.clients) (sym same) ∙ up.1) up.2) ∙ down))
