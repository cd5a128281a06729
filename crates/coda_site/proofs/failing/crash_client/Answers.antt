use Rattle.std.proofs.Common.{◌≡◌, true, sym, ap, subst, ◌∙◌}
use Rattle.coda_script.specs.declared.line.Line.TheVariants as line
use Rattle.coda_actors.specs.Clients.{client_form}
use Rattle.coda_actors.specs.Plain.{Crashes as Deed}
use Rattle.coda_crew.specs.Crews.{Takes}
use Rattle.coda_cell.specs.Refusing.{refusal}
use Rattle.coda_cell.specs.Steps.{first_missing}
use Rattle.coda_cell.specs.Refused.{NoSuchActor}
use Rattle.coda_shelves.specs.Cells.{with_client}
use Rattle.coda_shelves.specs.Lines.{the_client, client_payloads, Crashes, Happens}
use Rattle.coda_site.specs.Sites.{is_client_disk, is_replica_disk}
use Rattle.coda_site.proofs.ClientSites.{plain_clients}
use Rattle.coda_site.proofs.DiskLines.{client_is_there, client_is_missing, all_be, crash_client_becomes}
use Rattle.coda_site.proofs.Makes.{stays_becomes, unless_some}
use Rattle.coda_site.proofs.failing.crash_client.Goals as goal

pub returns-then-not-has_client-clause-does : goal.returns-then-not-has_client-clause-does
returns-then-not-has_client-clause-does g c = λ cell shows.
    let told = g.B.D.Disk.told in
    let out = g.B.Bay.out c.args.bay.now in
    let has = g.B.Bay.has c.args.bay.now in
    let site = c.args.site.now in
    let n = c.args.client in
    let names = (the_client cell n).named in
    let tells = c.has_client.ensures.there in
    let disk = c.has_client.ensures.disk in
    let reply = c.in_ok-no_such_actor.field-0 in
    let missing = client_is_missing told out has cell site shows n disk c.has_client.result tells c.if-not-has_client.true in
    let said = c.in_ok-no_such_actor.ensures ∙ ap (λ m. refusal (NoSuchActor m)) c.from.ensures in
    stays_becomes told out has cell (Happens cell (line.CrashClient n c.args.choice)) reply (g.B.Bay.answered c.args.bay.now) site (unless_some cell (first_missing names) (NoSuchActor n) (Crashes client_payloads (cell.clients n) (with_client cell n)) reply missing said) shows.stands

pub returns-clause-does : goal.returns-clause-does
returns-clause-does g c = λ cell shows.
    let told = g.B.D.Disk.told in
    let out = g.B.Bay.out c.args.bay.now in
    let has = g.B.Bay.has c.args.bay.now in
    let site = c.args.site.now in
    let n = c.args.client in
    let names = (the_client cell n).named in
    let tells = c.has_client.ensures.there in
    let disk = c.has_client.ensures.disk in
    let there = client_is_there told out has cell site shows n disk c.has_client.result tells c.if-not-has_client.false in
    let out1 = g.B.Bay.out c.crash.new.bay in
    let has1 = g.B.Bay.has c.crash.new.bay in
    let plain = plain_clients cell in
    let stepped = c.in_ok-crash.ensures.step is_client_disk plain shows.stands.clients (subst (λ m. is_client_disk m ≡ true) (sym c.from-2.ensures) disk) in
    let takes = subst (λ m. Takes (client_form told) told is_client_disk plain m (Deed stepped.0) out1 has1 c.crash.new.slots) c.from-2.ensures stepped.2 in
    crash_client_becomes told out out1 has has1 cell site shows n c.crash.new.slots (all_be is_replica_disk out out1 has has1 c.in_ok-crash.ensures.numbers c.in_ok-crash.ensures.keeps) there
    c.args.choice stepped.0 (g.B.Bay.answered c.args.bay.now) (g.B.Bay.answered c.crash.new.bay) stepped.1 takes
