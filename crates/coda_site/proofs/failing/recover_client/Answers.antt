use Rattle.std.proofs.Common.{◌≡◌, true, sym, ap, subst, ◌∙◌, refl}
use Rattle.coda_script.specs.declared.line.Line.TheVariants as line
use Rattle.coda_actors.specs.Clients.{client_form}
use Rattle.coda_actors.specs.Plain.{Recovers as Deed}
use Rattle.coda_crew.specs.Crews.{Takes, slot_at}
use Rattle.coda_cell.specs.Refusing.{refusal}
use Rattle.coda_cell.specs.Steps.{first_missing}
use Rattle.coda_cell.specs.Refused.{NoSuchActor}
use Rattle.coda_shelves.specs.Cells.{with_client}
use Rattle.coda_shelves.specs.Lines.{the_client, client_payloads, Recovers, Happens}
use Rattle.coda_site.specs.Sites.{is_client_disk, is_replica_disk}
use Rattle.coda_site.proofs.ClientSites.{plain_clients}
use Rattle.coda_site.proofs.DiskLines.{as_is, client_is_there, client_is_missing, clients_ready, recover_client_returns}
use Rattle.coda_site.proofs.Makes.{stays_becomes, unless_some}
use Rattle.coda_site.proofs.Counting.{clients_counted, slot_counted}
use Rattle.coda_site.proofs.failing.recover_client.Goals as goal

pub returns-then-not-has_client-clause-does : goal.returns-then-not-has_client-clause-does
returns-then-not-has_client-clause-does g c = λ cell shows.
    let told = g.B.D.Disk.told in
    let out = g.B.Bay.out c.args._bay.now in
    let has = g.B.Bay.has c.args._bay.now in
    let site = c.args.site.now in
    let n = c.args.client in
    let names = (the_client cell n).named in
    let tells = c.has_client.ensures.there in
    let disk = c.has_client.ensures.disk in
    let reply = c.in_ok-no_such_actor.field-0 in
    let missing = client_is_missing told out has cell site shows n disk c.has_client.result tells c.if-not-has_client.true in
    let said = c.in_ok-no_such_actor.ensures ∙ ap (λ m. refusal (NoSuchActor m)) c.from.ensures in
    stays_becomes told out has cell (Happens cell (line.RecoverClient n)) reply (g.B.Bay.answered c.args._bay.now) site (unless_some cell (first_missing names) (NoSuchActor n) (Recovers client_payloads (cell.clients n) (with_client cell n)) reply missing said) shows.stands

pub returns-clause-ready : goal.returns-clause-ready
returns-clause-ready g c = clients_ready g.B.D.Disk.told (g.B.Bay.out c.args._bay.now) c.args.site.now c.recover-mounting.new.slots c.requires.ready (c.recover-mounting.ensures.out is_client_disk c.requires.ready.clients) (c.recover-mounting.ensures.own c.requires.ready.clients_own)

pub returns-clause-does : goal.returns-clause-does
returns-clause-does g c = λ cell shows.
    let told = g.B.D.Disk.told in
    let out = g.B.Bay.out c.args._bay.now in
    let has = g.B.Bay.has c.args._bay.now in
    let site = c.args.site.now in
    let n = c.args.client in
    let names = (the_client cell n).named in
    let tells = c.has_client.ensures.there in
    let disk = c.has_client.ensures.disk in
    let there = client_is_there told out has cell site shows n disk c.has_client.result tells c.if-not-has_client.false in
    let plain = plain_clients cell in
    let stepped = c.recover-mounting.ensures.step is_client_disk plain shows.stands.clients (subst (λ m. is_client_disk m ≡ true) (sym c.from-2.ensures) disk) in
    let takes = subst (λ m. Takes (client_form told) told is_client_disk plain m (Deed c.recover-mounting.result) out has c.recover-mounting.new.slots) c.from-2.ensures stepped in
    recover_client_returns told out out has has cell site shows n c.recover-mounting.new.slots (as_is is_replica_disk out has) there c.recover-mounting.result c.recovered.result (g.B.Bay.answered c.args._bay.now) c.recovered.ensures.says takes

pub returns-clause-counts : goal.returns-clause-counts
returns-clause-counts g c =
    let told = g.B.D.Disk.told in
    let f = g.B.D.Disk.faults in
    let a = g.B.D.Disk.arms in
    let df = g.B.Bay.disk_faults c.args._bay.now in
    let da = g.B.Bay.disk_arms c.args._bay.now in
    let site = c.args.site.now in
    let slots = c.recover-mounting.new.slots in
    let n = c.from-2.result in
    let called = c.recover-mounting.ensures in
    clients_counted told f a df da _ site slots (slot_counted (client_form told) f a _ n site.clients slots (slot_at site.clients n) (slot_at slots n) called.counts refl refl (record { later = called.later; cause = λ e. called.cause (c.recovered.ensures.cause e); arms = called.arms }))
