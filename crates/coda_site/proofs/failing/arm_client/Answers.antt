use Rattle.std.proofs.Common.{◌≡◌, true, [], refl, sym, ap, subst, ◌∙◌}
use Rattle.std.specs.Prelude.{not}
use Rattle.coda_script.specs.declared.line.Line.TheVariants as line
use Rattle.coda_script.specs.declared.reply.Reply.TheVariants.{Accepted}
use Rattle.coda_actors.specs.Clients.{client_form}
use Rattle.coda_actors.specs.Plain.{Arms}
use Rattle.coda_crew.specs.Crews.{Takes}
use Rattle.coda_cell.specs.Refusing.{refusal}
use Rattle.coda_cell.specs.Steps.{first_missing}
use Rattle.coda_cell.specs.Refused.{NoSuchActor}
use Rattle.coda_shelves.specs.Lines.{the_client, client_down, Stays, DoesUp}
use Rattle.coda_site.specs.Sites.{is_client_disk, is_replica_disk}
use Rattle.coda_site.proofs.Becomings.{missing_becomes, down_becomes, up_becomes}
use Rattle.coda_site.proofs.ClientSites.{plain_clients, with_clients}
use Rattle.coda_site.proofs.DiskLines.{as_is, client_is_there, client_is_missing, client_is_down, arm_client_site}
use Rattle.coda_site.proofs.Makes.{unless_none, unless_some}
use Rattle.coda_site.proofs.Counting.{client_armed, accepted_fine}
use Rattle.coda_site.proofs.failing.arm_client.Goals as goal

pub returns-then-not-has_client-clause-does : goal.returns-then-not-has_client-clause-does
returns-then-not-has_client-clause-does g c = λ cell shows.
    let told = g.B.D.Disk.told in
    let out = g.B.Bay.out c.args._bay.now in
    let has = g.B.Bay.has c.args._bay.now in
    let site = c.args.site.now in
    let n = c.args.client in
    let names = (the_client cell n).named in
    let tells = c.has_client.ensures.there in
    let disk = c.has_client.ensures.disk in
    let reply = c.in_ok-no_such_actor.field-0 in
    let missing = client_is_missing told out has cell site shows n disk c.has_client.result tells c.if-not-has_client.true in
    let said = c.in_ok-no_such_actor.ensures ∙ ap (λ m. refusal (NoSuchActor m)) c.from.ensures in
    missing_becomes told out has cell names (client_down cell n) (DoesUp cell (line.ArmClient n c.args.passes)) reply (g.B.Bay.answered c.args._bay.now) site (NoSuchActor n) missing
    (unless_some cell (first_missing names) (NoSuchActor n) (Stays cell Accepted) reply missing said) shows.stands

pub returns-then-not-is_up-clause-does : goal.returns-then-not-is_up-clause-does
returns-then-not-is_up-clause-does g c = λ cell shows.
    let told = g.B.D.Disk.told in
    let out = g.B.Bay.out c.args._bay.now in
    let has = g.B.Bay.has c.args._bay.now in
    let site = c.args.site.now in
    let n = c.args.client in
    let names = (the_client cell n).named in
    let tells = c.has_client.ensures.there in
    let disk = c.has_client.ensures.disk in
    let there = client_is_there told out has cell site shows n disk c.has_client.result tells c.if-not-has_client.false in
    let down = client_is_down told out has cell site shows n disk c.has_client.result tells c.if-not-has_client.false c.from-2.result c.is_up.result c.from-2.ensures c.is_up.ensures in
    let own = DoesUp cell (line.ArmClient n c.args.passes) in
    down_becomes told out has cell names (client_down cell n) own c.refuse.result (g.B.Bay.answered c.args._bay.now) site there (down ∙ ap not c.if-not-is_up.true) c.refuse.ensures shows.stands

pub returns-clause-does : goal.returns-clause-does
returns-clause-does g c = λ cell shows.
    let told = g.B.D.Disk.told in
    let out = g.B.Bay.out c.args._bay.now in
    let has = g.B.Bay.has c.args._bay.now in
    let site = c.args.site.now in
    let n = c.args.client in
    let names = (the_client cell n).named in
    let tells = c.has_client.ensures.there in
    let disk = c.has_client.ensures.disk in
    let there = client_is_there told out has cell site shows n disk c.has_client.result tells c.if-not-has_client.false in
    let down = client_is_down told out has cell site shows n disk c.has_client.result tells c.if-not-has_client.false c.from-2.result c.is_up.result c.from-2.ensures c.is_up.ensures in
    let own = DoesUp cell (line.ArmClient n c.args.passes) in
    let plain = plain_clients cell in
    let stepped = c.arm.ensures.step is_client_disk plain shows.stands.clients (subst (λ m. is_client_disk m ≡ true) (sym c.from-3.ensures) disk) in
    let takes = subst (λ m. Takes (client_form told) told is_client_disk plain m Arms out has c.arm.new.slots) c.from-3.ensures stepped in
    up_becomes told out has cell names (client_down cell n) own Accepted (g.B.Bay.answered c.args._bay.now) (with_clients site c.arm.new.slots) there (down ∙ ap not c.if-not-is_up.false) cell
    (unless_none cell (first_missing names) (Stays cell Accepted) Accepted [] cell there (refl, refl, refl)) (arm_client_site told out out has has cell site shows n c.arm.new.slots (as_is is_replica_disk out has) takes)

pub returns-clause-counts : goal.returns-clause-counts
returns-clause-counts g c =
    let told = g.B.D.Disk.told in
    let f = g.B.D.Disk.faults in
    let a = g.B.D.Disk.arms in
    let df = g.B.Bay.disk_faults c.args._bay.now in
    let da = g.B.Bay.disk_arms c.args._bay.now in
    let site = c.args.site.now in
    client_armed told f a df da df da _ site c.from-3.result c.arm.new.slots c.arm.ensures.counts accepted_fine c.arm.ensures.faults c.arm.ensures.arms
