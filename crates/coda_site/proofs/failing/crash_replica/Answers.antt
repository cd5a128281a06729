use Rattle.std.proofs.Common.{◌≡◌, Some, refl, sym, ap, subst, ◌∙◌}
use Rattle.std.proofs.lemmas.Bool.{false≢true}
use Rattle.coda_script.specs.declared.line.Line.TheVariants as line
use Rattle.coda_script.specs.declared.reply.Reply.TheVariants.{Crashed}
use Rattle.coda_cell.specs.Refusing.{refusal}
use Rattle.coda_cell.specs.Steps.{first_missing}
use Rattle.coda_cell.specs.Refused.{NoSuchActor}
use Rattle.coda_shelves.specs.Cells.{stand_of}
use Rattle.coda_shelves.specs.Lines.{the_replica, replica_payloads, Crashes, AtReplicaOf, Happens}
use Rattle.coda_site.specs.Sites.{is_client_disk, is_replica_disk}
use Rattle.coda_site.specs.Steps.{Becomes}
use Rattle.coda_site.proofs.Makes.{stays_becomes, unless_some}
use Rattle.coda_site.proofs.ReplicaSites.{with_replicas}
use Rattle.coda_site.proofs.DiskLines.{all_be, replicas_ready, crash_replica_becomes}
use Rattle.coda_site.proofs.Theres.{is_replica_at, replica_made, holder_at_place, made_elsewhere, not_made}
use Rattle.coda_site.proofs.failing.crash_replica.Goals.{in_default-via-in-Some+else-place-server, in_default-via-in_default}
use Rattle.coda_site.proofs.failing.crash_replica.Goals as goal

pub returns-in_ok-no_such_actor-in_default-clause-does : goal.returns-in_ok-no_such_actor-in_default-clause-does
returns-in_ok-no_such_actor-in_default-clause-does g c = λ cell shows.
    let told = g.B.D.Disk.told in
    let out = g.B.Bay.out c.args.bay.now in
    let has = g.B.Bay.has c.args.bay.now in
    let site = c.args.site.now in
    let server = c.args.server in
    let volume = c.args.volume in
    let names = (the_replica cell server volume).named in
    let reply = c.in_ok-no_such_actor-in_default.field-0 in
    let missing : first_missing names ≡ Some (NoSuchActor server) = elim c.in_default.branch [
      | in_default-via-in-Some+else-place-server w ↦ made_elsewhere told out has cell site shows server volume w.in-Some.place (sym c.place.ensures ∙ w.in-Some.is) w.if-place-server.false
      | in_default-via-in_default w ↦ not_made told out has cell site shows server volume (sym c.place.ensures ∙ w.in_default.is)
    ] in
    let said = c.in_ok-no_such_actor-in_default.ensures ∙ ap (λ n. refusal (NoSuchActor n)) c.from-in_default.ensures in
    stays_becomes told out has cell (Happens cell (line.CrashReplica server volume c.args.choice)) reply (g.B.Bay.answered c.args.bay.now) site (unless_some cell (first_missing names) (NoSuchActor server) (AtReplicaOf cell (stand_of cell volume) server (Crashes replica_payloads)) reply missing said) shows.stands

pub returns-in_ok-crash-in-Some-clause-ready : goal.returns-in_ok-crash-in-Some-clause-ready
returns-in_ok-crash-in-Some-clause-ready g c = λ ok. replicas_ready g.B.D.Disk.told (g.B.Bay.out c.args.bay.now) (g.B.Bay.out c.crash.new.bay) c.args.site.now c.crash.new.slots c.in-Some.place.disk c.requires.ready c.in_ok-crash-in-Some.ensures.numbers
    (c.in_ok-crash-in-Some.ensures.out is_replica_disk c.requires.ready.replicas) (c.in_ok-crash-in-Some.ensures.own c.requires.ready.replicas_own) c.in_ok-crash-in-Some.ensures.slots (sym c.is_made.ensures ∙ c.if-not-is_made.false)

pub returns-in_ok-crash-in-Some-clause-does : goal.returns-in_ok-crash-in-Some-clause-does
returns-in_ok-crash-in-Some-clause-does g c = λ cell shows.
    let told = g.B.D.Disk.told in
    let out = g.B.Bay.out c.args.bay.now in
    let has = g.B.Bay.has c.args.bay.now in
    let site = c.args.site.now in
    let server = c.args.server in
    let volume = c.args.volume in
    let place = c.in-Some.place in
    let placed = sym c.place.ensures ∙ c.in-Some.is in
    let same = c.if-place-server.true in
    let out1 = g.B.Bay.out c.crash.new.bay in
    let has1 = g.B.Bay.has c.crash.new.bay in
    let old = g.B.Bay.answered c.args.bay.now in
    let answered = g.B.Bay.answered c.crash.new.bay in
    let stepped = c.in_ok-crash-in-Some.ensures.step is_replica_disk shows.stands.replicas.0 shows.stands.replicas.2 (is_replica_at told out has cell site shows volume place placed) in
    let be = all_be is_client_disk out out1 has has1 c.in_ok-crash-in-Some.ensures.numbers c.in_ok-crash-in-Some.ensures.keeps in
    let there = holder_at_place told out has cell site shows place.server volume place placed refl in
    subst (λ s. Becomes told out1 has1 (Happens cell (line.CrashReplica s volume c.args.choice)) Crashed old answered (with_replicas site c.crash.new.slots)) same
    (crash_replica_becomes told out out1 has has1 cell site shows volume place placed c.crash.new.slots be there c.args.choice stepped.0 old answered stepped.1 stepped.2)

pub returns-then-not-is_made-clause-does : goal.returns-then-not-is_made-clause-does
returns-then-not-is_made-clause-does g c = λ cell shows.
    absurd (false≢true (sym c.if-not-is_made.true ∙ c.is_made.ensures
    ∙ replica_made g.B.D.Disk.told (g.B.Bay.out c.args.bay.now) (g.B.Bay.has c.args.bay.now) cell c.args.site.now shows c.args.volume c.in-Some.place (sym c.place.ensures ∙ c.in-Some.is)))
