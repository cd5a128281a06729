use Rattle.std.proofs.Common.{◌≡◌, Some, refl, sym, ap, subst, ◌∙◌}
use Rattle.std.proofs.lemmas.Bool.{false≢true}
use Rattle.coda_script.specs.declared.line.Line.TheVariants as line
use Rattle.coda_cell.specs.Refusing.{refusal}
use Rattle.coda_cell.specs.Steps.{first_missing}
use Rattle.coda_cell.specs.Refused.{NoSuchActor}
use Rattle.coda_shelves.specs.Cells.{stand_of}
use Rattle.coda_shelves.specs.Lines.{the_replica, replica_payloads, Recovers, AtReplicaOf, Happens}
use Rattle.std.specs.Prelude.{IfOk}
use Rattle.coda_site.specs.Sites.{is_client_disk, is_replica_disk}
use Rattle.coda_site.specs.Steps.{Becomes}
use Rattle.coda_site.proofs.Makes.{stays_becomes, unless_some}
use Rattle.coda_site.proofs.ReplicaSites.{with_replicas}
use Rattle.coda_site.proofs.DiskLines.{as_is, replicas_ready, recover_replica_returns}
use Rattle.coda_site.proofs.Theres.{is_replica_at, replica_made, holder_at_place, made_elsewhere, not_made}
use Rattle.coda_site.proofs.failing.recover_replica.Goals.{in_default-via-in-Some+else-place-server, in_default-via-in_default}
use Rattle.coda_crew.specs.Crews.{slot_at}
use Rattle.coda_actors.specs.Replicas.{replica_form}
use Rattle.coda_site.proofs.Counting.{replicas_counted, slot_counted}
use Rattle.coda_site.proofs.failing.recover_replica.Goals as goal

pub returns-in_ok-no_such_actor-in_default-clause-does : goal.returns-in_ok-no_such_actor-in_default-clause-does
returns-in_ok-no_such_actor-in_default-clause-does g c = λ cell shows.
    let told = g.B.D.Disk.told in
    let out = g.B.Bay.out c.args._bay.now in
    let has = g.B.Bay.has c.args._bay.now in
    let site = c.args.site.now in
    let server = c.args.server in
    let volume = c.args.volume in
    let names = (the_replica cell server volume).named in
    let reply = c.in_ok-no_such_actor-in_default.field-0 in
    let missing : first_missing names ≡ Some (NoSuchActor server) = elim c.in_default.branch [
      | in_default-via-in-Some+else-place-server w ↦ made_elsewhere told out has cell site shows server volume w.in-Some.place (sym c.place.ensures ∙ w.in-Some.is) w.if-place-server.false
      | in_default-via-in_default w ↦ not_made told out has cell site shows server volume (sym c.place.ensures ∙ w.in_default.is)
    ] in
    let said = c.in_ok-no_such_actor-in_default.ensures ∙ ap (λ n. refusal (NoSuchActor n)) c.from-in_default.ensures in
    stays_becomes told out has cell (Happens cell (line.RecoverReplica server volume)) reply (g.B.Bay.answered c.args._bay.now) site (unless_some cell (first_missing names) (NoSuchActor server) (AtReplicaOf cell (stand_of cell volume) server (Recovers replica_payloads)) reply missing said) shows.stands

pub returns-else-not-is_made-clause-ready : goal.returns-else-not-is_made-clause-ready
returns-else-not-is_made-clause-ready g c = replicas_ready g.B.D.Disk.told (g.B.Bay.out c.args._bay.now) (g.B.Bay.out c.args._bay.now) c.args.site.now c.recover-mounting.new.slots c.in-Some.place.disk c.requires.ready (λ k. refl)
    (c.recover-mounting.ensures.out is_replica_disk c.requires.ready.replicas) (c.recover-mounting.ensures.own c.requires.ready.replicas_own) c.recover-mounting.ensures.slots (sym c.is_made.ensures ∙ c.if-not-is_made.false)

pub returns-else-not-is_made-clause-does : goal.returns-else-not-is_made-clause-does
returns-else-not-is_made-clause-does g c = λ cell shows.
    let told = g.B.D.Disk.told in
    let out = g.B.Bay.out c.args._bay.now in
    let has = g.B.Bay.has c.args._bay.now in
    let site = c.args.site.now in
    let server = c.args.server in
    let volume = c.args.volume in
    let place = c.in-Some.place in
    let placed = sym c.place.ensures ∙ c.in-Some.is in
    let same = c.if-place-server.true in
    let old = g.B.Bay.answered c.args._bay.now in
    let takes = c.recover-mounting.ensures.step is_replica_disk shows.stands.replicas.0 shows.stands.replicas.2 (is_replica_at told out has cell site shows volume place placed) in
    let be = as_is is_client_disk out has in
    let there = holder_at_place told out has cell site shows place.server volume place placed refl in
    subst (λ s. IfOk c.recovered.result (λ reply. Becomes told out has (Happens cell (line.RecoverReplica s volume)) reply old old (with_replicas site c.recover-mounting.new.slots))) same
    (recover_replica_returns told out out has has cell site shows volume place placed c.recover-mounting.new.slots be there c.recover-mounting.result c.recovered.result old c.recovered.ensures.says takes)

pub returns-else-not-is_made-clause-counts : goal.returns-else-not-is_made-clause-counts
returns-else-not-is_made-clause-counts g c =
    let told = g.B.D.Disk.told in
    let f = g.B.D.Disk.faults in
    let a = g.B.D.Disk.arms in
    let df = g.B.Bay.disk_faults c.args._bay.now in
    let da = g.B.Bay.disk_arms c.args._bay.now in
    let site = c.args.site.now in
    let slots = c.recover-mounting.new.slots in
    let n = c.in-Some.place.disk in
    let called = c.recover-mounting.ensures in
    replicas_counted told f a df da _ site slots (slot_counted (replica_form told) f a _ n site.replicas slots (slot_at site.replicas n) (slot_at slots n) called.counts refl refl (record { later = called.later; cause = λ e. called.cause (c.recovered.ensures.cause e); arms = called.arms }))

pub returns-then-not-is_made-clause-does : goal.returns-then-not-is_made-clause-does
returns-then-not-is_made-clause-does g c = λ cell shows.
    absurd (false≢true (sym c.if-not-is_made.true ∙ c.is_made.ensures
    ∙ replica_made g.B.D.Disk.told (g.B.Bay.out c.args._bay.now) (g.B.Bay.has c.args._bay.now) cell c.args.site.now shows c.args.volume c.in-Some.place (sym c.place.ensures ∙ c.in-Some.is)))
