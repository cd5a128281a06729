use Rattle.std.proofs.Common.{◌≡◌, Some, [], refl, sym, ap, ◌∙◌}
use Rattle.std.specs.Prelude.{not}
use Rattle.coda_script.specs.declared.line.Line.TheVariants as line
use Rattle.coda_script.specs.declared.reply.Reply.TheVariants.{Accepted}
use Rattle.coda_cell.specs.Refusing.{refusal}
use Rattle.coda_cell.specs.Steps.{first_missing}
use Rattle.coda_cell.specs.Refused.{NoSuchActor}
use Rattle.coda_shelves.specs.Lines.{the_replica, replica_down, Stays, DoesUp}
use Rattle.coda_site.specs.Sites.{is_client_disk, is_replica_disk}
use Rattle.coda_site.proofs.Becomings.{missing_becomes, down_becomes, up_becomes}
use Rattle.coda_site.proofs.Makes.{unless_none, unless_some}
use Rattle.coda_site.proofs.ReplicaSites.{with_replicas}
use Rattle.coda_site.proofs.DiskLines.{as_is, arm_replica_site}
use Rattle.coda_site.proofs.Theres.{is_replica_at, holder_at_place, made_elsewhere, not_made, replica_down_at}
use Rattle.coda_site.proofs.failing.arm_replica.Goals.{in_default-via-in-Some+else-place-server, in_default-via-in_default}
use Rattle.coda_site.proofs.Counting.{replica_armed, accepted_fine}
use Rattle.coda_site.proofs.failing.arm_replica.Goals as goal

pub returns-in_ok-no_such_actor-in_default-clause-does : goal.returns-in_ok-no_such_actor-in_default-clause-does
returns-in_ok-no_such_actor-in_default-clause-does g c = λ cell shows.
    let told = g.B.D.Disk.told in
    let out = g.B.Bay.out c.args._bay.now in
    let has = g.B.Bay.has c.args._bay.now in
    let site = c.args.site.now in
    let server = c.args.server in
    let volume = c.args.volume in
    let names = (the_replica cell server volume).named in
    let reply = c.in_ok-no_such_actor-in_default.field-0 in
    let missing : first_missing names ≡ Some (NoSuchActor server) = elim c.in_default.branch [
      | in_default-via-in-Some+else-place-server w ↦ made_elsewhere told out has cell site shows server volume w.in-Some.place (sym c.place.ensures ∙ w.in-Some.is) w.if-place-server.false
      | in_default-via-in_default w ↦ not_made told out has cell site shows server volume (sym c.place.ensures ∙ w.in_default.is)
    ] in
    let said = c.in_ok-no_such_actor-in_default.ensures ∙ ap (λ n. refusal (NoSuchActor n)) c.from.ensures in
    missing_becomes told out has cell names (replica_down cell server volume) (DoesUp cell (line.ArmReplica server volume c.args.passes)) reply (g.B.Bay.answered c.args._bay.now) site (NoSuchActor server) missing
    (unless_some cell (first_missing names) (NoSuchActor server) (Stays cell Accepted) reply missing said) shows.stands

pub returns-then-not-is_up-clause-does : goal.returns-then-not-is_up-clause-does
returns-then-not-is_up-clause-does g c = λ cell shows.
    let told = g.B.D.Disk.told in
    let out = g.B.Bay.out c.args._bay.now in
    let has = g.B.Bay.has c.args._bay.now in
    let site = c.args.site.now in
    let server = c.args.server in
    let volume = c.args.volume in
    let place = c.in-Some.place in
    let placed = sym c.place.ensures ∙ c.in-Some.is in
    let same = c.if-place-server.true in
    let names = (the_replica cell server volume).named in
    down_becomes told out has cell names (replica_down cell server volume) (DoesUp cell (line.ArmReplica server volume c.args.passes)) c.refuse.result (g.B.Bay.answered c.args._bay.now) site
    (holder_at_place told out has cell site shows server volume place placed same)
    (replica_down_at told out has cell site shows server volume place placed same ∙ ap not (sym c.is_up.ensures ∙ c.if-not-is_up.true)) c.refuse.ensures shows.stands

pub returns-else-not-is_up-clause-does : goal.returns-else-not-is_up-clause-does
returns-else-not-is_up-clause-does g c = λ cell shows.
    let told = g.B.D.Disk.told in
    let out = g.B.Bay.out c.args._bay.now in
    let has = g.B.Bay.has c.args._bay.now in
    let site = c.args.site.now in
    let server = c.args.server in
    let volume = c.args.volume in
    let place = c.in-Some.place in
    let placed = sym c.place.ensures ∙ c.in-Some.is in
    let same = c.if-place-server.true in
    let names = (the_replica cell server volume).named in
    let takes = c.arm.ensures.step is_replica_disk shows.stands.replicas.0 shows.stands.replicas.2 (is_replica_at told out has cell site shows volume place placed) in
    let be = as_is is_client_disk out has in
    let there = holder_at_place told out has cell site shows server volume place placed same in
    up_becomes told out has cell names (replica_down cell server volume) (DoesUp cell (line.ArmReplica server volume c.args.passes)) Accepted (g.B.Bay.answered c.args._bay.now) (with_replicas site c.arm.new.slots) there
    (replica_down_at told out has cell site shows server volume place placed same ∙ ap not (sym c.is_up.ensures ∙ c.if-not-is_up.false)) cell
    (unless_none cell (first_missing names) (Stays cell Accepted) Accepted [] cell there (refl, refl, refl)) (arm_replica_site told out out has has cell site shows volume place placed c.arm.new.slots be takes)

pub returns-else-not-is_up-clause-counts : goal.returns-else-not-is_up-clause-counts
returns-else-not-is_up-clause-counts g c =
    let told = g.B.D.Disk.told in
    let f = g.B.D.Disk.faults in
    let a = g.B.D.Disk.arms in
    let df = g.B.Bay.disk_faults c.args._bay.now in
    let da = g.B.Bay.disk_arms c.args._bay.now in
    let site = c.args.site.now in
    replica_armed told f a df da df da _ site c.in-Some.place.disk c.arm.new.slots c.arm.ensures.counts accepted_fine c.arm.ensures.faults c.arm.ensures.arms
