use Rattle.std.proofs.Common.{ℕ, ◌∙◌, inl, inr}
use Rattle.coda_actors.specs.Clients.{client_form}
use Rattle.coda_actors.specs.Plain.{PlainActor}
use Rattle.coda_actors.specs.Replicas.{replica_form}
use Rattle.coda_venus.specs.History.{Payload}
use Rattle.coda_shelves.specs.Shelves.{client_journal}
use Rattle.coda_site.specs.Sites.{as_journal, is_client_disk, is_replica_disk}
use Rattle.coda_site.proofs.Giving.{disks_given}
use Rattle.coda_site.proofs.Closing.{side_of, client_alone, replica_alone, all_held, held_vacant, held_over, vacant, out_over, fits_over, stands_over}
use Rattle.coda_site.proofs.Counting.{closed}
use Rattle.coda_site.proofs.cell.Cell.close.Goals as goal

pub give_back-requires-2 : goal.give_back-requires-2
give_back-requires-2 g c = λ number.
    let out0 = g.B.Bay.out c.args.self.bay in
    let out1 = g.B.Bay.out c.give_back.new.bay in
    let has0 = g.B.Bay.has c.args.self.bay in
    let has1 = g.B.Bay.has c.give_back.new.bay in
    let clients = c.args.self.site.clients in
    let replicas = c.args.self.site.replicas in
    let closes = c.requires in
    let be = c.give_back.ensures.others is_replica_disk (λ k own. held_vacant is_client_disk out0 clients closes.clients k (replica_alone k own)) in
    all_held is_replica_disk out1 replicas (held_over is_replica_disk out0 out1 has0 has1 replicas be closes.replicas) number

pub returns-clause-out : goal.returns-clause-out
returns-clause-out g c = λ ready number.
    let out0 = g.B.Bay.out c.args.self.bay in
    let out1 = g.B.Bay.out c.give_back.new.bay in
    let has0 = g.B.Bay.has c.args.self.bay in
    let has1 = g.B.Bay.has c.give_back.new.bay in
    let clients = c.args.self.site.clients in
    let replicas = c.args.self.site.replicas in
    let closes = c.requires in
    let be = c.give_back.ensures.others is_replica_disk (λ k own. held_vacant is_client_disk out0 clients closes.clients k (replica_alone k own)) in
    let left = out_over is_replica_disk out0 out1 has0 has1 replicas be ready.replicas in
    let after = c.give_back-2.ensures.others is_client_disk (λ k own. vacant is_replica_disk out1 replicas left k (client_alone k own)) in
    elim (side_of number) [
      | inl own ↦ (after number own.0).0 ∙ c.give_back.ensures.out is_client_disk ready.clients number own.0
      | inr own ↦ c.give_back-2.ensures.out is_replica_disk left number own.1
    ]

pub returns-clause-faults_out : goal.returns-clause-faults_out
returns-clause-faults_out g c =
    closed g.B.D.Disk.told g.B.D.Disk.faults c.args.self.site (g.B.Bay.disk_faults c.args.self.bay) (g.B.Bay.disk_faults c.give_back.new.bay) (g.B.Bay.disk_faults c.give_back-2.new.bay) c.give_back.ensures.disk_faults c.give_back-2.ensures.disk_faults

pub returns-clause-arms_out : goal.returns-clause-arms_out
returns-clause-arms_out g c =
    closed g.B.D.Disk.told g.B.D.Disk.arms c.args.self.site (g.B.Bay.disk_arms c.args.self.bay) (g.B.Bay.disk_arms c.give_back.new.bay) (g.B.Bay.disk_arms c.give_back-2.new.bay) c.give_back.ensures.disk_arms c.give_back-2.ensures.disk_arms

pub returns-clause-shelves : goal.returns-clause-shelves
returns-clause-shelves g c = λ plain ready shows.
    let told = g.B.D.Disk.told in
    let out0 = g.B.Bay.out c.args.self.bay in
    let out1 = g.B.Bay.out c.give_back.new.bay in
    let has0 = g.B.Bay.has c.args.self.bay in
    let has1 = g.B.Bay.has c.give_back.new.bay in
    let clients = c.args.self.site.clients in
    let replicas = c.args.self.site.replicas in
    let closes = c.requires in
    let be = c.give_back.ensures.others is_replica_disk (λ k own. held_vacant is_client_disk out0 clients closes.clients k (replica_alone k own)) in
    let out2 = g.B.Bay.out c.give_back-2.new.bay in
    let has2 = g.B.Bay.has c.give_back-2.new.bay in
    let left = out_over is_replica_disk out0 out1 has0 has1 replicas be ready.replicas in
    let after = c.give_back-2.ensures.others is_client_disk (λ k own. vacant is_replica_disk out1 replicas left k (client_alone k own)) in
    let actors : ℕ → PlainActor Payload = λ client. as_journal client_journal (plain.clients client) in
    let standing = shows.stands.replicas in
    disks_given told has2 plain (stands_over (client_form told) is_client_disk out1 out2 has1 has2 actors after (c.give_back.ensures.stands is_client_disk actors shows.stands.clients)) standing.0 standing.1
    (c.give_back-2.ensures.stands is_replica_disk standing.0 (fits_over (replica_form told) told is_replica_disk out0 out1 has0 has1 replicas standing.0 be standing.2))
