use Rattle.std.proofs.Common.{rules, refl, sym}
use Rattle.coda_site.specs.Sites.{is_client_disk, is_replica_disk}
use Rattle.coda_site.proofs.Beginning.{begun_shows}
use Rattle.coda_site.proofs.Closing.{vacant_held}
use Rattle.coda_site.proofs.cell.Cell.new.Goals as goal

pub returns-clause-closable : goal.returns-clause-closable
returns-clause-closable g c = record {
  clients = vacant_held is_client_disk (g.B.Bay.out c.args.bay) c.unmade-clients.result c.unmade-clients.ensures.vacant;
  replicas = vacant_held is_replica_disk (g.B.Bay.out c.args.bay) c.unmade-replicas.result c.unmade-replicas.ensures.vacant;
}

pub returns-clause-shelves : goal.returns-clause-shelves
returns-clause-shelves g c = λ shelves kept on.
    begun_shows g.B.D.Disk.told (g.B.Bay.out c.args.bay) (g.B.Bay.has c.args.bay) shelves on _ kept refl (sym c.new.ensures.items) (λ volume. search rules) refl
    (λ plain at. c.unmade-clients.ensures.fits is_client_disk plain (λ number in_crew. c.requires number) at)
    (λ plain at. c.unmade-replicas.ensures.fits is_replica_disk plain (λ number in_crew. c.requires number) at)
    (search rules)
