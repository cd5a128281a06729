-- The disks that a bay has once all is given back.
use Rattle.std.proofs.Common.{◌≡◌, ℕ, suc, subst, arith}
use Rattle.std.proofs.lemmas.Bool.{le-leb}
use Rattle.coda_disk.specs.Told.{Told}
use Rattle.coda_actors.specs.Clients.{client_form}
use Rattle.coda_actors.specs.Fits.{StandsFor}
use Rattle.coda_actors.specs.Plain.{PlainActor}
use Rattle.coda_actors.specs.Replicas.{replica_form}
use Rattle.coda_crew.specs.Crews.{StandsAll}
use Rattle.coda_record.specs.declared.entry.ReplicaEntry.{ReplicaEntry as KeptEntry}
use Rattle.coda_script.specs.Ranges.{IsServer}
use Rattle.coda_shelves.specs.Cells.{Cell, shelves_of}
use Rattle.coda_shelves.specs.Shelves.{client_journal, replica_journal, disk_at}
use Rattle.coda_site.specs.Shelves.{AreOnDisks}
use Rattle.coda_site.specs.Sites.{as_journal, is_client_disk, is_replica_disk}

-- those that stand for the actors of a cell stand for its shelves
pub disks_given : {D : Type 0} (told : D → Told) (has : ℕ → Told) (cell : Cell) → StandsAll (client_form told) is_client_disk has (λ client. as_journal client_journal (cell.clients client))
    → (plain : ℕ → PlainActor KeptEntry) → ((row server : ℕ) → IsServer server → plain (disk_at row server) ≡ as_journal replica_journal (cell.replicas row server))
    → StandsAll (replica_form told) is_replica_disk has plain → AreOnDisks told has (shelves_of cell)
disks_given told has cell clients plain at replicas = record {
  clients = λ client range. clients client (le-leb (suc client) 256 range);
  replicas = λ row server range. subst (λ (a : PlainActor KeptEntry). StandsFor (replica_form told) (has (disk_at row server)) a.disk) (at row server range)
      (replicas (disk_at row server) (le-leb 256 (disk_at row server) (omega arith)));
}
