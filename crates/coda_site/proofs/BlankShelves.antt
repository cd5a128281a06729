-- Disks on which no actor was ever made stand for blank shelves.
use Rattle.std.proofs.Common.{ℕ, refl}
use Rattle.coda_disk.specs.Told.{Told}
use Rattle.coda_shelves.specs.Shelves.{disk_at}
use Rattle.coda_site.specs.Shelves.{BlankDisksStand}

pub blank_disks_stand : {D : Type 0} (told : D → Told) (has : ℕ → Told) → BlankDisksStand told has
blank_disks_stand told has blank = record {
  clients = λ client is. record { honest = (blank client).honest; lawful = (refl, refl); each = (blank client).each };
  replicas = λ row server is. record { honest = (blank (disk_at row server)).honest; lawful = (refl, refl); each = (blank (disk_at row server)).each };
}
