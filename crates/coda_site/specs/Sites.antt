-- What a site stands for.
use Rattle.std.specs.Prelude.{◌≡◌, ◌<◌, ◌≤◌, ◌+◌, ◌*◌, ℕ, Bool, true, false, ◌==◌, nat_lt, nat_le, is_some, length, map, Option, Some, IfSome}
use Rattle.std.specs.Option.{option_map, option_map_or}
use Rattle.std.specs.List.{list_any}
use Rattle.std.specs.BTreeMap as tree
use Rattle.std.specs.BTreeMap.{BTreeMap}
use Rattle.std.specs.Ordering.{nat_cmp}
use Rattle.coda_disk.specs.Told.{Told}
use Rattle.coda_actors.specs.Clients.{client_form}
use Rattle.coda_actors.specs.Plain.{PlainDisk, PlainActor}
use Rattle.coda_actors.specs.Replicas.{replica_form}
use Rattle.coda_actors.specs.Slots.{is_made}
use Rattle.coda_actors.specs.declared.slot.Slot.{Slot}
use Rattle.coda_actors.specs.declared.slot.Slot.TheVariants.{Vacant}
use Rattle.coda_crew.specs.Crews.{slot_at, FitsAll, OutAll, OwnAll, IsOutIfHeld}
use Rattle.coda_record.specs.declared.entry.ReplicaEntry.{ReplicaEntry as KeptEntry}
use Rattle.coda_script.specs.Ranges.{IsServer}
use Rattle.coda_cell.specs.Cells.{IsNetwork}
use Rattle.coda_cell.specs.Steps.{Named, alone}
use Rattle.coda_shelves.specs.Shelves.{client_journal, replica_journal, disk_at}
use Rattle.coda_shelves.specs.Cells.{Row, Cell, Stand, stand_of}
use Rattle.coda_site.specs.declared.site.Site.{Site}
use Rattle.coda_site.specs.declared.site.Place.{Place}

-- ---- numbers of disks

-- the numbers of clients' disks, and those of replicas'
abbrev pub is_client_disk : ℕ → Bool
is_client_disk number = nat_lt number 256

abbrev pub is_replica_disk : ℕ → Bool
is_replica_disk number = nat_le 256 number

-- where a volume was made
abbrev pub place_in : {D : Type 0} → Site D → ℕ → Option Place
place_in site volume = tree.get nat_cmp site.places volume

-- ---- what a site stands for

-- an actor as its journal has it
abbrev pub as_journal : {E F : Type 0} → (PlainDisk E → PlainDisk F) → PlainActor E → PlainActor F
as_journal journal actor = record { disk = journal actor.disk; life = actor.life; left = actor.left }

-- The site, with the disks that the bay has and those that are out, stands for the cell.
pub record IsSite {D : Type 0} (told : D → Told) (out : ℕ → Bool) (has : ℕ → Told) (cell : Cell) (site : Site D) : Type 0 where
  pub clock : cell.clock ≡ site.clock
  pub servers : map (λ (r : Row). alone r.servers) cell.rows ≡ site.servers.items
  pub homes : (volume : ℕ) → option_map (λ (at : Stand). alone at.servers) (stand_of cell volume) ≡ option_map (λ (p : Place). p.server) (place_in site volume)
  pub places : (volume : ℕ) (at : Stand) → stand_of cell volume ≡ Some at → IfSome (place_in site volume) (λ p. disk_at at.row (alone at.servers) ≡ p.disk)
  pub areas : cell.areas ≡ site.areas
  pub clients : FitsAll (client_form told) told is_client_disk out has site.clients (λ client. as_journal client_journal (cell.clients client))
  pub replicas : (plain : ℕ → PlainActor KeptEntry) × ((row server : ℕ) → IsServer server → plain (disk_at row server) ≡ as_journal replica_journal (cell.replicas row server)) × FitsAll (replica_form told) told is_replica_disk out has site.replicas plain
  pub net : IsNetwork cell.links cell.waiting cell.posted site.net

-- ---- what a site is, whatever it stands for

-- Each disk that a slot has is out, and no other one; each actor that was made asks for a header of its kind; and the disks of replicas have the
-- numbers of their places, each below that of the volume that is made next.
pub record IsReady {D : Type 0} (told : D → Told) (out : ℕ → Bool) (site : Site D) : Type 0 where
  pub clients : OutAll is_client_disk out site.clients
  pub replicas : OutAll is_replica_disk out site.replicas
  pub clients_own : OwnAll (client_form told) site.clients
  pub replicas_own : OwnAll (replica_form told) site.replicas
  pub few : length site.servers.items ≤ 64
  pub places : (volume : ℕ) → IfSome (place_in site volume) (λ p. (256 ≤ p.disk) × (p.disk < 256 + 8 * length site.servers.items) × (1 ≤ p.server) × (p.server ≤ 8))
  pub made : (number : ℕ) → is_made (slot_at site.replicas number) ≡ true → number < 256 + 8 * length site.servers.items
  pub areas : site.areas ≤ 512

-- ---- what can be given back

-- a disk that a slot of the crew has is out, and no other number has a slot
abbrev pub HeldAt : {A D : Type 0} → Bool → Bool → Slot A D → Type 0
HeldAt true out slot = IsOutIfHeld out slot
HeldAt false out slot = slot ≡ Vacant

abbrev pub HeldAll : {A D : Type 0} → (ℕ → Bool) → (ℕ → Bool) → BTreeMap ℕ (Slot A D) → Type 0
HeldAll of out slots = (k : ℕ) → HeldAt (of k) (out k) (slot_at slots k)

-- Each disk that a slot has is out. A number may be out though no slot has its disk: the bay refused its crash, and the disk is lost.
pub record IsClosable {D : Type 0} (out : ℕ → Bool) (site : Site D) : Type 0 where
  pub clients : HeldAll is_client_disk out site.clients
  pub replicas : HeldAll is_replica_disk out site.replicas

-- ---- the actors that a line names, by the site

abbrev pub client_at : {D : Type 0} → Site D → ℕ → Named
client_at site client = record { number = client; there = is_made (slot_at site.clients client) }

abbrev pub volume_at : {D : Type 0} → Site D → ℕ → Named
volume_at site volume = record { number = volume; there = is_some (place_in site volume) }

abbrev pub server_at : {D : Type 0} → Site D → ℕ → Named
server_at site server = record { number = server; there = list_any (λ other. other == server) site.servers.items }

abbrev pub holder_at : {D : Type 0} → Site D → ℕ → ℕ → Named
holder_at site server volume = record { number = server; there = option_map_or (λ (p : Place). p.server == server) (place_in site volume) false }
