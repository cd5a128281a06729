-- A cell of the code in which nothing was made shows the run that begins over the shelves for which the disks of its bay stand.
use Rattle.std.proofs.Common.{◌≡◌, ℕ, zero, suc, ◌+◌, ◌*◌, ◌-◌, ◌≤◌, inl, inr, arith, Bool, [], None, option_map, refl, subst}
use Rattle.std.proofs.lemmas.Bool.{cases_eq, leb-true}
use Rattle.coda_disk.specs.Told.{Told}
use Rattle.coda_actors.specs.Clients.{client_form}
use Rattle.coda_actors.specs.Replicas.{replica_form}
use Rattle.coda_actors.specs.Fits.{StandsFor}
use Rattle.coda_actors.specs.Plain.{PlainActor}
use Rattle.coda_crew.specs.Crews.{FitsAll, IsAtEntry}
use Rattle.coda_record.specs.declared.entry.ReplicaEntry.{ReplicaEntry as KeptEntry}
use Rattle.coda_venus.specs.History.{Payload}
use Rattle.coda_cell.specs.Cells.{IsNetwork}
use Rattle.coda_script.specs.Ranges.{IsServer}
use Rattle.coda_site.specs.Sites.{as_journal, is_client_disk, is_replica_disk, place_in}
use Rattle.coda_site.specs.declared.site.Place.{Place}
use Rattle.coda_site.specs.declared.site.Site.{Site}
use Rattle.coda_shelves.specs.Shelves.{Shelves, client_journal, replica_journal, disk_at}
use Rattle.coda_shelves.specs.Cells.{begun_on, lying}
use Rattle.coda_shelves.specs.Kept.{AreKept}
use Rattle.coda_shelves.proofs.Keeping.{shelves_are_kept}
use Rattle.coda_shelves.proofs.Placed.{lines_keep_places}
use Rattle.coda_site.specs.Shelves.{AreOnDisks, Shows}
use Rattle.coda_site.proofs.ReplicaSites.{places_apart}

-- each number from 256 on is that of a place
place_of : (n : ℕ) → (row : ℕ) × (server : ℕ) × (1 ≤ server) × (server ≤ 8) × (8 * row + server ≡ n + 1)
place_of zero = (0, 1, omega arith, omega arith, omega arith)
place_of (suc n) = by (place_of n)
  where
    by : (row : ℕ) × (server : ℕ) × (1 ≤ server) × (server ≤ 8) × (8 * row + server ≡ n + 1) → (row : ℕ) × (server : ℕ) × (1 ≤ server) × (server ≤ 8) × (8 * row + server ≡ suc n + 1)
    by (row, server, one, few, is) = elim (cases_eq server 8) [
      | inl full ↦ (row + 1, 1, omega arith, omega arith, omega (arith, is, full))
      | inr less ↦ (row, server + 1, omega arith, omega (arith, few, less), omega (arith, is))
    ]

module _ {D : Type 0} (told : D → Told) (out : ℕ → Bool) (has : ℕ → Told) (shelves : Shelves) (on : AreOnDisks told has shelves) where
  abbrev clients_lie : ℕ → PlainActor Payload
  clients_lie client = as_journal client_journal (lying (shelves.clients client))

  abbrev replicas_lie : ℕ → PlainActor KeptEntry
  replicas_lie number = (let p = place_of (number - 256) in as_journal replica_journal (lying (shelves.replicas p.0 p.1)))

  replicas_at : (row server : ℕ) → IsServer server → replicas_lie (disk_at row server) ≡ as_journal replica_journal (lying (shelves.replicas row server))
  replicas_at row server range =
      let high : 256 ≤ disk_at row server = omega arith in
      let p = place_of (disk_at row server - 256) in
      let one = p.2 in
      let few = p.3 in
      let is = p.4 in
      let same : disk_at p.0 p.1 ≡ disk_at row server = omega (arith, high, one, few, is) in
      let one = places_apart p.0 p.1 row server p.2 p.3 range.0 range.1 same in
      λ i. as_journal replica_journal (lying (shelves.replicas (one.0 i) (one.1 i)))

  clients_enter : IsAtEntry (client_form told) is_client_disk has clients_lie
  clients_enter k of = (refl, refl, on.clients k (leb-true (suc k) 256 of))

  replicas_enter : IsAtEntry (replica_form told) is_replica_disk has replicas_lie
  replicas_enter k of =
      let high : 256 ≤ k = leb-true 256 k of in
      let p = place_of (k - 256) in
      let one = p.2 in
      let few = p.3 in
      let is = p.4 in
      let same : disk_at p.0 p.1 ≡ k = omega (arith, high, one, few, is) in
      (refl, refl, subst (λ n. StandsFor (replica_form told) (has n) (replica_journal (shelves.replicas p.0 p.1))) same (on.replicas p.0 p.1 (p.2, p.3)))

  -- The last premises are what `Cell::new` of coda_site makes: no clock, no volume, no actor in a slot, and an empty network.
  pub begun_shows : (site : Site D) → AreKept shelves → 0 ≡ site.clock → [] ≡ site.servers.items → ((volume : ℕ) → None ≡ option_map (λ (p : Place). p.server) (place_in site volume)) → 0 ≡ site.areas
      → ((plain : ℕ → PlainActor Payload) → IsAtEntry (client_form told) is_client_disk has plain → FitsAll (client_form told) told is_client_disk out has site.clients plain)
      → ((plain : ℕ → PlainActor KeptEntry) → IsAtEntry (replica_form told) is_replica_disk has plain → FitsAll (replica_form told) told is_replica_disk out has site.replicas plain)
      → IsNetwork (begun_on shelves).links [] 0 site.net → Shows told out has (begun_on shelves) site
  begun_shows site kept clock servers homes areas clients replicas net = record {
    kept = shelves_are_kept.begins shelves kept;
    placed = lines_keep_places.first shelves;
    stands = record {
      clock = clock;
      servers = servers;
      homes = homes;
      places = λ volume at stands. cc;
      areas = areas;
      clients = clients clients_lie clients_enter;
      replicas = (replicas_lie, replicas_at, replicas replicas_lie replicas_enter);
      net = net;
    };
  }
