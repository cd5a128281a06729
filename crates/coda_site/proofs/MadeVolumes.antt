-- Lines that make volumes.
use Rattle.std.proofs.Common.{◌≡◌, ◌≢◌, inl, inr, ℕ, ◌+◌, ◌==◌, ◌&&◌, Bool, true, false, cond, List, [], ◌∷◌, ◌++◌, append-nil, length, Option, Some, None, IfSome, option_map, is_some, refl, sym, ap, subst, ◌∙◌, arith}
use Rattle.std.proofs.lemmas.Bool.{cases_eq, eq-eqb, eqb-true, ne_eqb}
use Rattle.std.proofs.lemmas.List.{map-append, length-map}
use Rattle.std.specs.BTreeMap.{BTreeMap}
use Rattle.coda_disk.specs.Told.{Told}
use Rattle.coda_journal.specs.declared.header.Header.{Header}
use Rattle.coda_actors.specs.Clients.{client_form}
use Rattle.coda_actors.specs.Plain.{PlainDisk, PlainActor, Mounts, Step, Opens as OpenDeed}
use Rattle.coda_actors.specs.Replicas.{replica_form}
use Rattle.coda_actors.specs.Slots.{is_made, IsOpened}
use Rattle.coda_actors.specs.declared.slot.Mounting.{Mounting}
use Rattle.coda_actors.specs.declared.slot.Mounting.TheVariants.{Entries, Foreign, DiskFault, Memory}
use Rattle.coda_actors.specs.declared.slot.Slot.{Slot}
use Rattle.coda_crew.specs.Crews.{FitsAll, Takes, LeavesBe}
use Rattle.coda_plain.specs.Decisions.{ReplicaEntry}
use Rattle.coda_record.specs.declared.entry.ReplicaEntry.{ReplicaEntry as KeptEntry}
use Rattle.coda_replica.specs.declared.replica.Replica.{Replica}
use Rattle.coda_script.specs.Ranges.{IsServer}
use Rattle.coda_script.specs.declared.line.Line.TheVariants as line
use Rattle.coda_script.specs.declared.reply.Reply.{Reply}
use Rattle.coda_cell.specs.Cells.{IsNetwork}
use Rattle.coda_cell.specs.State.{put}
use Rattle.coda_cell.specs.Steps.{alone}
use Rattle.coda_shelves.specs.Shelves.{replica_header, replica_journal, disk_at}
use Rattle.coda_shelves.specs.Cells.{Row, Cell, Stand, stand_of, with_replica}
use Rattle.coda_shelves.specs.Lines.{IsTold, is_others, made_on, MountsRow, no_volume, with_row, MakesVolume, Happens}
use Rattle.coda_shelves.proofs.Mounting.{at_put}
use Rattle.coda_shelves.proofs.Rows.{stand_last, stand_other}
use Rattle.coda_site.specs.Makings.{SaysOpened}
use Rattle.coda_site.specs.Shelves.{Shows}
use Rattle.coda_site.specs.Sites.{as_journal, is_client_disk, is_replica_disk, place_in, IsSite}
use Rattle.coda_site.specs.Steps.{Becomes}
use Rattle.coda_site.specs.declared.site.Place.{Place}
use Rattle.coda_site.specs.declared.site.Site.{Site}
use Rattle.coda_site.proofs.ClientSites.{plain_clients}
use Rattle.coda_site.proofs.ReplicaSites.{with_replicas, replica_site, replica_same}
use Rattle.coda_site.proofs.Makes.{unless_none, up_made}
use Rattle.coda_site.proofs.Mountings.{IsOpenedOn, foreign_same, replica_opens, opened_so}

-- what a place says of a home
abbrev pub home_of : Option Place → Option ℕ
home_of place = option_map (λ (p : Place). p.server) place

-- as many volumes were made as servers are noted, and each where it is noted
pub rows_counted : {D : Type 0} (told : D → Told) (out : ℕ → Bool) (has : ℕ → Told) (cell : Cell) (site : Site D) → IsSite told out has cell site → length cell.rows ≡ length site.servers.items
rows_counted told out has cell site is = sym (length-map cell.rows (λ (r : Row). alone r.servers)) ∙ ap length is.servers

some_mapped : {A B : Type 0} (f : A → B) (o : Option A) → is_some (option_map f o) ≡ is_some o
some_mapped f None = refl
some_mapped f (Some a) = refl

pub stands_there : {D : Type 0} (told : D → Told) (out : ℕ → Bool) (has : ℕ → Told) (cell : Cell) (site : Site D) → IsSite told out has cell site → (volume : ℕ) → is_some (stand_of cell volume) ≡ is_some (place_in site volume)
stands_there told out has cell site is volume = sym (some_mapped (λ (at : Stand). alone at.servers) (stand_of cell volume)) ∙ ap is_some (is.homes volume) ∙ some_mapped (λ (p : Place). p.server) (place_in site volume)

-- a site in which a volume more was noted
pub record IsNoted {D : Type 0} (old : Site D) (volume : ℕ) (place : Place) (new : Site D) : Type 0 where
  pub servers : new.servers.items ≡ old.servers.items ++ place.server ∷ []
  pub places : (k : ℕ) → place_in new k ≡ cond (k == volume) (Some place) (place_in old k)
  pub clock : new.clock ≡ old.clock
  pub areas : new.areas ≡ old.areas
  pub clients : new.clients ≡ old.clients
  pub net : new.net ≡ old.net

-- a site as it was, but for its replicas
pub record IsAsBefore {D : Type 0} (old : Site D) (slots : BTreeMap ℕ (Slot (Replica D) D)) (new : Site D) : Type 0 where
  pub servers : new.servers.items ≡ old.servers.items
  pub places : (k : ℕ) → place_in new k ≡ place_in old k
  pub clock : new.clock ≡ old.clock
  pub areas : new.areas ≡ old.areas
  pub clients : new.clients ≡ old.clients
  pub replicas : new.replicas ≡ slots
  pub net : new.net ≡ old.net

-- where nothing was, nothing is once what was noted is taken back
pub place_back : (volume : ℕ) (place : ℕ → Option Place) → place volume ≡ None → (k : ℕ) → cond (k == volume) None (place k) ≡ place k
place_back volume place none k = elim (cases_eq k volume) [
  | inl same ↦ ap (λ b. cond b None (place k)) (eq-eqb k volume same) ∙ sym none ∙ ap place (sym same)
  | inr other ↦ ap (λ b. cond b None (place k)) (ne_eqb k volume other)
]

-- these are the replicas by the numbers of their disks
abbrev AreReplicasOf : (ℕ → ℕ → PlainActor ReplicaEntry) → (ℕ → PlainActor KeptEntry) → Type 0
AreReplicasOf replicas plain = (row server : ℕ) → IsServer server → plain (disk_at row server) ≡ as_journal replica_journal (replicas row server)

-- a row in which a replica is put is that of the cell with the replica
row_put : (cell : Cell) (row server : ℕ) (actor : PlainActor ReplicaEntry) (plain : ℕ → PlainActor KeptEntry) → AreReplicasOf (with_replica cell row server actor).replicas plain → AreReplicasOf (put cell.replicas row (put (cell.replicas row) server actor)) plain
row_put cell row server actor plain are r s of = are r s of
    ∙ ap (as_journal replica_journal) (elim (r == row) as (λ b. (r == row) ≡ b → cond (b && (s == server)) actor (cell.replicas r s) ≡ (cond b (put (cell.replicas row) server actor) (cell.replicas r)) s) [
      | true ↦ λ e. ap (λ n. cond (s == server) actor (cell.replicas n s)) (eqb-true r row e)
      | false ↦ λ e. refl
    ] refl)

module _ {D : Type 0} (told : D → Told) (out : ℕ → Bool) (has : ℕ → Told) (cell : Cell) (site : Site D) (slots : BTreeMap ℕ (Slot (Replica D) D)) where
  -- the cell with a row as it was
  row_back : (row : ℕ) (left : Site D) → IsSite told out has cell (with_replicas site slots) → IsAsBefore site slots left → IsSite told out has (record cell { replicas = put cell.replicas row (cell.replicas row) }) left
  row_back row left is back = record {
    clock = is.clock ∙ sym back.clock;
    servers = is.servers ∙ sym back.servers;
    homes = λ v. is.homes v ∙ ap home_of (sym (back.places v));
    places = λ v at stands. subst (λ (o : Option Place). IfSome o (λ p. disk_at at.row (alone at.servers) ≡ p.disk)) (sym (back.places v)) (is.places v at stands);
    areas = is.areas ∙ sym back.areas;
    clients = subst (λ c. FitsAll (client_form told) told is_client_disk out has c (plain_clients cell)) (sym back.clients) is.clients;
    replicas = (
      is.replicas.0,
      at_put (λ r f. (s : ℕ) → IsServer s → is.replicas.0 (disk_at r s) ≡ as_journal replica_journal (f s)) cell.replicas row (cell.replicas row) (is.replicas.1 row) is.replicas.1,
      subst (λ s. FitsAll (replica_form told) told is_replica_disk out has s is.replicas.0) (sym back.replicas) is.replicas.2,
    );
    net = subst (IsNetwork cell.links cell.waiting cell.posted) (sym back.net) is.net;
  }

  -- a volume more on one server
  module _ (volume server area : ℕ) (absent : stand_of cell volume ≡ None) (noted : Site D) (is_noted : IsNoted site volume (record { server = server; disk = disk_at (length cell.rows) server }) noted) where
    abbrev place : Place
    place = record { server = server; disk = disk_at (length cell.rows) server }

    abbrev row : Row
    row = record { volume = volume; servers = server ∷ [] }

    abbrev stands_on : ℕ → Option Stand
    stands_on v = stand_of (record cell { rows = cell.rows ++ row ∷ [] }) v

    here : stands_on volume ≡ Some (record { row = 0 + length cell.rows; servers = server ∷ [] })
    here = stand_last 0 cell.rows volume (server ∷ []) absent

    other : (v : ℕ) → v ≢ volume → stands_on v ≡ stand_of cell v
    other v off = stand_other 0 cell.rows row v (λ same. off (sym same))

    at_here : (at : Stand) → Some (let s : Stand = record { row = 0 + length cell.rows; servers = server ∷ [] } in s) ≡ Some at → disk_at at.row (alone at.servers) ≡ disk_at (length cell.rows) server
    at_here at e =
        let first : Stand = record { row = 0 + length cell.rows; servers = server ∷ [] } in
        let same : first ≡ at = cc in
        sym (λ i. disk_at (same i).row (alone (same i).servers)) ∙ ap (λ n. disk_at n server) (let zero : 0 + length cell.rows ≡ length cell.rows = omega arith in zero)

    placed_here : (k : ℕ) → k ≡ volume → place_in noted k ≡ Some place
    placed_here k same = is_noted.places k ∙ ap (λ b. cond b (Some place) (place_in site k)) (eq-eqb k volume same)

    placed_else : (k : ℕ) → k ≢ volume → place_in noted k ≡ place_in site k
    placed_else k off = is_noted.places k ∙ ap (λ b. cond b (Some place) (place_in site k)) (ne_eqb k volume off)

    row_more : (actor : PlainActor ReplicaEntry) → IsSite told out has (with_replica cell (length cell.rows) server actor) (with_replicas site slots)
        → IsSite told out has (with_row false cell volume (server ∷ []) area (put (cell.replicas (length cell.rows)) server actor)) (record noted { replicas = slots; areas = noted.areas + area })
    row_more actor is = record {
      clock = is.clock ∙ sym is_noted.clock;
      servers = map-append (λ (r : Row). alone r.servers) cell.rows (row ∷ []) ∙ ap (λ l. l ++ server ∷ []) is.servers ∙ sym is_noted.servers;
      homes = λ v. elim (cases_eq v volume) [
        | inl same ↦ ap (λ k. option_map (λ (at : Stand). alone at.servers) (stands_on k)) same ∙ ap (option_map (λ (at : Stand). alone at.servers)) here ∙ sym (ap home_of (placed_here v same))
        | inr off ↦ ap (option_map (λ (at : Stand). alone at.servers)) (other v off) ∙ is.homes v ∙ ap home_of (sym (placed_else v off))
      ];
      places = λ v at stands. elim (cases_eq v volume) [
        | inl same ↦ subst (λ (o : Option Place). IfSome o (λ p. disk_at at.row (alone at.servers) ≡ p.disk)) (sym (placed_here v same)) (at_here at (sym here ∙ ap stands_on (sym same) ∙ stands))
        | inr off ↦ subst (λ (o : Option Place). IfSome o (λ p. disk_at at.row (alone at.servers) ≡ p.disk)) (sym (placed_else v off)) (is.places v at (sym (other v off) ∙ stands))
      ];
      areas = ap (λ a. a + area) (is.areas ∙ sym is_noted.areas);
      clients = subst (λ c. FitsAll (client_form told) told is_client_disk out has c (plain_clients cell)) (sym is_noted.clients) is.clients;
      replicas = (is.replicas.0, row_put cell (length cell.rows) server actor is.replicas.0 is.replicas.1, is.replicas.2);
      net = subst (IsNetwork cell.links cell.waiting cell.posted) (sym is_noted.net) is.net;
    }

-- ---- the line

-- what becomes of a row of which the disk on one server is mounted
abbrev row_now : Header → (ℕ → PlainActor ReplicaEntry) → ℕ → Mounting → PlainDisk ReplicaEntry → ℕ → PlainActor ReplicaEntry
row_now header first server (Foreign at) disk = first
row_now header first server ending disk = put first server (made_on false header (first server) disk ending)

mounts_one : (header : ℕ → Header) (first : ℕ → PlainActor ReplicaEntry) (server : ℕ) (ending : Mounting) (disk : PlainDisk ReplicaEntry) → IsTold ending → Mounts (header server) (first server).disk ending disk
    → MountsRow (is_others (ending ∷ [])) header first (server ∷ []) (ending ∷ []) (row_now (header server) first server ending disk)
mounts_one header first server (Entries count) disk told mounts = (tt, (disk, mounts, (refl, refl)))
mounts_one header first server DiskFault disk told mounts = (tt, (disk, mounts, (refl, refl)))
mounts_one header first server (Foreign at) disk told mounts = (mounts.0, refl, refl)
mounts_one header first server Memory disk told mounts = absurd told

module _ {D : Type 0} (told : D → Told) (out out1 : ℕ → Bool) (has has1 : ℕ → Told) (cell : Cell) (site : Site D) (shows : Shows told out has cell site) (volume server area : ℕ) (range : IsServer server)
    (fits : no_volume cell volume area ≡ None) (absent : stand_of cell volume ≡ None) (slots : BTreeMap ℕ (Slot (Replica D) D)) (be : LeavesBe is_client_disk out out1 has has1)
    (noted : Site D) (is_noted : IsNoted site volume (record { server = server; disk = disk_at (length cell.rows) server }) noted) where
  abbrev header : ℕ → Header
  header = replica_header volume (server ∷ []) area

  abbrev disk : ℕ
  disk = disk_at (length cell.rows) server

  abbrev first : ℕ → PlainActor ReplicaEntry
  first = cell.replicas (length cell.rows)

  abbrev plain : ℕ → PlainActor KeptEntry
  plain = shows.stands.replicas.0

  abbrev Opening : Mounting → Type 0
  Opening ending = Takes (replica_form told) told is_replica_disk plain disk (OpenDeed (header server) ending) out1 has1 slots

  plain_first : plain disk ≡ as_journal replica_journal (first server)
  plain_first = shows.stands.replicas.1 (length cell.rows) server range

  opened : (ending : Mounting) (takes : Opening ending) → IsOpenedOn replica_journal (header server) (first server) ending (takes.0 disk)
  opened ending takes = replica_opens told (first server) (shows.kept.shelves.alone (length cell.rows) server) (header server) ending (takes.0 disk)
      (subst (λ (p : PlainActor KeptEntry). Step (replica_form told) p (OpenDeed (header server) ending) (takes.0 disk)) plain_first takes.1.0)

  -- what becomes of it, where its disk is its own
  abbrev actor_now : (ending : Mounting) → Opening ending → PlainActor ReplicaEntry
  actor_now ending takes = made_on false (header server) (first server) (opened ending takes).disk ending

  abbrev left : (ending : Mounting) → Opening ending → Cell
  left ending takes = with_row (is_others (ending ∷ [])) cell volume (server ∷ []) area (row_now (header server) first server ending (opened ending takes).disk)

  -- the site with another replica in the row that is next
  site_with : (actor : PlainActor ReplicaEntry) (ending : Mounting) (takes : Opening ending) → takes.0 disk ≡ as_journal replica_journal actor → IsSite told out1 has1 (with_replica cell (length cell.rows) server actor) (with_replicas site slots)
  site_with actor ending takes is = replica_site told out out1 has has1 cell site shows.stands (length cell.rows) server actor slots takes.0 range be takes.2 is takes.1.1

  -- the site with the volume
  made_site : (ending : Mounting) (takes : Opening ending) → IsSite told out1 has1 (with_row false cell volume (server ∷ []) area (put first server (actor_now ending takes))) (record noted { replicas = slots; areas = noted.areas + area })
  made_site ending takes = row_more told out1 has1 cell site slots volume server area absent noted is_noted (actor_now ending takes) (site_with (actor_now ending takes) ending takes (opened ending takes).is)

  -- the site as it was, with the disk of another in the slot
  foreign_site : (at : ℕ) (takes : Opening (Foreign at)) (new : Site D) → IsAsBefore site slots new → IsSite told out1 has1 (left (Foreign at) takes) new
  foreign_site at takes new back = row_back told out1 has1 cell site slots (length cell.rows) new
      (subst (λ (c : Cell). IsSite told out1 has1 c (with_replicas site slots)) (replica_same cell (length cell.rows) server (first server) refl)
      (site_with (first server) (Foreign at) takes (foreign_same replica_journal (header server) (first server) at (takes.0 disk) (shows.kept.replicas_left (length cell.rows) server) (opened (Foreign at) takes)))) back

  pub makes_volume : (ending : Mounting) (reply : Reply) (answered : List (List ℕ)) (slot : Slot (Replica D) D) (new : Site D) → SaysOpened ending reply → Opening ending → IsOpened (replica_form told) ending slot
      → (is_made slot ≡ true → new ≡ record noted { replicas = slots; areas = noted.areas + area }) → (is_made slot ≡ false → IsAsBefore site slots new)
      → Becomes told out1 has1 (Happens cell (line.Volume volume (server ∷ []) (Some area))) reply answered answered new
  makes_volume ending reply answered slot new says takes is made unmade = record {
    outside = [];
    left = left ending takes;
    happens = unless_none cell (no_volume cell volume area) (MakesVolume cell volume (server ∷ []) area) reply [] (left ending takes) fits
        (ending ∷ [], row_now (header server) first server ending (opened ending takes).disk, mounts_one header first server ending (opened ending takes).disk (opened_so ending reply says).0 (opened ending takes).mounts, (opened_so ending reply says).1, refl, refl);
    answered = sym (append-nil answered);
    stands = by ending says takes is;
  }
    where
      by : (e : Mounting) → SaysOpened e reply → (t : Opening e) → IsOpened (replica_form told) e slot → IsSite told out1 has1 (left e t) new
      by (Entries count) said t o = subst (IsSite told out1 has1 (left (Entries count) t)) (sym (made (up_made (replica_form told) slot o))) (made_site (Entries count) t)
      by DiskFault said t o = subst (IsSite told out1 has1 (left DiskFault t)) (sym (made o.0)) (made_site DiskFault t)
      by (Foreign at) said t o = foreign_site at t new (unmade o)
      by Memory said t o = absurd said
