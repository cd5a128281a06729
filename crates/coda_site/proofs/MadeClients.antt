-- Lines that make clients.
use Rattle.std.proofs.Common.{◌≡◌, ◌+◌, ℕ, Bool, true, false, List, [], ◌∷◌, append-nil, Some, None, refl, sym, ap, subst}
use Rattle.std.specs.BTreeMap.{BTreeMap}
use Rattle.coda_disk.specs.Told.{Told}
use Rattle.coda_journal.specs.declared.header.Header.{Header}
use Rattle.coda_actors.specs.Clients.{client_form}
use Rattle.coda_actors.specs.Plain.{PlainActor, Opens as OpenDeed}
use Rattle.coda_actors.specs.Slots.{is_made, IsOpened}
use Rattle.coda_actors.specs.declared.slot.Mounting.{Mounting}
use Rattle.coda_actors.specs.declared.slot.Mounting.TheVariants.{Entries, Foreign, DiskFault, Memory}
use Rattle.coda_actors.specs.declared.slot.Slot.{Slot}
use Rattle.coda_crew.specs.Crews.{Takes, LeavesBe}
use Rattle.coda_plain.specs.Cell.{ClientEntry}
use Rattle.coda_script.specs.declared.line.Line.TheVariants as line
use Rattle.coda_script.specs.declared.reply.Reply.{Reply}
use Rattle.coda_venus.specs.declared.venus.Venus.{Venus}
use Rattle.coda_shelves.specs.Shelves.{client_header, client_journal}
use Rattle.coda_shelves.specs.Cells.{Cell, with_client}
use Rattle.coda_shelves.specs.Lines.{is_others, made_on, no_client, with_made, MakesClient, Happens}
use Rattle.coda_site.specs.Makings.{SaysOpened}
use Rattle.coda_site.specs.Shelves.{Shows}
use Rattle.coda_site.specs.Sites.{is_client_disk, is_replica_disk, IsSite}
use Rattle.coda_site.specs.Steps.{Becomes}
use Rattle.coda_site.specs.declared.site.Site.{Site}
use Rattle.coda_site.proofs.ClientSites.{plain_clients, with_clients, client_site, client_same}
use Rattle.coda_site.proofs.Makes.{with_clients_and_areas, unless_none, up_made}
use Rattle.coda_site.proofs.Mountings.{IsOpenedOn, foreign_same, client_opens, opened_so}

-- areas of so many MiB more
with_areas : {D : Type 0} (told : D → Told) (out : ℕ → Bool) (has : ℕ → Told) (cell : Cell) (site : Site D) (area : ℕ) → IsSite told out has cell site → IsSite told out has (record cell { areas = cell.areas + area }) (record site { areas = site.areas + area })
with_areas told out has cell site area is = record {
  clock = is.clock;
  servers = is.servers;
  homes = is.homes;
  places = is.places;
  areas = ap (λ a. a + area) is.areas;
  clients = is.clients;
  replicas = is.replicas;
  net = is.net;
}

module _ {D : Type 0} (told : D → Told) (out out1 : ℕ → Bool) (has has1 : ℕ → Told) (cell : Cell) (site : Site D) (shows : Shows told out has cell site) (n blocks area : ℕ) (fits : no_client cell n area ≡ None)
    (slots : BTreeMap ℕ (Slot (Venus D) D)) (be : LeavesBe is_replica_disk out out1 has has1) where
  abbrev header : Header
  header = client_header n blocks area

  abbrev Opening : Mounting → Type 0
  Opening ending = Takes (client_form told) told is_client_disk (plain_clients cell) n (OpenDeed header ending) out1 has1 slots

  opened : (ending : Mounting) (takes : Opening ending) → IsOpenedOn client_journal header (cell.clients n) ending (takes.0 n)
  opened ending takes = client_opens told (cell.clients n) header ending (takes.0 n) takes.1.0

  -- what becomes of it, where its disk is its own
  abbrev actor_now : (ending : Mounting) → Opening ending → PlainActor ClientEntry
  actor_now ending takes = made_on false header (cell.clients n) (opened ending takes).disk ending

  -- the site with the client
  made_site : (ending : Mounting) (takes : Opening ending) → IsSite told out1 has1 (with_made false cell n area (actor_now ending takes)) (with_clients_and_areas site slots (site.areas + area))
  made_site ending takes = with_areas told out1 has1 (with_client cell n (actor_now ending takes)) (with_clients site slots) area
      (client_site told out out1 has has1 cell site n (actor_now ending takes) slots takes.0 shows.stands be takes.2 (opened ending takes).is takes.1.1)

  -- the site as it was, with the disk of another in the slot
  foreign_site : (at : ℕ) (takes : Opening (Foreign at)) → IsSite told out1 has1 cell (with_clients_and_areas site slots site.areas)
  foreign_site at takes = subst (λ (c : Cell). IsSite told out1 has1 c (with_clients site slots)) (client_same cell n (cell.clients n) refl)
      (client_site told out out1 has has1 cell site n (cell.clients n) slots takes.0 shows.stands be takes.2
      (foreign_same client_journal header (cell.clients n) at (takes.0 n) (shows.kept.clients_left n) (opened (Foreign at) takes)) takes.1.1)

  pub makes_client : (ending : Mounting) (reply : Reply) (answered : List (List ℕ)) (slot : Slot (Venus D) D) (new : Site D) → SaysOpened ending reply → Opening ending → IsOpened (client_form told) ending slot
      → (is_made slot ≡ true → new ≡ with_clients_and_areas site slots (site.areas + area)) → (is_made slot ≡ false → new ≡ with_clients_and_areas site slots site.areas)
      → Becomes told out1 has1 (Happens cell (line.Client n blocks (Some area))) reply answered answered new
  makes_client ending reply answered slot new says takes is made unmade = record {
    outside = [];
    left = left;
    happens = unless_none cell (no_client cell n area) (MakesClient cell n header) reply [] left fits (ending, (opened ending takes).disk, (opened_so ending reply says).0, (opened ending takes).mounts, (opened_so ending reply says).1, refl, refl);
    answered = sym (append-nil answered);
    stands = by ending says takes is;
  }
    where
      left : Cell
      left = with_made (is_others (ending ∷ [])) cell n area (actor_now ending takes)

      by : (e : Mounting) → SaysOpened e reply → (t : Opening e) → IsOpened (client_form told) e slot → IsSite told out1 has1 (with_made (is_others (e ∷ [])) cell n area (actor_now e t)) new
      by (Entries count) said t o = subst (IsSite told out1 has1 (with_made false cell n area (actor_now (Entries count) t))) (sym (made (up_made (client_form told) slot o))) (made_site (Entries count) t)
      by DiskFault said t o = subst (IsSite told out1 has1 (with_made false cell n area (actor_now DiskFault t))) (sym (made o.0)) (made_site DiskFault t)
      by (Foreign at) said t o = subst (IsSite told out1 has1 cell) (sym (unmade o)) (foreign_site at t)
      by Memory said t o = absurd said
