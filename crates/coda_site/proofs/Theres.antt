-- Who is there and who is up, by the site and by the cell that it stands for.
use Rattle.std.proofs.Common.{◌≡◌, ◌≢◌, ℕ, ◌==◌, ◌<◌, Bool, true, false, cond, List, [], ◌∷◌, Option, Some, None, refl, sym, ap, ◌∙◌, arith}
use Rattle.std.proofs.lemmas.Bool.Decides.{nat_tests}
use Rattle.std.specs.Prelude.{not, is_some, ◌&&◌}
use Rattle.std.specs.Option.{option_map, option_map_or}
use Rattle.std.specs.List.{list_any}
use Rattle.coda_disk.specs.Told.{Told}
use Rattle.coda_journal.specs.declared.header.Header.{Header}
use Rattle.coda_actors.specs.Clients.{client_form}
use Rattle.coda_actors.specs.Replicas.{replica_form}
use Rattle.coda_actors.specs.Slots.{is_made, is_up}
use Rattle.coda_crew.specs.Crews.{slot_at}
use Rattle.coda_venus.specs.declared.venus.Venus.{Venus}
use Rattle.coda_cell.specs.Made.{client_of, replica_of}
use Rattle.coda_cell.specs.State.{ReplicaState, new_replica}
use Rattle.coda_cell.specs.Steps.{alone, Named, client_named, volume_named, server_named, holder_named, on_volume, on_holder, first_missing}
use Rattle.coda_cell.specs.Refused.{NoSuchActor}
use Rattle.coda_cell.proofs.Histories.{server_stays}
use Rattle.coda_shelves.specs.Shelves.{replica_journal}
use Rattle.coda_shelves.specs.Cells.{Cell, asked, is_up as is_life_up, Stand, stand_of, state_of}
use Rattle.coda_shelves.specs.Lines.{client_down, replica_down}
use Rattle.coda_site.specs.Shelves.{Shows}
use Rattle.coda_site.specs.Sites.{is_client_disk, is_replica_disk, place_in, as_journal, client_at, volume_at, server_at, holder_at}
use Rattle.coda_site.specs.declared.site.Site.{Site}
use Rattle.coda_site.specs.declared.site.Place.{Place}
use Rattle.coda_site.proofs.ClientSites.{plain_clients}
use Rattle.coda_site.proofs.ReplicaSites.{stands_at, of_replicas, fits_there, down_is}
use Rattle.coda_site.proofs.Slots.{made_so, up_so}

-- ---- one actor

some_mapped : {X Y : Type 0} (f : X → Y) (o : Option X) → is_some (option_map f o) ≡ is_some o
some_mapped f None = refl
some_mapped f (Some x) = refl

module _ {D : Type 0} (told : D → Told) (out : ℕ → Bool) (has : ℕ → Told) (cell : Cell) (site : Site D) (shows : Shows told out has cell site) where
  client_lawful : (n : ℕ) (header : Header) (venus : Venus D) → (client_form told).IsUp header venus (plain_clients cell n).disk.history → venus.down ≡ false
  client_lawful n header venus up = up.up

  -- ---- clients

  pub client_made : (n : ℕ) → is_client_disk n ≡ true → is_made (slot_at site.clients n) ≡ is_some (asked (cell.clients n).life)
  client_made n here = made_so (client_form told) told (out n) (has n) (plain_clients cell n) (slot_at site.clients n) (shows.stands.clients n here)

  pub client_up : (n : ℕ) → is_client_disk n ≡ true → is_up (client_form told) (slot_at site.clients n) ≡ is_life_up (cell.clients n).life
  client_up n here = up_so (client_form told) told (out n) (has n) (plain_clients cell n) (client_lawful n) (slot_at site.clients n) (shows.stands.clients n here)

  pub client_named_at : (n : ℕ) → is_client_disk n ≡ true → client_named (state_of cell) n ≡ client_at site n
  client_named_at n here = λ i. record { number = n; there = (some_mapped (λ (h : Header). client_of n (cell.clients n).disk.history h.cache) (asked (cell.clients n).life) ∙ sym (client_made n here)) i }

  -- a client that was made is down where its slot isn't up
  pub client_down_at : (n : ℕ) → is_client_disk n ≡ true → is_made (slot_at site.clients n) ≡ true → client_down cell n ≡ not (is_up (client_form told) (slot_at site.clients n))
  client_down_at n here made = ap (λ (b : Bool). b && not (is_life_up (cell.clients n).life)) (sym (client_made n here) ∙ made) ∙ ap not (sym (client_up n here))

  -- ---- volumes and servers

  pub volume_named_at : (volume : ℕ) → volume_named (state_of cell) volume ≡ volume_at site volume
  volume_named_at volume = λ i. record {
    number = volume;
    there = (some_mapped (λ (s : Stand). replica_of (λ server. (cell.replicas s.row server).disk.history) volume (alone s.servers)) (stand_of cell volume)
        ∙ sym (some_mapped (λ (s : Stand). alone s.servers) (stand_of cell volume)) ∙ ap is_some (shows.stands.homes volume) ∙ some_mapped (λ (p : Place). p.server) (place_in site volume)) i;
  }

  pub server_named_at : (server : ℕ) → server_named (state_of cell) server ≡ server_at site server
  server_named_at server = λ i. record { number = server; there = list_any (λ other. other == server) (shows.stands.servers i) }

  held_so : (server volume : ℕ) (o : Option Stand) (q : Option Place) → option_map (λ (s : Stand). alone s.servers) o ≡ option_map (λ (p : Place). p.server) q
      → option_map_or (λ (r : ReplicaState). r.server == server) (option_map (λ (s : Stand). replica_of (λ other. (cell.replicas s.row other).disk.history) volume (alone s.servers)) o) false ≡ option_map_or (λ (p : Place). p.server == server) q false
  held_so server volume None None e = refl
  held_so server volume None (Some p) e = cc
  held_so server volume (Some s) None e = cc
  held_so server volume (Some s) (Some p) e =
      let home : alone s.servers ≡ p.server = cc in
      ap (λ n. n == server) (server_stays (new_replica (alone s.servers) volume) (cell.replicas s.row (alone s.servers)).disk.history ∙ home)

  pub holder_named_at : (server volume : ℕ) → holder_named (state_of cell) server volume ≡ holder_at site server volume
  holder_named_at server volume = λ i. record { number = server; there = held_so server volume (stand_of cell volume) (place_in site volume) (shows.stands.homes volume) i }

  -- ---- replicas

  pub is_replica_at : (volume : ℕ) (p : Place) → place_in site volume ≡ Some p → is_replica_disk p.disk ≡ true
  is_replica_at volume p there = of_replicas told out has cell site shows.stands volume p (stands_at told out has cell site shows volume p there)

  pub replica_made : (volume : ℕ) (p : Place) → place_in site volume ≡ Some p → is_made (slot_at site.replicas p.disk) ≡ true
  replica_made volume p there =
      let at = stands_at told out has cell site shows volume p there in
      let made = shows.placed.made volume (record { row = at.row; servers = at.servers }) at.stands in
      let asks : asked (cell.replicas at.row p.server).life ≡ Some made.0 = ap (λ n. asked (cell.replicas at.row n).life) (sym at.home) ∙ made.1 in
      made_so (replica_form told) told (out p.disk) (has p.disk) (as_journal replica_journal (cell.replicas at.row p.server)) (slot_at site.replicas p.disk)
      (fits_there told out has cell site shows.stands volume p at) ∙ ap is_some asks

  -- the replica of a volume that was made is down where its slot isn't up
  pub replica_down_at : (server volume : ℕ) (p : Place) → place_in site volume ≡ Some p → p.server ≡ server → replica_down cell server volume ≡ not (is_up (replica_form told) (slot_at site.replicas p.disk))
  replica_down_at server volume p there home =
      ap (λ n. replica_down cell n volume) (sym home) ∙ down_is told out has cell site shows.stands volume p (stands_at told out has cell site shows volume p there)

-- a number of 8 bits is that of a client's disk
pub client_disk : (n : ℕ) → n < 256 → is_client_disk n ≡ true
client_disk n few = grind (arith, nat_tests, few)

-- ---- those that a line names in order

-- the first that a line names is there, and so are the others
pub there_first : (named : Named) (names : List Named) → first_missing (named ∷ names) ≡ None → (named.there ≡ true) × (first_missing names ≡ None)
there_first named names none = by named.there refl none
  where
    by : (b : Bool) → named.there ≡ b → cond b (first_missing names) (Some (NoSuchActor named.number)) ≡ None → (named.there ≡ true) × (first_missing names ≡ None)
    by true is e = (is, e)
    by false is e = cc

module _ {D : Type 0} (told : D → Told) (out : ℕ → Bool) (has : ℕ → Told) (cell : Cell) (site : Site D) (shows : Shows told out has cell site) where
  pub on_volume_at : (client volume : ℕ) → is_client_disk client ≡ true → on_volume (state_of cell) client volume ≡ client_at site client ∷ volume_at site volume ∷ []
  on_volume_at client volume here = λ i. client_named_at told out has cell site shows client here i ∷ volume_named_at told out has cell site shows volume i ∷ []

  pub on_holder_at : (client volume server : ℕ) → is_client_disk client ≡ true → on_holder (state_of cell) client volume server ≡ client_at site client ∷ volume_at site volume ∷ holder_at site server volume ∷ []
  on_holder_at client volume server here = λ i. client_named_at told out has cell site shows client here i ∷ volume_named_at told out has cell site shows volume i ∷ holder_named_at told out has cell site shows server volume i ∷ []

  pub ends_at : (client server : ℕ) → is_client_disk client ≡ true → client_named (state_of cell) client ∷ server_named (state_of cell) server ∷ [] ≡ client_at site client ∷ server_at site server ∷ []
  ends_at client server here = λ i. client_named_at told out has cell site shows client here i ∷ server_named_at told out has cell site shows server i ∷ []

  -- a client that is there is down where its slot isn't up
  pub client_down_by : (client number : ℕ) (names : List Named) (up : Bool) → is_client_disk client ≡ true → first_missing (client_at site client ∷ names) ≡ None → number ≡ client → up ≡ is_up (client_form told) (slot_at site.clients number) → client_down cell client ≡ not up
  client_down_by client number names up here there same tells =
      client_down_at told out has cell site shows client here (there_first (client_at site client) names there).0 ∙ ap not (sym (tells ∙ ap (λ (m : ℕ). is_up (client_form told) (slot_at site.clients m)) same))

  -- where a server holds a volume
  pub holder_at_place : (server volume : ℕ) (p : Place) → place_in site volume ≡ Some p → p.server ≡ server → first_missing (holder_named (state_of cell) server volume ∷ []) ≡ None
  holder_at_place server volume p there same =
      ap (λ (n : Named). first_missing (n ∷ [])) (holder_named_at told out has cell site shows server volume)
      ∙ ap (λ (o : Option Place). first_missing (record { number = server; there = option_map_or (λ (q : Place). q.server == server) o false } ∷ [])) there
      ∙ ap (λ (b : Bool). first_missing (record { number = server; there = b } ∷ [])) (let e : (p.server == server) ≡ true = grind (arith, nat_tests, same) in e)

  pub holder_missing : (server volume : ℕ) → (holder_at site server volume).there ≡ false → first_missing (holder_named (state_of cell) server volume ∷ []) ≡ Some (NoSuchActor server)
  holder_missing server volume none =
      ap (λ (n : Named). first_missing (n ∷ [])) (holder_named_at told out has cell site shows server volume) ∙ ap (λ (b : Bool). first_missing (record { number = server; there = b } ∷ [])) none

  -- a server does not hold a volume that was made elsewhere, or not at all
  pub made_elsewhere : (server volume : ℕ) (p : Place) → place_in site volume ≡ Some p → p.server ≢ server → first_missing (holder_named (state_of cell) server volume ∷ []) ≡ Some (NoSuchActor server)
  made_elsewhere server volume p there other =
      holder_missing server volume (ap (λ (o : Option Place). option_map_or (λ (q : Place). q.server == server) o false) there ∙ (let e : (p.server == server) ≡ false = grind (arith, nat_tests, other) in e))

  pub not_made : (server volume : ℕ) → place_in site volume ≡ None → first_missing (holder_named (state_of cell) server volume ∷ []) ≡ Some (NoSuchActor server)
  not_made server volume none = holder_missing server volume (ap (λ (o : Option Place). option_map_or (λ (q : Place). q.server == server) o false) none)
