-- The replica that is up in its slot, and what a site stands for once that replica went on.
use Rattle.std.proofs.Common.{◌≡◌, ◌≢◌, ℕ, ◌+◌, ◌*◌, ◌-◌, ◌≤◌, ◌==◌, ◌&&◌, Bool, true, false, cond, List, [], ◌∷◌, ◌++◌, append-nil, length, Option, Some, None, option_map, IfSome, refl, sym, ap, ◌∙◌, subst, inl, inr, arith}
use Rattle.std.specs.Prelude.{not}
use Rattle.std.specs.BTreeMap.{BTreeMap}
use Rattle.std.specs.Int.{w32}
use Rattle.std.specs.Option.{option_map_or}
use Rattle.std.proofs.lemmas.Bool.{eqb-true, eq-eqb, ne_eqb, le-leb, cases_eq, and_parts, false≢true}
use Rattle.std.proofs.lemmas.List.{append_assoc, map-append, length-append}
use Rattle.coda_disk.specs.Told.{Told}
use Rattle.coda_journal.specs.Entries.{blocks, body}
use Rattle.coda_journal.specs.declared.header.Header.{Header}
use Rattle.coda_actors.specs.Clients.{client_form}
use Rattle.coda_actors.specs.Form.{IsAsked}
use Rattle.coda_actors.specs.Plain.{PlainActor, PlainDisk, Up}
use Rattle.coda_actors.specs.Fits.{StandsFor as ActorStands, Echoes, FitsUp, FitsDown, FitsHeld, Fits}
use Rattle.coda_actors.specs.Replicas.{replica_form}
use Rattle.coda_actors.specs.Slots.{is_up}
use Rattle.coda_actors.specs.declared.slot.Slot.{Slot}
use Rattle.coda_actors.specs.declared.slot.Slot.TheVariants.{Started}
use Rattle.coda_crew.specs.Crews.{slot_at, KeepsOtherSlots, FitsAll, LeavesBe}
use Rattle.coda_crew.proofs.Lifts.{left_fits}
use Rattle.coda_plain.specs.Cell.{joined_to}
use Rattle.coda_plain.specs.Decisions.{ReplicaEntry, Decided, Resolved, AreDecisions}
use Rattle.coda_plain.specs.Histories.{In}
use Rattle.coda_plain.specs.Moves.{AtReplica}
use Rattle.coda_plain.proofs.Lists.{told_push}
use Rattle.coda_plain.proofs.Soundness.{none_joins}
use Rattle.coda_record.specs.declared.entry.ReplicaEntry.{ReplicaEntry as KeptEntry}
use Rattle.coda_replica.specs.History.{payload_of, payloads_of}
use Rattle.coda_replica.proofs.Reading.{blocks_append}
use Rattle.coda_replica.specs.Standing.{IsUp, StandsFor}
use Rattle.coda_replica.specs.declared.replica.Replica.{Replica}
use Rattle.coda_script.specs.Ranges.{IsServer}
use Rattle.coda_cell.specs.Made.{replica_of}
use Rattle.coda_cell.specs.Sending.{entries_at}
use Rattle.coda_cell.specs.State.{new_replica, replica_after_all}
use Rattle.coda_cell.specs.Steps.{alone}
use Rattle.coda_matching.specs.Replicas.{entry_at, journal_at, IsReplicaHistory, LacksRoom}
use Rattle.coda_shelves.specs.Shelves.{volume_of, replica_journal, disk_at}
use Rattle.coda_shelves.specs.Cells.{Row, Cell, asked, is_up as is_life_up, Stand, stand_from, stand_of, state_of, with_replica, with_volume, grown, fallen, failing, failed, after_all}
use Rattle.coda_shelves.specs.Lines.{replica_down, LacksFor, LacksAt, Lacks, Fits as FitsEvents}
use Rattle.coda_shelves.specs.Running.{IsKept}
use Rattle.coda_shelves.proofs.Rows.{stand_one}
use Rattle.coda_site.specs.Shelves.{Shows}
use Rattle.coda_site.specs.Sites.{is_client_disk, is_replica_disk, place_in, as_journal, IsSite}
use Rattle.coda_site.specs.declared.site.Site.{Site}
use Rattle.coda_site.specs.declared.site.Place.{Place}
use Rattle.coda_site.proofs.ClientSites.{longer, plain_clients}
use Rattle.coda_site.proofs.Slots.{started, up_so, reads_fit}

-- ---- where a volume stands

-- A volume that a site has at a place stands in a row, on the place's server, and the disk of that server in the row is the place's.
pub record StandsAt (rows : List Row) (volume : ℕ) (place : Place) : Type 0 where
  pub row : ℕ
  pub servers : List ℕ
  pub stands : stand_from 0 rows volume ≡ Some (record { row = row; servers = servers })
  pub home : alone servers ≡ place.server
  pub disk : disk_at row place.server ≡ place.disk
  pub range : IsServer place.server

module _ {D : Type 0} (told : D → Told) (out : ℕ → Bool) (has : ℕ → Told) (cell : Cell) (site : Site D) (shows : Shows told out has cell site) (volume : ℕ) (place : Place) (at : place_in site volume ≡ Some place) where
  pub stands_at : StandsAt cell.rows volume place
  stands_at = by (stand_of cell volume) refl
    where
      homes : option_map (λ (s : Stand). alone s.servers) (stand_of cell volume) ≡ Some place.server
      homes = shows.stands.homes volume ∙ ap (option_map (λ (p : Place). p.server)) at

      by : (o : Option Stand) → stand_of cell volume ≡ o → StandsAt cell.rows volume place
      by None e = (let no : None ≡ Some place.server = ap (option_map (λ (s : Stand). alone s.servers)) (sym e) ∙ homes in cc)
      by (Some s) e =
          let here : Some (alone s.servers) ≡ Some place.server = ap (option_map (λ (x : Stand). alone x.servers)) (sym e) ∙ homes in
          let home : alone s.servers ≡ place.server = cc in
          let disk : disk_at s.row (alone s.servers) ≡ place.disk = subst (λ (o : Option Place). IfSome o (λ p. disk_at s.row (alone s.servers) ≡ p.disk)) at (shows.stands.places volume s e) in
          let made = shows.placed.made volume s e in
          let own = (shows.kept.replicas_ask s.row (alone s.servers) made.0 made.1).0 in
          record { row = s.row; servers = s.servers; stands = e; home = home; disk = ap (disk_at s.row) (sym home) ∙ disk; range = subst IsServer home (own.4, own.5) }

-- two places have two disks
pub places_apart : (row server line other : ℕ) → 1 ≤ server → server ≤ 8 → 1 ≤ other → other ≤ 8 → disk_at row server ≡ disk_at line other → (row ≡ line) × (server ≡ other)
places_apart row server line other a b c d e = (omega (arith, a, b, c, d, e), omega (arith, a, b, c, d, e))

-- ---- a replica that is up

-- The replica of a volume on this server is up under a header, with the history that a cell has of it: its disk has the header that it asks for,
-- and no append failed.
pub record IsReplicaUp {D : Type 0} (told : D → Told) (volume server : ℕ) (actor : PlainActor ReplicaEntry) (header : Header) (replica : Replica D) : Type 0 where
  pub number : header.number ≡ volume
  pub home : header.server ≡ server
  pub life : actor.life ≡ Up header
  pub given : actor.disk.header ≡ Some header
  pub left : actor.left ≡ None
  pub failed : actor.disk.failed ≡ None
  pub owner : IsAsked (replica_form told) header
  pub stands : IsUp told header replica (journal_at header.number actor.disk.history)
  pub lawful : IsReplicaHistory header actor.disk.history

-- the entry whose append failed, as the journal keeps it
failed_as : (disk : PlainDisk ReplicaEntry) (entry : ReplicaEntry) (kept : KeptEntry) → entry_at (volume_of disk.header) disk.history entry ≡ kept ∷ [] → disk.failed ≡ Some entry → (replica_journal disk).failed ≡ Some kept
failed_as disk (Decided client number span) kept is failed =
    let given : (replica_journal disk).failed ≡ (replica_journal (record disk { failed = Some (Decided client number span) })).failed = ap (λ (o : Option ReplicaEntry). (replica_journal (record disk { failed = o })).failed) failed in
    given ∙ cc
failed_as disk (Resolved nodes lasts) kept is failed = cc

module _ {D : Type 0} (told : D → Told) (volume server : ℕ) (actor : PlainActor ReplicaEntry) (header : Header) where
  -- a slot that has it stands for it
  pub up_fits : (replica : Replica D) → IsReplicaUp told volume server actor header replica → FitsUp (replica_form told) header replica (as_journal replica_journal actor)
  up_fits replica is = record {
    life = is.life;
    asked = is.owner;
    given = is.given;
    failed = ap (λ (o : Option ReplicaEntry). (replica_journal (record actor.disk { failed = o })).failed) is.failed;
    left = is.left;
    up = subst (λ (n : ℕ). IsUp told header replica (journal_at n actor.disk.history)) (sym (ap volume_of is.given)) is.stands;
  }

  -- it has entries more
  pub grown_up : (old new : Replica D) (entries : List ReplicaEntry) → IsReplicaUp told volume server actor header old → IsUp told header new (journal_at header.number (actor.disk.history ++ entries))
      → IsReplicaHistory header (actor.disk.history ++ entries) → IsReplicaUp told volume server (longer entries actor) header new
  grown_up old new entries is stands lawful = record {
    number = is.number;
    home = is.home;
    life = is.life;
    given = is.given;
    left = is.left;
    failed = is.failed;
    owner = is.owner;
    stands = stands;
    lawful = lawful;
  }

  -- it has the entries that it had
  pub same_up : (old new : Replica D) → IsReplicaUp told volume server actor header old → IsUp told header new (journal_at header.number actor.disk.history) → IsReplicaUp told volume server actor header new
  same_up old new is stands = record {
    number = is.number;
    home = is.home;
    life = is.life;
    given = is.given;
    left = is.left;
    failed = is.failed;
    owner = is.owner;
    stands = stands;
    lawful = is.lawful;
  }

  -- the append of an entry failed
  pub failed_fits : (old new : Replica D) (entry : ReplicaEntry) (kept : KeptEntry) → IsReplicaUp told volume server actor header old → entry_at header.number actor.disk.history entry ≡ kept ∷ []
      → StandsFor (told new.journal.disk) header (journal_at header.number actor.disk.history) (Some kept) → FitsDown (replica_form told) (told new.journal.disk) header (as_journal replica_journal (failing entry actor))
  failed_fits old new entry kept is kept_so stands = record {
    life = ap fallen is.life;
    asked = is.owner;
    echoes = subst (Echoes (replica_form told) header (told new.journal.disk)) (sym is.left) tt;
    stands = subst (ActorStands (replica_form told) (told new.journal.disk)) disk_is (record {
      honest = stands.images.honest;
      lawful = (is.owner, stands.lawful, stands.next);
      each = stands.images.each;
    });
  }
    where
      named : volume_of actor.disk.header ≡ header.number
      named = ap volume_of is.given

      here : Some kept ≡ (replica_journal (failing entry actor).disk).failed
      here = sym (failed_as (failing entry actor).disk entry kept (ap (λ (n : ℕ). entry_at n actor.disk.history entry) named ∙ kept_so) refl)

      disk_is : (let disk : PlainDisk KeptEntry = record { header = Some header; history = journal_at header.number actor.disk.history; failed = Some kept } in disk) ≡ replica_journal (failing entry actor).disk
      disk_is = λ i. record { header = sym is.given i; history = journal_at (sym named i) actor.disk.history; failed = here i }

-- ---- the replica of a volume that was made

module _ {D : Type 0} (told : D → Told) (out : ℕ → Bool) (has : ℕ → Told) (cell : Cell) (site : Site D) (is : IsSite told out has cell site) (volume : ℕ) (place : Place) (at : StandsAt cell.rows volume place) where
  -- what the cell has of it
  abbrev pub actor_there : PlainActor ReplicaEntry
  actor_there = cell.replicas at.row place.server

  -- what its history leaves
  pub replica_is : (state_of cell).replicas volume ≡ Some (replica_after_all (new_replica place.server volume) actor_there.disk.history)
  replica_is =
      ap (option_map (λ (s : Stand). replica_of (λ server. (cell.replicas s.row server).disk.history) volume (alone s.servers))) at.stands
      ∙ ap (λ (server : ℕ). Some (replica_of (λ other. (cell.replicas at.row other).disk.history) volume server)) at.home

  pub down_by : replica_down cell place.server volume ≡ not (is_life_up actor_there.life)
  down_by = ap (λ (o : Option Stand). option_map_or (λ (s : Stand). not (is_life_up (cell.replicas s.row place.server).life)) o false) at.stands

  -- The slot of a volume has the replica, which is up.
  pub record IsReplicaThere (header : Header) (replica : Replica D) : Type 0 where
    pub slot : slot_at site.replicas place.disk ≡ Started header replica
    pub lent : out place.disk ≡ true
    pub up : IsReplicaUp told volume place.server actor_there header replica

  pub of_replicas : is_replica_disk place.disk ≡ true
  of_replicas = le-leb 256 place.disk (let n = at.row in let s = place.server in let e : 256 + 8 * n + (s - 1) ≡ place.disk = at.disk in omega (arith, e))

  -- its slot and its disk stand for it
  pub fits_there : Fits (replica_form told) told (out place.disk) (has place.disk) (slot_at site.replicas place.disk) (as_journal replica_journal actor_there)
  fits_there = let r = is.replicas in
      subst (Fits (replica_form told) told (out place.disk) (has place.disk) (slot_at site.replicas place.disk)) (ap r.0 (sym at.disk) ∙ r.1 at.row place.server at.range) (r.2 place.disk of_replicas)

  runs : (header : Header) (replica : Replica D) → (replica_form told).IsUp header replica (as_journal replica_journal actor_there).disk.history → replica.down ≡ false
  runs header replica up = up.up

  -- the cell has it up where its slot says so, and no else
  pub up_is : is_up (replica_form told) (slot_at site.replicas place.disk) ≡ is_life_up actor_there.life
  up_is = up_so (replica_form told) told (out place.disk) (has place.disk) (as_journal replica_journal actor_there) runs (slot_at site.replicas place.disk) fits_there

  pub down_is : replica_down cell place.server volume ≡ not (is_up (replica_form told) (slot_at site.replicas place.disk))
  down_is = down_by ∙ ap not (sym up_is)

  module _ (kept : IsKept cell) where
    -- the header that it asks for
    pub header_is : (header : Header) → asked actor_there.life ≡ Some header → (header.number ≡ volume) × (header.server ≡ place.server)
    header_is header asks =
        let own = kept.replicas_ask at.row place.server header asks in (
          stand_one 0 cell.rows header.number volume (record { row = at.row; servers = own.1.0 }) (record { row = at.row; servers = at.servers }) own.1.1 at.stands refl,
          ap (λ (h : Header). h.server) own.0.8,
        )

    -- it is up where its slot says so
    pub there : is_up (replica_form told) (slot_at site.replicas place.disk) ≡ true → (header : Header) × (replica : Replica D) × IsReplicaThere header replica
    there up =
        let s = started (replica_form told) told (out place.disk) (has place.disk) (slot_at site.replicas place.disk) (as_journal replica_journal actor_there) fits_there up in
        let own = header_is s.header (ap asked s.fits.life) in
        let rest = kept.replicas_rest at.row place.server s.header s.fits.life in
        let named : volume_of actor_there.disk.header ≡ s.header.number = ap volume_of rest.1 in
        let stands : IsUp told s.header s.actor (journal_at s.header.number actor_there.disk.history) = subst (λ (n : ℕ). IsUp told s.header s.actor (journal_at n actor_there.disk.history)) named s.fits.up in
        let ruled : AreDecisions (volume_of actor_there.disk.header) actor_there.disk.history = ((kept.shelves.agree none_joins).fits at.row place.server).ruled in (
          s.header,
          s.actor,
          record {
            slot = s.is;
            lent = s.lent;
            up = record {
              number = own.0;
              home = own.1;
              life = s.fits.life;
              given = rest.1;
              left = rest.2;
              failed = rest.0;
              owner = s.fits.asked;
              stands = stands;
              lawful = record {
                journal = stands.lawful;
                decisions = subst (λ (n : ℕ). AreDecisions n actor_there.disk.history) named ruled;
                alone = λ entry i. kept.shelves.alone at.row place.server entry (subst (λ (o : Option ReplicaEntry). In entry (joined_to actor_there.disk.history true o)) (sym rest.0) i);
              };
            };
          },
        )

-- ---- the cell that entries of a replica leave

-- the replica with these entries more
abbrev pub with_decided : Cell → ℕ → ℕ → List ReplicaEntry → Cell
with_decided cell row server entries = with_replica cell row server (longer entries (cell.replicas row server))

module _ (cell : Cell) (row server : ℕ) where
  pub replica_here : (actor : PlainActor ReplicaEntry) → (with_replica cell row server actor).replicas row server ≡ actor
  replica_here actor = λ i. cond (eq-eqb row row refl i && eq-eqb server server refl i) actor (cell.replicas row server)

  pub replica_same : (actor : PlainActor ReplicaEntry) → actor ≡ cell.replicas row server → with_replica cell row server actor ≡ cell
  replica_same actor same = λ i. record cell { replicas = λ r s. at r s i }
    where
      at : (r s : ℕ) → cond ((r == row) && (s == server)) actor (cell.replicas r s) ≡ cell.replicas r s
      at r s = elim ((r == row) && (s == server)) as (λ (b : Bool). ((r == row) && (s == server)) ≡ b → cond b actor (cell.replicas r s) ≡ cell.replicas r s) [
        | true ↦ λ e. let both = and_parts (r == row) (s == server) e in same ∙ (λ i. cell.replicas (sym (eqb-true r row both.0) i) (sym (eqb-true s server both.1) i))
        | false ↦ λ e. refl
      ] refl

  replica_twice : (a b : PlainActor ReplicaEntry) → with_replica (with_replica cell row server a) row server b ≡ with_replica cell row server b
  replica_twice a b = λ i. record cell { replicas = λ r s. at r s i }
    where
      at : (r s : ℕ) → cond ((r == row) && (s == server)) b (cond ((r == row) && (s == server)) a (cell.replicas r s)) ≡ cond ((r == row) && (s == server)) b (cell.replicas r s)
      at r s = elim ((r == row) && (s == server)) as (λ (x : Bool). cond x b (cond x a (cell.replicas r s)) ≡ cond x b (cell.replicas r s)) [ true ↦ refl | false ↦ refl ]

-- the cell behind entries of one replica has them in its history
pub decided_left : (cell : Cell) (volume : ℕ) (place : Place) (at : StandsAt cell.rows volume place) (entries : List ReplicaEntry) → after_all cell (entries_at place.server volume entries) ≡ with_decided cell at.row place.server entries
decided_left cell volume place at [] = sym (replica_same cell at.row place.server (longer [] (cell.replicas at.row place.server))
    (ap (λ (h : List ReplicaEntry). record (cell.replicas at.row place.server) { disk = record (cell.replicas at.row place.server).disk { history = h } }) (append-nil (cell.replicas at.row place.server).disk.history)))
decided_left cell volume place at (entry ∷ entries) =
    let actor = cell.replicas at.row place.server in
    let one : PlainActor ReplicaEntry = longer (entry ∷ []) actor in
    ap (λ (o : Option Stand). after_all (with_volume cell o place.server (grown entry)) (entries_at place.server volume entries)) at.stands
    ∙ decided_left (with_replica cell at.row place.server one) volume place at entries
    ∙ ap (λ (a : PlainActor ReplicaEntry). with_replica (with_replica cell at.row place.server one) at.row place.server (longer entries a)) (replica_here cell at.row place.server one)
    ∙ replica_twice cell at.row place.server one (longer entries one)
    ∙ ap (λ (h : List ReplicaEntry). with_replica cell at.row place.server (record actor { disk = record actor.disk { history = h } })) (append_assoc actor.disk.history (entry ∷ []) entries)

-- ---- room

module _ {D : Type 0} (told : D → Told) (header : Header) (history : List ReplicaEntry) (entry : ReplicaEntry) (kept : KeptEntry) (kept_so : entry_at header.number history entry ≡ kept ∷ []) where
  -- an entry that is there had room
  pub had_room : (replica : Replica D) → IsUp told header replica (journal_at header.number (history ++ entry ∷ [])) → ¬ LacksRoom header history kept
  had_room replica up lacks =
      let before = payloads_of (journal_at header.number history) in
      let all : payloads_of (journal_at header.number (history ++ entry ∷ [])) ≡ before ++ payload_of kept ∷ [] =
      ap payloads_of (told_push (entry_at header.number) history entry ∙ ap (λ (l : List KeptEntry). journal_at header.number history ++ l) kept_so) ∙ map-append payload_of (journal_at header.number history) (kept ∷ []) in
      let fit = reads_fit header (told replica.journal.disk).seen (payloads_of (journal_at header.number (history ++ entry ∷ []))) up.journal.reads in
      let whole : length (blocks w32 (payloads_of (journal_at header.number (history ++ entry ∷ [])))) ≡ length (blocks w32 (before ++ payload_of kept ∷ [])) = ap (λ (p : List (List ℕ)). length (blocks w32 p)) all in
      let a = blocks_append before (payload_of kept ∷ []) in
      let b = length-append (body w32 (payload_of kept)) [] in
      let c = length-append (body w32 (payload_of kept)) (0 ∷ []) in
      omega (arith, fit, lacks, whole, a, b, c)

module _ (cell : Cell) (volume : ℕ) (place : Place) (at : StandsAt cell.rows volume place) (header : Header) (number : header.number ≡ volume) (life : (cell.replicas at.row place.server).life ≡ Up header) where
  abbrev history_of : List ReplicaEntry
  history_of = (cell.replicas at.row place.server).disk.history

  -- what it lacks in a cell, it lacks in its journal, and the other way round
  lacks_is : (entry : ReplicaEntry) (kept : KeptEntry) → entry_at header.number history_of entry ≡ kept ∷ [] → Lacks cell (AtReplica place.server volume entry) ≡ LacksRoom header history_of kept
  lacks_is entry kept kept_so =
      ap (λ (o : Option Stand). IfSome o (λ (s : Stand). LacksAt volume (cell.replicas s.row place.server) entry)) at.stands
      ∙ (λ i. LacksFor (asked (life i)) (cell.replicas at.row place.server).disk ((ap (λ (n : ℕ). entry_at n history_of entry) (sym number) ∙ kept_so) i))

  pub lacks_there : (entry : ReplicaEntry) (kept : KeptEntry) → entry_at header.number history_of entry ≡ kept ∷ [] → LacksRoom header history_of kept → Lacks cell (AtReplica place.server volume entry)
  lacks_there entry kept kept_so lacks = subst (λ (T : Type 0). T) (sym (lacks_is entry kept kept_so)) lacks

  pub fits_one : {D : Type 0} (told : D → Told) (replica : Replica D) (entry : ReplicaEntry) (kept : KeptEntry) → entry_at header.number history_of entry ≡ kept ∷ []
      → IsUp told header replica (journal_at header.number (history_of ++ entry ∷ [])) → FitsEvents cell (entries_at place.server volume (entry ∷ []))
  fits_one told replica entry kept kept_so up = ((λ lacks. had_room told header history_of entry kept kept_so replica up (subst (λ (T : Type 0). T) (lacks_is entry kept kept_so) lacks)), tt)

-- ---- the site behind the entries of a replica

-- a site with other replicas
abbrev pub with_replicas : {D : Type 0} → Site D → BTreeMap ℕ (Slot (Replica D) D) → Site D
with_replicas site slots = record site { replicas = slots }

-- A bay that left the disks of clients be, and other replicas: that of one place is another one, and each else is as it was.
pub replica_site : {D : Type 0} (told : D → Told) (out out1 : ℕ → Bool) (has has1 : ℕ → Told) (cell : Cell) (site : Site D) (is : IsSite told out has cell site) (row server : ℕ) (actor : PlainActor ReplicaEntry)
    (slots : BTreeMap ℕ (Slot (Replica D) D)) (new : ℕ → PlainActor KeptEntry) → IsServer server → LeavesBe is_client_disk out out1 has has1 → FitsAll (replica_form told) told is_replica_disk out1 has1 slots new
    → new (disk_at row server) ≡ as_journal replica_journal actor → ((k : ℕ) → k ≢ disk_at row server → new k ≡ is.replicas.0 k) → IsSite told out1 has1 (with_replica cell row server actor) (with_replicas site slots)
replica_site told out out1 has has1 cell site is row server actor slots new range left fits here else = record {
  clock = is.clock;
  servers = is.servers;
  homes = is.homes;
  places = is.places;
  areas = is.areas;
  clients = left_fits (client_form told) told is_client_disk out out1 has has1 site.clients (plain_clients cell) left is.clients;
  replicas = (new, placed, fits);
  net = is.net;
}
  where
    placed : (r s : ℕ) → IsServer s → new (disk_at r s) ≡ as_journal replica_journal ((with_replica cell row server actor).replicas r s)
    placed r s own = elim ((r == row) && (s == server)) as (λ (b : Bool). ((r == row) && (s == server)) ≡ b → new (disk_at r s) ≡ as_journal replica_journal (cond b actor (cell.replicas r s))) [
      | true ↦ λ e. let both = and_parts (r == row) (s == server) e in (λ i. new (disk_at (eqb-true r row both.0 i) (eqb-true s server both.1 i))) ∙ here
      | false ↦ λ e. else (disk_at r s) (λ same.
          let one = places_apart r s row server own.0 own.1 range.0 range.1 same in
          false≢true (sym e ∙ (λ i. eq-eqb r row one.0 i && eq-eqb s server one.1 i))) ∙ is.replicas.1 r s own
    ] refl

module _ {D : Type 0} (told : D → Told) (out : ℕ → Bool) (has : ℕ → Told) (cell : Cell) (site : Site D) (is : IsSite told out has cell site) (volume : ℕ) (place : Place) (at : StandsAt cell.rows volume place)
    (slots : BTreeMap ℕ (Slot (Replica D) D)) (kept_slots : KeepsOtherSlots place.disk site.replicas slots) where
  -- the site with another replica of this volume
  module _ (actor : PlainActor ReplicaEntry) (fits : Fits (replica_form told) told (out place.disk) (has place.disk) (slot_at slots place.disk) (as_journal replica_journal actor)) where
    abbrev plain : ℕ → PlainActor KeptEntry
    plain number = cond (number == place.disk) (as_journal replica_journal actor) (is.replicas.0 number)

    plain_here : plain place.disk ≡ as_journal replica_journal actor
    plain_here = ap (λ (b : Bool). cond b (as_journal replica_journal actor) (is.replicas.0 place.disk)) (eq-eqb place.disk place.disk refl)

    plain_else : (number : ℕ) → number ≢ place.disk → plain number ≡ is.replicas.0 number
    plain_else number other = ap (λ (b : Bool). cond b (as_journal replica_journal actor) (is.replicas.0 number)) (ne_eqb number place.disk other)

    fits_at : (k : ℕ) → is_replica_disk k ≡ true → Fits (replica_form told) told (out k) (has k) (slot_at slots k) (plain k)
    fits_at k of = elim (cases_eq k place.disk) [
      | inl same ↦ subst (λ (m : ℕ). Fits (replica_form told) told (out m) (has m) (slot_at slots m) (plain m)) (sym same)
          (subst (Fits (replica_form told) told (out place.disk) (has place.disk) (slot_at slots place.disk)) (sym plain_here) fits)
      | inr other ↦ subst (Fits (replica_form told) told (out k) (has k) (slot_at slots k)) (sym (plain_else k other))
          (subst (λ (s : Slot (Replica D) D). Fits (replica_form told) told (out k) (has k) s (is.replicas.0 k)) (sym (kept_slots k other)) (is.replicas.2 k of))
    ]

    pub ruler_site : IsSite told out has (with_replica cell at.row place.server actor) (with_replicas site slots)
    ruler_site = replica_site told out out has has cell site is at.row place.server actor slots plain at.range (λ k of. (refl, λ honest. (honest, λ image may. may))) fits_at
        (ap plain at.disk ∙ plain_here) (λ k off. plain_else k (λ same. off (same ∙ sym at.disk)))

  module _ (header : Header) (old new : Replica D) (lent : out place.disk ≡ true) (up : IsReplicaUp told volume place.server (cell.replicas at.row place.server) header old) (put : slot_at slots place.disk ≡ Started header new) where
    held : (actor : PlainActor ReplicaEntry) → FitsHeld (replica_form told) told (Started header new) (as_journal replica_journal actor) → Fits (replica_form told) told (out place.disk) (has place.disk) (slot_at slots place.disk) (as_journal replica_journal actor)
    held actor fits = subst (λ (s : Slot (Replica D) D). Fits (replica_form told) told (out place.disk) (has place.disk) s (as_journal replica_journal actor)) (sym put) (lent, fits)

    -- its entries were added
    pub ruled_site : (entries : List ReplicaEntry) → IsUp told header new (journal_at header.number ((cell.replicas at.row place.server).disk.history ++ entries)) → IsReplicaHistory header ((cell.replicas at.row place.server).disk.history ++ entries)
        → IsSite told out has (after_all cell (entries_at place.server volume entries)) (with_replicas site slots)
    ruled_site entries stands lawful =
        let actor = longer entries (cell.replicas at.row place.server) in
        subst (λ (c : Cell). IsSite told out has c (with_replicas site slots)) (sym (decided_left cell volume place at entries))
        (ruler_site actor (held actor (inl (up_fits told volume place.server actor header new
        (grown_up told volume place.server (cell.replicas at.row place.server) header old new entries up stands lawful)))))

    -- nothing was added
    pub still_site : IsUp told header new (journal_at header.number (cell.replicas at.row place.server).disk.history) → IsSite told out has cell (with_replicas site slots)
    still_site stands =
        let actor = cell.replicas at.row place.server in
        subst (λ (c : Cell). IsSite told out has c (with_replicas site slots)) (replica_same cell at.row place.server actor refl)
        (ruler_site actor (held actor (inl (up_fits told volume place.server actor header new (same_up told volume place.server actor header old new up stands)))))

    -- a fault stopped what was to be added
    pub stopped_site : (entry : ReplicaEntry) (kept : KeptEntry) → entry_at header.number (cell.replicas at.row place.server).disk.history entry ≡ kept ∷ [] → new.down ≡ true
        → StandsFor (told new.journal.disk) header (journal_at header.number (cell.replicas at.row place.server).disk.history) (Some kept) → IsSite told out has (failed cell (AtReplica place.server volume entry)) (with_replicas site slots)
    stopped_site entry kept kept_so down stands =
        let actor = cell.replicas at.row place.server in
        subst (λ (o : Option Stand). IsSite told out has (with_volume cell o place.server (failing entry)) (with_replicas site slots)) (sym at.stands)
        (ruler_site (failing entry actor) (held (failing entry actor) (inr (down, failed_fits told volume place.server actor header old new entry kept up kept_so stands))))
