-- What is shown of a site is what the cell has that it stands for.
use Rattle.std.proofs.Common.{◌≡◌, ◌≢◌, ℕ, ◌==◌, Bor, Bool, true, false, cond, Option, Some, None, sym, ap, ◌∙◌, subst}
use Rattle.std.specs.Prelude.{not, is_some, ◌&&◌, MatchOption}
use Rattle.std.proofs.lemmas.Bool.{false≢true, eq-eqb, ne_eqb}
use Rattle.coda_disk.specs.Told.{Told}
use Rattle.coda_actors.specs.Replicas.{replica_form}
use Rattle.coda_cml.specs.State.{LogState}
use Rattle.coda_journal.specs.declared.header.Header.{Header}
use Rattle.coda_matching.specs.Clients.{journal_by}
use Rattle.coda_matching.proofs.Histories.{journals_leave_clients}
use Rattle.coda_venus.specs.Code.{IsClient}
use Rattle.coda_venus.specs.History.{state_of as venus_state}
use Rattle.coda_venus.specs.State.{ClientVolume as VenusVolume, ClientState as VenusState, new_volume as venus_new_volume}
use Rattle.coda_venus.specs.declared.venus.Venus.{Venus}
use Rattle.coda_actors.specs.Slots.{is_up}
use Rattle.coda_actors.specs.declared.slot.Slot.TheVariants.{Started}
use Rattle.coda_crew.specs.Crews.{slot_at}
use Rattle.coda_matching.proofs.Replicas.{journals_leave_replicas}
use Rattle.coda_replica.specs.declared.replica.Replica.{Replica}
use Rattle.coda_cell.specs.Cells.{volume_at}
use Rattle.coda_cell.specs.State.{replica_state}
use Rattle.coda_cell.specs.Made.{client_of}
use Rattle.coda_cell.specs.State.{ClientVolume, ClientState, ReplicaState, log_of, new_volume, replica_after_all, new_replica}
use Rattle.coda_cell.proofs.Histories.{server_stays}
use Rattle.coda_shelves.specs.Cells.{Cell, asked, is_up as is_life_up, state_of}
use Rattle.coda_shelves.specs.Lines.{client_down, replica_down}
use Rattle.coda_site.specs.Shelves.{Shows}
use Rattle.coda_site.specs.Sites.{is_client_disk, place_in}
use Rattle.coda_site.specs.declared.site.Site.{Site}
use Rattle.coda_site.specs.declared.site.Place.{Place}
use Rattle.coda_site.proofs.ClientSites.{up_from}
use Rattle.coda_site.proofs.ReplicaSites.{StandsAt, stands_at, replica_is, there}
use Rattle.coda_site.proofs.Theres.{replica_down_at}

module _ {D : Type 0} (told : D → Told) (out : ℕ → Bool) (has : ℕ → Told) (cell : Cell) (site : Site D) (shows : Shows told out has cell site) (volume : ℕ) where
  module _ (place : Place) (at : place_in site volume ≡ Some place) where
    stands : StandsAt cell.rows volume place
    stands = stands_at told out has cell site shows volume place at

    abbrev left : ReplicaState
    left = replica_after_all (new_replica place.server volume) (cell.replicas stands.row place.server).disk.history

    server_left : left.server ≡ place.server
    server_left = server_stays (new_replica place.server volume) (cell.replicas stands.row place.server).disk.history

    -- another server has it
    pub elsewhere_shown : (server : ℕ) → place.server ≢ server → volume_at ((state_of cell).replicas volume) server ≡ None
    elsewhere_shown server other =
        ap (λ (o : Option ReplicaState). volume_at o server) (replica_is told out has cell site shows.stands volume place stands)
        ∙ ap (λ s. cond (s == server) (Some left.tree) None) server_left ∙ ap (λ b. cond b (Some left.tree) None) (ne_eqb place.server server other)

    -- its replica is up in its slot
    pub up_shown : (server : ℕ) (header : _) (replica : Replica D) → place.server ≡ server → slot_at site.replicas place.disk ≡ Started header replica → replica.down ≡ false
        → volume_at ((state_of cell).replicas volume) server ≡ Some replica.decider.tree
    up_shown server header replica same slot runs =
        let up : is_up (replica_form told) (slot_at site.replicas place.disk) ≡ true = ap (is_up (replica_form told)) slot ∙ ap not runs in
        let t = there told out has cell site shows.stands volume place stands shows.kept up in
        let first : Started t.0 t.1 ≡ Started header replica = sym t.2.slot ∙ slot in
        let one : t.1 ≡ replica = cc in
        let law = journals_leave_replicas t.0 (cell.replicas stands.row place.server).disk.history t.2.up.lawful in
        let state = ap replica_state t.2.up.stands.state ∙ law ∙ (λ i. replica_after_all (new_replica (t.2.up.home i) (t.2.up.number i)) (cell.replicas stands.row place.server).disk.history) in
        ap (λ (o : Option ReplicaState). volume_at o server) (replica_is told out has cell site shows.stands volume place stands)
        ∙ ap (λ b. cond b (Some left.tree) None) (eq-eqb left.server server (server_left ∙ same))
        ∙ ap (λ (r : ReplicaState). Some r.tree) (sym state) ∙ ap (λ (r : Replica D). Some r.decider.tree) one

    -- a replica that isn't up in its slot is down
    pub not_shown : (server : ℕ) → place.server ≡ server → replica_down cell server volume ≡ false → is_up (replica_form told) (slot_at site.replicas place.disk) ≡ false → ⊥
    not_shown server home runs off = false≢true (sym runs ∙ replica_down_at told out has cell site shows server volume place at home ∙ ap not off)

    -- one that is up in its slot isn't
    pub replica_runs : (server : ℕ) (header : Header) (replica : Replica D) → place.server ≡ server → slot_at site.replicas place.disk ≡ Started header replica → replica.down ≡ false → replica_down cell server volume ≡ false
    replica_runs server header replica home slot runs = replica_down_at told out has cell site shows server volume place at home ∙ ap not (ap (is_up (replica_form told)) slot ∙ ap not runs)

-- ---- logs

-- what a client's disk has of a volume, where it has anything, is what the cell has
log_so : (r : Option (Bor LogState)) (v : ClientVolume) (w : VenusVolume) → w.log ≡ log_of v → MatchOption r (w ≡ venus_new_volume) (λ log. log.now ≡ w.log) → MatchOption r (log_of v ≡ log_of new_volume) (λ log. log.now ≡ log_of v)
log_so None v w same is = sym same ∙ ap (λ (x : VenusVolume). x.log) is
log_so (Some log) v w same is = is ∙ same

some_client : (a b : ClientState) → Some a ≡ Some b → a ≡ b
some_client a b e = cc

pub log_shown : {D : Type 0} (told : D → Told) (out : ℕ → Bool) (has : ℕ → Told) (cell : Cell) (site : Site D) → Shows told out has cell site
    → (client volume : ℕ) (header : Header) (venus : Venus D) (c : ClientState) (r : Option (Bor LogState)) → is_client_disk client ≡ true → slot_at site.clients client ≡ Started header venus → venus.down ≡ false
    → (state_of cell).clients client ≡ Some c → ((d : VenusState) → IsClient d venus.client → MatchOption r (d.volumes volume ≡ venus_new_volume) (λ log. log.now ≡ (d.volumes volume).log))
    → MatchOption r (log_of (c.volumes volume) ≡ log_of new_volume) (λ log. log.now ≡ log_of (c.volumes volume))
log_shown told out has cell site shows client volume header venus c r here slot runs there told_so =
    let up = up_from told out has cell shows.kept site.clients client header venus shows.stands.clients here slot runs in
    let history = (cell.clients client).disk.history in
    let d = venus_state header (journal_by history) in
    let v = (client_of header.number history header.cache).volumes volume in
    let one = journals_leave_clients header history up.lawful in
    let same = some_client (client_of header.number history header.cache) c (sym up.shown ∙ there) in
    subst (λ (x : ClientState). MatchOption r (log_of (x.volumes volume) ≡ log_of new_volume) (λ log. log.now ≡ log_of (x.volumes volume))) same
    (log_so r v (d.volumes volume) (one.volumes volume).log (told_so d up.up.state))

-- a client that is up in its slot isn't down
pub client_runs : {D : Type 0} (told : D → Told) (out : ℕ → Bool) (has : ℕ → Told) (cell : Cell) (site : Site D) → Shows told out has cell site
    → (client : ℕ) (header : Header) (venus : Venus D) → is_client_disk client ≡ true → slot_at site.clients client ≡ Started header venus → venus.down ≡ false → client_down cell client ≡ false
client_runs told out has cell site shows client header venus here slot runs =
    let up = up_from told out has cell shows.kept site.clients client header venus shows.stands.clients here slot runs in
    λ i. is_some (asked (up.life i)) && not (is_life_up (up.life i))
