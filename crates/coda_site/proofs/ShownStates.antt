-- In which state a client is on a volume, by the site and by the cell that it stands for.
use Rattle.std.proofs.Common.{◌≡◌, ℕ, Bor, Bool, true, false, cond, [], Option, Some, None, refl, sym, ap, ◌∙◌}
use Rattle.std.specs.Prelude.{not, MatchOption}
use Rattle.coda_cml.specs.State.{LogState}
use Rattle.coda_disk.specs.Told.{Told}
use Rattle.coda_actors.specs.Clients.{client_form}
use Rattle.coda_actors.specs.Replicas.{replica_form}
use Rattle.coda_actors.specs.Slots.{is_up}
use Rattle.coda_crew.specs.Crews.{slot_at}
use Rattle.coda_state.specs.States.{next_state, settled_state}
use Rattle.coda_state.specs.declared.state.Link.{Link}
use Rattle.coda_state.specs.declared.state.Link.TheVariants as link
use Rattle.coda_state.specs.declared.state.State.TheVariants as state
use Rattle.coda_script.specs.declared.line.Line.TheVariants as line
use Rattle.coda_script.specs.declared.line.Strength.{Strength}
use Rattle.coda_script.specs.declared.line.Strength.TheVariants.{Down}
use Rattle.coda_script.specs.declared.reply.ClientState.{ClientState as ShownState}
use Rattle.coda_script.specs.declared.reply.Reply.TheVariants.{State as StateReply}
use Rattle.coda_cell.specs.Cells.{linked_in}
use Rattle.coda_cell.specs.Made.{client_of}
use Rattle.coda_cell.specs.State.{ClientState, log_of, new_volume, new_replica, replica_after_all}
use Rattle.coda_cell.specs.States.{link_with, shown_state, is_empty}
use Rattle.coda_cell.specs.Steps.{ShowsState}
use Rattle.coda_cell.proofs.Histories.{server_stays}
use Rattle.coda_shelves.specs.Cells.{Cell, state_of}
use Rattle.coda_shelves.specs.Lines.{replica_down, meets, links_to}
use Rattle.coda_site.specs.Shelves.{Shows}
use Rattle.coda_site.specs.Sites.{is_client_disk, place_in}
use Rattle.coda_site.specs.declared.site.Site.{Site}
use Rattle.coda_site.specs.declared.site.Place.{Place}
use Rattle.coda_site.proofs.ClientSites.{up_at}
use Rattle.coda_site.proofs.ReplicaSites.{stands_at, replica_is}
use Rattle.coda_site.proofs.Theres.{replica_down_at}

-- two looks from the state of a client that was cut off settle the state
pub settled_from : (l : Link) (empty : Bool) → next_state (next_state state.Emulating l empty) l empty ≡ settled_state l empty
settled_from link.Strong true = refl
settled_from link.Strong false = refl
settled_from link.Weak empty = refl
settled_from link.Down empty = refl

turned : (up : Bool) (strength : Strength) → cond up strength Down ≡ cond (not up) Down strength
turned true strength = refl
turned false strength = refl

-- ---- logs

-- the log that a client has of a volume is the one that the cell has
pub sent_by : (own : LogState) (r : Option (Bor LogState)) (log : Bor LogState) → r ≡ Some log → MatchOption r (own ≡ log_of new_volume) (λ l. l.now ≡ own) → is_empty log.now ≡ is_empty own
sent_by own None log is same = cc
sent_by own (Some other) log is same = (let one : other ≡ log = cc in ap (λ (l : Bor LogState). is_empty l.now) (sym one) ∙ ap is_empty same)

-- a client that never had a log of it has nothing to send
pub sent_all : (own : LogState) (r : Option (Bor LogState)) → r ≡ None → MatchOption r (own ≡ log_of new_volume) (λ l. l.now ≡ own) → true ≡ is_empty own
sent_all own None is same = sym (ap is_empty same)
sent_all own (Some log) is same = cc

module _ {D : Type 0} (told : D → Told) (out : ℕ → Bool) (has : ℕ → Told) (cell : Cell) (site : Site D) (shows : Shows told out has cell site) (client volume : ℕ) where
  -- how well a client reaches the replica at a place
  pub reach_is : (p : Place) → place_in site volume ≡ Some p → cond (is_up (replica_form told) (slot_at site.replicas p.disk)) (linked_in site.net client p.server) Down ≡ links_to cell volume client p.server
  reach_is p at =
      let up = is_up (replica_form told) (slot_at site.replicas p.disk) in
      turned up (linked_in site.net client p.server)
      ∙ ap (λ (b : Bool). cond b Down (linked_in site.net client p.server)) (sym (replica_down_at told out has cell site shows p.server volume p at refl))
      ∙ ap (λ (strength : Strength). cond (replica_down cell p.server volume) Down strength) (sym (shows.stands.net.links_are client p.server))

  -- the state that a link and a log settle in is the one that is shown
  pub state_shown : is_client_disk client ≡ true → is_up (client_form told) (slot_at site.clients client) ≡ true → (p : Place) → place_in site volume ≡ Some p
      → (strength : Strength) → strength ≡ cond (is_up (replica_form told) (slot_at site.replicas p.disk)) (linked_in site.net client p.server) Down
      → (empty : Bool) → ((c : ClientState) → (state_of cell).clients client ≡ Some c → empty ≡ is_empty (log_of (c.volumes volume)))
      → (state : ShownState) → state ≡ shown_state (settled_state (link_with strength) empty)
      → ShowsState (meets cell (line.ShowState client volume)) client volume (StateReply state) []
  state_shown here up p at strength reached empty sent state is =
      let own = up_at told out has cell shows.kept site client shows.stands here up in
      let header = own.0 in
      let c = client_of header.number (cell.clients client).disk.history header.cache in
      let there = own.2.shown in
      let stands = stands_at told out has cell site shows volume p at in
      let history = (cell.replicas stands.row p.server).disk.history in
      let r = replica_after_all (new_replica p.server volume) history in
      let linked : strength ≡ links_to cell volume client r.server = reached ∙ reach_is p at ∙ ap (links_to cell volume client) (sym (server_stays (new_replica p.server volume) history)) in
      record {
        client = c;
        replica = r;
        client_there = there;
        replica_there = replica_is told out has cell site shows.stands volume p stands;
        answered = ap StateReply (is ∙ (λ i. shown_state (settled_state (link_with (linked i)) (sent c there i))));
        happened = refl;
      }
