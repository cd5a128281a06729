-- What a client can fetch of a volume, by the site and by the cell.
use Rattle.std.proofs.Common.{◌≡◌, ℕ, Bool, true, false, cond, Option, Some, None, refl, sym, ap, subst, ◌∙◌, inl, inr}
use Rattle.std.proofs.lemmas.Bool.{false≢true, cases_Bool}
use Rattle.std.specs.Prelude.{not}
use Rattle.std.specs.Option.{option_map, option_and_then}
use Rattle.coda_disk.specs.Told.{Told}
use Rattle.coda_tree.specs.Volume.{Nodes}
use Rattle.coda_actors.specs.Replicas.{replica_form}
use Rattle.coda_actors.specs.Slots.{is_up}
use Rattle.coda_actors.specs.declared.slot.Slot.{Slot}
use Rattle.coda_actors.specs.declared.slot.Slot.TheVariants.{Vacant, Spare, Stopped, Started}
use Rattle.coda_crew.specs.Crews.{slot_at}
use Rattle.coda_replica.specs.declared.replica.Replica.{Replica}
use Rattle.coda_script.specs.declared.line.Strength.{Strength}
use Rattle.coda_script.specs.declared.line.Strength.TheVariants.{Strong, Weak, Down}
use Rattle.coda_cell.specs.Cells.{linked_in}
use Rattle.coda_cell.specs.State.{replica_state}
use Rattle.coda_cell.specs.Made.{replica_of}
use Rattle.coda_cell.specs.State.{ReplicaState, new_replica, replica_after_all}
use Rattle.coda_cell.specs.Steps.{alone, reached, offers_of}
use Rattle.coda_cell.proofs.Histories.{server_stays}
use Rattle.coda_matching.specs.Replicas.{journal_at}
use Rattle.coda_matching.proofs.Replicas.{journals_leave_replicas}
use Rattle.coda_serving.specs.Serving.{AreSpelledOffers}
use Rattle.coda_shelves.specs.Cells.{Cell, Stand, stand_of}
use Rattle.coda_shelves.specs.Lines.{links_to}
use Rattle.coda_site.specs.Shelves.{Shows}
use Rattle.coda_site.specs.Sites.{place_in}
use Rattle.coda_site.specs.Tasks.{met_by, nodes_in, carried, offered_at}
use Rattle.coda_site.specs.declared.site.Site.{Site}
use Rattle.coda_site.specs.declared.site.Place.{Place}
use Rattle.coda_site.proofs.ReplicaSites.{StandsAt, stands_at, there, replica_is}
use Rattle.coda_site.proofs.SpelledOffers.{replica_spelled}
use Rattle.coda_site.proofs.Theres.{replica_down_at}

-- nothing comes of a replica that is down
none_in : {D : Type 0} (told : D → Told) (slot : Slot (Replica D) D) → is_up (replica_form told) slot ≡ false → nodes_in slot ≡ None
none_in told Vacant down = refl
none_in told (Spare disk) down = refl
none_in told (Stopped header disk) down = refl
none_in told (Started header replica) down = by replica.down down
  where
    by : (b : Bool) → not b ≡ false → cond b None (Some replica.decider.tree.nodes) ≡ None
    by true e = refl
    by false e = absurd (false≢true (sym e))

none_carried : {A : Type 0} (s : Strength) → carried {A = A} s None ≡ None
none_carried Strong = refl
none_carried Weak = refl
none_carried Down = refl

carried_reached : (s : Strength) (r : ReplicaState) → carried s (Some r.tree.nodes) ≡ reached s r
carried_reached Strong r = refl
carried_reached Weak r = refl
carried_reached Down r = refl

spelled_carried : (s : Strength) (nodes : Option Nodes) → AreSpelledOffers nodes → AreSpelledOffers (carried s nodes)
spelled_carried Strong nodes are = are
spelled_carried Weak nodes are = are
spelled_carried Down nodes are = λ fid node at. (let no : None ≡ Some node = at in cc)

none_offered : AreSpelledOffers None
none_offered fid node at = (let no : None ≡ Some node = at in cc)

module _ {D : Type 0} (told : D → Told) (out : ℕ → Bool) (has : ℕ → Told) (cell : Cell) (site : Site D) (shows : Shows told out has cell site) (client volume : ℕ) where
  -- the replica of a volume that was made
  module _ (p : Place) (at : place_in site volume ≡ Some p) where
    stands : StandsAt cell.rows volume p
    stands = stands_at told out has cell site shows volume p at

    -- what the cell has of it
    abbrev r : ReplicaState
    r = replica_after_all (new_replica p.server volume) (cell.replicas stands.row p.server).disk.history

    reached_at : offers_of (met_by cell volume) client volume ≡ reached (links_to cell volume client p.server) r
    reached_at =
        ap (option_and_then (λ (x : ReplicaState). reached (links_to cell volume client x.server) x)) (replica_is told out has cell site shows.stands volume p stands)
        ∙ ap (λ (s : ℕ). reached (links_to cell volume client s) r) (server_stays (new_replica p.server volume) (cell.replicas stands.row p.server).disk.history)

    linked_at : linked_in site.net client p.server ≡ cell.links client p.server
    linked_at = sym (shows.stands.net.links_are client p.server)

    when_down : is_up (replica_form told) (slot_at site.replicas p.disk) ≡ false → carried (linked_in site.net client p.server) (nodes_in (slot_at site.replicas p.disk)) ≡ offers_of (met_by cell volume) client volume
    when_down down =
        ap (carried (linked_in site.net client p.server)) (none_in told (slot_at site.replicas p.disk) down) ∙ none_carried (linked_in site.net client p.server)
        ∙ ap (λ (b : Bool). reached (cond b Down (cell.links client p.server)) r) (sym (replica_down_at told out has cell site shows p.server volume p at refl ∙ ap not down))
        ∙ sym reached_at

    when_up : is_up (replica_form told) (slot_at site.replicas p.disk) ≡ true
        → (carried (linked_in site.net client p.server) (nodes_in (slot_at site.replicas p.disk)) ≡ offers_of (met_by cell volume) client volume) × AreSpelledOffers (carried (linked_in site.net client p.server) (nodes_in (slot_at site.replicas p.disk)))
    when_up up =
        let t = there told out has cell site shows.stands volume p stands shows.kept up in
        let header = t.0 in
        let replica = t.1 in
        let own = t.2.up in
        let history = (cell.replicas stands.row p.server).disk.history in
        let held : nodes_in (slot_at site.replicas p.disk) ≡ Some replica.decider.tree.nodes = ap nodes_in t.2.slot ∙ ap (λ (b : Bool). cond b None (Some replica.decider.tree.nodes)) own.stands.up in
        let state : replica_state replica.decider ≡ r =
        ap replica_state own.stands.state ∙ journals_leave_replicas header history own.lawful ∙ (λ i. replica_after_all (new_replica (own.home i) (own.number i)) history) in
        let nodes : replica.decider.tree.nodes ≡ r.tree.nodes = ap (λ (x : ReplicaState). x.tree.nodes) state in
        let off = replica_down_at told out has cell site shows p.server volume p at refl ∙ ap not up in (
          ap (carried (linked_in site.net client p.server)) (held ∙ ap (λ (m : Nodes). Some m) nodes) ∙ carried_reached (linked_in site.net client p.server) r ∙ ap (λ (s : Strength). reached s r) linked_at
              ∙ ap (λ (b : Bool). reached (cond b Down (cell.links client p.server)) r) (sym off) ∙ sym reached_at,
          spelled_carried (linked_in site.net client p.server) (nodes_in (slot_at site.replicas p.disk))
              (subst AreSpelledOffers (sym held) (replica_spelled told header replica (journal_at header.number history) own.stands)),
        )

    both : (carried (linked_in site.net client p.server) (nodes_in (slot_at site.replicas p.disk)) ≡ offers_of (met_by cell volume) client volume) × AreSpelledOffers (carried (linked_in site.net client p.server) (nodes_in (slot_at site.replicas p.disk)))
    both = elim (cases_Bool (is_up (replica_form told) (slot_at site.replicas p.disk))) [
      | inl up ↦ when_up up
      | inr down ↦ (when_down down, subst AreSpelledOffers (sym (ap (carried (linked_in site.net client p.server)) (none_in told (slot_at site.replicas p.disk) down) ∙ none_carried (linked_in site.net client p.server))) none_offered)
    ]

  -- what the site offers is what the cell does, and can be spelled
  pub offered_is : (offered_at site.net site.replicas client (place_in site volume) ≡ offers_of (met_by cell volume) client volume) × AreSpelledOffers (offered_at site.net site.replicas client (place_in site volume))
  offered_is = by (place_in site volume) refl
    where
      none_mapped : (o : Option Stand) → option_map (λ (s : Stand). alone s.servers) o ≡ None → o ≡ None
      none_mapped None e = refl
      none_mapped (Some s) e = cc

      by : (o : Option Place) → place_in site volume ≡ o → (offered_at site.net site.replicas client o ≡ offers_of (met_by cell volume) client volume) × AreSpelledOffers (offered_at site.net site.replicas client o)
      by None at = (
        sym (ap (option_and_then (λ (x : ReplicaState). reached (links_to cell volume client x.server) x))
            (ap (option_map (λ (s : Stand). replica_of (λ server. (cell.replicas s.row server).disk.history) volume (alone s.servers))) (none_mapped (stand_of cell volume) (shows.stands.homes volume ∙ ap (option_map (λ (q : Place). q.server)) at)))),
        none_offered,
      )
      by (Some p) at = both p at
