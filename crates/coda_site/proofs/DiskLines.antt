-- Lines that crash actors, recover them, or let their disks fail.
use Rattle.std.proofs.Common.{◌≡◌, inl, inr, ℕ, ◌+◌, ◌*◌, ◌<◌, Bool, true, false, cond, List, [], ◌∷◌, ◌++◌, append-nil, length, Option, Some, None, IfOk, Result, Ok, Err, refl, sym, ap, subst, ◌∙◌}
use Rattle.std.proofs.lemmas.Bool.{cases_eq}
use Rattle.std.specs.Prelude.{not}
use Rattle.std.specs.BTreeMap.{BTreeMap}
use Rattle.coda_disk.specs.Told.{Told}
use Rattle.coda_disk.specs.Bays.{KeepsAll}
use Rattle.coda_actors.specs.Clients.{client_form}
use Rattle.coda_actors.specs.Plain.{PlainActor, Step, Crashes as CrashDeed, Recovers as RecoverDeed, Arms, Deed}
use Rattle.coda_actors.specs.Replicas.{replica_form}
use Rattle.coda_actors.specs.Slots.{is_made, is_up}
use Rattle.coda_actors.specs.declared.slot.Mounting.{Mounting}
use Rattle.coda_actors.specs.declared.slot.Slot.{Slot}
use Rattle.coda_crew.specs.Crews.{slot_at, KeepsOtherSlots, OutAt, OutAll, OwnAll, Takes, LeavesBe}
use Rattle.coda_crew.proofs.Lifts.{no_more}
use Rattle.coda_plain.specs.Cell.{ClientEntry}
use Rattle.coda_plain.specs.Decisions.{ReplicaEntry}
use Rattle.coda_record.specs.declared.entry.ReplicaEntry.{ReplicaEntry as KeptEntry}
use Rattle.coda_replica.specs.declared.replica.Replica.{Replica}
use Rattle.coda_script.specs.declared.line.Line.TheVariants as line
use Rattle.coda_script.specs.declared.reply.Reply.{Reply}
use Rattle.coda_script.specs.declared.reply.Reply.TheVariants.{Crashed}
use Rattle.coda_venus.specs.History.{Payload}
use Rattle.coda_venus.specs.declared.venus.Venus.{Venus}
use Rattle.coda_cell.specs.Refused.{NoSuchActor}
use Rattle.coda_cell.specs.Steps.{Named, first_missing}
use Rattle.coda_shelves.specs.Shelves.{client_journal, replica_journal}
use Rattle.coda_shelves.specs.Cells.{Cell, Stand, stand_of, with_client, with_replica}
use Rattle.coda_shelves.specs.Lines.{Becoming, Unless, the_client, the_replica, client_down, client_payloads, replica_payloads, Crashes, Recovers, AtReplicaOf, Happens}
use Rattle.coda_site.specs.Makings.{SaysRecovered}
use Rattle.coda_site.specs.Shelves.{Shows}
use Rattle.coda_site.specs.Sites.{as_journal, is_client_disk, is_replica_disk, place_in, IsSite, IsReady, client_at}
use Rattle.coda_site.specs.Steps.{Becomes}
use Rattle.coda_site.specs.declared.fault.CellFault.{CellFault}
use Rattle.coda_site.specs.declared.site.Place.{Place}
use Rattle.coda_site.specs.declared.site.Site.{Site}
use Rattle.coda_site.proofs.ClientSites.{plain_clients, with_clients, client_site, client_same}
use Rattle.coda_site.proofs.ReplicaSites.{StandsAt, stands_at, with_replicas, replica_site, replica_same}
use Rattle.coda_site.proofs.Makes.{unless_none}
use Rattle.coda_site.proofs.Mountings.{IsActor, client_crashes, client_recovers, replica_crashes, replica_recovers}
use Rattle.coda_site.proofs.Theres.{client_named_at, client_down_by}

-- ---- bays

-- a bay that nothing was done to
pub as_is : (of out : ℕ → Bool) (has : ℕ → Told) → LeavesBe of out out has has
as_is of out has k is = (refl, λ honest. (honest, λ image may. may))

-- a bay that kept all that it has
pub all_be : (of out out1 : ℕ → Bool) (has has1 : ℕ → Told) → ((k : ℕ) → out1 k ≡ out k) → KeepsAll has has1 → LeavesBe of out out1 has has1
all_be of out out1 has has1 numbers keeps k is = (numbers k, λ honest. no_more (has k) (has1 k) (keeps k honest))

-- ---- clients

module _ {D : Type 0} (told : D → Told) (out out1 : ℕ → Bool) (has has1 : ℕ → Told) (cell : Cell) (site : Site D) (shows : Shows told out has cell site) (n : ℕ) (slots : BTreeMap ℕ (Slot (Venus D) D))
    (be : LeavesBe is_replica_disk out out1 has has1) where
  -- what was done to the client was done to it in the cell
  client_done : (deed : Deed Payload) (happens : PlainActor ClientEntry → Type 0) (takes : Takes (client_form told) told is_client_disk (plain_clients cell) n deed out1 has1 slots) → (did : IsActor client_journal happens (takes.0 n))
      → IsSite told out1 has1 (with_client cell n did.actor) (with_clients site slots)
  client_done deed happens takes did = client_site told out out1 has has1 cell site n did.actor slots takes.0 shows.stands be takes.2 did.is takes.1.1

  module _ (there : first_missing (the_client cell n).named ≡ None) where
    pub crash_client_becomes : (choice : ℕ) (image : List ℕ) (old answered : List (List ℕ)) → answered ≡ old ++ image ∷ [] → Takes (client_form told) told is_client_disk (plain_clients cell) n (CrashDeed image) out1 has1 slots
        → Becomes told out1 has1 (Happens cell (line.CrashClient n choice)) Crashed old answered (with_clients site slots)
    crash_client_becomes choice image old answered answer takes =
        let did = client_crashes told (cell.clients n) (with_client cell n) image (takes.0 n) takes.1.0 in record {
          outside = image ∷ [];
          left = with_client cell n did.actor;
          happens = unless_none cell (first_missing (the_client cell n).named) (Crashes client_payloads (cell.clients n) (with_client cell n)) Crashed (image ∷ []) (with_client cell n did.actor) there did.did;
          answered = answer;
          stands = client_done (CrashDeed image) _ takes did;
        }

    pub recover_client_becomes : (ending : Mounting) (reply : Reply) (answered : List (List ℕ)) → SaysRecovered ending reply → Takes (client_form told) told is_client_disk (plain_clients cell) n (RecoverDeed ending) out1 has1 slots
        → Becomes told out1 has1 (Happens cell (line.RecoverClient n)) reply answered answered (with_clients site slots)
    recover_client_becomes ending reply answered says takes =
        let did = client_recovers told (cell.clients n) (with_client cell n) ending reply (takes.0 n) says takes.1.0 in record {
          outside = [];
          left = with_client cell n did.actor;
          happens = unless_none cell (first_missing (the_client cell n).named) (Recovers client_payloads (cell.clients n) (with_client cell n)) reply [] (with_client cell n did.actor) there did.did;
          answered = sym (append-nil answered);
          stands = client_done (RecoverDeed ending) _ takes did;
        }

    pub recover_client_returns : (ending : Mounting) (result : Result Reply CellFault) (answered : List (List ℕ)) → IfOk result (λ reply. SaysRecovered ending reply) → Takes (client_form told) told is_client_disk (plain_clients cell) n (RecoverDeed ending) out1 has1 slots
        → IfOk result (λ reply. Becomes told out1 has1 (Happens cell (line.RecoverClient n)) reply answered answered (with_clients site slots))
    recover_client_returns ending (Ok reply) answered says takes = recover_client_becomes ending reply answered says takes
    recover_client_returns ending (Err why) answered says takes = tt

  pub arm_client_site : Takes (client_form told) told is_client_disk (plain_clients cell) n Arms out1 has1 slots → IsSite told out1 has1 cell (with_clients site slots)
  arm_client_site takes = subst (λ (c : Cell). IsSite told out1 has1 c (with_clients site slots)) (client_same cell n (cell.clients n) refl)
      (client_site told out out1 has has1 cell site n (cell.clients n) slots takes.0 shows.stands be takes.2 takes.1.0.2 takes.1.1)

-- ---- replicas

module _ {D : Type 0} (told : D → Told) (out out1 : ℕ → Bool) (has has1 : ℕ → Told) (cell : Cell) (site : Site D) (shows : Shows told out has cell site) (volume : ℕ) (place : Place) (noted : place_in site volume ≡ Some place)
    (slots : BTreeMap ℕ (Slot (Replica D) D)) (be : LeavesBe is_client_disk out out1 has has1) where
  at : StandsAt cell.rows volume place
  at = stands_at told out has cell site shows volume place noted

  abbrev there_is : PlainActor ReplicaEntry
  there_is = cell.replicas at.row place.server

  abbrev goes : PlainActor ReplicaEntry → Cell
  goes = with_replica cell at.row place.server

  abbrev Done : Deed KeptEntry → Type 0
  Done deed = Takes (replica_form told) told is_replica_disk shows.stands.replicas.0 place.disk deed out1 has1 slots

  -- what was done to the crew's actor was done to it
  step_of : (deed : Deed KeptEntry) (takes : Done deed) → Step (replica_form told) (as_journal replica_journal there_is) deed (takes.0 place.disk)
  step_of deed takes = subst (λ (p : PlainActor KeptEntry). Step (replica_form told) p deed (takes.0 place.disk)) (ap shows.stands.replicas.0 (sym at.disk) ∙ shows.stands.replicas.1 at.row place.server at.range) takes.1.0

  site_with : (actor : PlainActor ReplicaEntry) (deed : Deed KeptEntry) (takes : Done deed) → takes.0 place.disk ≡ as_journal replica_journal actor → IsSite told out1 has1 (goes actor) (with_replicas site slots)
  site_with actor deed takes is = replica_site told out out1 has has1 cell site shows.stands at.row place.server actor slots takes.0 at.range be takes.2 (ap takes.0 at.disk ∙ is) (λ k other. takes.1.1 k (λ same. other (same ∙ sym at.disk)))

  -- it is so of the replica that the line names
  named_so : (own : PlainActor ReplicaEntry → (PlainActor ReplicaEntry → Cell) → Becoming) (reply : Reply) (outside : List (List ℕ)) (left : Cell) → first_missing (the_replica cell place.server volume).named ≡ None
      → own there_is goes reply outside left → Unless cell (first_missing (the_replica cell place.server volume).named) (AtReplicaOf cell (stand_of cell volume) place.server own) reply outside left
  named_so own reply outside left there did = unless_none cell (first_missing (the_replica cell place.server volume).named) (AtReplicaOf cell (stand_of cell volume) place.server own) reply outside left there
      (subst (λ (o : Option Stand). AtReplicaOf cell o place.server own reply outside left) (sym at.stands) did)

  module _ (there : first_missing (the_replica cell place.server volume).named ≡ None) where
    pub crash_replica_becomes : (choice : ℕ) (image : List ℕ) (old answered : List (List ℕ)) → answered ≡ old ++ image ∷ [] → Done (CrashDeed image)
        → Becomes told out1 has1 (Happens cell (line.CrashReplica place.server volume choice)) Crashed old answered (with_replicas site slots)
    crash_replica_becomes choice image old answered answer takes =
        let did = replica_crashes told there_is (shows.kept.shelves.alone at.row place.server) goes image (takes.0 place.disk) (step_of (CrashDeed image) takes) in record {
          outside = image ∷ [];
          left = goes did.actor;
          happens = named_so (Crashes replica_payloads) Crashed (image ∷ []) (goes did.actor) there did.did;
          answered = answer;
          stands = site_with did.actor (CrashDeed image) takes did.is;
        }

    pub recover_replica_becomes : (ending : Mounting) (reply : Reply) (answered : List (List ℕ)) → SaysRecovered ending reply → Done (RecoverDeed ending)
        → Becomes told out1 has1 (Happens cell (line.RecoverReplica place.server volume)) reply answered answered (with_replicas site slots)
    recover_replica_becomes ending reply answered says takes =
        let did = replica_recovers told there_is (shows.kept.shelves.alone at.row place.server) goes ending reply (takes.0 place.disk) says (step_of (RecoverDeed ending) takes) in record {
          outside = [];
          left = goes did.actor;
          happens = named_so (Recovers replica_payloads) reply [] (goes did.actor) there did.did;
          answered = sym (append-nil answered);
          stands = site_with did.actor (RecoverDeed ending) takes did.is;
        }

    pub recover_replica_returns : (ending : Mounting) (result : Result Reply CellFault) (answered : List (List ℕ)) → IfOk result (λ reply. SaysRecovered ending reply) → Done (RecoverDeed ending)
        → IfOk result (λ reply. Becomes told out1 has1 (Happens cell (line.RecoverReplica place.server volume)) reply answered answered (with_replicas site slots))
    recover_replica_returns ending (Ok reply) answered says takes = recover_replica_becomes ending reply answered says takes
    recover_replica_returns ending (Err why) answered says takes = tt

  pub arm_replica_site : Done Arms → IsSite told out1 has1 cell (with_replicas site slots)
  arm_replica_site takes = subst (λ (c : Cell). IsSite told out1 has1 c (with_replicas site slots)) (replica_same cell at.row place.server there_is refl) (site_with there_is Arms takes (step_of Arms takes).2)

-- ---- who is named

module _ {D : Type 0} (told : D → Told) (out : ℕ → Bool) (has : ℕ → Told) (cell : Cell) (site : Site D) (shows : Shows told out has cell site) (n : ℕ) (here : is_client_disk n ≡ true) (result : Bool) (tells : result ≡ (client_at site n).there) where
  named : first_missing (the_client cell n).named ≡ cond result None (Some (NoSuchActor n))
  named = ap (λ (x : Named). first_missing (x ∷ [])) (client_named_at told out has cell site shows n here) ∙ ap (λ (b : Bool). cond b None (Some (NoSuchActor n))) (sym tells)

  pub client_is_there : result ≡ true → first_missing (the_client cell n).named ≡ None
  client_is_there so = named ∙ ap (λ (b : Bool). cond b None (Some (NoSuchActor n))) so

  pub client_is_missing : result ≡ false → first_missing (the_client cell n).named ≡ Some (NoSuchActor n)
  client_is_missing so = named ∙ ap (λ (b : Bool). cond b None (Some (NoSuchActor n))) so

  pub client_is_down : result ≡ true → (number : ℕ) (up : Bool) → number ≡ n → up ≡ is_up (client_form told) (slot_at site.clients number) → client_down cell n ≡ not up
  client_is_down so number up same runs = client_down_by told out has cell site shows n number [] up here (ap (λ (b : Bool). cond b None (Some (NoSuchActor n))) (sym tells ∙ so)) same runs

-- ---- a site, whatever it stands for

pub clients_ready : {D : Type 0} (told : D → Told) (out : ℕ → Bool) (site : Site D) (slots : BTreeMap ℕ (Slot (Venus D) D)) → IsReady told out site → OutAll is_client_disk out slots → OwnAll (client_form told) slots → IsReady told out (with_clients site slots)
clients_ready told out site slots ready outs owns = record {
  clients = outs;
  replicas = ready.replicas;
  clients_own = owns;
  replicas_own = ready.replicas_own;
  few = ready.few;
  places = ready.places;
  made = ready.made;
  areas = ready.areas;
}

pub replicas_ready : {D : Type 0} (told : D → Told) (out out1 : ℕ → Bool) (site : Site D) (slots : BTreeMap ℕ (Slot (Replica D) D)) (disk : ℕ) → IsReady told out site → ((k : ℕ) → out1 k ≡ out k) → OutAll is_replica_disk out1 slots → OwnAll (replica_form told) slots
    → KeepsOtherSlots disk site.replicas slots → is_made (slot_at site.replicas disk) ≡ true → IsReady told out1 (with_replicas site slots)
replicas_ready told out out1 site slots disk ready numbers outs owns others was = record {
  clients = λ k. subst (λ (b : Bool). OutAt (is_client_disk k) b (slot_at site.clients k)) (sym (numbers k)) (ready.clients k);
  replicas = outs;
  clients_own = ready.clients_own;
  replicas_own = owns;
  few = ready.few;
  places = ready.places;
  made = λ k is. elim (cases_eq k disk) [
    | inl same ↦ subst (λ (m : ℕ). m < 256 + 8 * length site.servers.items) (sym same) (ready.made disk was)
    | inr other ↦ ready.made k (ap is_made (sym (others k other)) ∙ is)
  ];
  areas = ready.areas;
}
