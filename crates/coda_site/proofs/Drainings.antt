-- A drain of a client and a replica that are up, as its calls say it.
use Rattle.std.proofs.Common.{◌≡◌, ℕ, Bool, true, false, ◌&&◌, ◌||◌, not, option_map, List, [], ◌++◌, Option, Some, None, Result, Ok, Err, refl, sym, ap, subst, ◌∙◌}
use Rattle.std.specs.Prelude.{⊤}
use Rattle.std.specs.BTreeMap.{BTreeMap}
use Rattle.coda_disk.specs.Told.{Told}
use Rattle.coda_fid.specs.declared.op.Record.{Record}
use Rattle.coda_journal.specs.declared.header.Header.{Header}
use Rattle.coda_plain.specs.Cell.{ClientEntry}
use Rattle.coda_plain.specs.Decisions.{ReplicaEntry, sent_of}
use Rattle.coda_record.specs.declared.answer.Answer.{Answer}
use Rattle.coda_script.specs.declared.line.Line.TheVariants as line
use Rattle.coda_script.specs.declared.line.Task.TheVariants as task
use Rattle.coda_script.specs.declared.reply.Answer.{Answer as ReplyAnswer}
use Rattle.coda_script.specs.declared.reply.Reply.{Reply}
use Rattle.coda_script.specs.declared.reply.Reply.TheVariants.{Drained}
use Rattle.coda_actors.specs.Clients.{client_form}
use Rattle.coda_actors.specs.Replicas.{replica_form}
use Rattle.coda_actors.specs.Slots.{is_up}
use Rattle.coda_actors.specs.declared.slot.Slot.{Slot}
use Rattle.coda_actors.specs.declared.slot.Slot.TheVariants.{Started}
use Rattle.coda_crew.specs.Crews.{slot_at, KeepsOtherSlots}
use Rattle.coda_replica.specs.declared.fault.ReplicaFault.{ReplicaFault}
use Rattle.coda_replica.specs.declared.replica.Replica.{Replica}
use Rattle.coda_venus.specs.Standing.{IsUp}
use Rattle.coda_venus.specs.declared.refused.Refused.{Refused as VenusRefused}
use Rattle.coda_venus.specs.declared.venus.Venus.{Venus}
use Rattle.coda_cell.specs.Cells.{linked_in}
use Rattle.coda_cell.specs.Sending.{freezing, ruling, Taking, taking, reply_answer}
use Rattle.coda_cell.specs.Refusing.{refusal}
use Rattle.coda_cell.specs.Steps.{Named, on_holder, first_missing, ByBoth}
use Rattle.coda_cell.specs.Refused.{Refused}
use Rattle.coda_cell.specs.Refused as refused
use Rattle.coda_matching.specs.Clients.{journal_by, IsClientHistory}
use Rattle.coda_matching.specs.Replicas.{RulingEnds}
use Rattle.coda_sending.specs.Ending.{FreezingEnds, TakingEnds}
use Rattle.coda_shelves.specs.Cells.{Cell, state_of}
use Rattle.coda_shelves.specs.Lines.{refused_down, refused_full, client_down, replica_down, is_cut, Acts, Becoming, Happens}
use Rattle.coda_site.specs.Chunks.{volume_by, replica_by, ClientEnds, ReplicaEnds}
use Rattle.coda_site.specs.Drains.{Acted}
use Rattle.coda_site.specs.Shelves.{Shows}
use Rattle.coda_site.specs.Sites.{is_client_disk, place_in, IsSite}
use Rattle.coda_site.specs.Steps.{Becomes}
use Rattle.coda_site.specs.declared.site.Place.{Place}
use Rattle.coda_site.specs.declared.site.Site.{Site}
use Rattle.coda_site.proofs.Becomings.{RepliesTo, named_missing, missing_becomes, down_becomes, up_becomes, says}
use Rattle.coda_site.proofs.ClientSites.{IsClientUp, up_at, with_clients}
use Rattle.coda_site.proofs.ReplicaSites.{StandsAt, stands_at, IsReplicaThere, there, with_replicas}
use Rattle.coda_site.proofs.Stages.{UnruledReply}
use Rattle.coda_site.proofs.Holders.{names_in, both_up, missing_named, server_at_place, some_down, none_down, cut_is}
use Rattle.coda_site.proofs.Drained as exchange

-- the chunk that a client has on its way is what was lent of it
abbrev pub IsLent : {D : Type 0} → (D → Told) → ℕ → ℕ → BTreeMap ℕ (Slot (Venus D) D) → List Record → Type 0
IsLent {D = D} told client volume clients recs =
    (header : Header) (venus : Venus D) (history : List ClientEntry) → slot_at clients client ≡ Started header venus → IsUp told header venus (journal_by history) → IsClientHistory header history → recs ≡ sent_of (volume_by header history volume).front

module _ {D : Type 0} (told : D → Told) (out : ℕ → Bool) (has : ℕ → Told) (seen : (d : D) → (told d).honest → (told d).may_leave (told d).seen) (cell : Cell) (site : Site D) (shows : Shows told out has cell site)
    (client volume server disk window : ℕ) (here : is_client_disk client ≡ true) (client_on : is_up (client_form told) (slot_at site.clients client) ≡ true) (replica_on : is_up (replica_form told) (slot_at site.replicas disk) ≡ true)
    (place : Place) (placed : place_in site volume ≡ Some place) (disk_is : place.disk ≡ disk) (home : place.server ≡ server) (link : not (is_cut (linked_in site.net client server)) ≡ true) where
  c : (header : Header) × (venus : Venus D) × IsClientUp told out cell site.clients client header venus
  c = up_at told out has cell shows.kept site client shows.stands here client_on

  abbrev is : IsSite told out has cell site
  is = shows.stands

  at : StandsAt cell.rows volume place
  at = stands_at told out has cell site shows volume place placed

  r : (header : Header) × (replica : Replica D) × IsReplicaThere told out has cell site is volume place at header replica
  r = there told out has cell site is volume place at shows.kept (subst (λ (d : ℕ). is_up (replica_form told) (slot_at site.replicas d) ≡ true) (sym disk_is) replica_on)

  abbrev AsFrozen : Result ℕ VenusRefused → Header → List ClientEntry → Venus D → Type 0
  AsFrozen result header history left = FreezingEnds told header history volume (freezing site.clock window server (volume_by header history volume)) left result

  module _ (clients : BTreeMap ℕ (Slot (Venus D) D)) (others : KeepsOtherSlots client site.clients clients) where
    pub drain_unfrozen : (why : VenusRefused) → ClientEnds told client site.clients clients (AsFrozen (Err why)) → (reply : Reply) → RepliesTo (λ (n : ℕ). refused_full) (Err why) reply
        → Acted told out has cell (line.Task (task.Drain client volume server (Some window))) reply (with_clients site clients)
    drain_unfrozen why ends reply replied =
        let e = ends c.0 c.1 c.2.slot in
        exchange.drains told out has cell site is client volume server place at home c.0 c.1 c.2 r.0 r.1 r.2 seen window link (with_clients site clients) reply
        (exchange.unfrozen told out has cell site is client volume server place at home c.0 c.1 c.2 r.0 r.1 r.2 seen window clients others e.0 e.1 why reply (e.2 (cell.clients client).disk.history c.2.up c.2.lawful) replied)

    module _ (chunk : ℕ) (ends : ClientEnds told client site.clients clients (AsFrozen (Ok chunk))) (recs : List Record) (lent : IsLent told client volume clients recs) (replicas : BTreeMap ℕ (Slot (Replica D) D)) (kept_slots : KeepsOtherSlots disk site.replicas replicas) where
      e : (left : Venus D) × (slot_at clients client ≡ Started c.0 left) × ((history : List ClientEntry) → IsUp told c.0 c.1 (journal_by history) → IsClientHistory c.0 history → AsFrozen (Ok chunk) c.0 history left)
      e = ends c.0 c.1 c.2.slot

      abbrev h : List ClientEntry
      h = (cell.clients client).disk.history

      froze : exchange.IsFrozenAs told c.0 h volume (freezing site.clock window server (volume_by c.0 h volume)) e.0 chunk
      froze = exchange.frozen_as told c.0 h volume (freezing site.clock window server (volume_by c.0 h volume)) e.0 chunk (e.2 h c.2.up c.2.lawful)

      sent : recs ≡ sent_of froze.f.span
      sent = exchange.sent_is told out has cell site is client volume server place at home c.0 c.1 c.2 r.0 r.1 r.2 seen window clients others e.0 e.1 chunk froze recs (λ lawful. lent c.0 e.0 (h ++ _) e.1 froze.runs lawful)

      abbrev AsRuled : Result Answer ReplicaFault → Header → List ReplicaEntry → Replica D → Type 0
      AsRuled result header history left = (span : List Record) → recs ≡ sent_of span → RulingEnds told header history (ruling client chunk span (replica_by header history)) left result

      slots_there : KeepsOtherSlots place.disk site.replicas replicas
      slots_there = subst (λ (d : ℕ). KeepsOtherSlots d site.replicas replicas) (sym disk_is) kept_slots

      abbrev g : List ReplicaEntry
      g = (cell.replicas at.row place.server).disk.history

      module _ (result : Result Answer ReplicaFault) (rules : ReplicaEnds told disk site.replicas replicas (AsRuled result)) where
        w : (left : Replica D) × (slot_at replicas place.disk ≡ Started r.0 left) × RulingEnds told r.0 g (ruling client froze.f.number froze.f.span (replica_by r.0 g)) left result
        w =
            let x = rules r.0 r.1 (ap (slot_at site.replicas) (sym disk_is) ∙ r.2.slot) in (
              x.0,
              ap (slot_at replicas) disk_is ∙ x.1,
              subst (λ (n : ℕ). RulingEnds told r.0 g (ruling client n froze.f.span (replica_by r.0 g)) x.0 result) (sym froze.number) (x.2 g r.2.up.stands r.2.up.lawful froze.f.span sent),
            )

      pub drain_unruled : (why : ReplicaFault) → ReplicaEnds told disk site.replicas replicas (AsRuled (Err why)) → (reply : Reply) → UnruledReply why reply
          → Acted told out has cell (line.Task (task.Drain client volume server (Some window))) reply (with_replicas (with_clients site clients) replicas)
      drain_unruled why rules reply replied =
          let x = w (Err why) rules in
          exchange.drains told out has cell site is client volume server place at home c.0 c.1 c.2 r.0 r.1 r.2 seen window link (with_replicas (with_clients site clients) replicas) reply
          (exchange.unruled told out has cell site is client volume server place at home c.0 c.1 c.2 r.0 r.1 r.2 seen window clients others e.0 e.1 chunk froze replicas slots_there x.0 x.1 why reply x.2 replied)

      module _ (answer : Answer) (rules : ReplicaEnds told disk site.replicas replicas (AsRuled (Ok answer))) (after : BTreeMap ℕ (Slot (Venus D) D)) (others_after : KeepsOtherSlots client clients after) where
        x : (left : Replica D) × (slot_at replicas place.disk ≡ Started r.0 left) × RulingEnds told r.0 g (ruling client froze.f.number froze.f.span (replica_by r.0 g)) left (Ok answer)
        x = w (Ok answer) rules

        abbrev AsTaken : Result ⊤ VenusRefused → Header → List ClientEntry → Venus D → Type 0
        AsTaken result header history left = TakingEnds told header history volume (taking chunk answer (volume_by header history volume)) left result

        module _ (result : Result ⊤ VenusRefused) (takes : ClientEnds told client clients after (AsTaken result)) where
          abbrev h2 : List ClientEntry
          h2 = exchange.h2 told out has cell site is client volume server place at home c.0 c.1 c.2 r.0 r.1 r.2 seen window clients others e.0 e.1 chunk froze replicas slots_there x.0 x.1 x.2.0 x.2.1 x.2.3

          y : (left : Venus D) × (slot_at after client ≡ Started c.0 left) × TakingEnds told c.0 h2 volume (taking froze.f.number x.2.0.answer (volume_by c.0 h2 volume)) left result
          y =
              let z = takes c.0 e.0 e.1 in
              let up2 = exchange.up2 told out has cell site is client volume server place at home c.0 c.1 c.2 r.0 r.1 r.2 seen window clients others e.0 e.1 chunk froze replicas slots_there x.0 x.1 x.2.0 x.2.1 x.2.3 in
              (z.0, z.1, subst (λ (t : Result Taking Refused). TakingEnds told c.0 h2 volume t z.0 result) (λ i. taking (sym froze.number i) (x.2.2 i) (volume_by c.0 h2 volume)) (z.2 h2 up2.up up2.lawful))

        pub drain_untaken : (why : VenusRefused) → ClientEnds told client clients after (AsTaken (Err why)) → (reply : Reply) → RepliesTo (λ (u : ⊤). refused_full) (Err why) reply
            → Acted told out has cell (line.Task (task.Drain client volume server (Some window))) reply (with_clients (with_replicas (with_clients site clients) replicas) after)
        drain_untaken why takes reply replied =
            let z = y (Err why) takes in
            exchange.drains told out has cell site is client volume server place at home c.0 c.1 c.2 r.0 r.1 r.2 seen window link (with_clients (with_replicas (with_clients site clients) replicas) after) reply
            (exchange.untaken told out has cell site is client volume server place at home c.0 c.1 c.2 r.0 r.1 r.2 seen window clients others e.0 e.1 chunk froze replicas slots_there x.0 x.1 x.2.0 x.2.1 x.2.3 after others_after z.0 z.1 why reply z.2 replied)

        pub drain_taken : (u : ⊤) → ClientEnds told client clients after (AsTaken (Ok u)) → (said : ReplyAnswer) → said ≡ reply_answer answer
            → Acted told out has cell (line.Task (task.Drain client volume server (Some window))) (Drained chunk said) (with_clients (with_replicas (with_clients site clients) replicas) after)
        drain_taken u takes said said_is =
            let z = y (Ok u) takes in
            subst (λ (reply : Reply). Acted told out has cell (line.Task (task.Drain client volume server (Some window))) reply (with_clients (with_replicas (with_clients site clients) replicas) after))
            (λ i. Drained (froze.number i) ((ap reply_answer (sym x.2.2) ∙ sym said_is) i))
            (exchange.drains told out has cell site is client volume server place at home c.0 c.1 c.2 r.0 r.1 r.2 seen window link (with_clients (with_replicas (with_clients site clients) replicas) after) (Drained froze.f.number (reply_answer x.2.0.answer))
            (exchange.taken told out has cell site is client volume server place at home c.0 c.1 c.2 r.0 r.1 r.2 seen window clients others e.0 e.1 chunk froze replicas slots_there x.0 x.1 x.2.0 x.2.1 x.2.3 after others_after z.0 z.1 u z.2))

-- ---- the whole line

module _ {D : Type 0} (told : D → Told) (out : ℕ → Bool) (has : ℕ → Told) (cell : Cell) (site : Site D) (shows : Shows told out has cell site) (client volume server window : ℕ) (here : is_client_disk client ≡ true) (answered : List (List ℕ)) where
  abbrev IsDrained : Reply → Site D → Type 0
  IsDrained reply after = Becomes told out has (Happens cell (line.Task (task.Drain client volume server (Some window)))) reply answered answered after

  abbrev names : List Named
  names = on_holder (state_of cell) client volume server

  abbrev down : Bool
  down = client_down cell client || replica_down cell server volume

  abbrev own : Becoming
  own reply outside left = (outside ≡ []) × Acts cell (line.Task (task.Drain client volume server (Some window))) reply left

  pub drain_missing : (result : Option ℕ) (number : ℕ) → result ≡ Some number → option_map refused.NoSuchActor result ≡ first_missing (names_in site client volume server) → (reply : Reply) → reply ≡ refusal (refused.NoSuchActor number) → IsDrained reply site
  drain_missing result number e missing reply replied =
      let none = missing_named told out has cell site shows client volume server here result number e missing in
      missing_becomes told out has cell names down own reply answered site (refused.NoSuchActor number) none
      (refl, says cell (line.Task (task.Drain client volume server (Some window))) reply (named_missing names (refused.NoSuchActor number) (ByBoth (state_of cell) client volume window) reply none replied)) shows.stands

  module _ (none : first_missing names ≡ None) (place : Place) (at : place_in site volume ≡ Some place) where
    pub drain_down : (reply : Reply) → reply ≡ refused_down → (is_up (client_form told) (slot_at site.clients client) && is_up (replica_form told) (slot_at site.replicas place.disk)) ≡ false → IsDrained reply site
    drain_down reply replied off = down_becomes told out has cell names down own reply answered site none (some_down told out has cell site shows client volume server here none place at off) replied shows.stands

    module _ (up : (is_up (client_form told) (slot_at site.clients client) && is_up (replica_form told) (slot_at site.replicas place.disk)) ≡ true) where
      client_on : is_up (client_form told) (slot_at site.clients client) ≡ true
      client_on = (both_up _ _ up).0

      replica_on : is_up (replica_form told) (slot_at site.replicas place.disk) ≡ true
      replica_on = (both_up _ _ up).1

      on : down ≡ false
      on = none_down told out has cell site shows client volume server here none place at client_on replica_on

      pub drain_happens : (reply : Reply) (after : Site D) → Acted told out has cell (line.Task (task.Drain client volume server (Some window))) reply after → IsDrained reply after
      drain_happens reply after (left, acts, stands) = up_becomes told out has cell names down own reply answered after none on left (refl, acts) stands

      pub drain_cut : (reply : Reply) → reply ≡ refusal refused.LinkDown → not (is_cut (linked_in site.net client server)) ≡ false → IsDrained reply site
      drain_cut reply replied cut =
          let c = up_at told out has cell shows.kept site client shows.stands here client_on in
          let stands = stands_at told out has cell site shows volume place at in
          let r = there told out has cell site shows.stands volume place stands shows.kept replica_on in
          let home = server_at_place told out has cell site shows client volume server here none place at in
          drain_happens reply site (exchange.cut_drains told out has cell site shows.stands client volume server place stands home c.0 c.1 c.2 r.0 r.1 r.2 window reply (cut_is (linked_in site.net client server) cut) replied)
