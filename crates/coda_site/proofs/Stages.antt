-- What a line leaves of a site in which several actors take part: stage by stage.
use Rattle.std.proofs.Common.{◌≡◌, ◌≢◌, ◌⊎◌, inl, inr, ℕ, Bool, true, false, List, [], ◌∷◌, ◌++◌, append-nil, map, Result, Ok, Err, refl, sym, ap, subst, ◌∙◌}
use Rattle.std.specs.Prelude.{nat_lt, IfOk}
use Rattle.std.specs.BTreeMap.{BTreeMap}
use Rattle.std.proofs.lemmas.Bool.{false≢true, cases_eq}
use Rattle.std.proofs.lemmas.List.{append_assoc, map-append}
use Rattle.coda_disk.specs.Told.{Told}
use Rattle.coda_fid.specs.declared.op.Record.{Record}
use Rattle.coda_journal.specs.declared.header.Header.{Header}
use Rattle.coda_plain.specs.Cell.{ClientEntry}
use Rattle.coda_plain.specs.Decisions.{ReplicaEntry, Decided}
use Rattle.coda_plain.specs.Moves.{AtClient, AtReplica}
use Rattle.coda_script.specs.declared.reply.Reply.{Reply}
use Rattle.coda_actors.specs.Clients.{client_form}
use Rattle.coda_actors.specs.Fits.{AsksOwn}
use Rattle.coda_actors.specs.Form.{Form}
use Rattle.coda_actors.specs.Plain.{PlainActor, Up}
use Rattle.coda_actors.specs.Replicas.{replica_form}
use Rattle.coda_actors.specs.Slots.{is_made, is_up}
use Rattle.coda_actors.specs.declared.slot.Slot.{Slot}
use Rattle.coda_actors.specs.declared.slot.Slot.TheVariants.{Vacant, Spare, Stopped, Started}
use Rattle.coda_crew.specs.Crews.{slot_at, KeepsOtherSlots, OutAt}
use Rattle.coda_replica.specs.Answers.{is_next, told as told_of}
use Rattle.coda_replica.specs.Standing.{IsUp as IsRulerUp}
use Rattle.coda_replica.specs.declared.fault.ReplicaFault.{ReplicaFault}
use Rattle.coda_replica.specs.declared.fault.ReplicaFault.TheVariants as fault
use Rattle.coda_replica.specs.declared.replica.Replica.{Replica}
use Rattle.coda_venus.specs.Standing.{IsUp}
use Rattle.coda_venus.specs.declared.refused.Refused.{Refused as VenusRefused}
use Rattle.coda_venus.specs.declared.refused.Refused.TheVariants as reason
use Rattle.coda_venus.specs.declared.venus.Venus.{Venus}
use Rattle.coda_cell.specs.Refusing.{refusal}
use Rattle.coda_cell.specs.Sending.{Ruling, decides, ruling_of, ruling, entries_at}
use Rattle.coda_cell.specs.State.{Event, ReplicaState, at_client}
use Rattle.coda_cell.specs.Refused.{Refused}
use Rattle.coda_cell.specs.Refused as refused
use Rattle.coda_matching.specs.Clients.{journal_by, IsClientHistory, Cut}
use Rattle.coda_cell.specs.Refusing.{client_refused_as}
use Rattle.coda_matching.specs.Replicas.{journal_at, RulingEnds}
use Rattle.coda_sending.proofs.Kept.{ruled_so}
use Rattle.coda_shelves.specs.Cells.{Cell, asked, failed, after_all}
use Rattle.coda_shelves.specs.Lines.{refused_full, refused_fault, Lacks, Fits as FitsEvents, Stop, EndsBy}
use Rattle.coda_site.specs.Chunks.{replica_by, ClientEnds, ReplicaEnds}
use Rattle.coda_site.specs.Sites.{is_replica_disk, IsSite, IsReady}
use Rattle.coda_site.specs.declared.fault.CellFault.{CellFault}
use Rattle.coda_site.specs.declared.fault.CellFault.TheVariants as cell_fault
use Rattle.coda_site.specs.declared.site.Place.{Place}
use Rattle.coda_site.specs.declared.site.Site.{Site}
use Rattle.coda_site.proofs.Becomings.{RepliesTo, refused_replies}
use Rattle.coda_site.proofs.ClientSites.{IsClientUp, client_shown, Leaves, longer, history_left, after_both, fits_both, with_clients, still_ready}
use Rattle.coda_site.proofs.ReplicaSites.{StandsAt, IsReplicaUp, decided_left, with_replicas, ruled_site, still_site, stopped_site, lacks_there, fits_one}

-- ---- one stage behind another

-- what ends behind events that all happened
pub ends_behind : (cell : Cell) (front events : List Event) (own reply : Reply) (new : Cell) → FitsEvents cell front → EndsBy (after_all cell front) events own reply new → EndsBy cell (front ++ events) own reply new
ends_behind cell front events own reply new fits (inl (more, said, left)) = inl (fits_both cell front events fits more, said, left ∙ sym (after_both cell front events))
ends_behind cell front events own reply new fits (inr (inl (stop, more, lacks, said, left))) = inr (inl (
  record { done = front ++ stop.done; next = stop.next; rest = stop.rest; is = ap (λ l. front ++ l) stop.is ∙ sym (append_assoc front stop.done _) },
  fits_both cell front stop.done fits more,
  subst (λ (c : Cell). Lacks c stop.next) (sym (after_both cell front stop.done)) lacks,
  said,
  left ∙ sym (after_both cell front stop.done),
))
ends_behind cell front events own reply new fits (inr (inr (stop, more, said, left))) = inr (inr (
  record { done = front ++ stop.done; next = stop.next; rest = stop.rest; is = ap (λ l. front ++ l) stop.is ∙ sym (append_assoc front stop.done _) },
  fits_both cell front stop.done fits more,
  said,
  left ∙ ap (λ (c : Cell). failed c stop.next) (sym (after_both cell front stop.done)),
))

-- what ends by a cell, and the site that stands for it
abbrev pub EndsAt : {D : Type 0} → (D → Told) → (ℕ → Bool) → (ℕ → Told) → Cell → List Event → Reply → Reply → Site D → Type 0
EndsAt told out has cell events own reply site = (left : Cell) × EndsBy cell events own reply left × IsSite told out has left site

-- ---- a client's stage that is refused

-- its entries are the first of the events, and it is refused as it was to be where it was to be
pub record IsFirst (n : ℕ) (entries : List ClientEntry) {A : Type 0} (said : Result A Refused) (events : List Event) (own : Reply) : Type 0 where
  pub more : List Event
  pub is : events ≡ map (at_client n) entries ++ more
  pub stays : (why : Refused) → said ≡ Err why → (own ≡ refusal why) × (more ≡ [])

module _ {D A B : Type 0} (told : D → Told) (out : ℕ → Bool) (has : ℕ → Told) (cell : Cell) (n : ℕ) (entries : List ClientEntry) (said : Result A Refused) (IsAs : A → B → Type 0) (site : Site D) (events : List Event) (own : Reply) (first : IsFirst n entries said events own) where
  abbrev stop : Cut entries → Stop events
  stop cut = record {
    done = map (at_client n) cut.done;
    next = AtClient n cut.next;
    rest = map (at_client n) cut.rest ++ first.more;
    is = first.is ∙ ap (λ (l : List ClientEntry). map (at_client n) l ++ first.more) cut.is ∙ ap (λ (l : List Event). l ++ first.more) (map-append (at_client n) cut.done (cut.next ∷ cut.rest))
        ∙ append_assoc (map (at_client n) cut.done) (at_client n cut.next ∷ map (at_client n) cut.rest) first.more;
  }

  whole : (why : Refused) (reply : Reply) → said ≡ Err why → reply ≡ refusal why → FitsEvents cell (map (at_client n) entries) → IsSite told out has (after_all cell (map (at_client n) entries)) site → EndsAt told out has cell events own reply site
  whole why reply e replied fits is =
      let stays = first.stays why e in
      let all : events ≡ map (at_client n) entries = first.is ∙ ap (λ (l : List Event). map (at_client n) entries ++ l) stays.1 ∙ append-nil (map (at_client n) entries) in
      (after_all cell (map (at_client n) entries), inl (subst (FitsEvents cell) (sym all) fits, replied ∙ sym stays.0, ap (after_all cell) (sym all)), is)

  pub client_refused : (f : B → Reply) (why : VenusRefused) (reply : Reply) → Leaves told out has cell n entries said IsAs site (Err why) → RepliesTo f (Err why) reply → EndsAt told out has cell events own reply site
  client_refused f reason.JournalFull reply (inl ends) is = whole refused.JournalFull reply ends.0 is ends.1 ends.2
  client_refused f reason.JournalFull reply (inr ends) is = (after_all cell (map (at_client n) ends.0.done), inr (inl (stop ends.0, ends.1, ends.2, is, refl)), ends.3)
  client_refused f reason.DiskFault reply ends is = (failed (after_all cell (map (at_client n) ends.0.done)) (AtClient n ends.0.next), inr (inr (stop ends.0, ends.1, is, refl)), ends.2)
  client_refused f reason.Memory reply ends is = absurd is
  client_refused f reason.Down reply ends is = absurd ends
  client_refused f (reason.TooBig length) reply ends is = whole (client_refused_as (reason.TooBig length)) reply ends.0 is ends.1 ends.2
  client_refused f reason.NotFound reply ends is = whole (client_refused_as reason.NotFound) reply ends.0 is ends.1 ends.2
  client_refused f reason.NotDir reply ends is = whole (client_refused_as reason.NotDir) reply ends.0 is ends.1 ends.2
  client_refused f reason.Exists reply ends is = whole (client_refused_as reason.Exists) reply ends.0 is ends.1 ends.2
  client_refused f reason.IsDir reply ends is = whole (client_refused_as reason.IsDir) reply ends.0 is ends.1 ends.2
  client_refused f reason.NotFile reply ends is = whole (client_refused_as reason.NotFile) reply ends.0 is ends.1 ends.2
  client_refused f reason.NotEmpty reply ends is = whole (client_refused_as reason.NotEmpty) reply ends.0 is ends.1 ends.2
  client_refused f reason.Loop reply ends is = whole (client_refused_as reason.Loop) reply ends.0 is ends.1 ends.2
  client_refused f (reason.Need fid) reply ends is = whole (client_refused_as (reason.Need fid)) reply ends.0 is ends.1 ends.2
  client_refused f reason.LogFull reply ends is = whole (client_refused_as reason.LogFull) reply ends.0 is ends.1 ends.2
  client_refused f (reason.Frozen number home) reply ends is = whole (client_refused_as (reason.Frozen number home)) reply ends.0 is ends.1 ends.2
  client_refused f reason.Nothing reply ends is = whole (client_refused_as reason.Nothing) reply ends.0 is ends.1 ends.2
  client_refused f (reason.Young age window) reply ends is = whole (client_refused_as (reason.Young age window)) reply ends.0 is ends.1 ends.2
  client_refused f (reason.NotFrozen number) reply ends is = whole (client_refused_as (reason.NotFrozen number)) reply ends.0 is ends.1 ends.2
  client_refused f (reason.WrongNumber frozen number) reply ends is = whole (client_refused_as (reason.WrongNumber frozen number)) reply ends.0 is ends.1 ends.2

-- ---- a client that is up, later

module _ {D : Type 0} (told : D → Told) (out : ℕ → Bool) (cell : Cell) (n : ℕ) (header : Header) where
  -- behind entries of its own
  pub up_on : (slots later : BTreeMap ℕ (Slot (Venus D) D)) (venus new : Venus D) (entries : List ClientEntry) → IsClientUp told out cell slots n header venus → slot_at later n ≡ Started header new
      → IsUp told header new (journal_by ((cell.clients n).disk.history ++ entries)) → IsClientHistory header ((cell.clients n).disk.history ++ entries)
      → IsClientUp told out (after_all cell (map (at_client n) entries)) later n header new
  up_on slots later venus new entries up slot runs lawful = record {
    slot = slot;
    lent = up.lent;
    up = subst (λ (a : PlainActor ClientEntry). IsUp told header new (journal_by a.disk.history)) (sym actor_is) runs;
    lawful = subst (λ (a : PlainActor ClientEntry). IsClientHistory header a.disk.history) (sym actor_is) lawful;
    number = up.number;
    life = life_is;
    shown = client_shown now n header (ap asked life_is) up.number;
    header_asked = up.header_asked;
    given = ap (λ (a : PlainActor ClientEntry). a.disk.header) actor_is ∙ up.given;
    left = ap (λ (a : PlainActor ClientEntry). a.left) actor_is ∙ up.left;
    none_failed = ap (λ (a : PlainActor ClientEntry). a.disk.failed) actor_is ∙ up.none_failed;
  }
    where
      now : Cell
      now = after_all cell (map (at_client n) entries)

      actor_is : now.clients n ≡ longer entries (cell.clients n)
      actor_is = history_left cell n entries

      life_is : (now.clients n).life ≡ Up header
      life_is = ap (λ (a : PlainActor ClientEntry). a.life) actor_is ∙ up.life

  -- behind entries of a replica
  pub up_beside : (slots : BTreeMap ℕ (Slot (Venus D) D)) (venus : Venus D) (volume : ℕ) (place : Place) (at : StandsAt cell.rows volume place) (entries : List ReplicaEntry) → IsClientUp told out cell slots n header venus
      → IsClientUp told out (after_all cell (entries_at place.server volume entries)) slots n header venus
  up_beside slots venus volume place at entries up = subst (λ (c : Cell). IsClientUp told out c slots n header venus) (sym (decided_left cell volume place at entries)) (record {
    slot = up.slot;
    lent = up.lent;
    up = up.up;
    lawful = up.lawful;
    number = up.number;
    life = up.life;
    shown = up.shown;
    header_asked = up.header_asked;
    given = up.given;
    left = up.left;
    none_failed = up.none_failed;
  })

-- what a replica's entries leave of the clients' histories
pub clients_still : (cell : Cell) (volume : ℕ) (place : Place) (at : StandsAt cell.rows volume place) (entries : List ReplicaEntry) (n : ℕ) → (after_all cell (entries_at place.server volume entries)).clients n ≡ cell.clients n
clients_still cell volume place at entries n = ap (λ (c : Cell). c.clients n) (decided_left cell volume place at entries)

-- ---- a replica's stage

-- its entries are the first of the events, and it is refused as it was to be where it was to be
pub record IsRuledFirst (server volume : ℕ) (wanted : Result Ruling Refused) (events : List Event) (own : Reply) : Type 0 where
  pub goes : (ruled : Ruling) → wanted ≡ Ok ruled → (more : List Event) × (events ≡ entries_at server volume ruled.entries ++ more)
  pub stays : (why : Refused) → wanted ≡ Err why → (own ≡ refusal why) × (events ≡ [])

-- what is replied where a replica's call failed
abbrev pub UnruledReply : ReplicaFault → Reply → Type 0
UnruledReply fault.JournalFull reply = reply ≡ refused_full
UnruledReply fault.DiskFault reply = reply ≡ refused_fault
UnruledReply fault.Memory reply = ⊥
UnruledReply why reply = Unit {0}

-- a ruling adds its decision, or nothing
pub decided_once : (client number : ℕ) (span : List Record) (r : ReplicaState) (ruled : Ruling) → ruling client number span r ≡ Ok ruled → (ruled.entries ≡ []) ⊎ (ruled.entries ≡ Decided client number span ∷ [])
decided_once client number span r ruled e = by (is_next (r.lasts client) number) (nat_lt 4294967295 number) e
  where
    by : (next full : Bool) → ruling_of next full client number span r ≡ Ok ruled → (ruled.entries ≡ []) ⊎ (ruled.entries ≡ Decided client number span ∷ [])
    by true true e = cc
    by true false e = (let same : decides client number span r ≡ ruled = cc in inr (ap (λ (x : Ruling). x.entries) (sym same)))
    by false full e =
        let tells : Ruling = record { answer = told_of (r.lasts client) number; entries = []; replica = r } in
        let same : tells ≡ ruled = cc in
        inl (ap (λ (x : Ruling). x.entries) (sym same))

module _ {D : Type 0} (told : D → Told) (out : ℕ → Bool) (has : ℕ → Told) (cell : Cell) (site : Site D) (is : IsSite told out has cell site) (volume : ℕ) (place : Place) (at : StandsAt cell.rows volume place)
    (slots : BTreeMap ℕ (Slot (Replica D) D)) (kept_slots : KeepsOtherSlots place.disk site.replicas slots) (header : Header) (old new : Replica D) (lent : out place.disk ≡ true)
    (up : IsReplicaUp told volume place.server (cell.replicas at.row place.server) header old) (put : slot_at slots place.disk ≡ Started header new)
    (client number : ℕ) (span : List Record) where
  abbrev history : List ReplicaEntry
  history = (cell.replicas at.row place.server).disk.history

  abbrev wanted : Result Ruling Refused
  wanted = ruling client number span (replica_by header history)

  -- it ruled
  module _ (ruled : Ruling) (wanted_is : wanted ≡ Ok ruled) (stands : IsRulerUp told header new (journal_at header.number (history ++ ruled.entries))) where
    pub ruled_fits : FitsEvents cell (entries_at place.server volume ruled.entries)
    ruled_fits = elim (decided_once client number span (replica_by header history) ruled wanted_is) [
      | inl none ↦ subst (λ (l : List ReplicaEntry). FitsEvents cell (entries_at place.server volume l)) (sym none) tt
      | inr one ↦ subst (λ (l : List ReplicaEntry). FitsEvents cell (entries_at place.server volume l)) (sym one)
          (fits_one cell volume place at header up.number up.life told new (Decided client number span) _ refl
          (subst (λ (l : List ReplicaEntry). IsRulerUp told header new (journal_at header.number (history ++ l))) one stands))
    ]

    pub ruled_left : IsSite told out has (after_all cell (entries_at place.server volume ruled.entries)) (with_replicas site slots)
    ruled_left = ruled_site told out has cell site is volume place at slots kept_slots header old new lent up put ruled.entries stands
        (ruled_so header history up.lawful client number span ruled wanted_is stands.lawful).lawful

  -- it didn't
  pub replica_refused : (events : List Event) (own : Reply) → IsRuledFirst place.server volume wanted events own → (why : ReplicaFault) (reply : Reply) → RulingEnds told header history wanted new (Err why) → UnruledReply why reply
      → EndsAt told out has cell events own reply (with_replicas site slots)
  replica_refused events own first fault.JournalFull reply (inl none, stands) replied =
      let stays = first.stays refused.JournalFull none in (
        cell,
        inl (subst (FitsEvents cell) (sym stays.1) tt, replied ∙ sym stays.0, ap (after_all cell) (sym stays.1)),
        still_site told out has cell site is volume place at slots kept_slots header old new lent up put stands,
      )
  replica_refused events own first fault.JournalFull reply (inr (ruled, ruled_is, adds, lacks), stands) replied =
      let goes = first.goes ruled ruled_is in (
        cell,
        inr (inl (
          record { done = []; next = AtReplica place.server volume adds.entry; rest = goes.0; is = goes.1 ∙ ap (λ (l : List ReplicaEntry). entries_at place.server volume l ++ goes.0) adds.adds },
          tt,
          lacks_there cell volume place at header up.number up.life adds.entry adds.kept adds.is lacks,
          replied,
          refl,
        )),
        still_site told out has cell site is volume place at slots kept_slots header old new lent up put stands,
      )
  replica_refused events own first fault.DiskFault reply (ruled, ruled_is, adds, down, stands) replied =
      let goes = first.goes ruled ruled_is in (
        failed cell (AtReplica place.server volume adds.entry),
        inr (inr (record { done = []; next = AtReplica place.server volume adds.entry; rest = goes.0; is = goes.1 ∙ ap (λ (l : List ReplicaEntry). entries_at place.server volume l ++ goes.0) adds.adds }, tt, replied, refl)),
        stopped_site told out has cell site is volume place at slots kept_slots header old new lent up put adds.entry adds.kept adds.is down stands,
      )
  replica_refused events own first fault.Memory reply ends replied = absurd replied
  replica_refused events own first fault.Down reply ends replied = absurd ends
  replica_refused events own first fault.NotFound reply ends replied = absurd ends

-- ---- what a site is, whatever it stands for

-- a slot whose actor is up
pub slot_started : {A D : Type 0} (form : Form A D) (slot : Slot A D) → is_up form slot ≡ true → (header : Header) × (actor : A) × (slot ≡ Started header actor)
slot_started form Vacant up = absurd (false≢true up)
slot_started form (Spare disk) up = absurd (false≢true up)
slot_started form (Stopped header disk) up = absurd (false≢true up)
slot_started form (Started header actor) up = (header, actor, refl)

still_out : {D : Type 0} (of lent : Bool) (header : Header) (old new : Replica D) → OutAt {A = Replica D} {D = D} of lent (Started header old) → OutAt {A = Replica D} {D = D} of lent (Started header new)
still_out true lent header old new is = is
still_out false lent header old new is = cc

module _ {D : Type 0} (told : D → Told) (out : ℕ → Bool) (site : Site D) (ready : IsReady told out site) where
  -- a client that was up in its slot is there still
  pub client_ready : {P : Header → List ClientEntry → Venus D → Type 0} (slots : BTreeMap ℕ (Slot (Venus D) D)) (n : ℕ) → is_up (client_form told) (slot_at site.clients n) ≡ true
      → ClientEnds told n site.clients slots P → KeepsOtherSlots n site.clients slots → IsReady told out (with_clients site slots)
  client_ready slots n up ends others =
      let was = slot_started (client_form told) (slot_at site.clients n) up in
      let left = ends was.0 was.1 was.2 in
      still_ready told out site slots n was.0 was.1 left.0 was.2 others left.1 ready

  -- and so is a replica
  pub replica_ready : {P : Header → List ReplicaEntry → Replica D → Type 0} (slots : BTreeMap ℕ (Slot (Replica D) D)) (n : ℕ) → is_up (replica_form told) (slot_at site.replicas n) ≡ true
      → ReplicaEnds told n site.replicas slots P → KeepsOtherSlots n site.replicas slots → IsReady told out (with_replicas site slots)
  replica_ready slots n up ends others =
      let was = slot_started (replica_form told) (slot_at site.replicas n) up in
      let left = ends was.0 was.1 was.2 in
      record {
        clients = ready.clients;
        replicas = λ k. elim (cases_eq k n) [
          | inl same ↦ subst (λ (m : ℕ). OutAt (is_replica_disk m) (out m) (slot_at slots m)) (sym same)
              (subst (OutAt (is_replica_disk n) (out n)) (sym left.1) (still_out (is_replica_disk n) (out n) was.0 was.1 left.0 (subst (OutAt (is_replica_disk n) (out n)) was.2 (ready.replicas n))))
          | inr other ↦ subst (OutAt (is_replica_disk k) (out k)) (sym (others k other)) (ready.replicas k)
        ];
        clients_own = ready.clients_own;
        replicas_own = λ k. elim (cases_eq k n) [
          | inl same ↦ subst (λ (m : ℕ). AsksOwn (replica_form told) (slot_at slots m)) (sym same)
              (subst (AsksOwn (replica_form told)) (sym left.1) (subst (AsksOwn (replica_form told)) was.2 (ready.replicas_own n)))
          | inr other ↦ subst (AsksOwn (replica_form told)) (sym (others k other)) (ready.replicas_own k)
        ];
        few = ready.few;
        places = ready.places;
        made = λ k made. elim (cases_eq k n) [
          | inl same ↦ ready.made k (subst (λ (m : ℕ). is_made (slot_at site.replicas m) ≡ true) (sym same) (ap is_made was.2))
          | inr other ↦ ready.made k (ap is_made (sym (others k other)) ∙ made)
        ];
        areas = ready.areas;
      }

-- ---- replies

pub if_ok : {A B : Type 0} (P : A → Type 0) (result : Result A B) → ((x : A) → result ≡ Ok x → P x) → IfOk result P
if_ok P (Ok x) holds = holds x refl
if_ok P (Err e) holds = tt

pub said_ok : {A B : Type 0} (P : A → Type 0) (result : Result A B) (x : A) → result ≡ Ok x → IfOk result P → P x
said_ok P result x e holds = subst (λ (r : Result _ _). IfOk r P) e holds

-- no reply is want of memory
no_memory : (result : Result Reply CellFault) (reply : Reply) (why : CellFault) → result ≡ Ok reply → result ≡ Err why → ⊥
no_memory result reply why e memory = (let r : Result Reply CellFault = Ok reply in let no : r ≡ Err why = sym e ∙ memory in cc)

pub refused_reply : {B : Type 0} (f : B → Reply) (result : Result Reply CellFault) (why : VenusRefused) (reply : Reply) → result ≡ Ok reply
    → (why ≢ reason.Down → why ≢ reason.DiskFault → IfOk result (λ said. said ≡ refusal (client_refused_as why))) → (why ≡ reason.DiskFault → IfOk result (λ said. said ≡ refused_fault))
    → (why ≡ reason.Memory → result ≡ Err cell_fault.Memory) → RepliesTo f (Err why) reply
refused_reply f result why reply e own stops memory = refused_replies f why reply (λ is. no_memory result reply cell_fault.Memory e (memory is))
    (λ up runs. said_ok (λ said. said ≡ refusal (client_refused_as why)) result reply e (own up runs)) (λ is. said_ok (λ said. said ≡ refused_fault) result reply e (stops is))

same_ok : (x y : Reply) → (let r : Result Reply CellFault = Ok x in r ≡ Ok y) → x ≡ y
same_ok x y e = cc

pub unruled_reply : (result : Result Reply CellFault) (why : ReplicaFault) (reply : Reply) → result ≡ Ok reply → (why ≡ fault.JournalFull → result ≡ Ok refused_full) → (why ≡ fault.DiskFault → result ≡ Ok refused_fault)
    → (why ≡ fault.Memory → result ≡ Err cell_fault.Memory) → UnruledReply why reply
unruled_reply result fault.JournalFull reply e full stops memory = same_ok reply refused_full (sym e ∙ full refl)
unruled_reply result fault.DiskFault reply e full stops memory = same_ok reply refused_fault (sym e ∙ stops refl)
unruled_reply result fault.Memory reply e full stops memory = no_memory result reply cell_fault.Memory e (memory refl)
unruled_reply result fault.Down reply e full stops memory = tt
unruled_reply result fault.NotFound reply e full stops memory = tt
