-- The client that is up in a site: what the cell has of it, and the cell that its entries leave.
use Rattle.std.proofs.Common.{◌≡◌, ◌≢◌, ◌⊎◌, inl, inr, ℕ, ◌+◌, ◌≤◌, ◌==◌, Bool, true, false, cond, List, [], ◌∷◌, ◌++◌, append-nil, map, drop, length, Option, Some, None, Result, Ok, Err, refl, sym, ap, subst, ◌∙◌, arith}
use Rattle.std.proofs.lemmas.Bool.{cases_eq, false≢true, eqb-true}
use Rattle.std.proofs.lemmas.Bool.Decides.{nat_tests}
use Rattle.std.proofs.lemmas.List.{append_assoc, map-append, length-append, length-take}
use Rattle.std.specs.Prelude.{not}
use Rattle.std.specs.Option.{option_map}
use Rattle.std.specs.Int.{w32}
use Rattle.std.specs.BTreeMap.{BTreeMap}
use Rattle.coda_disk.specs.Told.{Told}
use Rattle.coda_journal.specs.Entries.{blocks, body}
use Rattle.coda_journal.specs.Header.{area_bytes}
use Rattle.coda_journal.specs.Image.{Reads, ReadsAs, area_of, start_of}
use Rattle.coda_journal.specs.declared.header.Header.{Header}
use Rattle.coda_actors.specs.Clients.{client_form}
use Rattle.coda_actors.specs.Fits.{StandsFor as ActorStands, Echoes, Fits, FitsDown, FitsUp, AsksOwn}
use Rattle.coda_actors.specs.Form.{IsAsked}
use Rattle.coda_actors.specs.Plain.{Up, PlainActor}
use Rattle.coda_actors.specs.Replicas.{replica_form}
use Rattle.coda_actors.specs.Slots.{is_up}
use Rattle.coda_actors.specs.declared.slot.Slot.{Slot}
use Rattle.coda_actors.specs.declared.slot.Slot.TheVariants.{Vacant, Spare, Stopped, Started}
use Rattle.coda_crew.specs.Crews.{slot_at, KeepsOtherSlots, FitsAll, OutAt, LeavesBe}
use Rattle.coda_crew.proofs.Lifts.{left_fits}
use Rattle.coda_plain.specs.Cell.{ClientEntry}
use Rattle.coda_plain.specs.Moves.{AtClient}
use Rattle.coda_plain.proofs.Soundness.{none_joins}
use Rattle.coda_replica.proofs.Reading.{blocks_append}
use Rattle.coda_venus.specs.History.{Payload, payload_of, payloads_of}
use Rattle.coda_venus.specs.Standing.{IsUp, StandsFor}
use Rattle.coda_venus.specs.declared.refused.Refused.{Refused as VenusRefused}
use Rattle.coda_venus.specs.declared.refused.Refused.TheVariants as reason
use Rattle.coda_venus.specs.declared.venus.Venus.{Venus}
use Rattle.coda_cell.specs.State.{Event, at_client}
use Rattle.coda_cell.specs.Made.{client_of}
use Rattle.coda_cell.specs.Refused.{Refused}
use Rattle.coda_cell.specs.Refused as refused
use Rattle.coda_matching.specs.Clients.{journal_by, payload_by, IsClientHistory, Cut, LacksRoom, Ends}
use Rattle.coda_cell.specs.Refusing.{client_refused_as}
use Rattle.coda_shelves.specs.Shelves.{client_journal}
use Rattle.coda_shelves.specs.Cells.{Cell, asked, state_of, with_client, fallen, failing, failed, after, after_all}
use Rattle.coda_shelves.specs.Lines.{LacksUnder, Lacks, Fits as FitsEvents}
use Rattle.coda_shelves.specs.Running.{IsKept}
use Rattle.coda_site.specs.Sites.{is_client_disk, is_replica_disk, as_journal, IsSite, IsReady}
use Rattle.coda_site.specs.declared.site.Site.{Site}

-- ---- the client that is up

-- The slot of this number has a client that is up, and this is what the cell has of it.
pub record IsClientUp {D : Type 0} (told : D → Told) (out : ℕ → Bool) (cell : Cell) (slots : BTreeMap ℕ (Slot (Venus D) D)) (n : ℕ) (header : Header) (venus : Venus D) : Type 0 where
  pub slot : slot_at slots n ≡ Started header venus
  pub lent : out n ≡ true
  pub up : IsUp told header venus (journal_by (cell.clients n).disk.history)
  pub lawful : IsClientHistory header (cell.clients n).disk.history
  pub number : header.number ≡ n
  pub life : (cell.clients n).life ≡ Up header
  pub shown : (state_of cell).clients n ≡ Some (client_of header.number (cell.clients n).disk.history header.cache)
  pub header_asked : IsAsked (client_form told) header
  pub given : (cell.clients n).disk.header ≡ Some header
  pub left : (cell.clients n).left ≡ None
  pub none_failed : (cell.clients n).disk.failed ≡ None

-- the clients of a cell as their journals have them
abbrev pub plain_clients : Cell → ℕ → PlainActor Payload
plain_clients cell n = as_journal client_journal (cell.clients n)

pub started_up : {D : Type 0} (told : D → Told) (slot : Slot (Venus D) D) → is_up (client_form told) slot ≡ true → (header : Header) × (venus : Venus D) × (slot ≡ Started header venus) × (venus.down ≡ false)
started_up told Vacant up = absurd (false≢true up)
started_up told (Spare disk) up = absurd (false≢true up)
started_up told (Stopped header disk) up = absurd (false≢true up)
started_up told (Started header venus) up = (header, venus, refl, by venus.down up)
  where
    by : (b : Bool) → not b ≡ true → b ≡ false
    by true e = absurd (false≢true e)
    by false e = refl

none_mapped : {A B : Type 0} (f : A → B) (o : Option A) → option_map f o ≡ None → o ≡ None
none_mapped f None is = refl
none_mapped f (Some x) is = cc

-- what a client is by its history, where it asks for this header
pub client_shown : (cell : Cell) (n : ℕ) (header : Header) → asked (cell.clients n).life ≡ Some header → header.number ≡ n → (state_of cell).clients n ≡ Some (client_of header.number (cell.clients n).disk.history header.cache)
client_shown cell n header asks number =
    ap (option_map (λ (h : Header). client_of n (cell.clients n).disk.history h.cache)) asks ∙ ap (λ (m : ℕ). Some (client_of m (cell.clients n).disk.history header.cache)) (sym number)

module _ {D : Type 0} (told : D → Told) (out : ℕ → Bool) (has : ℕ → Told) (cell : Cell) (kept : IsKept cell) where
  -- the deeds of a client are lawful
  pub lawful_deeds : (n : ℕ) (header : Header) (venus : Venus D) → IsUp told header venus (journal_by (cell.clients n).disk.history) → IsClientHistory header (cell.clients n).disk.history
  lawful_deeds n header venus up = record { journal = up.lawful; deeds = (kept.shelves.agree none_joins).lawful n }

  -- the header that a client asks for has its number
  pub client_number : (n : ℕ) (header : Header) → asked (cell.clients n).life ≡ Some header → header.number ≡ n
  client_number n header asks = let own = kept.clients_ask n header asks in ap (λ (h : Header). h.number) own.7

  -- a slot that holds a client that is up, by what the slot and the disks stand for
  pub up_from : (slots : BTreeMap ℕ (Slot (Venus D) D)) (n : ℕ) (header : Header) (venus : Venus D) → FitsAll (client_form told) told is_client_disk out has slots (plain_clients cell) → is_client_disk n ≡ true
      → slot_at slots n ≡ Started header venus → venus.down ≡ false → IsClientUp told out cell slots n header venus
  up_from slots n header venus fits here slot runs =
      let f : Fits (client_form told) told (out n) (has n) (Started header venus) (plain_clients cell n) = subst (λ (s : Slot (Venus D) D). Fits (client_form told) told (out n) (has n) s (plain_clients cell n)) slot (fits n here) in
      elim f.1 [
        | inl up ↦ (
            let number = client_number n header (ap asked up.life) in
            record {
              slot = slot;
              lent = f.0;
              up = up.up;
              lawful = lawful_deeds n header venus up.up;
              number = number;
              life = up.life;
              shown = client_shown cell n header (ap asked up.life) number;
              header_asked = up.asked;
              given = up.given;
              left = up.left;
              none_failed = none_mapped payload_by (cell.clients n).disk.failed up.failed;
            })
        | inr down ↦ absurd (false≢true (sym runs ∙ down.0))
      ]

  -- the client that is up
  pub up_at : (site : Site D) (n : ℕ) → IsSite told out has cell site → is_client_disk n ≡ true → is_up (client_form told) (slot_at site.clients n) ≡ true
      → (header : Header) × (venus : Venus D) × IsClientUp told out cell site.clients n header venus
  up_at site n is here up = (let s = started_up told (slot_at site.clients n) up in (s.0, s.1, up_from site.clients n s.0 s.1 is.clients here s.2 s.3))

-- ---- the cell that entries of a client leave

-- an actor with entries more
abbrev pub longer : {E : Type 0} → List E → PlainActor E → PlainActor E
longer entries actor = record actor { disk = record actor.disk { history = actor.disk.history ++ entries } }

-- the client with these entries more
abbrev pub with_entries : Cell → ℕ → List ClientEntry → Cell
with_entries cell n entries = with_client cell n (longer entries (cell.clients n))

pub client_here : (cell : Cell) (n : ℕ) (actor : PlainActor ClientEntry) → (with_client cell n actor).clients n ≡ actor
client_here cell n actor = let e : (n == n) ≡ true = grind (arith, nat_tests) in ap (λ (b : Bool). cond b actor (cell.clients n)) e

pub client_else : (cell : Cell) (n k : ℕ) (actor : PlainActor ClientEntry) → k ≢ n → (with_client cell n actor).clients k ≡ cell.clients k
client_else cell n k actor other = elim (k == n) as (λ (b : Bool). (k == n) ≡ b → cond b actor (cell.clients k) ≡ cell.clients k) [
  | true ↦ λ e. absurd (other (eqb-true k n e))
  | false ↦ λ e. refl
] refl

pub client_same : (cell : Cell) (n : ℕ) (actor : PlainActor ClientEntry) → actor ≡ cell.clients n → with_client cell n actor ≡ cell
client_same cell n actor same = λ i. record cell { clients = λ k. at k i }
  where
    at : (k : ℕ) → cond (k == n) actor (cell.clients k) ≡ cell.clients k
    at k = elim (k == n) as (λ (b : Bool). (k == n) ≡ b → cond b actor (cell.clients k) ≡ cell.clients k) [
      | true ↦ λ e. same ∙ ap cell.clients (sym (eqb-true k n e))
      | false ↦ λ e. refl
    ] refl

client_twice : (cell : Cell) (n : ℕ) (a b : PlainActor ClientEntry) → with_client (with_client cell n a) n b ≡ with_client cell n b
client_twice cell n a b = λ i. record cell { clients = λ k. at k i }
  where
    at : (k : ℕ) → cond (k == n) b (cond (k == n) a (cell.clients k)) ≡ cond (k == n) b (cell.clients k)
    at k = elim (k == n) as (λ (x : Bool). cond x b (cond x a (cell.clients k)) ≡ cond x b (cell.clients k)) [ true ↦ refl | false ↦ refl ]

-- the cell behind entries of one client has them in its history
pub entries_left : (cell : Cell) (n : ℕ) (entries : List ClientEntry) → after_all cell (map (at_client n) entries) ≡ with_entries cell n entries
entries_left cell n [] = sym (client_same cell n (longer [] (cell.clients n)) (ap (λ (h : List ClientEntry). record (cell.clients n) { disk = record (cell.clients n).disk { history = h } }) (append-nil (cell.clients n).disk.history)))
entries_left cell n (entry ∷ entries) =
    let actor = cell.clients n in
    let one : PlainActor ClientEntry = longer (entry ∷ []) actor in
    entries_left (with_client cell n one) n entries
    ∙ ap (λ (a : PlainActor ClientEntry). with_client (with_client cell n one) n (longer entries a)) (client_here cell n one)
    ∙ client_twice cell n one (longer entries one)
    ∙ ap (λ (h : List ClientEntry). with_client cell n (record actor { disk = record actor.disk { history = h } })) (append_assoc actor.disk.history (entry ∷ []) entries)

pub history_left : (cell : Cell) (n : ℕ) (entries : List ClientEntry) → (after_all cell (map (at_client n) entries)).clients n ≡ longer entries (cell.clients n)
history_left cell n entries = ap (λ (c : Cell). c.clients n) (entries_left cell n entries) ∙ client_here cell n (longer entries (cell.clients n))

-- the append of the next one failed
pub entry_failed : (cell : Cell) (n : ℕ) (entries : List ClientEntry) (next : ClientEntry)
    → failed (after_all cell (map (at_client n) entries)) (AtClient n next) ≡ with_client cell n (failing next (longer entries (cell.clients n)))
entry_failed cell n entries next =
    let one : PlainActor ClientEntry = longer entries (cell.clients n) in
    ap (λ (c : Cell). failed c (AtClient n next)) (entries_left cell n entries)
    ∙ ap (λ (a : PlainActor ClientEntry). with_client (with_client cell n one) n (failing next a)) (client_here cell n one)
    ∙ client_twice cell n one (failing next one)

-- events in a row
pub after_both : (cell : Cell) (front back : List Event) → after_all cell (front ++ back) ≡ after_all (after_all cell front) back
after_both cell [] back = refl
after_both cell (event ∷ front) back = after_both (after cell event) front back

pub fits_both : (cell : Cell) (front back : List Event) → FitsEvents cell front → FitsEvents (after_all cell front) back → FitsEvents cell (front ++ back)
fits_both cell [] back fits more = more
fits_both cell (event ∷ front) back fits more = (fits.0, fits_both (after cell event) front back fits.1 more)

-- ---- room

-- what a disk reads as has room in its area, with a gate behind it
pub reads_fit : (header : Header) (image : List ℕ) (payloads : List (List ℕ)) → Reads header image payloads → length (blocks w32 payloads) + 1 ≤ area_bytes header
reads_fit header image payloads reads =
    let held = reads.entries in
    let long = length-take (area_bytes header) (drop (start_of header image) image) in
    let whole : length (area_of header image) ≡ length (blocks w32 payloads ++ held.gate ∷ held.rest) = ap length held.is in
    let split = length-append (blocks w32 payloads) (held.gate ∷ held.rest) in
    omega (arith, long, whole, split)

-- a journal with these entries has room in its area, with a gate behind it
abbrev HasRoom : Header → List ClientEntry → Type 0
HasRoom header history = length (blocks w32 (payloads_of (journal_by history))) + 1 ≤ area_bytes header

payloads_both : (front back : List ClientEntry) → payloads_of (journal_by (front ++ back)) ≡ payloads_of (journal_by front) ++ payloads_of (journal_by back)
payloads_both front back = ap payloads_of (map-append payload_by front back) ∙ map-append payload_of (journal_by front) (journal_by back)

room_for : (header : Header) (history : List ClientEntry) (entry : ClientEntry) (rest : List ClientEntry) → HasRoom header (history ++ entry ∷ rest) → ¬ LacksRoom header history entry
room_for header history entry rest room lacks =
    let before = payloads_of (journal_by history) in
    let payload = payload_of (payload_by entry) in
    let behind = payloads_of (journal_by rest) in
    let all : length (blocks w32 (payloads_of (journal_by (history ++ entry ∷ rest)))) ≡ length (blocks w32 (before ++ payload ∷ behind)) = ap (λ (p : List (List ℕ)). length (blocks w32 p)) (payloads_both history (entry ∷ rest)) in
    let a = blocks_append before (payload ∷ behind) in
    let b = length-append (body w32 payload) (blocks w32 behind) in
    let c = length-append (body w32 payload) (0 ∷ []) in
    omega (arith, room, lacks, all, a, b, c)

-- each of the entries had room
room_fits : (cell : Cell) (n : ℕ) (header : Header) (done rest : List ClientEntry) → asked (cell.clients n).life ≡ Some header → HasRoom header ((cell.clients n).disk.history ++ (done ++ rest)) → FitsEvents cell (map (at_client n) done)
room_fits cell n header [] rest asks room = tt
room_fits cell n header (entry ∷ done) rest asks room = (
  λ lacks. room_for header (cell.clients n).disk.history entry (done ++ rest) room (subst (λ (o : Option Header). LacksUnder o (cell.clients n).disk entry) asks lacks),
  room_fits (after cell (at_client n entry)) n header done rest (ap (λ (a : PlainActor ClientEntry). asked a.life) (client_here cell n (longer (entry ∷ []) (cell.clients n))) ∙ asks)
      (subst (λ (h : List ClientEntry). HasRoom header (h ++ (done ++ rest))) (sym (ap (λ (a : PlainActor ClientEntry). a.disk.history) (client_here cell n (longer (entry ∷ []) (cell.clients n)))))
      (subst (HasRoom header) (sym (append_assoc (cell.clients n).disk.history (entry ∷ []) (done ++ rest))) room)),
)

up_room : {D : Type 0} (told : D → Told) (header : Header) (venus : Venus D) (history : List ClientEntry) → IsUp told header venus (journal_by history) → HasRoom header history
up_room told header venus history up = reads_fit header (told venus.journal.disk).seen (payloads_of (journal_by history)) up.journal.reads

-- an image that reads as what a disk stands for has room for it
read_room : (header : Header) (image : List ℕ) (history : List ClientEntry) (next : ClientEntry) → ReadsAs header (payloads_of (journal_by history)) image ⊎ ReadsAs header (payloads_of (journal_by history) ++ payload_of (payload_by next) ∷ []) image
    → (payloads_of (journal_by history) ≡ []) ⊎ HasRoom header history
read_room header image history next (inl (inl none)) = inl none.1
read_room header image history next (inl (inr reads)) = inr (reads_fit header image (payloads_of (journal_by history)) reads)
read_room header image history next (inr (inl none)) = (let long = length-append (payloads_of (journal_by history)) (payload_of (payload_by next) ∷ []) in let zero = ap length none.1 in absurd (omega (arith, long, zero)))
read_room header image history next (inr (inr reads)) = (
    let fit = reads_fit header image (payloads_of (journal_by history) ++ payload_of (payload_by next) ∷ []) reads in
    let split = blocks_append (payloads_of (journal_by history)) (payload_of (payload_by next) ∷ []) in
    inr (omega (arith, fit, split)))

none_done : (cell : Cell) (n : ℕ) (history done : List ClientEntry) → payloads_of (journal_by (history ++ done)) ≡ [] → FitsEvents cell (map (at_client n) done)
none_done cell n history [] none = tt
none_done cell n history (entry ∷ done) none = (
    let long = length-append (payloads_of (journal_by history)) (payload_of (payload_by entry) ∷ payloads_of (journal_by done)) in
    let zero = ap length (sym (payloads_both history (entry ∷ done)) ∙ none) in
    absurd (omega (arith, long, zero)))

-- a disk at which an entry failed had room for those before it
stood_fits : (told : Told) (cell : Cell) (n : ℕ) (header : Header) (done : List ClientEntry) (next : ClientEntry) → (told.honest → told.may_leave told.seen) → asked (cell.clients n).life ≡ Some header
    → StandsFor told header (journal_by ((cell.clients n).disk.history ++ done)) (Some (payload_by next)) → FitsEvents cell (map (at_client n) done)
stood_fits told cell n header done next seen asks stands =
    let history = (cell.clients n).disk.history in
    elim (read_room header told.seen (history ++ done) next (stands.images.each told.seen (seen stands.images.honest))) [
      | inl none ↦ none_done cell n history done none
      | inr room ↦ room_fits cell n header done [] asks (subst (λ (d : List ClientEntry). HasRoom header (history ++ d)) (sym (append-nil done)) room)
    ]

-- ---- the site behind the entries of a client

-- a site with other clients
abbrev pub with_clients : {D : Type 0} → Site D → BTreeMap ℕ (Slot (Venus D) D) → Site D
with_clients site slots = record site { clients = slots }

-- What a client's call leaves of a site: all that was to be added is there; or a front of it, where the journal has no room for the next one, or a
-- fault stopped it.
abbrev pub Leaves : {D A B : Type 0} → (D → Told) → (ℕ → Bool) → (ℕ → Told) → Cell → ℕ → List ClientEntry → Result A Refused → (A → B → Type 0) → Site D → Result B VenusRefused → Type 0
Leaves {A = A} told out has cell n entries said IsAs site (Ok b) = (a : A) × (said ≡ Ok a) × IsAs a b × FitsEvents cell (map (at_client n) entries) × IsSite told out has (after_all cell (map (at_client n) entries)) site
Leaves told out has cell n entries said IsAs site (Err reason.JournalFull) =
    ((said ≡ Err refused.JournalFull) × FitsEvents cell (map (at_client n) entries) × IsSite told out has (after_all cell (map (at_client n) entries)) site)
    ⊎ ((cut : Cut entries) × FitsEvents cell (map (at_client n) cut.done) × Lacks (after_all cell (map (at_client n) cut.done)) (AtClient n cut.next) × IsSite told out has (after_all cell (map (at_client n) cut.done)) site)
Leaves told out has cell n entries said IsAs site (Err reason.DiskFault) =
    (cut : Cut entries) × FitsEvents cell (map (at_client n) cut.done) × IsSite told out has (failed (after_all cell (map (at_client n) cut.done)) (AtClient n cut.next)) site
Leaves told out has cell n entries said IsAs site (Err reason.Memory) = (done : List ClientEntry) × (rest : List ClientEntry) × (entries ≡ done ++ rest) × IsSite told out has (after_all cell (map (at_client n) done)) site
Leaves told out has cell n entries said IsAs site (Err reason.Down) = ⊥
Leaves told out has cell n entries said IsAs site (Err why) = (said ≡ Err (client_refused_as why)) × FitsEvents cell (map (at_client n) entries) × IsSite told out has (after_all cell (map (at_client n) entries)) site

module _ {D : Type 0} (told : D → Told) (out : ℕ → Bool) (has : ℕ → Told) (cell : Cell) where
  -- the crew with another client of this number
  pub fits_put : (old new : BTreeMap ℕ (Slot (Venus D) D)) (n : ℕ) (actor : PlainActor ClientEntry) → FitsAll (client_form told) told is_client_disk out has old (plain_clients cell) → KeepsOtherSlots n old new
      → Fits (client_form told) told (out n) (has n) (slot_at new n) (as_journal client_journal actor) → FitsAll (client_form told) told is_client_disk out has new (plain_clients (with_client cell n actor))
  fits_put old new n actor fits others here k is = elim (cases_eq k n) [
    | inl same ↦ subst (λ (m : ℕ). Fits (client_form told) told (out m) (has m) (slot_at new m) (plain_clients (with_client cell n actor) m)) (sym same)
        (subst (λ (a : PlainActor ClientEntry). Fits (client_form told) told (out n) (has n) (slot_at new n) (as_journal client_journal a)) (sym (client_here cell n actor)) here)
    | inr other ↦ subst (λ (s : Slot (Venus D) D). Fits (client_form told) told (out k) (has k) s (plain_clients (with_client cell n actor) k)) (sym (others k other))
        (subst (λ (a : PlainActor ClientEntry). Fits (client_form told) told (out k) (has k) (slot_at old k) (as_journal client_journal a)) (sym (client_else cell n k actor other)) (fits k is))
  ]

  -- the site with another client of this number
  pub site_put : (site : Site D) (slots : BTreeMap ℕ (Slot (Venus D) D)) (n : ℕ) (actor : PlainActor ClientEntry) → IsSite told out has cell site → KeepsOtherSlots n site.clients slots
      → Fits (client_form told) told (out n) (has n) (slot_at slots n) (as_journal client_journal actor) → IsSite told out has (with_client cell n actor) (with_clients site slots)
  site_put site slots n actor is others here = record {
    clock = is.clock;
    servers = is.servers;
    homes = is.homes;
    places = is.places;
    areas = is.areas;
    clients = fits_put site.clients slots n actor is.clients others here;
    replicas = is.replicas;
    net = is.net;
  }

  module _ (site : Site D) (slots : BTreeMap ℕ (Slot (Venus D) D)) (n : ℕ) (header : Header) (venus new : Venus D) (is : IsSite told out has cell site) (up : IsClientUp told out cell site.clients n header venus)
      (others : KeepsOtherSlots n site.clients slots) (put : slot_at slots n ≡ Started header new) where
    -- all entries were added
    pub entered : (entries : List ClientEntry) → IsUp told header new (journal_by ((cell.clients n).disk.history ++ entries)) → IsSite told out has (after_all cell (map (at_client n) entries)) (with_clients site slots)
    entered entries runs =
        let actor : PlainActor ClientEntry = longer entries (cell.clients n) in
        let fits : FitsUp (client_form told) header new (as_journal client_journal actor) = record { life = up.life; asked = up.header_asked; given = up.given; failed = ap (option_map payload_by) up.none_failed; left = up.left; up = runs } in
        subst (λ (c : Cell). IsSite told out has c (with_clients site slots)) (sym (entries_left cell n entries))
        (site_put site slots n actor is others (subst (λ (s : Slot (Venus D) D). Fits (client_form told) told (out n) (has n) s (as_journal client_journal actor)) (sym put) (up.lent, inl fits)))

    -- a fault stopped the next one
    pub stopped : (entries : List ClientEntry) (next : ClientEntry) → new.down ≡ true → StandsFor (told new.journal.disk) header (journal_by ((cell.clients n).disk.history ++ entries)) (Some (payload_by next))
        → IsSite told out has (failed (after_all cell (map (at_client n) entries)) (AtClient n next)) (with_clients site slots)
    stopped entries next down stands =
        let actor : PlainActor ClientEntry = failing next (longer entries (cell.clients n)) in
        let fits : FitsDown (client_form told) (told new.journal.disk) header (as_journal client_journal actor) = record {
          life = ap fallen up.life;
          asked = up.header_asked;
          echoes = subst (Echoes (client_form told) header (told new.journal.disk)) (sym up.left) tt;
          stands = subst (λ (o : Option Header). ActorStands (client_form told) (told new.journal.disk) (record { header = o; history = journal_by actor.disk.history; failed = Some (payload_by next) })) (sym up.given) (record {
            honest = stands.images.honest;
            lawful = (up.header_asked, stands.lawful, stands.next);
            each = stands.images.each;
          });
        } in
        subst (λ (c : Cell). IsSite told out has c (with_clients site slots)) (sym (entry_failed cell n entries next))
        (site_put site slots n actor is others (subst (λ (s : Slot (Venus D) D). Fits (client_form told) told (out n) (has n) s (as_journal client_journal actor)) (sym put) (up.lent, inr (down, fits))))

    -- the entries had room
    pub entries_fit : (done rest : List ClientEntry) → IsUp told header new (journal_by ((cell.clients n).disk.history ++ (done ++ rest))) → FitsEvents cell (map (at_client n) done)
    entries_fit done rest runs = room_fits cell n header done rest (ap asked up.life) (up_room told header new ((cell.clients n).disk.history ++ (done ++ rest)) runs)

    all_fit : (entries : List ClientEntry) → IsUp told header new (journal_by ((cell.clients n).disk.history ++ entries)) → FitsEvents cell (map (at_client n) entries)
    all_fit entries runs = entries_fit entries [] (subst (λ (e : List ClientEntry). IsUp told header new (journal_by ((cell.clients n).disk.history ++ e))) (sym (append-nil entries)) runs)

    -- the journal has no room for the next one
    pub lacks_next : (done : List ClientEntry) (next : ClientEntry) → LacksRoom header ((cell.clients n).disk.history ++ done) next → Lacks (after_all cell (map (at_client n) done)) (AtClient n next)
    lacks_next done next lacks =
        subst (λ (c : Cell). Lacks c (AtClient n next)) (sym (entries_left cell n done))
        (subst (λ (a : PlainActor ClientEntry). LacksUnder (asked a.life) a.disk next) (sym (client_here cell n (longer done (cell.clients n))))
        (subst (λ (o : Option Header). LacksUnder o (longer done (cell.clients n)).disk next) (sym (ap asked up.life)) lacks))

    -- what a call that was to add these entries leaves
    pub leaves : {A B : Type 0} (entries : List ClientEntry) (said : Result A Refused) (IsAs : A → B → Type 0) (result : Result B VenusRefused) → ((told new.journal.disk).honest → (told new.journal.disk).may_leave (told new.journal.disk).seen)
        → Ends told header (cell.clients n).disk.history entries said IsAs new result → Leaves told out has cell n entries said IsAs (with_clients site slots) result
    leaves entries said IsAs (Ok b) seen ends = (ends.0, ends.1, ends.2, all_fit entries ends.3, entered entries ends.3)
    leaves entries said IsAs (Err reason.JournalFull) seen (inl ends) = inl (ends.0, all_fit entries ends.1, entered entries ends.1)
    leaves entries said IsAs (Err reason.JournalFull) seen (inr ends) = inr (ends.0, all_fit ends.0.done ends.2, lacks_next ends.0.done ends.0.next ends.1, entered ends.0.done ends.2)
    leaves entries said IsAs (Err reason.DiskFault) seen ends = (ends.0, stood_fits (told new.journal.disk) cell n header ends.0.done ends.0.next seen (ap asked up.life) ends.2, stopped ends.0.done ends.0.next ends.1 ends.2)
    leaves entries said IsAs (Err reason.Memory) seen ends = (ends.0, ends.1, ends.2, entered ends.0 ends.3)
    leaves entries said IsAs (Err reason.Down) seen ends = absurd ends
    leaves entries said IsAs (Err (reason.TooBig length)) seen ends = (ends.0, all_fit entries ends.1, entered entries ends.1)
    leaves entries said IsAs (Err reason.NotFound) seen ends = (ends.0, all_fit entries ends.1, entered entries ends.1)
    leaves entries said IsAs (Err reason.NotDir) seen ends = (ends.0, all_fit entries ends.1, entered entries ends.1)
    leaves entries said IsAs (Err reason.Exists) seen ends = (ends.0, all_fit entries ends.1, entered entries ends.1)
    leaves entries said IsAs (Err reason.IsDir) seen ends = (ends.0, all_fit entries ends.1, entered entries ends.1)
    leaves entries said IsAs (Err reason.NotFile) seen ends = (ends.0, all_fit entries ends.1, entered entries ends.1)
    leaves entries said IsAs (Err reason.NotEmpty) seen ends = (ends.0, all_fit entries ends.1, entered entries ends.1)
    leaves entries said IsAs (Err reason.Loop) seen ends = (ends.0, all_fit entries ends.1, entered entries ends.1)
    leaves entries said IsAs (Err (reason.Need fid)) seen ends = (ends.0, all_fit entries ends.1, entered entries ends.1)
    leaves entries said IsAs (Err reason.LogFull) seen ends = (ends.0, all_fit entries ends.1, entered entries ends.1)
    leaves entries said IsAs (Err (reason.Frozen number home)) seen ends = (ends.0, all_fit entries ends.1, entered entries ends.1)
    leaves entries said IsAs (Err reason.Nothing) seen ends = (ends.0, all_fit entries ends.1, entered entries ends.1)
    leaves entries said IsAs (Err (reason.Young age window)) seen ends = (ends.0, all_fit entries ends.1, entered entries ends.1)
    leaves entries said IsAs (Err (reason.NotFrozen number)) seen ends = (ends.0, all_fit entries ends.1, entered entries ends.1)
    leaves entries said IsAs (Err (reason.WrongNumber frozen number)) seen ends = (ends.0, all_fit entries ends.1, entered entries ends.1)

-- A bay that left the disks of replicas be, and other clients: one of them is another one, and each else is as it was.
pub client_site : {D : Type 0} (told : D → Told) (out out1 : ℕ → Bool) (has has1 : ℕ → Told) (cell : Cell) (site : Site D) (n : ℕ) (actor : PlainActor ClientEntry) (slots : BTreeMap ℕ (Slot (Venus D) D)) (new : ℕ → PlainActor Payload)
    → IsSite told out has cell site → LeavesBe is_replica_disk out out1 has has1 → FitsAll (client_form told) told is_client_disk out1 has1 slots new → new n ≡ as_journal client_journal actor → ((k : ℕ) → k ≢ n → new k ≡ plain_clients cell k)
    → IsSite told out1 has1 (with_client cell n actor) (with_clients site slots)
client_site {D} told out out1 has has1 cell site n actor slots new is left fits here else = record {
  clock = is.clock;
  servers = is.servers;
  homes = is.homes;
  places = is.places;
  areas = is.areas;
  clients = λ k of. subst (Fits (client_form told) told (out1 k) (has1 k) (slot_at slots k)) (same k) (fits k of);
  replicas = (is.replicas.0, is.replicas.1, left_fits (replica_form told) told is_replica_disk out out1 has has1 site.replicas is.replicas.0 left is.replicas.2);
  net = is.net;
}
  where
    same : (k : ℕ) → new k ≡ plain_clients (with_client cell n actor) k
    same k = elim (cases_eq k n) [
      | inl e ↦ subst (λ (m : ℕ). new m ≡ plain_clients (with_client cell n actor) m) (sym e) (here ∙ ap (as_journal client_journal) (sym (client_here cell n actor)))
      | inr other ↦ else k other ∙ ap (as_journal client_journal) (sym (client_else cell n k actor other))
    ]

-- ---- a site, whatever it stands for

module _ {D : Type 0} (told : D → Told) (out : ℕ → Bool) (site : Site D) (slots : BTreeMap ℕ (Slot (Venus D) D)) (n : ℕ) (header : Header) (old new : Venus D) (was : slot_at site.clients n ≡ Started header old)
    (others : KeepsOtherSlots n site.clients slots) (put : slot_at slots n ≡ Started header new) where
  still_out : (of lent : Bool) → OutAt {A = Venus D} {D = D} of lent (Started header old) → OutAt {A = Venus D} {D = D} of lent (Started header new)
  still_out true lent is = is
  still_out false lent is = cc

  -- another client of the same header in a slot leaves it one
  pub still_ready : IsReady told out site → IsReady told out (with_clients site slots)
  still_ready ready = record {
    clients = λ k. elim (cases_eq k n) [
      | inl same ↦ subst (λ (m : ℕ). OutAt (is_client_disk m) (out m) (slot_at slots m)) (sym same)
          (subst (OutAt (is_client_disk n) (out n)) (sym put) (still_out (is_client_disk n) (out n) (subst (OutAt (is_client_disk n) (out n)) was (ready.clients n))))
      | inr other ↦ subst (OutAt (is_client_disk k) (out k)) (sym (others k other)) (ready.clients k)
    ];
    replicas = ready.replicas;
    clients_own = λ k. elim (cases_eq k n) [
      | inl same ↦ subst (λ (m : ℕ). AsksOwn (client_form told) (slot_at slots m)) (sym same)
          (subst (AsksOwn (client_form told)) (sym put) (subst (AsksOwn (client_form told)) was (ready.clients_own n)))
      | inr other ↦ subst (AsksOwn (client_form told)) (sym (others k other)) (ready.clients_own k)
    ];
    replicas_own = ready.replicas_own;
    few = ready.few;
    places = ready.places;
    made = ready.made;
    areas = ready.areas;
  }
