-- What lines find on the disks that they mount.
use Rattle.std.proofs.Common.{◌≡◌, ◌≢◌, ℕ, Bool, true, false, cond, List, [], ◌∷◌, ◌++◌, length, Option, Some, None, refl, sym, ap, ◌∙◌, subst, inl, inr}
use Rattle.std.specs.Prelude.{get_or}
use Rattle.coda_actors.specs.Plain.{PlainDisk, PlainActor, Mounts, HasOther}
use Rattle.coda_actors.specs.declared.slot.Mounting.{Mounting}
use Rattle.coda_actors.specs.declared.slot.Mounting.TheVariants.{Entries, Foreign, DiskFault, Memory}
use Rattle.coda_journal.specs.Header.{marks}
use Rattle.coda_journal.specs.declared.header.Header.{Header}
use Rattle.coda_plain.specs.Cell.{ClientEntry}
use Rattle.coda_plain.specs.Decisions.{ReplicaEntry}
use Rattle.coda_plain.specs.Histories.{In}
use Rattle.coda_script.specs.declared.line.Line.TheVariants as line
use Rattle.coda_script.specs.declared.reply.Reply.{Reply}
use Rattle.coda_script.specs.declared.reply.Reply.TheVariants.{Opened}
use Rattle.coda_cell.specs.Refusing.{refusal}
use Rattle.coda_cell.specs.Refused.{Refused, NoSuchActor}
use Rattle.coda_cell.specs.State.{put}
use Rattle.coda_cell.specs.Steps.{Named, first_missing, no_room}
use Rattle.coda_cell.proofs.Families.{put_here}
use Rattle.coda_shelves.specs.Shelves.{client_header, replica_header}
use Rattle.coda_shelves.specs.Cells.{Cell, asked, Stand, stand_of, with_client, with_replica}
use Rattle.coda_shelves.specs.Lines.{Becoming, Unless, the_client, the_replica, is_others, opening, made_on, MountsRow, area_of, no_volume, no_client, with_row, MakesVolume, with_made, MakesClient, Payloads, client_payloads, replica_payloads, Recovers, AtReplicaOf, Happens, refused_fault, refused_foreign}
use Rattle.coda_shelves.proofs.Keeping.{same_disk}
use Rattle.coda_shelves.proofs.Mounting.{at_put}
use Rattle.coda_runs.specs.Again.{OwnDisksAreNotForeign, IsHeldByAnother, WhatOthersHoldIsKept, IsCounted, WhatIsMadeAgainIsCounted, StandsOnOthers}
use Rattle.coda_runs.proofs.Running.{place_is}

-- ---- one disk

-- a disk that has this header isn't another's
own_not_other : (header : Header) (given : Option Header) (at : ℕ) → given ≡ Some header → HasOther header given at → ⊥
own_not_other header None at is other = other
own_not_other header (Some h) at is other = (let same : h ≡ header = cc in other.2.other (λ i. get_or (marks (same i)) other.0 0))

other_is : (header : Header) (given : Option Header) (at : ℕ) → HasOther header given at → (other : Header) × (given ≡ Some other) × (other ≢ header)
other_is header None at other = absurd other
other_is header (Some h) at other = (h, refl, λ same. own_not_other header (Some h) at (ap Some same) other)

module _ {E : Type 0} (header : Header) (old new : PlainDisk E) where
  -- a disk with this header has it still
  own_stays : (ending : Mounting) → Mounts header old ending new → old.header ≡ Some header → new.header ≡ Some header
  own_stays (Entries count) m is = m.0.given
  own_stays (Foreign at) m is = ap (λ (d : PlainDisk E). d.header) m.1 ∙ is
  own_stays DiskFault (inl same) is = ap (λ (d : PlainDisk E). d.header) same ∙ is
  own_stays DiskFault (inr fresh) is = ap (λ (d : PlainDisk E). d.header) fresh.1
  own_stays Memory (inl same) is = ap (λ (d : PlainDisk E). d.header) same ∙ is
  own_stays Memory (inr fresh) is = ap (λ (d : PlainDisk E). d.header) fresh.1

  -- and one that another holds stays as it is
  held_stays : (ending : Mounting) → Mounts header old ending new → IsHeldByAnother header old → new ≡ old
  held_stays (Entries count) m (other, is, differs, some) = elim m.0.was [
    | inl own ↦ (let same : Some other ≡ Some header = sym is ∙ own in let one : other ≡ header = cc in absurd (differs one))
    | inr none ↦ absurd (some none.0)
  ]
  held_stays (Foreign at) m held = m.1
  held_stays DiskFault (inl same) held = same
  held_stays DiskFault (inr fresh) (other, is, differs, some) = absurd (some fresh.0)
  held_stays Memory (inl same) held = same
  held_stays Memory (inr fresh) (other, is, differs, some) = absurd (some fresh.0)

-- ---- replies

abbrev opened : List ℕ → Reply
opened counts = Opened counts

not_opened : (counts : List ℕ) (why : Refused) → opened counts ≡ refusal why → ⊥
not_opened counts why e = cc

unless_opened : {A : Type 0} (old : Cell) (counts : List ℕ) (o : Option Refused) (own : Becoming) (outside : List (List ℕ)) (new : Cell) → (own (Opened counts) outside new → A) → Unless old o own (Opened counts) outside new → A
unless_opened old counts (Some why) own outside new rest does = absurd (not_opened counts why does.0)
unless_opened old counts None own outside new rest does = rest does

named_foreign : {A : Type 0} (old : Cell) (at : ℕ) (n : Named) (own : Becoming) (outside : List (List ℕ)) (new : Cell) → (own (refused_foreign at) outside new → A) → Unless old (first_missing (n ∷ [])) own (refused_foreign at) outside new → A
named_foreign {A} old at n own outside new rest does = by n.there does
  where
    by : (b : Bool) → Unless old (cond b None (Some (NoSuchActor n.number))) own (refused_foreign at) outside new → A
    by true does = rest does
    by false does = (let no = does.0 in cc)

room_foreign : {A : Type 0} (old : Cell) (at : ℕ) (there full : Bool) (own : Becoming) (outside : List (List ℕ)) (new : Cell) → (own (refused_foreign at) outside new → A) → Unless old (no_room there full) own (refused_foreign at) outside new → A
room_foreign old at true full own outside new rest does = (let no = does.0 in cc)
room_foreign old at false true own outside new rest does = (let no = does.0 in cc)
room_foreign old at false false own outside new rest does = rest does

-- ---- rows

module _ (others : Bool) (header : ℕ → Header) where
  row_own : (servers : List ℕ) (endings : List Mounting) (old new : ℕ → PlainActor ReplicaEntry) → ((server : ℕ) → In server servers → (old server).disk.header ≡ Some (header server)) → MountsRow others header old servers endings new
      → is_others endings ≡ false
  row_own [] endings old new own m = ap is_others m.0
  row_own (server ∷ servers) [] old new own m = absurd m
  row_own (server ∷ servers) (Foreign at ∷ endings) old new own m = absurd (own_not_other (header server) (old server).disk.header at (own server (inl refl)) m.0)
  row_own (server ∷ servers) (Memory ∷ endings) old new own m = absurd m.0
  row_own (server ∷ servers) (Entries count ∷ endings) old new own (told, (disk, mounts, rest)) = row_own servers endings _ new
      (at_put (λ n a. In n servers → a.disk.header ≡ Some (header n)) old server _
      (λ i. ap (λ (d : PlainDisk ReplicaEntry). d.header) (same_disk others (header server) (old server) disk (Entries count)) ∙ own_stays (header server) (old server).disk disk (Entries count) mounts (own server (inl refl))) (λ n i. own n (inr i))) rest
  row_own (server ∷ servers) (DiskFault ∷ endings) old new own (told, (disk, mounts, rest)) = row_own servers endings _ new
      (at_put (λ n a. In n servers → a.disk.header ≡ Some (header n)) old server _
      (λ i. ap (λ (d : PlainDisk ReplicaEntry). d.header) (same_disk others (header server) (old server) disk DiskFault) ∙ own_stays (header server) (old server).disk disk DiskFault mounts (own server (inl refl))) (λ n i. own n (inr i))) rest

  module _ (s : ℕ) where
    one_held : (old : ℕ → PlainActor ReplicaEntry) (server : ℕ) (disk : PlainDisk ReplicaEntry) (ending : Mounting) → Mounts (header server) (old server).disk ending disk → IsHeldByAnother (header s) (old s).disk
        → (put old server (made_on others (header server) (old server) disk ending) s).disk ≡ (old s).disk
    one_held old server disk ending mounts held =
        at_put (λ n a. IsHeldByAnother (header n) (old n).disk → a.disk ≡ (old n).disk) old server (made_on others (header server) (old server) disk ending)
        (λ h. same_disk others (header server) (old server) disk ending ∙ held_stays (header server) (old server).disk disk ending mounts h) (λ n h. refl) s held

    row_held : (servers : List ℕ) (endings : List Mounting) (old new : ℕ → PlainActor ReplicaEntry) → IsHeldByAnother (header s) (old s).disk → MountsRow others header old servers endings new → (new s).disk ≡ (old s).disk
    row_held [] endings old new held m = ap (λ (f : ℕ → PlainActor ReplicaEntry). (f s).disk) m.1
    row_held (server ∷ servers) [] old new held m = absurd m
    row_held (server ∷ servers) (Foreign at ∷ endings) old new held m = ap (λ (f : ℕ → PlainActor ReplicaEntry). (f s).disk) m.2
    row_held (server ∷ servers) (Memory ∷ endings) old new held m = absurd m.0
    row_held (server ∷ servers) (Entries count ∷ endings) old new held (told, (disk, mounts, rest)) =
        let same = one_held old server disk (Entries count) mounts held in
        row_held servers endings _ new (subst (IsHeldByAnother (header s)) (sym same) held) rest ∙ same
    row_held (server ∷ servers) (DiskFault ∷ endings) old new held (told, (disk, mounts, rest)) =
        let same = one_held old server disk DiskFault mounts held in
        row_held servers endings _ new (subst (IsHeldByAnother (header s)) (sym same) held) rest ∙ same

-- where no disk is another's, the reply doesn't say so
opening_known : (at : ℕ) (counts : List ℕ) (faulty : Bool) (endings : List Mounting) → is_others endings ≡ false → refused_foreign at ≡ opening counts faulty endings → ⊥
opening_known at counts false [] none e = cc
opening_known at counts true [] none e = cc
opening_known at counts faulty (Entries count ∷ endings) none e = opening_known at (counts ++ count ∷ []) faulty endings none e
opening_known at counts faulty (Foreign place ∷ endings) none e = cc
opening_known at counts faulty (DiskFault ∷ endings) none e = opening_known at counts true endings none e
opening_known at counts faulty (Memory ∷ endings) none e = opening_known at counts true endings none e

row_at : (others : Bool) (cell : Cell) (volume : ℕ) (servers : List ℕ) (area : ℕ) (row : ℕ → PlainActor ReplicaEntry) → (with_row others cell volume servers area row).replicas (length cell.rows) ≡ row
row_at true cell volume servers area row = put_here cell.replicas (length cell.rows) row
row_at false cell volume servers area row = put_here cell.replicas (length cell.rows) row

-- ---- lines that make actors

client_own : (cell new : Cell) (client at : ℕ) (header : Header) (outside : List (List ℕ)) → (cell.clients client).disk.header ≡ Some header → MakesClient cell client header (refused_foreign at) outside new → ⊥
client_own cell new client at header outside own (Entries count, disk, told, mounts, says, out, next) = opening_known at [] false (Entries count ∷ []) refl says
client_own cell new client at header outside own (Foreign place, disk, told, mounts, says, out, next) = own_not_other header (cell.clients client).disk.header place own mounts.0
client_own cell new client at header outside own (DiskFault, disk, told, mounts, says, out, next) = opening_known at [] false (DiskFault ∷ []) refl says
client_own cell new client at header outside own (Memory, disk, told, mounts, says, out, next) = absurd told

pub own_disks_are_not_foreign : OwnDisksAreNotForeign
own_disks_are_not_foreign = record {
  clients = λ cell new client blocks at area outside own does.
      room_foreign cell at _ _ (MakesClient cell client (client_header client blocks (area_of area))) outside new (client_own cell new client at (client_header client blocks (area_of area)) outside own) does;
  volumes = λ cell new volume at servers area outside own does. room_foreign cell at _ _ (MakesVolume cell volume servers (area_of area)) outside new (λ (endings, row, mounts, says, out, next).
      opening_known at [] false endings (row_own (is_others endings) (replica_header volume servers (area_of area)) servers endings (cell.replicas (length cell.rows)) row own mounts) says) does;
}

unless_same : {A : Type 0} (f : Cell → A) (old : Cell) (o : Option Refused) (own : Becoming) (reply : Reply) (outside : List (List ℕ)) (new : Cell) → (own reply outside new → f new ≡ f old) → Unless old o own reply outside new → f new ≡ f old
unless_same f old (Some why) own reply outside new rest does = ap f does.2
unless_same f old None own reply outside new rest does = rest does

client_held : (cell new : Cell) (client : ℕ) (header : Header) (reply : Reply) (outside : List (List ℕ)) → IsHeldByAnother header (cell.clients client).disk → MakesClient cell client header reply outside new → (new.clients client).disk ≡ (cell.clients client).disk
client_held cell new client header reply outside held (ending, disk, told, mounts, says, out, next) =
    ap (λ (c : Cell). (c.clients client).disk) next ∙ by (is_others (ending ∷ []))
  where
    by : (others : Bool) → ((with_made others cell client header.area (made_on false header (cell.clients client) disk ending)).clients client).disk ≡ (cell.clients client).disk
    by true = refl
    by false = ap (λ (a : PlainActor ClientEntry). a.disk) (put_here cell.clients client (made_on false header (cell.clients client) disk ending)) ∙ held_stays header (cell.clients client).disk disk ending mounts held

-- a recovery leaves a disk that another holds
module _ {E : Type 0} (payloads : PlainDisk E → Payloads) (old : PlainActor E) (goes : PlainActor E → Cell) (reply : Reply) (outside : List (List ℕ)) (new : Cell) where
  recovery_held : (header : Header) → asked old.life ≡ Some header → IsHeldByAnother header old.disk → Recovers payloads old goes reply outside new → (actor : PlainActor E) × (actor.disk ≡ old.disk) × (new ≡ goes actor)
  recovery_held header asks held (own, is, (ending, disk, told, mounts, from, says, out, next)) =
      let same : header ≡ own = (let both : Some header ≡ Some own = sym asks ∙ is in cc) in
      (_, held_stays own old.disk disk ending mounts (subst (λ h. IsHeldByAnother h old.disk) same held), next)

pub what_others_hold_is_kept : WhatOthersHoldIsKept
what_others_hold_is_kept = record {
  clients = λ cell new client blocks area reply outside held does.
      unless_same (λ (c : Cell). (c.clients client).disk) cell (no_client cell client (area_of area)) (MakesClient cell client (client_header client blocks (area_of area))) reply outside new
      (client_held cell new client (client_header client blocks (area_of area)) reply outside held) does;
  volumes = λ cell new volume server servers area reply outside held does.
      unless_same (λ (c : Cell). (c.replicas (length cell.rows) server).disk) cell (no_volume cell volume (area_of area)) (MakesVolume cell volume servers (area_of area)) reply outside new
      (λ (endings, row, mounts, says, out, next).
      ap (λ (c : Cell). (c.replicas (length cell.rows) server).disk) next ∙ ap (λ (f : ℕ → PlainActor ReplicaEntry). (f server).disk) (row_at (is_others endings) cell volume servers (area_of area) row)
      ∙ row_held (is_others endings) (replica_header volume servers (area_of area)) server servers endings (cell.replicas (length cell.rows)) row held mounts) does;
  clients_again = λ cell new client header reply outside asks held does.
      unless_same (λ (c : Cell). (c.clients client).disk) cell (first_missing (the_client cell client).named) (Recovers client_payloads (cell.clients client) (with_client cell client)) reply outside new
      (λ did. let r = recovery_held client_payloads (cell.clients client) (with_client cell client) reply outside new header asks held did in
      ap (λ (c : Cell). (c.clients client).disk) r.2 ∙ ap (λ (a : PlainActor ClientEntry). a.disk) (put_here cell.clients client r.0) ∙ r.1) does;
  replicas_again = λ cell new server volume at header reply outside stands asks held does.
      unless_same (λ (c : Cell). (c.replicas at.row server).disk) cell (first_missing (the_replica cell server volume).named) (AtReplicaOf cell (stand_of cell volume) server (Recovers replica_payloads)) reply outside new
      (λ did. let r = recovery_held replica_payloads (cell.replicas at.row server) (with_replica cell at.row server) reply outside new header asks held
      (subst (λ (o : Option Stand). AtReplicaOf cell o server (Recovers replica_payloads) reply outside new) stands did) in
      ap (λ (c : Cell). (c.replicas at.row server).disk) r.2 ∙ ap (λ (a : PlainActor ReplicaEntry). a.disk) (place_is cell.replicas at.row server r.0) ∙ r.1) does;
}

-- ---- counts

counts_are : (counts : List ℕ) (count : ℕ) → opened counts ≡ opened (count ∷ []) → counts ≡ count ∷ []
counts_are counts count e = cc

never_fault : (counts : List ℕ) → opened counts ≡ refused_fault → ⊥
never_fault counts e = cc

never_foreign : (counts : List ℕ) (at : ℕ) → opened counts ≡ refused_foreign at → ⊥
never_foreign counts at e = cc

counted : {E : Type 0} (header : Header) (counts : List ℕ) (count : ℕ) (old : PlainActor E) (disk : PlainDisk E) (new : PlainActor E) → Mounts header old.disk (Entries count) disk → opened counts ≡ opened (count ∷ [])
    → new ≡ made_on false header old disk (Entries count) → IsCounted header counts old.disk new
counted header counts count old disk new m says is =
    subst (IsCounted header counts old.disk) (sym is) (counts_are counts count says ∙ ap (λ n. n ∷ []) m.1, m.0.history, refl)

client_counted : (cell new : Cell) (client : ℕ) (header : Header) (counts : List ℕ) (outside : List (List ℕ)) → MakesClient cell client header (Opened counts) outside new → IsCounted header counts (cell.clients client).disk (new.clients client)
client_counted cell new client header counts outside (Entries count, disk, told, mounts, says, out, next) =
    counted header counts count (cell.clients client) disk (new.clients client) mounts says (ap (λ (c : Cell). c.clients client) next ∙ put_here cell.clients client _)
client_counted cell new client header counts outside (Foreign at, disk, told, mounts, says, out, next) = absurd (never_foreign counts at says)
client_counted cell new client header counts outside (DiskFault, disk, told, mounts, says, out, next) = absurd (never_fault counts says)
client_counted cell new client header counts outside (Memory, disk, told, mounts, says, out, next) = absurd told

volume_counted : (cell new : Cell) (volume server area : ℕ) (counts : List ℕ) (outside : List (List ℕ)) → MakesVolume cell volume (server ∷ []) area (Opened counts) outside new
    → IsCounted (replica_header volume (server ∷ []) area server) counts (cell.replicas (length cell.rows) server).disk (new.replicas (length cell.rows) server)
volume_counted cell new volume server area counts outside (endings, row, mounts, says, out, next) = by endings mounts says next
  where
    first : ℕ → PlainActor ReplicaEntry
    first = cell.replicas (length cell.rows)

    header : ℕ → Header
    header = replica_header volume (server ∷ []) area

    by : (endings : List Mounting) → MountsRow (is_others endings) header first (server ∷ []) endings row → opened counts ≡ opening [] false endings → new ≡ with_row (is_others endings) cell volume (server ∷ []) area row
        → IsCounted (header server) counts (first server).disk (new.replicas (length cell.rows) server)
    by [] m says next = absurd m
    by (Foreign at ∷ endings) m says next = absurd (never_foreign counts at says)
    by (Memory ∷ endings) m says next = absurd m.0
    by (DiskFault ∷ []) m says next = absurd (never_fault counts says)
    by (DiskFault ∷ x ∷ endings) (told, (disk, mounts, rest)) says next = (let no = rest.0 in cc)
    by (Entries count ∷ x ∷ endings) (told, (disk, mounts, rest)) says next = (let no = rest.0 in cc)
    by (Entries count ∷ []) (told, (disk, mounts, rest)) says next =
        counted (header server) counts count (first server) disk (new.replicas (length cell.rows) server) mounts says
        (ap (λ (c : Cell). c.replicas (length cell.rows) server) next ∙ ap (λ (f : ℕ → PlainActor ReplicaEntry). f server) (row_at false cell volume (server ∷ []) area row ∙ rest.1) ∙ put_here first server _)

pub what_is_made_again_is_counted : WhatIsMadeAgainIsCounted
what_is_made_again_is_counted = record {
  clients = λ cell new client blocks area counts outside does.
      unless_opened cell counts (no_client cell client (area_of area)) (MakesClient cell client (client_header client blocks (area_of area))) outside new (client_counted cell new client (client_header client blocks (area_of area)) counts outside) does;
  volumes = λ cell new volume server area counts outside does.
      unless_opened cell counts (no_volume cell volume (area_of area)) (MakesVolume cell volume (server ∷ []) (area_of area)) outside new (volume_counted cell new volume server (area_of area) counts outside) does;
}

-- ---- recoveries

stands_on_others : {E : Type 0} (payloads : PlainDisk E → Payloads) (old : PlainActor E) (goes : PlainActor E → Cell) (at : ℕ) (outside : List (List ℕ)) (new : Cell) → Recovers payloads old goes (refused_foreign at) outside new → StandsOnOthers old
stands_on_others payloads old goes at outside new (header, is, (Foreign place, disk, told, mounts, from, says, out, next)) = (header, is, other_is header old.disk.header place mounts.0)
stands_on_others payloads old goes at outside new (header, is, (Entries count, disk, told, mounts, from, says, out, next)) = cc
stands_on_others payloads old goes at outside new (header, is, (DiskFault, disk, told, mounts, from, says, out, next)) = cc
stands_on_others payloads old goes at outside new (header, is, (Memory, disk, told, mounts, from, says, out, next)) = cc

replica_on_others : (cell new : Cell) (server at : ℕ) (outside : List (List ℕ)) (o : Option Stand) → AtReplicaOf cell o server (Recovers replica_payloads) (refused_foreign at) outside new
    → (place : Stand) × (o ≡ Some place) × StandsOnOthers (cell.replicas place.row server)
replica_on_others cell new server at outside None does = absurd does
replica_on_others cell new server at outside (Some place) does = (place, refl, stands_on_others replica_payloads (cell.replicas place.row server) (with_replica cell place.row server) at outside new does)

pub clients_stand : (cell new : Cell) (client at : ℕ) (outside : List (List ℕ)) → Happens cell (line.RecoverClient client) (refused_foreign at) outside new → StandsOnOthers (cell.clients client)
clients_stand cell new client at outside does =
    named_foreign cell at _ (Recovers client_payloads (cell.clients client) (with_client cell client)) outside new (stands_on_others client_payloads (cell.clients client) (with_client cell client) at outside new) does

pub replicas_stand : (cell new : Cell) (server volume at : ℕ) (outside : List (List ℕ)) → Happens cell (line.RecoverReplica server volume) (refused_foreign at) outside new
    → (place : Stand) × (stand_of cell volume ≡ Some place) × StandsOnOthers (cell.replicas place.row server)
replicas_stand cell new server volume at outside does =
    named_foreign cell at _ (AtReplicaOf cell (stand_of cell volume) server (Recovers replica_payloads)) outside new (replica_on_others cell new server at outside (stand_of cell volume)) does
