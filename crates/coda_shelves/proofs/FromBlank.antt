-- In runs from blank disks every replica is one of the run.
use Rattle.std.proofs.Common.{◌≡◌, ℕ, ◌+◌, Bool, true, false, List, [], ◌∷◌, length, Option, Some, None, is_some, refl, sym, ap, ◌∙◌, subst, inl, inr, ◌⊎◌, arith}
use Rattle.coda_actors.specs.Plain.{PlainDisk, PlainActor, Life, Unmade, Down, Up, Mounts, HasOther, recovered_as}
use Rattle.coda_actors.specs.declared.slot.Mounting.{Mounting}
use Rattle.coda_actors.specs.declared.slot.Mounting.TheVariants.{Entries, Foreign, DiskFault, Memory}
use Rattle.coda_certify.specs.declared.verdict.Verdict.{Verdict}
use Rattle.coda_journal.specs.declared.header.Header.{Header}
use Rattle.coda_plain.specs.Cell.{Joins, joined_to}
use Rattle.coda_plain.specs.Decisions.{ReplicaEntry, decisions_of}
use Rattle.coda_plain.specs.Histories.{In}
use Rattle.coda_plain.specs.Moves.{Append, AtClient, AtReplica}
use Rattle.coda_plain.specs.Sound.{IsDecided as IsDecidedNow, DoAgree as DoAgreeNow}
use Rattle.coda_plain.proofs.Promised.{promised as promised_now}
use Rattle.coda_script.specs.declared.line.Line.{Line}
use Rattle.coda_script.specs.declared.line.Line.TheVariants as line
use Rattle.coda_script.specs.declared.reply.Reply.{Reply}
use Rattle.coda_script.specs.declared.reply.Reply.TheVariants as replies
use Rattle.coda_cell.specs.Refused.{Refused as Refusal}
use Rattle.coda_cell.specs.State.{put, Event, VolumeMade, ClientMade, Ticked, LinkSet, Entered, Posted, Lost, Used, Kept, Stale}
use Rattle.coda_cell.specs.Steps.{first_missing, no_room, is_alone}
use Rattle.coda_shelves.specs.FromBlank.{StandsAlone, IsFromBlank, histories_of, RunsFromBlank}
use Rattle.coda_shelves.specs.Shelves.{client_header, replica_header, volume_of, found_on}
use Rattle.coda_shelves.specs.Cells.{Cell, shelves_of, asked, Stand, stand_of, with_client, with_replica, with_volume, grown, fallen, failing, failed, after, after_all}
use Rattle.coda_shelves.specs.Kept.{IsDecided}
use Rattle.coda_shelves.specs.Lines.{Becoming, Stays as StaysSo, Unless, UnlessDown, needs, is_down_for, EndsBy, Acts, the_client, the_replica, is_others, made_on, MountsRow, area_of, no_volume, no_client, with_row, MakesVolume, with_made, MakesClient, client_payloads, replica_payloads, Crashes, Recovers, AtReplicaOf, is_built, DoesUp}
use Rattle.coda_shelves.specs.Running.{replica_now, IsKept}
use Rattle.coda_shelves.proofs.Mounting.{at_put, at_place, unasked}
use Rattle.coda_shelves.proofs.Rows.{stand_push, stand_last, none_stands}
use Rattle.coda_shelves.proofs.Whole.{now_here}
use Rattle.coda_shelves.proofs.Wholly.{learned, agree_now}

-- ---- replicas whose headers and lives are the same

pub record AreSame (old new : Cell) : Type 0 where
  pub rows : new.rows ≡ old.rows
  pub headers : (row server : ℕ) → (new.replicas row server).disk.header ≡ (old.replicas row server).disk.header
  pub lives : (row server : ℕ) → asked (new.replicas row server).life ≡ asked (old.replicas row server).life

same_blank : (old new : Cell) → AreSame old new → IsFromBlank old → IsFromBlank new
same_blank old new same blank = record {
  asks = λ row server header e. let at = blank.asks row server header (sym (same.lives row server) ∙ e) in (at.0, ap (λ rows. stand_of (record new { rows = rows }) header.number) same.rows ∙ at.1, at.2, at.3);
  given = λ row server header e. same.lives row server ∙ blank.given row server header (sym (same.headers row server) ∙ e);
}

pub same_all : (cell : Cell) → AreSame cell cell
same_all cell = record { rows = refl; headers = λ row server. refl; lives = λ row server. refl }

same_twice : (a b c : Cell) → AreSame a b → AreSame b c → AreSame a c
same_twice a b c p q = record { rows = q.rows ∙ p.rows; headers = λ row server. q.headers row server ∙ p.headers row server; lives = λ row server. q.lives row server ∙ p.lives row server }

pub same_replica : (cell : Cell) (row server : ℕ) (actor : PlainActor ReplicaEntry) → actor.disk.header ≡ (cell.replicas row server).disk.header → asked actor.life ≡ asked (cell.replicas row server).life → AreSame cell (with_replica cell row server actor)
same_replica cell row server actor header life = record {
  rows = refl;
  headers = at_place (λ r s a. a.disk.header ≡ (cell.replicas r s).disk.header) cell.replicas row server actor header (λ r s. refl);
  lives = at_place (λ r s a. asked a.life ≡ asked (cell.replicas r s).life) cell.replicas row server actor life (λ r s. refl);
}

fallen_asks : (life : Life) → asked (fallen life) ≡ asked life
fallen_asks Unmade = refl
fallen_asks (Down header) = refl
fallen_asks (Up header) = refl

same_volume : (cell : Cell) (o : Option Stand) (server : ℕ) (f : PlainActor ReplicaEntry → PlainActor ReplicaEntry) → ((a : PlainActor ReplicaEntry) → ((f a).disk.header ≡ a.disk.header) × (asked (f a).life ≡ asked a.life)) → AreSame cell (with_volume cell o server f)
same_volume cell None server f is = same_all cell
same_volume cell (Some at) server f is = same_replica cell at.row server (f (cell.replicas at.row server)) (is (cell.replicas at.row server)).0 (is (cell.replicas at.row server)).1

same_event : (cell : Cell) (event : Event) → AreSame cell (after cell event)
same_event cell (VolumeMade v s) = same_all cell
same_event cell (ClientMade c b) = same_all cell
same_event cell (Ticked seconds) = record { rows = refl; headers = λ row server. refl; lives = λ row server. refl }
same_event cell (LinkSet c s strength) = record { rows = refl; headers = λ row server. refl; lives = λ row server. refl }
same_event cell (Entered (AtClient client entry)) = record { rows = refl; headers = λ row server. refl; lives = λ row server. refl }
same_event cell (Entered (AtReplica server volume entry)) = same_volume cell (stand_of cell volume) server (grown entry) (λ a. (refl, refl))
same_event cell (Posted sent) = record { rows = refl; headers = λ row server. refl; lives = λ row server. refl }
same_event cell (Lost message) = record { rows = refl; headers = λ row server. refl; lives = λ row server. refl }
same_event cell (Used client fids) = record { rows = refl; headers = λ row server. refl; lives = λ row server. refl }
same_event cell (Kept client server fid) = record { rows = refl; headers = λ row server. refl; lives = λ row server. refl }
same_event cell (Stale client fids) = record { rows = refl; headers = λ row server. refl; lives = λ row server. refl }

same_events : (cell : Cell) (events : List Event) → AreSame cell (after_all cell events)
same_events cell [] = same_all cell
same_events cell (event ∷ events) = same_twice cell (after cell event) (after_all (after cell event) events) (same_event cell event) (same_events (after cell event) events)

same_failed : (cell : Cell) (append : Append) → AreSame cell (failed cell append)
same_failed cell (AtClient client entry) = record { rows = refl; headers = λ row server. refl; lives = λ row server. refl }
same_failed cell (AtReplica server volume entry) = same_volume cell (stand_of cell volume) server (failing entry) (λ a. (refl, fallen_asks a.life))

pub same_ends : (old : Cell) (events : List Event) (own reply : Reply) (new : Cell) → EndsBy old events own reply new → AreSame old new
same_ends old events own reply new (inl all) = subst (AreSame old) (sym all.2) (same_events old events)
same_ends old events own reply new (inr (inl full)) = subst (AreSame old) (sym full.4) (same_events old full.0.done)
same_ends old events own reply new (inr (inr fault)) =
    subst (AreSame old) (sym fault.3) (same_twice old (after_all old fault.0.done) (failed (after_all old fault.0.done) fault.0.next) (same_events old fault.0.done) (same_failed (after_all old fault.0.done) fault.0.next))

-- ---- a mounted disk has the header that it had, or the one that is asked for

mounted_header : {E : Type 0} (header : Header) (old new : PlainDisk E) (ending : Mounting) → Mounts header old ending new → (new.header ≡ old.header) ⊎ (new.header ≡ Some header)
mounted_header header old new (Entries count) m = inr m.0.given
mounted_header header old new (Foreign at) m = inl (ap (λ (d : PlainDisk _). d.header) m.1)
mounted_header header old new DiskFault (inl same) = inl (ap (λ (d : PlainDisk _). d.header) same)
mounted_header header old new DiskFault (inr is) = inr (ap (λ (d : PlainDisk _). d.header) is.1)
mounted_header header old new Memory (inl same) = inl (ap (λ (d : PlainDisk _). d.header) same)
mounted_header header old new Memory (inr is) = inr (ap (λ (d : PlainDisk _). d.header) is.1)

pub recovered_asks : (header : Header) (ending : Mounting) → asked (recovered_as header ending) ≡ Some header
recovered_asks header (Entries count) = refl
recovered_asks header (Foreign at) = refl
recovered_asks header DiskFault = refl
recovered_asks header Memory = refl

-- a replica that asks as it did, on a disk that has the header that it had, or the one that is asked for
replica_blank : (old : Cell) (row server : ℕ) (header : Header) (actor : PlainActor ReplicaEntry) → IsFromBlank old → asked (old.replicas row server).life ≡ Some header → asked actor.life ≡ Some header
    → (actor.disk.header ≡ (old.replicas row server).disk.header) ⊎ (actor.disk.header ≡ Some header) → IsFromBlank (with_replica old row server actor)
replica_blank old row server header actor blank was is had = record {
  asks = at_place (λ r s a. (h : Header) → asked a.life ≡ Some h → StandsAlone old r s h) old.replicas row server actor (λ h e. blank.asks row server h (was ∙ sym is ∙ e)) blank.asks;
  given = at_place (λ r s a. (h : Header) → a.disk.header ≡ Some h → asked a.life ≡ Some h) old.replicas row server actor
      (λ h e. elim had [ inl same ↦ is ∙ sym was ∙ blank.given row server h (sym same ∙ e) | inr gave ↦ is ∙ sym gave ∙ e ]) blank.given;
}

-- ---- a volume that is made on one server

pub not_there : (there full : Bool) → no_room there full ≡ None → there ≡ false
not_there true full e = cc
not_there false full e = refl

-- nobody gave a disk of the next row a header
pub unlabelled : (old : Cell) → IsKept old → IsFromBlank old → (server : ℕ) (o : Option Header) → (old.replicas (length old.rows) server).disk.header ≡ o → o ≡ None
unlabelled old kept blank server None e = refl
unlabelled old kept blank server (Some h) e = absurd (unasked old kept (length old.rows) (omega arith) server h (blank.given (length old.rows) server h e))

-- what an actor is that is made on a disk without a header
pub record IsMadeAlone (header : Header) (actor : PlainActor ReplicaEntry) : Type 0 where
  pub asks : asked actor.life ≡ Some header
  pub given : (actor.disk.header ≡ None) ⊎ (actor.disk.header ≡ Some header)

module _ (old : Cell) (kept : IsKept old) (blank : IsFromBlank old) (volume server : ℕ) (area : ℕ) (none : stand_of old volume ≡ None) where
  abbrev header : Header
  header = replica_header volume (server ∷ []) area server

  abbrev first : ℕ → PlainActor ReplicaEntry
  first = old.replicas (length old.rows)

  first_header : (first server).disk.header ≡ None
  first_header = unlabelled old kept blank server (first server).disk.header refl

  made_row : (actor : PlainActor ReplicaEntry) → IsMadeAlone header actor → IsFromBlank (with_row false old volume (server ∷ []) area (put first server actor))
  made_row actor is =
      let next = with_row false old volume (server ∷ []) area (put first server actor) in
      let push : (v : ℕ) (at : Stand) → stand_of old v ≡ Some at → stand_of next v ≡ Some at = (λ v at e. stand_push 0 old.rows (record { volume = volume; servers = server ∷ [] }) v at e) in
      let here : StandsAlone next (length old.rows) server header = (record { row = 0 + length old.rows; servers = server ∷ [] }, stand_last 0 old.rows volume (server ∷ []) none, omega arith, refl) in
      record {
        asks = at_put (λ r f. (s : ℕ) (h : Header) → asked (f s).life ≡ Some h → StandsAlone next r s h) old.replicas (length old.rows) (put first server actor)
            (at_put (λ s a. (h : Header) → asked a.life ≡ Some h → StandsAlone next (length old.rows) s h) first server actor
            (λ h e. (let same : Some header ≡ Some h = sym is.asks ∙ e in let one : header ≡ h = cc in subst (StandsAlone next (length old.rows) server) one here))
            (λ s h e. absurd (unasked old kept (length old.rows) (omega arith) s h e)))
            (λ r s h e. let was = blank.asks r s h e in (was.0, push h.number was.0 was.1, was.2, was.3));
        given = at_put (λ r f. (s : ℕ) (h : Header) → (f s).disk.header ≡ Some h → asked (f s).life ≡ Some h) old.replicas (length old.rows) (put first server actor)
            (at_put (λ s a. (h : Header) → a.disk.header ≡ Some h → asked a.life ≡ Some h) first server actor
            (λ h e. elim is.given [ inl nothing ↦ (let no : None ≡ Some h = sym nothing ∙ e in cc) | inr gave ↦ is.asks ∙ sym gave ∙ e ])
            (λ s h e. blank.given (length old.rows) s h e))
            blank.given;
      }

  given_by : (disk : PlainDisk ReplicaEntry) (ending : Mounting) → Mounts header (first server).disk ending disk → (disk.header ≡ None) ⊎ (disk.header ≡ Some header)
  given_by disk ending m = elim (mounted_header header (first server).disk disk ending m) [ inl same ↦ inl (same ∙ first_header) | inr gave ↦ inr gave ]

  by_ending : (endings : List Mounting) (row : ℕ → PlainActor ReplicaEntry) → MountsRow (is_others endings) (replica_header volume (server ∷ []) area) first (server ∷ []) endings row → IsFromBlank (with_row (is_others endings) old volume (server ∷ []) area row)
  by_ending [] row m = absurd m
  by_ending (Foreign at ∷ endings) row m = (let other = subst (λ o. HasOther header o at) first_header m.0 in absurd other)
  by_ending (Memory ∷ endings) row m = absurd m.0
  by_ending (Entries count ∷ endings) row (told, (disk, mounts, rest)) = done endings rest.0 rest.1
    where
      done : (endings : List Mounting) → endings ≡ [] → row ≡ put first server (made_on (is_others endings) header (first server) disk (Entries count)) → IsFromBlank (with_row (is_others endings) old volume (server ∷ []) area row)
      done [] e is = subst (λ r. IsFromBlank (with_row false old volume (server ∷ []) area r)) (sym is) (made_row (made_on false header (first server) disk (Entries count)) (record { asks = refl; given = given_by disk (Entries count) mounts }))
      done (x ∷ more) e is = cc
  by_ending (DiskFault ∷ endings) row (told, (disk, mounts, rest)) = done endings rest.0 rest.1
    where
      done : (endings : List Mounting) → endings ≡ [] → row ≡ put first server (made_on (is_others endings) header (first server) disk DiskFault) → IsFromBlank (with_row (is_others endings) old volume (server ∷ []) area row)
      done [] e is = subst (λ r. IsFromBlank (with_row false old volume (server ∷ []) area r)) (sym is) (made_row (made_on false header (first server) disk DiskFault) (record { asks = refl; given = given_by disk DiskFault mounts }))
      done (x ∷ more) e is = cc

-- ---- lines

unless_blank : (old : Cell) (o : Option Refusal) (own : Becoming) (reply : Reply) (outside : List (List ℕ)) (new : Cell) → IsFromBlank old → (o ≡ None → own reply outside new → IsFromBlank new) → Unless old o own reply outside new → IsFromBlank new
unless_blank old (Some why) own reply outside new blank rest does = subst IsFromBlank (sym does.2) blank
unless_blank old None own reply outside new blank rest does = rest refl does

module _ (old : Cell) (kept : IsKept old) (blank : IsFromBlank old) (reply : Reply) (outside : List (List ℕ)) (new : Cell) where
  one_server : (volume : ℕ) (servers : List ℕ) (area : ℕ) → is_alone servers ≡ true → stand_of old volume ≡ None → MakesVolume old volume servers area reply outside new → IsFromBlank new
  one_server volume [] area is none does = cc
  one_server volume (server ∷ []) area is none (endings, row, mounts, says, out, next) = subst IsFromBlank (sym next) (by_ending old kept blank volume server area none endings row mounts)
  one_server volume (server ∷ other ∷ servers) area is none does = cc

  made_blank : (client : ℕ) (header : Header) (others : Bool) (actor : PlainActor _) → IsFromBlank (with_made others old client header.area actor)
  made_blank client made_header true actor = blank
  made_blank client made_header false actor = same_blank old (with_made false old client made_header.area actor) (record { rows = refl; headers = λ row server. refl; lives = λ row server. refl }) blank

  crash_blank : (o : Option Stand) (server : ℕ) → AtReplicaOf old o server (Crashes replica_payloads) reply outside new → IsFromBlank new
  crash_blank None server does = absurd does
  crash_blank (Some at) server (header, is, (image, may, says, out, next)) = subst IsFromBlank (sym next) (replica_blank old at.row server header _ blank is refl (inl refl))

  recover_blank : (o : Option Stand) (server : ℕ) → AtReplicaOf old o server (Recovers replica_payloads) reply outside new → IsFromBlank new
  recover_blank None server does = absurd does
  recover_blank (Some at) server (header, is, (ending, disk, told, mounts, from, says, out, next)) =
      subst IsFromBlank (sym next) (replica_blank old at.row server header _ blank is (recovered_asks header ending) (mounted_header header (old.replicas at.row server).disk disk ending mounts))

  client_blank : (client : ℕ) (actor : PlainActor _) → IsFromBlank (with_client old client actor)
  client_blank client actor = same_blank old (with_client old client actor) (record { rows = refl; headers = λ row server. refl; lives = λ row server. refl }) blank

  acts_blank : (said : Line) → (outside ≡ []) × Acts old said reply new → IsFromBlank new
  acts_blank said (out, acts) = same_blank old new (same_ends old acts.events acts.own reply new acts.ends) blank

  does_blank : (said : Line) → is_built said ≡ true → DoesUp old said reply outside new → IsFromBlank new
  does_blank (line.Volume volume servers area) built does = unless_blank old (no_volume old volume (area_of area)) (MakesVolume old volume servers (area_of area)) reply outside new blank
      (λ room did. one_server volume servers (area_of area) built (none_stands (stand_of old volume) (not_there (is_some (stand_of old volume)) _ room)) did) does
  does_blank (line.Client client blocks area) built does = unless_blank old (no_client old client (area_of area)) (MakesClient old client (client_header client blocks (area_of area))) reply outside new blank
      (λ room (ending, disk, told, mounts, says, out, next). subst IsFromBlank (sym next) (made_blank client (client_header client blocks (area_of area)) (is_others (ending ∷ [])) _)) does
  does_blank (line.CrashClient client choice) built does = unless_blank old (first_missing (the_client old client).named) (Crashes client_payloads (old.clients client) (with_client old client)) reply outside new blank
      (λ all (header, is, (image, may, says, out, next)). subst IsFromBlank (sym next) (client_blank client _)) does
  does_blank (line.CrashReplica server volume choice) built does = unless_blank old (first_missing (the_replica old server volume).named) (AtReplicaOf old (stand_of old volume) server (Crashes replica_payloads)) reply outside new blank (λ all did. crash_blank (stand_of old volume) server did) does
  does_blank (line.RecoverClient client) built does = unless_blank old (first_missing (the_client old client).named) (Recovers client_payloads (old.clients client) (with_client old client)) reply outside new blank
      (λ all (header, is, (ending, disk, told, mounts, from, says, out, next)). subst IsFromBlank (sym next) (client_blank client _)) does
  does_blank (line.RecoverReplica server volume) built does = unless_blank old (first_missing (the_replica old server volume).named) (AtReplicaOf old (stand_of old volume) server (Recovers replica_payloads)) reply outside new blank (λ all did. recover_blank (stand_of old volume) server did) does
  does_blank (line.ArmClient client passes) built does = unless_blank old (first_missing (the_client old client).named) (StaysSo old replies.Accepted) reply outside new blank (λ all did. subst IsFromBlank (sym did.2) blank) does
  does_blank (line.ArmReplica server volume passes) built does = unless_blank old (first_missing (the_replica old server volume).named) (StaysSo old replies.Accepted) reply outside new blank (λ all did. subst IsFromBlank (sym did.2) blank) does
  does_blank (line.Link client server strength) built does = acts_blank (line.Link client server strength) does
  does_blank (line.Tick seconds) built does = acts_blank (line.Tick seconds) does
  does_blank (line.Task work) built does = acts_blank (line.Task work) does
  does_blank (line.ShowVolume server volume) built does = acts_blank (line.ShowVolume server volume) does
  does_blank (line.ShowLog client volume) built does = acts_blank (line.ShowLog client volume) does
  does_blank (line.ShowState client volume) built does = acts_blank (line.ShowState client volume) does
  does_blank (line.Send client volume server window) built does = acts_blank (line.Send client volume server window) does
  does_blank (line.Deliver message) built does = acts_blank (line.Deliver message) does
  does_blank (line.Lose message) built does = acts_blank (line.Lose message) does
  does_blank _ built does = cc

  down_blank : (said : Line) (b : Bool) → is_built said ≡ true → UnlessDown b old (DoesUp old said) reply outside new → IsFromBlank new
  down_blank said true built does = subst IsFromBlank (sym does.2) blank
  down_blank said false built does = does_blank said built does

-- ---- what is promised

joined_none : {E : Type 0} (b : Bool) (history : List E) → joined_to history b None ≡ history
joined_none true history = refl
joined_none false history = refl

module _ (cell : Cell) (kept : IsKept cell) (blank : IsFromBlank cell) (joins : Joins) where
  -- a decision is one of a replica of this run
  decided_now : (volume client number : ℕ) (verdict : Verdict) → IsDecided (found_on (shelves_of cell) joins) volume client number verdict
      → IsDecidedNow (λ server v. replica_now cell joins (stand_of cell v) server v) volume client number verdict
  decided_now volume client number verdict d = by (cell.replicas d.row d.server).disk.header refl
    where
      by : (o : Option Header) → (cell.replicas d.row d.server).disk.header ≡ o → IsDecidedNow (λ server v. replica_now cell joins (stand_of cell v) server v) volume client number verdict
      by None e = elim (kept.shelves.replicas d.row d.server) [
        | inl none ↦ absurd (subst (λ l. In d.by (decisions_of volume l)) (nothing none.1 none.2) d.there.1)
        | inr (header, is, own) ↦ (let no : None ≡ Some header = sym e ∙ is in cc)
      ]
        where
          nothing : (cell.replicas d.row d.server).disk.history ≡ [] → (cell.replicas d.row d.server).disk.failed ≡ None → (found_on (shelves_of cell) joins).replicas d.row d.server ≡ []
          nothing p q = ap (joined_to (cell.replicas d.row d.server).disk.history (joins.replicas d.row d.server)) q ∙ joined_none (joins.replicas d.row d.server) (cell.replicas d.row d.server).disk.history ∙ p
      by (Some header) e =
          let at = blank.asks d.row d.server header (blank.given d.row d.server header e) in
          let v : header.number ≡ volume = sym (ap volume_of e) ∙ d.there.0 in
          let named : volume_of (cell.replicas at.0.row d.server).disk.header ≡ volume = ap (λ r. volume_of (cell.replicas r d.server).disk.header) at.2 ∙ d.there.0 in
          let here = now_here cell joins kept.pool (learned cell kept joins) d.server volume at.0 (ap (stand_of cell) (sym v) ∙ at.1) at.3 named in
          record {
            server = d.server;
            by = d.by;
            there = subst (λ l. In d.by (decisions_of volume l)) (sym (here ∙ ap (λ r. (found_on (shelves_of cell) joins).replicas r d.server) at.2)) d.there.1;
            client_is = d.client_is;
            number_is = d.number_is;
            verdict_is = d.verdict_is;
          }

  agree_blank : DoAgreeNow (histories_of cell joins) kept.pool
  agree_blank = let a = agree_now cell kept joins in record {
    lawful = a.lawful;
    numbered = a.numbered;
    ruled = a.ruled;
    made = a.made;
    held = a.held;
    frozen = a.frozen;
    reached = a.reached;
    kept = a.kept;
    settled = λ client volume s i. inl (decided_now volume client s.number s.verdict ((kept.shelves.agree joins).settled client volume s i));
    sent = a.sent;
    answered = a.answered;
  }

pub runs_from_blank : RunsFromBlank
runs_from_blank = record {
  first = record { asks = λ row server header e. cc; given = λ row server header e. cc };
  lines = λ old new said reply outside kept blank range built does. down_blank old kept blank reply outside new said (is_down_for (needs old said)) built does;
  promised = λ cell kept blank joins. promised_now (histories_of cell joins) kept.pool (agree_blank cell kept blank joins);
}
