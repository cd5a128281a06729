-- What becomes of a cell by a line: it stays; an actor that was made crashes or is recovered; an actor is made; or the line acts, and disks grow.
use Rattle.std.proofs.Common.{◌≡◌, ℕ, ◌==◌, ◌&&◌, Bool, true, false, cond, List, [], ◌∷◌, Option, Some, None, refl, sym, subst, inl, inr, ◌⊎◌}
use Rattle.coda_actors.specs.Plain.{PlainDisk, PlainActor, Life, Unmade, Down, Up, Mounts}
use Rattle.coda_actors.specs.declared.slot.Mounting.{Mounting}
use Rattle.coda_actors.specs.declared.slot.Mounting.TheVariants.{Entries, Foreign, DiskFault, Memory}
use Rattle.coda_journal.specs.declared.header.Header.{Header}
use Rattle.coda_plain.specs.Cell.{ClientEntry}
use Rattle.coda_plain.specs.Decisions.{ReplicaEntry}
use Rattle.coda_plain.specs.Moves.{Append, AtClient, AtReplica}
use Rattle.coda_report.specs.Texts.{IsWhole}
use Rattle.coda_script.specs.declared.line.Line.{Line}
use Rattle.coda_script.specs.declared.line.Line.TheVariants as line
use Rattle.coda_script.specs.declared.reply.Reply.{Reply}
use Rattle.coda_script.specs.declared.reply.Reply.TheVariants.{Accepted}
use Rattle.coda_cell.specs.Refused.{Refused as Refusal}
use Rattle.coda_cell.specs.State.{put, Event, VolumeMade, ClientMade, Ticked, LinkSet, Entered, Posted, Lost, Used, Kept, Stale}
use Rattle.coda_cell.specs.Steps.{first_missing}
use Rattle.coda_shelves.specs.Shelves.{client_header}
use Rattle.coda_shelves.specs.Cells.{Row, Cell, asked, Stand, stand_of, with_client, with_replica, with_volume, grown, fallen, failing, failed, after, after_all}
use Rattle.coda_shelves.specs.Lines.{Becoming, Stays, Unless, UnlessDown, needs, is_down_for, EndsBy, the_client, the_replica, area_of, no_volume, no_client, MakesVolume, MakesClient, Payloads, client_payloads, replica_payloads, Crashes, recovery, Recovers, AtReplicaOf, Happens}
use Rattle.coda_shelves.proofs.FromBlank.{recovered_asks}
use Rattle.coda_runs.proofs.Meeting.{ActsUp}
use Rattle.coda_runs.proofs.Unlettered.{is_acting}

-- ---- what becomes of it

-- an actor that was made is another: its disk is as it was, or was mounted, and it asks for the header for which it asked
pub record IsMoved {E : Type 0} (old new : PlainActor E) : Type 0 where
  pub header : Header
  pub asks : asked old.life ≡ Some header
  pub still : asked new.life ≡ Some header
  pub disk : (new.disk ≡ old.disk) ⊎ ((ending : Mounting) × Mounts header old.disk ending new.disk)

pub data Becomes (old : Cell) (said : Line) (reply : Reply) (outside : List (List ℕ)) (new : Cell) : Type 0 where
  Stayed : is_acting said ≡ false → IsWhole reply → new ≡ old → Becomes old said reply outside new
  ClientMoved : (client : ℕ) (actor : PlainActor ClientEntry) → is_acting said ≡ false → IsWhole reply → IsMoved (old.clients client) actor → new ≡ with_client old client actor → Becomes old said reply outside new
  ReplicaMoved : (row server : ℕ) (actor : PlainActor ReplicaEntry) → is_acting said ≡ false → IsWhole reply → IsMoved (old.replicas row server) actor → new ≡ with_replica old row server actor → Becomes old said reply outside new
  ClientComes : (client blocks : ℕ) (area : Option ℕ) → said ≡ line.Client client blocks area → no_client old client (area_of area) ≡ None → MakesClient old client (client_header client blocks (area_of area)) reply outside new
      → Becomes old said reply outside new
  VolumeComes : (volume : ℕ) (servers : List ℕ) (area : Option ℕ) → said ≡ line.Volume volume servers area → no_volume old volume (area_of area) ≡ None → MakesVolume old volume servers (area_of area) reply outside new
      → Becomes old said reply outside new
  HasActed : is_acting said ≡ true → UnlessDown (is_down_for (needs old said)) old (ActsUp old said) reply outside new → Becomes old said reply outside new

recovery_whole : (ending : Mounting) → IsWhole (recovery ending)
recovery_whole (Entries count) = tt
recovery_whole (Foreign at) = tt
recovery_whole DiskFault = tt
recovery_whole Memory = tt

module _ {E : Type 0} (payloads : PlainDisk E → Payloads) (old : PlainActor E) (goes : PlainActor E → Cell) (reply : Reply) (outside : List (List ℕ)) (new : Cell) where
  -- what a crash or a recovery leaves
  abbrev MovesTo : Type 0
  MovesTo = (actor : PlainActor E) × IsMoved old actor × IsWhole reply × (new ≡ goes actor)

  crashed : Crashes payloads old goes reply outside new → MovesTo
  crashed (header, is, (image, may, says, out, next)) = (_, record { header = header; asks = is; still = refl; disk = inl refl }, subst IsWhole (sym says) tt, next)

  recovered : Recovers payloads old goes reply outside new → MovesTo
  recovered (header, is, (ending, disk, told, mounts, from, says, out, next)) =
      (_, record { header = header; asks = is; still = recovered_asks header ending; disk = inr (ending, mounts) }, subst IsWhole (sym says) (recovery_whole ending), next)

module _ (old : Cell) (reply : Reply) (outside : List (List ℕ)) (new : Cell) where
  unless_becomes : (said : Line) (o : Option Refusal) (own : Becoming) → is_acting said ≡ false → (o ≡ None → own reply outside new → Becomes old said reply outside new) → Unless old o own reply outside new → Becomes old said reply outside new
  unless_becomes said (Some why) own quiet rest does = Stayed quiet (subst IsWhole (sym does.0) tt) does.2
  unless_becomes said None own quiet rest does = rest refl does

  client_becomes : (said : Line) (client : ℕ) → is_acting said ≡ false → (a : PlainActor ClientEntry) × IsMoved (old.clients client) a × IsWhole reply × (new ≡ with_client old client a) → Becomes old said reply outside new
  client_becomes said client quiet (actor, moved, whole, next) = ClientMoved client actor quiet whole moved next

  place_becomes : (said : Line) (o : Option Stand) (server : ℕ) (own : PlainActor ReplicaEntry → (PlainActor ReplicaEntry → Cell) → Becoming) → is_acting said ≡ false
      → ((at : Stand) → own (old.replicas at.row server) (with_replica old at.row server) reply outside new → (a : PlainActor ReplicaEntry) × IsMoved (old.replicas at.row server) a × IsWhole reply × (new ≡ with_replica old at.row server a))
      → AtReplicaOf old o server own reply outside new → Becomes old said reply outside new
  place_becomes said None server own quiet moves does = absurd does
  place_becomes said (Some at) server own quiet moves does = let m = moves at does in ReplicaMoved at.row server m.0 quiet m.2 m.1 m.3

  arms_becomes : (said : Line) (o : Option Refusal) (b : Bool) → is_acting said ≡ false → UnlessDown b old (Unless old o (Stays old Accepted)) reply outside new → Becomes old said reply outside new
  arms_becomes said o true quiet does = Stayed quiet (subst IsWhole (sym does.0) tt) does.2
  arms_becomes said o false quiet does = unless_becomes said o (Stays old Accepted) quiet (λ all did. Stayed quiet (subst IsWhole (sym did.0) tt) did.2) does

  pub becomes : (said : Line) → Happens old said reply outside new → Becomes old said reply outside new
  becomes (line.Volume volume servers area) does = unless_becomes (line.Volume volume servers area) (no_volume old volume (area_of area)) (MakesVolume old volume servers (area_of area)) refl (VolumeComes volume servers area refl) does
  becomes (line.Client client blocks area) does =
      unless_becomes (line.Client client blocks area) (no_client old client (area_of area)) (MakesClient old client (client_header client blocks (area_of area))) refl (ClientComes client blocks area refl) does
  becomes (line.CrashClient client choice) does = unless_becomes (line.CrashClient client choice) (first_missing (the_client old client).named) (Crashes client_payloads (old.clients client) (with_client old client)) refl
      (λ all did. client_becomes (line.CrashClient client choice) client refl (crashed client_payloads (old.clients client) (with_client old client) reply outside new did)) does
  becomes (line.RecoverClient client) does = unless_becomes (line.RecoverClient client) (first_missing (the_client old client).named) (Recovers client_payloads (old.clients client) (with_client old client)) refl
      (λ all did. client_becomes (line.RecoverClient client) client refl (recovered client_payloads (old.clients client) (with_client old client) reply outside new did)) does
  becomes (line.CrashReplica server volume choice) does =
      unless_becomes (line.CrashReplica server volume choice) (first_missing (the_replica old server volume).named) (AtReplicaOf old (stand_of old volume) server (Crashes replica_payloads)) refl
      (λ all did. place_becomes (line.CrashReplica server volume choice) (stand_of old volume) server (Crashes replica_payloads) refl
      (λ at done. crashed replica_payloads (old.replicas at.row server) (with_replica old at.row server) reply outside new done) did) does
  becomes (line.RecoverReplica server volume) does =
      unless_becomes (line.RecoverReplica server volume) (first_missing (the_replica old server volume).named) (AtReplicaOf old (stand_of old volume) server (Recovers replica_payloads)) refl
      (λ all did. place_becomes (line.RecoverReplica server volume) (stand_of old volume) server (Recovers replica_payloads) refl
      (λ at done. recovered replica_payloads (old.replicas at.row server) (with_replica old at.row server) reply outside new done) did) does
  becomes (line.ArmClient client passes) does = arms_becomes (line.ArmClient client passes) (first_missing (the_client old client).named) (is_down_for (needs old (line.ArmClient client passes))) refl does
  becomes (line.ArmReplica server volume passes) does =
      arms_becomes (line.ArmReplica server volume passes) (first_missing (the_replica old server volume).named) (is_down_for (needs old (line.ArmReplica server volume passes))) refl does
  becomes (line.Link client server strength) does = HasActed refl does
  becomes (line.Tick seconds) does = HasActed refl does
  becomes (line.Task t) does = HasActed refl does
  becomes (line.ShowVolume server volume) does = HasActed refl does
  becomes (line.ShowLog client volume) does = HasActed refl does
  becomes (line.ShowState client volume) does = HasActed refl does
  becomes (line.Send client volume server window) does = HasActed refl does
  becomes (line.Deliver message) does = HasActed refl does
  becomes (line.Lose message) does = HasActed refl does
  becomes _ does = absurd does.1.does

-- ---- lines that act

-- the actors of a cell, the volumes that were made, and their areas
pub record Body : Type 0 where
  pub clients : ℕ → PlainActor ClientEntry
  pub replicas : ℕ → ℕ → PlainActor ReplicaEntry
  pub rows : List Row
  pub areas : ℕ

abbrev pub body : Cell → Body
body cell = record { clients = cell.clients; replicas = cell.replicas; rows = cell.rows; areas = cell.areas }

-- an actor asks for the header for which it asked, on a disk with the header that it had
pub record AsksSo {E : Type 0} (old new : PlainActor E) : Type 0 where
  pub asks : asked new.life ≡ asked old.life
  pub header : new.disk.header ≡ old.disk.header

fallen_asks : (life : Life) → asked (fallen life) ≡ asked life
fallen_asks Unmade = refl
fallen_asks (Down header) = refl
fallen_asks (Up header) = refl

-- what is so of a cell, and stays so where an actor is another that asks so, is so behind a line that acts
module _ (P : Body → Type 0) (client_so : (b : Body) (client : ℕ) (actor : PlainActor ClientEntry) → AsksSo (b.clients client) actor → P b → P (record b { clients = put b.clients client actor }))
    (replica_so : (b : Body) (row server : ℕ) (actor : PlainActor ReplicaEntry) → AsksSo (b.replicas row server) actor → P b
    → P (record b { replicas = λ r s. cond ((r == row) && (s == server)) actor (b.replicas r s) })) where
  volume_so : (cell : Cell) (o : Option Stand) (server : ℕ) (f : PlainActor ReplicaEntry → PlainActor ReplicaEntry) → ((a : PlainActor ReplicaEntry) → AsksSo a (f a)) → P (body cell) → P (body (with_volume cell o server f))
  volume_so cell None server f asks p = p
  volume_so cell (Some at) server f asks p = replica_so (body cell) at.row server (f (cell.replicas at.row server)) (asks (cell.replicas at.row server)) p

  event_so : (cell : Cell) (event : Event) → P (body cell) → P (body (after cell event))
  event_so cell (Entered (AtClient client entry)) p = client_so (body cell) client (grown entry (cell.clients client)) (record { asks = refl; header = refl }) p
  event_so cell (Entered (AtReplica server volume entry)) p = volume_so cell (stand_of cell volume) server (grown entry) (λ a. record { asks = refl; header = refl }) p
  event_so cell (VolumeMade volume server) p = p
  event_so cell (ClientMade client blocks) p = p
  event_so cell (Ticked seconds) p = p
  event_so cell (LinkSet client server strength) p = p
  event_so cell (Posted sent) p = p
  event_so cell (Lost message) p = p
  event_so cell (Used client fids) p = p
  event_so cell (Kept client server fid) p = p
  event_so cell (Stale client fids) p = p

  events_so : (cell : Cell) (events : List Event) → P (body cell) → P (body (after_all cell events))
  events_so cell [] p = p
  events_so cell (event ∷ events) p = events_so (after cell event) events (event_so cell event p)

  failed_so : (cell : Cell) (append : Append) → P (body cell) → P (body (failed cell append))
  failed_so cell (AtClient client entry) p = client_so (body cell) client (failing entry (cell.clients client)) (record { asks = fallen_asks (cell.clients client).life; header = refl }) p
  failed_so cell (AtReplica server volume entry) p = volume_so cell (stand_of cell volume) server (failing entry) (λ a. record { asks = fallen_asks a.life; header = refl }) p

  ends_so : (old : Cell) (events : List Event) (own reply : Reply) (new : Cell) → EndsBy old events own reply new → P (body old) → P (body new)
  ends_so old events own reply new (inl all) p = subst (λ c. P (body c)) (sym all.2) (events_so old events p)
  ends_so old events own reply new (inr (inl full)) p = subst (λ c. P (body c)) (sym full.4) (events_so old full.0.done p)
  ends_so old events own reply new (inr (inr fault)) p = subst (λ c. P (body c)) (sym fault.3) (failed_so (after_all old fault.0.done) fault.0.next (events_so old fault.0.done p))

  pub acts_so : (old : Cell) (said : Line) (reply : Reply) (outside : List (List ℕ)) (new : Cell) (b : Bool) → UnlessDown b old (ActsUp old said) reply outside new → P (body old) → P (body new)
  acts_so old said reply outside new true does p = subst (λ c. P (body c)) (sym does.2) p
  acts_so old said reply outside new false (out, acts) p = ends_so old acts.events acts.own reply new acts.ends p
