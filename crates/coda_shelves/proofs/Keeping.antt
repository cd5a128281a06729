-- Each line keeps a cell, and no disk loses an entry.
use Rattle.std.proofs.Common.{◌≡◌, ◌≢◌, ℕ, Bool, true, false, List, [], ◌∷◌, ◌++◌, append_assoc, append-nil, length, Option, Some, None, is_some, refl, sym, ap, ◌∙◌, subst, inl, inr, ◌⊎◌}
use Rattle.coda_actors.specs.Plain.{PlainDisk, PlainActor, Mounts}
use Rattle.coda_actors.specs.declared.slot.Mounting.{Mounting}
use Rattle.coda_actors.specs.declared.slot.Mounting.TheVariants.{Entries, Foreign, DiskFault, Memory}
use Rattle.coda_journal.specs.declared.header.Header.{Header}
use Rattle.coda_plain.specs.Cell.{ClientEntry}
use Rattle.coda_plain.specs.Decisions.{ReplicaEntry}
use Rattle.coda_plain.specs.Logs.{BeginsWith}
use Rattle.coda_plain.specs.Moves.{Append, AtClient, AtReplica}
use Rattle.coda_script.specs.Ranges.{InRange}
use Rattle.coda_script.specs.declared.line.Line.{Line}
use Rattle.coda_script.specs.declared.line.Line.TheVariants as line
use Rattle.coda_script.specs.declared.reply.Reply.{Reply}
use Rattle.coda_script.specs.declared.reply.Reply.TheVariants as replies
use Rattle.coda_letters.specs.Sent.{sent_at}
use Rattle.coda_cell.specs.Refused.{Refused as Refusal}
use Rattle.coda_cell.specs.Runs.{MakesNumbered}
use Rattle.coda_cell.specs.State.{put, Event, VolumeMade, ClientMade, Ticked, LinkSet, Entered, Posted, Lost, Used, Kept, Stale}
use Rattle.coda_cell.specs.Steps.{holder_named, on_volume, first_missing, no_room}
use Rattle.coda_shelves.specs.Shelves.{Shelves, client_header, replica_header}
use Rattle.coda_shelves.specs.Cells.{Cell, shelves_of, Stand, stand_of, state_of, with_client, with_replica, with_volume, grown, failing, failed, after, after_all}
use Rattle.coda_shelves.specs.Laws.{Stays, Stay, ShelvesAreKept}
use Rattle.coda_shelves.specs.Lines.{Becoming, Stays as StaysSo, Unless, UnlessDown, meets, needs, is_down_for, EndsBy, Acts, the_client, the_replica, is_others, MountsRow, made_on, area_of, no_volume, no_client, with_row, MakesVolume, with_made, MakesClient, client_payloads, replica_payloads, Crashes, Recovers, AtReplicaOf, DoesUp, Happens}
use Rattle.coda_shelves.specs.Running.{IsKept}
use Rattle.coda_shelves.proofs.Acting.{tasks_acted, send_acted, delivers_acted, loses_acted, tick_acted, link_acted, nothing_acted, state_acted}
use Rattle.coda_shelves.proofs.Blank.{blank_kept, begun_kept}
use Rattle.coda_shelves.proofs.Ending.{IsActed, acts_kept}
use Rattle.coda_shelves.proofs.Mounting.{at_put, at_place, crash_client, recover_client, crash_replica, recover_replica, makes_client, makes_volume}
use Rattle.coda_shelves.proofs.Promised.{promised}
use Rattle.coda_shelves.proofs.Rows.{none_stands}
use Rattle.coda_shelves.proofs.Taken.{mounted_taken}

-- ---- lines keep a cell

not_there : (there full : Bool) → no_room there full ≡ None → there ≡ false
not_there true full e = cc
not_there false full e = refl

unless_kept : (old : Cell) (o : Option Refusal) (own : Becoming) (reply : Reply) (outside : List (List ℕ)) (new : Cell) → IsKept old → (o ≡ None → own reply outside new → IsKept new) → Unless old o own reply outside new → IsKept new
unless_kept old (Some why) own reply outside new kept rest does = subst IsKept (sym does.2) kept
unless_kept old None own reply outside new kept rest does = rest refl does

down_kept : (b : Bool) (old : Cell) (own : Becoming) (reply : Reply) (outside : List (List ℕ)) (new : Cell) → IsKept old → (b ≡ false → own reply outside new → IsKept new) → UnlessDown b old own reply outside new → IsKept new
down_kept true old own reply outside new kept rest does = subst IsKept (sym does.2) kept
down_kept false old own reply outside new kept rest does = rest refl does

module _ (old : Cell) (kept : IsKept old) (reply : Reply) (outside : List (List ℕ)) (new : Cell) where
  acted_kept : (said : Line) → MakesNumbered said → (acts : Acts old said reply new) → (acts.events ≡ []) ⊎ IsActed old kept said acts.own acts.events → IsKept new
  acted_kept said numbered acts acted = acts_kept old kept said acts.own reply acts.events new numbered acted acts.ends

  does_kept : (said : Line) → InRange said → is_down_for (needs old said) ≡ false → DoesUp old said reply outside new → IsKept new
  does_kept (line.Volume volume servers area) range down does = unless_kept old (no_volume old volume (area_of area)) (MakesVolume old volume servers (area_of area)) reply outside new kept
      (λ room did. makes_volume old volume servers area reply outside new kept range.0 range.1 range.2 (none_stands (stand_of old volume) (not_there (is_some (stand_of old volume)) _ room)) did) does
  does_kept (line.Client client blocks area) range down does = unless_kept old (no_client old client (area_of area)) (MakesClient old client (client_header client blocks (area_of area))) reply outside new kept
      (λ room did. makes_client old client blocks area reply outside new kept range.0 range.1 range.2 did) does
  does_kept (line.CrashClient client choice) range down does = unless_kept old (first_missing (the_client old client).named) (Crashes client_payloads (old.clients client) (with_client old client)) reply outside new kept
      (λ all did. crash_client old client client_payloads reply outside new kept did) does
  does_kept (line.CrashReplica server volume choice) range down does = unless_kept old (first_missing (the_replica old server volume).named) (AtReplicaOf old (stand_of old volume) server (Crashes replica_payloads)) reply outside new kept
      (λ all did. crash_replica old (stand_of old volume) server replica_payloads reply outside new kept did) does
  does_kept (line.RecoverClient client) range down does = unless_kept old (first_missing (the_client old client).named) (Recovers client_payloads (old.clients client) (with_client old client)) reply outside new kept
      (λ all did. recover_client old client client_payloads reply outside new kept did) does
  does_kept (line.RecoverReplica server volume) range down does = unless_kept old (first_missing (the_replica old server volume).named) (AtReplicaOf old (stand_of old volume) server (Recovers replica_payloads)) reply outside new kept
      (λ all did. recover_replica old (stand_of old volume) server replica_payloads reply outside new kept did) does
  does_kept (line.ArmClient client passes) range down does = unless_kept old (first_missing (the_client old client).named) (StaysSo old replies.Accepted) reply outside new kept (λ all did. subst IsKept (sym did.2) kept) does
  does_kept (line.ArmReplica server volume passes) range down does = unless_kept old (first_missing (the_replica old server volume).named) (StaysSo old replies.Accepted) reply outside new kept (λ all did. subst IsKept (sym did.2) kept) does
  does_kept (line.Link client server strength) range down does = acted_kept (line.Link client server strength) tt does.1 (link_acted old kept does.1.own does.1.events client server strength does.1.does)
  does_kept (line.Tick seconds) range down does = acted_kept (line.Tick seconds) tt does.1 (tick_acted old kept does.1.own does.1.events seconds does.1.does)
  does_kept (line.Task work) range down does = acted_kept (line.Task work) tt does.1 (tasks_acted old kept does.1.own does.1.events work down does.1.does)
  does_kept (line.ShowVolume server volume) range down does =
      acted_kept (line.ShowVolume server volume) tt does.1 (nothing_acted old kept does.1.own does.1.events (first_missing (holder_named (state_of old) server volume ∷ [])) (replies.ShowVolume server volume) does.1.does)
  does_kept (line.ShowLog client volume) range down does = acted_kept (line.ShowLog client volume) tt does.1 (nothing_acted old kept does.1.own does.1.events (first_missing (on_volume (state_of old) client volume)) (replies.ShowLog client volume) does.1.does)
  does_kept (line.ShowState client volume) range down does = acted_kept (line.ShowState client volume) tt does.1 (state_acted old kept does.1.own does.1.events (meets old (line.ShowState client volume)) client volume does.1.does)
  does_kept (line.Send client volume server window) range down does = acted_kept (line.Send client volume server window) tt does.1 (send_acted old kept does.1.own does.1.events client volume server window down does.1.does)
  does_kept (line.Deliver message) range down does = acted_kept (line.Deliver message) tt does.1 (delivers_acted old kept does.1.own does.1.events message (sent_at message old.waiting) refl down does.1.does)
  does_kept (line.Lose message) range down does = acted_kept (line.Lose message) tt does.1 (loses_acted old kept does.1.own does.1.events message (sent_at message old.waiting) refl does.1.does)
  does_kept _ range down does = absurd does.1.does

pub happens_kept : (old new : Cell) (said : Line) (reply : Reply) (outside : List (List ℕ)) → IsKept old → InRange said → Happens old said reply outside new → IsKept new
happens_kept old new said reply outside kept range does = down_kept (is_down_for (needs old said)) old (DoesUp old said) reply outside new kept (does_kept old kept reply outside new said range) does

-- ---- and lose nothing

module _ {E : Type 0} where
  stays_same : (disk : PlainDisk E) → Stays disk disk
  stays_same disk = record { begins = ([], sym (append-nil disk.history)); header = λ some. refl }

  begun_some : (new old : List E) → BeginsWith new old → old ≢ [] → new ≢ []
  begun_some new [] begins some e = absurd (some refl)
  begun_some new (x ∷ old) begins some e = (let is : x ∷ (old ++ begins.0) ≡ [] = sym begins.1 ∙ e in cc)

  stays_twice : (a b c : PlainDisk E) → Stays a b → Stays b c → Stays a c
  stays_twice a b c p q = record {
    begins = (p.begins.0 ++ q.begins.0, q.begins.1 ∙ ap (λ l. l ++ q.begins.0) p.begins.1 ∙ append_assoc a.history p.begins.0 q.begins.0);
    header = λ some. q.header (begun_some b.history a.history p.begins some) ∙ p.header some;
  }

  stays_mounted : (header : Header) (old new : PlainDisk E) (ending : Mounting) → Mounts header old ending new → Stays old new
  stays_mounted header old new ending m = (mounted_taken (λ h. Unit {0}) header old new ending tt m).stays

pub stay_same : (shelves : Shelves) → Stay shelves shelves
stay_same shelves = record { clients = λ client. stays_same (shelves.clients client); replicas = λ row server. stays_same (shelves.replicas row server) }

pub stay_twice : (a b c : Shelves) → Stay a b → Stay b c → Stay a c
stay_twice a b c p q = record {
  clients = λ client. stays_twice (a.clients client) (b.clients client) (c.clients client) (p.clients client) (q.clients client);
  replicas = λ row server. stays_twice (a.replicas row server) (b.replicas row server) (c.replicas row server) (p.replicas row server) (q.replicas row server);
}

client_stay : (cell : Cell) (client : ℕ) (actor : PlainActor ClientEntry) → Stays (cell.clients client).disk actor.disk → Stay (shelves_of cell) (shelves_of (with_client cell client actor))
client_stay cell client actor stays = record {
  clients = at_put (λ c a. Stays (cell.clients c).disk a.disk) cell.clients client actor stays (λ c. stays_same (cell.clients c).disk);
  replicas = λ row server. stays_same (cell.replicas row server).disk;
}

replica_stay : (cell : Cell) (row server : ℕ) (actor : PlainActor ReplicaEntry) → Stays (cell.replicas row server).disk actor.disk → Stay (shelves_of cell) (shelves_of (with_replica cell row server actor))
replica_stay cell row server actor stays = record {
  clients = λ client. stays_same (cell.clients client).disk;
  replicas = at_place (λ r s a. Stays (cell.replicas r s).disk a.disk) cell.replicas row server actor stays (λ r s. stays_same (cell.replicas r s).disk);
}

volume_stay : (cell : Cell) (o : Option Stand) (server : ℕ) (f : PlainActor ReplicaEntry → PlainActor ReplicaEntry) → ((actor : PlainActor ReplicaEntry) → Stays actor.disk (f actor).disk) → Stay (shelves_of cell) (shelves_of (with_volume cell o server f))
volume_stay cell None server f stays = stay_same (shelves_of cell)
volume_stay cell (Some at) server f stays = replica_stay cell at.row server (f (cell.replicas at.row server)) (stays (cell.replicas at.row server))

event_stay : (cell : Cell) (event : Event) → Stay (shelves_of cell) (shelves_of (after cell event))
event_stay cell (VolumeMade v s) = stay_same (shelves_of cell)
event_stay cell (ClientMade c b) = stay_same (shelves_of cell)
event_stay cell (Ticked seconds) = stay_same (shelves_of cell)
event_stay cell (LinkSet c s strength) = stay_same (shelves_of cell)
event_stay cell (Entered (AtClient client entry)) = client_stay cell client (grown entry (cell.clients client)) (record { begins = (entry ∷ [], refl); header = λ some. refl })
event_stay cell (Entered (AtReplica server volume entry)) = volume_stay cell (stand_of cell volume) server (grown entry) (λ actor. record { begins = (entry ∷ [], refl); header = λ some. refl })
event_stay cell (Posted sent) = stay_same (shelves_of cell)
event_stay cell (Lost message) = stay_same (shelves_of cell)
event_stay cell (Used client fids) = stay_same (shelves_of cell)
event_stay cell (Kept client server fid) = stay_same (shelves_of cell)
event_stay cell (Stale client fids) = stay_same (shelves_of cell)

events_stay : (cell : Cell) (events : List Event) → Stay (shelves_of cell) (shelves_of (after_all cell events))
events_stay cell [] = stay_same (shelves_of cell)
events_stay cell (event ∷ events) = stay_twice (shelves_of cell) (shelves_of (after cell event)) (shelves_of (after_all (after cell event) events)) (event_stay cell event) (events_stay (after cell event) events)

failed_stay : (cell : Cell) (append : Append) → Stay (shelves_of cell) (shelves_of (failed cell append))
failed_stay cell (AtClient client entry) = client_stay cell client (failing entry (cell.clients client)) (record { begins = ([], sym (append-nil (cell.clients client).disk.history)); header = λ some. refl })
failed_stay cell (AtReplica server volume entry) = volume_stay cell (stand_of cell volume) server (failing entry) (λ actor. record { begins = ([], sym (append-nil actor.disk.history)); header = λ some. refl })

abbrev StaysOn : Cell → Cell → Type 0
StaysOn old cell = Stay (shelves_of old) (shelves_of cell)

unless_stay : (old : Cell) (o : Option Refusal) (own : Becoming) (reply : Reply) (outside : List (List ℕ)) (new : Cell) → (own reply outside new → StaysOn old new) → Unless old o own reply outside new → StaysOn old new
unless_stay old (Some why) own reply outside new rest does = subst (StaysOn old) (sym does.2) (stay_same (shelves_of old))
unless_stay old None own reply outside new rest does = rest does

made_stay : (old : Cell) (client : ℕ) (header : Header) (disk : PlainDisk ClientEntry) (ending : Mounting) → Mounts header (old.clients client).disk ending disk
    → StaysOn old (with_made (is_others (ending ∷ [])) old client header.area (made_on false header (old.clients client) disk ending))
made_stay old client header disk (Entries count) m = (let s = client_stay old client (made_on false header (old.clients client) disk (Entries count)) (stays_mounted header (old.clients client).disk disk (Entries count) m) in record { clients = s.clients; replicas = s.replicas })
made_stay old client header disk (Foreign at) m = stay_same (shelves_of old)
made_stay old client header disk DiskFault m = (let s = client_stay old client (made_on false header (old.clients client) disk DiskFault) (stays_mounted header (old.clients client).disk disk DiskFault m) in record { clients = s.clients; replicas = s.replicas })
made_stay old client header disk Memory m = (let s = client_stay old client (made_on false header (old.clients client) disk Memory) (stays_mounted header (old.clients client).disk disk Memory m) in record { clients = s.clients; replicas = s.replicas })

pub same_disk : (o : Bool) (header : Header) (actor : PlainActor ReplicaEntry) (disk : PlainDisk ReplicaEntry) (ending : Mounting) → (made_on o header actor disk ending).disk ≡ disk
same_disk true header actor disk ending = refl
same_disk false header actor disk ending = refl

module _ (others : Bool) (header : ℕ → Header) (first : ℕ → PlainActor ReplicaEntry) where
  abbrev AllStay : (ℕ → PlainActor ReplicaEntry) → Type 0
  AllStay now = (server : ℕ) → Stays (first server).disk (now server).disk

  one_stays : (server : ℕ) (now : ℕ → PlainActor ReplicaEntry) (disk : PlainDisk ReplicaEntry) (ending : Mounting) → AllStay now → Mounts (header server) (now server).disk ending disk
      → AllStay (put now server (made_on others (header server) (now server) disk ending))
  one_stays server now disk ending all m = at_put (λ s a. Stays (first s).disk a.disk) now server (made_on others (header server) (now server) disk ending)
      (subst (Stays (first server).disk) (sym (same_disk others (header server) (now server) disk ending)) (stays_twice (first server).disk (now server).disk disk (all server) (stays_mounted (header server) (now server).disk disk ending m))) all

  row_stays : (servers : List ℕ) (endings : List Mounting) (now new : ℕ → PlainActor ReplicaEntry) → AllStay now → MountsRow others header now servers endings new → AllStay new
  row_stays [] endings now new all m = subst AllStay (sym m.1) all
  row_stays (server ∷ servers) [] now new all m = absurd m
  row_stays (server ∷ servers) (Foreign at ∷ endings) now new all m = subst AllStay (sym m.2) all
  row_stays (server ∷ servers) (Entries count ∷ endings) now new all (told, (disk, mounts, rest)) = row_stays servers endings _ new (one_stays server now disk (Entries count) all mounts) rest
  row_stays (server ∷ servers) (DiskFault ∷ endings) now new all (told, (disk, mounts, rest)) = row_stays servers endings _ new (one_stays server now disk DiskFault all mounts) rest
  row_stays (server ∷ servers) (Memory ∷ endings) now new all (told, more) = absurd told

row_stay : (others : Bool) (old : Cell) (volume : ℕ) (servers : List ℕ) (area : ℕ) (row : ℕ → PlainActor ReplicaEntry) → ((server : ℕ) → Stays (old.replicas (length old.rows) server).disk (row server).disk) → StaysOn old (with_row others old volume servers area row)
row_stay true old volume servers area row all = record {
  clients = λ client. stays_same (old.clients client).disk;
  replicas = at_put (λ r f. (s : ℕ) → Stays (old.replicas r s).disk (f s).disk) old.replicas (length old.rows) row all (λ r s. stays_same (old.replicas r s).disk);
}
row_stay false old volume servers area row all = record {
  clients = λ client. stays_same (old.clients client).disk;
  replicas = at_put (λ r f. (s : ℕ) → Stays (old.replicas r s).disk (f s).disk) old.replicas (length old.rows) row all (λ r s. stays_same (old.replicas r s).disk);
}

module _ (old : Cell) (reply : Reply) (outside : List (List ℕ)) (new : Cell) where
  crash_stay : (client : ℕ) → Crashes client_payloads (old.clients client) (with_client old client) reply outside new → StaysOn old new
  crash_stay client (header, is, (image, may, says, out, next)) = subst (StaysOn old) (sym next) (client_stay old client _ (stays_same (old.clients client).disk))

  recover_stay : (client : ℕ) → Recovers client_payloads (old.clients client) (with_client old client) reply outside new → StaysOn old new
  recover_stay client (header, is, (ending, disk, told, mounts, from, says, out, next)) = subst (StaysOn old) (sym next) (client_stay old client _ (stays_mounted header (old.clients client).disk disk ending mounts))

  crash_replica_stay : (o : Option Stand) (server : ℕ) → AtReplicaOf old o server (Crashes replica_payloads) reply outside new → StaysOn old new
  crash_replica_stay None server does = absurd does
  crash_replica_stay (Some at) server (header, is, (image, may, says, out, next)) = subst (StaysOn old) (sym next) (replica_stay old at.row server _ (stays_same (old.replicas at.row server).disk))

  recover_replica_stay : (o : Option Stand) (server : ℕ) → AtReplicaOf old o server (Recovers replica_payloads) reply outside new → StaysOn old new
  recover_replica_stay None server does = absurd does
  recover_replica_stay (Some at) server (header, is, (ending, disk, told, mounts, from, says, out, next)) =
      subst (StaysOn old) (sym next) (replica_stay old at.row server _ (stays_mounted header (old.replicas at.row server).disk disk ending mounts))

  ends_stay : (events : List Event) (own : Reply) → EndsBy old events own reply new → StaysOn old new
  ends_stay events own (inl all) = subst (StaysOn old) (sym all.2) (events_stay old events)
  ends_stay events own (inr (inl full)) = subst (StaysOn old) (sym full.4) (events_stay old full.0.done)
  ends_stay events own (inr (inr fault)) =
      subst (StaysOn old) (sym fault.3) (stay_twice (shelves_of old) (shelves_of (after_all old fault.0.done)) (shelves_of (failed (after_all old fault.0.done) fault.0.next)) (events_stay old fault.0.done) (failed_stay (after_all old fault.0.done) fault.0.next))

  acts_stay : (said : Line) → (outside ≡ []) × Acts old said reply new → StaysOn old new
  acts_stay said (out, acts) = ends_stay acts.events acts.own acts.ends

  does_stay : (said : Line) → DoesUp old said reply outside new → StaysOn old new
  does_stay (line.Volume volume servers area) does = unless_stay old (no_volume old volume (area_of area)) (MakesVolume old volume servers (area_of area)) reply outside new
      (λ (endings, row, mounts, says, out, next). subst (StaysOn old) (sym next) (row_stay (is_others endings) old volume servers (area_of area) row
      (row_stays (is_others endings) (replica_header volume servers (area_of area)) (old.replicas (length old.rows)) servers endings (old.replicas (length old.rows)) row (λ s. stays_same (old.replicas (length old.rows) s).disk) mounts))) does
  does_stay (line.Client client blocks area) does = unless_stay old (no_client old client (area_of area)) (MakesClient old client (client_header client blocks (area_of area))) reply outside new
      (λ (ending, disk, told, mounts, says, out, next). subst (StaysOn old) (sym next) (made_stay old client (client_header client blocks (area_of area)) disk ending mounts)) does
  does_stay (line.CrashClient client choice) does = unless_stay old (first_missing (the_client old client).named) (Crashes client_payloads (old.clients client) (with_client old client)) reply outside new (crash_stay client) does
  does_stay (line.CrashReplica server volume choice) does = unless_stay old (first_missing (the_replica old server volume).named) (AtReplicaOf old (stand_of old volume) server (Crashes replica_payloads)) reply outside new (crash_replica_stay (stand_of old volume) server) does
  does_stay (line.RecoverClient client) does = unless_stay old (first_missing (the_client old client).named) (Recovers client_payloads (old.clients client) (with_client old client)) reply outside new (recover_stay client) does
  does_stay (line.RecoverReplica server volume) does = unless_stay old (first_missing (the_replica old server volume).named) (AtReplicaOf old (stand_of old volume) server (Recovers replica_payloads)) reply outside new (recover_replica_stay (stand_of old volume) server) does
  does_stay (line.ArmClient client passes) does = unless_stay old (first_missing (the_client old client).named) (StaysSo old replies.Accepted) reply outside new (λ did. subst (StaysOn old) (sym did.2) (stay_same (shelves_of old))) does
  does_stay (line.ArmReplica server volume passes) does = unless_stay old (first_missing (the_replica old server volume).named) (StaysSo old replies.Accepted) reply outside new (λ did. subst (StaysOn old) (sym did.2) (stay_same (shelves_of old))) does
  does_stay (line.Link client server strength) does = acts_stay (line.Link client server strength) does
  does_stay (line.Tick seconds) does = acts_stay (line.Tick seconds) does
  does_stay (line.Task work) does = acts_stay (line.Task work) does
  does_stay (line.ShowVolume server volume) does = acts_stay (line.ShowVolume server volume) does
  does_stay (line.ShowLog client volume) does = acts_stay (line.ShowLog client volume) does
  does_stay (line.ShowState client volume) does = acts_stay (line.ShowState client volume) does
  does_stay (line.Send client volume server window) does = acts_stay (line.Send client volume server window) does
  does_stay (line.Deliver message) does = acts_stay (line.Deliver message) does
  does_stay (line.Lose message) does = acts_stay (line.Lose message) does
  does_stay _ does = absurd does.1.does

  pub down_stay : (said : Line) (b : Bool) → UnlessDown b old (DoesUp old said) reply outside new → StaysOn old new
  down_stay said true does = subst (StaysOn old) (sym does.2) (stay_same (shelves_of old))
  down_stay said false does = does_stay said does

-- ---- all of it

pub shelves_are_kept : ShelvesAreKept
shelves_are_kept = record {
  blank = blank_kept;
  begins = begun_kept;
  lines = happens_kept;
  stays = λ old new said reply outside does. down_stay old reply outside new said (is_down_for (needs old said)) does;
  promised = λ shelves kept joins. promised _ (kept.agree joins);
}
