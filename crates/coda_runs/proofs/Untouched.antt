-- That a refused line leaves a cell as it was, but for a little.
use Rattle.std.proofs.Common.{◌≡◌, ℕ, ◌+◌, ◌==◌, ◌&&◌, length, Bool, true, false, cond, List, [], ◌∷◌, ◌++◌, map, Option, Some, None, refl, sym, ap, subst, ◌∙◌, inl, inr}
use Rattle.std.specs.Prelude.{nat_lt}
use Rattle.std.specs.Option.{option_map_or, unwrap_or}
use Rattle.std.proofs.lemmas.Bool.{eqb-true}
use Rattle.coda_actors.specs.Plain.{PlainActor, Down}
use Rattle.coda_actors.specs.declared.slot.Mounting.TheVariants.{Entries, Foreign, DiskFault, Memory}
use Rattle.coda_letters.specs.Sent.{Sent, ChunkSent, AnswerSent, BreakSent, client_of, server_of, is_lossy, sent_at}
use Rattle.coda_plain.specs.Cell.{Fetched}
use Rattle.coda_plain.specs.Decisions.{ReplicaEntry}
use Rattle.coda_plain.specs.Moves.{Append, AtClient, AtReplica}
use Rattle.coda_replica.specs.Answers.{is_next}
use Rattle.coda_script.specs.declared.line.Line.{Line}
use Rattle.coda_script.specs.declared.line.Line.TheVariants as line
use Rattle.coda_script.specs.declared.line.Task.{Task}
use Rattle.coda_script.specs.declared.line.Task.TheVariants as task
use Rattle.coda_script.specs.declared.reply.Reply.{Reply}
use Rattle.coda_script.specs.declared.reply.Reply.TheVariants.{Accepted}
use Rattle.coda_script.specs.declared.line.Strength.TheVariants.{Down as LinkIsDown}
use Rattle.coda_tree.specs.Volume.{Nodes}
use Rattle.coda_venus.specs.Ask.{Asked, Create, Mkdir, Symlink, Store, Setattr, Remove, Rmdir, Rename}
use Rattle.coda_cell.specs.Asking.{Answer, operate, read, list}
use Rattle.coda_cell.specs.Refused.{Refused}
use Rattle.coda_cell.specs.State.{put, ClientState, ReplicaState, CellState, Event, VolumeMade, ClientMade, Ticked, LinkSet, Entered, Posted, Lost, Used, Kept, Stale, at_client}
use Rattle.coda_cell.specs.Steps.{Doing, Unless, client_named, volume_named, server_named, holder_named, on_volume, on_holder, first_missing, offers_of, reply_to, link_down, ByClient, ByBoth, BySend, ByRuling, ByTaking, Comes, Delivers, cut_with, Loses, Does, DoesTask, bytes_of}
use Rattle.coda_cell.proofs.Events.{all_there}
use Rattle.coda_cell.proofs.Families.{put_same}
use Rattle.coda_shelves.specs.Shelves.{client_header, replica_header}
use Rattle.coda_shelves.specs.Cells.{Cell, Stand, stand_of, with_client, with_replica, with_volume, grown, failing, appended, failed, after_all}
use Rattle.coda_shelves.specs.Lines.{Becoming, Stays, Unless as UnlessIn, UnlessDown, needs, is_down_for, is_built, EndsBy, client_payloads, replica_payloads, the_client, the_replica, area_of, no_volume, no_client, MakesVolume, MakesClient, Crashes, Recovers, AtReplicaOf, DoesUp, Happens, meets, refused_fault}
use Rattle.coda_runs.specs.Because.{IsRefused}
use Rattle.coda_runs.specs.Untouched.{MayAdd, AllMay, added, IsBeside, Leaves, Adds, Falls, ClientFalls, ReplicaFalls, RefusedLinesChangeLittle}
use Rattle.coda_runs.proofs.Adding.{All, IsQuiet, Led, led_done, led_all, led_quiet, Little, fetches_all, operate_little, drain_little, send_little, taking_little, ruling_little}
use Rattle.coda_runs.proofs.Turning.{LedFor, PairsFor, for_done, take_turns, line_turned}
use Rattle.coda_runs.proofs.Unlettered.{is_acting}

-- ---- the events of a line

abbrev IsAdded : Line → Event → Type 0
IsAdded said (Entered append) = MayAdd said append
IsAdded said event = ⊥

module _ (s : CellState) (reply : Reply) (events : List Event) where
  module _ (P : Event → Type 0) where
    as_is : (r : Reply) (es : List Event) → reply ≡ r → events ≡ es → Little P r es → Little P reply events
    as_is r es a b l = subst (λ q. Little P q events) (sym a) (subst (Little P r) (sym b) l)

    none_added : events ≡ [] → Little P reply events
    none_added is = subst (Little P reply) (sym is) (tt, λ isnt. tt)

    unless_little : (o : Option Refused) (own : Doing) → (o ≡ None → own reply events → Little P reply events) → Unless o own reply events → Little P reply events
    unless_little (Some why) own rest does = none_added does.1
    unless_little None own rest does = rest refl does

    -- an event alone, of a line that isn't refused
    one_little : (r : Reply) (event : Event) → (IsRefused r → ⊥) → Led P (event ∷ []) → (reply ≡ r) × (events ≡ event ∷ []) → Little P reply events
    one_little r event fine led did = as_is r (event ∷ []) did.0 did.1 (led, λ isnt. absurd (fine isnt))

    asked_little : (client volume : ℕ) (ask : Option Nodes → ClientState → Answer) → ((offers : Option Nodes) (c : ClientState) → Little P (reply_to (ask offers c).said) (map (at_client client) (ask offers c).entries))
        → Unless (first_missing (on_volume s client volume)) (ByClient s client volume ask) reply events → Little P reply events
    asked_little client volume ask so does = unless_little (first_missing (on_volume s client volume)) (ByClient s client volume ask)
        (λ all did. as_is (reply_to (ask (offers_of s client volume) did.client).said) (map (at_client client) (ask (offers_of s client volume) did.client).entries) did.answered did.happened (so (offers_of s client volume) did.client)) does

  op_little : (t : Task) (client volume : ℕ) (ask : Asked) → ((fid : _) (parent : _) (node : _) → IsAdded (line.Task t) (at_client client (Fetched fid parent node)))
      → Unless (first_missing (on_volume s client volume)) (ByClient s client volume (λ offers c. operate offers c s.clock volume ask)) reply events → Little (IsAdded (line.Task t)) reply events
  op_little t client volume ask fetch does =
      asked_little (IsAdded (line.Task t)) client volume (λ offers c. operate offers c s.clock volume ask) (λ offers c. operate_little (IsAdded (line.Task t)) client volume fetch offers c s.clock ask) does

  task_little : (t : Task) → DoesTask s t reply events → Little (IsAdded (line.Task t)) reply events
  task_little (task.Create c v path mode owner) does = op_little (task.Create c v path mode owner) c v (Create path (unwrap_or mode 420) (unwrap_or owner 0)) (λ fid parent node. refl) does
  task_little (task.Mkdir c v path mode owner) does = op_little (task.Mkdir c v path mode owner) c v (Mkdir path (unwrap_or mode 493) (unwrap_or owner 0)) (λ fid parent node. refl) does
  task_little (task.Symlink c v path target) does = op_little (task.Symlink c v path target) c v (Symlink path target) (λ fid parent node. refl) does
  task_little (task.Store c v path content) does = op_little (task.Store c v path content) c v (Store path (bytes_of content)) (λ fid parent node. refl) does
  task_little (task.Setattr c v path attrs) does = op_little (task.Setattr c v path attrs) c v (Setattr path attrs) (λ fid parent node. refl) does
  task_little (task.Remove c v path) does = op_little (task.Remove c v path) c v (Remove path) (λ fid parent node. refl) does
  task_little (task.Rmdir c v path) does = op_little (task.Rmdir c v path) c v (Rmdir path) (λ fid parent node. refl) does
  task_little (task.Rename c v from to) does = op_little (task.Rename c v from to) c v (Rename from to) (λ fid parent node. refl) does
  task_little (task.Read c v path) does =
      let P = IsAdded (line.Task (task.Read c v path)) in
      asked_little P c v (λ offers k. read offers k v path) (λ offers k. (let all = fetches_all P c v (λ fid parent node. refl) _ in (led_all P _ all, λ isnt. all))) does
  task_little (task.List c v path) does =
      let P = IsAdded (line.Task (task.List c v path)) in
      asked_little P c v (λ offers k. list offers k v path) (λ offers k. (let all = fetches_all P c v (λ fid parent node. refl) _ in (led_all P _ all, λ isnt. all))) does
  task_little (task.Drain client volume server given) does =
      let P = IsAdded (line.Task (task.Drain client volume server given)) in
      unless_little P (first_missing (on_holder s client volume server)) (ByBoth s client volume (unwrap_or given 600))
      (λ all did. (
      let there = all_there (client_named s client) (volume_named s volume) (holder_named s server volume) all in
      let its : did.replica.server ≡ server = eqb-true did.replica.server server (sym (ap (λ o. option_map_or (λ (x : ReplicaState). x.server == server) o false) did.replica_there) ∙ there.2) in
      as_is P _ _ did.answered did.happened (drain_little P client volume server (λ number home last at. (refl, refl, at)) (λ number span. (refl, refl, refl)) (s.links client did.replica.server) s.clock (unwrap_or given 600)
      (did.client.volumes volume) did.replica its)
      )) does
  task_little (task.Hardlink c v from to) does = absurd does
  task_little (task.Refresh c v server) does = absurd does
  task_little (task.Giveup c v) does = absurd does

  letter_little : (P : Event → Type 0) (message : ℕ) (o : Option Sent) → Delivers s message o reply events → Little P reply events
  letter_little P message None does = none_added P does.1
  letter_little P message (Some (ChunkSent client server volume number span)) does = unless_little P (link_down (s.links client server)) (Comes s (ChunkSent client server volume number span))
      (λ link comes. unless_little P (first_missing (on_holder s client volume server)) (ByRuling s client server volume number span)
      (λ all did. as_is P _ _ did.answered did.happened (ruling_little P client volume s server number span did.replica (is_next (did.replica.lasts client) number) (nat_lt 4294967295 number))) comes) does
  letter_little P message (Some (AnswerSent server client volume number answer)) does = unless_little P (link_down (s.links client server)) (Comes s (AnswerSent server client volume number answer))
      (λ link comes. unless_little P (first_missing (on_holder s client volume server)) (ByTaking s client volume number answer)
      (λ all did. as_is P _ _ did.answered did.happened (taking_little P client volume number answer (did.client.volumes volume))) comes) does
  letter_little P message (Some (BreakSent server client volume fids)) does = unless_little P (link_down (s.links client server)) (Comes s (BreakSent server client volume fids))
      (λ link comes. unless_little P (first_missing (on_holder s client volume server)) _
      (λ all did. one_little P _ (Stale client fids) (λ isnt. isnt) (led_quiet P (Stale client fids ∷ []) (tt, tt)) did) comes) does

  loss_little : (P : Event → Type 0) (message : ℕ) (o : Option Sent) → Loses message o reply events → Little P reply events
  loss_little P message None does = none_added P does.1
  loss_little P message (Some sent) does = as_is P _ _ does.0 does.1 (led_quiet P (Lost message ∷ cut_with sent) (tt, by (is_lossy sent)), λ isnt. absurd isnt)
    where
      by : (b : Bool) → All IsQuiet (cond b [] (LinkSet (client_of sent) (server_of sent) LinkIsDown ∷ []))
      by true = tt
      by false = (tt, tt)

  line_little : (said : Line) → is_acting said ≡ true → Does s said reply events → Little (IsAdded said) reply events
  line_little (line.Link client server strength) acting does =
      let P = IsAdded (line.Link client server strength) in
      unless_little P (first_missing (client_named s client ∷ server_named s server ∷ [])) _ (λ all did. one_little P _ (LinkSet client server strength) (λ isnt. isnt) (led_quiet P (LinkSet client server strength ∷ []) (tt, tt)) did) does
  line_little (line.Tick seconds) acting does = (let P = IsAdded (line.Tick seconds) in one_little P _ (Ticked seconds) (λ isnt. isnt) (led_quiet P (Ticked seconds ∷ []) (tt, tt)) does)
  line_little (line.Task t) acting does = task_little t does
  line_little (line.ShowVolume server volume) acting does =
      unless_little (IsAdded (line.ShowVolume server volume)) (first_missing (holder_named s server volume ∷ [])) _ (λ all did. none_added (IsAdded (line.ShowVolume server volume)) did.1) does
  line_little (line.ShowLog client volume) acting does =
      unless_little (IsAdded (line.ShowLog client volume)) (first_missing (on_volume s client volume)) _ (λ all did. none_added (IsAdded (line.ShowLog client volume)) did.1) does
  line_little (line.ShowState client volume) acting does =
      unless_little (IsAdded (line.ShowState client volume)) (first_missing (on_volume s client volume)) _ (λ all did. none_added (IsAdded (line.ShowState client volume)) did.happened) does
  line_little (line.Send client volume server given) acting does =
      let P = IsAdded (line.Send client volume server given) in
      unless_little P (first_missing (on_holder s client volume server)) (BySend s client volume server (unwrap_or given 600))
      (λ all did. as_is P _ _ did.answered did.happened (send_little P client volume s server s.clock (unwrap_or given 600) (did.client.volumes volume) (s.links client server))) does
  line_little (line.Deliver message) acting does = letter_little (IsAdded (line.Deliver message)) message (sent_at message s.waiting) does
  line_little (line.Lose message) acting does = loss_little (IsAdded (line.Lose message)) message (sent_at message s.waiting) does
  line_little (line.Volume volume servers area) acting does = cc
  line_little (line.Client client blocks area) acting does = cc
  line_little _ acting does = absurd does

-- ---- what entries leave

same_beside : (cell : Cell) → IsBeside cell cell
same_beside cell = record { rows = refl; areas = refl; clock = refl; links = refl; waiting = refl; posted = refl; copies = refl; uses = refl }

both_beside : (a b c : Cell) → IsBeside a b → IsBeside b c → IsBeside a c
both_beside a b c p q = record {
  rows = q.rows ∙ p.rows;
  areas = q.areas ∙ p.areas;
  clock = q.clock ∙ p.clock;
  links = q.links ∙ p.links;
  waiting = q.waiting ∙ p.waiting;
  posted = q.posted ∙ p.posted;
  copies = q.copies ∙ p.copies;
  uses = q.uses ∙ p.uses;
}

volume_beside : (cell : Cell) (o : Option Stand) (server : ℕ) (f : PlainActor ReplicaEntry → PlainActor ReplicaEntry) → IsBeside cell (with_volume cell o server f)
volume_beside cell None server f = same_beside cell
volume_beside cell (Some at) server f = record { rows = refl; areas = refl; clock = refl; links = refl; waiting = refl; posted = refl; copies = refl; uses = refl }

appended_beside : (cell : Cell) (append : Append) → IsBeside cell (appended cell append)
appended_beside cell (AtClient client entry) = record { rows = refl; areas = refl; clock = refl; links = refl; waiting = refl; posted = refl; copies = refl; uses = refl }
appended_beside cell (AtReplica server volume entry) = volume_beside cell (stand_of cell volume) server (grown entry)

failed_beside : (cell : Cell) (append : Append) → IsBeside cell (failed cell append)
failed_beside cell (AtClient client entry) = record { rows = refl; areas = refl; clock = refl; links = refl; waiting = refl; posted = refl; copies = refl; uses = refl }
failed_beside cell (AtReplica server volume entry) = volume_beside cell (stand_of cell volume) server (failing entry)

added_beside : (cell : Cell) (appends : List Append) → IsBeside cell (added cell appends)
added_beside cell [] = same_beside cell
added_beside cell (append ∷ appends) = both_beside cell (appended cell append) (added (appended cell append) appends) (appended_beside cell append) (added_beside (appended cell append) appends)

-- events that are entries which may be added are these entries
to_added : (said : Line) (cell : Cell) (events : List Event) → All (IsAdded said) events → (appends : List Append) × AllMay said appends × (after_all cell events ≡ added cell appends) × (events ≡ map Entered appends)
to_added said cell [] all = ([], tt, refl, refl)
to_added said cell (Entered append ∷ events) all = (let rest = to_added said (appended cell append) events all.1 in (append ∷ rest.0, (all.0, rest.1), rest.2, ap (λ l. Entered append ∷ l) rest.3))
to_added said cell (VolumeMade volume server ∷ events) all = absurd all.0
to_added said cell (ClientMade client blocks ∷ events) all = absurd all.0
to_added said cell (Ticked seconds ∷ events) all = absurd all.0
to_added said cell (LinkSet client server strength ∷ events) all = absurd all.0
to_added said cell (Posted sent ∷ events) all = absurd all.0
to_added said cell (Lost message ∷ events) all = absurd all.0
to_added said cell (Used client fids ∷ events) all = absurd all.0
to_added said cell (Kept client server fid ∷ events) all = absurd all.0
to_added said cell (Stale client fids ∷ events) all = absurd all.0

-- nothing is in turn
none_paired : (said : Line) → PairsFor said []
none_paired (line.Task (task.Drain client volume server window)) = tt
none_paired (line.Task t) = tt
none_paired _ = tt

-- ---- lines

module _ (old new : Cell) (reply : Reply) (isnt : IsRefused reply) where
  abbrev Is : Line → Type 0
  Is said = Leaves old said reply new

  stayed : (said : Line) → new ≡ old → Is said
  stayed said is = Adds [] tt (take_turns said [] (none_paired said)) is (subst (IsBeside old) (sym is) (same_beside old))

  adds : (said : Line) (events : List Event) → All (IsAdded said) events → PairsFor said events → new ≡ after_all old events → Is said
  adds said events all pairs is =
      let some = to_added said old events all in
      let left = is ∙ some.2 in
      Adds some.0 some.1 (take_turns said some.0 (subst (PairsFor said) some.3 pairs)) left (subst (IsBeside old) (sym left) (added_beside old some.0))

  falls : (said : Line) (events : List Event) (next : Append) → All (IsAdded said) events → PairsFor said events → reply ≡ refused_fault → new ≡ failed (after_all old events) next → Is said
  falls said events next all pairs says is =
      let some = to_added said old events all in
      let left : new ≡ failed (added old some.0) next = is ∙ ap (λ c. failed c next) some.2 in
      Falls some.0 next some.1 (take_turns said some.0 (subst (PairsFor said) some.3 pairs)) says left
      (subst (IsBeside old) (sym left) (both_beside old (added old some.0) (failed (added old some.0) next) (added_beside old some.0) (failed_beside (added old some.0) next)))

  ends_so : (said : Line) (own : Reply) (events : List Event) → is_acting said ≡ true → Does (meets old said) said own events → EndsBy old events own reply new → Is said
  ends_so said own events acting does (inl (fits, says, is)) = adds said events ((line_little (meets old said) own events said acting does).1 (subst IsRefused says isnt)) ((line_turned (meets old said) own events said does).1 (subst IsRefused says isnt)) is
  ends_so said own events acting does (inr (inl (stop, fits, lacks, says, is))) =
      adds said stop.done (led_done (IsAdded said) stop.done stop.rest stop.next (subst (Led (IsAdded said)) stop.is (line_little (meets old said) own events said acting does).0)) (for_done said stop.done stop.rest stop.next (subst (LedFor said) stop.is (line_turned (meets old said) own events said does).0)) is
  ends_so said own events acting does (inr (inr (stop, fits, says, is))) =
      falls said stop.done stop.next (led_done (IsAdded said) stop.done stop.rest stop.next (subst (Led (IsAdded said)) stop.is (line_little (meets old said) own events said acting does).0)) (for_done said stop.done stop.rest stop.next (subst (LedFor said) stop.is (line_turned (meets old said) own events said does).0)) says is

  unless_so : (said : Line) (o : Option Refused) (own : Becoming) (outside : List (List ℕ)) → (own reply outside new → Is said) → UnlessIn old o own reply outside new → Is said
  unless_so said (Some why) own outside rest does = stayed said does.2
  unless_so said None own outside rest does = rest does

  -- ---- lines that make actors

  client_made : (client blocks : ℕ) (area : Option ℕ) (outside : List (List ℕ)) → MakesClient old client (client_header client blocks (area_of area)) reply outside new → Is (line.Client client blocks area)
  client_made client blocks area outside (Entries count, disk, told, mounts, says, out, is) = absurd (subst IsRefused says isnt)
  client_made client blocks area outside (Foreign at, disk, told, mounts, says, out, is) = stayed (line.Client client blocks area) is
  client_made client blocks area outside (DiskFault, disk, told, mounts, says, out, is) =
      ClientFalls client (old.areas + area_of area) (client_header client blocks (area_of area)) (record { disk = disk; life = Down (client_header client blocks (area_of area)); left = None }) (refl, refl) mounts refl is
  client_made client blocks area outside (Memory, disk, told, mounts, says, out, is) = absurd told

  -- a row with another actor at one place is the row with the actor there
  row_same : (n server : ℕ) (actor : PlainActor ReplicaEntry) (row : ℕ → PlainActor ReplicaEntry) → row ≡ put (old.replicas n) server actor → (r s : ℕ) → put old.replicas n row r s ≡ (with_replica old n server actor).replicas r s
  row_same n server actor row is r s = by (r == n) refl
    where
      by : (b : Bool) → (r == n) ≡ b → (cond b row (old.replicas r)) s ≡ cond (b && (s == server)) actor (old.replicas r s)
      by true e = ap (λ (f : ℕ → PlainActor ReplicaEntry). f s) is ∙ ap (λ k. cond (s == server) actor (old.replicas k s)) (sym (eqb-true r n e))
      by false e = refl

  volume_made : (volume server : ℕ) (area : Option ℕ) (outside : List (List ℕ)) → MakesVolume old volume (server ∷ []) (area_of area) reply outside new → Is (line.Volume volume (server ∷ []) area)
  volume_made volume server area outside ([], row, mounts, says, out, is) = absurd mounts
  volume_made volume server area outside (Foreign at ∷ endings, row, (other, none, same), says, out, is) =
      stayed (line.Volume volume (server ∷ []) area) (is ∙ (λ i. record old { replicas = λ q. put_same old.replicas (length old.rows) row (sym same) q i }))
  volume_made volume server area outside (Entries count ∷ [], row, mounts, says, out, is) = absurd (subst IsRefused says isnt)
  volume_made volume server area outside (Entries count ∷ e ∷ endings, row, (told, (disk, m, rest)), says, out, is) = (let no = rest.0 in cc)
  volume_made volume server area outside (DiskFault ∷ [], row, (told, (disk, tries, rest)), says, out, is) =
      let header = replica_header volume (server ∷ []) (area_of area) server in
      let place = length old.rows in
      let actor : PlainActor ReplicaEntry = record { disk = disk; life = Down header; left = None } in
      let rows = old.rows ++ record { volume = volume; servers = server ∷ [] } ∷ [] in
      let areas = old.areas + area_of area in
      ReplicaFalls place server areas rows header actor (refl, inl refl, refl) tries refl
      (is ∙ (λ i. record old { replicas = λ r s. row_same place server actor row rest.1 r s i; rows = rows; areas = areas }))
  volume_made volume server area outside (DiskFault ∷ e ∷ endings, row, (told, (disk, m, rest)), says, out, is) = (let no = rest.0 in cc)
  volume_made volume server area outside (Memory ∷ endings, row, mounts, says, out, is) = absurd mounts.0

  -- ---- crashes and recoveries

  client_back : (client : ℕ) (outside : List (List ℕ)) → Recovers client_payloads (old.clients client) (with_client old client) reply outside new → Is (line.RecoverClient client)
  client_back client outside (header, asks, (Entries count, disk, told, mounts, from, says, out, is)) = absurd (subst IsRefused says isnt)
  client_back client outside (header, asks, (Foreign at, disk, told, mounts, from, says, out, is)) =
      ClientFalls client old.areas header (record { disk = disk; life = Down header; left = (old.clients client).left }) (refl, asks) (inl mounts.1) refl is
  client_back client outside (header, asks, (DiskFault, disk, told, mounts, from, says, out, is)) =
      ClientFalls client old.areas header (record { disk = disk; life = Down header; left = (old.clients client).left }) (refl, asks) mounts refl is
  client_back client outside (header, asks, (Memory, disk, told, mounts, from, says, out, is)) = absurd told

  replica_back : (server volume : ℕ) (outside : List (List ℕ)) (o : Option Stand) → stand_of old volume ≡ o → AtReplicaOf old o server (Recovers replica_payloads) reply outside new → Is (line.RecoverReplica server volume)
  replica_back server volume outside None e does = absurd does
  replica_back server volume outside (Some at) e (header, asks, (Entries count, disk, told, mounts, from, says, out, is)) = absurd (subst IsRefused says isnt)
  replica_back server volume outside (Some at) e (header, asks, (Foreign place, disk, told, mounts, from, says, out, is)) =
      ReplicaFalls at.row server old.areas old.rows header (record { disk = disk; life = Down header; left = (old.replicas at.row server).left }) (refl, (at, e, refl), asks) (inl mounts.1) refl is
  replica_back server volume outside (Some at) e (header, asks, (DiskFault, disk, told, mounts, from, says, out, is)) =
      ReplicaFalls at.row server old.areas old.rows header (record { disk = disk; life = Down header; left = (old.replicas at.row server).left }) (refl, (at, e, refl), asks) mounts refl is
  replica_back server volume outside (Some at) e (header, asks, (Memory, disk, told, mounts, from, says, out, is)) = absurd told

  replica_crashes : (server : ℕ) (outside : List (List ℕ)) (o : Option Stand) (said : Line) → AtReplicaOf old o server (Crashes replica_payloads) reply outside new → Is said
  replica_crashes server outside None said does = absurd does
  replica_crashes server outside (Some at) said (header, asks, (image, may, says, out, is)) = absurd (subst IsRefused says isnt)

  client_crashes : (client : ℕ) (outside : List (List ℕ)) (said : Line) → Crashes client_payloads (old.clients client) (with_client old client) reply outside new → Is said
  client_crashes client outside said (header, asks, (image, may, says, out, is)) = absurd (subst IsRefused says isnt)

  -- ---- every line

  up_so : (said : Line) (outside : List (List ℕ)) → is_built said ≡ true → DoesUp old said reply outside new → Is said
  up_so (line.Volume volume [] area) outside built does = cc
  up_so (line.Volume volume (server ∷ []) area) outside built does =
      unless_so (line.Volume volume (server ∷ []) area) (no_volume old volume (area_of area)) (MakesVolume old volume (server ∷ []) (area_of area)) outside (volume_made volume server area outside) does
  up_so (line.Volume volume (server ∷ more ∷ servers) area) outside built does = cc
  up_so (line.Client client blocks area) outside built does =
      unless_so (line.Client client blocks area) (no_client old client (area_of area)) (MakesClient old client (client_header client blocks (area_of area))) outside (client_made client blocks area outside) does
  up_so (line.CrashClient client choice) outside built does =
      let said = line.CrashClient client choice in
      unless_so said (first_missing (the_client old client).named) (Crashes client_payloads (old.clients client) (with_client old client)) outside (client_crashes client outside said) does
  up_so (line.CrashReplica server volume choice) outside built does =
      let said = line.CrashReplica server volume choice in
      unless_so said (first_missing (the_replica old server volume).named) (AtReplicaOf old (stand_of old volume) server (Crashes replica_payloads)) outside (replica_crashes server outside (stand_of old volume) said) does
  up_so (line.RecoverClient client) outside built does =
      unless_so (line.RecoverClient client) (first_missing (the_client old client).named) (Recovers client_payloads (old.clients client) (with_client old client)) outside (client_back client outside) does
  up_so (line.RecoverReplica server volume) outside built does =
      unless_so (line.RecoverReplica server volume) (first_missing (the_replica old server volume).named) (AtReplicaOf old (stand_of old volume) server (Recovers replica_payloads)) outside
      (replica_back server volume outside (stand_of old volume) refl) does
  up_so (line.ArmClient client passes) outside built does =
      unless_so (line.ArmClient client passes) (first_missing (the_client old client).named) (Stays old Accepted) outside (λ did. stayed (line.ArmClient client passes) did.2) does
  up_so (line.ArmReplica server volume passes) outside built does =
      unless_so (line.ArmReplica server volume passes) (first_missing (the_replica old server volume).named) (Stays old Accepted) outside (λ did. stayed (line.ArmReplica server volume passes) did.2) does
  up_so (line.Link client server strength) outside built (out, acts) = ends_so (line.Link client server strength) acts.own acts.events refl acts.does acts.ends
  up_so (line.Tick seconds) outside built (out, acts) = ends_so (line.Tick seconds) acts.own acts.events refl acts.does acts.ends
  up_so (line.Task t) outside built (out, acts) = ends_so (line.Task t) acts.own acts.events refl acts.does acts.ends
  up_so (line.ShowVolume server volume) outside built (out, acts) = ends_so (line.ShowVolume server volume) acts.own acts.events refl acts.does acts.ends
  up_so (line.ShowLog client volume) outside built (out, acts) = ends_so (line.ShowLog client volume) acts.own acts.events refl acts.does acts.ends
  up_so (line.ShowState client volume) outside built (out, acts) = ends_so (line.ShowState client volume) acts.own acts.events refl acts.does acts.ends
  up_so (line.Send client volume server given) outside built (out, acts) = ends_so (line.Send client volume server given) acts.own acts.events refl acts.does acts.ends
  up_so (line.Deliver message) outside built (out, acts) = ends_so (line.Deliver message) acts.own acts.events refl acts.does acts.ends
  up_so (line.Lose message) outside built (out, acts) = ends_so (line.Lose message) acts.own acts.events refl acts.does acts.ends
  up_so _ outside built does = cc

  every_so : (said : Line) (outside : List (List ℕ)) → is_built said ≡ true → Happens old said reply outside new → Is said
  every_so said outside built happens = by (is_down_for (needs old said)) happens
    where
      by : (b : Bool) → UnlessDown b old (DoesUp old said) reply outside new → Is said
      by true h = stayed said h.2
      by false h = up_so said outside built h

pub refused_lines_change_little : RefusedLinesChangeLittle
refused_lines_change_little cell said reply outside new built happens isnt = every_so cell new reply isnt said outside built happens
