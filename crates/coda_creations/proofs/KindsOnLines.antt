-- What each line does keeps whatever an actor has of the kind with which it was made.
use Rattle.std.proofs.Common.{append_assoc, append-nil}
use Rattle.std.proofs.Common.{◌≡◌, ℕ, ◌+◌, Bool, true, false, cond, List, [], ◌∷◌, ◌++◌, map, Option, Some, None}
use Rattle.std.proofs.Common.{Result, Ok, Err, refl, sym}
use Rattle.std.proofs.Common.{ap, ◌∙◌, subst, inl}
use Rattle.std.specs.Option.{unwrap_or}
use Rattle.coda_fid.specs.Fid.{root_of}
use Rattle.coda_fid.specs.declared.op.Op.{Op}
use Rattle.coda_fid.specs.declared.op.Record.{Record}
use Rattle.coda_tree.specs.Bindings.{Name}
use Rattle.coda_tree.specs.Volume.{Nodes}
use Rattle.coda_script.specs.declared.line.Strength.{Strength}
use Rattle.coda_script.specs.declared.line.Strength.TheVariants.{Strong, Weak, Down}
use Rattle.coda_script.specs.declared.line.Task.{Task}
use Rattle.coda_script.specs.declared.line.Task.TheVariants as task
use Rattle.coda_script.specs.declared.line.Line.{Line}
use Rattle.coda_script.specs.declared.line.Line.TheVariants as line
use Rattle.coda_script.specs.declared.reply.Reply.{Reply}
use Rattle.coda_script.specs.declared.reply.Reply.TheVariants.{Done}
use Rattle.coda_plain.specs.Deeds.{Deed, Operated}
use Rattle.coda_plain.specs.Cell.{Did}
use Rattle.coda_plain.specs.Sound.{IsSound}
use Rattle.coda_venus.specs.Accepting.{Accepted, accept}
use Rattle.coda_venus.specs.Ask.{Asked, Create, Mkdir, Symlink, Store, Setattr, Remove, Rmdir, Rename, too_big}
use Rattle.coda_venus.specs.Ask.{object_of}
use Rattle.coda_venus.specs.Held.{Held}
use Rattle.coda_venus.proofs.Accepted.{accepted_relies}
use Rattle.coda_record.specs.declared.answer.Answer.{Answer as RecordAnswer}
use Rattle.coda_letters.specs.Sent.{Sent, ChunkSent, AnswerSent, BreakSent, Waiting, client_of as sender_of}
use Rattle.coda_letters.specs.Sent.{server_of, is_lossy}
use Rattle.coda_letters.specs.Sent.{sent_at, number_of, put_out}
use Rattle.coda_cell.specs.Accepting.{sight_of}
use Rattle.coda_cell.specs.Held.{Fetch, held_after_fetches}
use Rattle.coda_cell.specs.Looking.{look_along, entries_of, fetched}
use Rattle.coda_cell.specs.Asking.{Answer, answers, look_ups, behind_fetches, next_record, has_room, is_full}
use Rattle.coda_cell.specs.Asking.{answer_to, operate_unless}
use Rattle.coda_cell.specs.Asking.{operate, read, list}
use Rattle.coda_cell.specs.Made.{MadeCell, client_of, state_of, grown, grown_all}
use Rattle.coda_cell.specs.Messages.{posting, going_by, going, sends_of, over, ruled_in, taken_in, chunk_comes}
use Rattle.coda_cell.specs.Messages.{answer_comes}
use Rattle.coda_cell.specs.Refused.{Refused}
use Rattle.coda_cell.specs.Refused as refused
use Rattle.coda_cell.specs.Runs.{IsKept, MakesNumbered}
use Rattle.coda_cell.specs.Sending.{Freezing, Ruling, Taking, deeds_at, entries_at, freezing, ruling_of, ruling, taking}
use Rattle.coda_cell.specs.Sending.{answered_to, ruled_on, drained_of, drain}
use Rattle.coda_cell.specs.State.{ClientVolume, ClientState, new_client, ReplicaState, CellState, Event, Posted, Lost}
use Rattle.coda_cell.specs.State.{LinkSet, at_client}
use Rattle.coda_cell.specs.Steps.{Doing, Unless, ByClient, ByBoth, Operates, DoesTask, Comes, link_down, Delivers}
use Rattle.coda_cell.specs.Steps.{Loses, Does}
use Rattle.coda_cell.specs.Steps.{bytes_of, offers_of, first_missing, on_volume, ByRuling, ByTaking, BySend, Happens}
use Rattle.coda_cell.specs.Steps.{Says}
use Rattle.coda_cell.specs.Steps.{ShowsState}
use Rattle.coda_cell.proofs.Events.{AreHoldingStill, freezing_left, taking_deeds}
use Rattle.coda_cell.proofs.Fetches.{client_after_both, client_after_fetches}
use Rattle.coda_cell.proofs.KeptCells.{client_there}
use Rattle.coda_cell.proofs.KeptLines.{lines_keep_fronts}
use Rattle.coda_cell.proofs.Moving.{has_more}
use Rattle.coda_creations.specs.Kinds.{kind_at, AreAsMade}
use Rattle.coda_creations.proofs.KindsKept.{GoesByDirs}
use Rattle.coda_creations.proofs.KindsHeld.{relied_dirs, held_kind, held_same}
use Rattle.coda_creations.proofs.KindsMade.{GoesByKinds, AllGoByKinds, events_as_made}

-- ---- events that keep kinds in any cell

abbrev AreStill : List Event → Type 0
AreStill [] = Unit {0}
AreStill (event ∷ events) = ((cell : MadeCell) → GoesByKinds cell event) × AreStill events

still_both : (first rest : List Event) → AreStill first → AreStill rest → AreStill (first ++ rest)
still_both [] rest a b = b
still_both (event ∷ first) rest a b = (a.0, still_both first rest a.1 b)

still_go : (cell : MadeCell) (events : List Event) → AreStill events → AllGoByKinds cell events
still_go cell [] are = tt
still_go cell (event ∷ events) are = (are.0 cell, still_go (grown cell event) events are.1)

go_both : (cell : MadeCell) (first rest : List Event) → AllGoByKinds cell first
    → AllGoByKinds (grown_all cell first) rest → AllGoByKinds cell (first ++ rest)
go_both cell [] rest a b = b
go_both cell (event ∷ first) rest a b = (a.0, go_both (grown cell event) first rest a.1 b)

fetches_still : (number : ℕ) (fetches : List Fetch) → AreStill (map (at_client number) (entries_of fetches))
fetches_still number [] = tt
fetches_still number (fetch ∷ fetches) = (
  (λ cell blocks f kind is. (let c = client_of number (cell.acted.clients number).history blocks in
      held_kind c.held c.number (fetched fetch) f kind tt is)),
  fetches_still number fetches,
)

deeds_still : (client volume : ℕ) (deeds : List Deed) → AreHoldingStill deeds → AreStill (deeds_at client volume deeds)
deeds_still client volume [] still = tt
deeds_still client volume (deed ∷ deeds) still = (
  (λ cell blocks f kind is. (let c = client_of client (cell.acted.clients client).history blocks in
      inl (sym (ap (λ (h : Held). kind_at h.nodes f) (still.0 c.held c.number)) ∙ is))),
  deeds_still client volume deeds still.1,
)

lost_still : (waiting : Waiting) → AreStill (map (λ (l : ℕ × Sent). Lost l.0) waiting)
lost_still [] = tt
lost_still (l ∷ waiting) = ((λ cell. tt), lost_still waiting)

posting_still : (sent : Sent) (waiting : Waiting) → AreStill (posting sent waiting)
posting_still sent waiting = still_both (map (λ (l : ℕ × Sent). Lost l.0) (put_out sent waiting)) (Posted sent ∷ [])
    (lost_still (put_out sent waiting)) ((λ cell. tt), tt)

going_still : (o : Option ℕ) (sent : Sent) (s : CellState) → AreStill (going_by o sent s).events
going_still (Some message) sent s = tt
going_still None sent s = posting_still sent s.waiting

map_both : {A B : Type 0} (f : A → B) (xs ys : List A) → map f (xs ++ ys) ≡ map f xs ++ map f ys
map_both f [] ys = refl
map_both f (x ∷ xs) ys = ap (λ l. f x ∷ l) (map_both f xs ys)

-- ---- chunks and their answers

ok_is : (x y : Ruling) → (let r : Result Ruling Refused = Ok x in r ≡ Ok y) → x ≡ y
ok_is x y e = cc

ruling_still : (server volume client number : ℕ) (span : List Record) (r : ReplicaState) (ruled : Ruling)
    → ruling client number span r ≡ Ok ruled → AreStill (entries_at server volume ruled.entries)
ruling_still server volume client number span r ruled e =
    by _ _ e
  where
    by : (next full : Bool) → ruling_of next full client number span r ≡ Ok ruled
        → AreStill (entries_at server volume ruled.entries)
    by true true e = cc
    by true false e =
        subst (λ (x : Ruling). AreStill (entries_at server volume x.entries)) (ok_is _ ruled e) ((λ cell. tt), tt)
    by false full e = subst (λ (x : Ruling). AreStill (entries_at server volume x.entries)) (ok_is _ ruled e) tt

module _ (now window client volume : ℕ) (v : ClientVolume) (r : ReplicaState) where
  answered_still : (f : Freezing) → AreHoldingStill f.deeds → (ruled : Ruling)
      → ruling client f.number f.span r ≡ Ok ruled
      → (o : Result Taking Refused) → taking f.number ruled.answer f.volume ≡ o
      → AreStill (answered_to client volume f ruled o).events
  answered_still f froze ruled e (Err why) t =
      still_both (deeds_at client volume f.deeds) (entries_at ruled.replica.server volume ruled.entries)
      (deeds_still client volume f.deeds froze)
      (ruling_still ruled.replica.server volume client f.number f.span r ruled e)
  answered_still f froze ruled e (Ok took) t =
      let entered = ruling_still ruled.replica.server volume client f.number f.span r ruled e in
      let settled = deeds_still client volume took.deeds (taking_deeds f.number ruled.answer f.volume took t).still in
      still_both (deeds_at client volume f.deeds)
      (entries_at ruled.replica.server volume ruled.entries ++ deeds_at client volume took.deeds)
      (deeds_still client volume f.deeds froze)
      (still_both (entries_at ruled.replica.server volume ruled.entries)
      (deeds_at client volume took.deeds) entered settled)

  ruled_still : (f : Freezing) → AreHoldingStill f.deeds → (o : Result Ruling Refused)
      → ruling client f.number f.span r ≡ o
      → AreStill (ruled_on client volume f r o).events
  ruled_still f froze (Err why) e = deeds_still client volume f.deeds froze
  ruled_still f froze (Ok ruled) e = answered_still f froze ruled e (taking f.number ruled.answer f.volume) refl

  drained_still : (o : Result Freezing Refused) → freezing now window r.server v ≡ o
      → AreStill (drained_of client volume v r o).events
  drained_still (Err why) e = tt
  drained_still (Ok f) e =
      ruled_still f (freezing_left now window r.server v f e).still (ruling client f.number f.span r) refl

  drain_still : (strength : Strength) → AreStill (drain strength now window client volume v r).events
  drain_still Strong = drained_still (freezing now window r.server v) refl
  drain_still Weak = drained_still (freezing now window r.server v) refl
  drain_still Down = tt

carried : (s : CellState) (client volume server window : ℕ) (v : ClientVolume) (f : Freezing)
    → freezing s.clock window server v ≡ Ok f → AreStill (sends_of s client volume server (Ok f)).events
carried s client volume server window v f e =
    let sent = ChunkSent client server volume f.number f.span in
    still_both (deeds_at client volume f.deeds) (going sent s).events
    (deeds_still client volume f.deeds (freezing_left s.clock window server v f e).still)
    (going_still (number_of sent s.waiting) sent s)

sent_still : (s : CellState) (client volume server window : ℕ) (v : ClientVolume) (o : Result Freezing Refused)
    → freezing s.clock window server v ≡ o → (strength : Strength)
    → AreStill (sends_of s client volume server (over strength o)).events
sent_still s client volume server window v (Err why) e Strong = tt
sent_still s client volume server window v (Err why) e Weak = tt
sent_still s client volume server window v (Err why) e Down = tt
sent_still s client volume server window v (Ok f) e Strong = carried s client volume server window v f e
sent_still s client volume server window v (Ok f) e Weak = carried s client volume server window v f e
sent_still s client volume server window v (Ok f) e Down = tt

ruled_in_still : (s : CellState) (client server volume number : ℕ) (span : List Record) (r : ReplicaState)
    (o : Result Ruling Refused) → ruling client number span r ≡ o → AreStill
    (ruled_in s client server volume number o).events
ruled_in_still s client server volume number span r (Err why) e = tt
ruled_in_still s client server volume number span r (Ok ruled) e =
    still_both (entries_at server volume ruled.entries)
    (posting (AnswerSent server client volume number ruled.answer) s.waiting)
    (ruling_still server volume client number span r ruled e)
    (posting_still (AnswerSent server client volume number ruled.answer) s.waiting)

module _ (cell : MadeCell) where
  -- a client, by whatever blocks it has
  module _ (number blocks : ℕ) (c : ClientState)
      (c_is : client_of number (cell.acted.clients number).history blocks ≡ c) (offers : Option Nodes) (volume time : ℕ)
      (ask : Asked) where
    abbrev fetches : List Fetch
    fetches = look_ups offers c.held volume ask

    abbrev behind : ClientState
    behind = behind_fetches c fetches

    abbrev looked : MadeCell
    looked = grown_all cell (map (at_client number) (entries_of fetches))

    behind_is : (other : ℕ) → (client_of number (looked.acted.clients number).history other).held ≡ behind.held
    behind_is other =
        let history = (cell.acted.clients number).history in
        let same : (client_of number history other).held ≡ c.held =
        held_same (new_client number other) (new_client number blocks) history refl refl ∙ ap
        (λ (x : ClientState). x.held) c_is in
        ap (λ h. (client_of number h other).held) (has_more cell number (entries_of fetches)).here
        ∙ ap (λ (x : ClientState). x.held)
        (client_after_both (new_client number other) history (entries_of fetches) ∙ client_after_fetches
        (client_of number history other) fetches)
        ∙ ap (λ h. held_after_fetches h fetches) same

    operation_goes : (op : Op) → accept (sight_of behind volume) volume ask ≡ Ok op
        → AllGoByKinds cell (map (at_client number)
        (entries_of fetches ++ Did volume (Operated (next_record (c.volumes volume) time op)) ∷ []))
    operation_goes op accepted =
        let rec = next_record (c.volumes volume) time op in
        let dirs : GoesByDirs behind.held.nodes op =
        relied_dirs (sight_of behind volume) volume op
        (accepted_relies (sight_of behind volume) volume ask op accepted) in
        let last : GoesByKinds looked (at_client number (Did volume (Operated rec))) = λ other f kind is.
        (let x = client_of number (looked.acted.clients number).history other in
        held_kind x.held x.number (Did volume (Operated rec)) f kind
        (subst (λ (h : Held). GoesByDirs h.nodes op) (sym (behind_is other)) dirs) is) in
        subst (AllGoByKinds cell) (sym (map_both (at_client number) (entries_of fetches)
        (Did volume (Operated rec) ∷ [])))
        (go_both cell (map (at_client number) (entries_of fetches)) (at_client number (Did volume (Operated rec)) ∷ [])
        (still_go cell (map (at_client number) (entries_of fetches)) (fetches_still number fetches)) (last, tt))

    fetches_go : AllGoByKinds cell (map (at_client number) (entries_of fetches))
    fetches_go = still_go cell (map (at_client number) (entries_of fetches)) (fetches_still number fetches)

    entered_goes : (op : Op) → accept (sight_of behind volume) volume ask ≡ Ok op → (room full : Bool)
        → (let rec = next_record (c.volumes volume) time op in
        AllGoByKinds cell (map (at_client number)
        (cond room (cond full (answers (entries_of fetches) (Err refused.JournalFull))
        (answers (entries_of fetches ++ Did volume (Operated rec) ∷ [])
        (Ok (Done ((c.volumes volume).operations + 1) (object_of op)))))
        (answers (entries_of fetches) (Err refused.LogFull))).entries))
    entered_goes op accepted true true = fetches_go
    entered_goes op accepted true false = operation_goes op accepted
    entered_goes op accepted false full = fetches_go

    answered_goes : (r : Accepted) → accept (sight_of behind volume) volume ask ≡ r
        → AllGoByKinds cell (map (at_client number)
        (answer_to (entries_of fetches) (c.volumes volume) time volume r).entries)
    answered_goes (Err why) is = fetches_go
    answered_goes (Ok op) is =
        let rec = next_record (c.volumes volume) time op in
        entered_goes op is (has_room (c.volumes volume) rec) (is_full (c.volumes volume))

    unless_goes : (o : Option ℕ) → AllGoByKinds cell
        (map (at_client number) (operate_unless o offers c time volume ask).entries)
    unless_goes (Some length) = tt
    unless_goes None = answered_goes (accept (sight_of behind volume) volume ask) refl

    operate_goes : AllGoByKinds cell (map (at_client number) (operate offers c time volume ask).entries)
    unfolding operate
    operate_goes = unless_goes (too_big ask)

module _ (cell : MadeCell) (kept : IsKept cell) where
  none_go : (events : List Event) → events ≡ [] → AllGoByKinds cell events
  none_go events none = subst (AllGoByKinds cell) (sym none) tt

  own_goes : (o : Option Refused) (own : Doing) (reply : Reply) (events : List Event)
      → (own reply events → AllGoByKinds cell events) → Unless o own reply events → AllGoByKinds cell events
  own_goes (Some why) own reply events rest does = none_go events does.1
  own_goes None own reply events rest does = rest does

  still_goes : (events happened : List Event) → events ≡ happened → AreStill happened → AllGoByKinds cell events
  still_goes events happened same still = subst (AllGoByKinds cell) (sym same) (still_go cell happened still)

  one_goes : (o : Option Refused) (said : Reply) (event : Event) (reply : Reply) (events : List Event)
      → ((other : MadeCell) → GoesByKinds other event) → Unless o (Happens said event) reply events
      → AllGoByKinds cell events
  one_goes o said event reply events goes does =
      own_goes o (Happens said event) reply events (λ did. still_goes events (event ∷ []) did.1 (goes, tt)) does

  -- nothing happens
  says_goes : (o : Option Refused) (said : Reply) (reply : Reply) (events : List Event)
      → Unless o (Says said) reply events → AllGoByKinds cell events
  says_goes o said reply events does = own_goes o (Says said) reply events (λ did. none_go events did.1) does

  operates_goes : (client volume : ℕ) (ask : Asked) (reply : Reply) (events : List Event)
      → Operates (state_of cell) client volume ask reply events → AllGoByKinds cell events
  operates_goes client volume ask reply events does =
      own_goes _ (ByClient (state_of cell) client volume (λ offers c. operate offers c cell.clock volume ask)) reply
      events (λ did.
      let c = client_there cell kept client did.client did.there in
      subst (AllGoByKinds cell) (sym did.happened)
      (operate_goes cell client c.0 did.client c.2
      (offers_of (state_of cell) client volume) volume cell.clock ask)) does

  shows_goes : (ask : Option Nodes → ClientState → Answer) (client volume : ℕ) (path : List Name) (reply : Reply)
      (events : List Event)
      → ((offers : Option Nodes) (c : ClientState) → (ask offers c).entries ≡ entries_of
      (look_along offers c.held (root_of volume) path))
      → Unless (first_missing (on_volume (state_of cell) client volume))
      (ByClient (state_of cell) client volume ask) reply events
      → AllGoByKinds cell events
  shows_goes ask client volume path reply events looks does =
      own_goes _ (ByClient (state_of cell) client volume ask) reply events (λ did.
      let offers = offers_of (state_of cell) client volume in
      let fetches = look_along offers did.client.held (root_of volume) path in
      still_goes events (map (at_client client) (entries_of fetches))
      (did.happened ∙ ap (map (at_client client)) (looks offers did.client)) (fetches_still client fetches)) does

  comes_goes : (sent : Sent) (reply : Reply) (events : List Event) → Comes (state_of cell) sent reply events
      → AllGoByKinds cell events
  comes_goes (ChunkSent client server volume number span) reply events does =
      own_goes _ (ByRuling (state_of cell) client server volume number span) reply events (λ did.
      still_goes events (chunk_comes (state_of cell) client server volume number span did.replica).events did.happened
      (ruled_in_still (state_of cell) client server volume number span did.replica
      (ruling client number span did.replica) refl)) does
  comes_goes (AnswerSent server client volume number answer) reply events does =
      own_goes _ (ByTaking (state_of cell) client volume number answer) reply events (λ did.
      still_goes events (answer_comes client volume number answer (did.client.volumes volume)).events did.happened
      (by client volume number answer (did.client.volumes volume)
      (taking number answer (did.client.volumes volume)) refl)) does
    where
      by : (client volume number : ℕ) (answer : RecordAnswer) (v : ClientVolume) (o : Result Taking Refused)
          → taking number answer v ≡ o
          → AreStill (taken_in client volume number answer o).events
      by client volume number answer v (Err why) e = tt
      by client volume number answer v (Ok took) e =
          deeds_still client volume took.deeds (taking_deeds number answer v took e).still
  comes_goes (BreakSent server client volume fids) reply events does =
      one_goes _ _ _ reply events (λ other. tt) does

  delivers_goes : (message : ℕ) (o : Option Sent) (reply : Reply) (events : List Event)
      → Delivers (state_of cell) message o reply events → AllGoByKinds cell events
  delivers_goes message None reply events does = none_go events does.1
  delivers_goes message (Some sent) reply events does =
      own_goes (link_down (cell.links (sender_of sent) (server_of sent))) (Comes (state_of cell) sent) reply events
      (λ did. comes_goes sent reply events did) does

  loses_goes : (message : ℕ) (o : Option Sent) (reply : Reply) (events : List Event) → Loses message o reply events
      → AllGoByKinds cell events
  loses_goes message None reply events does = none_go events does.1
  loses_goes message (Some sent) reply events does = subst (AllGoByKinds cell) (sym does.1) (by (is_lossy sent))
    where
      by : (b : Bool) → AllGoByKinds cell
          (Lost message ∷ cond b [] (LinkSet (sender_of sent) (server_of sent) Down ∷ []))
      by true = (tt, tt)
      by false = (tt, (tt, tt))

  task_goes : (t : Task) (reply : Reply) (events : List Event) → DoesTask (state_of cell) t reply events
      → AllGoByKinds cell events
  task_goes (task.Create client volume path mode owner) reply events does =
      operates_goes client volume (Create path (unwrap_or mode 420) (unwrap_or owner 0)) reply events does
  task_goes (task.Mkdir client volume path mode owner) reply events does =
      operates_goes client volume (Mkdir path (unwrap_or mode 493) (unwrap_or owner 0)) reply events does
  task_goes (task.Symlink client volume path target) reply events does =
      operates_goes client volume (Symlink path target) reply events does
  task_goes (task.Store client volume path content) reply events does =
      operates_goes client volume (Store path (bytes_of content)) reply events does
  task_goes (task.Setattr client volume path attrs) reply events does =
      operates_goes client volume (Setattr path attrs) reply events does
  task_goes (task.Remove client volume path) reply events does =
      operates_goes client volume (Remove path) reply events does
  task_goes (task.Rmdir client volume path) reply events does =
      operates_goes client volume (Rmdir path) reply events does
  task_goes (task.Rename client volume from to) reply events does =
      operates_goes client volume (Rename from to) reply events does
  task_goes (task.Read client volume path) reply events does =
      shows_goes (λ offers c. read offers c volume path) client volume path reply events (λ offers c. refl) does
  task_goes (task.List client volume path) reply events does =
      shows_goes (λ offers c. list offers c volume path) client volume path reply events (λ offers c. refl) does
  task_goes (task.Drain client volume server window) reply events does =
      own_goes _ (ByBoth (state_of cell) client volume (unwrap_or window 600)) reply events (λ did.
      still_goes events _ did.happened
      (drain_still cell.clock (unwrap_or window 600) client volume (did.client.volumes volume) did.replica
      (cell.links client did.replica.server))) does
  task_goes (task.Hardlink client volume from to) reply events does = absurd does
  task_goes (task.Refresh client volume server) reply events does = absurd does
  task_goes (task.Giveup client volume) reply events does = absurd does

  line_goes : (said : Line) (reply : Reply) (events : List Event) → Does (state_of cell) said reply events
      → AllGoByKinds cell events
  line_goes (line.Volume volume servers area) reply events does =
      one_goes _ _ _ reply events (λ other. tt) does
  line_goes (line.Client client blocks area) reply events does =
      one_goes _ _ _ reply events (λ other. tt) does
  line_goes (line.Link client server strength) reply events does =
      one_goes _ _ _ reply events (λ other. tt) does
  line_goes (line.Tick seconds) reply events does = still_goes events _ does.1 ((λ cell. tt), tt)
  line_goes (line.Task t) reply events does = task_goes t reply events does
  line_goes (line.ShowVolume server volume) reply events does =
      says_goes _ _ reply events does
  line_goes (line.ShowLog client volume) reply events does = says_goes _ _ reply events does
  line_goes (line.ShowState client volume) reply events does =
      own_goes _ (ShowsState (state_of cell) client volume) reply events (λ did. none_go events did.happened) does
  line_goes (line.Send client volume server window) reply events does =
      own_goes _ (BySend (state_of cell) client volume server (unwrap_or window 600)) reply events (λ did.
      still_goes events _ did.happened
      (sent_still (state_of cell) client volume server (unwrap_or window 600) (did.client.volumes volume)
      (freezing cell.clock (unwrap_or window 600) server (did.client.volumes volume)) refl
      (cell.links client server))) does
  line_goes (line.Deliver message) reply events does =
      delivers_goes message (sent_at message cell.waiting) reply events does
  line_goes (line.Lose message) reply events does = loses_goes message (sent_at message cell.waiting) reply events does
  line_goes _ reply events does = absurd does

front_goes : (cell : MadeCell) (done rest : List Event) → AllGoByKinds cell (done ++ rest) → AllGoByKinds cell done
front_goes cell [] rest go = tt
front_goes cell (event ∷ done) rest go = (go.0, front_goes (grown cell event) done rest go.1)

-- a line keeps it that is stopped behind any of its events
pub fronts_as_made : (old : MadeCell) (said : Line) (reply : Reply) (done rest : List Event) → IsKept old
    → MakesNumbered said → Does (state_of old) said reply (done ++ rest) → AreAsMade old.acted
    → AreAsMade (grown_all old done).acted
fronts_as_made old said reply done rest kept numbered does as_made =
    let left = lines_keep_fronts old said reply done rest kept numbered does in
    let sound : (first more : List Event) → done ≡ first ++ more → IsSound (grown_all old first).acted = λ first more e.
    (let whole : done ++ rest ≡ first ++ (more ++ rest) = ap (λ l. l ++ rest) e ∙ append_assoc first more rest in
    (lines_keep_fronts old said reply first (more ++ rest) kept numbered
    (subst (Does (state_of old) said reply) whole does)).kept.sound) in
    events_as_made old done (grown_all old done).acted left.moved sound
    (front_goes old done rest (line_goes old kept said reply (done ++ rest) does)) as_made

-- and a whole one
pub lines_as_made : (old : MadeCell) (said : Line) (reply : Reply) (events : List Event) → IsKept old
    → MakesNumbered said → Does (state_of old) said reply events → AreAsMade old.acted
    → AreAsMade (grown_all old events).acted
lines_as_made old said reply events kept numbered does as_made =
    fronts_as_made old said reply events [] kept numbered
    (subst (Does (state_of old) said reply) (sym (append-nil events)) does) as_made
