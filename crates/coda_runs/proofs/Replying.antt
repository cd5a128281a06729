-- Each line that is built has a reply in every cell that is kept.
use Rattle.std.proofs.Common.{◌≡◌, ℕ, Bool, true, false, List, [], ◌∷◌, ◌++◌, map, Option, Some, None, is_some, option_map, refl, sym, ap, ◌∙◌, subst, inl, inr, ◌⊎◌}
use Rattle.std.specs.Bool.{if◌then◌else◌}
use Rattle.std.specs.Prelude.{length, ◌==◌}
use Rattle.std.specs.Option.{option_map_or, unwrap_or}
use Rattle.std.specs.List.{AllByRecursion}
use Rattle.std.specs.Str.Lines.{lines}
use Rattle.std.proofs.lemmas.Bool.{eqb-true, false≢true}
use Rattle.coda_tree.specs.Volume.{Nodes}
use Rattle.coda_engine.specs.Run.{Runs}
use Rattle.coda_script.specs.declared.line.Task.{Task}
use Rattle.coda_script.specs.declared.line.Task.TheVariants as task
use Rattle.coda_script.specs.declared.line.Line.{Line}
use Rattle.coda_script.specs.declared.line.Line.TheVariants as line
use Rattle.coda_script.specs.declared.reply.Reply.{Reply}
use Rattle.coda_script.specs.declared.reply.Reply.TheVariants.{Accepted, Broken, Lost, ShowVolume, ShowLog, State}
use Rattle.coda_cell.specs.Refused.{Refused, NoSuchActor, NoMessage}
use Rattle.coda_cell.specs.Refusing.{refusal}
use Rattle.coda_cell.specs.Made.{client_of, replica_of}
use Rattle.coda_cell.specs.State.{put, ClientState, ReplicaState, CellState, Event, VolumeMade, ClientMade, Ticked, LinkSet, Entered, Posted, Lost as LetterLost, Used, Kept, Stale, at_client, log_of}
use Rattle.coda_cell.specs.States.{state_over}
use Rattle.coda_cell.specs.Asking.{Answer}
use Rattle.coda_cell.specs.Steps.{Doing, Unless, Naming, Happens as HappensOne, ByClient, ByBoth, BySend, ByRuling, ByTaking, valid_copies, Comes, cut_with, link_down, Delivers, Loses, Does, DoesTask, first_missing, client_named, volume_named, server_named, holder_named, on_volume, on_holder, offers_of, reply_to, is_alone, alone, is_built_task, ShowsState}
use Rattle.coda_letters.specs.Sent.{Sent, ChunkSent, AnswerSent, BreakSent, client_of as sender_of, server_of, sent_at}
use Rattle.coda_cell.specs.Messages.{sends, chunk_comes, answer_comes}
use Rattle.coda_cell.specs.Sending.{drain}
use Rattle.coda_journal.specs.declared.header.Header.{Header}
use Rattle.coda_actors.specs.Plain.{PlainDisk, PlainActor, Down}
use Rattle.coda_actors.specs.declared.slot.Mounting.TheVariants.{DiskFault}
use Rattle.coda_shelves.specs.Shelves.{client_header, replica_header}
use Rattle.coda_shelves.specs.Cells.{Cell, asked, Stand, stand_of, state_of, with_client, with_replica, after, after_all, failed}
use Rattle.coda_shelves.specs.Lines.{is_built, needs, is_down_for, meets, Fits, Stop, EndsBy, Acts, Becoming, Stays, Unless as ShelvedUnless, the_client, the_replica, made_on, area_of, no_volume, no_client, with_row, MakesVolume, with_made, MakesClient, client_payloads, replica_payloads, Payloads, Recovers, AtReplicaOf, DoesUp, UnlessDown, Happens, refused_down, refused_fault}
use Rattle.coda_shelves.specs.FromBlank.{ArePlaced}
use Rattle.coda_shelves.specs.Running.{IsKept}
use Rattle.coda_runs.specs.Shelved.{LineGives}
use Rattle.coda_runs.specs.Texts.{text_of}
use Rattle.coda_runs.specs.Complete.{CrashesNothing, IsTaken, ScriptsInGrammarAreClean}
use Rattle.coda_runs.proofs.Ended.{home_is}
use Rattle.coda_runs.proofs.Shelved.{gives_kept, gives_placed}

-- there is an answer
abbrev Some_of : Doing → Type 0
Some_of doing = (reply : Reply) × (events : List Event) × doing reply events

unless_some : (why : Option Refused) (own : Doing) → (why ≡ None → Some_of own) → Some_of (Unless why own)
unless_some (Some why) own has = (refusal why, [], (refl, refl))
unless_some None own has = has refl

-- an actor that isn't missing is there, and neither is one behind it
there_of : {A : Type 0} (o : Option A) (rest : Option Refused) (number : ℕ) → (if is_some o then rest else Some (NoSuchActor number)) ≡ None
    → (x : A) × (o ≡ Some x) × (rest ≡ None)
there_of (Some x) rest number e = (x, refl, e)
there_of None rest number e = cc

by_client : (s : CellState) (client volume : ℕ) (ask : Option Nodes → ClientState → Answer)
    → Some_of (Naming (on_volume s client volume) (ByClient s client volume ask))
by_client s client volume ask =
    unless_some (first_missing (on_volume s client volume)) (ByClient s client volume ask) (λ none.
    let c = there_of (s.clients client) (first_missing (volume_named s volume ∷ [])) client none in
    let answer = ask (offers_of s client volume) c.0 in
    (reply_to answer.said, map (at_client client) answer.entries, record { client = c.0; there = c.1; answered = refl; happened = refl }))

by_both : (s : CellState) (client volume server window : ℕ)
    → Some_of (Naming (client_named s client ∷ volume_named s volume ∷ holder_named s server volume ∷ []) (ByBoth s client volume window))
by_both s client volume server window =
    let behind = holder_named s server volume ∷ [] in
    unless_some (first_missing (client_named s client ∷ volume_named s volume ∷ behind)) (ByBoth s client volume window) (λ none.
    let c = there_of (s.clients client) (first_missing (volume_named s volume ∷ behind)) client none in
    let r = there_of (s.replicas volume) (first_missing behind) volume c.2 in
    let out = drain (s.links client r.0.server) s.clock window client volume (c.0.volumes volume) r.0 in
    (reply_to out.said, out.events, record { client = c.0; replica = r.0; client_there = c.1; replica_there = r.1; answered = refl; happened = refl }))

by_state : (s : CellState) (client volume : ℕ) → Some_of (Naming (on_volume s client volume) (ShowsState s client volume))
by_state s client volume =
    unless_some (first_missing (on_volume s client volume)) (ShowsState s client volume) (λ none.
    let c = there_of (s.clients client) (first_missing (volume_named s volume ∷ [])) client none in
    let r = there_of (s.replicas volume) None volume c.2 in
    (State (state_over (s.links client r.0.server) (log_of (c.0.volumes volume))), [], record { client = c.0; replica = r.0; client_there = c.1; replica_there = r.1; answered = refl; happened = refl }))

by_send : (s : CellState) (client volume server window : ℕ) → Some_of (Naming (on_holder s client volume server) (BySend s client volume server window))
by_send s client volume server window =
    unless_some (first_missing (on_holder s client volume server)) (BySend s client volume server window) (λ none.
    let c = there_of (s.clients client) (first_missing (volume_named s volume ∷ holder_named s server volume ∷ [])) client none in
    let out = sends s client volume server window (c.0.volumes volume) in
    (reply_to out.said, out.events, record { client = c.0; there = c.1; answered = refl; happened = refl }))

comes_some : (s : CellState) (sent : Sent) → Some_of (Comes s sent)
comes_some s (ChunkSent client server volume number span) =
    unless_some (first_missing (on_holder s client volume server)) (ByRuling s client server volume number span) (λ none.
    let behind = holder_named s server volume ∷ [] in
    let c = there_of (s.clients client) (first_missing (volume_named s volume ∷ behind)) client none in
    let r = there_of (s.replicas volume) (first_missing behind) volume c.2 in
    let out = chunk_comes s client server volume number span r.0 in
    (reply_to out.said, out.events, record { replica = r.0; there = r.1; answered = refl; happened = refl }))
comes_some s (AnswerSent server client volume number answer) =
    unless_some (first_missing (on_holder s client volume server)) (ByTaking s client volume number answer) (λ none.
    let c = there_of (s.clients client) (first_missing (volume_named s volume ∷ holder_named s server volume ∷ [])) client none in
    let out = answer_comes client volume number answer (c.0.volumes volume) in
    (reply_to out.said, out.events, record { client = c.0; there = c.1; answered = refl; happened = refl }))
comes_some s (BreakSent server client volume fids) =
    unless_some (first_missing (on_holder s client volume server)) _ (λ none. (Broken (valid_copies s client fids), Stale client fids ∷ [], (refl, refl)))

delivers_some : (s : CellState) (message : ℕ) (o : Option Sent) → Some_of (Delivers s message o)
delivers_some s message None = (refusal (NoMessage message), [], (refl, refl))
delivers_some s message (Some sent) = unless_some (link_down (s.links (sender_of sent) (server_of sent))) (Comes s sent) (λ up. comes_some s sent)

task_some : (s : CellState) (t : Task) → is_built_task t ≡ true → Some_of (DoesTask s t)
task_some s (task.Create client volume path mode owner) b = by_client s client volume _
task_some s (task.Mkdir client volume path mode owner) b = by_client s client volume _
task_some s (task.Symlink client volume path target) b = by_client s client volume _
task_some s (task.Store client volume path content) b = by_client s client volume _
task_some s (task.Setattr client volume path attrs) b = by_client s client volume _
task_some s (task.Remove client volume path) b = by_client s client volume _
task_some s (task.Rmdir client volume path) b = by_client s client volume _
task_some s (task.Rename client volume from to) b = by_client s client volume _
task_some s (task.Read client volume path) b = by_client s client volume _
task_some s (task.List client volume path) b = by_client s client volume _
task_some s (task.Drain client volume server window) b = by_both s client volume server (unwrap_or window 600)
task_some s (task.Hardlink client volume from to) b = absurd (false≢true b)
task_some s (task.Refresh client volume server) b = absurd (false≢true b)
task_some s (task.Giveup client volume) b = absurd (false≢true b)

happens_some : (reply : Reply) (event : Event) → Some_of (HappensOne reply event)
happens_some reply event = (reply, event ∷ [], (refl, refl))

loses_some : (message : ℕ) (o : Option Sent) → Some_of (Loses message o)
loses_some message None = (refusal (NoMessage message), [], (refl, refl))
loses_some message (Some sent) = (Lost message, LetterLost message ∷ cut_with sent, (refl, refl))

-- ---- how events may end

-- no entry is among them
abbrev IsNoEntry : Event → Type 0
IsNoEntry (Entered append) = ⊥
IsNoEntry event = Unit {0}

abbrev AreNoEntries : List Event → Type 0
AreNoEntries [] = Unit {0}
AreNoEntries (event ∷ events) = IsNoEntry event × AreNoEntries events

-- then they all happen
none_fits : (cell : Cell) (events : List Event) → AreNoEntries events → Fits cell events
none_fits cell [] none = tt
none_fits cell (VolumeMade volume server ∷ events) none = (tt, none_fits (after cell (VolumeMade volume server)) events none.1)
none_fits cell (ClientMade client blocks ∷ events) none = (tt, none_fits (after cell (ClientMade client blocks)) events none.1)
none_fits cell (Ticked seconds ∷ events) none = (tt, none_fits (after cell (Ticked seconds)) events none.1)
none_fits cell (LinkSet client server strength ∷ events) none = (tt, none_fits (after cell (LinkSet client server strength)) events none.1)
none_fits cell (Entered append ∷ events) none = absurd none.0
none_fits cell (Posted sent ∷ events) none = (tt, none_fits (after cell (Posted sent)) events none.1)
none_fits cell (LetterLost message ∷ events) none = (tt, none_fits (after cell (LetterLost message)) events none.1)
none_fits cell (Used client fids ∷ events) none = (tt, none_fits (after cell (Used client fids)) events none.1)
none_fits cell (Kept client server fid ∷ events) none = (tt, none_fits (after cell (Kept client server fid)) events none.1)
none_fits cell (Stale client fids ∷ events) none = (tt, none_fits (after cell (Stale client fids)) events none.1)

-- no entry is among them, or there is a first one
abbrev FirstEntry : List Event → Type 0
FirstEntry events = AreNoEntries events ⊎ ((stop : Stop events) × AreNoEntries stop.done)

one_more : (event : Event) (events : List Event) → AreNoEntries (event ∷ []) → FirstEntry events → FirstEntry (event ∷ events)
one_more event events isnt (inl none) = inl (isnt.0, none)
one_more event events isnt (inr (stop, none)) =
    inr (record { done = event ∷ stop.done; next = stop.next; rest = stop.rest; is = ap (λ es. event ∷ es) stop.is }, (isnt.0, none))

first_entry : (events : List Event) → FirstEntry events
first_entry [] = inl tt
first_entry (Entered append ∷ events) = inr (record { done = []; next = append; rest = events; is = refl }, tt)
first_entry (VolumeMade volume server ∷ events) = one_more (VolumeMade volume server) events (tt, tt) (first_entry events)
first_entry (ClientMade client blocks ∷ events) = one_more (ClientMade client blocks) events (tt, tt) (first_entry events)
first_entry (Ticked seconds ∷ events) = one_more (Ticked seconds) events (tt, tt) (first_entry events)
first_entry (LinkSet client server strength ∷ events) = one_more (LinkSet client server strength) events (tt, tt) (first_entry events)
first_entry (Posted sent ∷ events) = one_more (Posted sent) events (tt, tt) (first_entry events)
first_entry (LetterLost message ∷ events) = one_more (LetterLost message) events (tt, tt) (first_entry events)
first_entry (Used client fids ∷ events) = one_more (Used client fids) events (tt, tt) (first_entry events)
first_entry (Kept client server fid ∷ events) = one_more (Kept client server fid) events (tt, tt) (first_entry events)
first_entry (Stale client fids ∷ events) = one_more (Stale client fids) events (tt, tt) (first_entry events)

-- a line may be stopped by a fault of the disk at its first entry
ends_some : (old : Cell) (events : List Event) (own : Reply) → FirstEntry events → (reply : Reply) × (new : Cell) × EndsBy old events own reply new
ends_some old events own (inl none) = (own, after_all old events, inl (none_fits old events none, refl, refl))
ends_some old events own (inr (stop, none)) = (refused_fault, failed (after_all old stop.done) stop.next, inr (inr (stop, none_fits old stop.done none, refl, refl)))

-- ---- every line

-- there is a cell behind it
abbrev Becomes_some : Becoming → Type 0
Becomes_some becoming = (reply : Reply) × (outside : List (List ℕ)) × (new : Cell) × becoming reply outside new

acts_some : (old : Cell) (said : Line) → Some_of (Does (meets old said) said) → Becomes_some (λ reply outside new. (outside ≡ []) × Acts old said reply new)
acts_some old said does =
    let ends = ends_some old does.1 does.0 (first_entry does.1) in
    (ends.0, [], ends.1, (refl, record { own = does.0; events = does.1; does = does.2; ends = ends.2 }))

module _ (old : Cell) where
  unless_becomes : (o : Option Refused) (own : Becoming) → (o ≡ None → Becomes_some own) → Becomes_some (ShelvedUnless old o own)
  unless_becomes (Some why) own has = (refusal why, [], old, (refl, refl, refl))
  unless_becomes None own has = has refl

  down_becomes : (b : Bool) (own : Becoming) → Becomes_some own → Becomes_some (UnlessDown b old own)
  down_becomes true own has = (refused_down, [], old, (refl, refl, refl))
  down_becomes false own has = has

  stays_some : (reply : Reply) → Becomes_some (Stays old reply)
  stays_some reply = (reply, [], old, (refl, refl, refl))

  -- a call of the disk may fail by which an actor is made, or recovered
  makes_client_some : (client : ℕ) (header : Header) → Becomes_some (MakesClient old client header)
  makes_client_some client header =
      let actor = old.clients client in
      (refused_fault, [], with_made false old client header.area (made_on false header actor actor.disk DiskFault), (DiskFault, actor.disk, tt, inl refl, refl, refl, refl))

  makes_volume_some : (volume : ℕ) (servers : List ℕ) (area : ℕ) → is_alone servers ≡ true → Becomes_some (MakesVolume old volume servers area)
  makes_volume_some volume [] area is = cc
  makes_volume_some volume (server ∷ []) area is =
      let first = old.replicas (length old.rows) in
      let row = put first server (made_on false (replica_header volume (server ∷ []) area server) (first server) (first server).disk DiskFault) in
      (refused_fault, [], with_row false old volume (server ∷ []) area row, (DiskFault ∷ [], row, (tt, ((first server).disk, inl refl, (refl, refl))), refl, refl, refl))
  makes_volume_some volume (server ∷ other ∷ servers) area is = cc

  recovers_some : {Entry : Type 0} (payloads : PlainDisk Entry → Payloads) (actor : PlainActor Entry) (goes : PlainActor Entry → Cell) (header : Header) → asked actor.life ≡ Some header → Becomes_some (Recovers payloads actor goes)
  recovers_some payloads actor goes header is =
      (refused_fault, [], goes (record { disk = actor.disk; life = Down header; left = actor.left }), (header, is, (DiskFault, actor.disk, tt, inl refl, tt, refl, refl, refl)))

  client_asked : (client : ℕ) → first_missing (the_client old client).named ≡ None → (header : Header) × (asked (old.clients client).life ≡ Some header)
  client_asked client all = by (asked (old.clients client).life) all
    where
      by : (o : Option Header) → (if is_some (option_map (λ (h : Header). client_of client (old.clients client).disk.history h.cache) o) then None else Some (NoSuchActor client)) ≡ None → (header : Header) × (o ≡ Some header)
      by None e = cc
      by (Some header) e = (header, refl)

  -- the replica that a line names stands where its volume does
  holder_stands : (server volume : ℕ) → first_missing (the_replica old server volume).named ≡ None → (at : Stand) × (stand_of old volume ≡ Some at) × (server ≡ alone at.servers)
  holder_stands server volume all = by (stand_of old volume) refl all
    where
      by : (o : Option Stand) → stand_of old volume ≡ o
          → (if option_map_or (λ (r : ReplicaState). r.server == server) (option_map (λ (b : Stand). replica_of (λ s. (old.replicas b.row s).disk.history) volume (alone b.servers)) o) false then None else Some (NoSuchActor server)) ≡ None
          → (at : Stand) × (o ≡ Some at) × (server ≡ alone at.servers)
      by None is e = cc
      by (Some at) is e = (at, refl, sym (eqb-true r.server server (there (r.server == server) e)) ∙ home_is old volume at)
        where
          r : ReplicaState
          r = replica_of (λ s. (old.replicas at.row s).disk.history) volume (alone at.servers)

          there : (b : Bool) → (if b then None else Some (NoSuchActor server)) ≡ None → b ≡ true
          there true e = refl
          there false e = cc

  recovers_replica_some : ArePlaced old → (server volume : ℕ) → first_missing (the_replica old server volume).named ≡ None → Becomes_some (AtReplicaOf old (stand_of old volume) server (Recovers replica_payloads))
  recovers_replica_some placed server volume all =
      let at = holder_stands server volume all in
      let asks = placed.made volume at.0 at.1 in
      subst (λ (o : Option Stand). Becomes_some (AtReplicaOf old o server (Recovers replica_payloads))) (sym at.1)
      (recovers_some replica_payloads (old.replicas at.0.row server) (with_replica old at.0.row server) asks.0 (ap (λ s. asked (old.replicas at.0.row s).life) at.2 ∙ asks.1))

  module _ (placed : ArePlaced old) where
    abbrev s : CellState
    s = state_of old

    up_some : (said : Line) → is_built said ≡ true → CrashesNothing said → Becomes_some (DoesUp old said)
    up_some (line.Volume volume servers area) b c = unless_becomes (no_volume old volume (area_of area)) _ (λ room. makes_volume_some volume servers (area_of area) b)
    up_some (line.Client client blocks area) b c = unless_becomes (no_client old client (area_of area)) _ (λ room. makes_client_some client (client_header client blocks (area_of area)))
    up_some (line.CrashClient client choice) b c = absurd c
    up_some (line.CrashReplica server volume choice) b c = absurd c
    up_some (line.RecoverClient client) b c = unless_becomes (first_missing (the_client old client).named) _
        (λ all. let asks = client_asked client all in recovers_some client_payloads (old.clients client) (with_client old client) asks.0 asks.1)
    up_some (line.RecoverReplica server volume) b c = unless_becomes (first_missing (the_replica old server volume).named) _ (λ all. recovers_replica_some placed server volume all)
    up_some (line.ArmClient client passes) b c = unless_becomes (first_missing (the_client old client).named) _ (λ all. stays_some Accepted)
    up_some (line.ArmReplica server volume passes) b c = unless_becomes (first_missing (the_replica old server volume).named) _ (λ all. stays_some Accepted)
    up_some (line.Link client server strength) b c = acts_some old (line.Link client server strength)
        (unless_some (first_missing (client_named s client ∷ server_named s server ∷ [])) _ (λ none. happens_some Accepted (LinkSet client server strength)))
    up_some (line.Tick seconds) b c = acts_some old (line.Tick seconds) (happens_some Accepted (Ticked seconds))
    up_some (line.Task t) b c = acts_some old (line.Task t) (task_some (meets old (line.Task t)) t b)
    up_some (line.ShowVolume server volume) b c = acts_some old (line.ShowVolume server volume)
        (unless_some (first_missing (holder_named s server volume ∷ [])) _ (λ none. (ShowVolume server volume, [], (refl, refl))))
    up_some (line.ShowLog client volume) b c = acts_some old (line.ShowLog client volume)
        (unless_some (first_missing (on_volume s client volume)) _ (λ none. (ShowLog client volume, [], (refl, refl))))
    up_some (line.ShowState client volume) b c = acts_some old (line.ShowState client volume) (by_state (meets old (line.ShowState client volume)) client volume)
    up_some (line.Send client volume server window) b c = acts_some old (line.Send client volume server window) (by_send s client volume server (unwrap_or window 600))
    up_some (line.Deliver message) b c = acts_some old (line.Deliver message) (delivers_some s message (sent_at message old.waiting))
    up_some (line.Lose message) b c = acts_some old (line.Lose message) (loses_some message (sent_at message old.waiting))
    up_some _ b c = absurd (false≢true b)

-- each line that is built and crashes nothing may happen in a cell whose volumes have their replicas
pub line_some : (old : Cell) (said : Line) → ArePlaced old → is_built said ≡ true → CrashesNothing said → Becomes_some (Happens old said)
line_some old said placed built crashes = down_becomes old (is_down_for (needs old said)) (DoesUp old said) (up_some old placed said built crashes)

-- ---- scripts

-- a line that is taken may run
taken_gives : (old : Cell) (bytes : List ℕ) → ArePlaced old → IsTaken bytes
    → (text : List ℕ) × (outside : List (List ℕ)) × (next : Cell) × LineGives old bytes text outside next
taken_gives old bytes placed (inl silent) = ([], [], old, inl (silent, refl, refl, refl))
taken_gives old bytes placed (inr said) =
    let happens = line_some old said.0 placed said.2 said.3 in
    let next = happens.2 in (
      text_of (state_of next) happens.0,
      happens.1,
      next,
      inr (record { said = said.0; reply = happens.0; spelled = said.1; built = said.2; happens = happens.3; printed = refl }),
    )

taken_run : (old : Cell) (ls : List (List ℕ)) → IsKept old → ArePlaced old → AllByRecursion IsTaken ls
    → (report : List ℕ) × (outside : List (List ℕ)) × (state : Cell) × Runs LineGives old ls report outside state
taken_run old [] kept placed taken = ([], [], old, (refl, refl, refl))
taken_run old (l ∷ ls) kept placed taken =
    let first = taken_gives old l placed taken.0 in
    let rest = taken_run first.2 ls (gives_kept old first.2 l first.0 first.1 kept first.3) (gives_placed old first.2 l first.0 first.1 kept placed first.3) taken.1 in
    (first.0 ++ rest.0, first.1 ++ rest.1, rest.2, (first.2, first.0, rest.0, first.1, rest.1, first.3, rest.3, refl, refl))

pub scripts_in_grammar_are_clean : ScriptsInGrammarAreClean
scripts_in_grammar_are_clean cell script kept placed ok = (ok.within, taken_run cell (lines script) kept placed ok.taken)
