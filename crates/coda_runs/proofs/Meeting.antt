-- What a line does that acts in a cell that is its disks, in words of what the cell is at a moment.
use Rattle.std.proofs.Common.{◌≡◌, ◌≢◌, ℕ, ◌==◌, ◌&&◌, Bool, true, false, cond, List, [], ◌∷◌, ◌++◌, Option, Some, None, option_map, refl, sym, ap, ◌∙◌, subst, inl, inr}
use Rattle.std.proofs.lemmas.Bool.{cases_Bool, eqb-true, eq-eqb, ne_eqb, and_parts}
use Rattle.std.specs.List.{list_any}
use Rattle.coda_actors.specs.Plain.{Life, Unmade, Down, Up, PlainActor}
use Rattle.coda_fid.specs.Fid.{same_fid}
use Rattle.coda_fid.specs.declared.fid.Fid.{Fid}
use Rattle.coda_journal.specs.declared.header.Header.{Header}
use Rattle.coda_script.specs.declared.line.Strength.{Strength}
use Rattle.coda_script.specs.declared.line.Strength.TheVariants.{Strong, Weak, Down as LinkIsDown}
use Rattle.coda_script.specs.declared.line.Task.TheVariants as task
use Rattle.coda_script.specs.declared.line.Line.{Line}
use Rattle.coda_script.specs.declared.line.Line.TheVariants as line
use Rattle.coda_script.specs.declared.reply.Reply.{Reply}
use Rattle.coda_plain.specs.Cell.{ClientEntry}
use Rattle.coda_plain.specs.Decisions.{ReplicaEntry}
use Rattle.coda_plain.specs.Moves.{Append, AtClient, AtReplica}
use Rattle.coda_cell.specs.Made.{Copy, client_of, replica_of}
use Rattle.coda_cell.specs.State.{put, linked, new_client, client_after, ReplicaState, new_replica, replica_after, replica_after_all, replica_after_at, CellState, Event, VolumeMade, ClientMade, Ticked, LinkSet, Entered, Posted, Lost, Used, Kept, Stale, unless_from, cut_by, after as after_in, after_all as after_all_in}
use Rattle.coda_cell.specs.Steps.{alone, Does}
use Rattle.coda_cell.proofs.Fetches.{client_after_both}
use Rattle.coda_cell.proofs.Histories.{server_stays}
use Rattle.coda_shelves.specs.Cells.{Cell, asked, Stand, stand_of, state_of, with_client, with_replica, with_volume, grown, fallen, failing, failed, entries_at, after, after_all}
use Rattle.coda_shelves.specs.Lines.{Lacks, Stop, Acts, EndsBy, Becoming, UnlessDown, needs, is_down_for, links_to, meets, refused_down, refused_full, refused_fault}
use Rattle.coda_shelves.proofs.Rows.{stand_one}
use Rattle.coda_runs.proofs.Unlettered.{is_acting, MakesNone, MakeNone, make_none, entries_make_none, stopped_entries, line_first}

-- ---- what an event makes of a client, and of a replica

client_more : (client : ℕ) (history : List ClientEntry) (entry : ClientEntry) (o : Option Header)
    → option_map (λ (h : Header). client_of client (history ++ entry ∷ []) h.cache) o ≡ option_map (λ c. client_after c entry) (option_map (λ (h : Header). client_of client history h.cache) o)
client_more client history entry None = refl
client_more client history entry (Some h) = ap Some (client_after_both (new_client client h.cache) history (entry ∷ []))

replica_after_both : (r : ReplicaState) (first rest : List ReplicaEntry) → replica_after_all r (first ++ rest) ≡ replica_after_all (replica_after_all r first) rest
replica_after_both r [] rest = refl
replica_after_both r (entry ∷ first) rest = replica_after_both (replica_after r entry) first rest

-- the copies that are seen
abbrev seen : (ℕ → Fid → Option Copy) → ℕ → Fid → Option ℕ
seen copies c f = option_map (λ (copy : Copy). copy.server) (copies c f)

seen_where : (b : Bool) (x y : Option Copy) → option_map (λ (copy : Copy). copy.server) (cond b x y) ≡ cond b (option_map (λ (copy : Copy). copy.server) x) (option_map (λ (copy : Copy). copy.server) y)
seen_where true x y = refl
seen_where false x y = refl

unless_seen : (server : ℕ) (o : Option Copy) → option_map (λ (copy : Copy). copy.server) (unless_from (λ (copy : Copy). copy.server) server o) ≡ unless_from (λ n. n) server (option_map (λ (copy : Copy). copy.server) o)
unless_seen server None = refl
unless_seen server (Some copy) = seen_where (copy.server == server) None (Some copy)

cut_seen : (strength : Strength) (copies : ℕ → Fid → Option Copy) (client server c : ℕ) (f : Fid) → seen (cut_by (λ (copy : Copy). copy.server) strength copies client server) c f ≡ cut_by (λ n. n) strength (seen copies) client server c f
cut_seen Strong copies client server c f = refl
cut_seen Weak copies client server c f = refl
cut_seen LinkIsDown copies client server c f =
    seen_where (c == client) (unless_from (λ (copy : Copy). copy.server) server (copies c f)) (copies c f) ∙ ap (λ x. cond (c == client) x (seen copies c f)) (unless_seen server (copies c f))

-- ---- and of the cell

module _ (cell : Cell) where
  clients_after : (client : ℕ) (entry : ClientEntry) (c : ℕ)
      → (state_of (with_client cell client (grown entry (cell.clients client)))).clients c ≡ put (state_of cell).clients client (option_map (λ x. client_after x entry) ((state_of cell).clients client)) c
  clients_after client entry c = elim (c == client) as (λ b. (c == client) ≡ b
      → (let actor = cond b (grown entry (cell.clients client)) (cell.clients c) in option_map (λ (h : Header). client_of c actor.disk.history h.cache) (asked actor.life))
      ≡ cond b (option_map (λ x. client_after x entry) ((state_of cell).clients client)) ((state_of cell).clients c)) [
        | true ↦ λ e.
            ap (λ n. option_map (λ (h : Header). client_of n ((cell.clients client).disk.history ++ entry ∷ []) h.cache) (asked (cell.clients client).life)) (eqb-true c client e)
            ∙ client_more client (cell.clients client).disk.history entry (asked (cell.clients client).life)
        | false ↦ λ e. refl
      ] refl

  -- the replica of a volume by what its servers' disks hold
  abbrev replica_by : (ℕ → ℕ → PlainActor ReplicaEntry) → ℕ → Stand → ReplicaState
  replica_by replicas volume at = replica_of (λ server. (replicas at.row server).disk.history) volume (alone at.servers)

  -- where the volume stands, its replica is behind the entry if it is the one on this server
  module _ (server volume : ℕ) (entry : ReplicaEntry) (at : Stand) where
    abbrev next : ℕ → ℕ → PlainActor ReplicaEntry
    next = (with_replica cell at.row server (grown entry (cell.replicas at.row server))).replicas

    replica_here : replica_by next volume at ≡ replica_after_at server entry (replica_by cell.replicas volume at)
    replica_here =
        let home = alone at.servers in
        let r = replica_by cell.replicas volume at in
        let its : r.server ≡ home = server_stays (new_replica home volume) (cell.replicas at.row home).disk.history in
        elim (cases_Bool (home == server)) [
          | inl here ↦
              let is = eqb-true home server here in
              ap (λ b. replica_after_all (new_replica home volume) (cond (b && (home == server)) (grown entry (cell.replicas at.row server)) (cell.replicas at.row home)).disk.history) (eq-eqb at.row at.row refl)
              ∙ ap (λ b. replica_after_all (new_replica home volume) (cond (true && b) (grown entry (cell.replicas at.row server)) (cell.replicas at.row home)).disk.history) here
              ∙ ap (λ n. replica_after_all (new_replica home volume) ((cell.replicas at.row n).disk.history ++ entry ∷ [])) (sym is)
              ∙ replica_after_both (new_replica home volume) (cell.replicas at.row home).disk.history (entry ∷ [])
              ∙ sym (ap (λ b. cond b (replica_after r entry) r) (eq-eqb r.server server (its ∙ is)))
          | inr off ↦
              ap (λ b. replica_after_all (new_replica home volume) (cond (b && (home == server)) (grown entry (cell.replicas at.row server)) (cell.replicas at.row home)).disk.history) (eq-eqb at.row at.row refl)
              ∙ ap (λ b. replica_after_all (new_replica home volume) (cond (true && b) (grown entry (cell.replicas at.row server)) (cell.replicas at.row home)).disk.history) off
              ∙ sym (ap (λ b. cond b (replica_after r entry) r) (ap (λ n. n == server) its ∙ off))
        ]

    replica_off : (v : ℕ) (b : Stand) → b.row ≢ at.row → replica_by next v b ≡ replica_by cell.replicas v b
    replica_off v b off = ap (λ x. replica_after_all (new_replica (alone b.servers) v) (cond (x && (alone b.servers == server)) (grown entry (cell.replicas at.row server)) (cell.replicas b.row (alone b.servers))).disk.history) (ne_eqb b.row at.row off)

    replicas_after : stand_of cell volume ≡ Some at → (v : ℕ)
        → option_map (replica_by next v) (stand_of cell v) ≡ put (state_of cell).replicas volume (option_map (replica_after_at server entry) ((state_of cell).replicas volume)) v
    replicas_after stands v = elim (v == volume) as (λ b. (v == volume) ≡ b
        → option_map (replica_by next v) (stand_of cell v) ≡ cond b (option_map (replica_after_at server entry) ((state_of cell).replicas volume)) ((state_of cell).replicas v)) [
          | true ↦ λ e.
              ap (λ w. option_map (replica_by next w) (stand_of cell w)) (eqb-true v volume e)
              ∙ ap (option_map (replica_by next volume)) stands
              ∙ ap Some replica_here
              ∙ sym (ap (λ o. option_map (replica_after_at server entry) (option_map (replica_by cell.replicas volume) o)) stands)
          | false ↦ λ e. by e (stand_of cell v) refl
        ] refl
      where
        by : (v == volume) ≡ false → (o : Option Stand) → stand_of cell v ≡ o → option_map (replica_by next v) o ≡ option_map (replica_by cell.replicas v) o
        by e None is = refl
        by e (Some b) is = ap Some (replica_off v b (λ row. apart (stand_one 0 cell.rows v volume b at is stands row)))
          where
            apart : v ≡ volume → ⊥
            apart same = (let no : true ≡ false = sym (eq-eqb v volume same) ∙ e in cc)

  entry_at : (server volume : ℕ) (entry : ReplicaEntry) (o : Option Stand) → stand_of cell volume ≡ o → state_of (with_volume cell o server (grown entry)) ≡ after_in (state_of cell) (Entered (AtReplica server volume entry))
  entry_at server volume entry None e = λ i. record (state_of cell) { replicas = λ v. same v i }
    where
      same : (v : ℕ) → (state_of cell).replicas v ≡ put (state_of cell).replicas volume (option_map (replica_after_at server entry) ((state_of cell).replicas volume)) v
      same v = elim (v == volume) as (λ b. (v == volume) ≡ b → (state_of cell).replicas v ≡ cond b (option_map (replica_after_at server entry) ((state_of cell).replicas volume)) ((state_of cell).replicas v)) [
        | true ↦ λ is.
            ap (λ w. (state_of cell).replicas w) (eqb-true v volume is) ∙ ap (option_map (replica_by cell.replicas volume)) e
            ∙ sym (ap (λ o. option_map (replica_after_at server entry) (option_map (replica_by cell.replicas volume) o)) e)
        | false ↦ λ is. refl
      ] refl
  entry_at server volume entry (Some at) e = λ i. record (state_of cell) { replicas = λ v. replicas_after server volume entry at e v i }

  pub state_after : (event : Event) → MakesNone event → state_of (after cell event) ≡ after_in (state_of cell) event
  state_after (VolumeMade volume server) none = absurd none
  state_after (ClientMade client blocks) none = absurd none
  state_after (Ticked seconds) none = refl
  state_after (LinkSet client server strength) none = λ i. record (after_in (state_of cell) (LinkSet client server strength)) { copies = λ c f. cut_seen strength cell.copies client server c f i }
  state_after (Entered (AtClient client entry)) none = λ i. record (state_of cell) { clients = λ c. clients_after client entry c i }
  state_after (Entered (AtReplica server volume entry)) none = entry_at server volume entry (stand_of cell volume) refl
  state_after (Posted sent) none = refl
  state_after (Lost message) none = refl
  state_after (Used client fids) none = refl
  state_after (Kept client server fid) none = λ i. record (state_of cell) { copies = λ c f. seen_where ((c == client) && same_fid f fid) (Some (record { server = server; position = entries_at cell (stand_of cell fid.volume) server })) (cell.copies c f) i }
  state_after (Stale client fids) none = λ i. record (state_of cell) { copies = λ c f. seen_where ((c == client) && list_any (λ g. same_fid g f) fids) None (cell.copies c f) i }

pub state_after_all : (cell : Cell) (events : List Event) → MakeNone events → state_of (after_all cell events) ≡ after_all_in (state_of cell) events
state_after_all cell [] none = refl
state_after_all cell (event ∷ events) none = state_after_all (after cell event) events none.1 ∙ ap (λ s. after_all_in s events) (state_after cell event none.0)

-- an append that failed shows nothing
fallen_asks : (life : Life) → asked (fallen life) ≡ asked life
fallen_asks Unmade = refl
fallen_asks (Down header) = refl
fallen_asks (Up header) = refl

state_failed : (cell : Cell) (append : Append) → state_of (failed cell append) ≡ state_of cell
state_failed cell (AtClient client entry) = λ i. record (state_of cell) { clients = λ c. same c i }
  where
    same : (c : ℕ) → (state_of (failed cell (AtClient client entry))).clients c ≡ (state_of cell).clients c
    same c = elim (c == client) as (λ b. (c == client) ≡ b
        → (let actor = cond b (failing entry (cell.clients client)) (cell.clients c) in option_map (λ (h : Header). client_of c actor.disk.history h.cache) (asked actor.life)) ≡ (state_of cell).clients c) [
          | true ↦ λ e. ap (λ o. option_map (λ (h : Header). client_of c (cell.clients client).disk.history h.cache) o) (fallen_asks (cell.clients client).life)
              ∙ ap (λ n. option_map (λ (h : Header). client_of c (cell.clients n).disk.history h.cache) (asked (cell.clients n).life)) (sym (eqb-true c client e))
          | false ↦ λ e. refl
        ] refl
state_failed cell (AtReplica server volume entry) = by (stand_of cell volume)
  where
    same : (at : Stand) (r s : ℕ) → ((with_replica cell at.row server (failing entry (cell.replicas at.row server))).replicas r s).disk.history ≡ (cell.replicas r s).disk.history
    same at r s = elim ((r == at.row) && (s == server)) as (λ b. ((r == at.row) && (s == server)) ≡ b → (cond b (failing entry (cell.replicas at.row server)) (cell.replicas r s)).disk.history ≡ (cell.replicas r s).disk.history) [
      | true ↦ λ e. let both = and_parts (r == at.row) (s == server) e in λ i. (cell.replicas (sym (eqb-true r at.row both.0) i) (sym (eqb-true s server both.1) i)).disk.history
      | false ↦ λ e. refl
    ] refl

    by : (o : Option Stand) → state_of (with_volume cell o server (failing entry)) ≡ state_of cell
    by None = refl
    by (Some at) = λ i. record (state_of cell) { replicas = λ v. option_map (λ (b : Stand). replica_of (λ s. same at b.row s i) v (alone b.servers)) (stand_of cell v) }

-- ---- lines that act

-- what the cell is, but for its links
abbrev pub met : Cell → (ℕ → ℕ → Strength) → CellState
met cell links = record (state_of cell) { links = links }

-- the links over which a line acts
pub record IsMet (cell : Cell) (said : Line) : Type 0 where
  pub links : ℕ → ℕ → Strength
  pub is : meets cell said ≡ met cell links

pub is_met : (cell : Cell) (said : Line) → IsMet cell said
is_met cell (line.Task (task.Create client volume path mode owner)) = record { links = links_to cell volume; is = refl }
is_met cell (line.Task (task.Mkdir client volume path mode owner)) = record { links = links_to cell volume; is = refl }
is_met cell (line.Task (task.Symlink client volume path target)) = record { links = links_to cell volume; is = refl }
is_met cell (line.Task (task.Store client volume path content)) = record { links = links_to cell volume; is = refl }
is_met cell (line.Task (task.Setattr client volume path attrs)) = record { links = links_to cell volume; is = refl }
is_met cell (line.Task (task.Remove client volume path)) = record { links = links_to cell volume; is = refl }
is_met cell (line.Task (task.Rmdir client volume path)) = record { links = links_to cell volume; is = refl }
is_met cell (line.Task (task.Rename client volume from to)) = record { links = links_to cell volume; is = refl }
is_met cell (line.Task (task.Read client volume path)) = record { links = links_to cell volume; is = refl }
is_met cell (line.Task (task.List client volume path)) = record { links = links_to cell volume; is = refl }
is_met cell (line.Task _) = record { links = cell.links; is = refl }
is_met cell (line.ShowState client volume) = record { links = links_to cell volume; is = refl }
is_met cell _ = record { links = cell.links; is = refl }

-- a state is what a cell is, but for its links
abbrev pub ShowsAs : CellState → Cell → Type 0
ShowsAs s cell = (links : ℕ → ℕ → Strength) × (s ≡ met cell links)

pub clients_as : (s : CellState) (cell : Cell) → ShowsAs s cell → s.clients ≡ (state_of cell).clients
clients_as s cell shows = ap (λ (q : CellState). q.clients) shows.1

pub waiting_as : (s : CellState) (cell : Cell) → ShowsAs s cell → s.waiting ≡ cell.waiting
waiting_as s cell shows = ap (λ (q : CellState). q.waiting) shows.1

-- what happens over other links is the same, but for the links
over_links : (s : CellState) (links : ℕ → ℕ → Strength) (events : List Event) → (after : ℕ → ℕ → Strength) × (after_all_in (record s { links = links }) events ≡ record (after_all_in s events) { links = after })
over_links s links [] = (links, refl)
over_links s links (VolumeMade volume server ∷ events) = over_links (after_in s (VolumeMade volume server)) links events
over_links s links (ClientMade client blocks ∷ events) = over_links (after_in s (ClientMade client blocks)) links events
over_links s links (Ticked seconds ∷ events) = over_links (after_in s (Ticked seconds)) links events
over_links s links (LinkSet client server strength ∷ events) = over_links (after_in s (LinkSet client server strength)) (linked links client server strength) events
over_links s links (Entered (AtClient client entry) ∷ events) = over_links (after_in s (Entered (AtClient client entry))) links events
over_links s links (Entered (AtReplica server volume entry) ∷ events) = over_links (after_in s (Entered (AtReplica server volume entry))) links events
over_links s links (Posted sent ∷ events) = over_links (after_in s (Posted sent)) links events
over_links s links (Lost message ∷ events) = over_links (after_in s (Lost message)) links events
over_links s links (Used client fids ∷ events) = over_links (after_in s (Used client fids)) links events
over_links s links (Kept client server fid ∷ events) = over_links (after_in s (Kept client server fid)) links events
over_links s links (Stale client fids ∷ events) = over_links (after_in s (Stale client fids)) links events

met_after : (cell : Cell) (links : ℕ → ℕ → Strength) (events : List Event) → MakeNone events → ShowsAs (after_all_in (met cell links) events) (after_all cell events)
met_after cell links events none = let over = over_links (state_of cell) links events in (over.0, over.1 ∙ ap (λ (q : CellState). record q { links = over.0 }) (sym (state_after_all cell events none)))

-- how a line ends that acts, over some links: an actor is down that it needs; or all of it happens; or there is no room for an entry, or an
-- append fails, and what was before that happened
pub data Ends (old : Cell) (said : Line) (reply : Reply) (new : Cell) : Type 0 where
  WasDown : is_down_for (needs old said) ≡ true → reply ≡ refused_down → new ≡ old → Ends old said reply new
  DidAll : (at : IsMet old said) (events : List Event) → Does (met old at.links) said reply events
      → ShowsAs (after_all_in (met old at.links) events) new → Ends old said reply new
  LackedRoom : (at : IsMet old said) (own : Reply) (events : List Event) (stop : Stop events) → Does (met old at.links) said own events
      → ShowsAs (after_all_in (met old at.links) stop.done) new
      → reply ≡ refused_full → Lacks (after_all old stop.done) stop.next → new ≡ after_all old stop.done → Ends old said reply new
  HadFault : (at : IsMet old said) (own : Reply) (events : List Event) (stop : Stop events) → Does (met old at.links) said own events
      → ShowsAs (after_all_in (met old at.links) stop.done) new
      → reply ≡ refused_fault → new ≡ failed (after_all old stop.done) stop.next → Ends old said reply new

acts_end : (old : Cell) (said : Line) (reply : Reply) (new : Cell) → is_acting said ≡ true → Acts old said reply new → Ends old said reply new
acts_end old said reply new acting acts = by acts.ends
  where
    links : ℕ → ℕ → Strength
    links = (is_met old said).links

    does : Does (met old links) said acts.own acts.events
    does = subst (λ s. Does s said acts.own acts.events) (is_met old said).is acts.does

    stopped : (stop : Stop acts.events) → ShowsAs (after_all_in (met old links) stop.done) (after_all old stop.done)
    stopped stop = met_after old links stop.done (entries_make_none stop.done (stopped_entries acts.events (line_first (met old links) acts.own acts.events said acting does) stop))

    by : EndsBy old acts.events acts.own reply new → Ends old said reply new
    by (inl all) = DidAll (is_met old said) acts.events (subst (λ r. Does (met old links) said r acts.events) (sym all.1) does)
        (subst (ShowsAs (after_all_in (met old links) acts.events)) (sym all.2) (met_after old links acts.events (make_none acts.events (line_first (met old links) acts.own acts.events said acting does))))
    by (inr (inl full)) = LackedRoom (is_met old said) acts.own acts.events full.0 does
        (subst (ShowsAs (after_all_in (met old links) full.0.done)) (sym full.4) (stopped full.0)) full.3 full.2 full.4
    by (inr (inr fault)) = HadFault (is_met old said) acts.own acts.events fault.0 does
        (let shows = stopped fault.0 in
        subst (ShowsAs (after_all_in (met old links) fault.0.done)) (sym fault.3)
        (shows.0, shows.1 ∙ ap (λ (q : CellState). record q { links = shows.0 }) (sym (state_failed (after_all old fault.0.done) fault.0.next)))) fault.2 fault.3

-- what a line does that acts once its actors are up
abbrev pub ActsUp : Cell → Line → Becoming
ActsUp old said = λ reply outside new. (outside ≡ []) × Acts old said reply new

pub line_ends : (old : Cell) (said : Line) (reply : Reply) (outside : List (List ℕ)) (new : Cell) → is_acting said ≡ true
    → UnlessDown (is_down_for (needs old said)) old (ActsUp old said) reply outside new → Ends old said reply new
line_ends old said reply outside new acting happens = by (is_down_for (needs old said)) refl happens
  where
    by : (b : Bool) → is_down_for (needs old said) ≡ b → UnlessDown b old (ActsUp old said) reply outside new → Ends old said reply new
    by true down h = WasDown down h.0 h.2
    by false up h = acts_end old said reply new acting h.1
