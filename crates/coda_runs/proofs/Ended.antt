-- The ends of letters that wait are there.
use Rattle.std.proofs.Common.{arith, ◌≡◌, ℕ, ◌==◌, Bool, true, false, cond, nat_eq, List, [], ◌∷◌, ◌++◌, map, Option, Some, None, is_some, option_map, Result, Ok, Err, refl, sym, ap, subst, ◌∙◌, inl, inr}
use Rattle.std.specs.Option.{option_map_or, unwrap_or}
use Rattle.std.proofs.lemmas.Bool.{eqb-true, eq-eqb}
use Rattle.coda_engine.specs.Run.{Runs}
use Rattle.coda_journal.specs.declared.header.Header.{Header}
use Rattle.coda_letters.specs.Sent.{Sent, ChunkSent, AnswerSent, BreakSent, client_of, server_of, is_lossy, Waiting, sent_at, without, put_out, number_of}
use Rattle.coda_plain.specs.Moves.{AtClient, AtReplica}
use Rattle.coda_plain.proofs.Soundness.{none_joins}
use Rattle.coda_record.specs.declared.answer.Answer.{Answer}
use Rattle.coda_script.specs.declared.line.Line.{Line}
use Rattle.coda_script.specs.declared.line.Line.TheVariants as line
use Rattle.coda_script.specs.declared.line.Strength.TheVariants.{Down as LinkIsDown}
use Rattle.coda_script.specs.declared.reply.Reply.{Reply}
use Rattle.coda_cell.specs.Made.{client_of as made_client, replica_of}
use Rattle.coda_cell.specs.Messages.{over, posting, going_by, sends_of, ruled_in, taken_in}
use Rattle.coda_cell.specs.Runs.{AreNumbered}
use Rattle.coda_cell.specs.Sending.{Freezing, freezing, Ruling, ruling, Taking, taking, deeds_at, entries_at}
use Rattle.coda_cell.specs.State.{new_replica, ReplicaState, CellState, Event, VolumeMade, ClientMade, Ticked, LinkSet, Entered, Posted, Lost, Used, Kept, Stale, after, after_all}
use Rattle.coda_cell.specs.Steps.{Doing, Unless, Named, first_missing, on_volume, on_holder, client_named, volume_named, server_named, holder_named, alone, BySend, ByRuling, ByTaking, Comes, link_down, Delivers, Loses, Does}
use Rattle.coda_cell.specs.Refused.{Refused}
use Rattle.coda_cell.proofs.Histories.{server_stays}
use Rattle.coda_cell.proofs.Events.{all_there}
use Rattle.coda_shelves.specs.Cells.{Cell, begun_on, asked, Stand, stand_of, state_of}
use Rattle.coda_shelves.specs.Lines.{Stop}
use Rattle.coda_runs.specs.Lettered.{volume_of, AreAddressed, LettersHaveEnds}
use Rattle.coda_runs.specs.Shelved.{LineGives}
use Rattle.coda_runs.proofs.Coming.{ComesTo, Acted, Aside, line_comes}
use Rattle.coda_runs.proofs.Lettered.{at_first, at_later, above}
use Rattle.coda_runs.proofs.Meeting.{met, ShowsAs, waiting_as, Ends, WasDown, DidAll, LackedRoom, HadFault}
use Rattle.coda_runs.proofs.Staying.{StayMade, happens_stay}
use Rattle.coda_runs.proofs.Unlettered.{AreEntries, is_acting, client_entries, replica_entries, task_entries}

-- ---- the ends of letters

abbrev IsThere : CellState → Sent → Type 0
IsThere s sent = first_missing (on_holder s (client_of sent) (volume_of sent) (server_of sent)) ≡ None

abbrev AllThere : CellState → Waiting → Type 0
AllThere s [] = Unit {0}
AllThere s (l ∷ waiting) = IsThere s l.1 × AllThere s waiting

there_at : (s : CellState) (number : ℕ) (waiting : Waiting) (sent : Sent) → AllThere s waiting → sent_at number waiting ≡ Some sent → IsThere s sent
there_at s number [] sent all e = cc
there_at s number (l ∷ waiting) sent all e = elim (nat_eq number l.0) as (λ b. cond b (Some l.1) (sent_at number waiting) ≡ Some sent → IsThere s sent) [
  | true ↦ λ h. (let same : l.1 ≡ sent = cc in subst (IsThere s) same all.0)
  | false ↦ λ h. there_at s number waiting sent all.1 h
] e

all_stay : (old new : CellState) → ((sent : Sent) → IsThere old sent → IsThere new sent) → (waiting : Waiting) → AllThere old waiting → AllThere new waiting
all_stay old new stays [] all = tt
all_stay old new stays (l ∷ waiting) all = (stays l.1 all.0, all_stay old new stays waiting all.1)

all_without : (s : CellState) (number : ℕ) (waiting : Waiting) → AllThere s waiting → AllThere s (without number waiting)
all_without s number [] all = tt
all_without s number (l ∷ waiting) all = elim (nat_eq number l.0) as (λ b. AllThere s (cond b waiting (l ∷ without number waiting))) [ true ↦ all.1 | false ↦ (all.0, all_without s number waiting all.1) ]

all_behind : (s : CellState) (front back : Waiting) → AllThere s front → AllThere s back → AllThere s (front ++ back)
all_behind s [] back f b = b
all_behind s (l ∷ front) back f b = (f.0, all_behind s front back f.1 b)

-- ---- in a cell

-- the client was made, and the volume stands with this server as its home
record IsHere (cell : Cell) (client volume server : ℕ) : Type 0 where
  pub header : Header
  pub asks : asked (cell.clients client).life ≡ Some header
  pub at : Stand
  pub stands : stand_of cell volume ≡ Some at
  pub home : server ≡ alone at.servers

pub home_is : (cell : Cell) (volume : ℕ) (at : Stand) → (replica_of (λ s. (cell.replicas at.row s).disk.history) volume (alone at.servers)).server ≡ alone at.servers
home_is cell volume at = server_stays (new_replica (alone at.servers) volume) (cell.replicas at.row (alone at.servers)).disk.history

here : (cell : Cell) (client volume server : ℕ) → first_missing (on_holder (state_of cell) client volume server) ≡ None → IsHere cell client volume server
here cell client volume server none =
    let s = state_of cell in
    let all = all_there (client_named s client) (volume_named s volume) (holder_named s server volume) none in
    let h = some_header (asked (cell.clients client).life) all.0 in
    let at = some_home (stand_of cell volume) all.2 in
    record { header = h.0; asks = h.1; at = at.0; stands = at.1; home = at.2 }
  where
    some_header : (o : Option Header) → is_some (option_map (λ (h : Header). made_client client (cell.clients client).disk.history h.cache) o) ≡ true → (header : Header) × (o ≡ Some header)
    some_header None e = cc
    some_header (Some header) e = (header, refl)

    some_home : (o : Option Stand) → option_map_or (λ (r : ReplicaState). r.server == server) (option_map (λ (at : Stand). replica_of (λ s. (cell.replicas at.row s).disk.history) volume (alone at.servers)) o) false ≡ true → (at : Stand) × (o ≡ Some at) × (server ≡ alone at.servers)
    some_home None e = cc
    some_home (Some at) e = (at, refl, sym (eqb-true (replica_of (λ s. (cell.replicas at.row s).disk.history) volume (alone at.servers)).server server e) ∙ home_is cell volume at)

named : (a b c : Named) → a.there ≡ true → b.there ≡ true → c.there ≡ true → first_missing (a ∷ b ∷ c ∷ []) ≡ None
named a b c p q r = rw (p, q, r) refl

there : (cell : Cell) (client volume server : ℕ) → IsHere cell client volume server → first_missing (on_holder (state_of cell) client volume server) ≡ None
there cell client volume server is =
    let s = state_of cell in
    let replica = λ (at : Stand). replica_of (λ k. (cell.replicas at.row k).disk.history) volume (alone at.servers) in
    named (client_named s client) (volume_named s volume) (holder_named s server volume)
    (ap (λ o. is_some (option_map (λ (h : Header). made_client client (cell.clients client).disk.history h.cache) o)) is.asks)
    (ap (λ o. is_some (option_map replica o)) is.stands)
    (ap (λ o. option_map_or (λ (r : ReplicaState). r.server == server) (option_map replica o) false) is.stands ∙ eq-eqb (replica is.at).server server (home_is cell volume is.at ∙ sym is.home))

-- whose ends were there has them there
stays_there : (old new : Cell) → StayMade old new → (sent : Sent) → IsThere (state_of old) sent → IsThere (state_of new) sent
stays_there old new stay sent is =
    let h = here old (client_of sent) (volume_of sent) (server_of sent) is in
    there new (client_of sent) (volume_of sent) (server_of sent) (record { header = h.header; asks = stay.clients (client_of sent) h.header h.asks; at = h.at; stands = stay.volumes (volume_of sent) h.at h.stands; home = h.home })

-- ---- what is posted

abbrev IsFine : CellState → Event → Type 0
IsFine s (Posted sent) = IsThere s sent
IsFine s event = Unit {0}

-- the ends of all that is posted are there
abbrev AreFine : CellState → List Event → Type 0
AreFine s [] = Unit {0}
AreFine s (event ∷ events) = IsFine s event × AreFine s events

each : (s t : CellState) (events : List Event) → AreFine s events → AllThere s t.waiting → AllThere s (after_all t events).waiting
each s t [] fine all = all
each s t (VolumeMade volume server ∷ events) fine all = each s (after t (VolumeMade volume server)) events fine.1 all
each s t (ClientMade client blocks ∷ events) fine all = each s (after t (ClientMade client blocks)) events fine.1 all
each s t (Ticked seconds ∷ events) fine all = each s (after t (Ticked seconds)) events fine.1 all
each s t (LinkSet client server strength ∷ events) fine all = each s (after t (LinkSet client server strength)) events fine.1 all
each s t (Entered (AtClient client entry) ∷ events) fine all = each s (after t (Entered (AtClient client entry))) events fine.1 all
each s t (Entered (AtReplica server volume entry) ∷ events) fine all = each s (after t (Entered (AtReplica server volume entry))) events fine.1 all
each s t (Posted sent ∷ events) fine all = each s (after t (Posted sent)) events fine.1 (all_behind s t.waiting _ all (fine.0, tt))
each s t (Lost message ∷ events) fine all = each s (after t (Lost message)) events fine.1 (all_without s message t.waiting all)
each s t (Used client fids ∷ events) fine all = each s (after t (Used client fids)) events fine.1 all
each s t (Kept client server fid ∷ events) fine all = each s (after t (Kept client server fid)) events fine.1 all
each s t (Stale client fids ∷ events) fine all = each s (after t (Stale client fids)) events fine.1 all

front_fine : (s : CellState) (first rest : List Event) → AreFine s (first ++ rest) → AreFine s first
front_fine s [] rest fine = tt
front_fine s (event ∷ first) rest fine = (fine.0, front_fine s first rest fine.1)

both_fine : (s : CellState) (first rest : List Event) → AreFine s first → AreFine s rest → AreFine s (first ++ rest)
both_fine s [] rest f r = r
both_fine s (event ∷ first) rest f r = (f.0, both_fine s first rest f.1 r)

entries_fine : (s : CellState) (events : List Event) → AreEntries events → AreFine s events
entries_fine s [] are = tt
entries_fine s (Entered append ∷ events) are = (tt, entries_fine s events are.1)
entries_fine s (VolumeMade volume server ∷ events) are = absurd are.0
entries_fine s (ClientMade client blocks ∷ events) are = absurd are.0
entries_fine s (Ticked seconds ∷ events) are = absurd are.0
entries_fine s (LinkSet client server strength ∷ events) are = absurd are.0
entries_fine s (Posted sent ∷ events) are = absurd are.0
entries_fine s (Lost message ∷ events) are = absurd are.0
entries_fine s (Used client fids ∷ events) are = (tt, entries_fine s events are.1)
entries_fine s (Kept client server fid ∷ events) are = (tt, entries_fine s events are.1)
entries_fine s (Stale client fids ∷ events) are = (tt, entries_fine s events are.1)

posting_fine : (s : CellState) (sent : Sent) (going : Waiting) → IsThere s sent → AreFine s (map (λ l. Lost l.0) going ++ Posted sent ∷ [])
posting_fine s sent [] is = (is, tt)
posting_fine s sent (l ∷ going) is = (tt, posting_fine s sent going is)

-- ---- lines

module _ (s : CellState) where
  going_fine : (sent : Sent) (o : Option ℕ) → IsThere s sent → AreFine s (going_by o sent s).events
  going_fine sent (Some message) is = tt
  going_fine sent None is = posting_fine s sent (put_out sent s.waiting) is

  sends_fine : (client volume server : ℕ) (o : Result Freezing Refused) → first_missing (on_holder s client volume server) ≡ None → AreFine s (sends_of s client volume server o).events
  sends_fine client volume server (Err why) all = tt
  sends_fine client volume server (Ok f) all =
      let sent = ChunkSent client server volume f.number f.span in
      both_fine s (deeds_at client volume f.deeds) (going_by (number_of sent s.waiting) sent s).events (entries_fine s _ (client_entries client _)) (going_fine sent (number_of sent s.waiting) all)

  rulings_fine : (client server volume number : ℕ) (o : Result Ruling Refused) → first_missing (on_holder s client volume server) ≡ None → AreFine s (ruled_in s client server volume number o).events
  rulings_fine client server volume number (Err why) all = tt
  rulings_fine client server volume number (Ok ruled) all =
      let sent = AnswerSent server client volume number ruled.answer in
      both_fine s (entries_at server volume ruled.entries) (posting sent s.waiting) (entries_fine s _ (replica_entries server volume ruled.entries)) (posting_fine s sent (put_out sent s.waiting) all)

  takings_fine : (client volume number : ℕ) (answer : Answer) (o : Result Taking Refused) → AreFine s (taken_in client volume number answer o).events
  takings_fine client volume number answer (Err why) = tt
  takings_fine client volume number answer (Ok took) = entries_fine s _ (client_entries client _)

  none_fine : (events : List Event) → events ≡ [] → AreFine s events
  none_fine events none = subst (AreFine s) (sym none) tt

  unless_fine : (o : Option Refused) (own : Doing) (reply : Reply) (events : List Event) → (o ≡ None → own reply events → AreFine s events) → Unless o own reply events → AreFine s events
  unless_fine (Some why) own reply events rest does = none_fine events does.1
  unless_fine None own reply events rest does = rest refl does

  comes_fine : (sent : Sent) (reply : Reply) (events : List Event) → Comes s sent reply events → AreFine s events
  comes_fine (ChunkSent client server volume number span) reply events does =
      unless_fine (first_missing (on_holder s client volume server)) (ByRuling s client server volume number span) reply events
      (λ all did. subst (AreFine s) (sym did.happened) (rulings_fine client server volume number (ruling client number span did.replica) all)) does
  comes_fine (AnswerSent server client volume number answer) reply events does =
      unless_fine (first_missing (on_holder s client volume server)) (ByTaking s client volume number answer) reply events
      (λ all did. subst (AreFine s) (sym did.happened) (takings_fine client volume number answer (taking number answer (did.client.volumes volume)))) does
  comes_fine (BreakSent server client volume fids) reply events does =
      unless_fine (first_missing (on_holder s client volume server)) _ reply events (λ all did. subst (AreFine s) (sym did.1) (tt, tt)) does

  delivers_fine : (message : ℕ) (o : Option Sent) (reply : Reply) (events : List Event) → Delivers s message o reply events → AreFine s events
  delivers_fine message None reply events does = none_fine events does.1
  delivers_fine message (Some sent) reply events does = unless_fine (link_down (s.links (client_of sent) (server_of sent))) (Comes s sent) reply events (λ up. comes_fine sent reply events) does

  loses_fine : (message : ℕ) (o : Option Sent) (reply : Reply) (events : List Event) → Loses message o reply events → AreFine s events
  loses_fine message None reply events does = none_fine events does.1
  loses_fine message (Some sent) reply events does = subst (AreFine s) (sym does.1) (tt, by (is_lossy sent))
    where
      by : (b : Bool) → AreFine s (cond b [] (LinkSet (client_of sent) (server_of sent) LinkIsDown ∷ []))
      by true = tt
      by false = (tt, tt)

  line_fine : (said : Line) (reply : Reply) (events : List Event) → is_acting said ≡ true → Does s said reply events → AreFine s events
  line_fine (line.Link client server strength) reply events acts does = unless_fine (first_missing (client_named s client ∷ server_named s server ∷ [])) _ reply events (λ all did. subst (AreFine s) (sym did.1) (tt, tt)) does
  line_fine (line.Tick seconds) reply events acts does = subst (AreFine s) (sym does.1) (tt, tt)
  line_fine (line.Task t) reply events acts does = entries_fine s events (task_entries s reply events t does)
  line_fine (line.ShowVolume server volume) reply events acts does = unless_fine (first_missing (holder_named s server volume ∷ [])) _ reply events (λ all did. none_fine events did.1) does
  line_fine (line.ShowLog client volume) reply events acts does = unless_fine (first_missing (on_volume s client volume)) _ reply events (λ all did. none_fine events did.1) does
  line_fine (line.ShowState client volume) reply events acts does = unless_fine (first_missing (on_volume s client volume)) _ reply events (λ all did. none_fine events did.happened) does
  line_fine (line.Send client volume server window) reply events acts does =
      unless_fine (first_missing (on_holder s client volume server)) (BySend s client volume server (unwrap_or window 600)) reply events
      (λ all did. subst (AreFine s) (sym did.happened) (sends_fine client volume server (over (s.links client server) (freezing s.clock (unwrap_or window 600) server (did.client.volumes volume))) all)) does
  line_fine (line.Deliver message) reply events acts does = delivers_fine message (sent_at message s.waiting) reply events does
  line_fine (line.Lose message) reply events acts does = loses_fine message (sent_at message s.waiting) reply events does
  line_fine (line.Volume volume servers area) reply events acts does = cc
  line_fine (line.Client client blocks area) reply events acts does = cc
  line_fine _ reply events acts does = absurd does

-- ---- a cell that is its disks

-- all letters have their ends there
abbrev pub AreEnded : Cell → Type 0
AreEnded cell = AllThere (state_of cell) cell.waiting

module _ (old new : Cell) (said : Line) (all : AreEnded old) (stay : StayMade old new) where
  -- what waits behind has its ends where those are who were made before
  moved : AllThere (state_of old) new.waiting → AreEnded new
  moved is = all_stay (state_of old) (state_of new) (stays_there old new stay) new.waiting is

  shown : (links : _) (events : List Event) → AreFine (met old links) events → ShowsAs (after_all (met old links) events) new → AreEnded new
  shown links events fine shows = moved (subst (AllThere (state_of old)) (waiting_as (after_all (met old links) events) new shows)
      (all_stay (met old links) (state_of old) (λ sent is. is) (after_all (met old links) events).waiting (each (met old links) (met old links) events fine (all_stay (state_of old) (met old links) (λ sent is. is) old.waiting all))))

  stopped : is_acting said ≡ true → (links : _) (own : Reply) (events : List Event) (stop : Stop events) → Does (met old links) said own events → ShowsAs (after_all (met old links) stop.done) new → AreEnded new
  stopped acts links own events stop does shows =
      shown links stop.done (front_fine (met old links) stop.done (Entered stop.next ∷ stop.rest) (subst (AreFine (met old links)) stop.is (line_fine (met old links) said own events acts does))) shows

  ended : is_acting said ≡ true → (reply : Reply) → Ends old said reply new → AreEnded new
  ended acts reply (WasDown down is same) = moved (subst (AllThere (state_of old)) (ap (λ (c : Cell). c.waiting) (sym same)) all)
  ended acts reply (DidAll at events does shows) = shown at.links events (line_fine (met old at.links) said reply events acts does) shows
  ended acts reply (LackedRoom at own events stop does shows is lacks same) = stopped acts at.links own events stop does shows
  ended acts reply (HadFault at own events stop does shows is same) = stopped acts at.links own events stop does shows

  came : (reply : Reply) → ComesTo old said reply new → AreEnded new
  came reply (Acted acts ends) = ended acts reply ends
  came reply (Aside none whole leaves) = moved (subst (AllThere (state_of old)) (sym leaves) all)

gives_ended : (old new : Cell) (bytes text : List ℕ) (outside : List (List ℕ)) → AreEnded old → LineGives old bytes text outside new → AreEnded new
gives_ended old new bytes text outside all (inl silent) = subst AreEnded (sym silent.3) all
gives_ended old new bytes text outside all (inr x) = came old new x.said all (happens_stay old x.reply outside new x.said x.happens) x.reply (line_comes old x.reply outside new x.said x.happens)

runs_ended : (old new : Cell) (ls : List (List ℕ)) (report : List ℕ) (outside : List (List ℕ)) → AreEnded old → Runs LineGives old ls report outside new → AreEnded new
runs_ended old new [] report outside all run = subst AreEnded (sym run.2) all
runs_ended old new (l ∷ more) report outside all run = runs_ended run.0 new more run.2 run.4 (gives_ended old run.0 l run.1 run.3 all run.5) run.6

-- ---- the actors that letters name

addressed : (cell : Cell) → AreEnded cell → AreAddressed cell
addressed cell all number sent is = there_at (state_of cell) number cell.waiting sent all is

all_addressed : (s : CellState) (before last : ℕ) (waiting : Waiting) → AreNumbered before last waiting → ((number : ℕ) (sent : Sent) → sent_at number waiting ≡ Some sent → IsThere s sent) → AllThere s waiting
all_addressed s before last [] numbered each = tt
all_addressed s before last (l ∷ waiting) numbered each = (
  each l.0 l.1 (at_first l waiting l.0 refl),
  all_addressed s l.0 last waiting numbered.2
      (λ number sent is. each number sent (at_later l waiting number (λ same. (let more = above l.0 last waiting numbered.2 number sent is in omega (arith, same, more))) ∙ is)),
)

pub letters_have_ends : LettersHaveEnds
letters_have_ends = record {
  first = λ shelves cell ls report outside run. addressed cell (runs_ended (begun_on shelves) cell ls report outside tt run);
  each = λ cell kept are ls report outside new run. addressed new (runs_ended cell new ls report outside (all_addressed (state_of cell) 0 cell.posted cell.waiting (kept.letters none_joins).letters.numbered are) run);
}
