-- Whoever no line made is as it was.
use Rattle.std.proofs.Common.{◌≡◌, ◌≢◌, ℕ, ◌==◌, ◌&&◌, Bool, true, false, cond, List, [], ◌∷◌, length, Option, Some, None, is_some, option_map, refl, sym, ap, ◌∙◌, subst, inl, inr, ◌⊎◌}
use Rattle.std.specs.Option.{option_map_or}
use Rattle.std.proofs.lemmas.Bool.{eqb-true, cases_eq, and_parts}
use Rattle.coda_actors.specs.Plain.{PlainActor, Life, Unmade}
use Rattle.coda_actors.specs.declared.slot.Mounting.{Mounting}
use Rattle.coda_actors.specs.declared.slot.Mounting.TheVariants.{Entries, Foreign, DiskFault, Memory}
use Rattle.coda_journal.specs.declared.header.Header.{Header}
use Rattle.coda_plain.specs.Cell.{ClientEntry}
use Rattle.coda_plain.specs.Decisions.{ReplicaEntry}
use Rattle.coda_plain.specs.Histories.{In}
use Rattle.coda_plain.specs.Moves.{Append, AtClient, AtReplica}
use Rattle.coda_script.specs.declared.line.Line.{Line}
use Rattle.coda_script.specs.declared.reply.Reply.{Reply}
use Rattle.coda_cell.specs.Made.{client_of, replica_of}
use Rattle.coda_cell.specs.State.{put, ReplicaState, Event, VolumeMade, ClientMade, Ticked, LinkSet, Entered, Posted, Lost, Used, Kept, Stale}
use Rattle.coda_cell.specs.Steps.{alone, client_named, holder_named, Does}
use Rattle.coda_cell.proofs.Families.{put_here}
use Rattle.coda_shelves.specs.Shelves.{replica_header}
use Rattle.coda_shelves.specs.Cells.{Row, Cell, asked, Stand, stand_of, state_of, with_client, with_replica, with_volume, grown, failing, failed, after, after_all}
use Rattle.coda_shelves.specs.Lines.{UnlessDown, needs, is_down_for, EndsBy, Acts, is_others, MountsRow, area_of, with_row, with_made}
use Rattle.coda_shelves.specs.FromBlank.{ArePlaced}
use Rattle.coda_runs.specs.Again.{MountsClient, MountsPlace, WhoNeverCameIsAsItWas}
use Rattle.coda_runs.proofs.Ended.{home_is}
use Rattle.coda_runs.proofs.Becoming.{Becomes, Stayed, ClientMoved, ReplicaMoved, ClientComes, VolumeComes, HasActed, becomes}
use Rattle.coda_runs.proofs.Meeting.{met, is_met, ActsUp}
use Rattle.coda_runs.proofs.Served.{put_off}
use Rattle.coda_runs.proofs.Unlettered.{is_acting}
use Rattle.coda_runs.proofs.Whose.{IsOf, AreOf, Anywhere, IsThere, Holds, Stands, of_front, of_next, of_more, of_line}

-- who isn't made asks for no header
never_asks : (life : Life) (header : Header) → life ≡ Unmade → asked life ≡ Some header → ⊥
never_asks life header unmade asks = (let no : None ≡ Some header = sym (ap asked unmade) ∙ asks in cc)

-- the rows stay, whatever happens that adds entries
event_rows : (cell : Cell) (event : Event) → (after cell event).rows ≡ cell.rows
event_rows cell (VolumeMade volume server) = refl
event_rows cell (ClientMade client blocks) = refl
event_rows cell (Ticked seconds) = refl
event_rows cell (LinkSet client server strength) = refl
event_rows cell (Entered (AtClient client entry)) = refl
event_rows cell (Entered (AtReplica server volume entry)) = by (stand_of cell volume)
  where
    by : (o : Option Stand) → (with_volume cell o server (grown entry)).rows ≡ cell.rows
    by None = refl
    by (Some at) = refl
event_rows cell (Posted sent) = refl
event_rows cell (Lost message) = refl
event_rows cell (Used client fids) = refl
event_rows cell (Kept client server fid) = refl
event_rows cell (Stale client fids) = refl

-- ---- whatever a line does that acts

-- what P tells of all cells that events of these leave, and that a failed append of these leaves
module _ (old : Cell) (C : ℕ → Type 0) (R : ℕ → ℕ → Type 0) (P : Cell → Type 0)
    (events_so : (events : List Event) → AreOf C R Anywhere events → P (after_all old events)) (failed_so : (events : List Event) (append : Append) → AreOf C R Anywhere events → IsOf C R Anywhere (Entered append) → P (failed (after_all old events) append)) where
  ends_so : (events : List Event) (own reply : Reply) (new : Cell) → AreOf C R Anywhere events → EndsBy old events own reply new → P new
  ends_so events own reply new are (inl all) = subst P (sym all.2) (events_so events are)
  ends_so events own reply new are (inr (inl (stop, fits, lacks, says, is))) = subst P (sym is) (events_so stop.done (of_front C R Anywhere stop.done (Entered stop.next ∷ stop.rest) (subst (AreOf C R Anywhere) stop.is are)))
  ends_so events own reply new are (inr (inr (stop, fits, says, is))) =
      let split = subst (AreOf C R Anywhere) stop.is are in
      subst P (sym is) (failed_so stop.done stop.next (of_front C R Anywhere stop.done (Entered stop.next ∷ stop.rest) split) (of_next C R Anywhere stop.done stop.rest (Entered stop.next) split))

  pub acts_so : ((client : ℕ) → (client_named (state_of old) client).there ≡ true → C client) → ((server volume : ℕ) → (holder_named (state_of old) server volume).there ≡ true → R server volume)
      → (said : Line) → is_acting said ≡ true → (reply : Reply) (new : Cell) → Acts old said reply new → P new
  acts_so f g said acting reply new acts =
      let m = is_met old said in
      let s = met old m.links in
      ends_so acts.events acts.own reply new (of_more (IsThere s) C (Holds s) R (Stands s) Anywhere f g (λ volume is. tt) acts.events
      (of_line s acts.own acts.events said acting (subst (λ t. Does t said acts.own acts.events) m.is acts.does))) acts.ends

-- ---- a client

module _ (old : Cell) (client : ℕ) (unmade : (old.clients client).life ≡ Unmade) where
  abbrev Off : ℕ → Type 0
  Off n = client ≢ n

  abbrev Any : ℕ → ℕ → Type 0
  Any server volume = Unit {0}

  abbrev IsSame : Cell → Type 0
  IsSame cell = cell.clients client ≡ old.clients client

  asks_off : (n : ℕ) (header : Header) → asked (old.clients n).life ≡ Some header → Off n
  asks_off n header asks same = never_asks (old.clients client).life header unmade (ap (λ k. asked (old.clients k).life) same ∙ asks)

  there_off : (n : ℕ) → (client_named (state_of old) n).there ≡ true → Off n
  there_off n there = by (asked (old.clients n).life) refl there
    where
      by : (o : Option Header) → asked (old.clients n).life ≡ o → is_some (option_map (λ (h : Header). client_of n (old.clients n).disk.history h.cache) o) ≡ true → Off n
      by None e is = cc
      by (Some header) e is = asks_off n header e

  volume_off : (cell : Cell) (o : Option Stand) (server : ℕ) (f : _) → (with_volume cell o server f).clients client ≡ cell.clients client
  volume_off cell None server f = refl
  volume_off cell (Some at) server f = refl

  event_off : (cell : Cell) (event : Event) → IsOf Off Any Anywhere event → (after cell event).clients client ≡ cell.clients client
  event_off cell (Entered (AtClient n entry)) off = put_off cell.clients n client _ off.0
  event_off cell (Entered (AtReplica server volume entry)) off = volume_off cell (stand_of cell volume) server (grown entry)
  event_off cell (VolumeMade volume server) off = refl
  event_off cell (ClientMade n blocks) off = refl
  event_off cell (Ticked seconds) off = refl
  event_off cell (LinkSet n server strength) off = refl
  event_off cell (Posted sent) off = refl
  event_off cell (Lost message) off = refl
  event_off cell (Used n fids) off = refl
  event_off cell (Kept n server fid) off = refl
  event_off cell (Stale n fids) off = refl

  events_off : (cell : Cell) (events : List Event) → AreOf Off Any Anywhere events → (after_all cell events).clients client ≡ cell.clients client
  events_off cell [] are = refl
  events_off cell (event ∷ events) are = events_off (after cell event) events are.1 ∙ event_off cell event are.0

  failed_off : (cell : Cell) (append : Append) → IsOf Off Any Anywhere (Entered append) → (failed cell append).clients client ≡ cell.clients client
  failed_off cell (AtClient n entry) off = put_off cell.clients n client _ off.0
  failed_off cell (AtReplica server volume entry) off = volume_off cell (stand_of cell volume) server (failing entry)

  acts_is : (said : Line) → is_acting said ≡ true → (reply : Reply) (new : Cell) → Acts old said reply new → IsSame new
  acts_is = acts_so old Off Any IsSame (events_off old) (λ events append are is. failed_off (after_all old events) append is ∙ events_off old events are) there_off (λ server volume is. tt)

  with_off : (n : ℕ) (actor : PlainActor ClientEntry) (new : Cell) → Off n → new ≡ with_client old n actor → IsSame new
  with_off n actor new off is = ap (λ (c : Cell). c.clients client) is ∙ put_off old.clients n client actor off

  row_off : (others : Bool) (volume : ℕ) (servers : List ℕ) (area : ℕ) (row : _) → IsSame (with_row others old volume servers area row)
  row_off true volume servers area row = refl
  row_off false volume servers area row = refl

  made_off : (others : Bool) (n area : ℕ) (actor : PlainActor ClientEntry) → Off n → IsSame (with_made others old n area actor)
  made_off true n area actor off = refl
  made_off false n area actor off = put_off old.clients n client actor off

  abbrev Is : Line → Cell → Type 0
  Is said new = IsSame new ⊎ MountsClient said client

  acted_is : (said : Line) → is_acting said ≡ true → (reply : Reply) (outside : List (List ℕ)) (new : Cell) (b : Bool) → UnlessDown b old (ActsUp old said) reply outside new → IsSame new
  acted_is said acting reply outside new true does = ap (λ (c : Cell). c.clients client) does.2
  acted_is said acting reply outside new false does = acts_is said acting reply new does.1

  client_left : (said : Line) (reply : Reply) (outside : List (List ℕ)) (new : Cell) → Becomes old said reply outside new → Is said new
  client_left said reply outside new (Stayed quiet whole is) = inl (ap (λ (c : Cell). c.clients client) is)
  client_left said reply outside new (ClientMoved n actor quiet whole moved is) = inl (with_off n actor new (asks_off n moved.header moved.asks) is)
  client_left said reply outside new (ReplicaMoved row server actor quiet whole moved is) = inl (ap (λ (c : Cell). c.clients client) is)
  client_left said reply outside new (ClientComes n blocks area says free (ending, disk, told, mounts, answered, out, is)) = elim (cases_eq client n) [
    | inl same ↦ inr (subst (λ l. MountsClient l client) (sym says) same)
    | inr off ↦ inl (ap (λ (c : Cell). c.clients client) is ∙ made_off (is_others (ending ∷ [])) n (area_of area) _ off)
  ]
  client_left said reply outside new (VolumeComes volume servers area says free (endings, row, mounts, answered, out, is)) =
      inl (ap (λ (c : Cell). c.clients client) is ∙ row_off (is_others endings) volume servers (area_of area) row)
  client_left said reply outside new (HasActed acting does) = inl (acted_is said acting reply outside new (is_down_for (needs old said)) does)

-- ---- a replica

-- a replica of a row whose disk no line mounts
row_else : (others : Bool) (header : ℕ → Header) (s : ℕ) (servers : List ℕ) (endings : List Mounting) (old new : ℕ → PlainActor ReplicaEntry) → MountsRow others header old servers endings new → (new s ≡ old s) ⊎ In s servers
row_else others header s [] endings old new m = inl (ap (λ (f : ℕ → PlainActor ReplicaEntry). f s) m.1)
row_else others header s (server ∷ servers) [] old new m = absurd m
row_else others header s (server ∷ servers) (Foreign at ∷ endings) old new m = inl (ap (λ (f : ℕ → PlainActor ReplicaEntry). f s) m.2)
row_else others header s (server ∷ servers) (Memory ∷ endings) old new m = absurd m.0
row_else others header s (server ∷ servers) (Entries count ∷ endings) old new (told, (disk, mounts, rest)) = elim (cases_eq s server) [
  | inl same ↦ inr (inl same)
  | inr off ↦ elim (row_else others header s servers endings _ new rest) [ inl same ↦ inl (same ∙ put_off old server s _ off) | inr there ↦ inr (inr there) ]
]
row_else others header s (server ∷ servers) (DiskFault ∷ endings) old new (told, (disk, mounts, rest)) = elim (cases_eq s server) [
  | inl same ↦ inr (inl same)
  | inr off ↦ elim (row_else others header s servers endings _ new rest) [ inl same ↦ inl (same ∙ put_off old server s _ off) | inr there ↦ inr (inr there) ]
]

module _ (old : Cell) (placed : ArePlaced old) (row server : ℕ) (unmade : (old.replicas row server).life ≡ Unmade) where
  abbrev AnyClient : ℕ → Type 0
  AnyClient client = Unit {0}

  -- it isn't the replica of this volume on this server
  abbrev OffPlace : ℕ → ℕ → Type 0
  OffPlace n volume = (at : Stand) → stand_of old volume ≡ Some at → row ≡ at.row → server ≡ n → ⊥

  abbrev IsSamePlace : Cell → Type 0
  IsSamePlace cell = cell.replicas row server ≡ old.replicas row server

  holds_off : (n volume : ℕ) → (holder_named (state_of old) n volume).there ≡ true → OffPlace n volume
  holds_off n volume there at stands row_is server_is =
      let replica = replica_of (λ s. (old.replicas at.row s).disk.history) volume (alone at.servers) in
      let home : alone at.servers ≡ n = sym (home_is old volume at) ∙ eqb-true replica.server n
      (ap (λ (o : Option Stand). option_map_or (λ (r : ReplicaState). r.server == n) (option_map (λ (b : Stand). replica_of (λ s. (old.replicas b.row s).disk.history) volume (alone b.servers)) o) false) (sym stands) ∙ there) in
      let made = placed.made volume at stands in
      never_asks (old.replicas row server).life made.0 unmade ((λ i. asked (old.replicas (row_is i) ((server_is ∙ sym home) i)).life) ∙ made.1)

  place_off : (cell : Cell) (r s : ℕ) (actor : PlainActor ReplicaEntry) → (row ≡ r → server ≡ s → ⊥) → (with_replica cell r s actor).replicas row server ≡ cell.replicas row server
  place_off cell r s actor off = elim ((row == r) && (server == s)) as (λ b. ((row == r) && (server == s)) ≡ b → cond b actor (cell.replicas row server) ≡ cell.replicas row server) [
    | true ↦ λ e. (let both = and_parts (row == r) (server == s) e in absurd (off (eqb-true row r both.0) (eqb-true server s both.1)))
    | false ↦ λ e. refl
  ] refl

  place_volume_off : (cell : Cell) → cell.rows ≡ old.rows → (n volume : ℕ) (f : PlainActor ReplicaEntry → PlainActor ReplicaEntry) → OffPlace n volume → (with_volume cell (stand_of cell volume) n f).replicas row server ≡ cell.replicas row server
  place_volume_off cell rows n volume f off = by (stand_of cell volume) refl
    where
      by : (o : Option Stand) → stand_of cell volume ≡ o → (with_volume cell o n f).replicas row server ≡ cell.replicas row server
      by None e = refl
      by (Some at) e = place_off cell at.row n (f (cell.replicas at.row n)) (off at (ap (λ (rs : List Row). stand_of (record old { rows = rs }) volume) (sym rows) ∙ e))

  place_event_off : (cell : Cell) → cell.rows ≡ old.rows → (event : Event) → IsOf AnyClient OffPlace Anywhere event → (after cell event).replicas row server ≡ cell.replicas row server
  place_event_off cell rows (Entered (AtClient n entry)) off = refl
  place_event_off cell rows (Entered (AtReplica n volume entry)) off = place_volume_off cell rows n volume (grown entry) off
  place_event_off cell rows (VolumeMade volume n) off = refl
  place_event_off cell rows (ClientMade n blocks) off = refl
  place_event_off cell rows (Ticked seconds) off = refl
  place_event_off cell rows (LinkSet n s strength) off = refl
  place_event_off cell rows (Posted sent) off = refl
  place_event_off cell rows (Lost message) off = refl
  place_event_off cell rows (Used n fids) off = refl
  place_event_off cell rows (Kept n s fid) off = refl
  place_event_off cell rows (Stale n fids) off = refl

  place_events_off : (cell : Cell) → cell.rows ≡ old.rows → (events : List Event) → AreOf AnyClient OffPlace Anywhere events → ((after_all cell events).replicas row server ≡ cell.replicas row server) × ((after_all cell events).rows ≡ old.rows)
  place_events_off cell rows [] are = (refl, rows)
  place_events_off cell rows (event ∷ events) are = (let rest = place_events_off (after cell event) (event_rows cell event ∙ rows) events are.1 in (rest.0 ∙ place_event_off cell rows event are.0, rest.1))

  place_failed_off : (cell : Cell) → cell.rows ≡ old.rows → (append : Append) → IsOf AnyClient OffPlace Anywhere (Entered append) → (failed cell append).replicas row server ≡ cell.replicas row server
  place_failed_off cell rows (AtClient n entry) off = refl
  place_failed_off cell rows (AtReplica n volume entry) off = place_volume_off cell rows n volume (failing entry) off

  failed_is : (events : List Event) (append : Append) → AreOf AnyClient OffPlace Anywhere events → IsOf AnyClient OffPlace Anywhere (Entered append) → IsSamePlace (failed (after_all old events) append)
  failed_is events append are is = (let all = place_events_off old refl events are in place_failed_off (after_all old events) all.1 append is ∙ all.0)

  place_acts_is : (said : Line) → is_acting said ≡ true → (reply : Reply) (new : Cell) → Acts old said reply new → IsSamePlace new
  place_acts_is = acts_so old AnyClient OffPlace IsSamePlace (λ events are. (place_events_off old refl events are).0) failed_is (λ client is. tt) holds_off

  place_made_off : (others : Bool) (n area : ℕ) (actor : PlainActor ClientEntry) → IsSamePlace (with_made others old n area actor)
  place_made_off true n area actor = refl
  place_made_off false n area actor = refl

  place_row_off : (others : Bool) (volume : ℕ) (servers : List ℕ) (area : ℕ) (actors : ℕ → PlainActor ReplicaEntry) → (row ≡ length old.rows → actors server ≡ old.replicas (length old.rows) server) → IsSamePlace (with_row others old volume servers area actors)
  place_row_off others volume servers area actors same = elim (cases_eq row (length old.rows)) [
    | inl here ↦ by others (subst (λ r. put old.replicas (length old.rows) actors r server ≡ old.replicas r server) (sym here) (ap (λ (f : ℕ → PlainActor ReplicaEntry). f server) (put_here old.replicas (length old.rows) actors) ∙ same here))
    | inr off ↦ by others (ap (λ (f : ℕ → PlainActor ReplicaEntry). f server) (put_off old.replicas (length old.rows) row actors off))
  ]
    where
      by : (o : Bool) → put old.replicas (length old.rows) actors row server ≡ old.replicas row server → IsSamePlace (with_row o old volume servers area actors)
      by true is = is
      by false is = is

  -- an actor that asks for a header isn't this
  place_asks_off : (r s : ℕ) (header : Header) → asked (old.replicas r s).life ≡ Some header → row ≡ r → server ≡ s → ⊥
  place_asks_off r s header asks row_is server_is = never_asks (old.replicas row server).life header unmade ((λ i. asked (old.replicas (row_is i) (server_is i)).life) ∙ asks)

  abbrev IsPlace : Line → Cell → Type 0
  IsPlace said new = IsSamePlace new ⊎ MountsPlace old said row server

  place_acted_is : (said : Line) → is_acting said ≡ true → (reply : Reply) (outside : List (List ℕ)) (new : Cell) (b : Bool) → UnlessDown b old (ActsUp old said) reply outside new → IsSamePlace new
  place_acted_is said acting reply outside new true does = ap (λ (c : Cell). c.replicas row server) does.2
  place_acted_is said acting reply outside new false does = place_acts_is said acting reply new does.1

  replica_left : (said : Line) (reply : Reply) (outside : List (List ℕ)) (new : Cell) → Becomes old said reply outside new → IsPlace said new
  replica_left said reply outside new (Stayed quiet whole is) = inl (ap (λ (c : Cell). c.replicas row server) is)
  replica_left said reply outside new (ClientMoved n actor quiet whole moved is) = inl (ap (λ (c : Cell). c.replicas row server) is)
  replica_left said reply outside new (ReplicaMoved r s actor quiet whole moved is) = inl (ap (λ (c : Cell). c.replicas row server) is ∙ place_off old r s actor (place_asks_off r s moved.header moved.asks))
  replica_left said reply outside new (ClientComes n blocks area says free (ending, disk, told, mounts, answered, out, is)) =
      inl (ap (λ (c : Cell). c.replicas row server) is ∙ place_made_off (is_others (ending ∷ [])) n (area_of area) _)
  replica_left said reply outside new (VolumeComes volume servers area says free (endings, actors, mounts, answered, out, is)) =
      let left = λ (same : row ≡ length old.rows → actors server ≡ old.replicas (length old.rows) server). ap (λ (c : Cell). c.replicas row server) is ∙ place_row_off (is_others endings) volume servers (area_of area) actors same in
      elim (cases_eq row (length old.rows)) [
        | inl here ↦ elim (row_else (is_others endings) (replica_header volume servers (area_of area)) server servers endings (old.replicas (length old.rows)) actors mounts) [
          | inl same ↦ inl (left (λ e. same))
          | inr there ↦ inr (subst (λ l. MountsPlace old l row server) (sym says) (here, there))
        ]
        | inr off ↦ inl (left (λ e. absurd (off e)))
      ]
  replica_left said reply outside new (HasActed acting does) = inl (place_acted_is said acting reply outside new (is_down_for (needs old said)) does)

pub who_never_came_is_as_it_was : WhoNeverCameIsAsItWas
who_never_came_is_as_it_was = record {
  clients = λ cell new said reply outside client does unmade. client_left cell client unmade said reply outside new (becomes cell reply outside new said does);
  replicas = λ cell new said reply outside row server placed does unmade. replica_left cell placed row server unmade said reply outside new (becomes cell reply outside new said does);
}
