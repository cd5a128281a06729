-- That a drain which is refused, or stops at an entry, has added one entry of its client at most, and behind it one of the replica.
use Rattle.std.proofs.Common.{ℕ, Bool, true, false, List, [], ◌∷◌, ◌++◌, map, Option, Some, None, Result, Ok, Err, sym, subst}
use Rattle.std.specs.Prelude.{nat_lt}
use Rattle.std.specs.Option.{unwrap_or}
use Rattle.coda_plain.specs.Cell.{Did}
use Rattle.coda_plain.specs.Decisions.{ReplicaEntry}
use Rattle.coda_plain.specs.Deeds.{Deed}
use Rattle.coda_plain.specs.Moves.{Append, AtReplica}
use Rattle.coda_replica.specs.Answers.{is_next, told}
use Rattle.coda_script.specs.declared.line.Line.{Line}
use Rattle.coda_script.specs.declared.line.Line.TheVariants as line
use Rattle.coda_script.specs.declared.line.Strength.{Strength}
use Rattle.coda_script.specs.declared.line.Strength.TheVariants.{Strong, Weak, Down}
use Rattle.coda_script.specs.declared.line.Task.TheVariants as task
use Rattle.coda_script.specs.declared.reply.Reply.{Reply}
use Rattle.coda_cell.specs.Refused.{Refused}
use Rattle.coda_cell.specs.Sending.{Freezing, freezing, Ruling, decides, ruling_of, Taking, taking, deeds_at, entries_at, answered_to, ruled_on, drained_of, drain}
use Rattle.coda_cell.specs.State.{ClientVolume, ReplicaState, CellState, Event, Entered, at_client}
use Rattle.coda_cell.specs.Steps.{Unless, first_missing, on_holder, reply_to, ByBoth, Does}
use Rattle.coda_runs.specs.Because.{IsRefused}
use Rattle.coda_runs.specs.Untouched.{GoesFirst, GoesBeforeAll, AreInTurn, TakeTurns}
use Rattle.coda_runs.proofs.Adding.{All, Led, led_done, led_all, led_one, IsShort, FrozeSo, froze_so, TookSo, took_so}

-- ---- events in turn

abbrev GoesBefore : Event → Event → Type 0
GoesBefore (Entered first) (Entered second) = GoesFirst first second
GoesBefore first second = ⊥

abbrev Pairs : List Event → Type 0
Pairs [] = Unit {0}
Pairs (event ∷ events) = All (GoesBefore event) events × Pairs events

-- the same of those behind which an entry comes
abbrev LedPairs : List Event → Type 0
LedPairs [] = Unit {0}
LedPairs (event ∷ events) = Led (GoesBefore event) events × LedPairs events

pairs_done : (done rest : List Event) (next : Append) → LedPairs (done ++ Entered next ∷ rest) → Pairs done
pairs_done [] rest next led = tt
pairs_done (event ∷ done) rest next led = (led_done (GoesBefore event) done rest next led.0, pairs_done done rest next led.1)

before_all : (append : Append) (appends : List Append) → All (GoesBefore (Entered append)) (map Entered appends) → GoesBeforeAll append appends
before_all append [] all = tt
before_all append (next ∷ appends) all = (all.0, before_all append appends all.1)

in_turn : (appends : List Append) → Pairs (map Entered appends) → AreInTurn appends
in_turn [] pairs = tt
in_turn (append ∷ appends) pairs = (before_all append appends pairs.0, in_turn appends pairs.1)

-- ---- of a drain

abbrev IsShortToo : List ReplicaEntry → Type 0
IsShortToo [] = Unit {0}
IsShortToo (entry ∷ []) = Unit {0}
IsShortToo (entry ∷ other ∷ entries) = ⊥

module _ (client volume : ℕ) where
  deeds_pair : (deeds : List Deed) → IsShort deeds → Pairs (deeds_at client volume deeds)
  deeds_pair [] short = tt
  deeds_pair (deed ∷ []) short = (tt, tt)
  deeds_pair (deed ∷ other ∷ deeds) short = absurd short

  deeds_led : (deeds : List Deed) → IsShort deeds → LedPairs (deeds_at client volume deeds)
  deeds_led [] short = tt
  deeds_led (deed ∷ []) short = (tt, tt)
  deeds_led (deed ∷ other ∷ deeds) short = absurd short

  both_pair : (server : ℕ) (deeds : List Deed) (entries : List ReplicaEntry) → IsShort deeds → IsShortToo entries → Pairs (deeds_at client volume deeds ++ entries_at server volume entries)
  both_pair server [] [] short too = tt
  both_pair server [] (entry ∷ []) short too = (tt, tt)
  both_pair server (deed ∷ []) [] short too = (tt, tt)
  both_pair server (deed ∷ []) (entry ∷ []) short too = ((tt, tt), (tt, tt))
  both_pair server (deed ∷ other ∷ deeds) entries short too = absurd short
  both_pair server deeds (entry ∷ other ∷ entries) short too = absurd too

  -- two events, and a third behind them
  one_led : (first : Event) → LedPairs (first ∷ [])
  one_led first = (tt, tt)

  two_led : (first second : Event) → LedPairs (first ∷ second ∷ [])
  two_led first second = (led_one (GoesBefore first) second [] tt, one_led second)

  three_led : (first second third : Event) → GoesBefore first second → LedPairs (first ∷ second ∷ third ∷ [])
  three_led first second third goes = (((λ enters. goes), led_one (GoesBefore first) third [] tt), two_led second third)

  behind_led : (server : ℕ) (entries : List ReplicaEntry) (more : List Deed) → IsShortToo entries → IsShort more → LedPairs (entries_at server volume entries ++ deeds_at client volume more)
  behind_led server [] more too last = deeds_led more last
  behind_led server (entry ∷ []) [] too last = (tt, tt)
  behind_led server (entry ∷ []) (deed ∷ []) too last = two_led (Entered (AtReplica server volume entry)) (at_client client (Did volume deed))
  behind_led server (entry ∷ []) (deed ∷ other ∷ more) too last = absurd last
  behind_led server (entry ∷ other ∷ entries) more too last = absurd too

  all_led : (server : ℕ) (deeds : List Deed) (entries : List ReplicaEntry) (more : List Deed) → IsShort deeds → IsShortToo entries → IsShort more
      → LedPairs (deeds_at client volume deeds ++ (entries_at server volume entries ++ deeds_at client volume more))
  all_led server [] entries more short too last = behind_led server entries more too last
  all_led server (d ∷ []) [] [] short too last = (tt, tt)
  all_led server (d ∷ []) [] (m ∷ []) short too last = two_led (at_client client (Did volume d)) (at_client client (Did volume m))
  all_led server (d ∷ []) (e ∷ []) [] short too last = two_led (at_client client (Did volume d)) (Entered (AtReplica server volume e))
  all_led server (d ∷ []) (e ∷ []) (m ∷ []) short too last = three_led (at_client client (Did volume d)) (Entered (AtReplica server volume e)) (at_client client (Did volume m)) tt
  all_led server (d ∷ []) entries (m ∷ other ∷ more) short too last = absurd last
  all_led server (d ∷ []) (e ∷ other ∷ entries) more short too last = absurd too
  all_led server (d ∷ other ∷ deeds) entries more short too last = absurd short

  abbrev Turned : Reply → List Event → Type 0
  Turned reply events = LedPairs events × (IsRefused reply → Pairs events)

  pairs_led : (events : List Event) → Pairs events → LedPairs events
  pairs_led [] pairs = tt
  pairs_led (event ∷ events) pairs = (led_all (GoesBefore event) events pairs.0, pairs_led events pairs.1)

  answered_turned : (f : Freezing) → IsShort f.deeds → (ruled : Ruling) → IsShortToo ruled.entries → (o : Result Taking Refused) → TookSo o → Turned (reply_to (answered_to client volume f ruled o).said) (answered_to client volume f ruled o).events
  answered_turned f short ruled too (Err why) took =
      let pairs = both_pair ruled.replica.server f.deeds ruled.entries short too in
      (pairs_led (deeds_at client volume f.deeds ++ entries_at ruled.replica.server volume ruled.entries) pairs, λ isnt. pairs)
  answered_turned f short ruled too (Ok taking) took = (all_led ruled.replica.server f.deeds ruled.entries taking.deeds short too took, λ isnt. absurd isnt)

  ruled_turned : (f : Freezing) → IsShort f.deeds → (r : ReplicaState) (next full : Bool)
      → Turned (reply_to (ruled_on client volume f r (ruling_of next full client f.number f.span r)).said) (ruled_on client volume f r (ruling_of next full client f.number f.span r)).events
  ruled_turned f short r true true = (deeds_led f.deeds short, λ isnt. deeds_pair f.deeds short)
  ruled_turned f short r true false = (let ruled = decides client f.number f.span r in answered_turned f short ruled tt (taking f.number ruled.answer f.volume) (took_so f.number ruled.answer f.volume))
  ruled_turned f short r false full =
      let ruled : Ruling = record { answer = told (r.lasts client) f.number; entries = []; replica = r } in
      answered_turned f short ruled tt (taking f.number ruled.answer f.volume) (took_so f.number ruled.answer f.volume)

  drained_turned : (now window server : ℕ) (v : ClientVolume) (r : ReplicaState) (o : Result Freezing Refused) → FrozeSo now window server v o → Turned (reply_to (drained_of client volume v r o).said) (drained_of client volume v r o).events
  drained_turned now window server v r (Err why) so = (tt, λ isnt. tt)
  drained_turned now window server v r (Ok f) so = ruled_turned f so.0 r (is_next (r.lasts client) f.number) (nat_lt 4294967295 f.number)

  drain_turned : (strength : Strength) (now window : ℕ) (v : ClientVolume) (r : ReplicaState) → Turned (reply_to (drain strength now window client volume v r).said) (drain strength now window client volume v r).events
  drain_turned Strong now window v r = drained_turned now window r.server v r (freezing now window r.server v) (froze_so now window r.server v)
  drain_turned Weak now window v r = drained_turned now window r.server v r (freezing now window r.server v) (froze_so now window r.server v)
  drain_turned Down now window v r = (tt, λ isnt. tt)

-- ---- of a line

abbrev pub LedFor : Line → List Event → Type 0
LedFor (line.Task (task.Drain client volume server window)) events = LedPairs events
LedFor said events = Unit {0}

abbrev pub PairsFor : Line → List Event → Type 0
PairsFor (line.Task (task.Drain client volume server window)) events = Pairs events
PairsFor said events = Unit {0}

pub for_done : (said : Line) (done rest : List Event) (next : Append) → LedFor said (done ++ Entered next ∷ rest) → PairsFor said done
for_done (line.Task (task.Drain client volume server window)) done rest next led = pairs_done done rest next led
for_done (line.Task t) done rest next led = tt
for_done _ done rest next led = tt

pub take_turns : (said : Line) (appends : List Append) → PairsFor said (map Entered appends) → TakeTurns said appends
take_turns (line.Task (task.Drain client volume server window)) appends pairs = in_turn appends pairs
take_turns (line.Task t) appends pairs = tt
take_turns _ appends pairs = tt

pub line_turned : (s : CellState) (reply : Reply) (events : List Event) (said : Line) → Does s said reply events → LedFor said events × (IsRefused reply → PairsFor said events)
line_turned s reply events (line.Task (task.Drain client volume server given)) does = by (first_missing (on_holder s client volume server)) does
  where
    by : (o : Option Refused) → Unless o (ByBoth s client volume (unwrap_or given 600)) reply events → LedPairs events × (IsRefused reply → Pairs events)
    by (Some why) isnt = subst (λ es. LedPairs es × (IsRefused reply → Pairs es)) (sym isnt.1) (tt, λ r. tt)
    by None did = subst (λ es. LedPairs es × (IsRefused reply → Pairs es)) (sym did.happened)
        (subst (λ r. (let es = (drain (s.links client did.replica.server) s.clock (unwrap_or given 600) client volume (did.client.volumes volume) did.replica).events in LedPairs es × (IsRefused r → Pairs es))) (sym did.answered)
        (drain_turned client volume (s.links client did.replica.server) s.clock (unwrap_or given 600) (did.client.volumes volume) did.replica))
line_turned s reply events (line.Task t) does = (tt, λ isnt. tt)
line_turned s reply events _ does = (tt, λ isnt. tt)
