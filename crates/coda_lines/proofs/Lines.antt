-- Each line keeps a cell working whose clients serve what they may and fetch in rounds.
use Rattle.std.proofs.Common.{◌≡◌, ℕ, false, List, [], ◌∷◌, ◌++◌, Option, Some, None, is_some, option_map, Err, refl, sym, ap, ◌∙◌, subst}
use Rattle.std.specs.Option.{unwrap_or}
use Rattle.coda_tree.specs.declared.node.Node.{Node}
use Rattle.coda_tree.specs.declared.node.NodeKind.{NodeKind}
use Rattle.coda_tree.specs.declared.node.NodeKind.TheVariants.{File, Link, Dir}
use Rattle.coda_tree.specs.Bindings.{Name}
use Rattle.coda_script.specs.declared.line.Line.{Line}
use Rattle.coda_script.specs.declared.line.Line.TheVariants as line
use Rattle.coda_script.specs.declared.line.Task.{Task}
use Rattle.coda_script.specs.declared.line.Task.TheVariants as task
use Rattle.coda_script.specs.declared.reply.Reply.{Reply}
use Rattle.coda_script.specs.declared.reply.Reply.TheVariants.{Opened}
use Rattle.coda_venus.specs.Ask.{Asked, Create, Mkdir, Symlink, Store, Setattr, Remove, Rmdir, Rename}
use Rattle.coda_venus.specs.Keeping.{readable, listable}
use Rattle.coda_venus.specs.Rounds.{RoundStep, ClientCall, Rounds}
use Rattle.coda_venus.specs.declared.refused.Refused.TheVariants.{Need}
use Rattle.coda_cell.specs.Asking.{read_in, list_in}
use Rattle.coda_cell.specs.Made.{MadeCell, nothing_made, client_of, state_of, grown_all}
use Rattle.coda_cell.specs.Refused.{Refused}
use Rattle.coda_cell.specs.Runs.{MakesNumbered}
use Rattle.coda_cell.specs.State.{ClientState, Event, ClientMade}
use Rattle.coda_cell.specs.Steps.{Doing, Unless, Happens, bytes_of, first_missing, on_volume, no_room, no_client, Does}
use Rattle.coda_cell.proofs.KeptCells.{client_there, first_kept}
use Rattle.coda_cell.proofs.KeptLines.{line_left}
use Rattle.coda_cell.proofs.Moving.{AreLeft}
use Rattle.coda_creations.proofs.OneKind.{lines_keep}
use Rattle.coda_rounds.specs.Laws.{RefusesItself}
use Rattle.coda_rounds.specs.Entering.{MayEnterSteps, IsReady}
use Rattle.coda_rounds.specs.Orders.{serving_after_all}
use Rattle.coda_rounds.proofs.Readiness.{clients_stay_ready}
use Rattle.coda_lines.specs.Clients.{serving_client, sources_of, emulates}
use Rattle.coda_lines.specs.Lines.{refused_for, done_as, shown_as, operation_on, read_on, list_on, events_of_steps, ByRounds, Calls, with_stale, Staling, ServesTask, Serves}
use Rattle.coda_lines.specs.Working.{client_in, IsWorking, ServedLinesLead, LinesKeepCellsWorking, IsCacheInOrder, ReachedCachesAreInOrder, CallsLeaveWhatStepsLeave}
use Rattle.coda_lines.proofs.Besides.{WorksOn, works_behind, works_fronts, works_stopped, works_fair}
use Rattle.coda_lines.proofs.Calls.{steps_work, steps_leave}
use Rattle.coda_lines.proofs.Others.{made_working, GoesOn, goes_on_works}
use Rattle.coda_lines.proofs.OtherLines.{silent_goes, delivers_goes, loses_goes, drains_go, sends_go, one_goes, says_goes, states_go}
use Rattle.coda_lines.proofs.Parts.{working_by}
use Rattle.coda_lines.proofs.Steps.{AreGiven, operating_steps, showing_steps}

-- ---- calls

-- where a refusal to show an object isn't that another is needed
pub readable_itself : RefusesItself readable
readable_itself node fid e = by node node.kind e
  where
    by : (node : Node) (kind : NodeKind) → readable node kind ≡ Err (Need fid) → ⊥
    by node (File content) e = cc
    by node (Link target) e = cc
    by node (Dir entries) e = cc

pub listable_itself : RefusesItself listable
listable_itself node fid e = by node node.kind e
  where
    by : (node : Node) (kind : NodeKind) → listable node kind ≡ Err (Need fid) → ⊥
    by node (File content) e = cc
    by node (Link target) e = cc
    by node (Dir entries) e = cc

-- a client that is there is what its history leaves
same_client : (cell : MadeCell) (number blocks : ℕ) (c : ClientState) → cell.sizes number ≡ Some blocks
    → (state_of cell).clients number ≡ Some c → client_in cell number blocks ≡ c
same_client cell number blocks c there is =
    (let e : Some (client_in cell number blocks) ≡ Some c = sym (ap (option_map (client_of number (cell.acted.clients number).history)) there) ∙ is in
    cc)

module _ (cell : MadeCell) (w : IsWorking cell) where
  -- the steps of a client's call may be entered, and fetch what servers give
  abbrev MayDoSteps : ℕ → (ClientState → ClientCall Reply) → Type 0
  MayDoSteps number call = (blocks : ℕ) → cell.sizes number ≡ Some blocks → (steps : List RoundStep) (reply : Reply)
      → Rounds (sources_of (state_of cell) number) (call (client_in cell number blocks)) []
      (serving_client (state_of cell) number (client_in cell number blocks)) steps reply
      → AreGiven (sources_of (state_of cell) number) (serving_client (state_of cell) number (client_in cell number blocks)) steps
      × MayEnterSteps (serving_client (state_of cell) number (client_in cell number blocks)) steps

  pub ready : (number blocks volume : ℕ) → cell.sizes number ≡ Some blocks
      → IsReady (sources_of (state_of cell) number) (serving_client (state_of cell) number (client_in cell number blocks)) volume
  ready number blocks volume there = clients_stay_ready.ready _ _ volume (w.at_work number blocks there)

  operation_steps : (number volume : ℕ) (ask : Asked) → MayDoSteps number (operation_on (state_of cell) number volume ask)
  operation_steps number volume ask blocks there steps reply rounds =
      operating_steps Reply (sources_of (state_of cell) number)
      (emulates (state_of cell) number (client_in cell number blocks) volume) refused_for done_as cell.clock volume ask
      (serving_client (state_of cell) number (client_in cell number blocks)) steps reply (ready number blocks volume there) rounds

  read_steps : (number volume : ℕ) (path : List Name) → MayDoSteps number (read_on (state_of cell) number volume path)
  read_steps number volume path blocks there steps reply rounds =
      showing_steps Reply (sources_of (state_of cell) number)
      (emulates (state_of cell) number (client_in cell number blocks) volume) refused_for (shown_as read_in) readable volume path
      (serving_client (state_of cell) number (client_in cell number blocks)) steps reply readable_itself
      (ready number blocks volume there) rounds

  list_steps : (number volume : ℕ) (path : List Name) → MayDoSteps number (list_on (state_of cell) number volume path)
  list_steps number volume path blocks there steps reply rounds =
      showing_steps Reply (sources_of (state_of cell) number)
      (emulates (state_of cell) number (client_in cell number blocks) volume) refused_for (shown_as list_in) listable volume path
      (serving_client (state_of cell) number (client_in cell number blocks)) steps reply listable_itself
      (ready number blocks volume there) rounds

  -- what a call is at the client that its history leaves
  record IsMadeBy (number : ℕ) (client : ClientState) (steps : List RoundStep) : Type 0 where
    blocks : ℕ
    there : cell.sizes number ≡ Some blocks
    is : client_in cell number blocks ≡ client
    given : AreGiven (sources_of (state_of cell) number) (serving_client (state_of cell) number (client_in cell number blocks)) steps
    may : MayEnterSteps (serving_client (state_of cell) number (client_in cell number blocks)) steps

  made_by : (number : ℕ) (call : ClientState → ClientCall Reply) (reply : Reply) (events : List Event)
      → MayDoSteps number call → (did : ByRounds (state_of cell) number call reply events)
      → IsMadeBy number did.client did.steps
  made_by number call reply events may did =
      let c = client_there cell w.kept number did.client did.there in
      let both = may c.0 c.1 did.steps reply
      (subst (λ (x : ClientState). Rounds (sources_of (state_of cell) number) (call x) []
      (serving_client (state_of cell) number x) did.steps reply) (sym c.2) did.rounds) in
      record { blocks = c.0; there = c.1; is = c.2; given = both.0; may = both.1 }

  rounds_work : (number : ℕ) (call : ClientState → ClientCall Reply) (reply : Reply) (events : List Event)
      → MayDoSteps number call → ByRounds (state_of cell) number call reply events → WorksOn cell events
  rounds_work number call reply events may did =
      let m = made_by number call reply events may did in
      subst (WorksOn cell) (sym did.happened) (steps_work cell w number m.blocks m.there did.steps m.may m.given)

  -- the client is left as the steps leave it
  rounds_leave : (number : ℕ) (call : ClientState → ClientCall Reply) (reply : Reply) (events : List Event)
      (c : ClientState) → MayDoSteps number call → (did : ByRounds (state_of cell) number call reply events)
      → (state_of (grown_all cell events)).clients number ≡ Some c
      → serving_client (state_of (grown_all cell events)) number c
      ≡ serving_after_all (serving_client (state_of cell) number did.client) did.steps
  rounds_leave number call reply events c may did there =
      let m = made_by number call reply events may did in
      let left = steps_leave cell w number m.blocks m.there did.steps m.may m.given in
      let new = grown_all cell (events_of_steps number did.steps) in
      let client : client_in new number m.blocks ≡ c = same_client new number m.blocks c left.1
      (ap (λ l. (state_of (grown_all cell l)).clients number) (sym did.happened) ∙ there) in
      ap (λ l. serving_client (state_of (grown_all cell l)) number c) did.happened
      ∙ ap (serving_client (state_of new) number) (sym client) ∙ left.0
      ∙ ap (λ (x : ClientState). serving_after_all (serving_client (state_of cell) number x) did.steps) m.is

  -- a refusal does nothing
  unless_works : (o : Option Refused) (own : Doing) (reply : Reply) (events : List Event)
      → (own reply events → WorksOn cell events) → Unless o own reply events → WorksOn cell events
  unless_works (Some why) own reply events rest does = subst (WorksOn cell) (sym does.1) w
  unless_works None own reply events rest does = rest does

  calls_work : (number volume : ℕ) (call : ClientState → ClientCall Reply) (reply : Reply) (events : List Event)
      → MayDoSteps number call → Calls (state_of cell) number volume call reply events → WorksOn cell events
  calls_work number volume call reply events may does =
      unless_works (first_missing (on_volume (state_of cell) number volume)) (ByRounds (state_of cell) number call) reply
      events (λ did. rounds_work number call reply events may did) does

  asked_works : (number volume : ℕ) (ask : Asked) (reply : Reply) (events : List Event)
      → Calls (state_of cell) number volume (operation_on (state_of cell) number volume ask) reply events → WorksOn cell events
  asked_works number volume ask reply events does =
      calls_work number volume (operation_on (state_of cell) number volume ask) reply events (operation_steps number volume ask) does

  -- ---- lines

  -- a line that goes on by itself
  staling_works : (said : Line) (reply : Reply) (events : List Event) → MakesNumbered said
      → Staling (state_of cell) (Does (state_of cell) said) reply events
      → ((plain : List Event) → Does (state_of cell) said reply plain → GoesOn cell plain) → WorksOn cell events
  staling_works said reply events numbered does goes =
      subst (WorksOn cell) (sym does.2)
      (goes_on_works cell w does.0 (goes does.0 does.1) (line_left cell w.kept said reply does.0 numbered does.1))

  task_works : (t : Task) (reply : Reply) (events : List Event) → ServesTask (state_of cell) t reply events → WorksOn cell events
  task_works (task.Create client volume path mode owner) reply events does =
      asked_works client volume (Create path (unwrap_or mode 420) (unwrap_or owner 0)) reply events does
  task_works (task.Mkdir client volume path mode owner) reply events does =
      asked_works client volume (Mkdir path (unwrap_or mode 493) (unwrap_or owner 0)) reply events does
  task_works (task.Symlink client volume path target) reply events does =
      asked_works client volume (Symlink path target) reply events does
  task_works (task.Store client volume path content) reply events does =
      asked_works client volume (Store path (bytes_of content)) reply events does
  task_works (task.Setattr client volume path attrs) reply events does =
      asked_works client volume (Setattr path attrs) reply events does
  task_works (task.Remove client volume path) reply events does = asked_works client volume (Remove path) reply events does
  task_works (task.Rmdir client volume path) reply events does = asked_works client volume (Rmdir path) reply events does
  task_works (task.Rename client volume from to) reply events does =
      asked_works client volume (Rename from to) reply events does
  task_works (task.Read client volume path) reply events does =
      calls_work client volume (read_on (state_of cell) client volume path) reply events (read_steps client volume path) does
  task_works (task.List client volume path) reply events does =
      calls_work client volume (list_on (state_of cell) client volume path) reply events (list_steps client volume path) does
  task_works (task.Drain client volume server window) reply events does =
      staling_works (line.Task (task.Drain client volume server window)) reply events tt does
      (λ plain own. drains_go cell w.kept _ client volume (unwrap_or window 600) reply plain own)
  task_works (task.Hardlink client volume from to) reply events does = absurd does.1
  task_works (task.Refresh client volume server) reply events does = absurd does.1
  task_works (task.Giveup client volume) reply events does = absurd does.1

  -- a client that may be made isn't there
  no_size : (client : ℕ) → no_client (state_of cell) client ≡ None → cell.sizes client ≡ None
  no_size client free = by (cell.sizes client) free
    where
      by : (o : Option ℕ) → no_room (is_some (option_map (client_of client (cell.acted.clients client).history) o)) false ≡ None → o ≡ None
      by None e = refl
      by (Some blocks) e = cc

  -- a client is made
  client_works : (client blocks : ℕ) (reply : Reply) (plain : List Event) → no_client (state_of cell) client ≡ None
      → plain ≡ ClientMade client blocks ∷ [] → AreLeft cell plain → WorksOn cell (with_stale (state_of cell) plain)
  client_works client blocks reply plain free is left =
      subst (λ events. WorksOn cell (with_stale (state_of cell) events)) (sym is)
      (let one = (subst (AreLeft cell) is left).0 in
      let works = made_working cell w client blocks (no_size client free) one in
      (one, (λ stop. works), tt, works))

  line_works : (said : Line) (reply : Reply) (events : List Event) → MakesNumbered said
      → Serves (state_of cell) said reply events → WorksOn cell events
  line_works (line.Task t) reply events numbered does = task_works t reply events does
  line_works (line.Volume volume servers area) reply events numbered does =
      staling_works (line.Volume volume servers area) reply events numbered does
      (λ plain own. one_goes cell w.kept _ _ _ reply plain (tt, tt) own)
  line_works (line.Client client blocks area) reply events numbered does =
      subst (WorksOn cell) (sym does.2)
      (by (no_client (state_of cell) client) refl does.1
      (line_left cell w.kept (line.Client client blocks area) reply does.0 numbered does.1))
    where
      by : (o : Option Refused) → no_client (state_of cell) client ≡ o
          → Unless o (Happens (Opened (0 ∷ [])) (ClientMade client blocks)) reply does.0 → AreLeft cell does.0
          → WorksOn cell (with_stale (state_of cell) does.0)
      by (Some why) e own left = subst (λ l. WorksOn cell (with_stale (state_of cell) l)) (sym own.1) w
      by None e own left = client_works client blocks reply does.0 e own.1 left
  line_works (line.Link client server strength) reply events numbered does =
      staling_works (line.Link client server strength) reply events numbered does
      (λ plain own. one_goes cell w.kept _ _ _ reply plain (tt, tt) own)
  line_works (line.Tick seconds) reply events numbered does =
      staling_works (line.Tick seconds) reply events numbered does
      (λ plain own. silent_goes cell w.kept plain _ own.1 (tt, tt))
  line_works (line.ShowVolume server volume) reply events numbered does =
      staling_works (line.ShowVolume server volume) reply events numbered does
      (λ plain own. says_goes cell w.kept _ _ reply plain own)
  line_works (line.ShowLog client volume) reply events numbered does =
      staling_works (line.ShowLog client volume) reply events numbered does
      (λ plain own. says_goes cell w.kept _ _ reply plain own)
  line_works (line.ShowState client volume) reply events numbered does =
      staling_works (line.ShowState client volume) reply events numbered does
      (λ plain own. states_go cell w.kept _ client volume reply plain own)
  line_works (line.Send client volume server window) reply events numbered does =
      staling_works (line.Send client volume server window) reply events numbered does
      (λ plain own. sends_go cell w.kept _ client volume server (unwrap_or window 600) reply plain own)
  line_works (line.Deliver message) reply events numbered does =
      staling_works (line.Deliver message) reply events numbered does
      (λ plain own. delivers_goes cell w.kept message _ reply plain own)
  line_works (line.Lose message) reply events numbered does =
      staling_works (line.Lose message) reply events numbered does
      (λ plain own. loses_goes cell w.kept message _ reply plain own)
  line_works _ reply events numbered does = absurd does.1

-- ---- cells

first_working : IsWorking nothing_made
first_working =
    working_by nothing_made first_kept (lines_keep.reached [] nothing_made refl).1
    (λ client none. record { copies = λ f. refl; uses = refl }) (λ number blocks there. cc)

led : (lines : List Line) (old new : MadeCell) → IsWorking old → ServedLinesLead old lines new → IsWorking new
led [] old new w lead = subst IsWorking (sym lead) w
led (said ∷ lines) old new w lead =
    led lines (grown_all old lead.1) new (works_behind old lead.1 (line_works old w said lead.0 lead.1 lead.2 lead.3)) lead.4

pub lines_keep_cells_working : LinesKeepCellsWorking
lines_keep_cells_working = record {
  first = first_working;
  fronts = λ old said reply done rest w numbered does.
      works_fronts old done rest w (line_works old w said reply (done ++ rest) numbered does);
  stopped = λ old said reply done rest w numbered does stop.
      works_stopped old done rest w (line_works old w said reply (done ++ rest) numbered does) stop;
  reached = λ lines cell lead. led lines nothing_made cell first_working lead;
  fair = λ old said reply done event rest w numbered does.
      works_fair old done event rest (line_works old w said reply (done ++ event ∷ rest) numbered does);
}

in_order : (cell : MadeCell) (w : IsWorking cell) (number blocks : ℕ) → cell.sizes number ≡ Some blocks
    → IsCacheInOrder (state_of cell) number (client_in cell number blocks)
in_order cell w number blocks there =
    let h = w.kept.holding number blocks there in
    let work = w.at_work number blocks there in record {
      forest = h.forest;
      under = h.under;
      used = λ f has_it. work.order.0.orderly.used f has_it;
      placed = work.placed;
    }

pub reached_caches_are_in_order : ReachedCachesAreInOrder
reached_caches_are_in_order lines cell number c lead is =
    let w = led lines nothing_made cell first_working lead in
    let there = client_there cell w.kept number c is in
    subst (IsCacheInOrder (state_of cell) number) there.2 (in_order cell w number there.0 there.1)

pub calls_leave_what_steps_leave : CallsLeaveWhatStepsLeave
calls_leave_what_steps_leave = record {
  operated = λ old number volume ask reply events c w did there.
      rounds_leave old w number (operation_on (state_of old) number volume ask) reply events c
      (operation_steps old w number volume ask) did there;
  read = λ old number volume path reply events c w did there.
      rounds_leave old w number (read_on (state_of old) number volume path) reply events c
      (read_steps old w number volume path) did there;
  listed = λ old number volume path reply events c w did there.
      rounds_leave old w number (list_on (state_of old) number volume path) reply events c
      (list_steps old w number volume path) did there;
}
