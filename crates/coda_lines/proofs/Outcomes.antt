-- Each task of a client has an outcome, one alone, and fetches few objects.
use Rattle.std.proofs.Common.{◌≡◌, ℕ, ◌≤◌, Bool, true, List, [], length, Option, Some, None, is_some, option_map}
use Rattle.std.proofs.Common.{Result, refl, sym, ap, ◌∙◌, subst, arith}
use Rattle.std.specs.Option.{unwrap_or}
use Rattle.std.proofs.lemmas.Bool.{false≢true}
use Rattle.std.proofs.lemmas.Option.{same_Some}
use Rattle.coda_tree.specs.declared.node.Node.{Node}
use Rattle.coda_tree.specs.declared.node.NodeKind.{NodeKind}
use Rattle.coda_tree.specs.Bindings.{Name}
use Rattle.coda_script.specs.declared.line.Task.{Task}
use Rattle.coda_script.specs.declared.line.Task.TheVariants as task
use Rattle.coda_script.specs.declared.reply.Reply.{Reply}
use Rattle.coda_venus.specs.Ask.{Asked, Create, Mkdir, Symlink, Store, Setattr, Remove, Rmdir, Rename}
use Rattle.coda_venus.specs.Keeping.{readable, listable}
use Rattle.coda_venus.specs.Rounds.{RoundStep, Sources, ClientCall, Rounds, showing}
use Rattle.coda_venus.specs.declared.refused.Refused.{Refused as Refusal}
use Rattle.coda_venus.specs.Serving.{ServingClient}
use Rattle.coda_cell.specs.Asking.{Said, read_in, list_in}
use Rattle.coda_cell.specs.Made.{MadeCell, client_of, state_of}
use Rattle.coda_cell.specs.Refused.{Refused}
use Rattle.coda_cell.specs.Refusing.{refusal}
use Rattle.coda_cell.specs.State.{ClientState, CellState, Event}
use Rattle.coda_cell.specs.Steps.{Doing, Unless, bytes_of, first_missing, client_named, volume_named, on_volume}
use Rattle.coda_cell.proofs.Events.{are_there}
use Rattle.coda_cell.proofs.KeptCells.{client_there}
use Rattle.coda_rounds.specs.Laws.{fetched_in, NeedsUnserved, AnswersFetchNothing, RefusesItself}
use Rattle.coda_rounds.specs.Entering.{NeedsPlaced}
use Rattle.coda_rounds.specs.Bounds.{HasRounds}
use Rattle.coda_rounds.proofs.Answering.{operating_fetches_nothing, showing_fetches_nothing}
use Rattle.coda_rounds.proofs.Bounds.{rounds_from, rounds_fetch_few}
use Rattle.coda_rounds.proofs.Calls.{operating_place, showing_place}
use Rattle.coda_rounds.proofs.Fetched.{none_fetched}
use Rattle.coda_rounds.proofs.OneOutcome.{rounds_are_one}
use Rattle.coda_rounds.proofs.Unserved.{operating_unserved, showing_unserved}
use Rattle.coda_lines.specs.Clients.{serving_client, sources_of, emulates}
use Rattle.coda_lines.specs.Lines.{refused_for, done_as, shown_as, operation_on, read_on, list_on, events_of_steps}
use Rattle.coda_lines.specs.Lines.{ByRounds, Calls, ServesTask}
use Rattle.coda_lines.specs.Outcomes.{IsCall, TasksHaveOutcomes}
use Rattle.coda_lines.specs.Working.{client_in, IsWorking}
use Rattle.coda_lines.proofs.Lines.{readable_itself, listable_itself, ready}

-- ---- there is one

module _ (cell : MadeCell) (w : IsWorking cell) where
  abbrev client_serving : ℕ → ℕ → ServingClient
  client_serving number blocks = serving_client (state_of cell) number (client_in cell number blocks)

  abbrev sources : ℕ → Sources
  sources number = sources_of (state_of cell) number

  abbrev emulating : ℕ → ℕ → ClientState → Bool
  emulating number volume c = emulates (state_of cell) number c volume

  -- a call of a client comes to an answer, and fetches few objects
  record IsBounded (number : ℕ) (call : ClientState → ClientCall Reply) : Type 0 where
    some : (blocks : ℕ) → cell.sizes number ≡ Some blocks
        → HasRounds (sources number) (call (client_in cell number blocks)) [] (client_serving number blocks)
    few : (blocks : ℕ) → cell.sizes number ≡ Some blocks → (steps : List RoundStep) (reply : Reply)
        → Rounds (sources number) (call (client_in cell number blocks)) [] (client_serving number blocks) steps reply
        → length (fetched_in steps) ≤ (client_in cell number blocks).blocks

  bounded_by : (number volume : ℕ) (call : ClientState → ClientCall Reply)
      → ((c : ClientState) → NeedsUnserved (emulating number volume c) (call c))
      → ((c : ClientState) → NeedsPlaced (call c)) → ((c : ClientState) → AnswersFetchNothing (call c))
      → IsBounded number call
  bounded_by number volume call needs place answering = record {
    some = λ blocks there. (let c = client_in cell number blocks in
        let s = client_serving number blocks in
        rounds_from (sources number) (emulating number volume c) volume (call c) (needs c) (place c) [] s
        (ready cell w number blocks volume there) (none_fetched s));
    few = λ blocks there steps reply rounds. (let c = client_in cell number blocks in
        let s = client_serving number blocks in
        let few = rounds_fetch_few (sources number) (emulating number volume c) volume (call c) (needs c) (place c)
        (answering c) [] s steps reply (ready cell w number blocks volume there) (none_fetched s) rounds in
        omega (arith, few));
  }

  operations_bounded : (number volume : ℕ) (ask : Asked)
      → IsBounded number (operation_on (state_of cell) number volume ask)
  operations_bounded number volume ask =
      bounded_by number volume (operation_on (state_of cell) number volume ask)
      (λ c. operating_unserved (emulating number volume c) refused_for done_as cell.clock volume ask)
      (λ c. operating_place (emulating number volume c) refused_for done_as cell.clock volume ask)
      (λ c. operating_fetches_nothing (emulating number volume c) refused_for done_as cell.clock volume ask)

  -- a read or a listing
  shown_bounded : (number volume : ℕ) (show : Bool → NodeKind → Said)
      (kind : Node → NodeKind → Result Node Refusal) → RefusesItself kind → (path : List Name)
      → IsBounded number (λ c. showing (emulating number volume c) refused_for (shown_as show) kind volume path)
  shown_bounded number volume show kind itself path =
      bounded_by number volume
      (λ c. showing (emulating number volume c) refused_for (shown_as show) kind volume path)
      (λ c. showing_unserved (emulating number volume c) refused_for (shown_as show) kind volume path itself)
      (λ c. showing_place (emulating number volume c) refused_for (shown_as show) kind volume path itself)
      (λ c. showing_fetches_nothing (emulating number volume c) refused_for (shown_as show) kind volume path)

  reads_bounded : (number volume : ℕ) (path : List Name)
      → IsBounded number (read_on (state_of cell) number volume path)
  reads_bounded number volume path = shown_bounded number volume read_in readable readable_itself path

  lists_bounded : (number volume : ℕ) (path : List Name)
      → IsBounded number (list_on (state_of cell) number volume path)
  lists_bounded number volume path = shown_bounded number volume list_in listable listable_itself path

  -- a client that is there was made
  was_made : (number : ℕ) → is_some ((state_of cell).clients number) ≡ true
      → (blocks : ℕ) × (cell.sizes number ≡ Some blocks)
  was_made number there = by (cell.sizes number) refl there
    where
      by : (o : Option ℕ) → cell.sizes number ≡ o
          → is_some (option_map (client_of number (cell.acted.clients number).history) o) ≡ true
          → (blocks : ℕ) × (cell.sizes number ≡ Some blocks)
      by None e there = absurd (false≢true there)
      by (Some blocks) e there = (blocks, e)

  -- so a line that makes the call has an outcome
  abbrev HasOutcome : Doing → Type 0
  HasOutcome does = (reply : Reply) × (events : List Event) × does reply events

  call_has : (number volume : ℕ) (call : ClientState → ClientCall Reply) → IsBounded number call
      → HasOutcome (Calls (state_of cell) number volume call)
  call_has number volume call bounded = by (first_missing (on_volume (state_of cell) number volume)) refl
    where
      by : (o : Option Refused) → first_missing (on_volume (state_of cell) number volume) ≡ o
          → HasOutcome (Unless o (ByRounds (state_of cell) number call))
      by (Some why) e = (refusal why, [], (refl, refl))
      by None e =
          let there = are_there (client_named (state_of cell) number) (volume_named (state_of cell) volume) e in
          let made = was_made number there.0 in
          let has = bounded.some made.0 made.1 in (
            has.1,
            events_of_steps number has.0,
            record {
              client = client_in cell number made.0;
              there = ap (option_map (client_of number (cell.acted.clients number).history)) made.1;
              steps = has.0;
              rounds = has.2;
              happened = refl;
            },
          )

  asked_has : (number volume : ℕ) (ask : Asked)
      → HasOutcome (Calls (state_of cell) number volume (operation_on (state_of cell) number volume ask))
  asked_has number volume ask =
      call_has number volume (operation_on (state_of cell) number volume ask) (operations_bounded number volume ask)

  task_has : (t : Task) → IsCall t → HasOutcome (ServesTask (state_of cell) t)
  task_has (task.Create client volume path mode owner) is =
      asked_has client volume (Create path (unwrap_or mode 420) (unwrap_or owner 0))
  task_has (task.Mkdir client volume path mode owner) is =
      asked_has client volume (Mkdir path (unwrap_or mode 493) (unwrap_or owner 0))
  task_has (task.Symlink client volume path target) is = asked_has client volume (Symlink path target)
  task_has (task.Store client volume path content) is = asked_has client volume (Store path (bytes_of content))
  task_has (task.Setattr client volume path attrs) is = asked_has client volume (Setattr path attrs)
  task_has (task.Remove client volume path) is = asked_has client volume (Remove path)
  task_has (task.Rmdir client volume path) is = asked_has client volume (Rmdir path)
  task_has (task.Rename client volume from to) is = asked_has client volume (Rename from to)
  task_has (task.Read client volume path) is =
      call_has client volume (read_on (state_of cell) client volume path) (reads_bounded client volume path)
  task_has (task.List client volume path) is =
      call_has client volume (list_on (state_of cell) client volume path) (lists_bounded client volume path)
  task_has (task.Drain client volume server window) is = absurd is
  task_has (task.Hardlink client volume from to) is = absurd is
  task_has (task.Refresh client volume server) is = absurd is
  task_has (task.Giveup client volume) is = absurd is

  -- and fetches few
  few_by : (number : ℕ) (call : ClientState → ClientCall Reply) (reply : Reply) (events : List Event)
      → IsBounded number call → (did : ByRounds (state_of cell) number call reply events)
      → length (fetched_in did.steps) ≤ did.client.blocks
  few_by number call reply events bounded did =
      let c = client_there cell w.kept number did.client did.there in
      subst (λ (x : ClientState). length (fetched_in did.steps) ≤ x.blocks) c.2
      (bounded.few c.0 c.1 did.steps reply
      (subst (λ (x : ClientState). Rounds (sources number) (call x) [] (serving_client (state_of cell) number x)
      did.steps reply) (sym c.2) did.rounds))

-- ---- there are not two

module _ (s : CellState) where
  -- what is done has one outcome
  abbrev IsOne : Doing → Type 0
  IsOne does = (reply other : Reply) (events others : List Event) → does reply events → does other others
      → (reply ≡ other) × (events ≡ others)

  rounds_one : (number : ℕ) (call : ClientState → ClientCall Reply) → IsOne (ByRounds s number call)
  rounds_one number call reply other events others first second =
      let same : first.client ≡ second.client = same_Some first.client second.client (sym first.there ∙ second.there) in
      let rounds = subst (λ (c : ClientState). Rounds (sources_of s number) (call c) [] (serving_client s number c)
      first.steps reply) same first.rounds in
      let one = rounds_are_one (sources_of s number) (call second.client) [] (serving_client s number second.client)
      first.steps second.steps reply other rounds second.rounds in
      (one.1, first.happened ∙ ap (events_of_steps number) one.0 ∙ sym second.happened)

  unless_one : (o : Option Refused) (own : Doing) → IsOne own → IsOne (Unless o own)
  unless_one (Some why) own one reply other events others first second =
      (first.0 ∙ sym second.0, first.1 ∙ sym second.1)
  unless_one None own one reply other events others first second = one reply other events others first second

  call_one : (number volume : ℕ) (call : ClientState → ClientCall Reply) → IsOne (Calls s number volume call)
  call_one number volume call =
      unless_one (first_missing (on_volume s number volume)) (ByRounds s number call) (rounds_one number call)

  task_one : (t : Task) → IsCall t → IsOne (ServesTask s t)
  task_one (task.Create client volume path mode owner) is = call_one client volume _
  task_one (task.Mkdir client volume path mode owner) is = call_one client volume _
  task_one (task.Symlink client volume path target) is = call_one client volume _
  task_one (task.Store client volume path content) is = call_one client volume _
  task_one (task.Setattr client volume path attrs) is = call_one client volume _
  task_one (task.Remove client volume path) is = call_one client volume _
  task_one (task.Rmdir client volume path) is = call_one client volume _
  task_one (task.Rename client volume from to) is = call_one client volume _
  task_one (task.Read client volume path) is = call_one client volume (read_on s client volume path)
  task_one (task.List client volume path) is = call_one client volume (list_on s client volume path)
  task_one (task.Drain client volume server window) is = absurd is
  task_one (task.Hardlink client volume from to) is = absurd is
  task_one (task.Refresh client volume server) is = absurd is
  task_one (task.Giveup client volume) is = absurd is

-- ---- the law

pub tasks_have_outcomes : TasksHaveOutcomes
tasks_have_outcomes = record {
  some = λ cell t w is. task_has cell w t is;
  one = λ s t reply other events others is first second. task_one s t is reply other events others first second;
  operated = λ cell number volume ask reply events w did.
      few_by cell w number (operation_on (state_of cell) number volume ask) reply events
      (operations_bounded cell w number volume ask) did;
  read = λ cell number volume path reply events w did.
      few_by cell w number (read_on (state_of cell) number volume path) reply events
      (reads_bounded cell w number volume path) did;
  listed = λ cell number volume path reply events w did.
      few_by cell w number (list_on (state_of cell) number volume path) reply events
      (lists_bounded cell w number volume path) did;
}
