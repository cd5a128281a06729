-- How much a call fetches, and that it comes to one answer.
use Rattle.std.specs.Prelude.{◌≡◌, ℕ, ◌≤◌, Bool, true, List, [], length, IsSome, Result}
use Rattle.std.specs.FinMap as map
use Rattle.coda_fid.specs.declared.fid.Fid.{Fid}
use Rattle.coda_fid.specs.declared.op.Record.{Record}
use Rattle.coda_tree.specs.declared.node.Node.{Node}
use Rattle.coda_tree.specs.declared.node.NodeKind.{NodeKind}
use Rattle.coda_tree.specs.Bindings.{Name}
use Rattle.coda_walk.specs.Going.{is_listed}
use Rattle.coda_venus.specs.Ask.{Asked}
use Rattle.coda_venus.specs.declared.refused.Refused.{Refused as Refusal}
use Rattle.coda_venus.specs.declared.seen.Seen.{Seen}
use Rattle.coda_venus.specs.Serving.{ServingClient}
use Rattle.coda_venus.specs.Rounds.{RefusalCause, RoundStep, Sources, ClientCall, Rounds, operating, showing}
use Rattle.coda_rounds.specs.Laws.{fetched_in, RefusesItself, AreAllDifferent}
use Rattle.coda_rounds.specs.Entering.{IsReady}

-- Objects that were fetched in a line, one after the other: none twice; each is cached, as a valid copy; and there are
-- at most as many as the cache has blocks.
pub record AreFetched (s : ServingClient) (fetched : List Fid) : Type 0 where
  pub different : AreAllDifferent fetched
  pub cached : (fid : Fid) → is_listed fetched fid ≡ true → IsSome (map.get s.client.held.nodes fid)
  pub valid : (fid : Fid) → is_listed fetched fid ≡ true → IsSome (s.beside.copies fid)
  pub few : length fetched ≤ s.client.blocks

-- a call with its fetches is some steps, and has some answer
abbrev pub HasRounds : {A : Type 0} → Sources → ClientCall A → List Fid → ServingClient → Type 0
HasRounds {A} sources call fetched s =
    (steps : List RoundStep) × (answer : A) × Rounds sources call fetched s steps answer

-- At a client that is ready each operation, read and listing comes to an answer.
pub record CallsHaveRounds : Type 0 where
  pub operating : (sources : Sources) (emulating : Bool) (refused : RefusalCause → ℕ) (done : Record → ℕ)
      (time volume : ℕ) (ask : Asked) (s : ServingClient) → IsReady sources s volume
      → HasRounds sources (operating emulating refused done time volume ask) [] s
  pub showing : (sources : Sources) (emulating : Bool) (refused : RefusalCause → ℕ) (show : Bool → Seen → ℕ)
      (kind : Node → NodeKind → Result Node Refusal) (volume : ℕ) (path : List Name) (s : ServingClient)
      → RefusesItself kind → IsReady sources s volume
      → HasRounds sources (showing emulating refused show kind volume path) [] s

-- At a client that is ready each of them fetches at most as many objects as the client's cache has blocks.
pub record CallsFetchFew : Type 0 where
  pub operating : (sources : Sources) (emulating : Bool) (refused : RefusalCause → ℕ) (done : Record → ℕ)
      (time volume : ℕ) (ask : Asked) (s : ServingClient) (steps : List RoundStep) (answer : ℕ)
      → IsReady sources s volume
      → Rounds sources (operating emulating refused done time volume ask) [] s steps answer
      → length (fetched_in steps) ≤ s.client.blocks
  pub showing : (sources : Sources) (emulating : Bool) (refused : RefusalCause → ℕ) (show : Bool → Seen → ℕ)
      (kind : Node → NodeKind → Result Node Refusal) (volume : ℕ) (path : List Name) (s : ServingClient)
      (steps : List RoundStep) (answer : ℕ) → RefusesItself kind → IsReady sources s volume
      → Rounds sources (showing emulating refused show kind volume path) [] s steps answer
      → length (fetched_in steps) ≤ s.client.blocks

-- From a client a call is one list of steps, and has one answer.
abbrev pub RoundsAreOne : Type 0
RoundsAreOne = (sources : Sources) (call : ClientCall ℕ) (fetched : List Fid) (s : ServingClient)
    (steps others : List RoundStep) (answer other : ℕ) → Rounds sources call fetched s steps answer
    → Rounds sources call fetched s others other → (steps ≡ others) × (answer ≡ other)
