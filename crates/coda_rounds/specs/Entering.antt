-- Which payloads of a client's steps may follow the history that it has.
use Rattle.std.specs.Prelude.{◌≡◌, ◌≢◌, ◌⊎◌, ℕ, ◌<◌, Bool, true, false, Some, None, List, [], ◌∷◌, IsSome, Result, Ok}
use Rattle.std.specs.List.{IsDistinct}
use Rattle.std.specs.FinMap as map
use Rattle.coda_fid.specs.Fid.{root_of, same_fid}
use Rattle.coda_fid.specs.declared.fid.Fid.{Fid}
use Rattle.coda_fid.specs.declared.op.Op.{Op}
use Rattle.coda_fid.specs.declared.op.Record.{Record}
use Rattle.coda_tree.specs.declared.node.Node.{Node}
use Rattle.coda_tree.specs.declared.node.NodeKind.{NodeKind}
use Rattle.coda_tree.specs.Bindings.{Name}
use Rattle.coda_tree.specs.Volume.{parent_of}
use Rattle.coda_cancel.specs.Cancel.{is_undone}
use Rattle.coda_cml.specs.Steady.{any_record, makes_in}
use Rattle.coda_walk.specs.Going.{is_listed}
use Rattle.coda_cache.specs.Laws.{IsCache}
use Rattle.coda_cache.specs.Steps.{new_node, taken_out, moved_node}
use Rattle.coda_venus.specs.Accepting.{next_fid, sight_of}
use Rattle.coda_venus.specs.Ask.{Asked, too_big}
use Rattle.coda_venus.specs.Code.{has_room, is_full}
use Rattle.coda_venus.specs.History.{MayEnterAll}
use Rattle.coda_venus.specs.State.{new_client}
use Rattle.coda_venus.specs.declared.refused.Refused.{Refused as Refusal}
use Rattle.coda_venus.specs.declared.seen.Seen.{Seen}
use Rattle.coda_venus.specs.Serving.{ServingClient, served, looked_up_for, cache_of, goes_for}
use Rattle.coda_venus.specs.Rounds.{RoundStep, Looked, Installed, Performed, dropping, entries_of_step, serving_after}
use Rattle.coda_venus.specs.Rounds.{Sources, parent_of_fetched, goes_for_fetch, accepted, Needs, Answered, ClientCall}
use Rattle.coda_venus.specs.Rounds.{Rounds, RefusalCause, operating, showing}
use Rattle.coda_rounds.specs.Laws.{IsUnserved, MentionsOnlyVolume, NeedsUnserved, RefusesItself}

-- The cache of a client is in order: each cached node was used, and nothing but a cached node has a parent.
pub record IsOrderly (s : ServingClient) : Type 0 where
  pub used : (f : Fid) → IsSome (map.get s.client.held.nodes f) → is_listed s.beside.uses f ≡ true
  pub cached : (f p : Fid) → map.get s.client.held.parents f ≡ Some p → IsSome (map.get s.client.held.nodes f)

-- Where the cache is in order, each node that goes for a fetch may be dropped as its turn comes: it is cached, no
-- record of the log mentions it, and no node that is left is cached under it.
abbrev pub WhatGoesMayBeDropped : Type 0
WhatGoesMayBeDropped = (s : ServingClient) (fid : Fid) (node : Node) (keep gone : List Fid) → IsOrderly s
    → goes_for_fetch s fid node keep ≡ Ok gone → MayEnterAll s.client (dropping gone)

-- An object that isn't cached is a volume's root, or a cached directory binds it.
abbrev pub IsPlaced : ServingClient → Fid → Type 0
IsPlaced s fid = map.get s.client.held.nodes fid ≡ None
    → (fid ≡ root_of fid.volume) ⊎ IsSome (parent_of s.client.held.nodes fid)

-- Where the cache is in order, the payload of a fetch may follow: of an object that isn't served, under its parent,
-- behind the drops of what goes for it.
abbrev pub FetchesMayBeEntered : Type 0
FetchesMayBeEntered =
    (emulating : Bool) (s : ServingClient) (fid : Fid) (node : Node) (server : ℕ) (keep gone : List Fid) → IsOrderly s
    → IsUnserved emulating s fid → IsPlaced s fid → goes_for_fetch s fid node keep ≡ Ok gone
    → MayEnterAll s.client (entries_of_step (Installed gone fid (parent_of_fetched s.client.held fid) node server))

-- ---- operations

-- An object of whose creation the log of a volume has nothing but Stores and Setattrs behind it is cached in the
-- directory where it was made.
abbrev pub StandWhereMade : ServingClient → ℕ → Type 0
StandWhereMade s volume = (dir f : Fid) → is_undone f (s.client.volumes volume).log.records ≡ true
    → any_record (makes_in dir f) (s.client.volumes volume).log.records ≡ true
    → map.get s.client.held.parents f ≡ Some dir

-- An operation on a volume looked up what it takes out and what it moves; and what it makes is of the volume, and isn't
-- cached yet.
pub record LooksUp (s : ServingClient) (volume : ℕ) (op : Op) (looked : List Fid) : Type 0 where
  pub taken : (f : Fid) → taken_out op ≡ Some f → is_listed looked f ≡ true
  pub moved : (f dir : Fid) → moved_node op ≡ Some (f, dir) → is_listed looked f ≡ true
  pub made : (dir f : Fid) → new_node op ≡ Some (dir, f) → (f.volume ≡ volume) × (map.get s.client.held.nodes f ≡ None)

-- Who goes for an operation is found in the cache behind it, and may be dropped in front of it: each node is cached and
-- clean before the operation too, and nothing is cached under it then. For what it looked up and what is above that is
-- kept: where the operation takes out or moves the last node under a directory, and where it undoes the only operation
-- that mentions a directory, that directory is above what it looked up.
abbrev pub WhatGoesForOperationsMayBeDropped : Type 0
WhatGoesForOperationsMayBeDropped =
    (s : ServingClient) (volume : ℕ) (rec : Record) (looked gone : List Fid) → IsCache (cache_of s) → IsOrderly s
    → StandWhereMade s volume → LooksUp s volume rec.op looked → goes_for s volume rec looked ≡ Ok gone
    → MayEnterAll s.client (dropping gone)

-- no cached node has the fid of the next object that the client creates in a volume
abbrev pub IsNextFree : ServingClient → ℕ → Type 0
IsNextFree s volume = map.get s.client.held.nodes (next_fid (sight_of s.client volume) volume) ≡ None

-- Where the cache is in order, the payload of an operation may follow that was accepted over what is served, and for
-- which the log and the cache have room: behind the drops of what goes for it, it is accepted over all that is left,
-- as the same operation.
abbrev pub OperationsMayBeEntered : Type 0
OperationsMayBeEntered =
    (emulating : Bool) (s : ServingClient) (time volume : ℕ) (ask : Asked) (rec : Record) (gone : List Fid)
    → IsCache (cache_of s) → IsOrderly s → StandWhereMade s volume → MentionsOnlyVolume s volume → IsNextFree s volume
    → too_big ask ≡ None → accepted emulating s time volume ask ≡ Ok rec
    → has_room (s.client.volumes volume) rec ≡ true → is_full (s.client.volumes volume) ≡ false
    → goes_for s volume rec (looked_up_for (served emulating s) volume ask) ≡ Ok gone
    → MayEnterAll s.client (entries_of_step (Performed gone volume rec))

-- ---- rounds

-- Each of the steps has a payload that may follow behind the steps before it.
abbrev pub MayEnterSteps : ServingClient → List RoundStep → Type 0
MayEnterSteps s [] = Unit {0}
MayEnterSteps s (step ∷ steps) = MayEnterAll s.client (entries_of_step step) × MayEnterSteps (serving_after s step) steps

-- The cache of a client is in order with its ways up: besides, no object was used twice, the parent of each cached
-- node is cached, and stands less deep.
pub record IsInOrder (s : ServingClient) : Type 0 where
  pub orderly : IsOrderly s
  pub once : IsDistinct same_fid s.beside.uses
  pub depth : Fid → ℕ
  pub parents : (f p : Fid) → map.get s.client.held.parents f ≡ Some p → IsSome (map.get s.client.held.nodes p)
  pub deeper : (f p : Fid) → map.get s.client.held.parents f ≡ Some p → depth p < depth f

-- A client is ready for calls on a volume: its cache is in order, what the log of the volume mentions is of that
-- volume, and stands where it was made; and the fid of its next object is free, here and at the servers.
pub record IsReady (sources : Sources) (s : ServingClient) (volume : ℕ) : Type 0 where
  pub order : IsInOrder s
  pub stand : StandWhereMade s volume
  pub within : MentionsOnlyVolume s volume
  pub free : IsNextFree s volume
  pub nowhere : (given : Node × ℕ) → sources (next_fid (sight_of s.client volume) volume) ≢ Ok given

-- a client that was just made
abbrev pub new_serving_client : ℕ → ℕ → ServingClient
new_serving_client number blocks =
    record { client = new_client number blocks; beside = record { copies = λ fid. None; uses = [] } }

-- A client that was just made is ready, where no server has the object that it creates first.
abbrev pub NewClientsAreReady : Type 0
NewClientsAreReady = (sources : Sources) (number blocks volume : ℕ)
    → ((given : Node × ℕ) → sources (record { volume = volume; vnode = number; uniq = 1 }) ≢ Ok given)
    → IsReady sources (new_serving_client number blocks) volume

-- what a call needs is a volume's root, or a cached directory binds it, where it isn't cached
abbrev pub NeedsPlaced : {A : Type 0} → ClientCall A → Type 0
NeedsPlaced {A} call = (fetched : List Fid) (s : ServingClient) (looked : List Fid) (fid : Fid)
    → call.turn fetched s ≡ record { looked = looked; comes_to = Needs fid } → IsPlaced s fid

-- what a call does as it answers may be entered behind what it looked up
abbrev pub AnswersMayBeEntered : {A : Type 0} → Sources → ℕ → ClientCall A → Type 0
AnswersMayBeEntered {A} sources volume call =
    (fetched : List Fid) (s : ServingClient) (looked : List Fid) (own : List RoundStep) (answer : A)
    → IsReady sources s volume → call.turn fetched s ≡ record { looked = looked; comes_to = Answered own answer }
    → MayEnterSteps (serving_after s (Looked looked)) own

-- At a client that is ready, each step of a call with its fetches has a payload that may follow behind the steps
-- before it.
abbrev pub RoundsMayBeEntered : Type 0
RoundsMayBeEntered =
    (sources : Sources) (emulating : Bool) (volume : ℕ) (call : ClientCall ℕ) (fetched : List Fid) (s : ServingClient)
    (steps : List RoundStep) (answer : ℕ) → NeedsUnserved emulating call → NeedsPlaced call
    → AnswersMayBeEntered sources volume call → IsReady sources s volume → Rounds sources call fetched s steps answer
    → MayEnterSteps s steps

-- So it is with each operation, and with each read and list.
pub record CallsMayBeEntered : Type 0 where
  pub operating : (sources : Sources) (emulating : Bool) (refused : RefusalCause → ℕ) (done : Record → ℕ)
      (time volume : ℕ) (ask : Asked) (s : ServingClient) (steps : List RoundStep) (answer : ℕ)
      → IsReady sources s volume
      → Rounds sources (operating emulating refused done time volume ask) [] s steps answer → MayEnterSteps s steps
  pub showing : (sources : Sources) (emulating : Bool) (refused : RefusalCause → ℕ) (show : Bool → Seen → ℕ)
      (kind : Node → NodeKind → Result Node Refusal) (volume : ℕ) (path : List Name) (s : ServingClient)
      (steps : List RoundStep) (answer : ℕ)
      → RefusesItself kind → IsReady sources s volume
      → Rounds sources (showing emulating refused show kind volume path) [] s steps answer → MayEnterSteps s steps
