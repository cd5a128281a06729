-- The rounds of a call that fetches: it is made, and where it needs an object that may not be served this is fetched,
-- and it is made again.
use Rattle.std.specs.Prelude.{◌≡◌, ℕ, Bool, true, false, if◌then◌else◌, List, [], ◌∷◌, ◌++◌, length, Option, Some}
use Rattle.std.specs.Prelude.{None, Result, Ok, Err}
use Rattle.std.specs.Prelude as prelude
use Rattle.std.specs.FinMap as map
use Rattle.coda_fid.specs.Fid.{root_of, same_fid}
use Rattle.coda_fid.specs.declared.fid.Fid.{Fid}
use Rattle.coda_fid.specs.declared.op.Record.{Record}
use Rattle.coda_tree.specs.declared.node.Node.{Node}
use Rattle.coda_tree.specs.declared.node.NodeKind.{NodeKind}
use Rattle.coda_tree.specs.Bindings.{Name}
use Rattle.coda_tree.specs.Blocks.{blocks_of}
use Rattle.coda_tree.specs.Volume.{parent_of}
use Rattle.coda_walk.specs.Going.{is_listed}
use Rattle.coda_cache.specs.declared.fault.CacheFault.{CacheFault}
use Rattle.coda_cache.specs.declared.fault.CacheFault.TheVariants.{CacheFull as Full, Memory}
use Rattle.coda_cache.specs.Room.{evicted_for}
use Rattle.coda_cache.specs.Steps.{new_node}
use Rattle.coda_cache.specs.Uses.{latest}
use Rattle.coda_record.specs.declared.entry.ClientEntry.{ClientEntry}
use Rattle.coda_record.specs.declared.entry.ClientEntry.TheVariants as entry
use Rattle.coda_venus.specs.Accepting.{Accepted, sight_of, accept}
use Rattle.coda_venus.specs.Ask.{Asked, too_big}
use Rattle.coda_venus.specs.Code.{has_room, is_full}
use Rattle.coda_venus.specs.Held.{Held}
use Rattle.coda_venus.specs.Keeping.{record_of, seen_at}
use Rattle.coda_venus.specs.State.{ClientVolume, client_after_all}
use Rattle.coda_venus.specs.declared.refused.Refused.{Refused as Refusal}
use Rattle.coda_venus.specs.declared.refused.Refused.TheVariants.{Need, TooBig, LogFull, JournalFull}
use Rattle.coda_venus.specs.declared.seen.Seen.{Seen}
use Rattle.coda_venus.specs.Serving.{Beside, ServingClient, served, serving, used_all, used_new, using, cache_of, looked_up}
use Rattle.coda_venus.specs.Serving.{looked_up_for, goes_for}

-- ---- why a call isn't carried out

-- why a call isn't carried out: as the client refuses it, or for want of room in its cache
pub data RefusalCause : Type 0 where
  Because : (refusal : Refusal) → RefusalCause
  NoRoom : (pinned needed size : ℕ) → RefusalCause

-- ---- what a call does

-- what a call does, step by step
pub data RoundStep : Type 0 where
  -- it looked these up, in this order
  Looked : (fids : List Fid) → RoundStep
  -- a server gave an object; these went for it, and it is kept, as a valid copy from there
  Installed : (gone : List Fid) (fid : Fid) (parent : Option Fid) (node : Node) (server : ℕ) → RoundStep
  -- a server gave an object, and there was no room
  Turned : (fid : Fid) (server : ℕ) → RoundStep
  -- these went for an operation, which was performed
  Performed : (gone : List Fid) (volume : ℕ) (rec : Record) → RoundStep

-- the entries of a payload for nodes that go
abbrev pub dropping : List Fid → List ClientEntry
dropping gone = prelude.map (λ fid. entry.Dropped fid) gone

-- the payload of a step in the client's journal, where it has one
abbrev pub entries_of_step : RoundStep → List ClientEntry
entries_of_step (Looked fids) = []
entries_of_step (Installed gone fid parent node server) = dropping gone ++ entry.Fetched fid parent node ∷ []
entries_of_step (Turned fid server) = []
entries_of_step (Performed gone volume rec) = dropping gone ++ entry.Op volume rec ∷ []

-- the valid copies, without those of what went
abbrev pub copies_without : (Fid → Option ℕ) → List Fid → Fid → Option ℕ
copies_without copies gone fid = if is_listed gone fid then None else copies fid

-- the valid copies, with one more
abbrev pub copies_with : (Fid → Option ℕ) → Fid → ℕ → Fid → Option ℕ
copies_with copies at server fid = if same_fid fid at then Some server else copies fid

-- what is beside a client after a step; an operation leaves the copies of what stays as they are, and uses what it makes
abbrev pub beside_after : Beside → RoundStep → Beside
beside_after b (Looked fids) = record b { uses = used_all b.uses fids }
beside_after b (Installed gone fid parent node server) =
    record { copies = copies_with (copies_without b.copies gone) fid server; uses = latest b.uses fid }
beside_after b (Turned fid server) = b
beside_after b (Performed gone volume rec) =
    record { copies = copies_without b.copies gone; uses = used_new b.uses (new_node rec.op) }

-- a client that serves, after a step
abbrev pub serving_after : ServingClient → RoundStep → ServingClient
serving_after s step =
    record { client = client_after_all s.client (entries_of_step step); beside = beside_after s.beside step }

-- ---- fetches

-- where an object can be fetched: its node and the server that gives it, or why not
abbrev pub Sources : Type 0
Sources = Fid → Result (Node × ℕ) Refusal

-- the directory under which a node is cached, by whether it is cached and whether it is a root
abbrev pub parent_of_fetched_by : Held → Fid → Option Node → Bool → Option Fid
parent_of_fetched_by held fid (Some node) is_root = map.get held.parents fid
parent_of_fetched_by held fid None true = None
parent_of_fetched_by held fid None false = parent_of held.nodes fid

-- the directory under which a node is cached: its own one where it is cached, none for a root, and else the first
-- cached directory that binds it
abbrev pub parent_of_fetched : Held → Fid → Option Fid
parent_of_fetched held fid = parent_of_fetched_by held fid (map.get held.nodes fid) (same_fid fid (root_of fid.volume))

-- why there is no room
abbrev pub why_full : CacheFault → RefusalCause
why_full (Full pinned needed size) = NoRoom pinned needed size
why_full Memory = NoRoom 0 0 0

-- who goes for what is fetched where these are kept, or why there is no room
abbrev pub goes_for_fetch : ServingClient → Fid → Node → List Fid → Result (List Fid) CacheFault
goes_for_fetch s fid node keep = evicted_for (cache_of s) fid (parent_of_fetched s.client.held fid) (blocks_of node.kind) keep

-- ---- rounds

-- what a call comes to: an answer and what it does, or the object that it needs
pub data CallResult (A : Type 0) : Type 0 where
  Answered : (steps : List RoundStep) (answer : A) → CallResult A
  Needs : (fid : Fid) → CallResult A

-- a call at a client that fetched these objects before in the line, with what it looked up
pub record CallTurn (A : Type 0) : Type 0 where
  pub looked : List Fid
  pub comes_to : CallResult A

-- a call: what it comes to at a client, by the objects that were fetched before; and what a refusal is answered as
pub record ClientCall (A : Type 0) : Type 0 where
  pub turn : List Fid → ServingClient → CallTurn A
  pub refused : RefusalCause → A

-- From a client, and with these objects fetched before, a call with its fetches is these steps and has this answer.
pub data Rounds {A : Type 0} (sources : Sources) (call : ClientCall A) : List Fid → ServingClient → List RoundStep → A
    → Type 0 where
  -- the call answers
  answers : (fetched : List Fid) (s : ServingClient) (looked : List Fid) (steps : List RoundStep) (answer : A)
      → call.turn fetched s ≡ record { looked = looked; comes_to = Answered steps answer }
      → Rounds sources call fetched s (Looked looked ∷ steps) answer
  -- it needs an object that can't be fetched
  fails : (fetched : List Fid) (s : ServingClient) (looked : List Fid) (fid : Fid) (why : Refusal)
      → call.turn fetched s ≡ record { looked = looked; comes_to = Needs fid } → sources fid ≡ Err why
      → Rounds sources call fetched s (Looked looked ∷ []) (call.refused (Because why))
  -- or one for which there is no room
  turned : (fetched : List Fid) (s : ServingClient) (looked : List Fid) (fid : Fid) (node : Node) (server : ℕ)
      (why : CacheFault) → call.turn fetched s ≡ record { looked = looked; comes_to = Needs fid }
      → sources fid ≡ Ok (node, server)
      → goes_for_fetch (serving_after s (Looked looked)) fid node fetched ≡ Err why
      → Rounds sources call fetched s (Looked looked ∷ Turned fid server ∷ []) (call.refused (why_full why))
  -- it needs an object, which is fetched, and is made again
  again : (fetched : List Fid) (s : ServingClient) (looked : List Fid) (fid : Fid) (node : Node) (server : ℕ)
      (gone : List Fid) (later : List RoundStep) (answer : A)
      → call.turn fetched s ≡ record { looked = looked; comes_to = Needs fid } → sources fid ≡ Ok (node, server)
      → goes_for_fetch (serving_after s (Looked looked)) fid node fetched ≡ Ok gone
      → Rounds sources call (fetched ++ fid ∷ [])
      (serving_after (serving_after s (Looked looked)) (Installed gone fid (parent_of_fetched s.client.held fid) node server))
      later answer
      → Rounds sources call fetched s
      (Looked looked ∷ Installed gone fid (parent_of_fetched s.client.held fid) node server ∷ later) answer

-- ---- operations

-- an object that is looked at and may not be served is needed, unless the volume is emulated
abbrev pub called_by : {A : Type 0} → Bool → (RefusalCause → A) → Refusal → CallResult A
called_by true refused why = Answered [] (refused (Because why))
called_by false refused (Need fid) = Needs fid
called_by false refused why = Answered [] (refused (Because why))

-- an operation for which these go, or for which there is no room; only then is it seen whether as many were performed
-- as there may be
abbrev pub performed_unless : {A : Type 0} → Result (List Fid) CacheFault → Bool → (RefusalCause → A) → (Record → A)
    → ℕ → Record → CallResult A
performed_unless (Ok gone) true refused done volume rec = Answered [] (refused (Because JournalFull))
performed_unless (Ok gone) false refused done volume rec = Answered (Performed gone volume rec ∷ []) (done rec)
performed_unless (Err why) full refused done volume rec = Answered [] (refused (why_full why))

-- an operation that is accepted: the log has room, the cache has room
abbrev pub performed : {A : Type 0} → (RefusalCause → A) → (Record → A) → ServingClient → ℕ → Record → List Fid
    → CallResult A
performed refused done s volume rec looked =
    if has_room (s.client.volumes volume) rec
    then performed_unless (goes_for s volume rec looked) (is_full (s.client.volumes volume)) refused done volume rec
    else Answered [] (refused (Because LogFull))

-- what an operation that is accepted, or refused, comes to
abbrev pub operated_by : {A : Type 0} → Result Record Refusal → Bool → (RefusalCause → A) → (Record → A)
    → ServingClient → ℕ → List Fid → CallResult A
operated_by (Err why) emulating refused done s volume looked = called_by emulating refused why
operated_by (Ok rec) emulating refused done s volume looked = performed refused done s volume rec looked

-- the next record of a volume, of an operation that is accepted
abbrev pub recorded : ClientVolume → ℕ → Accepted → Result Record Refusal
recorded v time (Err why) = Err why
recorded v time (Ok op) = Ok (record_of v time op)

-- the record that an ask becomes at the time, over what is served
abbrev pub accepted : Bool → ServingClient → ℕ → ℕ → Asked → Result Record Refusal
accepted emulating s time volume ask =
    recorded (s.client.volumes volume) time (accept (sight_of (serving emulating s) volume) volume ask)

-- content that is too long is seen before anything is looked up
abbrev pub operating_unless : {A : Type 0} → Option ℕ → Bool → (RefusalCause → A) → (Record → A) → ℕ → ℕ → Asked
    → ServingClient → CallTurn A
operating_unless (Some size) emulating refused done time volume ask s =
    record { looked = []; comes_to = Answered [] (refused (Because (TooBig size))) }
operating_unless None emulating refused done time volume ask s = record {
  looked = looked_up_for (served emulating s) volume ask;
  comes_to =
      operated_by (accepted emulating s time volume ask) emulating refused done
      (using s (looked_up_for (served emulating s) volume ask)) volume
      (looked_up_for (served emulating s) volume ask);
}

-- the call of an operation
abbrev pub operating : {A : Type 0} → Bool → (RefusalCause → A) → (Record → A) → ℕ → ℕ → Asked → ClientCall A
operating emulating refused done time volume ask = record {
  turn = λ fetched s. operating_unless (too_big ask) emulating refused done time volume ask s;
  refused = refused;
}

-- ---- reading and listing

-- an object that is shown: whether it was fetched in this line
abbrev pub shown_by : {A : Type 0} → Result Seen Refusal → Bool → (RefusalCause → A) → (Bool → Seen → A) → List Fid
    → CallResult A
shown_by (Err why) emulating refused show fetched = called_by emulating refused why
shown_by (Ok seen) emulating refused show fetched = Answered [] (show (is_listed fetched seen.fid) seen)

-- the call that shows an object
abbrev pub showing : {A : Type 0} → Bool → (RefusalCause → A) → (Bool → Seen → A)
    → (Node → NodeKind → Result Node Refusal) → ℕ → List Name → ClientCall A
showing emulating refused show kind volume path = record {
  turn = λ fetched s. record {
    looked = looked_up (served emulating s) (root_of volume) path;
    comes_to = shown_by (seen_at kind (served emulating s) volume path) emulating refused show fetched;
  };
  refused = refused;
}
