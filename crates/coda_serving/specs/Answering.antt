-- What a client answers to a line, with what it fetches on the way.
use Rattle.std.specs.Prelude.{◌≡◌, ◌⊎◌, ℕ, Bool, true, List, [], ◌∷◌, ◌++◌, Option, Some, Result, Ok, Err}
use Rattle.coda_disk.specs.Told.{Told}
use Rattle.coda_journal.specs.declared.header.Header.{Header}
use Rattle.coda_fid.specs.declared.fid.Fid.{Fid}
use Rattle.coda_fid.specs.declared.op.Record.{Record}
use Rattle.coda_tree.specs.declared.node.Node.{Node}
use Rattle.coda_tree.specs.declared.node.NodeKind.{NodeKind}
use Rattle.coda_tree.specs.Bindings.{Name}
use Rattle.coda_tree.specs.Volume.{Nodes}
use Rattle.coda_record.specs.declared.entry.ClientEntry.TheVariants.{Op}
use Rattle.coda_venus.specs.Ask.{Asked}
use Rattle.coda_venus.specs.History.{Payload, state_of}
use Rattle.coda_venus.specs.Keeping.{operation, done_of, seen_at, readable, listable, IsFull}
use Rattle.coda_venus.specs.Standing.{IsUp, StandsFor}
use Rattle.coda_venus.specs.State.{ClientState}
use Rattle.coda_venus.specs.declared.done.Done.{Done}
use Rattle.coda_venus.specs.declared.refused.Refused.{Refused}
use Rattle.coda_venus.specs.declared.refused.Refused.TheVariants.{Down, Need, JournalFull, DiskFault, Memory}
use Rattle.coda_venus.specs.declared.seen.Seen.{Seen}
use Rattle.coda_venus.specs.declared.venus.Venus.{Venus}
use Rattle.coda_serving.specs.Fetching.{IsFetchable, IsFetch, Fetches, is_among}
use Rattle.coda_serving.specs.declared.asking.Showing.{Showing}
use Rattle.coda_serving.specs.declared.asking.Showing.TheVariants.{Content, Names}

-- A call of a client, by its state: what it comes to, or why it is refused; and then the payloads that it keeps, and what it answers, by the
-- objects that were fetched for it.
pub record Call (A R : Type 0) : Type 0 where
  pub comes : ClientState → Result A Refused
  pub keeps : A → List Payload
  pub answers : List Fid → A → R

-- an operation at a time, which is kept
abbrev pub operating : ℕ → ℕ → Asked → Call Record Done
operating now volume ask = record { comes = λ c. operation c now volume ask; keeps = λ rec. (Op volume rec ∷ []) ∷ []; answers = λ fids rec. done_of rec }

-- what of an object is shown: the content of a file or the target of a link, or what a directory binds
abbrev pub shown_as : Showing → Node → NodeKind → Result Node Refused
shown_as Content = readable
shown_as Names = listable

-- what is at a path, and whether it was fetched; nothing is kept
abbrev pub showing : Showing → ℕ → List Name → Call Seen (Seen × Bool)
showing what volume path = record { comes = λ c. seen_at (shown_as what) c.held.nodes volume path; keeps = λ seen. []; answers = λ fids seen. (seen, is_among fids seen.fid) }

-- what is said of an object that is shown, with whether it is one of these
abbrev pub shown_among : List Fid → Result Seen Refused → Result (Seen × Bool) Refused
shown_among fids (Ok seen) = Ok (seen, is_among fids seen.fid)
shown_among fids (Err why) = Err why

-- The payload that a call is to keep next, at a client with this state: that of an object that it needs, or its own.
abbrev pub IsNext : {A R : Type 0} → Option Nodes → Call A R → ClientState → Payload → Type 0
IsNext {A = A} offers call c payload = ((fid : Fid) × IsFetch offers call.comes c fid payload) ⊎ ((x : A) × (call.comes c ≡ Ok x) × (call.keeps x ≡ payload ∷ []))

-- A call answers what it comes to, and keeps that.
pub record Comes {D A R : Type 0} (told : D → Told) (header : Header) (call : Call A R) (history : List Payload) (fids : List Fid) (new : Venus D) (answer : R) : Type 0 where
  pub found : A
  pub comes : call.comes (state_of header history) ≡ Ok found
  pub is : answer ≡ call.answers fids found
  pub up : IsUp told header new (history ++ call.keeps found)

-- It was stopped by a fault of the disk, which then stands for the history with or without what was to be kept next.
pub record Stops {D A R : Type 0} (told : D → Told) (header : Header) (offers : Option Nodes) (call : Call A R) (history : List Payload) (new : Venus D) : Type 0 where
  pub payload : Payload
  pub next : IsNext offers call (state_of header history) payload
  pub down : new.down ≡ true
  pub stands : StandsFor (told new.journal.disk) header history (Some payload)

-- the journal has no room for what is to be kept next
abbrev pub LacksRoom : {D A R : Type 0} → Header → Option Nodes → Call A R → List Payload → Venus D → Type 0
LacksRoom header offers call history new = (payload : Payload) × IsNext offers call (state_of header history) payload × IsFull new.journal payload

-- How a call ends at a client with this history, once these objects were fetched: it answers what it comes to; there is no room for what is
-- to be kept next; it is stopped by want of memory or by a fault of the disk; it needs an object that can't be fetched; or it is refused.
abbrev pub Ends : {D A R : Type 0} → (D → Told) → Header → Option Nodes → Call A R → List Payload → List Fid → Venus D → Result R Refused → Type 0
Ends told header offers call history fids new (Ok answer) = Comes told header call history fids new answer
Ends told header offers call history fids new (Err Memory) = IsUp told header new history
Ends told header offers call history fids new (Err JournalFull) = ((call.comes (state_of header history) ≡ Err JournalFull) ⊎ LacksRoom header offers call history new) × IsUp told header new history
Ends told header offers call history fids new (Err DiskFault) = Stops told header offers call history new
Ends told header offers call history fids new (Err (Need fid)) =
    (call.comes (state_of header history) ≡ Err (Need fid)) × ((node : Node) → ¬ IsFetchable offers (state_of header history).held.nodes fid node) × IsUp told header new history
Ends told header offers call history fids new (Err Down) = ⊥
Ends told header offers call history fids new (Err why) = (call.comes (state_of header history) ≡ Err why) × IsUp told header new history

-- A call was answered: objects were fetched for it, one after the other, each of which it needed first then, and so it ended.
pub record Answered {D A R : Type 0} (told : D → Told) (header : Header) (offers : Option Nodes) (call : Call A R) (history : List Payload) (new : Venus D) (result : Result R Refused) : Type 0 where
  pub fids : List Fid
  pub payloads : List Payload
  pub fetches : Fetches offers call.comes (state_of header history) fids payloads
  pub ends : Ends told header offers call (history ++ payloads) fids new result
