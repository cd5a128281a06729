-- What the calls of a client answer, and what they keep.
use Rattle.std.specs.Prelude.{◌≡◌, ◌⊎◌, option_map, ◌<◌, ◌+◌, ℕ, nat_le, if◌then◌else◌, Bool, true, List, [], ◌∷◌, ◌++◌, length, Option, Some, None, IsSome, Result, Ok, Err}
use Rattle.std.specs.Int.{w32}
use Rattle.std.specs.FinMap as map
use Rattle.coda_fid.specs.Fid.{root_of}
use Rattle.coda_fid.specs.declared.fid.Fid.{Fid}
use Rattle.coda_fid.specs.declared.op.Op.{Op}
use Rattle.coda_fid.specs.declared.op.Record.{Record}
use Rattle.coda_tree.specs.declared.node.Node.{Node}
use Rattle.coda_tree.specs.declared.node.NodeKind.{NodeKind}
use Rattle.coda_tree.specs.declared.node.NodeKind.TheVariants.{File, Link, Dir}
use Rattle.coda_tree.specs.Bindings.{Name}
use Rattle.coda_tree.specs.Volume.{Nodes, parent_of}
use Rattle.coda_certify.specs.declared.verdict.Verdict.{Verdict}
use Rattle.coda_cml.specs.Chunks.{freeze_refusal}
use Rattle.coda_cml.specs.State.{LogState}
use Rattle.coda_cml.specs.declared.fault.FreezeFault.{FreezeFault}
use Rattle.coda_cml.specs.declared.fault.FreezeFault.TheVariants as freezing
use Rattle.coda_cml.specs.declared.fault.SettleFault.{SettleFault}
use Rattle.coda_cml.specs.declared.fault.SettleFault.TheVariants as settling
use Rattle.coda_disk.specs.Told.{Told, LeavesOnly}
use Rattle.coda_journal.specs.Entries.{framed}
use Rattle.coda_journal.specs.Journal.{IsBeforeOrAfter}
use Rattle.coda_journal.specs.declared.header.Header.{Header}
use Rattle.coda_journal.specs.declared.journal.Journal.{Journal}
use Rattle.coda_record.specs.declared.entry.ClientEntry.{ClientEntry}
use Rattle.coda_record.specs.declared.entry.ClientEntry.TheVariants.{Op as OpEntry, Freeze, Settled, Fetched}
use Rattle.coda_cml.specs.Steps.{settle_refusal}
use Rattle.coda_venus.specs.Held.{Held}
use Rattle.coda_venus.specs.Looking.{then_find, resolve}
use Rattle.coda_venus.specs.Ask.{Asked, too_big, object_of}
use Rattle.coda_venus.specs.Accepting.{Sight, sight_of, accept}
use Rattle.coda_venus.specs.Code.{has_room, is_full}
use Rattle.coda_venus.specs.State.{ClientVolume, ClientState}
use Rattle.coda_venus.specs.History.{Payload, payload_of, payloads_of, last_to_go}
use Rattle.coda_venus.specs.Standing.{IsUp, StandsFor}
use Rattle.coda_venus.specs.declared.done.Done.{Done}
use Rattle.coda_venus.specs.declared.refused.Refused.{Refused}
use Rattle.coda_venus.specs.declared.refused.Refused.TheVariants.{Down, TooBig, LogFull, NotDir, IsDir, Need, JournalFull, DiskFault, Frozen, Nothing, Young, NotFrozen, WrongNumber, Memory}
use Rattle.coda_venus.specs.declared.seen.Seen.{Seen}
use Rattle.coda_venus.specs.declared.venus.Venus.{Venus}

-- why nothing is frozen, as a call is refused for it
abbrev pub refused_as : FreezeFault → Refused
refused_as (freezing.Frozen number home) = Frozen number home
refused_as freezing.Nothing = Nothing
refused_as (freezing.Young age window) = Young age window
refused_as freezing.Memory = Memory

-- why nothing is settled
abbrev pub unsettled_as : SettleFault → Refused
unsettled_as (settling.NotFrozen number) = NotFrozen number
unsettled_as (settling.WrongNumber frozen number) = WrongNumber frozen number
unsettled_as settling.Memory = Memory

-- The next chunk of a log at a time by a window: its number, and the last operation in it; or why nothing is frozen. A client freezes at
-- most 2^32 - 1 chunks of a volume.
abbrev pub chunk_by : Option FreezeFault → LogState → ℕ → ℕ → Result (ℕ × ℕ) Refused
chunk_by (Some why) log now window = Err (refused_as why)
chunk_by None log now window = if nat_le 4294967295 log.chunks then Err JournalFull else Ok (log.chunks + 1, last_to_go now window log.segments)

abbrev pub next_chunk : LogState → ℕ → ℕ → Result (ℕ × ℕ) Refused
next_chunk log now window = chunk_by (freeze_refusal log.frozen now window log.segments) log now window

-- ---- what a call is to keep

-- the payload that a call is to keep, or why it keeps none
abbrev pub Due : Type 0
Due = Result Payload Refused

-- a freeze of the next chunk
abbrev pub freeze_of : ℕ → ℕ → Result (ℕ × ℕ) Refused → Due
freeze_of volume home (Ok next) = Ok (Freeze volume next.0 home next.1 ∷ [])
freeze_of volume home (Err why) = Err why

abbrev pub freeze_due : ClientState → ℕ → ℕ → ℕ → ℕ → Due
freeze_due c volume home now window = freeze_of volume home (next_chunk (c.volumes volume).log now window)

-- the verdict on a chunk, unless it isn't the one that is frozen
abbrev pub settled_unless : Option Refused → ClientEntry → Due
settled_unless (Some why) settled = Err why
settled_unless None settled = Ok (settled ∷ [])

abbrev pub settle_due : ClientState → ℕ → ℕ → Verdict → Due
settle_due c volume number verdict = settled_unless (option_map unsettled_as (settle_refusal (c.volumes volume).log.frozen number)) (Settled volume number verdict)

-- the record that an operation becomes at a time, the next on the volume
abbrev pub record_of : ClientVolume → ℕ → Op → Record
record_of v time op = record { number = v.log.last + 1; time = time; op = op }

-- the record, unless the log has no room for it, or as many operations were performed as there may be
abbrev pub unless_full : ClientVolume → Record → Result Record Refused
unless_full v rec = if has_room v rec then (if is_full v then Err JournalFull else Ok rec) else Err LogFull

-- What an ask becomes at a time, or the first reason why it becomes nothing: its content is too long; acceptance; the log is full; as many
-- operations were performed as there may be.
abbrev pub operation_unless : Option ℕ → ClientState → ℕ → ℕ → Asked → Result Record Refused
operation_unless (Some size) c time volume ask = Err (TooBig size)
operation_unless None c time volume ask = then_find (accept (sight_of c volume) volume ask) (λ op. unless_full (c.volumes volume) (record_of (c.volumes volume) time op))

abbrev pub operation : ClientState → ℕ → ℕ → Asked → Result Record Refused
operation c time volume ask = operation_unless (too_big ask) c time volume ask

-- The next record of a volume that an ask becomes at a time over what is seen, or the first reason why it becomes none: its content is too
-- long; acceptance. Whether there is room for it isn't asked.
abbrev pub record_for_unless : Option ℕ → Sight → ClientVolume → ℕ → ℕ → Asked → Result Record Refused
record_for_unless (Some size) s v time volume ask = Err (TooBig size)
record_for_unless None s v time volume ask = then_find (accept s volume ask) (λ op. Ok (record_of v time op))

abbrev pub record_for : Sight → ClientVolume → ℕ → ℕ → Asked → Result Record Refused
record_for s v time volume ask = record_for_unless (too_big ask) s v time volume ask

-- the operation that an ask becomes
abbrev pub operate_due : ClientState → ℕ → ℕ → Asked → Due
operate_due c time volume ask = then_find (operation c time volume ask) (λ rec. Ok (OpEntry volume rec ∷ []))

-- what is answered of an operation
abbrev pub done_of : Record → Done
done_of rec = record { number = rec.number; fid = object_of rec.op }

-- the parent that an object gets which isn't cached yet: its own one where it has one, and else the first directory that binds it
abbrev pub parent_for_of : Option Fid → Nodes → Fid → Option Fid
parent_for_of None m fid = parent_of m fid
parent_for_of (Some parent) m fid = Some parent

abbrev pub parent_for : Held → Fid → Option Fid
parent_for held fid = parent_for_of (map.get held.parents fid) held.nodes fid

-- an object may be fetched: it isn't held, and is a volume's root or bound in a directory that is held
pub record IsMissed (m : Nodes) (fid : Fid) : Type 0 where
  pub absent : map.get m fid ≡ None
  pub place : (fid ≡ root_of fid.volume) ⊎ IsSome (parent_of m fid)

-- the object that was fetched
abbrev pub fetched_due : ClientState → Fid → Node → Due
fetched_due c fid node = Ok (Fetched fid (parent_for c.held fid) node ∷ [])

-- ---- what a client shows

-- an object that is no directory
abbrev pub readable : Node → NodeKind → Result Node Refused
readable node (File content) = Ok node
readable node (Link target) = Ok node
readable node (Dir entries) = Err IsDir

-- a directory
abbrev pub listable : Node → NodeKind → Result Node Refused
listable node (File content) = Err NotDir
listable node (Link target) = Err NotDir
listable node (Dir entries) = Ok node

-- an object that is cached
abbrev pub cached : Option Node → Fid → Result Node Refused
cached None fid = Err (Need fid)
cached (Some node) fid = Ok node

-- the object that a path leads to over what is cached, and its node, where it may be shown so
abbrev pub seen_at : (Node → NodeKind → Result Node Refused) → Nodes → ℕ → List Name → Result Seen Refused
seen_at shown m volume path =
    then_find (resolve m (root_of volume) path) (λ fid. then_find (cached (map.get m fid) fid) (λ node. then_find (shown node node.kind) (λ n. Ok (record { fid = fid; node = n }))))

-- ---- what a call keeps

-- its journal is as it was, and it is up with the same history
abbrev pub IsStill : {D : Type 0} → (D → Told) → Header → Venus D → List Payload → Venus D → Type 0
IsStill told header old history new = (new.journal ≡ old.journal) × IsUp told header new history

-- the journal has no room for the payload
abbrev pub IsFull : {D : Type 0} → Journal D → Payload → Type 0
IsFull journal payload = journal.area < journal.used + length (framed w32 (payload_of payload))

-- the refusal, if it is one
abbrev pub refusal_in : {A : Type 0} → Result A Refused → Option Refused
refusal_in (Ok x) = None
refusal_in (Err why) = Some why

-- What a call leaves that is to keep one payload: the history with it; or all as it was, for want of room or of memory; or, after a fault of
-- the disk, a client that is down, whose disk stands for the history with or without it. It is refused for nothing else.
abbrev pub KeepsOne : {D : Type 0} → (D → Told) → Header → Venus D → List Payload → Payload → Venus D → Option Refused → Type 0
KeepsOne told header old history payload new None = (¬ IsFull old.journal payload) × IsUp told header new (history ++ payload ∷ [])
KeepsOne told header old history payload new (Some JournalFull) = IsFull old.journal payload × IsStill told header old history new
KeepsOne told header old history payload new (Some Memory) = IsStill told header old history new
KeepsOne told header old history payload new (Some DiskFault) = (¬ IsFull old.journal payload) × (new.down ≡ true) × StandsFor (told new.journal.disk) header history (Some payload)
KeepsOne told header old history payload new (Some why) = ⊥

-- A call that is to keep one payload: each image that a crash may have left at any moment since reads as the history, or as the history with
-- it.
pub record KeepingOne {D A : Type 0} (told : D → Told) (header : Header) (old : Venus D) (history : List Payload) (payload : Payload) (new : Venus D) (result : Result A Refused) : Type 0 where
  pub any_moment : LeavesOnly (told old.journal.disk) (told new.journal.disk) (IsBeforeOrAfter header (payloads_of history) (payload_of payload))
  pub answers : KeepsOne told header old history payload new (refusal_in result)

-- what is due is kept; or the call is refused for this, and nothing changed
abbrev pub DoesKeep : {D A : Type 0} → (D → Told) → Header → Venus D → List Payload → Due → Venus D → Result A Refused → Type 0
DoesKeep told header old history (Ok payload) new result = KeepingOne told header old history payload new result
DoesKeep told header old history (Err why) new result = (result ≡ Err why) × (new ≡ old)

-- the same of a call that wants memory before it knows what is due
abbrev pub DoesKeepIn : {D A : Type 0} → (D → Told) → Header → Venus D → List Payload → Due → Venus D → Result A Refused → Type 0
DoesKeepIn told header old history (Ok payload) new result = KeepingOne told header old history payload new result
DoesKeepIn told header old history (Err why) new result = ((result ≡ Err Memory) ⊎ (result ≡ Err why)) × (new ≡ old)

-- a fault of the disk, and nothing else, takes a client down
abbrev pub Falls : {A : Type 0} → Bool → Bool → Result A Refused → Type 0
Falls old new (Err DiskFault) = new ≡ true
Falls old new result = new ≡ old

-- a refusal in which no disk has a part
abbrev pub IsOwn : Refused → Type 0
IsOwn Down = ⊥
IsOwn DiskFault = ⊥
IsOwn why = Unit {0}
