-- What a client keeps in its journal: payloads, each of one entry or several, and which may follow.
use Rattle.std.specs.Prelude.{◌≡◌, ◌≢◌, ◌⊎◌, ◌≤◌, ℕ, ◌+◌, true, List, [], ◌∷◌, ◌++◌, Option, Some, None, IsSome, Ok, map, take}
use Rattle.std.specs.FinMap as finite
use Rattle.coda_fid.specs.Fid.{root_of}
use Rattle.coda_fid.specs.declared.fid.Fid.{Fid}
use Rattle.coda_fid.specs.declared.op.Record.{Record}
use Rattle.coda_tree.specs.Volume.{Nodes, IsDirAt, parent_of}
use Rattle.coda_cancel.specs.Cancel.{add}
use Rattle.coda_cancel.specs.Weights.{fits}
use Rattle.coda_cml.specs.Chunks.{chunk_length, freeze_refusal}
use Rattle.coda_cml.specs.Segments.{end_of}
use Rattle.coda_cml.specs.State.{LogState}
use Rattle.coda_cml.specs.declared.segment.Segment.{Segment}
use Rattle.coda_cml.specs.declared.frozen.Frozen.{Frozen}
use Rattle.coda_journal.specs.declared.header.Header.{Header}
use Rattle.coda_plain.specs.Histories.{left_by, DoFollow}
use Rattle.coda_record.specs.Entries.{client_entry, client_payload}
use Rattle.coda_record.specs.Form.{four}
use Rattle.coda_record.specs.Spelling.{HasSpelling}
use Rattle.coda_record.specs.declared.entry.ClientEntry.{ClientEntry}
use Rattle.coda_record.specs.declared.entry.ClientEntry.TheVariants.{Op, Freeze, Settled, Giveup, Fetched, Dropped, Hoard, Snapshot}
use Rattle.coda_venus.specs.Ask.{Asked, too_big}
use Rattle.coda_venus.specs.Held.{Held}
use Rattle.coda_venus.specs.State.{ClientState, new_client, client_after, client_after_all}
use Rattle.coda_venus.specs.Accepting.{is_mentioned, sight_of, accept}

-- what a client writes at once: its entries in order
abbrev pub Payload : Type 0
Payload = List ClientEntry

-- the bytes of it
abbrev pub payload_of : Payload → List ℕ
payload_of payload = ((client_payload four).piece payload).bytes

abbrev pub payloads_of : List Payload → List (List ℕ)
payloads_of history = map payload_of history

-- the bytes of entries, one behind the other
abbrev pub bytes_of_entries : List ClientEntry → List ℕ
bytes_of_entries [] = []
bytes_of_entries (entry ∷ entries) = ((client_entry four).piece entry).bytes ++ bytes_of_entries entries

-- the state that a history leaves on the disk of a client with this header
abbrev pub state_of : Header → List Payload → ClientState
state_of header history = left_by client_after_all (new_client header.number header.cache) history

-- ---- which entry may follow

-- an operation of the client that the log of its volume mentions the object in
abbrev pub IsDirty : ClientState → Fid → Type 0
IsDirty c fid = is_mentioned (c.volumes fid.volume) fid ≡ true

-- the parent that an object which isn't cached may get: a directory that is cached; of the root of a volume only the first that binds it
abbrev pub MayBeParent : Nodes → Fid → Fid → Type 0
MayBeParent m fid dir = ((fid ≢ root_of fid.volume) × IsDirAt m dir) ⊎ (parent_of m fid ≡ Some dir)

-- the parent that an object is cached with: its own one where it is cached, none for the root of a volume, and else a directory that is cached
abbrev pub IsParent : Held → Fid → Option Fid → Type 0
IsParent held fid None = (finite.get held.parents fid ≡ None) × (IsSome (finite.get held.nodes fid) ⊎ (fid ≡ root_of fid.volume))
IsParent held fid (Some dir) = (finite.get held.parents fid ≡ Some dir) ⊎ ((finite.get held.nodes fid ≡ None) × MayBeParent held.nodes fid dir)

-- An operation is what acceptance makes of some ask, with the next number, where the log has room for it and fewer than 2^32 - 1 were
-- performed.
pub record MayOperate (c : ClientState) (volume : ℕ) (rec : Record) : Type 0 where
  pub ask : Asked
  pub small : too_big ask ≡ None
  pub accepted : accept (sight_of c volume) volume ask ≡ Ok rec.op
  pub next : rec.number ≡ (c.volumes volume).log.last + 1
  pub few : rec.number ≤ 4294967295
  pub room : fits 4096 16777216 ((c.volumes volume).log.chunk ++ add (c.volumes volume).log.records rec) ≡ true

-- the last operation that goes at a time by a window: 64 records at most, unless one segment alone has more
abbrev pub last_to_go : ℕ → ℕ → List Segment → ℕ
last_to_go now window segments = end_of (take (chunk_length now window 64 segments) segments)

-- A freeze is that of the longest front that may go at some time, by some window, where none is frozen; it has the next number.
pub record MayFreeze (log : LogState) (number last : ℕ) : Type 0 where
  pub now : ℕ
  pub window : ℕ
  pub goes : freeze_refusal log.frozen now window log.segments ≡ None
  pub next : number ≡ log.chunks + 1
  pub few : number ≤ 4294967295
  pub ends : last ≡ last_to_go now window log.segments

-- the chunk of this number is frozen
abbrev pub IsFrozen : Option Frozen → ℕ → Type 0
IsFrozen None number = ⊥
IsFrozen (Some chunk) number = chunk.number ≡ number

-- An entry may follow in these cases, by the state before it: an operation that is accepted; a freeze of what may go; the verdict on the
-- chunk that is frozen; a give-up where none is frozen and a record is left; an object that isn't both cached and dirty, with its parent;
-- and the dropping of one that is cached, isn't dirty and isn't the parent of another one. No change of a hoard database and no snapshot
-- may follow: clients have neither yet.
abbrev pub MayEnter : ClientState → ClientEntry → Type 0
MayEnter c (Op volume rec) = MayOperate c volume rec
MayEnter c (Freeze volume number home last) = MayFreeze (c.volumes volume).log number last
MayEnter c (Settled volume number verdict) = IsFrozen (c.volumes volume).log.frozen number
MayEnter c (Giveup volume) = ((c.volumes volume).log.frozen ≡ None) × ((c.volumes volume).log.records ≢ [])
MayEnter c (Fetched fid parent node) = (¬ (IsSome (finite.get c.held.nodes fid) × IsDirty c fid)) × IsParent c.held fid parent
MayEnter c (Dropped fid) = IsSome (finite.get c.held.nodes fid) × (¬ IsDirty c fid) × ((f : Fid) → finite.get c.held.parents f ≢ Some fid)
MayEnter c (Hoard change) = ⊥
MayEnter c (Snapshot snapshot) = ⊥

-- each of the entries may follow those before it
abbrev pub MayEnterAll : ClientState → Payload → Type 0
MayEnterAll c [] = Unit {0}
MayEnterAll c (entry ∷ entries) = MayEnter c entry × MayEnterAll (client_after c entry) entries

-- A payload can follow a history where each of its entries may follow, and all of it is within its limits.
abbrev pub MayFollow : Header → List Payload → Payload → Type 0
MayFollow header past payload = MayEnterAll (state_of header past) payload × HasSpelling (client_payload four) payload

-- each payload can follow those before it
abbrev pub IsHistory : Header → List Payload → Type 0
IsHistory header history = DoFollow (MayFollow header) [] history
