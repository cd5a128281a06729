-- A cell as its caches see it: what servers decided and remember of their clients, what clients have and hold valid
-- copies of, and which Breaks are under way.
use Rattle.std.specs.Prelude.{◌≡◌, ◌≢◌, ℕ, ◌+◌, Bool, true, false, cond, ◌&&◌, ◌==◌, List, [], ◌∷◌, ◌++◌, length}
use Rattle.std.specs.Prelude.{take, not, Option, Some, None, IsSome}
use Rattle.std.specs.Option.{option_and_then}
use Rattle.std.specs.FinMap as map
use Rattle.coda_fid.specs.Fid.{same_fid}
use Rattle.coda_fid.specs.declared.fid.Fid.{Fid}
use Rattle.coda_tree.specs.declared.node.Node.{Node}
use Rattle.coda_certify.specs.declared.verdict.Verdict.{Verdict}
use Rattle.coda_certify.specs.declared.verdict.Verdict.TheVariants.{Applied, Conflict}
use Rattle.coda_cancel.specs.Dropping.{mentioning}
use Rattle.coda_cml.specs.State.{LogState}
use Rattle.coda_cml.specs.Steady.{any_record}
use Rattle.coda_callback.specs.Callbacks.{Callbacks, names, no_callbacks, promised, broken_where, IsOutbox, collected}
use Rattle.coda_callback.specs.Callbacks.{dropped}
use Rattle.coda_plain.specs.Decisions.{ReplicaEntry, nodes_of}
use Rattle.coda_record.specs.declared.entry.ClientEntry.{ClientEntry}
use Rattle.coda_record.specs.declared.entry.ClientEntry.TheVariants as entry
use Rattle.coda_overlay.specs.Overlaying.{Predates, takes_out}
use Rattle.coda_venus.specs.Held.{taken_out, stays_by}
use Rattle.coda_copies.specs.Copies.{log_records, records_for, cached_node, RespectsGiven}
use Rattle.coda_venus.specs.History.{MayEnter}
use Rattle.coda_venus.specs.State.{ClientState, new_client, client_after}

-- where a valid copy is from: a server, and how many entries the history of its replica had when it gave the node
pub record Copy : Type 0 where
  pub server : ℕ
  pub position : ℕ

-- a Break: a server tells a client that these objects of a volume changed; and whether it was delivered already
pub record Break : Type 0 where
  pub server : ℕ
  pub client : ℕ
  pub volume : ℕ
  pub fids : List Fid
  pub delivered : Bool

-- Histories and callbacks are by server and volume; clients by number; valid copies by client and object; Breaks by
-- the numbers of their letters, of which so many were posted; links, which are up or down, by client and server.
pub record CachingCell : Type 0 where
  pub histories : ℕ → ℕ → List ReplicaEntry
  pub callbacks : ℕ → ℕ → Callbacks
  pub clients : ℕ → ClientState
  pub copies : ℕ → Fid → Option Copy
  pub breaks : ℕ → Option Break
  pub posted : ℕ
  pub links : ℕ → ℕ → Bool

-- a cell in which nothing happened, with caches of these sizes
abbrev pub empty_caching_cell : (ℕ → ℕ) → CachingCell
empty_caching_cell sizes = record {
  histories = λ server volume. [];
  callbacks = λ server volume. no_callbacks;
  clients = λ client. new_client client (sizes client);
  copies = λ client fid. None;
  breaks = λ number. None;
  posted = 0;
  links = λ client server. false;
}

-- ---- families with one member changed

-- a family with one member changed
abbrev pub put : {A : Type 0} → (ℕ → A) → ℕ → A → ℕ → A
put f k x q = cond (q == k) x (f q)

-- a family of pairs with one member changed
abbrev pub put_pair : {A : Type 0} → (ℕ → ℕ → A) → ℕ → ℕ → A → ℕ → ℕ → A
put_pair f k l x q r = cond ((q == k) && (r == l)) x (f q r)

-- the copies with one of a client changed
abbrev pub put_copy : {A : Type 0} → (ℕ → Fid → A) → ℕ → Fid → A → ℕ → Fid → A
put_copy f client fid x q r = cond ((q == client) && same_fid r fid) x (f q r)

-- a copy, unless it goes
abbrev pub unless_gone : Bool → Copy → Option Copy
unless_gone gone copy = cond gone None (Some copy)

-- the copies, without those that pass a test
abbrev pub copies_left : (ℕ → Fid → Option Copy) → (ℕ → Fid → Copy → Bool) → ℕ → Fid → Option Copy
copies_left copies gone client fid =
    option_and_then (λ copy. unless_gone (gone client fid copy) copy) (copies client fid)

-- ---- what a server gave

-- the node of an object that the history of a replica leaves
abbrev pub node_at : List ReplicaEntry → Fid → Option Node
node_at history fid = map.get (nodes_of fid.volume history) fid

-- what the server gave of an object: the node at the copy's position of the replica's history
abbrev pub given : CachingCell → Fid → Copy → Option Node
given cell fid copy = node_at (take copy.position (cell.histories copy.server fid.volume)) fid

-- ---- what makes a copy not valid

-- a chunk that was applied makes copies of what it mentions not valid
abbrev pub settlement_invalidates : Verdict → LogState → Fid → Bool
settlement_invalidates Applied log fid = any_record (mentioning fid) log.chunk
settlement_invalidates (Conflict number why) log fid = false

-- whether an entry of a client makes its copy of the object not valid: an operation by which it goes, a settlement
-- of an applied chunk that mentions it, giving up a log that does, a fetch or a drop of it
abbrev pub invalidates : ClientState → ClientEntry → Fid → Bool
invalidates c (entry.Op volume rec) fid = not (stays_by c.held.parents (taken_out rec.op) fid)
invalidates c (entry.Freeze volume number home last) fid = false
invalidates c (entry.Settled volume number verdict) fid =
    (fid.volume == volume) && settlement_invalidates verdict (c.volumes volume).log fid
invalidates c (entry.Giveup volume) fid =
    (fid.volume == volume) && any_record (mentioning fid) (log_records (c.volumes volume))
invalidates c (entry.Fetched at parent node) fid = same_fid fid at
invalidates c (entry.Dropped at) fid = same_fid fid at
invalidates c (entry.Hoard change) fid = false
invalidates c (entry.Snapshot snapshot) fid = false

-- ---- what happens

-- what happens in a cell
pub data CacheEvent : Type 0 where
  -- a client fetches an object from a server, and keeps it
  Fetched : (client server : ℕ) (fid : Fid) (parent : Option Fid) (node : Node) → CacheEvent
  -- a server gives an object, for which the client has no room
  Refused : (client server : ℕ) (fid : Fid) → CacheEvent
  -- a client does something else that its journal keeps
  Acted : (client : ℕ) (entry : ClientEntry) → CacheEvent
  -- the history of a replica has one more entry
  Decided : (server volume : ℕ) (entry : ReplicaEntry) → CacheEvent
  -- what waits for a client goes out as a Break
  Posted : (server client volume : ℕ) (fids : List Fid) → CacheEvent
  -- or is handed to the client at once
  Refreshed : (server client volume : ℕ) (fids : List Fid) → CacheEvent
  -- another letter is posted
  OtherPosted : CacheEvent
  Delivered : (number : ℕ) → CacheEvent
  Lost : (number : ℕ) → CacheEvent
  LinkUp : (client server : ℕ) → CacheEvent
  LinkDown : (client server : ℕ) → CacheEvent
  -- a client crashes, or recovers as something
  ClientGone : (client : ℕ) (state : ClientState) → CacheEvent
  -- a replica crashes, or recovers with entries that it finds on its disk
  ReplicaGone : (server volume : ℕ) (found : List ReplicaEntry) → CacheEvent

-- the link goes down: the client's copies from that server aren't valid any more, and the server forgets the client
abbrev pub link_cut : CachingCell → ℕ → ℕ → CachingCell
link_cut cell client server = record cell {
  links = put_pair cell.links client server false;
  copies = copies_left cell.copies (λ c fid copy. (c == client) && (copy.server == server));
  callbacks = λ s volume. cond (s == server) (dropped (cell.callbacks s volume) client) (cell.callbacks s volume);
}

-- a Break came to its client: the copies of what it names aren't valid any more
abbrev pub break_delivered : CachingCell → ℕ → Option Break → CachingCell
break_delivered cell number None = cell
break_delivered cell number (Some letter) = record cell {
  breaks = put cell.breaks number (Some (record letter { delivered = true }));
  copies = copies_left cell.copies (λ c fid copy. (c == letter.client) && names letter.fids fid);
}

-- a Break is lost, and with it the link between its ends
abbrev pub break_lost : CachingCell → ℕ → Option Break → CachingCell
break_lost cell number None = cell
break_lost cell number (Some letter) =
    link_cut (record cell { breaks = put cell.breaks number None }) letter.client letter.server

-- the copy that a server gives now
abbrev pub copy_now : CachingCell → Fid → ℕ → Copy
copy_now cell fid server = record { server = server; position = length (cell.histories server fid.volume) }

module _ (changes : List ReplicaEntry → ReplicaEntry → Fid → Bool) where
  -- a cell after an event; `changes` tells which objects an entry changes behind a history
  abbrev pub cell_after : CachingCell → CacheEvent → CachingCell
  cell_after cell (Fetched client server fid parent node) = record cell {
    clients = put cell.clients client (client_after (cell.clients client) (entry.Fetched fid parent node));
    copies = put_copy cell.copies client fid (Some (copy_now cell fid server));
    callbacks = put_pair cell.callbacks server fid.volume (promised (cell.callbacks server fid.volume) client fid);
  }
  cell_after cell (Refused client server fid) = record cell {
    callbacks = put_pair cell.callbacks server fid.volume (promised (cell.callbacks server fid.volume) client fid);
  }
  cell_after cell (Acted client entry) = record cell {
    clients = put cell.clients client (client_after (cell.clients client) entry);
    copies = copies_left cell.copies (λ c fid copy. (c == client) && invalidates (cell.clients client) entry fid);
  }
  cell_after cell (Decided server volume entry) = record cell {
    histories = put_pair cell.histories server volume (cell.histories server volume ++ entry ∷ []);
    callbacks =
        put_pair cell.callbacks server volume
        (broken_where (cell.callbacks server volume) (changes (cell.histories server volume) entry));
  }
  cell_after cell (Posted server client volume fids) = record cell {
    breaks =
        put cell.breaks (cell.posted + 1)
        (Some (record { server = server; client = client; volume = volume; fids = fids; delivered = false }));
    posted = cell.posted + 1;
    callbacks = put_pair cell.callbacks server volume (collected (cell.callbacks server volume) client);
  }
  cell_after cell (Refreshed server client volume fids) = record cell {
    callbacks = put_pair cell.callbacks server volume (collected (cell.callbacks server volume) client);
    copies = copies_left cell.copies (λ c fid copy. (c == client) && names fids fid);
  }
  cell_after cell OtherPosted = record cell { posted = cell.posted + 1 }
  cell_after cell (Delivered number) = break_delivered cell number (cell.breaks number)
  cell_after cell (Lost number) = break_lost cell number (cell.breaks number)
  cell_after cell (LinkUp client server) = record cell { links = put_pair cell.links client server true }
  cell_after cell (LinkDown client server) = link_cut cell client server
  cell_after cell (ClientGone client state) = record cell {
    clients = put cell.clients client state;
    copies = copies_left cell.copies (λ c fid copy. c == client);
    callbacks = λ server volume. dropped (cell.callbacks server volume) client;
  }
  cell_after cell (ReplicaGone server volume found) = record cell {
    histories = put_pair cell.histories server volume (cell.histories server volume ++ found);
    callbacks = put_pair cell.callbacks server volume no_callbacks;
    copies = copies_left cell.copies (λ c fid copy. (copy.server == server) && (fid.volume == volume));
  }

-- ---- what may happen

-- A client fetches the object's node as it is now, where its journal may have it; that is older than the tail of the
-- client's log; and an object that isn't cached and that the log mentions is taken out by it.
pub record MayFetch (cell : CachingCell) (client server : ℕ) (fid : Fid) (parent : Option Fid)
    (node : Node) : Type 0 where
  pub linked : cell.links client server ≡ true
  pub may : MayEnter (cell.clients client) (entry.Fetched fid parent node)
  pub there : node_at (cell.histories server fid.volume) fid ≡ Some node
  pub predates : Predates fid (Some node) ((cell.clients client).volumes fid.volume).log.records
  pub taken : cached_node (cell.clients client) fid ≡ None
      → any_record (mentioning fid) (records_for (cell.clients client) fid) ≡ true
      → any_record (takes_out fid) (records_for (cell.clients client) fid) ≡ true

-- a client does what may follow its history, and respects what was given of each of its valid copies
pub record MayAct (cell : CachingCell) (client : ℕ) (entry : ClientEntry) : Type 0 where
  pub may : MayEnter (cell.clients client) entry
  pub respects : (fid : Fid) (copy : Copy) → cell.copies client fid ≡ Some copy
      → RespectsGiven (cell.clients client) entry fid (given cell fid copy)

-- an event may happen: fetches, Breaks and refreshes need the link; Breaks and refreshes name exactly what waits for
-- the client; a Break that is delivered or lost is there
abbrev pub MayHappen : CachingCell → CacheEvent → Type 0
MayHappen cell (Fetched client server fid parent node) = MayFetch cell client server fid parent node
MayHappen cell (Refused client server fid) = (cell.links client server ≡ true) × (cell.copies client fid ≡ None)
MayHappen cell (Acted client entry) = MayAct cell client entry
MayHappen cell (Decided server volume entry) = Unit {0}
MayHappen cell (Posted server client volume fids) = (cell.links client server ≡ true)
    × IsOutbox (cell.callbacks server volume) client fids
MayHappen cell (Refreshed server client volume fids) = (cell.links client server ≡ true)
    × IsOutbox (cell.callbacks server volume) client fids
MayHappen cell OtherPosted = Unit {0}
MayHappen cell (Delivered number) = IsSome (cell.breaks number)
MayHappen cell (Lost number) = IsSome (cell.breaks number)
MayHappen cell (LinkUp client server) = Unit {0}
MayHappen cell (LinkDown client server) = Unit {0}
MayHappen cell (ClientGone client state) = Unit {0}
MayHappen cell (ReplicaGone server volume found) = Unit {0}

-- the events happen one after another; `changes` tells which objects an entry changes
abbrev pub IsCacheRun : (List ReplicaEntry → ReplicaEntry → Fid → Bool) → CachingCell → List CacheEvent → CachingCell
    → Type 0
IsCacheRun changes old [] new = new ≡ old
IsCacheRun changes old (event ∷ events) new = MayHappen old event
    × IsCacheRun changes (cell_after changes old event) events new

-- ---- which objects an entry changes

-- it misses no change: an entry that is said not to change an object leaves its node, whatever history it stands
-- behind
abbrev pub MissesNoChange : (List ReplicaEntry → ReplicaEntry → Fid → Bool) → Type 0
MissesNoChange changes = (history : List ReplicaEntry) (e : ReplicaEntry) (fid : Fid) → changes history e fid ≡ false
    → node_at (history ++ e ∷ []) fid ≡ node_at history fid

-- it misses none and tells none too much: an entry that is said to change an object leaves another node
pub record TellsExactly (changes : List ReplicaEntry → ReplicaEntry → Fid → Bool) : Type 0 where
  pub if_changed : (history : List ReplicaEntry) (e : ReplicaEntry) (fid : Fid) → changes history e fid ≡ true
      → node_at (history ++ e ∷ []) fid ≢ node_at history fid
  pub if_same : (history : List ReplicaEntry) (e : ReplicaEntry) (fid : Fid) → changes history e fid ≡ false
      → node_at (history ++ e ∷ []) fid ≡ node_at history fid
