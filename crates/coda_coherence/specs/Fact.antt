-- The callback fact: of a valid copy that isn't dirty, and of what its server has since.
use Rattle.std.specs.Prelude.{◌≡◌, ◌≢◌, ℕ, ◌+◌, ◌<◌, ◌≤◌, Bool, true, false, List, [], ◌∷◌, length, take, Option}
use Rattle.std.specs.Prelude.{Some, None, ◌⊎◌}
use Rattle.coda_fid.specs.declared.fid.Fid.{Fid}
use Rattle.coda_callback.specs.Callbacks.{Callbacks, names, is_promised, is_waiting}
use Rattle.coda_plain.specs.Decisions.{ReplicaEntry}
use Rattle.coda_copies.specs.Copies.{cached_node, IsCopyOf}
use Rattle.coda_venus.specs.Accepting.{is_mentioned}
use Rattle.coda_coherence.specs.Cell.{Copy, Break, CachingCell, empty_caching_cell, node_at, given, CacheEvent}
use Rattle.coda_coherence.specs.Cell.{Fetched, Delivered, IsCacheRun, MissesNoChange}

-- a Break from the server to the client, naming the object, stands in the pool and was not delivered yet
pub record IsBreakUnderWay (breaks : ℕ → Option Break) (server client : ℕ) (fid : Fid) : Type 0 where
  pub number : ℕ
  pub letter : Break
  pub posted : breaks number ≡ Some letter
  pub from_server : letter.server ≡ server
  pub to_client : letter.client ≡ client
  pub named : names letter.fids fid ≡ true
  pub undelivered : letter.delivered ≡ false

-- an entry of the history behind the first so many changed the object
abbrev pub IsChangedSince : List ReplicaEntry → ℕ → Fid → Type 0
IsChangedSince history position fid = (at : ℕ) × (position ≤ at) × (at < length history)
    × (node_at (take (at + 1) history) fid ≢ node_at (take at history) fid)

-- whether a record of its client's log mentions the object
abbrev pub is_dirty : CachingCell → ℕ → Fid → Bool
is_dirty cell client fid = is_mentioned ((cell.clients client).volumes fid.volume) fid

-- Of a valid copy: the link to its server is up; what is cached is what the server gave; and where the object changed
-- at that server since, it waits there for the client or a Break that names it is under way.
pub record IsCalledBack (cell : CachingCell) (client : ℕ) (fid : Fid) (copy : Copy) : Type 0 where
  pub is_linked : cell.links client copy.server ≡ true
  pub is_given : cached_node (cell.clients client) fid ≡ given cell fid copy
  pub is_told : IsChangedSince (cell.histories copy.server fid.volume) copy.position fid
      → (is_waiting (cell.callbacks copy.server fid.volume) client fid ≡ true)
      ⊎ IsBreakUnderWay cell.breaks copy.server client fid

-- So it is of each valid copy that isn't dirty.
abbrev pub CallbackFact : CachingCell → Type 0
CallbackFact cell = (client : ℕ) (fid : Fid) (copy : Copy) → cell.copies client fid ≡ Some copy
    → is_dirty cell client fid ≡ false → IsCalledBack cell client fid copy

-- It holds whatever happened since a cell was empty.
abbrev pub CallbackFactHolds : Type 0
CallbackFactHolds = (changes : List ReplicaEntry → ReplicaEntry → Fid → Bool) (sizes : ℕ → ℕ)
    (events : List CacheEvent) (cell : CachingCell) → MissesNoChange changes
    → IsCacheRun changes (empty_caching_cell sizes) events cell → CallbackFact cell

-- a fetch of the object by the client
abbrev pub IsFetchOf : ℕ → Fid → CacheEvent → Type 0
IsFetchOf client fid (Fetched c server f parent node) = (c ≡ client) × (f ≡ fid)
IsFetchOf client fid _ = ⊥

-- none of the events is one
abbrev pub NoneFetches : ℕ → Fid → List CacheEvent → Type 0
NoneFetches client fid [] = Unit {0}
NoneFetches client fid (event ∷ events) = (IsFetchOf client fid event → ⊥) × NoneFetches client fid events

-- Once a Break that names an object was delivered, its client has no valid copy of it until it fetches it again,
-- whatever else happens.
abbrev pub NoCopyOutlivesItsBreak : Type 0
NoCopyOutlivesItsBreak =
    (changes : List ReplicaEntry → ReplicaEntry → Fid → Bool) (old : CachingCell) (number : ℕ) (letter : Break)
    (fid : Fid) (events : List CacheEvent) (cell : CachingCell) → old.breaks number ≡ Some letter
    → names letter.fids fid ≡ true
    → IsCacheRun changes old (Delivered number ∷ events) cell → NoneFetches letter.client fid events
    → cell.copies letter.client fid ≡ None

-- ---- what each event keeps

-- no entry of the history behind the first so many changed the object
abbrev pub IsUnchangedSince : List ReplicaEntry → ℕ → Fid → Type 0
IsUnchangedSince history position fid = (at : ℕ) → position ≤ at → at < length history
    → node_at (take (at + 1) history) fid ≡ node_at (take at history) fid

-- the client has a promise on the object and it is unchanged; or it waits for the client; or a Break that names it is
-- under way
abbrev pub IsPromisedOrTold : List ReplicaEntry → Callbacks → (ℕ → Option Break) → ℕ → Fid → Copy → Type 0
IsPromisedOrTold history callbacks breaks client fid copy =
    ((is_promised callbacks client fid ≡ true) × IsUnchangedSince history copy.position fid)
    ⊎ ((is_waiting callbacks client fid ≡ true) ⊎ IsBreakUnderWay breaks copy.server client fid)

-- Of each valid copy, dirty or not: its link is up; the server gave it; it is what the client's log leaves of what
-- was given; and it is promised or told of. Letters are numbered as they are posted.
pub record IsCoherent (cell : CachingCell) : Type 0 where
  pub linked : (client : ℕ) (fid : Fid) (copy : Copy) → cell.copies client fid ≡ Some copy
      → cell.links client copy.server ≡ true
  pub numbered : (number : ℕ) (letter : Break) → cell.breaks number ≡ Some letter → number ≤ cell.posted
  pub behind : (client : ℕ) (fid : Fid) (copy : Copy) → cell.copies client fid ≡ Some copy
      → copy.position ≤ length (cell.histories copy.server fid.volume)
  pub copied : (client : ℕ) (fid : Fid) (copy : Copy) → cell.copies client fid ≡ Some copy
      → IsCopyOf (cell.clients client) fid (given cell fid copy)
  pub told : (client : ℕ) (fid : Fid) (copy : Copy) → cell.copies client fid ≡ Some copy
      → IsPromisedOrTold (cell.histories copy.server fid.volume) (cell.callbacks copy.server fid.volume) cell.breaks
      client fid copy
