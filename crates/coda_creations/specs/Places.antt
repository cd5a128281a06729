-- Where the objects are bound that a client's log creates, and which objects servers have of those.
use Rattle.std.specs.Prelude.{◌≡◌, ◌≢◌, ◌⊎◌, ℕ, true, false, List, [], ◌∷◌, ◌++◌, Some, Ok}
use Rattle.std.specs.FinMap as map
use Rattle.coda_fid.specs.Fid.{root_of}
use Rattle.coda_fid.specs.declared.fid.Fid.{Fid}
use Rattle.coda_fid.specs.declared.op.Op.{Op}
use Rattle.coda_fid.specs.declared.op.Op.TheVariants.{Remove, Rmdir}
use Rattle.coda_fid.specs.declared.op.Record.{Record}
use Rattle.coda_tree.specs.declared.node.Node.{Node}
use Rattle.coda_tree.specs.Bindings.{Name}
use Rattle.coda_tree.specs.Volume.{Nodes, has, child, child_of}
use Rattle.coda_certify.specs.Replay.{applied}
use Rattle.coda_certify.specs.Verdicts.{verdict_of, nodes_left}
use Rattle.coda_certify.specs.declared.verdict.Verdict.TheVariants.{Applied, Conflict}
use Rattle.coda_cancel.specs.Cancel.{add, added}
use Rattle.coda_cancel.specs.Dropping.{creates}
use Rattle.coda_cml.specs.Segments.{records_upto}
use Rattle.coda_cml.specs.Steady.{any_record, unbinds, IsFresh}
use Rattle.coda_plain.specs.Deeds.{Deed, Froze, Settled, course_of, pending_of, AreLawful, AreNumberedObjects}
use Rattle.coda_plain.specs.Cell.{Histories}
use Rattle.coda_plain.specs.Sound.{deeds_in}
use Rattle.coda_plain.specs.Promises.{Decides, AreKept}
use Rattle.coda_plain.specs.Logs.{back_of}
use Rattle.coda_plain.specs.Objects.{nodes_in}
use Rattle.coda_plain.specs.Decisions.{ReplicaEntry, Decided, Resolved, decision, Kept, kept_after, kept_of, nodes_of}
use Rattle.coda_plain.specs.Decisions.{Decision, verdict_on}
use Rattle.coda_cell.specs.Accepting.{sight_of}
use Rattle.coda_venus.specs.Accepting.{accept}
use Rattle.coda_venus.specs.Ask.{Asked}
use Rattle.coda_cell.specs.State.{ClientState}
use Rattle.coda_overlay.specs.Overlaying.{AreCreatedAt, RemovesInPlace, AllRemoveInPlace}

-- wherever an object is bound that the records create and don't unbind, they created it there
abbrev pub AreWhereCreated : Nodes → List Record → Type 0
AreWhereCreated m recs = (fid dir : Fid) (name : Name) → any_record (creates fid) recs ≡ true
    → any_record (unbinds fid) recs ≡ false → child m dir name ≡ Some fid → AreCreatedAt dir name fid recs

-- the operation creates nothing that the records create, or that is bound
pub record CreatesUnseen (m : Nodes) (recs : List Record) (op : Op) : Type 0 where
  pub new : (fid : Fid) → creates fid op ≡ true → any_record (creates fid) recs ≡ false
  pub unbound : (fid dir : Fid) (name : Name) → creates fid op ≡ true → child m dir name ≡ Some fid → ⊥

-- a removal of what the records before don't unbind is from where they created it, if they did
abbrev pub RemovesUnmoved : List Record → Op → Type 0
RemovesUnmoved past (Remove dir name fid pre) = any_record (unbinds fid) past ≡ false → AreCreatedAt dir name fid past
RemovesUnmoved past (Rmdir dir name fid pre) = any_record (unbinds fid) past ≡ false → AreCreatedAt dir name fid past
RemovesUnmoved past _ = Unit {0}

-- each removal of the records is so, of those before it
abbrev pub AllRemoveUnmoved : List Record → List Record → Type 0
AllRemoveUnmoved past [] = Unit {0}
AllRemoveUnmoved past (rec ∷ recs) = RemovesUnmoved past rec.op × AllRemoveUnmoved (past ++ rec ∷ []) recs

-- each creation of the records is of something that none before it mentions
abbrev pub AllCreateFresh : List Record → List Record → Type 0
AllCreateFresh past [] = Unit {0}
AllCreateFresh past (rec ∷ recs) = IsFresh rec.op past × AllCreateFresh (past ++ rec ∷ []) recs

-- A log is in place over what is cached, with the records in front of its tail that may yet come back to it: each creation
-- is of something that none before it mentions; each removal of what wasn't moved is from where it was created; and what
-- was created and not moved is bound nowhere else.
pub record IsLogInPlace (m : Nodes) (front tail : List Record) : Type 0 where
  pub fresh : AllCreateFresh [] (front ++ tail)
  pub unmoved : AllRemoveUnmoved [] (front ++ tail)
  pub placed : AreWhereCreated m (front ++ tail)

-- ---- the laws

-- Where objects are bound where they were created, a removal that is accepted is from there: if it undoes the
-- creation, or if nothing unbound the object.
abbrev pub AcceptedRemovalsAreInPlace : Type 0
AcceptedRemovalsAreInPlace = (c : ClientState) (volume : ℕ) (ask : Asked) (op : Op) (recs : List Record)
    → accept (sight_of c volume) volume ask ≡ Ok op → AreWhereCreated c.held.nodes recs
    → RemovesInPlace recs op × RemovesUnmoved recs op

-- Objects stay bound where they were created by an operation that creates something unseen; by a fetch of a node that
-- binds nothing which the records create; and by a drop.
pub record ObjectsStayWhereCreated : Type 0 where
  pub operated : (m : Nodes) (client : ℕ) (rec : Record) (front tail : List Record)
      → CreatesUnseen m (front ++ tail) rec.op → AreWhereCreated m (front ++ tail)
      → AreWhereCreated (applied m client rec) (front ++ add tail rec)
  pub fetched : (m : Nodes) (fid : Fid) (node : Node) (recs : List Record)
      → ((name : Name) (kid : Fid) → child_of (Some node) name ≡ Some kid → any_record (creates kid) recs ≡ false)
      → AreWhereCreated m recs → AreWhereCreated (map.insert m fid node) recs
  pub dropped : (m : Nodes) (fid : Fid) (recs : List Record) → AreWhereCreated m recs
      → AreWhereCreated (map.remove m fid) recs

-- Where chunk and tail remove what they didn't move from where they created it, and create fresh objects, the tail
-- removes in place as it is added to the chunk.
abbrev pub UnmovedRemovalsAreInPlace : Type 0
UnmovedRemovalsAreInPlace = (chunk tail : List Record) → AllRemoveUnmoved chunk tail
    → AllCreateFresh [] (chunk ++ tail) → AllRemoveInPlace chunk tail

-- A log stays in place: by an operation that is accepted and creates something unseen; by a fetch of a node that binds
-- nothing which the log creates; and by a drop. It is so where its front is frozen, where the chunk was applied, or may
-- have been, and is no longer counted, and where the chunk met a conflict and the tail is added to it. In such a log the
-- tail removes in place as it is added to the chunk.
pub record LogsStayInPlace : Type 0 where
  pub operated : (c : ClientState) (volume : ℕ) (ask : Asked) (rec : Record) (front tail : List Record)
      → accept (sight_of c volume) volume ask ≡ Ok rec.op → IsFresh rec.op (front ++ tail)
      → CreatesUnseen c.held.nodes (front ++ tail) rec.op → IsLogInPlace c.held.nodes front tail
      → IsLogInPlace (applied c.held.nodes c.number rec) front (add tail rec)
  pub fetched : (m : Nodes) (fid : Fid) (node : Node) (front tail : List Record)
      → ((name : Name) (kid : Fid) → child_of (Some node) name ≡ Some kid
      → any_record (creates kid) (front ++ tail) ≡ false)
      → IsLogInPlace m front tail → IsLogInPlace (map.insert m fid node) front tail
  pub dropped : (m : Nodes) (fid : Fid) (front tail : List Record) → IsLogInPlace m front tail
      → IsLogInPlace (map.remove m fid) front tail
  pub frozen : (m : Nodes) (front back : List Record) → IsLogInPlace m [] (front ++ back) → IsLogInPlace m front back
  pub settled : (m : Nodes) (chunk tail : List Record) → IsLogInPlace m chunk tail → IsLogInPlace m [] tail
  pub thawed : (m : Nodes) (chunk tail : List Record) → IsLogInPlace m chunk tail → IsLogInPlace m [] (added chunk tail)
  pub comes_back : (m : Nodes) (chunk tail : List Record) → IsLogInPlace m chunk tail → AllRemoveInPlace chunk tail

-- ---- what servers have

-- the object is there, or is bound somewhere
abbrev pub IsHeldOrBound : Nodes → Fid → Type 0
IsHeldOrBound m f = (has m f ≡ true) ⊎ ((dir : Fid) × (name : Name) × (child m dir name ≡ Some f))

-- What is held or bound behind a decision was so before it, or an operation of its span created it.
abbrev pub DecisionsBringCreations : Type 0
DecisionsBringCreations = (m : Nodes) (client : ℕ) (span : List Record) (f : Fid)
    → IsHeldOrBound (nodes_left m (decision m client span)) f
    → IsHeldOrBound m f ⊎ (any_record (creates f) span ≡ true)

-- an entry brought the object: a span that was applied creates it; or it is held or bound in what the entry took over
abbrev pub IsBroughtBy : Fid → Kept → ReplicaEntry → Type 0
IsBroughtBy f kept (Decided client number span) = (verdict_of (decision kept.nodes client span) ≡ Applied)
    × (any_record (creates f) span ≡ true)
IsBroughtBy f kept (Resolved objects lasts) = IsHeldOrBound (nodes_in objects) f

-- one of the entries of a history did
abbrev pub IsBrought : Fid → Kept → List ReplicaEntry → Type 0
IsBrought f kept [] = ⊥
IsBrought f kept (e ∷ es) = IsBroughtBy f kept e ⊎ IsBrought f (kept_after kept e) es

-- What a replica holds or binds is the root of its volume, or was brought by an entry of its history.
abbrev pub ReplicasHaveWhatWasBrought : Type 0
ReplicasHaveWhatWasBrought = (volume : ℕ) (history : List ReplicaEntry) (f : Fid)
    → IsHeldOrBound (nodes_of volume history) f → (f ≡ root_of volume) ⊎ IsBrought f (kept_of volume []) history

-- ---- what tails create

-- the chunk of this number met no conflict
abbrev pub MetNoConflict : ℕ → List Deed → Type 0
MetNoConflict number [] = Unit {0}
MetNoConflict number (Settled n (Conflict refused why) ∷ deeds) = (n ≡ number → ⊥) × MetNoConflict number deeds
MetNoConflict number (deed ∷ deeds) = MetNoConflict number deeds

-- Where the client numbers what it creates: what a chunk creates that met no conflict the tail doesn't create, whatever
-- was done since the chunk was frozen.
abbrev pub ChunksAndTailsCreateApart : Type 0
ChunksAndTailsCreateApart =
    (volume client : ℕ) (past more : List Deed) (number home last : ℕ) (f : Fid)
    → AreLawful (past ++ Froze number home last ∷ more)
    → AreNumberedObjects volume client (past ++ Froze number home last ∷ more) → MetNoConflict number more
    → any_record (creates f) (records_upto last (pending_of past)) ≡ true
    → any_record (creates f) (back_of (past ++ Froze number home last ∷ more)) ≡ false

-- ---- servers lack what tails create

-- each entry of a history decided a chunk: none took over what a resolution left
abbrev pub NoneTookOver : List ReplicaEntry → Type 0
NoneTookOver [] = Unit {0}
NoneTookOver (Decided client number span ∷ es) = NoneTookOver es
NoneTookOver (Resolved objects lasts ∷ es) = ⊥

-- The tail of a client's log doesn't create the object; nor does what is pending, where this server didn't apply the
-- chunk that is frozen.
pub record IsOutsideTail (h : Histories) (volume server client : ℕ) (f : Fid) : Type 0 where
  pub tail : any_record (creates f) (back_of (deeds_in h client volume)) ≡ false
  pub whole : ((d : Decision) → Decides h server volume d → d.client ≡ client → verdict_on d ≡ Applied
      → d.number ≢ (course_of (deeds_in h client volume)).chunks)
      → any_record (creates f) (pending_of (deeds_in h client volume)) ≡ false

-- What a replica holds or binds, but for the root, is outside each client's tail: where histories keep what is
-- promised, and nothing was taken over.
abbrev pub ServersLackWhatTailsCreate : Type 0
ServersLackWhatTailsCreate =
    (h : Histories) (volume server client : ℕ) (f : Fid) → ((c : ℕ) → AreKept h c volume)
    → NoneTookOver (h.replicas server volume)
    → IsHeldOrBound (nodes_of volume (h.replicas server volume)) f → f ≢ root_of volume
    → IsOutsideTail h volume server client f
