-- Of which kind objects are: of that with which they were made, whoever has them.
use Rattle.std.specs.Prelude.{◌≡◌, ℕ, Bool, true, false, ◌&&◌, ◌⊎◌, List, [], ◌∷◌, ◌++◌, Option, Some, Ok}
use Rattle.std.specs.Prelude.{option_map}
use Rattle.std.specs.FinMap as map
use Rattle.coda_fid.specs.Fid.{same_fid, root_of}
use Rattle.coda_fid.specs.declared.fid.Fid.{Fid}
use Rattle.coda_fid.specs.declared.op.Op.{Op}
use Rattle.coda_fid.specs.declared.op.Op.TheVariants.{Create, Mkdir, Symlink}
use Rattle.coda_fid.specs.declared.op.Record.{Record}
use Rattle.coda_tree.specs.declared.node.Node.{Node}
use Rattle.coda_tree.specs.declared.node.NodeKind.{NodeKind}
use Rattle.coda_tree.specs.declared.node.NodeKind.TheVariants.{File, Link, Dir}
use Rattle.coda_tree.specs.Volume.{Nodes}
use Rattle.coda_certify.specs.Verdicts.{verdict_of, nodes_left}
use Rattle.coda_certify.specs.declared.verdict.Verdict.TheVariants.{Applied}
use Rattle.coda_cml.specs.Steady.{any_record}
use Rattle.coda_script.specs.declared.line.Line.{Line}
use Rattle.coda_script.specs.declared.reply.Reply.{Reply}
use Rattle.coda_plain.specs.Histories.{left_by}
use Rattle.coda_plain.specs.Deeds.{Deed, operation_in, full_of}
use Rattle.coda_plain.specs.Objects.{nodes_in}
use Rattle.coda_plain.specs.Decisions.{ReplicaEntry, Decided, Resolved, decision, Kept, kept_after, kept_of, nodes_of}
use Rattle.coda_plain.specs.Cell.{ClientEntry, deed_on, PlainCell, Histories}
use Rattle.coda_plain.specs.Moves.{done_on}
use Rattle.coda_plain.specs.Promises.{AreKept}
use Rattle.coda_plain.specs.Sound.{deeds_in}
use Rattle.coda_venus.specs.Accepting.{accept}
use Rattle.coda_venus.specs.Ask.{Asked}
use Rattle.coda_venus.specs.Held.{Held, held_after_operation, held_after_fetch}
use Rattle.coda_cell.specs.Accepting.{sight_of}
use Rattle.coda_cell.specs.Held.{held_after_deed, held_after_drops}
use Rattle.coda_cell.specs.Laws.{MayReplace}
use Rattle.coda_cell.specs.Made.{MadeCell, nothing_made, client_of, state_of, grown, grown_all}
use Rattle.coda_cell.specs.Runs.{IsKept, IsLeft, MakesNumbered}
use Rattle.coda_cell.specs.State.{ClientState, ReplicaState, Event, at_client}
use Rattle.coda_cell.specs.Steps.{Does}
use Rattle.coda_creations.specs.Places.{NoneTookOver}

-- a file, a symbolic link or a directory
pub data Kind : Type 0 where
  AFile : Kind
  ALink : Kind
  ADirectory : Kind

abbrev pub kind_of : NodeKind → Kind
kind_of (File content) = AFile
kind_of (Link target) = ALink
kind_of (Dir entries) = ADirectory

-- the kind of the node, where there is one
abbrev pub kind_in : Option Node → Option Kind
kind_in o = option_map (λ (node : Node). kind_of node.kind) o

-- of which kind the object is that stands at the fid
abbrev pub kind_at : Nodes → Fid → Option Kind
kind_at m fid = kind_in (map.get m fid)

-- ---- what makes objects

abbrev pub is_file : Kind → Bool
is_file AFile = true
is_file ALink = false
is_file ADirectory = false

abbrev pub is_link : Kind → Bool
is_link AFile = false
is_link ALink = true
is_link ADirectory = false

abbrev pub is_directory : Kind → Bool
is_directory AFile = false
is_directory ALink = false
is_directory ADirectory = true

-- whether an operation creates the object, of this kind
abbrev pub makes : Fid → Kind → Op → Bool
makes fid kind (Create dir name it mode owner) = is_file kind && same_fid it fid
makes fid kind (Mkdir dir name it mode owner) = is_directory kind && same_fid it fid
makes fid kind (Symlink dir name it target mode owner) = is_link kind && same_fid it fid
makes fid kind _ = false

-- The object was made of this kind, by what each client did on each volume: it is a volume's root, and a directory; or
-- an operation that the client of its fid did on the volume of its fid created it so.
abbrev pub IsMadeAs : (ℕ → ℕ → List Deed) → Fid → Kind → Type 0
IsMadeAs deeds fid kind = ((fid ≡ root_of fid.volume) × (kind ≡ ADirectory))
    ⊎ (any_record (makes fid kind) (full_of (deeds fid.vnode fid.volume)) ≡ true)

-- ---- replicas

-- an entry brought the object, of this kind: a span that was applied creates it so; or it is so in what the entry took
-- over
abbrev pub IsBroughtAsBy : Fid → Kind → Kept → ReplicaEntry → Type 0
IsBroughtAsBy fid kind kept (Decided client number span) = (verdict_of (decision kept.nodes client span) ≡ Applied)
    × (any_record (makes fid kind) span ≡ true)
IsBroughtAsBy fid kind kept (Resolved objects lasts) = kind_at (nodes_in objects) fid ≡ Some kind

-- one of the entries of a history did
abbrev pub IsBroughtAs : Fid → Kind → Kept → List ReplicaEntry → Type 0
IsBroughtAs fid kind kept [] = ⊥
IsBroughtAs fid kind kept (e ∷ es) = IsBroughtAsBy fid kind kept e ⊎ IsBroughtAs fid kind (kept_after kept e) es

-- What stands at a fid behind a decision is of the kind of what stood there, or an operation of the span created it of
-- this kind.
abbrev pub DecisionsKeepKinds : Type 0
DecisionsKeepKinds = (m : Nodes) (client : ℕ) (span : List Record) (fid : Fid) (kind : Kind)
    → kind_at (nodes_left m (decision m client span)) fid ≡ Some kind
    → (kind_at m fid ≡ Some kind) ⊎ (any_record (makes fid kind) span ≡ true)

-- What stands at a fid behind entries of a history is of the kind of what stood there, or was brought of this kind; so
-- what a replica has is the root of its volume, and a directory, or was brought of its kind. Where histories keep what
-- is promised, and nothing was taken over, it is of the kind with which it was made; so replicas of a volume agree on
-- it, where no client has the number 0.
pub record ReplicasKeepKinds : Type 0 where
  pub kept : (before : Kept) (entries : List ReplicaEntry) (fid : Fid) (kind : Kind)
      → kind_at (left_by kept_after before entries).nodes fid ≡ Some kind
      → (kind_at before.nodes fid ≡ Some kind) ⊎ IsBroughtAs fid kind before entries
  pub brought : (volume : ℕ) (history : List ReplicaEntry) (fid : Fid) (kind : Kind)
      → kind_at (nodes_of volume history) fid ≡ Some kind
      → ((fid ≡ root_of volume) × (kind ≡ ADirectory)) ⊎ IsBroughtAs fid kind (kept_of volume []) history
  pub made : (h : Histories) (volume server : ℕ) (fid : Fid) (kind : Kind) → ((c : ℕ) → AreKept h c volume)
      → NoneTookOver (h.replicas server volume)
      → kind_at (nodes_of volume (h.replicas server volume)) fid ≡ Some kind → IsMadeAs (deeds_in h) fid kind
  pub agreed : (h : Histories) (volume server second : ℕ) (fid : Fid) (one other : Kind)
      → ((c : ℕ) → AreKept h c volume) → h.clients 0 ≡ [] → NoneTookOver (h.replicas server volume)
      → NoneTookOver (h.replicas second volume)
      → kind_at (nodes_of volume (h.replicas server volume)) fid ≡ Some one
      → kind_at (nodes_of volume (h.replicas second volume)) fid ≡ Some other → one ≡ other

-- ---- clients

-- What a client holds at a fid behind an operation that it accepts is of the kind of what it held there, or the
-- operation created it of this kind; behind a fetch, or it is the node that was fetched; and behind drops it is of the
-- kind of what it was. Chunks, settlements and a log that is given up leave what it holds.
pub record ClientsKeepKinds : Type 0 where
  pub operated : (c : ClientState) (volume : ℕ) (ask : Asked) (rec : Record) (fid : Fid) (kind : Kind)
      → accept (sight_of c volume) volume ask ≡ Ok rec.op
      → kind_at (held_after_operation c.held c.number rec).nodes fid ≡ Some kind
      → (kind_at c.held.nodes fid ≡ Some kind) ⊎ (makes fid kind rec.op ≡ true)
  pub fetched : (held : Held) (at : Fid) (parent : Option Fid) (node : Node) (fid : Fid) (kind : Kind)
      → kind_at (held_after_fetch held at parent node).nodes fid ≡ Some kind
      → (kind_at held.nodes fid ≡ Some kind) ⊎ ((fid ≡ at) × (kind_of node.kind ≡ kind))
  pub dropped : (held : Held) (gone : List Fid) (fid : Fid) (kind : Kind)
      → kind_at (held_after_drops held gone).nodes fid ≡ Some kind → kind_at held.nodes fid ≡ Some kind
  pub settled : (held : Held) (client : ℕ) (deed : Deed) → operation_in deed ≡ []
      → held_after_deed held client deed ≡ held

-- ---- cells

-- whatever an actor of the cell has is of the kind with which it was made
pub record AreAsMade (cell : PlainCell) : Type 0 where
  pub replicas : (server volume : ℕ) (fid : Fid) (kind : Kind)
      → kind_at (nodes_of volume (cell.replicas server volume).history) fid ≡ Some kind
      → IsMadeAs (done_on cell) fid kind
  pub clients : (client blocks : ℕ) (fid : Fid) (kind : Kind)
      → kind_at (client_of client (cell.clients client).history blocks).held.nodes fid ≡ Some kind
      → IsMadeAs (done_on cell) fid kind

-- a client, and the replica of an object's volume, in a cell at a moment
pub record HaveBoth (cell : MadeCell) (fid : Fid) (number : ℕ) (c : ClientState) (r : ReplicaState) : Type 0 where
  pub client : (state_of cell).clients number ≡ Some c
  pub replica : (state_of cell).replicas fid.volume ≡ Some r

-- lines lead from one cell to another, each with some reply
abbrev pub LinesLead : MadeCell → List Line → MadeCell → Type 0
LinesLead old [] new = new ≡ old
LinesLead old (said ∷ lines) new = (reply : Reply) × (events : List Event) × MakesNumbered said
    × Does (state_of old) said reply events × LinesLead (grown_all old events) lines new

-- Whatever an actor has at a fid is of the kind with which the object was made: in a cell that is kept each line keeps
-- it so, also one that is stopped behind any of its events, and it is so in each cell to which lines lead from the
-- first one. So does any entry of a client that might come and leaves a cell that is kept, other than an operation: a
-- fetch of what it holds already, too. An object is made of one kind. So a node that the replica of its volume has may
-- come in the place of the one that a client holds.
pub record LinesKeepKinds : Type 0 where
  pub lines : (old : MadeCell) (said : Line) (reply : Reply) (events : List Event) → IsKept old → MakesNumbered said
      → Does (state_of old) said reply events → AreAsMade old.acted → AreAsMade (grown_all old events).acted
  pub fronts : (old : MadeCell) (said : Line) (reply : Reply) (done rest : List Event) → IsKept old
      → MakesNumbered said → Does (state_of old) said reply (done ++ rest) → AreAsMade old.acted
      → AreAsMade (grown_all old done).acted
  pub reached : (lines : List Line) (cell : MadeCell) → LinesLead nothing_made lines cell
      → IsKept cell × AreAsMade cell.acted
  pub entered : (old : MadeCell) (client : ℕ) (entry : ClientEntry)
      → ((volume : ℕ) → full_of (deed_on volume entry) ≡ []) → IsLeft old (at_client client entry ∷ [])
      → AreAsMade old.acted → AreAsMade (grown old (at_client client entry)).acted
  pub once : (cell : MadeCell) (fid : Fid) (one other : Kind) → IsKept cell → IsMadeAs (done_on cell.acted) fid one
      → IsMadeAs (done_on cell.acted) fid other → one ≡ other
  pub replaced : (cell : MadeCell) (fid : Fid) (node : Node) (number : ℕ) (c : ClientState) (r : ReplicaState)
      → IsKept cell → AreAsMade cell.acted → HaveBoth cell fid number c r → map.get r.tree.nodes fid ≡ Some node
      → MayReplace cell.acted c fid node

-- In a cell to which lines lead from the first one, what a client holds at a fid and what the replica of the fid's
-- volume has there are of one kind.
abbrev pub ObjectsKeepTheirKind : Type 0
ObjectsKeepTheirKind =
    (lines : List Line) (cell : MadeCell) (fid : Fid) (number : ℕ) (c : ClientState) (r : ReplicaState)
    (one other : Kind) → LinesLead nothing_made lines cell → HaveBoth cell fid number c r
    → kind_at c.held.nodes fid ≡ Some one → kind_at r.tree.nodes fid ≡ Some other → one ≡ other
