-- What holds of every client.
use Rattle.std.specs.Prelude.{◌≡◌, ◌≢◌, ℕ, true, false, Some, Ok}
use Rattle.std.specs.FinMap as map
use Rattle.coda_fid.specs.declared.fid.Fid.{Fid}
use Rattle.coda_fid.specs.declared.op.Op.{Op}
use Rattle.coda_fid.specs.declared.op.Record.{Record}
use Rattle.coda_tree.specs.declared.node.Node.{Node}
use Rattle.coda_tree.specs.Bindings.{Name}
use Rattle.coda_tree.specs.Volume.{bindings, has, IsDir, IsDirAt}
use Rattle.coda_plain.specs.Cell.{PlainCell}
use Rattle.coda_plain.specs.Deeds.{IsMade}
use Rattle.coda_plain.specs.Moves.{done_on}
use Rattle.coda_venus.specs.Ask.{Asked}
use Rattle.coda_venus.specs.Held.{AreBound, held_after_operation, held_after_drop}
use Rattle.coda_cell.specs.State.{ClientState}
use Rattle.coda_cell.specs.Accepting.{is_mentioned, sight_of}
use Rattle.coda_cell.specs.Kept.{IsHolding}
use Rattle.coda_venus.specs.Accepting.{accept}

-- Where each object with a parent is bound there, an operation that the client accepts leaves each bound by its parent.
abbrev pub OperationsKeepHeldBound : Type 0
OperationsKeepHeldBound = (c : ClientState) (volume : ℕ) (ask : Asked) (op : Op) (rec : Record) → accept (sight_of c volume) volume ask ≡ Ok op → rec.op ≡ op → AreBound c.held → AreBound (held_after_operation c.held c.number rec)

-- no record of a log of the client mentions the object
abbrev pub IsClean : ClientState → Fid → Type 0
IsClean c fid = (volume : ℕ) → is_mentioned (c.volumes volume) fid ≡ false

-- A node may come in the place of one that a client holds: a directory in that of a directory; and what it binds is of its volume, and was made.
pub record MayReplace (cell : PlainCell) (c : ClientState) (fid : Fid) (node : Node) : Type 0 where
  pub kind : IsDirAt c.held.nodes fid → IsDir node.kind
  pub within : (name : Name) (kid : Fid) → map.get (bindings node.kind) name ≡ Some kid → kid.volume ≡ fid.volume
  pub made : (name : Name) (kid : Fid) → map.get (bindings node.kind) name ≡ Some kid → IsMade kid.volume (done_on cell kid.vnode kid.volume) kid

-- What a client holds stays in order where an object that no log mentions is fetched again, below the parent that it has; or where one is dropped
-- that is no object's parent.
pub record CachesStayInOrder : Type 0 where
  pub again : (cell : PlainCell) (c : ClientState) (fid : Fid) (node : Node) → IsHolding cell c → has c.held.nodes fid ≡ true → IsClean c fid → MayReplace cell c fid node
      → IsHolding cell (record c { held = record c.held { nodes = map.insert c.held.nodes fid node } })
  pub dropped : (cell : PlainCell) (c : ClientState) (fid : Fid) → IsHolding cell c → IsClean c fid → ((f : Fid) → map.get c.held.parents f ≢ Some fid)
      → IsHolding cell (record c { held = held_after_drop c.held fid })
