-- What the entries of a client's history do.
use Rattle.std.specs.Prelude.{◌≡◌, ◌≢◌, ◌+◌, ℕ, List, Option, Some, None, IsSome, Ok}
use Rattle.std.specs.FinMap as map
use Rattle.coda_fid.specs.Fid.{root_of}
use Rattle.coda_fid.specs.declared.fid.Fid.{Fid}
use Rattle.coda_fid.specs.declared.op.Attrs.{Attrs}
use Rattle.coda_fid.specs.declared.op.Record.{Record}
use Rattle.coda_tree.specs.Bindings.{Name}
use Rattle.coda_tree.specs.declared.node.Node.{Node}
use Rattle.coda_record.specs.declared.entry.ClientEntry.{ClientEntry}
use Rattle.coda_record.specs.declared.entry.ClientEntry.TheVariants.{Op, Fetched, Dropped}
use Rattle.coda_venus.specs.Ask.{Asked, Store, Setattr}
use Rattle.coda_venus.specs.History.{IsDirty, MayEnter}
use Rattle.coda_venus.specs.Keeping.{operation, done_of}
use Rattle.coda_venus.specs.Looking.{resolve}
use Rattle.coda_venus.specs.State.{ClientState, client_after}

-- what is cached of an object
abbrev pub cached : ClientState → Fid → Option Node
cached c fid = map.get c.held.nodes fid

-- the entry is no operation of the client
abbrev pub IsNoOperation : ClientEntry → Type 0
IsNoOperation (Op volume rec) = ⊥
IsNoOperation entry = Unit {0}

pub record EntriesDoWhatTheySay : Type 0 where
  pub fetched : (c : ClientState) (fid : Fid) (parent : Option Fid) (node : Node) → cached (client_after c (Fetched fid parent node)) fid ≡ Some node
  pub fetched_alone : (c : ClientState) (fid : Fid) (parent : Option Fid) (node : Node) (other : Fid) → other ≢ fid → cached (client_after c (Fetched fid parent node)) other ≡ cached c other
  pub dropped : (c : ClientState) (fid : Fid) → cached (client_after c (Dropped fid)) fid ≡ None
  pub dropped_alone : (c : ClientState) (fid other : Fid) → other ≢ fid → cached (client_after c (Dropped fid)) other ≡ cached c other
  pub pending_stays : (c : ClientState) (entry : ClientEntry) (fid : Fid) → MayEnter c entry → IsNoOperation entry → IsSome (cached c fid) → IsDirty c fid → cached (client_after c entry) fid ≡ cached c fid

-- An ask becomes an operation at the time that was given, with the next number; a store and a change of attributes are answered with the
-- object that the path leads to.
pub record OperationsAreAsAsked : Type 0 where
  pub numbered : (c : ClientState) (time volume : ℕ) (ask : Asked) (rec : Record) → operation c time volume ask ≡ Ok rec → (rec.time ≡ time) × (rec.number ≡ (c.volumes volume).log.last + 1)
  pub stored : (c : ClientState) (time volume : ℕ) (path : List Name) (content : List ℕ) (rec : Record) → operation c time volume (Store path content) ≡ Ok rec → resolve c.held.nodes (root_of volume) path ≡ Ok (done_of rec).fid
  pub changed : (c : ClientState) (time volume : ℕ) (path : List Name) (attrs : Attrs) (rec : Record) → operation c time volume (Setattr path attrs) ≡ Ok rec → resolve c.held.nodes (root_of volume) path ≡ Ok (done_of rec).fid
