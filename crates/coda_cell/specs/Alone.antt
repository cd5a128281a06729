-- A client that works alone on a volume.
use Rattle.std.specs.Prelude.{◌≡◌, ℕ, ◌<◌, false, Some, None, Ok, List, [], ◌∷◌}
use Rattle.std.specs.FinMap as map
use Rattle.coda_fid.specs.Fid.{root_of}
use Rattle.coda_fid.specs.declared.fid.Fid.{Fid}
use Rattle.coda_fid.specs.declared.op.Op.{Op}
use Rattle.coda_fid.specs.declared.op.Record.{Record}
use Rattle.coda_tree.specs.declared.node.Node.{Node}
use Rattle.coda_tree.specs.Volume.{IsVolume, parent_of}
use Rattle.coda_certify.specs.declared.verdict.Verdict.TheVariants.{Applied}
use Rattle.coda_certify.specs.Checks.{certify}
use Rattle.coda_certify.specs.Verdicts.{verdict_of}
use Rattle.coda_plain.specs.Decisions.{decision}
use Rattle.coda_venus.specs.Ask.{Asked}
use Rattle.coda_venus.specs.Held.{Held, held_after_operation}
use Rattle.coda_venus.specs.Accepting.{Sight, accept}

-- What is held is a whole volume: nothing of it is missing or marked, each object has as its parent the directory that binds it, and
-- there is room for one object more.
pub record IsWhole (volume : ℕ) (h : Held) : Type 0 where
  pub tree : IsVolume (root_of volume) h.nodes
  pub parents : (fid : Fid) → map.get h.parents fid ≡ parent_of h.nodes fid
  pub unmarked : (fid : Fid) (node : Node) → map.get h.nodes fid ≡ Some node → node.marked ≡ false
  pub room : map.len h.nodes < 100000

-- Where what a client holds is a whole volume, certification there has nothing against an operation that the client accepts.
abbrev pub AcceptedOperationsCertify : Type 0
AcceptedOperationsCertify = (s : Sight) (volume : ℕ) (ask : Asked) (op : Op) → IsWhole volume s.held → accept s volume ask ≡ Ok op → certify s.held.nodes op ≡ None

-- operations that a client accepts one after the other, each on what those before it left, which is a whole volume
pub data AreAccepted (volume client : ℕ) : Held → List Record → Type 0 where
  no_more : (h : Held) → AreAccepted volume client h []
  one_more : (s : Sight) (ask : Asked) (rec : Record) (run : List Record) → IsWhole volume s.held → accept s volume ask ≡ Ok rec.op
      → AreAccepted volume client (held_after_operation s.held client rec) run → AreAccepted volume client s.held (rec ∷ run)

-- A client that works alone never meets a conflict: where a server has the volume that a client held when it accepted the operations of a
-- chunk, the chunk is applied.
abbrev pub ClientsAloneMeetNoConflict : Type 0
ClientsAloneMeetNoConflict = (volume client : ℕ) (h : Held) (run : List Record) → AreAccepted volume client h run → verdict_of (decision h.nodes client run) ≡ Applied
