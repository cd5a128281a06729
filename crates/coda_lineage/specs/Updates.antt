-- What the decision of a record adds to version vectors and resolution logs, said by what happened to each object.
use Rattle.std.specs.Prelude.{◌≡◌, ◌≢◌, ◌⊎◌, ℕ, ◌+◌, true, [], Option, Some, None, option_map}
use Rattle.std.specs.FinMap as finmap
use Rattle.coda_fid.specs.declared.fid.Fid.{Fid}
use Rattle.coda_fid.specs.declared.fid.Sid.{Sid}
use Rattle.coda_fid.specs.declared.op.Op.{Op}
use Rattle.coda_fid.specs.declared.op.Record.{Record}
use Rattle.coda_tree.specs.declared.node.Node.{Node}
use Rattle.coda_tree.specs.declared.node.NodeKind.{NodeKind}
use Rattle.coda_tree.specs.declared.node.NodeKind.TheVariants.{File, Link, Dir}
use Rattle.coda_tree.specs.Bindings.{Name}
use Rattle.coda_tree.specs.Volume.{bindings}
use Rattle.coda_vv.specs.Vector.{count, no_updates, bumped}
use Rattle.coda_reslog.specs.declared.entry.ResEntry.{ResEntry}
use Rattle.coda_reslog.specs.declared.change.Held.{Held}
use Rattle.coda_certify.specs.Replay.{sid_of}
use Rattle.coda_overlay.specs.Overlaying.{takes_out}
use Rattle.coda_resolve.specs.Resolution.{Objects}
use Rattle.coda_lineage.specs.Deeds.{makes, pushed, IsDecision}

-- one node binds some name otherwise than another
abbrev pub BindsOtherwise : Node → Node → Type 0
BindsOtherwise old new = (n : Name) × (finmap.get (bindings new.kind) n ≢ finmap.get (bindings old.kind) n)

-- A record updated an object: it set contents or attributes, and left its version there, or it changed the entries of a
-- directory. The vector has one update more of the deciding server, and as many as before of each other; and the log,
-- where there is one, has that update behind those that it had.
pub record IsUpdated (server : ℕ) (sid : Sid) (old new : Held) : Type 0 where
  pub changed : (new.node.sid ≡ sid) ⊎ BindsOtherwise old.node new.node
  pub counted : new.vector.0 ≡ bumped old.vector.0 server
  pub update : ResEntry
  pub logged : new.ring ≡ option_map (pushed update) old.ring
  pub origin : update.origin ≡ server
  pub number : update.seq ≡ count old.vector.0 server + 1
  pub version : update.sid ≡ sid

-- a new file or link begins with one update of the deciding server, and without a log; a new directory with none, and
-- an empty log
abbrev pub IsBegun : ℕ → NodeKind → Held → Type 0
IsBegun server (File content) new = (new.vector.0 ≡ bumped no_updates server) × (new.ring ≡ None)
IsBegun server (Link target) new = (new.vector.0 ≡ bumped no_updates server) × (new.ring ≡ None)
IsBegun server (Dir entries) new = (new.vector.0 ≡ no_updates) × (new.ring ≡ Some [])

-- what a record of this version and operation makes of an object: nothing of one that isn't there; one goes that it
-- takes out; one comes that it makes, and begins; and one that was there is as it was in all parts, or updated
abbrev pub IsCountedAt : ℕ → Sid → Op → Fid → Option Held → Option Held → Type 0
IsCountedAt server sid op f None None = Unit {0}
IsCountedAt server sid op f (Some old) None = takes_out f op ≡ true
IsCountedAt server sid op f None (Some new) = (makes op ≡ Some f) × IsBegun server new.node.kind new
IsCountedAt server sid op f (Some old) (Some new) = (new ≡ old) ⊎ IsUpdated server sid old new

-- The decision of a certified record counts one update of the deciding server at each object whose entries, contents or
-- attributes the record changed, in its vector and in its log, and changes nothing else of any object.
abbrev pub DecisionsCountUpdates : Type 0
DecisionsCountUpdates = (server client : ℕ) (rec : Record) (before after : Objects) (f : Fid)
    → IsDecision server client rec before after
    → IsCountedAt server (sid_of client rec) rec.op f (finmap.get before f) (finmap.get after f)
