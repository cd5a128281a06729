-- What the decision of a record leaves at the replica that decides it: nodes, version vectors and resolution logs.
use Rattle.std.specs.Prelude.{◌≡◌, ℕ, ◌+◌, cond, List, [], ◌∷◌, ◌++◌, Option, Some, None, option_map}
use Rattle.std.specs.FinMap as finmap
use Rattle.coda_fid.specs.Fid.{same_fid}
use Rattle.coda_fid.specs.declared.fid.Fid.{Fid}
use Rattle.coda_fid.specs.declared.fid.Sid.{Sid}
use Rattle.coda_fid.specs.declared.op.Record.{Record}
use Rattle.coda_fid.specs.declared.op.Op.{Op}
use Rattle.coda_fid.specs.declared.op.Over.{Over}
use Rattle.coda_fid.specs.declared.op.Op.TheVariants.{Create, Mkdir, Symlink, Store, Setattr, Remove, Rmdir, Rename}
use Rattle.coda_tree.specs.declared.node.Node.{Node}
use Rattle.coda_tree.specs.declared.node.NodeKind.{NodeKind}
use Rattle.coda_tree.specs.declared.node.NodeKind.TheVariants.{File, Link, Dir}
use Rattle.coda_tree.specs.Bindings.{Name}
use Rattle.coda_tree.specs.Volume.{Nodes}
use Rattle.coda_vv.specs.Vector.{count, no_updates, bumped}
use Rattle.coda_reslog.specs.declared.entry.ResEntry.{ResEntry}
use Rattle.coda_reslog.specs.declared.entry.ResKind.{ResKind}
use Rattle.coda_reslog.specs.declared.entry.ResKind.TheVariants.{Add, Drop, Rename as Inside, Cross, Attr}
use Rattle.coda_reslog.specs.declared.entry.Lost.{Lost}
use Rattle.coda_reslog.specs.declared.change.Held.{Held}
use Rattle.coda_reslog.specs.Rings.{last_entries}
use Rattle.coda_certify.specs.Checks.{certify}
use Rattle.coda_certify.specs.Replay.{sid_of, applied}
use Rattle.coda_resolve.specs.Copies.{vector_of}
use Rattle.coda_resolve.specs.Resolution.{Objects}
use Rattle.coda_resolve.specs.Changes.{node_of}

-- ---- what a record does to an object

-- what an update did to an object, as a resolution log keeps it, but for its server and number
pub record Deed : Type 0 where
  pub kind : ResKind
  pub name : Option Name
  pub other : Option Name
  pub fid : Fid
  pub lost : Option Lost

-- the deed, at this object and at no other
abbrev pub only_at : Fid → Deed → Fid → Option Deed
only_at object deed f = cond (same_fid f object) (Some deed) None

-- it bound a new object at the name
abbrev pub adds : Name → Fid → Deed
adds name fid = record { kind = Add; name = Some name; other = None; fid = fid; lost = None }

-- an object that is taken out, with the updates that are in it
abbrev pub lost_from : Objects → Fid → Lost
lost_from objects fid = record { fid = fid; vector = record { 0 = vector_of (finmap.get objects fid) } }

-- it unbound the name and took the object out
abbrev pub drops : Objects → Name → Fid → Deed
drops objects name fid =
    record { kind = Drop; name = Some name; other = None; fid = fid; lost = Some (lost_from objects fid) }

-- it set content or attributes
abbrev pub writes : Fid → Deed
writes fid = record { kind = Attr; name = None; other = None; fid = fid; lost = None }

-- the object that a rename replaces is taken out
abbrev pub lost_over : Objects → Option Over → Option Lost
lost_over objects None = None
lost_over objects (Some over) = Some (lost_from objects over.fid)

-- it bound the object at the other name in place of the name
abbrev pub renames : Name → Name → Fid → Option Lost → Deed
renames from to fid lost = record { kind = Inside; name = Some from; other = Some to; fid = fid; lost = lost }

-- it moved an object out of the directory, or into it
abbrev pub crosses : Name → Fid → Option Lost → Deed
crosses name fid lost = record { kind = Cross; name = Some name; other = None; fid = fid; lost = lost }

-- what a rename does: one update of a directory in which both names are, and else one of each directory
abbrev pub rename_at : Fid → Name → Fid → Name → Fid → Option Lost → Fid → Option Deed
rename_at from_dir from to_dir to fid lost f = cond (same_fid from_dir to_dir)
    (only_at to_dir (renames from to fid lost) f)
    (cond (same_fid f from_dir) (Some (crosses from fid None)) (only_at to_dir (crosses to fid lost) f))

-- what a record does to each object of a replica: it updates each directory whose entries it changes, and what it
-- writes to
unfoldable pub deed_at : Objects → Op → Fid → Option Deed
deed_at objects (Create dir name fid mode owner) = only_at dir (adds name fid)
deed_at objects (Mkdir dir name fid mode owner) = only_at dir (adds name fid)
deed_at objects (Symlink dir name fid target mode owner) = only_at dir (adds name fid)
deed_at objects (Store fid pre content) = only_at fid (writes fid)
deed_at objects (Setattr fid pre attrs) = only_at fid (writes fid)
deed_at objects (Remove dir name fid pre) = only_at dir (drops objects name fid)
deed_at objects (Rmdir dir name fid pre) = only_at dir (drops objects name fid)
deed_at objects (Rename from_dir from to_dir to fid over) =
    rename_at from_dir from to_dir to fid (lost_over objects over)

-- ---- what it leaves

-- the update of that server and number, as a resolution log keeps it
abbrev pub logged : ℕ → ℕ → Sid → Deed → ResEntry
logged server number sid deed = record {
  origin = server;
  seq = number;
  sid = sid;
  kind = deed.kind;
  name = deed.name;
  other = deed.other;
  fid = deed.fid;
  lost = deed.lost;
}

-- the server's next update of what has these updates
abbrev pub next_update : ℕ → Sid → Held → Deed → ResEntry
next_update server sid old deed = logged server (count old.vector.0 server + 1) sid deed

-- a log with one update more, the last 256 kept
abbrev pub pushed : ResEntry → List ResEntry → List ResEntry
pushed u log = last_entries (log ++ u ∷ [])

-- a new object: a file or link has one update of the server, and a directory none, and an empty log
abbrev pub first_by : ℕ → Node → NodeKind → Held
first_by server node (File content) =
    record { node = node; vector = record { 0 = bumped no_updates server }; ring = None }
first_by server node (Link target) =
    record { node = node; vector = record { 0 = bumped no_updates server }; ring = None }
first_by server node (Dir entries) = record { node = node; vector = record { 0 = no_updates }; ring = Some [] }

-- an object that was there: what a record does to it is one update more of the server, in the vector and, of a
-- directory, in the log
abbrev pub later_by : ℕ → Sid → Node → Held → Option Deed → Held
later_by server sid node old None = record { node = node; vector = old.vector; ring = old.ring }
later_by server sid node old (Some deed) = record {
  node = node;
  vector = record { 0 = bumped old.vector.0 server };
  ring = option_map (pushed (next_update server sid old deed)) old.ring;
}

-- what is held of a node that was there, or wasn't
abbrev pub held_by_node : ℕ → Sid → Node → Option Held → Option Deed → Held
held_by_node server sid node None deed = first_by server node node.kind
held_by_node server sid node (Some old) deed = later_by server sid node old deed

-- what is held then of an object: nothing, where it has no node any more
abbrev pub version_by : ℕ → Sid → Option Node → Option Held → Option Deed → Option Held
version_by server sid None old deed = None
version_by server sid (Some node) old deed = Some (held_by_node server sid node old deed)

-- the object that a record makes
abbrev pub makes : Op → Option Fid
makes (Create dir name fid mode owner) = Some fid
makes (Mkdir dir name fid mode owner) = Some fid
makes (Symlink dir name fid target mode owner) = Some fid
makes (Store fid pre content) = None
makes (Setattr fid pre attrs) = None
makes (Remove dir name fid pre) = None
makes (Rmdir dir name fid pre) = None
makes (Rename from_dir from to_dir to fid over) = None

-- a replica at a server decides a client's record: certification finds no reason against it, the nodes are those that
-- its operation leaves, and what it does to an object is one update more of the server
pub record IsDecision (server client : ℕ) (rec : Record) (before after : Objects) : Type 0 where
  pub nodes : Nodes
  pub those : (f : Fid) → finmap.get nodes f ≡ node_of (finmap.get before f)
  pub certified : certify nodes rec.op ≡ None
  pub left : (f : Fid)
      → finmap.get after f ≡ version_by server (sid_of client rec) (finmap.get (applied nodes client rec) f)
      (finmap.get before f) (deed_at before rec.op f)

-- each replica has its nodes, and a record that certification finds nothing against there can be decided
pub record CertifiedRecordsAreDecided : Type 0 where
  pub nodes : (objects : Objects) → (nodes : Nodes) × ((f : Fid) → finmap.get nodes f ≡ node_of (finmap.get objects f))
  pub decides : (server client : ℕ) (rec : Record) (before : Objects) (nodes : Nodes)
      → ((f : Fid) → finmap.get nodes f ≡ node_of (finmap.get before f)) → certify nodes rec.op ≡ None
      → (after : Objects) × IsDecision server client rec before after
