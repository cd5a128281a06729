-- What operations make of the node at one fid, where they are performed whatever is there.
use Rattle.std.specs.Prelude.{ℕ, if◌then◌else◌, List, [], ◌∷◌, Option, Some, None, option_map}
use Rattle.coda_fid.specs.Fid.{same_fid}
use Rattle.coda_fid.specs.declared.fid.Fid.{Fid}
use Rattle.coda_fid.specs.declared.op.Record.{Record}
use Rattle.coda_tree.specs.declared.node.Node.{Node}
use Rattle.coda_tree.specs.Volume.{bind_in, unbind_in, written, Edit, Put, Bind, TakeOut, Unbind, Write}
use Rattle.coda_certify.specs.Replay.{effects, sid_of}

-- what an edit leaves at f, of what stood there: nothing else of a volume is looked at
abbrev pub edited_at : Fid → Edit → Option Node → Option Node
edited_at f (Put fid node) o = if same_fid f fid then Some node else o
edited_at f (Bind dir name fid) o = if same_fid f dir then option_map (λ node. bind_in node name fid) o else o
edited_at f (TakeOut fid) o = if same_fid f fid then None else o
edited_at f (Unbind dir name) o = if same_fid f dir then option_map (λ node. unbind_in node name) o else o
edited_at f (Write fid patch sid) o = if same_fid f fid then option_map (written patch sid) o else o

-- what edits leave at f, one behind the other
abbrev pub all_edited_at : Fid → List Edit → Option Node → Option Node
all_edited_at f [] o = o
all_edited_at f (edit ∷ edits) o = all_edited_at f edits (edited_at f edit o)

-- what a client's operation leaves at f
abbrev pub operated_at : Fid → ℕ → Record → Option Node → Option Node
operated_at f client rec o = all_edited_at f (effects rec.time (sid_of client rec) rec.op) o

-- what a client's operations leave at f, one behind the other
abbrev pub replayed_at : Fid → ℕ → List Record → Option Node → Option Node
replayed_at f client [] o = o
replayed_at f client (rec ∷ recs) o = replayed_at f client recs (operated_at f client rec o)
