-- The formats of what a replica holds of its objects, and of what becomes of them, version 1, each under its line of the table.
use Rattle.std.specs.Prelude.{ℕ, ◌==◌, Bool, true, List, [], ◌∷◌, length, Option, Some, None}
use Rattle.std.specs.Ordering.{is_lt}
use Rattle.coda_fid.specs.declared.fid.Fid.{Fid}
use Rattle.coda_fid.specs.Fid.{fid_cmp}
use Rattle.coda_vv.specs.declared.vector.Vv.{Vv}
use Rattle.coda_reslog.specs.declared.entry.ResKind.{ResKind}
use Rattle.coda_reslog.specs.declared.entry.ResKind.TheVariants.{Add, Drop, Rename, Cross, Attr}
use Rattle.coda_reslog.specs.declared.entry.Lost.{Lost}
use Rattle.coda_reslog.specs.declared.entry.ResEntry.{ResEntry}
use Rattle.coda_reslog.specs.declared.change.Held.{Held}
use Rattle.coda_reslog.specs.declared.change.Change.{Change}
use Rattle.coda_values.specs.Form.{Piece, together, limited, Size, Form, gives, Format, ◌>>=◌}
use Rattle.coda_values.specs.Parts.{u8, where_holds, one_of, optional, items, items_piece, list, each, list_up_to}
use Rattle.coda_values.specs.Table.{server, count, ordinal, name, fid, sid}
use Rattle.coda_values.specs.Nodes.{node}

-- ---- vector: eight counts of updates, that of server 1 first

-- how many updates of each server are in a version of an object
unfoldable pub vector : Format Vv
vector = record {
  form = items (each count) (λ c. tt) tt 8 (λ counts. gives (record { 0 = counts }));
  piece = λ v. limited (length v.0 == 8) (items_piece (each count) (λ c. tt) tt v.0);
}

-- ---- update, as a resolution log keeps it: u8 server, u64 number, sid, kind, optional name, optional name, fid, optional lost

-- lost: fid, vector
unfoldable pub lost : Format Lost
lost = record {
  form = do
    f ← fid
    v ← vector
    gives (record { fid = f; vector = v });
  piece = λ l. together (fid.piece l.fid ∷ vector.piece l.vector ∷ []);
}

-- how the kind of an update is written
abbrev pub update_kind_piece : ResKind → Piece
update_kind_piece Add = together (u8.piece 1 ∷ [])
update_kind_piece Drop = together (u8.piece 2 ∷ [])
update_kind_piece Rename = together (u8.piece 3 ∷ [])
update_kind_piece Cross = together (u8.piece 4 ∷ [])
update_kind_piece Attr = together (u8.piece 5 ∷ [])

-- what each byte of a kind says
abbrev pub update_kind_forms : List (ℕ × Form ResKind)
update_kind_forms =
    ((1, gives Add)
    ∷ (2, gives Drop)
    ∷ (3, gives Rename)
    ∷ (4, gives Cross)
    ∷ (5, gives Attr)
    ∷ [])

-- what an update did to a directory
unfoldable pub update_kind : Format ResKind
update_kind = record {
  form = one_of update_kind_forms;
  piece = update_kind_piece;
}

-- an update of a directory
unfoldable pub update : Format ResEntry
update = record {
  form = do
    origin ← server
    seq ← ordinal
    s ← sid
    kind ← update_kind
    n ← optional name
    other ← optional name
    f ← fid
    l ← optional lost
    gives (record { origin = origin; seq = seq; sid = s; kind = kind; name = n; other = other; fid = f; lost = l });
  piece = λ u. together (server.piece u.origin ∷ ordinal.piece u.seq ∷ sid.piece u.sid ∷ update_kind.piece u.kind ∷ (optional name).piece u.name ∷ (optional name).piece u.other ∷ fid.piece u.fid ∷ (optional lost).piece u.lost ∷ []);
}

-- a resolution log: its last updates, at most 256, the oldest first
unfoldable pub updates : Format (List ResEntry)
updates = list_up_to 256 update

-- ---- held: node, vector, optional list of updates

-- what a replica holds of an object
unfoldable pub held : Size → Format Held
held size = record {
  form = do
    n ← node size
    v ← vector
    log ← optional updates
    gives (record { node = n; vector = v; ring = log });
  piece = λ h. together ((node size).piece h.node ∷ vector.piece h.vector ∷ (optional updates).piece h.ring ∷ []);
}

-- ---- change: list of (fid, held), list of fid, both in increasing order of fids

-- whether a fid may stand behind another
abbrev pub fid_follows : Option Fid → Fid → Bool
fid_follows None f = true
fid_follows (Some before) f = is_lt (fid_cmp before f)

-- a fid behind another
abbrev pub fid_after : Option Fid → Format Fid
fid_after before = where_holds (fid_follows before) fid

-- fids in increasing order
unfoldable pub fids : Format (List Fid)
fids = list fid_after (λ f. Some f) None

-- an object whose fid stands behind another
unfoldable pub object_after : Size → Option Fid → Format (Fid × Held)
object_after size before = record {
  form = do
    f ← fid_after before
    h ← held size
    gives (f, h);
  piece = λ o. together ((fid_after before).piece o.0 ∷ (held size).piece o.1 ∷ []);
}

-- objects in increasing order of their fids
unfoldable pub objects : Size → Format (List (Fid × Held))
objects size = list (object_after size) (λ o. Some o.0) None

-- what becomes of a replica: what it then holds of some objects, and which go
unfoldable pub change : Size → Format Change
change size = record {
  form = do
    o ← objects size
    gone ← fids
    gives (record { held = o; gone = gone });
  piece = λ c. together ((objects size).piece c.held ∷ fids.piece c.gone ∷ []);
}
