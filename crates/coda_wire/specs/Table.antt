-- The formats of messages, version 1, each under its line of the table. Numbers have their most significant byte first.
use Rattle.std.specs.Prelude.{ℕ, List, [], ◌∷◌}
use Rattle.coda_tree.specs.declared.node.Node.{Node}
use Rattle.coda_vv.specs.declared.vector.Vv.{Vv}
use Rattle.coda_record.specs.Form.{Piece, together, Size, four, Form, gives, Format, ◌>>=◌}
use Rattle.coda_record.specs.Parts.{u8, one_of, optional}
use Rattle.coda_record.specs.Table.{client, server, volume, ordinal, fid, records, answer}
use Rattle.coda_values.specs.Nodes.{node}
use Rattle.coda_values.specs.Held.{vector, fids}
use Rattle.coda_wire.specs.declared.message.Message.{Message}
use Rattle.coda_wire.specs.declared.message.Message.TheVariants.{Chunk, Verdict, Fetch, Break}
use Rattle.coda_wire.specs.declared.message.Message.TheVariants as messages

-- ---- messages: u8 tag, u8 version, then the fields

-- a form behind the version
abbrev pub versioned : Form Message → Form Message
versioned form = one_of ((1, form) ∷ [])

-- 1 Chunk: u8 client, u8 server, u32 volume, u64 number, list of records
unfoldable pub chunk_form : Size → Form Message
chunk_form size = do
  c ← client
  s ← server
  v ← volume
  number ← ordinal
  recs ← records size
  gives (Chunk c s v number recs)

-- 2 Verdict: u8 server, u8 client, u32 volume, u64 number, answer
unfoldable pub verdict_form : Form Message
verdict_form = do
  s ← server
  c ← client
  v ← volume
  number ← ordinal
  a ← answer
  gives (Verdict s c v number a)

-- 3 Fetch: u8 client, u8 server, fid
unfoldable pub fetch_form : Form Message
fetch_form = do
  c ← client
  s ← server
  f ← fid
  gives (Fetch c s f)

-- what a server found of an object: node, vector
unfoldable pub found_object : Size → Format (Node × Vv)
found_object size = record {
  form = do
    n ← node size
    v ← vector
    gives (n, v);
  piece = λ o. together ((node size).piece o.0 ∷ vector.piece o.1 ∷ []);
}

-- 4 Node: u8 server, u8 client, fid, optional found object
unfoldable pub found_form : Size → Form Message
found_form size = do
  s ← server
  c ← client
  f ← fid
  found ← optional (found_object size)
  gives (messages.Node s c f found)

-- 5 Break: u8 server, u8 client, u32 volume, fids in increasing order
unfoldable pub break_form : Form Message
break_form = do
  s ← server
  c ← client
  v ← volume
  fs ← fids
  gives (Break s c v fs)

abbrev pub message_piece : Message → Piece
message_piece (Chunk c s v number recs) = together (u8.piece 1 ∷ u8.piece 1 ∷ client.piece c ∷ server.piece s ∷ volume.piece v ∷ ordinal.piece number ∷ (records four).piece recs ∷ [])
message_piece (Verdict s c v number a) = together (u8.piece 2 ∷ u8.piece 1 ∷ server.piece s ∷ client.piece c ∷ volume.piece v ∷ ordinal.piece number ∷ answer.piece a ∷ [])
message_piece (Fetch c s f) = together (u8.piece 3 ∷ u8.piece 1 ∷ client.piece c ∷ server.piece s ∷ fid.piece f ∷ [])
message_piece (messages.Node s c f found) = together (u8.piece 4 ∷ u8.piece 1 ∷ server.piece s ∷ client.piece c ∷ fid.piece f ∷ (optional (found_object four)).piece found ∷ [])
message_piece (Break s c v fs) = together (u8.piece 5 ∷ u8.piece 1 ∷ server.piece s ∷ client.piece c ∷ volume.piece v ∷ fids.piece fs ∷ [])

abbrev pub message_forms : List (ℕ × Form Message)
message_forms =
    ((1, versioned (chunk_form four))
    ∷ (2, versioned verdict_form)
    ∷ (3, versioned fetch_form)
    ∷ (4, versioned (found_form four))
    ∷ (5, versioned break_form)
    ∷ [])

unfoldable pub message : Format Message
message = record {
  form = one_of message_forms;
  piece = message_piece;
}
