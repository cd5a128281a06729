-- How many bytes a message has where it is written.
use Rattle.std.proofs.Common.{◌≡◌, ℕ, ◌+◌, ◌*◌, List, [], ◌∷◌, length, length-append, Option, Some, None, ◌∙◌, refl, arith}
use Rattle.std.specs.Prelude.{◌&&◌, true}
use Rattle.coda_fid.specs.declared.fid.Fid.{Fid}
use Rattle.coda_fid.specs.declared.op.Record.{Record}
use Rattle.coda_tree.specs.declared.node.Node.{Node}
use Rattle.coda_vv.specs.declared.vector.Vv.{Vv}
use Rattle.coda_record.specs.declared.answer.Answer.{Answer}
use Rattle.coda_record.specs.Form.{number_bytes, one, four, eight}
use Rattle.coda_record.specs.Parts.{u8, u32, u64, optional, items_piece}
use Rattle.coda_values.specs.Nodes.{node}
use Rattle.coda_values.specs.Held.{vector, fid_after, fids}
use Rattle.coda_record.specs.Spelling.{HasSpelling}
use Rattle.coda_record.specs.Table.{client, server, volume, ordinal, fid, records, answer}
use Rattle.coda_record.proofs.PartsAgree.{first_true, second_true}
use Rattle.coda_record.proofs.Spans.{number_span, together_span}
use Rattle.coda_values.proofs.Spans.{fid_span}
use Rattle.coda_record.proofs.InEntries.{part_fits}
use Rattle.coda_wire.specs.declared.message.Message.TheVariants.{Chunk, Verdict, Break}
use Rattle.coda_wire.specs.declared.message.Message.TheVariants as messages
use Rattle.coda_wire.specs.Table.{message, found_object}

pub chunk_span : (c s v n : ℕ) (rs : List Record) → length (message.piece (Chunk c s v n rs)).bytes ≡ 16 + length ((records four).piece rs).bytes
unfolding message
chunk_span c s v n rs = together_span (u8.piece 1 ∷ u8.piece 1 ∷ u8.piece c ∷ u8.piece s ∷ u32.piece v ∷ u64.piece n ∷ (records four).piece rs ∷ [])
    ∙ rw (number_span one 1, number_span one c, number_span one s, number_span four v, number_span eight n) (omega arith)

pub verdict_span : (s c v n : ℕ) (a : Answer) → length (message.piece (Verdict s c v n a)).bytes ≡ 16 + length (answer.piece a).bytes
unfolding message
verdict_span s c v n a = together_span (u8.piece 2 ∷ u8.piece 1 ∷ u8.piece s ∷ u8.piece c ∷ u32.piece v ∷ u64.piece n ∷ answer.piece a ∷ [])
    ∙ rw (number_span one 2, number_span one 1, number_span one s, number_span one c, number_span four v, number_span eight n) (omega arith)

-- the records of a chunk that has a spelling have one
pub chunk_records : (c s v n : ℕ) (rs : List Record) → HasSpelling message (Chunk c s v n rs) → HasSpelling (records four) rs
unfolding message
chunk_records c s v n rs fits =
    let behind_client = second_true (client.piece c).fits ((server.piece s).fits && ((volume.piece v).fits && ((ordinal.piece n).fits && (((records four).piece rs).fits && true)))) fits in
    let behind_server = second_true (server.piece s).fits ((volume.piece v).fits && ((ordinal.piece n).fits && (((records four).piece rs).fits && true))) behind_client in
    let behind_volume = second_true (volume.piece v).fits ((ordinal.piece n).fits && (((records four).piece rs).fits && true)) behind_server in
    let behind_number = second_true (ordinal.piece n).fits (((records four).piece rs).fits && true) behind_volume in
    first_true ((records four).piece rs).fits true behind_number

-- ---- nodes and breaks

-- what was found of an object has a spelling where the message of it has one
pub found_fits : (s c : ℕ) (f : Fid) (o : Option (Node × Vv)) → HasSpelling message (messages.Node s c f o) → HasSpelling (optional (found_object four)) o
unfolding message
found_fits s c f o fits = part_fits 5 ((optional (found_object four)).piece o) (u8.piece 4 ∷ u8.piece 1 ∷ server.piece s ∷ client.piece c ∷ fid.piece f ∷ (optional (found_object four)).piece o ∷ []) refl fits

pub option_fits : (o : Node × Vv) → HasSpelling (optional (found_object four)) (Some o) → HasSpelling (found_object four) o
option_fits o fits = part_fits 1 ((found_object four).piece o) (u8.piece 1 ∷ (found_object four).piece o ∷ []) refl fits

pub object_node : (o : Node × Vv) → HasSpelling (found_object four) o → HasSpelling (node four) o.0
unfolding found_object
object_node o fits = part_fits 0 ((node four).piece o.0) ((node four).piece o.0 ∷ vector.piece o.1 ∷ []) refl fits

-- so have the fids of a break
pub break_fids : (s c v : ℕ) (fs : List Fid) → HasSpelling message (Break s c v fs) → HasSpelling fids fs
unfolding message
break_fids s c v fs fits = part_fits 5 (fids.piece fs) (u8.piece 5 ∷ u8.piece 1 ∷ server.piece s ∷ client.piece c ∷ volume.piece v ∷ fids.piece fs ∷ []) refl fits

all_fids_span : (before : Option Fid) (fs : List Fid) → length (items_piece fid_after (λ f. Some f) before fs).bytes ≡ 12 * length fs
all_fids_span before [] = refl
all_fids_span before (f ∷ fs) =
    let first = fid_span f in
    let rest = all_fids_span (Some f) fs in
    length-append (fid.piece f).bytes (items_piece fid_after (λ f. Some f) (Some f) fs).bytes ∙ omega (arith, first, rest)

fids_span : (fs : List Fid) → length (fids.piece fs).bytes ≡ 4 + 12 * length fs
unfolding fids
fids_span fs =
    let rest = all_fids_span None fs in
    let count = number_span four (length fs) in
    length-append (number_bytes four (length fs)) (items_piece fid_after (λ f. Some f) None fs).bytes ∙ omega (arith, rest, count)

pub break_span : (s c v : ℕ) (fs : List Fid) → length (message.piece (Break s c v fs)).bytes ≡ 12 + 12 * length fs
unfolding message
break_span s c v fs = together_span (u8.piece 5 ∷ u8.piece 1 ∷ u8.piece s ∷ u8.piece c ∷ u32.piece v ∷ fids.piece fs ∷ [])
    ∙ rw (number_span one 5, number_span one 1, number_span one s, number_span one c, number_span four v, fids_span fs) (omega arith)
