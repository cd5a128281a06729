-- What is sent can be spelled: a client's chunk, and a replica's answer to it.
use Rattle.std.proofs.Common.{ℕ, ◌&&◌, true, List, refl}
use Rattle.coda_fid.specs.declared.op.Record.{Record}
use Rattle.coda_record.specs.Form.{four}
use Rattle.coda_record.specs.Spelling.{HasSpelling}
use Rattle.coda_record.specs.Table as table
use Rattle.coda_record.proofs.PartsAgree.{first_true, second_true}
use Rattle.coda_wire.specs.declared.message.Message.TheVariants.{Chunk}
use Rattle.coda_wire.specs.Table.{message}
use Rattle.coda_spelling.proofs.SpelledParts.{both_true}

pub chunk_message : (client server volume number : ℕ) (recs : List Record) → HasSpelling table.client client → HasSpelling table.server server → HasSpelling table.volume volume → HasSpelling table.ordinal number → HasSpelling (table.records four) recs
    → HasSpelling message (Chunk client server volume number recs)
unfolding message
chunk_message client server volume number recs c s v n rs = both_true _ _ c (both_true _ _ s (both_true _ _ v (both_true _ _ n (both_true _ _ rs refl))))

-- the parts of a chunk that can be sent
pub record AreParts (client server volume number : ℕ) : Type 0 where
  pub client_is : HasSpelling table.client client
  pub server_is : HasSpelling table.server server
  pub volume_is : HasSpelling table.volume volume
  pub number_is : HasSpelling table.ordinal number

pub chunk_parts : (client server volume number : ℕ) (recs : List Record) → HasSpelling message (Chunk client server volume number recs) → AreParts client server volume number
unfolding message
chunk_parts client server volume number recs fits =
    let behind_client = second_true (table.client.piece client).fits ((table.server.piece server).fits && ((table.volume.piece volume).fits && ((table.ordinal.piece number).fits && (((table.records four).piece recs).fits && true)))) fits in
    let behind_server = second_true (table.server.piece server).fits ((table.volume.piece volume).fits && ((table.ordinal.piece number).fits && (((table.records four).piece recs).fits && true))) behind_client in
    let behind_volume = second_true (table.volume.piece volume).fits ((table.ordinal.piece number).fits && (((table.records four).piece recs).fits && true)) behind_server in
    record { client_is = first_true _ _ fits; server_is = first_true _ _ behind_client; volume_is = first_true _ _ behind_server; number_is = first_true _ _ behind_volume }
