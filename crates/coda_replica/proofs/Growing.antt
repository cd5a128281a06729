-- Histories with one entry more.
use Rattle.std.proofs.Common.{◌≡◌, ℕ, ◌+◌, ◌≤◌, List, [], ◌∷◌, ◌++◌, length, map, sym, ap, subst, refl, arith}
use Rattle.std.proofs.lemmas.List.{map-append, length-append}
use Rattle.std.specs.Int.{w32}
use Rattle.coda_fid.specs.declared.op.Record.{Record}
use Rattle.coda_certify.specs.Replay.{replay}
use Rattle.coda_certify.specs.Verdicts.{verdict_of}
use Rattle.coda_certify.specs.declared.verdict.Verdict.{Verdict}
use Rattle.coda_certify.specs.declared.verdict.Verdict.TheVariants.{Applied, Conflict}
use Rattle.coda_journal.specs.Entries.{framed, body}
use Rattle.coda_journal.specs.Lengths.{length_bytes}
use Rattle.coda_journal.specs.declared.header.Header.{Header}
use Rattle.coda_journal.proofs.Lengths.{spells_4}
use Rattle.coda_plain.proofs.Lists.{left_push, follow_push, along}
use Rattle.coda_record.specs.Entries.{replica_entry}
use Rattle.coda_record.specs.Form.{together, four, eight, one}
use Rattle.coda_record.specs.Parts.{u8}
use Rattle.coda_record.specs.Spelling.{HasSpelling}
use Rattle.coda_record.specs.Table as table
use Rattle.coda_record.specs.declared.entry.ReplicaEntry.{ReplicaEntry}
use Rattle.coda_record.specs.declared.entry.ReplicaEntry.TheVariants.{Decide, Resolve, Repair, Snapshot}
use Rattle.coda_record.proofs.PartsAgree.{first_true, second_true}
use Rattle.coda_record.proofs.Spans.{number_span, together_span}
use Rattle.coda_spelling.specs.Spelled.{IsVolumeSpelled}
use Rattle.coda_spelling.proofs.SpelledParts.{both_true, within}
use Rattle.coda_spelling.proofs.SpelledRecords.{records_are}
use Rattle.coda_spelling.proofs.SpelledNodes.{fresh_spelled, left_spelled}
use Rattle.coda_spelling.proofs.SpelledVerdicts.{fresh_room, room_left, verdict_spelled}
use Rattle.coda_replica.specs.State.{ReplicaState, new_replica}
use Rattle.coda_replica.specs.History.{payload_of, payloads_of, state_after, state_of, MayFollow, IsHistory}
use Rattle.coda_replica.specs.Deciding.{decision_entry}

pub payloads_push : (history : List ReplicaEntry) (entry : ReplicaEntry) → payloads_of (history ++ entry ∷ []) ≡ payloads_of history ++ payload_of entry ∷ []
payloads_push history entry = map-append payload_of history (entry ∷ [])

pub state_push : (header : Header) (history : List ReplicaEntry) (entry : ReplicaEntry) → state_of header (history ++ entry ∷ []) ≡ state_after (state_of header history) entry
state_push header history entry = left_push state_after (new_replica header.number header.server) history entry

pub history_push : (header : Header) (history : List ReplicaEntry) (entry : ReplicaEntry) → IsHistory header history → MayFollow header history entry → IsHistory header (history ++ entry ∷ [])
history_push header history entry law may = follow_push (MayFollow header) history entry law may

-- ---- spellings

-- the client and the records of an entry
pub entry_parts : (client number : ℕ) (recs : List Record) (verdict : Verdict) → HasSpelling (replica_entry four) (Decide client number recs verdict) → HasSpelling table.client client × HasSpelling (table.records four) recs
unfolding replica_entry
entry_parts client number recs verdict is = (first_true _ _ is, first_true _ _ (second_true _ _ (second_true _ _ is)))

pub one_byte : (client : ℕ) → HasSpelling table.client client → HasSpelling u8 client
one_byte client is = first_true _ _ is

-- what the state of a history has can be spelled
pub state_spelled : (header : Header) (history : List ReplicaEntry) → IsHistory header history → IsVolumeSpelled (state_of header history).tree.nodes
state_spelled header history law =
    along (MayFollow header) (λ h. IsVolumeSpelled (state_of header h).tree.nodes) step history (record { nodes = fresh_spelled header.number; room = fresh_room header.number }) law
  where
    by : (r : ReplicaState) (entry : ReplicaEntry) → IsVolumeSpelled r.tree.nodes → HasSpelling (replica_entry four) entry → IsVolumeSpelled (state_after r entry).tree.nodes
    by r (Decide client number recs verdict) are is =
        let parts = entry_parts client number recs verdict is in
        let recs_are = records_are recs parts.1 in
        record { nodes = left_spelled r.tree.nodes client recs are.nodes (one_byte client parts.0) recs_are; room = room_left r.tree.nodes client recs are.room }
    by r (Resolve change lasts) are is = are
    by r (Repair change lasts) are is = are
    by r (Snapshot count held lasts) are is = are

    step : (es : List ReplicaEntry) (entry : ReplicaEntry) → IsVolumeSpelled (state_of header es).tree.nodes → MayFollow header es entry → IsVolumeSpelled (state_of header (es ++ entry ∷ [])).tree.nodes
    step es entry are may = subst (λ (r : ReplicaState). IsVolumeSpelled r.tree.nodes) (sym (state_push header es entry)) (by (state_of header es) entry are may.1)

-- the decision of the next chunk can be spelled
pub decision_spelled : (header : Header) (history : List ReplicaEntry) (client number : ℕ) (recs : List Record) → IsHistory header history → HasSpelling table.client client → HasSpelling (table.records four) recs → 1 ≤ number → number ≤ 4294967295
    → HasSpelling (replica_entry four) (decision_entry (state_of header history) client number recs)
unfolding replica_entry
decision_spelled header history client number recs law is are low high =
    let nodes = state_spelled header history law in
    let v : HasSpelling table.verdict (verdict_of (replay (state_of header history).tree.nodes client recs)) =
    verdict_spelled (state_of header history).tree.nodes client recs nodes.nodes nodes.room (one_byte client is) (records_are recs are) in
    both_true _ _ is (both_true _ _ (within 1 4294967295 eight number low high (omega (arith, high))) (both_true _ _ are (both_true _ _ v refl)))

-- ---- lengths

pub framed_length : (payload : List ℕ) → length (framed w32 payload) ≡ 6 + length payload
framed_length payload =
    let size = spells_4.size (length payload) in
    let inside : length (body w32 payload) ≡ length (length_bytes w32 (length payload)) + length payload = length-append (length_bytes w32 (length payload)) payload in
    let all : length (body w32 payload ++ 0 ∷ []) ≡ length (body w32 payload) + 1 = length-append (body w32 payload) (0 ∷ []) in
    omega (arith, size, inside, all)

applied_is_least : (verdict : Verdict) → length (table.verdict.piece Applied).bytes ≤ length (table.verdict.piece verdict).bytes
unfolding table.verdict
applied_is_least Applied = omega arith
applied_is_least (Conflict number why) =
    let one_tag = together_span (u8.piece 0 ∷ []) in
    let tag = number_span one 0 in
    let more = together_span (u8.piece 1 ∷ table.ordinal.piece number ∷ table.reason.piece why ∷ []) in
    let first = number_span one 1 in
    omega (arith, one_tag, tag, more, first)

-- no decision of a chunk is shorter than that it is applied
pub applied_is_shortest : (client number : ℕ) (recs : List Record) (verdict : Verdict) → length (framed w32 (payload_of (Decide client number recs Applied))) ≤ length (framed w32 (payload_of (Decide client number recs verdict)))
unfolding replica_entry
applied_is_shortest client number recs verdict =
    let least = applied_is_least verdict in
    let a = framed_length (payload_of (Decide client number recs Applied)) in
    let b = framed_length (payload_of (Decide client number recs verdict)) in
    let x = together_span (u8.piece 1 ∷ table.client.piece client ∷ table.ordinal.piece number ∷ (table.records four).piece recs ∷ table.verdict.piece Applied ∷ []) in
    let y = together_span (u8.piece 1 ∷ table.client.piece client ∷ table.ordinal.piece number ∷ (table.records four).piece recs ∷ table.verdict.piece verdict ∷ []) in
    omega (arith, least, a, b, x, y)
