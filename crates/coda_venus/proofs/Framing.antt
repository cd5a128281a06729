-- How the entry of an operation is spelled, part by part.
use Rattle.std.proofs.Common.{◌≡◌, ℕ, ◌+◌, ◌++◌, List, ◌∷◌, [], ◌≤◌, length, vec_len, sym, ap, ◌∙◌, arith}
use Rattle.std.specs.Int.{w32}
use Rattle.std.specs.Prelude.{Vec}
use Rattle.std.specs.declared.alloc.Global.{Global}
use Rattle.std.proofs.lemmas.List.{length-append, append_assoc, append-nil}
use Rattle.coda_fid.specs.declared.op.Record.{Record}
use Rattle.coda_journal.specs.Entries.{framed}
use Rattle.coda_journal.specs.Lengths.{length_bytes}
use Rattle.coda_record.specs.Form.{one, four, number_bytes}
use Rattle.coda_record.specs.Parts.{u8 as a_u8, u32 as a_u32}
use Rattle.coda_record.specs.Table.{record_above as a_record_above}
use Rattle.coda_record.specs.Entries.{client_entry, client_payload}
use Rattle.coda_record.specs.declared.entry.ClientEntry.TheVariants.{Op as OpEntry}
use Rattle.coda_record.proofs.Spans.{number_span}
use Rattle.coda_venus.specs.History.{payload_of}

-- four parts, as a payload of one entry has them
abbrev parts : (a b c d : List ℕ) → List ℕ
parts a b c d = a ++ ((b ++ (c ++ (d ++ []))) ++ [])

long : (a b c d : List ℕ) → length (parts a b c d) ≡ length a + (length b + (length c + length d))
long a b c d = grind (length-append, append-nil, arith)

flat : (x a b c d : List ℕ) → ((((x ++ a) ++ b) ++ c) ++ d) ++ 0 ∷ [] ≡ (x ++ parts a b c d) ++ 0 ∷ []
flat x a b c d = grind (append_assoc, append-nil, arith)

-- an entry has six bytes at least
six : (x a b c d : List ℕ) → length a ≡ 4 → 6 ≤ length (((((1 ∷ x) ++ a) ++ b) ++ c) ++ d ++ 0 ∷ [])
six x a b c d e = grind (length-append, arith)

module _ (v : ℕ) (rec : Record) where
  pub operation_gates : (bytes : Vec ℕ Global) (front : List ℕ) → bytes.items ≡ (((((1 ∷ front) ++ (a_u32.piece 1).bytes) ++ (a_u8.piece 1).bytes) ++ (a_u32.piece v).bytes) ++ ((a_record_above four 0).piece rec).bytes) ++ 0 ∷ [] → 6 ≤ vec_len bytes
  operation_gates bytes front is =
      let counted : vec_len bytes ≡ length bytes.items = bytes.ok.0 in
      let least = six front (a_u32.piece 1).bytes (a_u8.piece 1).bytes (a_u32.piece v).bytes ((a_record_above four 0).piece rec).bytes (number_span four 1) in
      let whole = ap (λ (l : List ℕ). length l) is in
      omega (arith, counted, least, whole)

  pub operation_length : length (payload_of (OpEntry v rec ∷ [])) ≡ 9 + length ((a_record_above four 0).piece rec).bytes
  unfolding client_payload client_entry
  operation_length =
      let d = ((a_record_above four 0).piece rec).bytes in
      long (number_bytes four 1) (number_bytes one 1) (number_bytes four v) d ∙ omega (arith, number_span four 1, number_span one 1, number_span four v)

  pub operation_framed : (n : ℕ) → n ≡ 9 + length ((a_record_above four 0).piece rec).bytes
      → (((((1 ∷ length_bytes w32 n) ++ (a_u32.piece 1).bytes) ++ (a_u8.piece 1).bytes) ++ (a_u32.piece v).bytes) ++ ((a_record_above four 0).piece rec).bytes) ++ 0 ∷ [] ≡ framed w32 (payload_of (OpEntry v rec ∷ []))
  unfolding client_payload client_entry
  operation_framed n is =
      let d = ((a_record_above four 0).piece rec).bytes in
      let p = parts (number_bytes four 1) (number_bytes one 1) (number_bytes four v) d in
      ap (λ (l : List ℕ). 1 ∷ l) (flat (length_bytes w32 n) (number_bytes four 1) (number_bytes one 1) (number_bytes four v) d ∙ ap (λ (m : ℕ). (length_bytes w32 m ++ p) ++ 0 ∷ []) (is ∙ sym operation_length))
