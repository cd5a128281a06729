-- Payloads in which nodes are dropped before one more entry: how they are spelled, part by part, and what they leave.
use Rattle.std.proofs.Common.{◌≡◌, ℕ, zero, suc, ◌+◌, ◌<◌, ◌&&◌, ◌++◌, List, ◌∷◌, [], take, length, Option, refl, sym, ap, ◌∙◌, arith}
use Rattle.std.specs.Prelude as prelude
use Rattle.std.specs.Prelude.{slice_index_or}
use Rattle.std.specs.List.{AllByRecursion}
use Rattle.std.proofs.lemmas.List.{append_assoc, append-nil}
use Rattle.coda_fid.specs.declared.fid.Fid.{Fid}
use Rattle.coda_fid.specs.declared.op.Record.{Record}
use Rattle.coda_tree.specs.declared.node.Node.{Node}
use Rattle.coda_record.specs.Form.{four}
use Rattle.coda_record.specs.Parts.{u8 as a_u8, u32 as a_u32, optional, items_piece, each}
use Rattle.coda_record.specs.Table as table
use Rattle.coda_record.specs.Entries.{client_entry, client_payload, node}
use Rattle.coda_record.specs.Spelling.{HasSpelling}
use Rattle.coda_record.specs.declared.entry.ClientEntry.{ClientEntry}
use Rattle.coda_record.specs.declared.entry.ClientEntry.TheVariants.{Op, Fetched, Dropped}
use Rattle.coda_record.proofs.PartsAgree.{first_true, second_true}
use Rattle.coda_spelling.proofs.SpelledParts.{both_true, below}
use Rattle.coda_venus.specs.History.{bytes_of_entries, payload_of}
use Rattle.coda_venus.specs.Rounds.{dropping}

-- ---- bytes

bytes_joined : (front back : List ClientEntry) → bytes_of_entries (front ++ back) ≡ bytes_of_entries front ++ bytes_of_entries back
bytes_joined [] back = refl
bytes_joined (e ∷ front) back = ap (λ l. ((client_entry four).piece e).bytes ++ l) (bytes_joined front back) ∙ sym (append_assoc ((client_entry four).piece e).bytes (bytes_of_entries front) (bytes_of_entries back))

items_bytes : (entries : List ClientEntry) → (items_piece (each (client_entry four)) (λ (e : ClientEntry). tt) tt entries).bytes ≡ bytes_of_entries entries
items_bytes [] = refl
items_bytes (e ∷ entries) = ap (λ l. ((client_entry four).piece e).bytes ++ l) (items_bytes entries)

count_joined : (gone : List Fid) (e : ClientEntry) → length (dropping gone ++ e ∷ []) ≡ length gone + 1
count_joined [] e = refl
count_joined (f ∷ gone) e = let rest = count_joined gone e in omega (arith, rest)

-- one more is dropped
pub drops_more : (gone : List Fid) (i : ℕ) (d : Fid) → i < length gone
    → bytes_of_entries (dropping (take (suc i) gone)) ≡ bytes_of_entries (dropping (take i gone)) ++ ((client_entry four).piece (Dropped (slice_index_or gone i d))).bytes
drops_more [] i d h = absurd (omega (arith, h))
drops_more (f ∷ gone) zero d h = append-nil _
drops_more (f ∷ gone) (suc i) d h = ap (λ l. ((client_entry four).piece (Dropped f)).bytes ++ l) (drops_more gone i d (omega (arith, h)))
    ∙ sym (append_assoc ((client_entry four).piece (Dropped f)).bytes (bytes_of_entries (dropping (take i gone))) ((client_entry four).piece (Dropped (slice_index_or gone i d))).bytes)

pub dropped_bytes : (f : Fid) → ((client_entry four).piece (Dropped f)).bytes ≡ (a_u8.piece 6).bytes ++ (table.fid.piece f).bytes
unfolding client_entry
dropped_bytes f = ap (λ l. (a_u8.piece 6).bytes ++ l) (append-nil (table.fid.piece f).bytes)

-- nodes that are dropped, and then one entry
payload_is : (gone : List Fid) (e : ClientEntry) → payload_of (dropping gone ++ e ∷ []) ≡ ((a_u32.piece (length gone + 1)).bytes ++ bytes_of_entries (dropping gone)) ++ ((client_entry four).piece e).bytes
unfolding client_payload
payload_is gone e =
    (λ i. (a_u32.piece (count_joined gone e i)).bytes ++ (items_bytes (dropping gone ++ e ∷ []) ∙ bytes_joined (dropping gone) (e ∷ []) ∙ ap (λ l. bytes_of_entries (dropping gone) ++ l) (append-nil ((client_entry four).piece e).bytes)) i)
    ∙ sym (append_assoc (a_u32.piece (length gone + 1)).bytes (bytes_of_entries (dropping gone)) ((client_entry four).piece e).bytes)

four_parts : (front a b c d : List ℕ) → (((front ++ a) ++ b) ++ c) ++ d ≡ front ++ (a ++ (b ++ (c ++ (d ++ []))))
four_parts front a b c d = grind (append_assoc, append-nil, arith)

three_parts : (front a b c : List ℕ) → ((front ++ a) ++ b) ++ c ≡ front ++ (a ++ (b ++ (c ++ [])))
three_parts front a b c = grind (append_assoc, append-nil, arith)

pub fetched_framed : (gone : List Fid) (fid : Fid) (parent : Option Fid) (n : Node)
    → ((((((a_u32.piece (length gone + 1)).bytes ++ bytes_of_entries (dropping gone)) ++ (a_u8.piece 5).bytes) ++ (table.fid.piece fid).bytes) ++ ((optional table.fid).piece parent).bytes) ++ ((node four).piece n).bytes)
    ≡ payload_of (dropping gone ++ Fetched fid parent n ∷ [])
unfolding client_entry
fetched_framed gone fid parent n =
    four_parts ((a_u32.piece (length gone + 1)).bytes ++ bytes_of_entries (dropping gone)) (a_u8.piece 5).bytes (table.fid.piece fid).bytes ((optional table.fid).piece parent).bytes ((node four).piece n).bytes
    ∙ sym (payload_is gone (Fetched fid parent n))

pub operation_framed : (gone : List Fid) (volume : ℕ) (rec : Record)
    → (((((a_u32.piece (length gone + 1)).bytes ++ bytes_of_entries (dropping gone)) ++ (a_u8.piece 1).bytes) ++ (a_u32.piece volume).bytes) ++ ((table.record_above four 0).piece rec).bytes)
    ≡ payload_of (dropping gone ++ Op volume rec ∷ [])
unfolding client_entry
operation_framed gone volume rec =
    three_parts ((a_u32.piece (length gone + 1)).bytes ++ bytes_of_entries (dropping gone)) (a_u8.piece 1).bytes (a_u32.piece volume).bytes ((table.record_above four 0).piece rec).bytes
    ∙ sym (payload_is gone (Op volume rec))

-- ---- what can be spelled

-- one more can be
pub spelled_more : (gone : List Fid) (i : ℕ) (d : Fid) → i < length gone → AllByRecursion (HasSpelling table.fid) (take i gone) → HasSpelling table.fid (slice_index_or gone i d) → AllByRecursion (HasSpelling table.fid) (take (suc i) gone)
spelled_more [] i d h all is = absurd (omega (arith, h))
spelled_more (f ∷ gone) zero d h all is = (is, tt)
spelled_more (f ∷ gone) (suc i) d h all is = (all.0, spelled_more gone i d (omega (arith, h)) all.1 is)

dropped_spelled : (f : Fid) → HasSpelling table.fid f → HasSpelling (client_entry four) (Dropped f)
unfolding client_entry
dropped_spelled f is = both_true _ _ refl (both_true _ _ is refl)

items_spelled : (gone : List Fid) (e : ClientEntry) → AllByRecursion (HasSpelling table.fid) gone → HasSpelling (client_entry four) e
    → (items_piece (each (client_entry four)) (λ (e : ClientEntry). tt) tt (dropping gone ++ e ∷ [])).fits ≡ prelude.true
items_spelled [] e all is = both_true _ _ is refl
items_spelled (f ∷ gone) e all is = both_true _ _ (dropped_spelled f all.0) (items_spelled gone e all.1 is)

pub payload_spelled : (gone : List Fid) (e : ClientEntry) → length gone + 1 < 4294967296 → AllByRecursion (HasSpelling table.fid) gone → HasSpelling (client_entry four) e → HasSpelling (client_payload four) (dropping gone ++ e ∷ [])
unfolding client_payload
payload_spelled gone e few all is = both_true _ _ (below four (length (dropping gone ++ e ∷ [])) (let count = count_joined gone e in omega (arith, few, count))) (items_spelled gone e all is)

pub fetched_spelled : (fid : Fid) (parent : Option Fid) (n : Node) → HasSpelling table.fid fid → HasSpelling (optional table.fid) parent → HasSpelling (node four) n → HasSpelling (client_entry four) (Fetched fid parent n)
unfolding client_entry
fetched_spelled fid parent n f p is = both_true _ _ refl (both_true _ _ f (both_true _ _ p (both_true _ _ is refl)))

-- an entry that can be a payload alone
pub entry_spelled : (e : ClientEntry) → HasSpelling (client_payload four) (e ∷ []) → HasSpelling (client_entry four) e
unfolding client_payload
entry_spelled e is = first_true ((client_entry four).piece e).fits prelude.true (second_true (a_u32.piece (length (e ∷ []))).fits (((client_entry four).piece e).fits && prelude.true) is)
