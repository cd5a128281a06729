-- Records one after the other, as a loop writes them.
use Rattle.std.proofs.Common.{◌≡◌, ℕ, List, [], ◌∷◌, ◌++◌, All, refl, sym, ap, ◌∙◌}
use Rattle.std.specs.Prelude.{IsTrue}
use Rattle.std.specs.List.{flat_map, AllByRecursion}
use Rattle.std.proofs.lemmas.List.Elements.{All-from_recursion}
use Rattle.std.proofs.lemmas.List.Concat.{flat_map-cons}
use Rattle.coda_fid.specs.declared.op.Record.{Record}
use Rattle.coda_values.specs.Form.{four}
use Rattle.coda_values.specs.Parts.{items_piece}
use Rattle.coda_values.specs.Spelling.{HasSpelling}
use Rattle.coda_values.specs.Table.{op, record_above, records}
use Rattle.coda_values.proofs.PartsAgree.{first_true, second_true}

-- how a record is written depends on no other
items_bytes : (before : ℕ) (rs : List Record) → (items_piece (record_above four) (λ r. r.number) before rs).bytes ≡ flat_map (λ r. ((record_above four 0).piece r).bytes) rs
unfolding record_above
items_bytes before [] = refl
items_bytes before (r ∷ rs) = ap (λ (b : List ℕ). ((record_above four before).piece r).bytes ++ b) (items_bytes r.number rs) ∙ sym (flat_map-cons (λ r. ((record_above four 0).piece r).bytes) r rs)

pub records_bytes : (rs : List Record) → (items_piece (record_above four) (λ r. r.number) 0 rs).bytes ≡ flat_map (λ r. ((record_above four 0).piece r).bytes) rs
records_bytes rs = items_bytes 0 rs

pub record_op : (before : ℕ) (r : Record) → HasSpelling (record_above four before) r → HasSpelling (op four) r.op
unfolding record_above
record_op before r fits = first_true _ _ (second_true _ _ (second_true _ _ fits))

ops_spelled : (before : ℕ) (rs : List Record) → IsTrue (items_piece (record_above four) (λ r. r.number) before rs).fits → AllByRecursion (λ r. HasSpelling (op four) r.op) rs
ops_spelled before [] fits = tt
ops_spelled before (r ∷ rs) fits = (record_op before r (first_true _ _ fits), ops_spelled r.number rs (second_true _ _ fits))

-- each operation of records that have a spelling has one
pub each_op : (rs : List Record) → HasSpelling (records four) rs → All (λ r. HasSpelling (op four) r.op) rs
unfolding records
each_op rs fits = All-from_recursion (λ r. HasSpelling (op four) r.op) rs (ops_spelled 0 rs (second_true _ _ fits))
