-- The records of a list that can be spelled can be spelled each.
use Rattle.std.proofs.Common.{◌≡◌, ℕ, ◌<◌, ◌≤◌, Bool, true, ◌&&◌, List, [], ◌∷◌, refl, arith}
use Rattle.std.specs.Prelude.{nat_lt, nat_le}
use Rattle.std.proofs.lemmas.Bool.{leb-true, ltb-true}
use Rattle.coda_fid.specs.declared.op.Record.{Record}
use Rattle.coda_record.specs.Form.{four, eight}
use Rattle.coda_record.specs.Parts.{items_piece}
use Rattle.coda_record.specs.Spelling.{HasSpelling}
use Rattle.coda_record.specs.Table as table
use Rattle.coda_record.proofs.PartsAgree.{first_true, second_true}
use Rattle.coda_spelling.specs.Spelled.{IsSpelled, AreAllSpelled}
use Rattle.coda_spelling.proofs.SpelledParts.{both_true, within}

pub single_spelled : (before : ℕ) (rec : Record) → HasSpelling (table.record_above four before) rec → IsSpelled rec
unfolding table.record_above
single_spelled before rec is =
    let first = first_true _ _ is in
    let rest = second_true _ _ is in
    let may : (nat_lt before rec.number && nat_le rec.number 4294967295) ≡ true = second_true _ _ first in
    let low = ltb-true before rec.number (first_true _ _ may) in
    let high = leb-true rec.number 4294967295 (second_true _ _ may) in
    record {
      number = within 1 4294967295 eight rec.number (omega (arith, low)) high (omega (arith, high));
      time = first_true _ _ rest;
      op = first_true _ _ (second_true _ _ rest);
    }

items_are : (before : ℕ) (recs : List Record) → (items_piece (table.record_above four) (λ (r : Record). r.number) before recs).fits ≡ true → AreAllSpelled recs
items_are before [] is = tt
items_are before (rec ∷ recs) is = (single_spelled before rec (first_true _ _ is), items_are rec.number recs (second_true _ _ is))

pub records_are : (recs : List Record) → HasSpelling (table.records four) recs → AreAllSpelled recs
unfolding table.records
records_are recs is = items_are 0 recs (second_true _ _ is)
