use Rattle.std.proofs.Common.{◌≡◌, ◌-◌, ◌++◌, ◌&&◌, length, length-append, ap, arith}
use Rattle.std.specs.Prelude.{nat_le}
use Rattle.std.proofs.lemmas.Bool.{lt-leb, and_right}
use Rattle.std.proofs.lemmas.Bool.Decides.{nat_tests}
use Rattle.coda_cancel.specs.Weights.{total_weight}
use Rattle.coda_cancel.proofs.Sizes.{total-append}
use Rattle.coda_cml.proofs.log.room_beside.Goals as goal
use Rattle.coda_cml.proofs.log.room_beside.Goals.{then-count-gt-MOST_RECORDS-via-then-count-gt-MOST_RECORDS, then-count-gt-MOST_RECORDS-via-else-count-gt-MOST_RECORDS+then-weight-gt-MOST_WEIGHT}

pub returns-then-count-gt-MOST_RECORDS : goal.returns-then-count-gt-MOST_RECORDS
returns-then-count-gt-MOST_RECORDS c recs rest count weight =
    let many = length-append recs rest in
    let heavy = total-append recs rest in
    elim c.then-count-gt-MOST_RECORDS.branch [
      | then-count-gt-MOST_RECORDS-via-then-count-gt-MOST_RECORDS w ↦ ap (λ b. b && nat_le (total_weight (recs ++ rest)) 16777216) (lt-leb (length (recs ++ rest)) 4096 (omega (arith, many, count, w.if-count-gt-MOST_RECORDS.true)))
      | then-count-gt-MOST_RECORDS-via-else-count-gt-MOST_RECORDS+then-weight-gt-MOST_WEIGHT w ↦ and_right (nat_le (length (recs ++ rest)) 4096) (nat_le (total_weight (recs ++ rest)) 16777216) (lt-leb (total_weight (recs ++ rest)) 16777216 (omega (arith, heavy, weight, w.if-weight-gt-MOST_WEIGHT.true)))
    ]

pub returns : goal.returns
returns c recs rest count weight =
    let many = length-append recs rest in
    let heavy = total-append recs rest in
    let low = c.if-count-gt-MOST_RECORDS.false in
    let light = c.if-weight-gt-MOST_WEIGHT.false in
    let one : nat_le (length (recs ++ rest)) 4096 ≡ nat_le (length rest) (4096 - c.args.count) = grind (arith, nat_tests) in
    let two : nat_le (total_weight (recs ++ rest)) 16777216 ≡ nat_le (total_weight rest) (16777216 - c.args.weight) = grind (arith, nat_tests) in
    λ i. one i && two i
