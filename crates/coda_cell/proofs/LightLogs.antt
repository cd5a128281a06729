-- What the records of a log weigh, behind each of its calls: 16 MiB at most, as an operation that has room leaves them.
use Rattle.std.proofs.Common.{◌≡◌, ℕ, ◌+◌, ◌≤◌, Bool, true, false, cond, List, [], ◌∷◌, ◌++◌, take, drop, length, sym, ap, ◌∙◌, arith}
use Rattle.std.specs.Prelude.{nat_le}
use Rattle.std.proofs.lemmas.Bool.{and_parts}
use Rattle.std.proofs.lemmas.Bool.Decides.{nat_tests}
use Rattle.std.proofs.lemmas.List.{take-append-drop}
use Rattle.coda_fid.specs.declared.op.Op.{Op}
use Rattle.coda_fid.specs.declared.op.Record.{Record}
use Rattle.coda_fid.specs.Op.{weight_of}
use Rattle.coda_certify.specs.declared.verdict.Verdict.{Verdict}
use Rattle.coda_certify.specs.declared.verdict.Verdict.TheVariants.{Applied, Conflict}
use Rattle.coda_cancel.specs.Cancel.{cancels, add, added}
use Rattle.coda_cancel.specs.Passing.{undropped, goes, new_last}
use Rattle.coda_cancel.specs.Weights.{total_weight, fits}
use Rattle.coda_cancel.proofs.Sizes.{total-append, size_after}
use Rattle.coda_cml.specs.State.{LogState}
use Rattle.coda_cml.specs.Steps.{records_in, appended_to, frozen_to, settled}

-- what the records of a log weigh together
abbrev pub weight_in : LogState → ℕ
weight_in log = total_weight log.chunk + total_weight log.records

-- what fits weighs no more
pub fitting : (chunk rest : List Record) → fits 4096 16777216 (chunk ++ rest) ≡ true → total_weight chunk + total_weight rest ≤ 16777216
fitting chunk rest fit =
    let light = (and_parts (nat_le (length (chunk ++ rest)) 4096) (nat_le (total_weight (chunk ++ rest)) 16777216) fit).1 in
    let whole = total-append chunk rest in
    grind (arith, nat_tests, light, whole)

-- a front of the records and the rest
pub parted : (count : ℕ) (recs : List Record) → total_weight (take count recs) + total_weight (drop count recs) ≡ total_weight recs
parted count recs = sym (total-append (take count recs) (drop count recs)) ∙ ap total_weight (take-append-drop count recs)

-- what is left weighs no more
undropped_light : (test : Op → Bool) (recs : List Record) → total_weight (undropped test recs) ≤ total_weight recs
undropped_light test [] = omega arith
undropped_light test (rec ∷ recs) =
    let rest = undropped_light test recs in
    elim (test rec.op) as (λ b. total_weight (cond b (undropped test recs) (rec ∷ undropped test recs)) ≤ weight_of rec.op + total_weight recs) [ true ↦ omega (arith, rest) | false ↦ omega (arith, rest) ]

new_light : (gone : Bool) (rec : Record) → total_weight (new_last gone rec) ≤ weight_of rec.op
new_light true rec = omega arith
new_light false rec = omega arith

added_one : (recs : List Record) (rec : Record) → total_weight (add recs rec) ≤ total_weight recs + weight_of rec.op
added_one recs rec =
    let kept = undropped (goes (cancels rec.op recs) rec.op) recs in
    let last = new_last (cancels rec.op recs) rec in
    let whole : total_weight (add recs rec) ≡ total_weight kept + total_weight last = (size_after recs rec).1 ∙ total-append kept last in
    let front = undropped_light (goes (cancels rec.op recs) rec.op) recs in
    let back = new_light (cancels rec.op recs) rec in
    omega (arith, whole, front, back)

-- a run that is added to another
pub added_light : (recs run : List Record) → total_weight (added recs run) ≤ total_weight recs + total_weight run
added_light recs [] = omega arith
added_light recs (rec ∷ run) = (let one = added_one recs rec in let rest = added_light (add recs rec) run in omega (arith, one, rest))

-- a settlement
pub settled_light : (verdict : Verdict) (log : LogState) → weight_in (settled verdict log) ≤ weight_in log
settled_light Applied log = omega arith
settled_light (Conflict number why) log = (let all = added_light log.chunk log.records in omega (arith, all))

-- an operation that has room
pub pushed_light : (log new : LogState) (rec : Record) → new ≡ appended_to log rec → fits 4096 16777216 (log.chunk ++ add log.records rec) ≡ true → weight_in new ≤ 16777216
pushed_light log new rec is room = (let most = fitting log.chunk (add log.records rec) room in let same = ap weight_in is in omega (arith, most, same))

-- a freeze
pub frozen_light : (log new : LogState) (home length : ℕ) → new ≡ frozen_to log home length → log.chunk ≡ [] → weight_in new ≡ weight_in log
frozen_light log new home length is none =
    let whole = parted (records_in length log) log.records in
    let same : weight_in new ≡ total_weight (take (records_in length log) log.records) + total_weight (drop (records_in length log) log.records) = ap weight_in is in
    let empty : total_weight log.chunk ≡ 0 = ap total_weight none in
    omega (arith, whole, same, empty)
