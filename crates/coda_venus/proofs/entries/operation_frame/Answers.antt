use Rattle.std.proofs.Common.{rules, ◌≡◌, ◌+◌, ◌++◌, ◌∷◌, []}
use Rattle.std.specs.Int.{w32}
use Rattle.coda_journal.specs.Lengths.{length_bytes}
use Rattle.coda_record.specs.Form.{four}
use Rattle.coda_record.specs.Parts.{u8 as a_u8, u32 as a_u32}
use Rattle.coda_record.specs.Table.{record_above as a_record_above}
use Rattle.coda_venus.proofs.Framing.{operation_gates}
use Rattle.coda_venus.proofs.entries.operation_frame.Goals as goal

pub invariant_of-result : goal.invariant_of-result
invariant_of-result c =
    let front = length_bytes w32 (9 + c.length_of_record.result) in
    let is : c.push.new.self.items ≡ (((((1 ∷ front) ++ (a_u32.piece 1).bytes) ++ (a_u8.piece 1).bytes) ++ (a_u32.piece c.args.volume).bytes) ++ ((a_record_above four 0).piece c.args.rec.now).bytes) ++ 0 ∷ [] = search rules in
    record { gates = operation_gates c.args.volume c.args.rec.now c.push.new.self front is }
