-- What was read is spelled by the bytes.
use Rattle.std.proofs.Common.{ℕ, List, Result, Ok, Err}
use Rattle.std.specs.Prelude.{IfOk}
use Rattle.coda_record.specs.declared.fault.RecordFault.{RecordFault}
use Rattle.coda_record.specs.Exact.{AreBytes}
use Rattle.coda_record.specs.Form.{Format}
use Rattle.coda_record.specs.Outcome.{Reads}
use Rattle.coda_record.specs.Spelling.{Spells, whole}
use Rattle.coda_record.specs.Walks.{Agrees}
use Rattle.coda_values.proofs.Laws.{whole_is_spelled}

pub is_found : {X A : Type 0} (f : Format A) → Agrees f → (view : X → A) (bytes : List ℕ) (r : Result X RecordFault) → AreBytes bytes → Reads view r (whole f bytes) → IfOk r (λ x. Spells f bytes (view x))
is_found f agrees view bytes (Ok x) are reads = whole_is_spelled f agrees bytes (view x) are reads
is_found f agrees view bytes (Err e) are reads = tt
