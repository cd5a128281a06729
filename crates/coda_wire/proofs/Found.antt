-- A message that was read is spelled by the bytes.
use Rattle.std.proofs.Common.{ℕ, List, Result, Ok, Err}
use Rattle.std.specs.Prelude.{IfOk}
use Rattle.coda_record.specs.Exact.{AreBytes}
use Rattle.coda_record.specs.Spelling.{Spells, whole}
use Rattle.coda_record.proofs.Laws.{whole_is_spelled}
use Rattle.coda_wire.specs.declared.fault.WireFault.{WireFault}
use Rattle.coda_wire.specs.declared.message.Message.{Message}
use Rattle.coda_wire.specs.Outcome.{Reads}
use Rattle.coda_wire.specs.Table.{message}
use Rattle.coda_wire.proofs.Tabled.{message_agrees}

pub is_found : (bytes : List ℕ) (r : Result Message WireFault) → AreBytes bytes → Reads r (whole message bytes) → IfOk r (λ m. Spells message bytes m)
is_found bytes (Ok m) fits reads = whole_is_spelled message message_agrees bytes m fits reads
is_found bytes (Err e) fits reads = tt
