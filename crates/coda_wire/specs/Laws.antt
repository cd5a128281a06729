-- What is left of a message that is cut short.
use Rattle.std.specs.Prelude.{◌≡◌, ℕ, ◌<◌, List, length, take, Err}
use Rattle.coda_record.specs.Exact.{AreBytes}
use Rattle.coda_record.specs.Spelling.{Spells, whole}
use Rattle.coda_wire.specs.declared.message.Message.{Message}
use Rattle.coda_wire.specs.Table.{message}

-- The first bytes of a message, without those behind them, say nothing: they are refused where they end.
abbrev pub FirstBytesSayNothing : Type 0
FirstBytesSayNothing = (bytes : List ℕ) (m : Message) (most : ℕ) → AreBytes bytes → Spells message bytes m → most < length bytes → whole message (take most bytes) ≡ Err most
