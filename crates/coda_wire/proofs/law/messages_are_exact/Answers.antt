use Rattle.coda_record.proofs.Offsets.{agreeing_is_exact}
use Rattle.coda_wire.specs.Table.{message}
use Rattle.coda_wire.proofs.Tabled.{message_agrees}
use Rattle.coda_wire.proofs.law.messages_are_exact.Goals as goal

pub returns : goal.returns
returns c = agreeing_is_exact message message_agrees
