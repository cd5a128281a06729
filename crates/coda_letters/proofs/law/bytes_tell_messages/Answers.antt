use Rattle.coda_letters.proofs.Calls.{bytes_tell_messages}
use Rattle.coda_letters.proofs.law.bytes_tell_messages.Goals as goal

pub returns : goal.returns
returns c = bytes_tell_messages
