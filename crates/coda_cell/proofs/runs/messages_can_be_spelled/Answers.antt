use Rattle.coda_cell.proofs.SpelledLines.{messages_can_be_spelled}
use Rattle.coda_cell.proofs.runs.messages_can_be_spelled.Goals as goal

pub returns : goal.returns
returns c = messages_can_be_spelled
