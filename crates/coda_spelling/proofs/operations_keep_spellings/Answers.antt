use Rattle.coda_spelling.proofs.SpelledNodes.{fresh_spelled, after_operation, after_fetch}
use Rattle.coda_spelling.proofs.SpelledVerdicts.{fresh_room}
use Rattle.coda_spelling.proofs.operations_keep_spellings.Goals as goal

pub returns : goal.returns
returns c = record {
  fresh_volume = λ volume. record { nodes = fresh_spelled volume; room = fresh_room volume };
  operation = after_operation;
  fetched = after_fetch;
}
