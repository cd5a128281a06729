use Rattle.coda_spelling.proofs.SpelledNodes.{left_spelled}
use Rattle.coda_spelling.proofs.SpelledVerdicts.{room_left, verdict_spelled}
use Rattle.coda_spelling.proofs.replays_keep_spellings.Goals as goal

pub returns : goal.returns
returns c = record {
  nodes = λ m client recs are number is. record { nodes = left_spelled m client recs are.nodes number is; room = room_left m client recs are.room };
  verdict = λ m client recs are number is. verdict_spelled m client recs are.nodes are.room number is;
}
