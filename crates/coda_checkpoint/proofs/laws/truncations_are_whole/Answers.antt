use Rattle.coda_checkpoint.proofs.Doubts.{not_foreign, found_either}
use Rattle.coda_checkpoint.proofs.laws.truncations_are_whole.Goals as goal

pub returns : goal.returns
returns c = λ header image payloads found snapshot ok is.
    (not_foreign header image payloads snapshot ok is, found_either header image payloads snapshot ok is found)
