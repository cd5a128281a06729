use Rattle.coda_journal.proofs.Images.{found_once}
use Rattle.coda_journal.proofs.laws.each_image_is_found_once.Goals as goal

pub returns : goal.returns
returns c = λ header image ok bytes. found_once header image ok bytes
