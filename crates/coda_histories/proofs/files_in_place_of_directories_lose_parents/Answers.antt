use Rattle.coda_histories.proofs.FetchedAsFiles.{orphaned as law}
use Rattle.coda_histories.proofs.files_in_place_of_directories_lose_parents.Goals as goal

pub returns : goal.returns
returns c = law
