use Rattle.coda_histories.proofs.Entries.{replacing_nothing as law}
use Rattle.coda_histories.proofs.only_replacing_asks_directories.Goals as goal

pub returns : goal.returns
returns c = law
