use Rattle.std.proofs.Common.{[], ◌∷◌, arith}
use Rattle.coda_journal.specs.Header.{marks}
use Rattle.coda_journal.proofs.Fronts.{closes, new_front}
use Rattle.coda_journal.proofs.laws.new_disks_are_empty.Goals as goal

pub returns : goal.returns
returns c = λ header ok. closes header [] (1 ∷ 0 ∷ marks header) 0 [] (new_front header ok.smallest) (omega arith)
