use Rattle.coda_record.specs.Hoard.{path, hoard_entry, hoard_change}
use Rattle.coda_record.proofs.HoardAgree.{path_agrees, hoard_entry_agrees, hoard_change_agrees}
use Rattle.coda_values.proofs.Offsets.{agreeing_is_exact}
use Rattle.coda_record.proofs.law.hoards_are_exact.Goals as goal

pub returns-clause-path : goal.returns-clause-path
returns-clause-path c = λ size. agreeing_is_exact (path size) (path_agrees size)

pub returns-clause-single : goal.returns-clause-single
returns-clause-single c = λ size. agreeing_is_exact (hoard_entry size) (hoard_entry_agrees size)

pub returns-clause-change : goal.returns-clause-change
returns-clause-change c = λ size. agreeing_is_exact (hoard_change size) (hoard_change_agrees size)
