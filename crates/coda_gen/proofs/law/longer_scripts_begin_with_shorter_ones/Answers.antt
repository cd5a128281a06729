use Rattle.coda_gen.proofs.Lines.{longer_scripts}
use Rattle.coda_gen.proofs.law.longer_scripts_begin_with_shorter_ones.Goals as goal

pub returns : goal.returns
returns c = longer_scripts
