use Rattle.coda_engine.proofs.OneRun.{clean_scripts_run}
use Rattle.coda_main.proofs.Telling.{lines_tell}
use Rattle.coda_main.proofs.laws.good_lines_run_over_any_bay.Goals as goal

pub returns : goal.returns
returns c = clean_scripts_run lines_tell tt tt tt
